-- The plans that note nothing and store nothing of their node keep a state sound: a message is kept back or dropped, an
-- ask is answered, a node joins a rollback, votes are counted and cast, verdicts are written, a node is released.
-- Cited by StepSound.
use Rattle.std.proofs.Common.{◌≡◌, ℕ, Bool, true, false, List, [], ◌∷◌, ◌++◌, length, Option, Some, None, inl, inr, refl, sym, ◌∙◌, subst}
use Rattle.std.specs.Prelude.{IsTrue}
use Rattle.std.proofs.lemmas.List.Elements.{Contains-push_cases}
use Rattle.kt_tuple.specs.declared.node.NodeId.{NodeId}
use Rattle.kt_history.specs.declared.note.Note.{Note}
use Rattle.kt_history.specs.Closed.{acts_in_log}
use Rattle.kt_ckpt.specs.declared.header.CkptHeader.{CkptHeader}
use Rattle.kt_store.specs.declared.rows.Verdict.{Verdict}
use Rattle.kt_store.specs.declared.rows.Verdict.TheVariants as verdicts
use Rattle.kt_store.specs.Content.{row_of, verdict_of}
use Rattle.kt_vote.specs.declared.asker.Asker.{Asker}
use Rattle.kt_vote.specs.declared.vote.Vote.{Vote}
use Rattle.kt_vote.specs.Poll.{Poll, counted}
use Rattle.kt_state.specs.declared.message.Ask.{Ask}
use Rattle.kt_state.specs.declared.message.AppMessage.{AppMessage}
use Rattle.kt_state.specs.declared.message.Message.{Message}
use Rattle.kt_state.specs.declared.message.Message.TheVariants as messages
use Rattle.kt_state.specs.declared.live.Phase.{Phase}
use Rattle.kt_state.specs.declared.live.Phase.TheVariants as phases
use Rattle.kt_state.specs.declared.change.Change.TheVariants as changes
use Rattle.kt_state.specs.declared.plan.Write.TheVariants as writes
use Rattle.kt_state.specs.Node.{Live}
use Rattle.kt_state.specs.Updating.{no_update}
use Rattle.kt_state.specs.Stored.{is_undecided, sent_in}
use Rattle.kt_node.specs.AppMessages.{keep_plan}
use Rattle.kt_state.specs.Voting.{casting, poll_after, voted, vote_for}
use Rattle.kt_node.specs.Joining.{asker_of, join_rollback_plan, roller}
use Rattle.kt_node.specs.Learning.{release_plan}
use Rattle.kt_node.specs.Arrivals.{answer_plan, sieved_answer_plan, voting_plan}
use Rattle.kt_node.specs.Deciding.{decide_plan, no_plan, declined_plan}
use Rattle.kt_scenario.specs.declared.step.Step.TheVariants.{Decide}
use Rattle.kt_model.specs.State.{State, view}
use Rattle.kt_model.specs.StoreReads.{verdict_for}
use Rattle.kt_model.proofs.Plans.{IsAlive, Comes, Votes, holds, rolls}
use Rattle.kt_model.specs.Cut.{acts_held}
use Rattle.kt_model.proofs.Sound.{SaysSo, KeepsSo, EndsRolling, IsSound, SendWell}
use Rattle.kt_model.proofs.Noes.{SaysNoYes}
use Rattle.kt_model.proofs.Applying.{Keeps}
use Rattle.kt_model.proofs.ActLeaves.{alive_keeps, comes_so}
use Rattle.kt_model.proofs.Updates.{EndsThen, verdicts_well, votes_well, roll_asks_well, sieved_so, alive_was, quiet_keeps, deciding_keeps, refusing_keeps}
use Rattle.kt_model.proofs.Leaves.{ballot_in, of_ballot}

-- ---- ballots

pub parent_after : (b : Poll) (own : Option (NodeId × Vote)) → (poll_after b own).parent ≡ b.parent
parent_after b None = refl
parent_after b (Some vote) = refl

-- a ballot that keeps its parent ends as it did
ends_on : (long permanent : ℕ) (ph : Phase) (b new : Poll) (phase : Poll → Phase) → Votes ph b phase → new.parent ≡ b.parent → EndsRolling long permanent ph
    → EndsRolling long permanent (phase new)
ends_on long permanent ph b new phase holds same ends = tt
ends_on long permanent ph b new phase rolls same ends = λ none. ends (sym same ∙ none)

ballot_ends : (s : State) → IsSound s → (p : NodeId) (n : Live) (b new : Poll) (phase : Poll → Phase) → IsAlive s p n → Votes n.phase b phase
    → new.parent ≡ b.parent
    → EndsThen s p None (phase new)
ballot_ends s sound p n b new phase alive votes_so same =
    ends_on (length (acts_in_log s.history p)) (acts_held (row_of s.content p).permanent) n.phase b new phase votes_so same (alive_was s sound p n alive).ends

-- who has a parent began nothing
joined_ends : (s : State) (p : NodeId) (b : Poll) (parent : Asker) → b.parent ≡ Some parent → EndsThen s p None (phases.Rolling b)
joined_ends s p b parent is none = absurd (cc (is, none))

-- ---- underlying messages that are not heard

appended_so : (shards : ℕ) (h : List Note) (p from : NodeId) (app : AppMessage) (kept : List (NodeId × AppMessage)) → KeepsSo shards h p kept
    → SaysSo shards h from p app.talk app.by
    → KeepsSo shards h p (kept ++ (from, app) ∷ [])
appended_so shards h p from app kept so says x c = elim (Contains-push_cases kept (from, app) x c) [
  | inl old ↦ so x old
  | inr same ↦ subst (λ (y : NodeId × AppMessage). SaysSo shards h y.0 p y.1.talk y.1.by) same says
]

pub puts_by : (s : State) → IsSound s → (p q : NodeId) (n : Live) (app : AppMessage) → Comes s p q (messages.App app) → IsAlive s q n
    → Keeps s q (keep_plan p app)
puts_by s sound p q n app comes alive =
    quiet_keeps s q n _ _ sound alive refl
    (appended_so s.scene.shards s.history q p app n.kept (alive_keeps s sound q n alive) (comes_so s sound p q (messages.App app) comes)) tt
    (alive_was s sound q n alive).ends

-- ---- asks

pub answers_check : (s : State) → IsSound s → (p q : NodeId) (n : Live) (ask : Ask) (agreed : Bool) → IsAlive s q n → Keeps s q (answer_plan p ask agreed)
answers_check s sound p q n ask agreed alive =
    quiet_keeps s q n _ _ sound alive refl (alive_keeps s sound q n alive)
    (votes_well s.scene.shards s.history q (Some (vote_for ask.instance (asker_of p ask) agreed))) (alive_was s sound q n alive).ends

pub answers_rollback : (s : State) → IsSound s → (p q : NodeId) (n : Live) (ask : Ask) (agreed : Bool) → IsAlive s q n
    → Keeps s q (sieved_answer_plan p ask agreed)
answers_rollback s sound p q n ask agreed alive =
    quiet_keeps s q n _ _ sound alive refl (sieved_so s.scene.shards s.history q p ask.label n.kept (alive_keeps s sound q n alive))
    (votes_well s.scene.shards s.history q (Some (vote_for ask.instance (asker_of p ask) agreed))) (alive_was s sound q n alive).ends

pub joins_rollback : (s : State) → IsSound s → (p q : NodeId) (n : Live) (ask : Ask) (permanent : Option CkptHeader) → IsAlive s q n
    → Keeps s q (join_rollback_plan (view s q) n p ask permanent)
joins_rollback s sound p q n ask permanent alive =
    let b : Poll = roller (view s q).role n p ask in
    quiet_keeps s q n _ _ sound alive refl (sieved_so s.scene.shards s.history q p ask.label n.kept (alive_keeps s sound q n alive))
    (roll_asks_well s.scene.shards s.history q b.instance n.incarnation (sent_in permanent) b.asked (casting b))
    (joined_ends s q (poll_after b (casting b)) (asker_of p ask) (parent_after b (casting b)))

-- ---- votes

pub counts_vote : (s : State) → IsSound s → (p q : NodeId) (n : Live) (agreed : Bool) (b : Poll) (phase : Poll → Phase) → IsAlive s q n → Votes n.phase b phase
    → Keeps s q (voting_plan (phase (poll_after (counted b p agreed) (casting (counted b p agreed)))) (casting (counted b p agreed)))
counts_vote s sound p q n agreed b phase alive votes_so =
    quiet_keeps s q n _ _ sound alive refl (alive_keeps s sound q n alive) (votes_well s.scene.shards s.history q (casting (counted b p agreed)))
    (ballot_ends s sound q n b (poll_after (counted b p agreed) (casting (counted b p agreed))) phase alive votes_so
    (parent_after (counted b p agreed) (casting (counted b p agreed))))

pub declines : (s : State) → IsSound s → (p : NodeId) (n : Live) (b : Poll) (phase : Poll → Phase) (parent : Asker) → IsAlive s p n → Votes n.phase b phase
    → Keeps s p (declined_plan (phase (voted b)) b.instance parent)
declines s sound p n b phase parent alive votes_so =
    quiet_keeps s p n _ _ sound alive refl (alive_keeps s sound p n alive) (votes_well s.scene.shards s.history p (Some (vote_for b.instance parent false)))
    (ballot_ends s sound p n b (voted b) phase alive votes_so refl)

-- ---- verdicts

pub goes_on : (s : State) → IsSound s → (p : NodeId) (n : Live) (send : List (NodeId × Message)) → IsAlive s p n → SendWell s.scene.shards s.history p send
    → Keeps s p (release_plan send)
goes_on s sound p n send alive well = quiet_keeps s p n _ send sound alive refl (alive_keeps s sound p n alive) well tt

pub undecided_not_no : (o : Option Verdict) → IsTrue (is_undecided o) → ¬ (o ≡ Some verdicts.No)
undecided_not_no None e is = cc (is)
undecided_not_no (Some verdicts.Open) e is = cc (is)
undecided_not_no (Some verdicts.Yes) e is = cc (e)
undecided_not_no (Some verdicts.No) e is = cc (e)

-- the verdict is no second one
says_anew : (s : State) (instance : ℕ) (agreed : Bool) → ¬ (verdict_of s.content instance ≡ Some verdicts.No)
    → SaysNoYes s.content (Some (writes.Decide instance agreed))
says_anew s instance true fine = fine
says_anew s instance false fine = tt

decides_as : (s : State) → IsSound s → (p : NodeId) (n : Live) (ph : Phase) (b : Poll) (phase : Poll → Phase) (agreed : Bool) → IsAlive s p n → n.phase ≡ ph
    → Votes ph b phase
    → ¬ (verdict_of s.content b.instance ≡ Some verdicts.No) → Keeps s p (decide_plan ph b agreed)
decides_as s sound p n ph b phase agreed alive is holds fine =
    deciding_keeps s p n no_update _ b.instance agreed sound alive refl (alive_keeps s sound p n alive)
    (verdicts_well s.scene.shards s.history p b.instance agreed b.asked)
    (says_anew s b.instance agreed fine) (alive_was s sound p n alive).ends
decides_as s sound p n ph b phase true alive is rolls fine =
    deciding_keeps s p n _ _ b.instance true sound alive refl (alive_keeps s sound p n alive)
    (verdicts_well s.scene.shards s.history p b.instance true b.asked) fine tt
decides_as s sound p n ph b phase false alive is rolls fine =
    deciding_keeps s p n no_update _ b.instance false sound alive refl (alive_keeps s sound p n alive)
    (verdicts_well s.scene.shards s.history p b.instance false b.asked) tt
    (alive_was s sound p n alive).ends

pub decides : (s : State) → IsSound s → (p : NodeId) (n : Live) (b : Poll) (phase : Poll → Phase) (agreed : Bool) → IsAlive s p n → Votes n.phase b phase
    → IsTrue (is_undecided (verdict_for s (Decide p))) → Keeps s p (decide_plan n.phase b agreed)
decides s sound p n b phase agreed alive votes_so undecided =
    decides_as s sound p n n.phase b phase agreed alive refl votes_so
    (λ e. undecided_not_no (verdict_for s (Decide p)) undecided (of_ballot s p n b alive (ballot_in n.phase b phase votes_so) ∙ e))

pub gives_up : (s : State) → IsSound s → (p : NodeId) (n : Live) (b : Poll) → IsAlive s p n → Keeps s p (no_plan (changes.Update no_update) b.instance b.asked)
gives_up s sound p n b alive =
    deciding_keeps s p n no_update _ b.instance false sound alive refl (alive_keeps s sound p n alive)
    (verdicts_well s.scene.shards s.history p b.instance false b.asked) tt
    (alive_was s sound p n alive).ends

pub gives_up_down : (s : State) → IsSound s → (p : NodeId) (instance : ℕ) → Keeps s p (no_plan changes.Stay instance [])
gives_up_down s sound p instance = refusing_keeps s p [] instance sound tt
