-- What a control message or a step of a check or a rollback makes of a node can be carried out, and leaves the state
-- ready.
-- Cited by CanApplies.
use Rattle.std.proofs.Common.{◌≡◌, ℕ, ◌+◌, ◌≤◌, Bool, true, false, List, length, Option, None, Some, Ok, ◌++◌, sym, subst}
use Rattle.std.specs.Prelude.{IfSome, IsTrue}
use Rattle.std.specs.List.{AllByRecursion}
use Rattle.kt_tuple.specs.declared.node.NodeId.{NodeId}
use Rattle.kt_history.specs.declared.note.Note.{Note}
use Rattle.kt_history.specs.Log.{log}
use Rattle.kt_history.specs.WellFormed.{MayFollow}
use Rattle.kt_history.specs.Chronicle.{node_of}
use Rattle.kt_ckpt.specs.declared.header.CkptHeader.{CkptHeader}
use Rattle.kt_store.specs.declared.rows.Verdict.{Verdict}
use Rattle.kt_store.specs.declared.rows.Verdict.TheVariants as verdicts
use Rattle.kt_vote.specs.declared.asker.Asker.{Asker}
use Rattle.kt_vote.specs.Poll.{Poll, asking_poll, counted}
use Rattle.kt_state.specs.declared.message.Ask.{Ask}
use Rattle.kt_state.specs.declared.message.Message.{Message}
use Rattle.kt_state.specs.declared.live.Phase.{Phase}
use Rattle.kt_state.specs.declared.live.Phase.TheVariants as phases
use Rattle.kt_state.specs.declared.change.KeptChange.TheVariants as keeps
use Rattle.kt_state.specs.declared.change.KeptChange.{KeptChange}
use Rattle.kt_state.specs.declared.change.Change.TheVariants as changes
use Rattle.kt_state.specs.declared.plan.Write.{Write}
use Rattle.kt_state.specs.declared.stored.Stored.{Stored}
use Rattle.kt_state.specs.Node.{Role, Live, neighbours}
use Rattle.kt_state.specs.Labels.{label_at}
use Rattle.kt_model.specs.Effect.{noted}
use Rattle.kt_state.specs.Updating.{no_update}
use Rattle.kt_state.specs.Stored.{acts_in, fits, sent_in}
use Rattle.kt_state.specs.Voting.{casting, poll_after, voted, votes}
use Rattle.kt_state.specs.Asking.{check_asks, roll_asks}
use Rattle.kt_node.specs.Joining.{asker_of, cohort, held_plan, begin_check_plan, join_check_plan, roller, join_rollback_plan}
use Rattle.kt_node.specs.Loading.{load}
use Rattle.kt_state.specs.Loading.{header_in}
use Rattle.kt_node.specs.Learning.{verdict_to, cut_of, held_learns, restoring_plan, release_plan, promote_down_plan, discard_down_plan}
use Rattle.kt_node.specs.Arrivals.{answer_plan, sieved_answer_plan, voting_plan}
use Rattle.kt_node.specs.Deciding.{decide_plan, no_plan, declined_plan}
use Rattle.kt_node.specs.Failing.{log_left, fail_plan, restarting_plan}
use Rattle.kt_node.proofs.Shared.{can-stay}
use Rattle.kt_scenario.specs.Scene.{is_node}
use Rattle.kt_model.specs.State.{State, role_of, view}
use Rattle.kt_model.specs.auxiliary.Ready.{AreNeighbours, IsPollReady, IsPhaseReady, IsReady}
use Rattle.kt_model.proofs.Plans.{IsAlive, Votes}
use Rattle.kt_model.proofs.Scene.{role-id}
use Rattle.kt_logs.proofs.Shared.{all-append}
use Rattle.kt_model.proofs.Lists.{all-through}
use Rattle.kt_model.proofs.Growing.{live-grown, message-noted}
use Rattle.kt_model.proofs.Loads.{acts-fit, load-fits, load-ready}
use Rattle.kt_model.proofs.Good.{IsGood, IsKeeping, live-ready, update-good, stay-good, fall-good, load-good}
use Rattle.kt_model.proofs.Leaves.{GoesNear, SaysReady, stay-body, after-poll, poll-ready, phase-ready}
use Rattle.kt_model.proofs.Leaves.{neighbour-in, cohort-in, casting-near, casting-says, checks-near, checks-say}
use Rattle.kt_model.proofs.Leaves.{rolls-near, rolls-say, verdicts-near, verdicts-say}

-- a live node turns its phase or what it keeps alone
pub phase-good : (s : State) → IsReady s
    → (p : NodeId) (n : Live) (kept : KeptChange) (phase : Option Phase) (promoted : Bool) (send : List (NodeId × Message)) (write : Option Write)
    → IsTrue (is_node s.scene p) → IsAlive s p n → IsKeeping s.scene s.history p kept → IfSome phase (IsPhaseReady s.scene p)
    → AllByRecursion (GoesNear s.scene p) send → AllByRecursion (SaysReady s.history) send
    → IsGood s p (record {
      change = changes.Update record no_update { kept = kept; phase = phase; promoted = promoted };
      send = send;
      note = None;
      write = write;
    })
phase-good s ready p n kept phase promoted send write there at keeping is near says =
    update-good s ready p n _ send None write there at
    (record {
      can = record { body = can-stay n.body; heard = tt; said = tt };
      body = stay-body (role_of s.scene p).script s.history None p n.body (live-ready s ready p n at).body;
      kept = keeping;
      phase = is;
    })
    near says tt tt

-- ---- asks

pub answer-good : (s : State) → IsReady s → (p from : NodeId) (n : Live) (ask : Ask) (agreed : Bool) → IsTrue (is_node s.scene p) → IsAlive s p n
    → AreNeighbours s.scene p from
    → IsGood s p (answer_plan from ask agreed)
answer-good s ready p from n ask agreed there at near = phase-good s ready p n keeps.Stay None false _ None there at tt tt (near, tt) (tt, tt)

pub sieved-good : (s : State) → IsReady s → (p from : NodeId) (n : Live) (ask : Ask) (agreed : Bool) → IsTrue (is_node s.scene p) → IsAlive s p n
    → AreNeighbours s.scene p from
    → IsGood s p (sieved_answer_plan from ask agreed)
sieved-good s ready p from n ask agreed there at near = phase-good s ready p n (keeps.Sieve from ask.label) None false _ None there at tt tt (near, tt) (tt, tt)

held-good : (s : State) → IsReady s → (p : NodeId) (n : Live) (b : Poll) (write : Write) → IsTrue (is_node s.scene p) → IsAlive s p n → IsPollReady s.scene p b
    → IsGood s p (held_plan n b write)
held-good s ready p n b write there at is =
    phase-good s ready p n keeps.Stay (Some (phases.Held (poll_after b (casting b)))) false (check_asks b.instance n b.asked ++ votes (casting b))
    (Some write) there at tt
    (after-poll s.scene p b (casting b) is)
    (all-append (GoesNear s.scene p) (check_asks b.instance n b.asked) (votes (casting b)) (checks-near s.scene p b.instance n b.asked is.asked)
    (casting-near s.scene p b is))
    (all-append (SaysReady s.history) (check_asks b.instance n b.asked) (votes (casting b)) (checks-say s.history b.instance n b.asked)
    (casting-says s.history b))

pub begin_check-good : (s : State) → IsReady s → (p : NodeId) (n : Live) (next : ℕ) (permanent : Option CkptHeader) → IsTrue (is_node s.scene p) → IsAlive s p n
    → IsGood s p (begin_check_plan (view s p) n next permanent)
begin_check-good s ready p n next permanent there at =
    held-good s ready p n (asking_poll next n.incarnation None (cohort (role_of s.scene p) permanent n)) _ there at
    (record { parent = tt; asked = cohort-in s.scene p permanent n there })

pub join_check-good : (s : State) → IsReady s → (p from : NodeId) (n : Live) (ask : Ask) (permanent : Option CkptHeader) → IsTrue (is_node s.scene p)
    → IsAlive s p n
    → AreNeighbours s.scene p from → IsGood s p (join_check_plan (view s p) n from ask permanent)
join_check-good s ready p from n ask permanent there at near =
    held-good s ready p n (asking_poll ask.instance n.incarnation (Some (asker_of from ask)) (cohort (role_of s.scene p) permanent n)) _ there at
    (record { parent = near; asked = cohort-in s.scene p permanent n there })

pub join_rollback-good : (s : State) → IsReady s → (p from : NodeId) (n : Live) (ask : Ask) (permanent : Option CkptHeader) → IsTrue (is_node s.scene p)
    → IsAlive s p n
    → AreNeighbours s.scene p from → IsGood s p (join_rollback_plan (view s p) n from ask permanent)
join_rollback-good s ready p from n ask permanent there at near =
    let b = roller (role_of s.scene p) n from ask in
    let is : IsPollReady s.scene p b = record { parent = near; asked = neighbour-in s.scene p there } in
    phase-good s ready p n (keeps.Sieve from ask.label) (Some (phases.Rolling (poll_after b (casting b)))) false _ None there at tt
    (after-poll s.scene p b (casting b) is)
    (all-append (GoesNear s.scene p) (roll_asks b.instance n.incarnation (sent_in permanent) b.asked) (votes (casting b))
    (rolls-near s.scene p b.instance n.incarnation (sent_in permanent) b.asked is.asked) (casting-near s.scene p b is))
    (all-append (SaysReady s.history) (roll_asks b.instance n.incarnation (sent_in permanent) b.asked) (votes (casting b))
    (rolls-say s.history b.instance n.incarnation (sent_in permanent) b.asked) (casting-says s.history b))

-- ---- votes

pub vote-good : (s : State) → IsReady s → (p from : NodeId) (n : Live) (b : Poll) (phase : Poll → Phase) (yes : Bool) → IsTrue (is_node s.scene p)
    → IsAlive s p n
    → Votes n.phase b phase → IsGood s p (voting_plan (phase (poll_after (counted b from yes) (casting (counted b from yes)))) (casting (counted b from yes)))
vote-good s ready p from n b phase agrees there at voting =
    let was = poll-ready s ready p n b phase at voting in
    let c = counted b from agrees in
    let is : IsPollReady s.scene p c = record { parent = was.parent; asked = was.asked } in
    phase-good s ready p n keeps.Stay (Some (phase (poll_after c (casting c)))) false (votes (casting c)) None there at tt
    (phase-ready s.scene p n.phase b (poll_after c (casting c)) phase voting (after-poll s.scene p c (casting c) is))
    (casting-near s.scene p c is) (casting-says s.history c)

pub decline-good : (s : State) → IsReady s → (p : NodeId) (n : Live) (b : Poll) (phase : Poll → Phase) (parent : Asker) → IsTrue (is_node s.scene p)
    → IsAlive s p n
    → Votes n.phase b phase → b.parent ≡ Some parent → IsGood s p (declined_plan (phase (voted b)) b.instance parent)
decline-good s ready p n b phase parent there at voting asked =
    let was = poll-ready s ready p n b phase at voting in
    let near : AreNeighbours s.scene p parent.node = subst (λ (o : Option Asker). IfSome o (λ a. AreNeighbours s.scene p a.node)) asked was.parent in
    phase-good s ready p n keeps.Stay (Some (phase (voted b))) false _ None there at tt
    (phase-ready s.scene p n.phase b (voted b) phase voting (record { parent = was.parent; asked = was.asked }))
    (near, tt) (tt, tt)

-- ---- verdicts

pub decide-good : (s : State) → IsReady s → (p : NodeId) (n : Live) (b : Poll) (phase : Poll → Phase) (agreed : Bool) → IsTrue (is_node s.scene p)
    → IsAlive s p n
    → Votes n.phase b phase → IsGood s p (decide_plan n.phase b agreed)
decide-good s ready p n b phase agreed there at voting = by n.phase agreed
  where
    near : (agreed : Bool) → AllByRecursion (GoesNear s.scene p) (verdict_to b.instance agreed b.asked)
    near agreed = verdicts-near s.scene p b.instance agreed b.asked (poll-ready s ready p n b phase at voting).asked

    by : (x : Phase) (agreed : Bool) → IsGood s p (decide_plan x b agreed)
    by (phases.Rolling c) true =
        phase-good s ready p n keeps.Stay (Some phases.Up) false _ _ there at tt tt (near true) (verdicts-say s.history b.instance true b.asked)
    by (phases.Rolling c) false = phase-good s ready p n keeps.Stay None false _ _ there at tt tt (near false) (verdicts-say s.history b.instance false b.asked)
    by (phases.Held c) agreed = phase-good s ready p n keeps.Stay None false _ _ there at tt tt (near agreed) (verdicts-say s.history b.instance agreed b.asked)
    by phases.Up agreed = phase-good s ready p n keeps.Stay None false _ _ there at tt tt (near agreed) (verdicts-say s.history b.instance agreed b.asked)

pub give_up-good : (s : State) → IsReady s → (p : NodeId) (n : Live) (b : Poll) (phase : Poll → Phase) → IsTrue (is_node s.scene p) → IsAlive s p n
    → Votes n.phase b phase → IsGood s p (no_plan (changes.Update no_update) b.instance b.asked)
give_up-good s ready p n b phase there at voting =
    phase-good s ready p n keeps.Stay None false _ _ there at tt tt
    (verdicts-near s.scene p b.instance false b.asked (poll-ready s ready p n b phase at voting).asked) (verdicts-say s.history b.instance false b.asked)

pub held_learns-good : (s : State) → IsReady s → (p : NodeId) (n : Live) (agreed : Bool) (send : List (NodeId × Message))
    → IsTrue (is_node s.scene p) → IsAlive s p n
    → AllByRecursion (GoesNear s.scene p) send → AllByRecursion (SaysReady s.history) send → IsGood s p (held_learns agreed send)
held_learns-good s ready p n true send there at near says = phase-good s ready p n keeps.Stay (Some phases.Up) true send _ there at tt tt near says
held_learns-good s ready p n false send there at near says = phase-good s ready p n keeps.Stay (Some phases.Up) false send _ there at tt tt near says

pub release-good : (s : State) → IsReady s → (p : NodeId) (n : Live) (send : List (NodeId × Message)) → IsTrue (is_node s.scene p) → IsAlive s p n
    → AllByRecursion (GoesNear s.scene p) send → AllByRecursion (SaysReady s.history) send → IsGood s p (release_plan send)
release-good s ready p n send there at near says = phase-good s ready p n keeps.Stay (Some phases.Up) false send None there at tt tt near says

-- ---- cuts

-- a cut that leaves no more than the log has
cut-own : (s : State) (p : NodeId) (keep : ℕ) → IfSome (cut_of (role_of s.scene p).id keep) (λ x. node_of x ≡ p)
cut-own s p keep = role-id s.scene p

cut-may : (s : State) (p : NodeId) (keep : ℕ) → keep ≤ length (log s.history p) → IfSome (cut_of (role_of s.scene p).id keep) (MayFollow s.history)
cut-may s p keep le = subst (λ (q : NodeId). keep ≤ length (log s.history q)) (sym (role-id s.scene p)) le

says-later : (h : List Note) (send : List (NodeId × Message)) (note : Option Note) → AllByRecursion (SaysReady h) send
    → AllByRecursion (SaysReady (noted h note)) send
says-later h send note says = all-through (SaysReady h) (SaysReady (noted h note)) send (λ m is. message-noted h note m.1 is) says

pub restore-good : (s : State) → IsReady s → (p : NodeId) (stored : Stored) (live : Live) (send : List (NodeId × Message)) → IsTrue (is_node s.scene p)
    → load (view s p) stored ≡ Ok live → AllByRecursion (GoesNear s.scene p) send → AllByRecursion (SaysReady s.history) send
    → IsGood s p (restoring_plan (view s p) stored send live)
restore-good s ready p stored live send there e near says =
    let keep = acts_in (header_in stored) in
    let note = cut_of (role_of s.scene p).id keep in
    load-good s p live send note _ there
    (live-grown s.scene s.history note s.made p live (load-ready s ready p stored live e))
    near (says-later s.history send note says)
    (cut-may s p keep (acts-fit (role_of s.scene p) (view s p).line_len (header_in stored) (load-fits s p stored live e))) (cut-own s p keep)

pub restart-good : (s : State) → IsReady s → (p : NodeId) (stored : Stored) (next : ℕ) (live : Live) → IsTrue (is_node s.scene p)
    → load (view s p) stored ≡ Ok live
    → IsGood s p (restarting_plan (view s p) stored next live)
restart-good s ready p stored next live there e =
    let was = live-grown s.scene s.history None s.made p live (load-ready s ready p stored live e) in
    let asked = neighbours (role_of s.scene p) in
    load-good s p _ _ None _ there
    (record { body = was.body; count = was.count; phase = record { parent = tt; asked = neighbour-in s.scene p there }; kept = was.kept })
    (rolls-near s.scene p next (stored.incarnation + 1) (label_at live.sent) asked (neighbour-in s.scene p there))
    (rolls-say s.history next (stored.incarnation + 1) (label_at live.sent) asked)
    tt tt

pub promote_down-good : (s : State) → IsReady s → (p : NodeId) → IsTrue (is_node s.scene p) → IsGood s p promote_down_plan
promote_down-good s ready p there = stay-good s ready p None _ there tt tt

pub discard_down-good : (s : State) → IsReady s → (p : NodeId) (stored : Stored) → IsTrue (is_node s.scene p)
    → IsTrue (fits (role_of s.scene p) (view s p).line_len (header_in stored))
    → IsGood s p (discard_down_plan (view s p) stored)
discard_down-good s ready p stored there fit =
    let keep = acts_in (header_in stored) in
    stay-good s ready p (cut_of (role_of s.scene p).id keep) _ there
    (cut-may s p keep (acts-fit (role_of s.scene p) (view s p).line_len (header_in stored) fit)) (cut-own s p keep)

-- what a failure leaves fits
left-fits : (role : Role) (long : ℕ) (verdict : Option Verdict) (permanent tentative : Option CkptHeader) → IsTrue (fits role long permanent)
    → IsTrue (fits role long tentative)
    → log_left verdict permanent tentative ≤ long
left-fits role long verdict permanent None fit other = acts-fit role long permanent fit
left-fits role long None permanent (Some m) fit other = acts-fit role long (Some m) other
left-fits role long (Some verdicts.Open) permanent (Some m) fit other = acts-fit role long (Some m) other
left-fits role long (Some verdicts.Yes) permanent (Some m) fit other = acts-fit role long (Some m) other
left-fits role long (Some verdicts.No) permanent (Some m) fit other = acts-fit role long permanent fit

pub fail-good : (s : State) → IsReady s → (p : NodeId) (verdict : Option Verdict) (permanent tentative : Option CkptHeader) → IsTrue (is_node s.scene p)
    → IsTrue (fits (role_of s.scene p) (view s p).line_len permanent) → IsTrue (fits (role_of s.scene p) (view s p).line_len tentative)
    → IsGood s p (fail_plan (view s p) (log_left verdict permanent tentative))
fail-good s ready p verdict permanent tentative there fit other =
    let keep = log_left verdict permanent tentative in
    fall-good s ready p (cut_of (role_of s.scene p).id keep) None there
    (cut-may s p keep (left-fits (role_of s.scene p) (view s p).line_len verdict permanent tentative fit other)) (cut-own s p keep)
