-- The plans of checks keep a state sound: a node takes its tentative checkpoint, and learns what becomes of it.
-- Cited by FailLeaves, StepSound; other crates.
use Rattle.std.proofs.Common.{◌≡◌, ℕ, Bool, true, false, List, [], Option, Some, None, refl, sym, ap, ◌∙◌, arith}
use Rattle.std.specs.Prelude.{unwrap_or}
use Rattle.kt_tuple.specs.declared.node.NodeId.{NodeId}
use Rattle.kt_history.specs.declared.note.Act.{Act}
use Rattle.kt_history.specs.Closed.{acts_in_log}
use Rattle.kt_ckpt.specs.declared.ckpt.Ckpt.{Ckpt}
use Rattle.kt_ckpt.specs.declared.header.CkptHeader.{CkptHeader}
use Rattle.kt_store.specs.declared.rows.Tentative.{Tentative}
use Rattle.kt_store.specs.declared.rows.Verdict.{Verdict}
use Rattle.kt_store.specs.Verdict.{verdict_from}
use Rattle.kt_store.specs.Changes.{promoted_from}
use Rattle.kt_store.specs.Content.{row_of, verdict_of, verdict_on}
use Rattle.kt_vote.specs.Poll.{Poll, asking_poll}
use Rattle.kt_state.specs.declared.message.Ask.{Ask}
use Rattle.kt_state.specs.declared.message.Message.{Message}
use Rattle.kt_state.specs.declared.message.Message.TheVariants as messages
use Rattle.kt_state.specs.declared.live.Phase.{Phase}
use Rattle.kt_state.specs.declared.live.Phase.TheVariants as phases
use Rattle.kt_state.specs.declared.plan.Write.TheVariants as writes
use Rattle.kt_state.specs.Node.{Live, Down, Alive, poll_in}
use Rattle.kt_state.specs.Voting.{casting}
use Rattle.kt_node.specs.Joining.{asker_of, cohort, checkpoint_now, begin_check_plan, join_check_plan}
use Rattle.kt_node.specs.Learning.{held_learns}
use Rattle.kt_node.specs.Deciding.{settled}
use Rattle.kt_scenario.specs.declared.step.Step.TheVariants.{Learn}
use Rattle.kt_scenario.specs.Scene.{SceneModel}
use Rattle.kt_model.specs.State.{State, view}
use Rattle.kt_model.specs.StoreReads.{of_poll, to_learn, verdict_for}
use Rattle.kt_model.specs.auxiliary.Backed.{IsTakenIn, IsBacked}
use Rattle.kt_model.proofs.Plans.{IsAlive, Comes}
use Rattle.kt_model.specs.Like.{HoldsFront, IsNotNo}
use Rattle.kt_model.proofs.Sound.{IsStored, IsSound, SendWell}
use Rattle.kt_model.proofs.NoteSound.{log-long}
use Rattle.kt_model.proofs.Applying.{Keeps}
use Rattle.kt_model.proofs.StoredFronts.{front-now}
use Rattle.kt_model.proofs.ActLeaves.{alive_like, alive_keeps}
use Rattle.kt_model.proofs.Updates.{check_asks_well, alive_was, update_keeps}
use Rattle.kt_model.proofs.Backs.{backed-in, comes-boards, settled-is}

-- ---- a tentative checkpoint is taken

-- the checkpoint of this moment holds the whole log
saved_now : (s : State) → IsSound s → (p : NodeId) (n : Live) → IsAlive s p n
    → HoldsFront s.scene p (acts_in_log s.history p) (Some (checkpoint_now (view s p) n))
saved_now s sound p n alive =
    front-now s.scene p (acts_in_log s.history p) (checkpoint_now (view s p) n) n.body (sym (log-long s.history p)) refl (alive_like s sound p n alive)

-- which is stored as the tentative one
taken_stored : (s : State) → IsSound s → (p : NodeId) (n : Live) (instance : ℕ) (verdict : Option Verdict) → IsAlive s p n
    → IsStored s.scene p (acts_in_log s.history p) (row_of s.content p).permanent
    (Some (record { instance = instance; checkpoint = checkpoint_now (view s p) n })) verdict
taken_stored s sound p n instance verdict alive =
    let was = (alive_was s sound p n alive).stored in record {
      permanent = was.permanent;
      tentative = λ fine. record {
        front = saved_now s sound p n alive;
        behind = let long = log-long s.history p in omega (arith, long, was.permanent.short);
      };
    }

pub begins_check : (s : State) → IsSound s → (p : NodeId) (n : Live) (instance : ℕ) (permanent : Option CkptHeader) → IsAlive s p n
    → Keeps s p (begin_check_plan (view s p) n instance permanent)
begins_check s sound p n instance permanent alive =
    let b : Poll = asking_poll instance n.incarnation None (cohort (view s p).role permanent n) in
    update_keeps s p n _ _ (Some (writes.BeginCheck (checkpoint_now (view s p) n))) sound alive refl (alive_keeps s sound p n alive)
    (check_asks_well s.scene.shards s.history p b.instance n b.asked (casting b)) tt (taken_stored s sound p n _ _ alive) tt

pub joins_check : (s : State) → IsSound s → (p q : NodeId) (n : Live) (ask : Ask) (permanent : Option CkptHeader) → IsAlive s q n
    → Keeps s q (join_check_plan (view s q) n p ask permanent)
joins_check s sound p q n ask permanent alive =
    let b : Poll = asking_poll ask.instance n.incarnation (Some (asker_of p ask)) (cohort (view s q).role permanent n) in
    update_keeps s q n _ _ (Some (writes.PutTentative ask.instance (checkpoint_now (view s q) n))) sound alive refl (alive_keeps s sound q n alive)
    (check_asks_well s.scene.shards s.history q b.instance n b.asked (casting b)) tt (taken_stored s sound q n _ _ alive) tt

-- ---- what becomes of it

pub promoted_front : (scene : SceneModel) (p : NodeId) (acts : List Act) (old : Option Ckpt) (taken : Option Tentative) (verdict : Option Verdict)
    → IsStored scene p acts old taken verdict → IsNotNo verdict
    → HoldsFront scene p acts (promoted_from old taken)
promoted_front scene p acts old None verdict stored fine = stored.permanent
promoted_front scene p acts old (Some t) verdict stored fine = (stored.tentative fine).front

learns_as : (s : State) → IsSound s → (p : NodeId) (n : Live) (agreed : Bool) (send : List (NodeId × Message)) → IsAlive s p n
    → verdict_on s.content (row_of s.content p).tentative ≡ Some (verdict_from agreed) → SendWell s.scene.shards s.history p send
    → Keeps s p (held_learns agreed send)
learns_as s sound p n true send alive is well =
    update_keeps s p n _ send (Some writes.Promote) sound alive refl (alive_keeps s sound p n alive) well tt (record {
      permanent =
          promoted_front s.scene p (acts_in_log s.history p) (row_of s.content p).permanent (row_of s.content p).tentative _
          (alive_was s sound p n alive).stored
          (λ e. cc (is, e));
      tentative = λ fine. tt;
    }) tt
learns_as s sound p n false send alive is well =
    update_keeps s p n _ send (Some writes.Discard) sound alive refl (alive_keeps s sound p n alive) well tt
    (record { permanent = (alive_was s sound p n alive).stored.permanent; tentative = λ fine. tt }) tt

-- of a held node the tentative checkpoint is one of its ballot's instance
held_verdict : (s : State) → IsBacked s → (p : NodeId) (n : Live) (b : Poll) → IsAlive s p n → n.phase ≡ phases.Held b
    → verdict_on s.content (row_of s.content p).tentative ≡ verdict_of s.content b.instance
held_verdict s backed p n b alive holds =
    let in_ballot : IsTakenIn b.instance (row_of s.content p).tentative = backed-in s backed p n (phases.Held b) alive holds in
    ap (verdict_on s.content) in_ballot.is_stored ∙ ap (verdict_of s.content) in_ballot.is_of

pub told_when_held : (s : State) → IsBacked s → IsSound s → (p q : NodeId) (n : Live) (b : Poll) (instance : ℕ) (agreed : Bool) (send : List (NodeId × Message))
    → Comes s p q (messages.Verdict instance agreed) → IsAlive s q n → n.phase ≡ phases.Held b → b.instance ≡ instance
    → SendWell s.scene.shards s.history q send
    → Keeps s q (held_learns agreed send)
told_when_held s backed sound p q n b instance agreed send comes alive holds same well =
    learns_as s sound q n agreed send alive
    (held_verdict s backed q n b alive holds ∙ ap (verdict_of s.content) same ∙ comes-boards s backed p q (messages.Verdict instance agreed) comes) well

-- what an alive node can learn is the verdict on its ballot's instance
pub learnt : (s : State) (p : NodeId) (n : Live) → IsAlive s p n → verdict_for s (Learn p) ≡ to_learn s.content p (Alive n)
learnt s p n alive = ap (λ row. to_learn s.content p (unwrap_or row Down)) alive

pub learns_when_held : (s : State) → IsBacked s → IsSound s → (p : NodeId) (n : Live) (b : Poll) (agreed : Bool) → IsAlive s p n → n.phase ≡ phases.Held b
    → settled (verdict_for s (Learn p)) ≡ Some agreed → Keeps s p (held_learns agreed [])
learns_when_held s backed sound p n b agreed alive holds is =
    let board : verdict_for s (Learn p) ≡ verdict_of s.content b.instance =
    learnt s p n alive ∙ ap (λ (phase : Phase). of_poll s.content (poll_in phase)) holds in
    learns_as s sound p n agreed [] alive (held_verdict s backed p n b alive holds ∙ sym board ∙ settled-is (verdict_for s (Learn p)) agreed is) tt
