-- What the policy's rules ask of a node is enough for its step to be planned. A checkpoint that does not fit is the
-- store's fault, and does not make a step one that is not allowed.
-- Cited by Allowed.
use Rattle.std.proofs.Common.{◌≡◌, ℕ, ◌+◌, Bool, true, false, List, [], ◌∷◌, Result, Ok, Err, refl, ap}
use Rattle.std.specs.Prelude.{◌&&◌, Option, None, Some, is_some, if◌then◌else◌, slice_get}
use Rattle.kt_tuple.specs.declared.node.NodeId.{NodeId}
use Rattle.kt_tuple.specs.declared.node.NodeId.TheVariants as ids
use Rattle.kt_ckpt.specs.declared.ckpt.Ckpt.{Ckpt}
use Rattle.kt_ckpt.specs.declared.header.CkptHeader.{CkptHeader}
use Rattle.kt_ckpt.specs.declared.state.State.{State as Stored}
use Rattle.kt_ckpt.specs.declared.state.State.TheVariants as states
use Rattle.kt_store.specs.declared.rows.Verdict.{Verdict}
use Rattle.kt_store.specs.declared.rows.Verdict.TheVariants as verdicts
use Rattle.kt_store.specs.Content.{Content, verdict_of}
use Rattle.kt_vote.specs.declared.asker.Asker.{Asker}
use Rattle.kt_vote.specs.Poll.{Poll}
use Rattle.kt_state.specs.declared.plan.Plan.{Plan}
use Rattle.kt_state.specs.declared.refusal.Refusal.{Refusal}
use Rattle.kt_state.specs.declared.refusal.Refusal.TheVariants as reasons
use Rattle.kt_state.specs.declared.live.Phase.{Phase}
use Rattle.kt_state.specs.declared.live.Phase.TheVariants as phases
use Rattle.kt_state.specs.declared.stored.Stored.{Stored as Saved}
use Rattle.kt_state.specs.Node.{Body, Live, Node, Down, Alive, Role, mode_in, mode_of, poll_in, poll_of}
use Rattle.kt_state.specs.Plan.{Planned, empty_plan}
use Rattle.kt_state.specs.declared.message.Message.{Message}
use Rattle.kt_state.specs.declared.message.Message.TheVariants as messages
use Rattle.kt_node.specs.declared.reaction.Reaction.{Reaction}
use Rattle.kt_node.specs.declared.reaction.Reaction.TheVariants as reactions
use Rattle.kt_node.specs.Loading.{load}
use Rattle.kt_state.specs.Loading.{loaded_by, header_in}
use Rattle.kt_state.specs.Stored.{fits}
use Rattle.kt_node.specs.Learning.{restored, rolling_learns, verdict_to}
use Rattle.kt_node.specs.Arrivals.{check_fitting, check_plan, check_reaction, is_in, rollback_plan, rollback_reaction, unless_down}
use Rattle.kt_node.specs.Arrivals.{verdict_by_parent, verdict_in, vote_in}
use Rattle.kt_node.specs.Deciding.{check_in, check_of}
use Rattle.kt_node.specs.Failing.{fail_of, restart_after, restart_by, restart_in, restart_of, restarted}
use Rattle.kt_state.specs.State.{body_at, body_from, if_fits}
use Rattle.kt_node.specs.View.{View}
use Rattle.kt_state.specs.declared.node.Mode.TheVariants as modes
use Rattle.kt_model.specs.declared.store_reads.StoreReads.{StoreReads}
use Rattle.kt_model.specs.StepPlan.{delivery, hear, is_planned, of_owner, of_scene}
use Rattle.kt_model.specs.StoreReads.{of_poll}
use Rattle.kt_stage.specs.Policy.{is_begun_no, is_mode, is_no, node_got_no, rolls_after_no}

pub in-scene : (there : Bool) (r : Planned) → there ≡ true → is_planned (of_owner r) ≡ true → is_planned (of_scene there r) ≡ true
in-scene true r there e = e
in-scene false r there e = absurd cc

fits-or : (b : Bool) (plan : Plan) → is_planned (of_owner (if b then Ok plan else Err reasons.Damaged)) ≡ true
fits-or true plan = refl
fits-or false plan = refl

-- a loading is made, or the checkpoint does not fit
abbrev Fine : {X : Type 0} → Result X Refusal → Type 0
Fine (Ok x) = Unit {0}
Fine (Err refusal) = refusal ≡ reasons.Damaged

fits-fine : (b : Bool) (body : Body) → Fine (if_fits b body)
fits-fine true body = tt
fits-fine false body = refl

body-fine : (role : Role) (n : ℕ) (p : NodeId) (x : Stored) → Fine (body_from role n p x)
body-fine role n (ids.Worker k) (states.Worker w) = fits-fine _ _
body-fine role n (ids.Worker k) (states.Shard y) = refl
body-fine role n (ids.Shard k) (states.Worker w) = refl
body-fine role n (ids.Shard k) (states.Shard y) = fits-fine _ _

load-fine : (v : View) (saved : Saved) → Fine (load v saved)
load-fine v saved = by (fits v.role v.line_len (header_in saved)) saved.permanent
  where
    loaded : (c : Option Ckpt) (n : ℕ) (r : Result Body Refusal) → Fine r → Fine (loaded_by c n r)
    loaded c n (Ok body) f = tt
    loaded c n (Err refusal) f = f

    found : (c : Option Ckpt) → Fine (body_at v.role c)
    found None = tt
    found (Some c) = body-fine v.role c.line_len v.role.id c.state

    by : (b : Bool) (c : Option Ckpt) → Fine (if b then loaded_by c (saved.incarnation + 1) (body_at v.role c) else Err reasons.Damaged)
    by true c = loaded c (saved.incarnation + 1) (body_at v.role c) (found c)
    by false c = refl

restarted-or : (v : View) (saved : Saved) (next : ℕ) (r : Result Live Refusal) → Fine r → is_planned (of_owner (restarted v saved next r)) ≡ true
restarted-or v saved next (Ok live) f = refl
restarted-or v saved next (Err refusal) f = let P : Refusal → Bool = λ e. is_planned (of_owner (Err e)) in ap P f

restored-or : (v : View) (saved : Saved) (send : List (NodeId × Message)) (r : Result Live Refusal) → Fine r
    → is_planned (of_owner (restored v saved send r)) ≡ true
restored-or v saved send (Ok live) f = refl
restored-or v saved send (Err refusal) f = let P : Refusal → Bool = λ e. is_planned (of_owner (Err e)) in ap P f

learns-or : (v : View) (saved : Saved) (send : List (NodeId × Message)) (agreed : Bool) → is_planned (of_owner (rolling_learns v saved agreed send)) ≡ true
learns-or v saved send true = restored-or v saved send (load v saved) (load-fine v saved)
learns-or v saved send false = refl

-- whatever message comes is heard, or a checkpoint does not fit
hear-or : (v : View) (t : StoreReads) (from : NodeId) (m : Message) → is_planned (of_owner (hear v t from m)) ≡ true
hear-or v t from (messages.App app) = refl
hear-or v t from (messages.CheckAsk ask) = by v.node
  where
    of : (n : Live) (r : Reaction) → is_planned (of_owner (check_plan v n from ask t.permanent r)) ≡ true
    of n (reactions.Says agreed) = refl
    of n reactions.Joins = fits-or _ _

    fitting : (n : Live) (r : Reaction) (b : Bool)
        → is_planned (of_owner (if b then check_plan v n from ask t.permanent r else Err reasons.Damaged)) ≡ true
    fitting n r true = of n r
    fitting n r false = refl

    by : (n : Node) → is_planned (of_owner (unless_down n (check_fitting v from ask t.verdict t.permanent t.tentative))) ≡ true
    by Down = refl
    by (Alive n) =
        fitting n (check_reaction n from ask t.verdict t.permanent t.tentative)
        (fits v.role v.line_len t.permanent && fits v.role v.line_len t.tentative)
hear-or v t from (messages.RollAsk ask) = by v.node
  where
    of : (n : Live) (r : Reaction) → is_planned (of_owner (rollback_plan v n from ask t.permanent r)) ≡ true
    of n (reactions.Says agreed) = refl
    of n reactions.Joins = fits-or _ _

    by : (n : Node) → is_planned (of_owner (unless_down n (λ n. rollback_plan v n from ask t.permanent (rollback_reaction n from ask t.verdict)))) ≡ true
    by Down = refl
    by (Alive n) = of n (rollback_reaction n from ask t.verdict)
hear-or v t from (messages.Vote vote) = by v.node
  where
    by : (n : Node) → is_planned (of_owner (unless_down n (λ n. Ok (vote_in from vote n.phase)))) ≡ true
    by Down = refl
    by (Alive n) = refl
hear-or v t from (messages.Verdict instance agreed) = by v.node
  where
    asked : (b : Poll) (parent : Option Asker) → is_planned (of_owner (verdict_by_parent v t.stored b instance agreed parent)) ≡ true
    asked b None = refl
    asked b (Some parent) = among (is_in b instance)
      where
        among : (x : Bool) → is_planned (of_owner (if x then rolling_learns v t.stored agreed (verdict_to instance agreed b.asked) else Ok empty_plan)) ≡ true
        among true = learns-or v t.stored (verdict_to instance agreed b.asked) agreed
        among false = refl

    of : (phase : Phase) → is_planned (of_owner (verdict_in v t.stored instance agreed phase)) ≡ true
    of phases.Up = refl
    of (phases.Held b) = refl
    of (phases.Rolling b) = asked b b.parent

    by : (n : Node) → is_planned (of_owner (unless_down n (λ n. verdict_in v t.stored instance agreed n.phase))) ≡ true
    by Down = refl
    by (Alive n) = of n.phase

pub delivery-or : (v : View) (t : StoreReads) (from : NodeId) (queue : List Message) → is_some (slice_get queue 0) ≡ true
    → is_planned (of_owner (delivery v t from queue)) ≡ true
delivery-or v t from [] e = absurd cc
delivery-or v t from (m ∷ later) e = hear-or v t from m

-- ---- who may do it

pub fail-or : (v : View) (verdict : Option Verdict) (permanent tentative : Option CkptHeader) (n : Node) → is_mode (mode_of n) modes.Down ≡ false
    → is_planned (of_owner (fail_of v verdict permanent tentative n)) ≡ true
fail-or v verdict permanent tentative Down e = absurd cc
fail-or v verdict permanent tentative (Alive n) e = fits-or _ _

pub check-or : (v : View) (next : ℕ) (permanent : Option CkptHeader) (n : Node) → is_mode (mode_of n) modes.Up ≡ true
    → is_planned (of_owner (check_of v next permanent n)) ≡ true
check-or v next permanent Down e = absurd cc
check-or v next permanent (Alive n) e = by n.phase e
  where
    by : (phase : Phase) → is_mode (mode_in phase) modes.Up ≡ true → is_planned (of_owner (check_in v next permanent n phase)) ≡ true
    by phases.Up e = fits-or _ _
    by (phases.Held b) e = absurd cc
    by (phases.Rolling b) e = absurd cc

pub restart-or : (v : View) (saved : Saved) (next : ℕ) (tentative : Bool) (undecided : Option ℕ) (c : Content) (n : Node) → node_got_no c n ≡ true
    → is_planned (of_owner (restart_of v saved next tentative undecided (of_poll c (poll_of n)) n)) ≡ true
restart-or v saved next tentative undecided c Down e = absurd cc
restart-or v saved next tentative undecided c (Alive n) e = by n.phase e
  where
    got : (verdict : Option Verdict) → is_no verdict ≡ true → is_planned (of_owner (restart_after v saved next verdict)) ≡ true
    got None e = absurd cc
    got (Some verdicts.Open) e = absurd cc
    got (Some verdicts.Yes) e = absurd cc
    got (Some verdicts.No) e = restarted-or v saved next (load v saved) (load-fine v saved)

    begun : (b : Poll) (parent : Option Asker) → is_begun_no c b parent ≡ true
        → is_planned (of_owner (restart_by v saved next (verdict_of c b.instance) parent)) ≡ true
    begun b None e = got (verdict_of c b.instance) e
    begun b (Some parent) e = absurd cc

    by : (phase : Phase) → rolls_after_no c phase ≡ true → is_planned (of_owner (restart_in v saved next (of_poll c (poll_in phase)) phase)) ≡ true
    by phases.Up e = absurd cc
    by (phases.Held b) e = absurd cc
    by (phases.Rolling b) e = begun b b.parent e
