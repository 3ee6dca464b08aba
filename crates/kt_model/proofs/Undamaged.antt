-- No step of a sound state is refused because a checkpoint does not fit.
-- Cited by DownUndamaged, Lasting.
use Rattle.std.proofs.Common.{◌≡◌, ℕ, ◌+◌, ◌&&◌, if◌then◌else◌, Bool, true, false, List, [], ◌∷◌, Option, None, Some, Result, Ok, Err, refl}
use Rattle.std.proofs.Common.{ap}
use Rattle.std.specs.Prelude.{is_some}
use Rattle.kt_tuple.specs.declared.node.NodeId.{NodeId}
use Rattle.kt_tuple.specs.declared.op.Op.{Op}
use Rattle.kt_worker.specs.declared.worker.Worker.{Worker}
use Rattle.kt_worker.specs.WorkerModel.{next_request, again_request}
use Rattle.kt_shard.specs.declared.error.ServeError.{ServeError}
use Rattle.kt_shard.specs.declared.error.ServeError.TheVariants as unserved
use Rattle.kt_shard.specs.Shard.{Shard}
use Rattle.kt_shard.specs.Service.{Service, service}
use Rattle.kt_ckpt.specs.declared.header.CkptHeader.{CkptHeader}
use Rattle.kt_store.specs.declared.error.StoreError.{StoreError}
use Rattle.kt_store.specs.declared.rows.Verdict.{Verdict}
use Rattle.kt_store.specs.declared.rows.Verdict.TheVariants as verdicts
use Rattle.kt_store.specs.Content.{permanent_header, row_of}
use Rattle.kt_vote.specs.declared.asker.Asker.{Asker}
use Rattle.kt_vote.specs.Poll.{Poll, outcome_of}
use Rattle.kt_state.specs.declared.message.Message.{Message}
use Rattle.kt_state.specs.declared.message.Message.TheVariants as messages
use Rattle.kt_state.specs.declared.message.AppMessage.{AppMessage}
use Rattle.kt_state.specs.declared.live.Phase.{Phase}
use Rattle.kt_state.specs.declared.live.Phase.TheVariants as phases
use Rattle.kt_node.specs.declared.reaction.Reaction.{Reaction}
use Rattle.kt_node.specs.declared.reaction.Reaction.TheVariants as reactions
use Rattle.kt_state.specs.declared.refusal.Refusal.{Refusal}
use Rattle.kt_state.specs.declared.refusal.Refusal.TheVariants as reasons
use Rattle.kt_state.specs.declared.stored.Stored.{Stored}
use Rattle.kt_node.specs.Arrivals.{rollback_plan, rollback_reaction, unless_down, verdict_by_parent, verdict_in, vote_in}
use Rattle.kt_node.specs.Arrivals.{check_fitting as joining, check_plan, check_reaction, is_in}
use Rattle.kt_node.specs.Deciding.{abandon, abandon_by, abandon_down, abandon_in, abandon_of, check, check_in, check_of, decide, decide_by}
use Rattle.kt_node.specs.Deciding.{decide_if, decide_in, decide_of, learn, learn_by, learn_held, learn_in, learn_of}
use Rattle.kt_node.specs.Deciding.{learn_rolling, learn_settled, settled}
use Rattle.kt_node.specs.Failing.{fail_of, restart, restart_after, restart_by, restart_in, restart_of, restart_plan, restarted}
use Rattle.kt_node.specs.Learning.{restored, rolling_learns}
use Rattle.kt_node.specs.Loading.{load}
use Rattle.kt_state.specs.Loading.{loaded_by, header_in}
use Rattle.kt_state.specs.Node.{Body, Live, Node, Down, Alive, node_number, shard_in, worker_in}
use Rattle.kt_state.specs.Plan.{Planned}
use Rattle.kt_state.specs.State.{body_at}
use Rattle.kt_node.specs.Steps.{by_up, issue, issue_by, issue_found, issue_unless_kept, repeat, repeat_by, repeat_found, serve, serve_by}
use Rattle.kt_state.specs.Kept.{first_kept}
use Rattle.kt_node.specs.Steps.{serve_found, take, take_first, up_in, up_of}
use Rattle.kt_state.specs.Stored.{fits, acts_fit, is_undecided}
use Rattle.kt_node.specs.View.{View}
use Rattle.kt_scenario.specs.declared.step.Step.{Step}
use Rattle.kt_scenario.specs.declared.step.Step.TheVariants.{Issue, Repeat, Deliver, Take, Serve, Check, Decide, Abandon, Learn, Fail, Restart}
use Rattle.kt_model.specs.declared.error.StepError.TheVariants as refusals
use Rattle.kt_scenario.specs.Scene.{is_in_scene}
use Rattle.kt_model.specs.declared.store_reads.StoreReads.{StoreReads}
use Rattle.kt_scenario.specs.Step.{owner}
use Rattle.kt_model.specs.StepPlan.{IsUndamaged, delivery, owner_plan, hear, of_owner, of_scene}
use Rattle.kt_model.specs.auxiliary.Ready.{IsReady}
use Rattle.kt_model.specs.State.{State, link, role_of, view}
use Rattle.kt_model.specs.StoreReads.{stored_of, tentative_in, store_reads}
use Rattle.kt_model.proofs.Sound.{IsSound}
use Rattle.kt_model.proofs.FitBodies.{Fine}
use Rattle.kt_model.proofs.Fit.{IsFitting}
use Rattle.kt_model.proofs.Gives.{GivesFitting, gives-fitting}
use Rattle.kt_model.proofs.Shaped.{AreMade}

-- ---- what is not refused for damage

pub fine : {X : Type 0} (x : X) → Fine (Ok x)
fine x e = absurd cc

pub wrong : {X : Type 0} → Fine {X = X} (Err reasons.WrongMode)
wrong e = absurd cc

pub nothing : {X : Type 0} → Fine {X = X} (Err reasons.NothingThere)
nothing e = absurd cc

no_match : {X : Type 0} → Fine {X = X} (Err reasons.NoSuchMatch)
no_match e = absurd cc

pub undecided : {X : Type 0} → Fine {X = X} (Err reasons.NotDecided)
undecided e = absurd cc

pub unresolved : {X : Type 0} → Fine {X = X} (Err reasons.Unresolved)
unresolved e = absurd cc

-- what passes its test
pub passes : {X : Type 0} (b : Bool) (r : Result X Refusal) → b ≡ true → Fine r → Fine (if b then r else Err reasons.Damaged)
passes true r e f = f
passes false r e f = absurd cc

pub either : {X : Type 0} (b : Bool) (r q : Result X Refusal) → Fine r → Fine q → Fine (if b then r else q)
either true r q f g = f
either false r q f g = g

by_up-fine : (x : Node) (f : Live → Planned) → ((n : Live) → Fine (f n)) → Fine (by_up (up_of x) f)
by_up-fine Down f all = wrong
by_up-fine (Alive n) f all = by n.phase
  where
    by : (phase : Phase) → Fine (by_up (up_in n phase) f)
    by phases.Up = all n
    by (phases.Held b) = wrong
    by (phases.Rolling b) = wrong

-- ---- the underlying computation

pub issue-fine : (v : View) → Fine (issue v)
issue-fine v = by_up-fine v.node (λ n. issue_by v n (worker_in n.body)) (λ n. asks n (worker_in n.body))
  where
    finds : (n : Live) (x : Worker) (o : Option (ℕ × Op)) → Fine (issue_found v n x o)
    finds n x None = nothing
    finds n x (Some r) = fine _

    keeps : (n : Live) (x : Worker) (o : Option (NodeId × AppMessage)) → Fine (issue_unless_kept v n x o)
    keeps n x None = finds n x (next_request v.role.script x)
    keeps n x (Some first) = nothing

    asks : (n : Live) (o : Option Worker) → Fine (issue_by v n o)
    asks n None = wrong
    asks n (Some x) = keeps n x (first_kept n)

pub repeat-fine : (v : View) → Fine (repeat v)
repeat-fine v = by_up-fine v.node (λ n. repeat_by v n (worker_in n.body)) (λ n. asks n (worker_in n.body))
  where
    finds : (n : Live) (o : Option (ℕ × Op)) → Fine (repeat_found v n o)
    finds n None = nothing
    finds n (Some r) = fine _

    asks : (n : Live) (o : Option Worker) → Fine (repeat_by v n o)
    asks n None = wrong
    asks n (Some x) = finds n (again_request x)

pub take-fine : (v : View) → Fine (take v)
take-fine v = by_up-fine v.node (λ n. take_first v n (first_kept n)) (λ n. by n (first_kept n))
  where
    by : (n : Live) (o : Option (NodeId × AppMessage)) → Fine (take_first v n o)
    by n None = nothing
    by n (Some first) = fine _

pub serve-fine : (v : View) (worker place cause : ℕ) → Fine (serve v worker place cause)
serve-fine v worker place cause = by_up-fine v.node (λ n. serve_by v n worker place cause (shard_in n.body)) (λ n. serves n (shard_in n.body))
  where
    finds : (n : Live) (r : Result Service ServeError) → Fine (serve_found v n worker cause r)
    finds n (Ok s) = fine _
    finds n (Err unserved.NotWaiting) = nothing
    finds n (Err unserved.NoSuchMatch) = no_match
    finds n (Err unserved.OutOfMemory) = nothing

    serves : (n : Live) (o : Option Shard) → Fine (serve_by v n worker place cause o)
    serves n None = wrong
    serves n (Some y) = finds n (service y worker place)

both-fit : (a b : Bool) → a ≡ true → b ≡ true → (a && b) ≡ true
both-fit true true e f = refl
both-fit true false e f = absurd cc
both-fit false b e f = absurd cc

-- ---- checks and rollbacks

loads-fine : (s : State) (p : NodeId) → GivesFitting s p → Fine (load (view s p) (stored_of s.content p))
loads-fine s p gives =
    passes (fits (role_of s.scene p) (view s p).line_len (permanent_header s.content p)) _ gives.permanent
    (by (body_at (role_of s.scene p) (row_of s.content p).permanent) gives.body)
  where
    by : (r : Result Body Refusal) → Fine r → Fine (loaded_by (row_of s.content p).permanent ((row_of s.content p).incarnation + 1) r)
    by (Ok b) f = fine _
    by (Err refusal) f = λ e. f (let same : refusal ≡ reasons.Damaged = cc in ap (λ x. Err x) same)

check-fine : (v : View) (next : ℕ) (o : Option CkptHeader) → fits v.role v.line_len o ≡ true → acts_fit v.role v.acts ≡ true → Fine (check v next o)
check-fine v next o fit shaped = by v.node
  where
    in_phase : (n : Live) (phase : Phase) → Fine (check_in v next o n phase)
    in_phase n phases.Up = passes (fits v.role v.line_len o && acts_fit v.role v.acts) _ (both-fit _ _ fit shaped) (fine _)
    in_phase n (phases.Held b) = wrong
    in_phase n (phases.Rolling b) = wrong

    by : (x : Node) → Fine (check_of v next o x)
    by Down = wrong
    by (Alive n) = in_phase n n.phase

pub decide-fine : (v : View) (verdict : Option Verdict) → Fine (decide v verdict)
decide-fine v verdict = by v.node
  where
    decides : (phase : Phase) (b : Poll) (o : Option Bool) → Fine (decide_if phase b o)
    decides phase b None = undecided
    decides phase b (Some agreed) = fine _

    asked : (phase : Phase) (b : Poll) (o : Option Asker) → Fine (decide_by phase b verdict o)
    asked phase b None = either (is_undecided verdict) _ _ (decides phase b (outcome_of b)) nothing
    asked phase b (Some parent) = nothing

    in_phase : (phase : Phase) → Fine (decide_in verdict phase)
    in_phase phases.Up = wrong
    in_phase (phases.Held b) = asked (phases.Held b) b b.parent
    in_phase (phases.Rolling b) = asked (phases.Rolling b) b b.parent

    by : (x : Node) → Fine (decide_of verdict x)
    by Down = wrong
    by (Alive n) = in_phase n.phase

pub abandon-fine : (v : View) (verdict : Option Verdict) (own : Option ℕ) → Fine (abandon v verdict own)
abandon-fine v verdict own = by v.node
  where
    asked : (phase : Poll → Phase) (b : Poll) (o : Option Asker) → Fine (abandon_by phase b verdict o)
    asked phase b None = either (is_undecided verdict) _ _ (fine _) nothing
    asked phase b (Some parent) = either b.voted _ _ nothing (fine _)

    in_phase : (phase : Phase) → Fine (abandon_in verdict phase)
    in_phase phases.Up = wrong
    in_phase (phases.Held b) = asked phases.Held b b.parent
    in_phase (phases.Rolling b) = asked phases.Rolling b b.parent

    alone : (o : Option ℕ) → Fine (abandon_down o)
    alone None = nothing
    alone (Some instance) = fine _

    by : (x : Node) → Fine (abandon_of verdict own x)
    by Down = alone own
    by (Alive n) = in_phase n.phase

rolls-fine : (v : View) (s : Stored) (agreed : Bool) (send : List (NodeId × Message)) → Fine (load v s) → Fine (rolling_learns v s agreed send)
rolls-fine v s true send loads = by (load v s) loads
  where
    by : (r : Result Live Refusal) → Fine r → Fine (restored v s send r)
    by (Ok live) f = fine _
    by (Err refusal) f = λ e. f (let same : refusal ≡ reasons.Damaged = cc in ap (λ x. Err x) same)
rolls-fine v s false send loads = fine _

learn-fine : (v : View) (s : Stored) (is_tentative : Bool) (verdict : Option Verdict) → Fine (load v s) → fits v.role v.line_len (header_in s) ≡ true
    → Fine (learn v s is_tentative verdict)
learn-fine v s is_tentative verdict loads fit = by v.node
  where
    held : (o : Option Bool) → Fine (learn_held o)
    held None = undecided
    held (Some agreed) = fine _

    rolling : (o : Option Bool) → Fine (learn_rolling v s o)
    rolling None = undecided
    rolling (Some agreed) = rolls-fine v s agreed [] loads

    asked : (o : Option Bool) (parent : Option Asker) → Fine (learn_by v s o parent)
    asked o None = wrong
    asked o (Some parent) = rolling o

    in_phase : (o : Option Bool) (phase : Phase) → Fine (learn_in v s o phase)
    in_phase o phases.Up = wrong
    in_phase o (phases.Held b) = held o
    in_phase o (phases.Rolling b) = asked o b.parent

    learns : (o : Option Bool) → Fine (learn_settled v s o)
    learns None = undecided
    learns (Some true) = fine _
    learns (Some false) = passes (fits v.role v.line_len (header_in s)) _ fit (fine _)

    by : (x : Node) → Fine (learn_of v s is_tentative (settled verdict) x)
    by Down = either is_tentative _ _ (learns (settled verdict)) nothing
    by (Alive n) = in_phase (settled verdict) n.phase

restart-fine : (v : View) (s : Stored) (next : ℕ) (is_tentative : Bool) (own : Option ℕ) (verdict : Option Verdict) → Fine (load v s)
    → Fine (restart v s next is_tentative own verdict)
restart-fine v s next is_tentative own verdict loads = by v.node
  where
    loaded : (r : Result Live Refusal) → Fine r → Fine (restarted v s next r)
    loaded (Ok live) f = fine _
    loaded (Err refusal) f = λ e. f (let same : refusal ≡ reasons.Damaged = cc in ap (λ x. Err x) same)

    goes : Fine (restart_plan v s next)
    goes = loaded (load v s) loads

    learnt : (o : Option Verdict) → Fine (restart_after v s next o)
    learnt None = undecided
    learnt (Some verdicts.Open) = undecided
    learnt (Some verdicts.Yes) = undecided
    learnt (Some verdicts.No) = goes

    asked : (o : Option Asker) → Fine (restart_by v s next verdict o)
    asked None = learnt verdict
    asked (Some parent) = wrong

    in_phase : (phase : Phase) → Fine (restart_in v s next verdict phase)
    in_phase phases.Up = wrong
    in_phase (phases.Held b) = wrong
    in_phase (phases.Rolling b) = asked b.parent

    by : (x : Node) → Fine (restart_of v s next is_tentative own verdict x)
    by Down = either is_tentative _ _ unresolved (either (is_some own) _ _ unresolved goes)
    by (Alive n) = in_phase n.phase

-- ---- what arrives

-- what the store says to who hears a message
abbrev told_on_arrival : State → NodeId → Step → StoreReads
told_on_arrival s q step =
    record (store_reads s step) {
      permanent = permanent_header s.content q;
      tentative = tentative_in s.content q;
      stored = stored_of s.content q;
    }

hear-fine : (s : State) (p q : NodeId) → GivesFitting s q → (step : Step) → owner step ≡ q → (m : Message)
    → Fine (hear (view s q) (told_on_arrival s q step) p m)
hear-fine s p q gives step own (messages.App app) = fine _
hear-fine s p q gives step own (messages.CheckAsk ask) = by (view s q).node refl
  where
    reacts : (n : Live) (r : Reaction) → Fine (check_plan (view s q) n p ask (permanent_header s.content q) r)
    reacts n (reactions.Says agreed) = fine _
    reacts n reactions.Joins = passes (acts_fit (role_of s.scene q) (view s q).acts) _ gives.shaped (fine _)

    by : (x : Node) → (view s q).node ≡ x
        → Fine (unless_down x
        (joining (view s q) p ask (store_reads s step).verdict (permanent_header s.content q) (tentative_in s.content q)))
    by Down at = fine _
    by (Alive n) at =
        let Fits : Option CkptHeader → Bool = fits (role_of s.scene q) (view s q).line_len in
        passes (Fits (permanent_header s.content q) && Fits (tentative_in s.content q)) _
        (both-fit _ _ gives.permanent (gives.tentative n at))
        (reacts n (check_reaction n p ask (store_reads s step).verdict (permanent_header s.content q) (tentative_in s.content q)))
hear-fine s p q gives step own (messages.RollAsk ask) = by (view s q).node
  where
    reacts : (n : Live) (r : Reaction) → Fine (rollback_plan (view s q) n p ask (permanent_header s.content q) r)
    reacts n (reactions.Says agreed) = fine _
    reacts n reactions.Joins = passes (fits (role_of s.scene q) (view s q).line_len (permanent_header s.content q)) _ gives.permanent (fine _)

    by : (x : Node)
        → Fine (unless_down x
        (λ n. rollback_plan (view s q) n p ask (permanent_header s.content q) (rollback_reaction n p ask (store_reads s step).verdict)))
    by Down = fine _
    by (Alive n) = reacts n (rollback_reaction n p ask (store_reads s step).verdict)
hear-fine s p q gives step own (messages.Vote vote) = by (view s q).node
  where
    by : (x : Node) → Fine (unless_down x (λ n. Ok (vote_in p vote n.phase)))
    by Down = fine _
    by (Alive n) = fine _
hear-fine s p q gives step own (messages.Verdict instance agreed) = by (view s q).node
  where
    asked : (b : Poll) (o : Option Asker) → Fine (verdict_by_parent (view s q) (stored_of s.content q) b instance agreed o)
    asked b None = fine _
    asked b (Some parent) = either (is_in b instance) _ _ (rolls-fine (view s q) (stored_of s.content q) agreed _ (loads-fine s q gives)) (fine _)

    in_phase : (phase : Phase) → Fine (verdict_in (view s q) (stored_of s.content q) instance agreed phase)
    in_phase phases.Up = fine _
    in_phase (phases.Held b) = fine _
    in_phase (phases.Rolling b) = asked b b.parent

    by : (x : Node) → Fine (unless_down x (λ n. verdict_in (view s q) (stored_of s.content q) instance agreed n.phase))
    by Down = fine _
    by (Alive n) = in_phase n.phase

-- ---- all

pub delivered : (s : State) (p q : NodeId) → GivesFitting s q → (l : List Message) → Fine (delivery (view s q) (store_reads s (Deliver p q)) p l)
delivered s p q gives [] = nothing
delivered s p q gives (message ∷ later) = hear-fine s p q gives (Deliver p q) refl message

owner_plan-fine : (s : State) → ((p : NodeId) → GivesFitting s p) → (step : Step) → Fine (owner_plan s (store_reads s step) step)
owner_plan-fine s gives (Issue p) = issue-fine (view s p)
owner_plan-fine s gives (Repeat p) = repeat-fine (view s p)
owner_plan-fine s gives (Deliver p q) = delivered s p q (gives q) (link s p q)
owner_plan-fine s gives (Take p) = take-fine (view s p)
owner_plan-fine s gives (Serve p w place) = serve-fine (view s p) (node_number w) place _
owner_plan-fine s gives (Check p) = check-fine (view s p) _ (permanent_header s.content p) (gives p).permanent (gives p).shaped
owner_plan-fine s gives (Decide p) = decide-fine (view s p) _
owner_plan-fine s gives (Abandon p) = abandon-fine (view s p) _ _
owner_plan-fine s gives (Learn p) = learn-fine (view s p) (stored_of s.content p) _ _ (loads-fine s p (gives p)) (gives p).permanent
owner_plan-fine s gives (Fail p) = by (view s p).node refl
  where
    by : (x : Node) → (view s p).node ≡ x
        → Fine (fail_of (view s p) (store_reads s (Fail p)).verdict (permanent_header s.content p) (tentative_in s.content p) x)
    by Down at = wrong
    by (Alive n) at =
        let Fits : Option CkptHeader → Bool = fits (role_of s.scene p) (view s p).line_len in
        passes (Fits (permanent_header s.content p) && Fits (tentative_in s.content p)) _
        (both-fit _ _ (gives p).permanent ((gives p).tentative n at)) (fine _)
owner_plan-fine s gives (Restart p) = restart-fine (view s p) (stored_of s.content p) _ _ _ _ (loads-fine s p (gives p))

owner-damaged : (r : Planned) (x : StoreError) → of_owner r ≡ Err (refusals.Store x) → r ≡ Err reasons.Damaged
owner-damaged (Ok plan) x e = absurd cc
owner-damaged (Err reasons.WrongMode) x e = absurd cc
owner-damaged (Err reasons.NothingThere) x e = absurd cc
owner-damaged (Err reasons.NoSuchMatch) x e = absurd cc
owner-damaged (Err reasons.NotDecided) x e = absurd cc
owner-damaged (Err reasons.Unresolved) x e = absurd cc
owner-damaged (Err reasons.Damaged) x e = refl
owner-damaged (Err reasons.OutOfMemory) x e = absurd cc

pub scene-damaged : (there : Bool) (r : Planned) (x : StoreError) → of_scene there r ≡ Err (refusals.Store x) → r ≡ Err reasons.Damaged
scene-damaged true r x e = owner-damaged r x e
scene-damaged false r x e = absurd cc

pub never-damaged : (s : State) → IsReady s → IsSound s → IsFitting s → AreMade s.scene s.history → IsUndamaged s
never-damaged s ready sound is made step x e =
    owner_plan-fine s (gives-fitting s ready sound is made) step (scene-damaged (is_in_scene s.scene step) (owner_plan s (store_reads s step) step) x e)
