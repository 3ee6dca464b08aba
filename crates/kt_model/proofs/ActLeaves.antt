-- The plans that note an act keep a state sound: a worker issues and repeats, a shard serves, and each hears.
-- Cited by CheckLeaves, Headlines, QuietLeaves, StepSound.
use Rattle.std.proofs.Common.{◌≡◌, ◌≢◌, ℕ, ◌≤◌, ◌∷◌, Bool, true, false, cond, List, Contains, Option, Some, None, Ok, refl, sym, subst, ltb}
use Rattle.std.specs.Prelude.{IfSome, is_some, IsTrue, ◌&&◌, ◌||◌}
use Rattle.std.proofs.lemmas.Bool.{ltb-true, ltb-false}
use Rattle.kt_tuple.specs.declared.node.NodeId.{NodeId}
use Rattle.kt_tuple.specs.declared.node.NodeId.TheVariants as ids
use Rattle.kt_tuple.specs.declared.op.Op.{Op}
use Rattle.kt_tuple.specs.declared.op.Answer.{Answer}
use Rattle.kt_history.specs.declared.note.What.TheVariants as whats
use Rattle.kt_history.specs.Closed.{acts_in_log}
use Rattle.kt_history.proofs.Shared.{Contains-here}
use Rattle.kt_script.specs.declared.command.Command.{Command}
use Rattle.kt_worker.specs.declared.worker.Worker.{Worker}
use Rattle.kt_worker.specs.WorkerModel.{next_request, again_request, issued, awaits, heard}
use Rattle.kt_shard.specs.declared.request.Request.{Request}
use Rattle.kt_shard.specs.Arrival.{Waits, again_or_ignored, arrival}
use Rattle.kt_shard.specs.Session.{newest, cached_answer}
use Rattle.kt_shard.specs.Shard.{Shard, session_of}
use Rattle.kt_shard.specs.Service.{Service, service}
use Rattle.kt_logs.specs.Cause.{cause_of_waiting}
use Rattle.kt_state.specs.declared.message.Talk.{Talk}
use Rattle.kt_state.specs.declared.message.Talk.TheVariants as talks
use Rattle.kt_state.specs.declared.message.AppMessage.{AppMessage}
use Rattle.kt_state.specs.declared.message.Message.{Message}
use Rattle.kt_state.specs.declared.message.Message.TheVariants as messages
use Rattle.kt_state.specs.declared.live.Phase.TheVariants as phases
use Rattle.kt_state.specs.declared.change.KeptChange.{KeptChange}
use Rattle.kt_state.specs.declared.change.KeptChange.TheVariants as keeps
use Rattle.kt_state.specs.Node.{Body, IsWorker, IsShard, Live, Node, node_number, next_label}
use Rattle.kt_state.specs.declared.change.BodyChange.TheVariants as bodies
use Rattle.kt_logs.specs.ShardLog.{shard_of_acts, new_shard}
use Rattle.kt_logs.specs.WorkerLog.{worker_of_acts, new_worker}
use Rattle.kt_node.specs.Talking.{hearing, note_of, issue_plan, repeat_plan, service_plan, request_plan, reply_plan, talk_plan, heard_plan}
use Rattle.kt_scenario.specs.Scene.{SceneModel, script_at, is_worker, is_shard, are_neighbours}
use Rattle.kt_model.specs.State.{State, role_of, view}
use Rattle.kt_model.specs.Asks.{script_numbered}
use Rattle.kt_model.specs.auxiliary.Ready.{IsNodeReady, IsReady}
use Rattle.kt_model.proofs.Plans.{IsAlive, Comes}
use Rattle.kt_model.specs.Like.{IsBodyLike, IsWorkerLike, IsShardLike}
use Rattle.kt_model.proofs.Sound.{IsRequestOf, IsReplyOf, SaysSo, Carries, KeepsSo, NodeSoundIn, IsSound}
use Rattle.kt_model.proofs.OnLinks.{Contains-tail}
use Rattle.kt_model.proofs.Applying.{Keeps}
use Rattle.kt_model.proofs.ActKeeps.{IsThere, KeepsNoMore, act_keeps}
use Rattle.kt_model.proofs.WorkerPlans.{issued_well, repeated_well, accepted_well}
use Rattle.kt_model.proofs.WorkerPlans as workers
use Rattle.kt_model.proofs.ShardPlans.{heard_well, again_well, served_well, cached_answer-is, cached_answer-none}
use Rattle.kt_model.proofs.ShardPlans as shards

-- ---- what is known of a node

-- what an alive node works with is like what its log makes of it, and what it keeps says what it should
pub alive_like : (s : State) → IsSound s → (p : NodeId) (n : Live) → IsAlive s p n → IsBodyLike s.scene.scripts p (acts_in_log s.history p) n.body
alive_like s sound p n alive = (subst (NodeSoundIn s.scene s.history s.content p) alive (sound.nodes p)).like

pub alive_keeps : (s : State) → IsSound s → (p : NodeId) (n : Live) → IsAlive s p n → KeepsSo s.scene.shards s.history p n.kept
alive_keeps s sound p n alive = (subst (NodeSoundIn s.scene s.history s.content p) alive (sound.nodes p)).kept

-- a worker that has a neighbour, or that is one, is of the scene
some_script : (o : Option (List Command)) → is_some o ≡ true → o ≢ None
some_script None e none = cc (e)
some_script (Some script) e none = cc (none)

worker-there : (scene : SceneModel) (w : NodeId) → IsTrue (is_worker scene w) → IsThere scene w
worker-there scene (ids.Worker w) e = some_script (script_at scene.scripts w) e
worker-there scene (ids.Shard r) e = tt

neighbour-there : (scene : SceneModel) (p q : NodeId) → IsTrue (are_neighbours scene p q) → IsThere scene p × IsThere scene q
neighbour-there scene (ids.Shard r) (ids.Shard q) e = (tt, tt)
neighbour-there scene (ids.Worker w) (ids.Worker v) e = by (is_some (script_at scene.scripts w)) (is_some (script_at scene.scripts v)) e
  where
    by : (a b : Bool) → ((a && false) || (false && b)) ≡ true → IsThere scene (ids.Worker w) × IsThere scene (ids.Worker v)
    by true b e = absurd cc
    by false b e = absurd cc
neighbour-there scene (ids.Worker w) (ids.Shard r) e = (by (is_some (script_at scene.scripts w)) (is_shard scene (ids.Shard r)) refl e, tt)
  where
    by : (a b : Bool) → is_some (script_at scene.scripts w) ≡ a → ((a && b) || (false && false)) ≡ true → script_at scene.scripts w ≢ None
    by true b is e = some_script (script_at scene.scripts w) is
    by false b is e = absurd cc
neighbour-there scene (ids.Shard r) (ids.Worker w) e = (tt, by (is_shard scene (ids.Shard r)) (is_some (script_at scene.scripts w)) refl e)
  where
    by : (a b : Bool) → is_some (script_at scene.scripts w) ≡ b → ((false && false) || (a && b)) ≡ true → script_at scene.scripts w ≢ None
    by a true is e = some_script (script_at scene.scripts w) is
    by true false is e = absurd cc
    by false false is e = absurd cc

stays : (n : Live) → KeepsNoMore n keeps.Stay
stays n x c = c

-- ---- the acts of a worker and of a shard that hear nothing

pub issues : (s : State) → IsSound s → (p : NodeId) (n : Live) (x : Worker) (r : ℕ × Op) → IsTrue (is_worker s.scene p) → IsAlive s p n → n.phase ≡ phases.Up
    → n.body ≡ IsWorker x
    → next_request (role_of s.scene p).script x ≡ Some r → Keeps s p (issue_plan (view s p) n r (issued (role_of s.scene p).script x))
issues s sound (ids.Shard q) n x r is alive up works next = absurd cc
issues s sound (ids.Worker w) n x r is alive up works next =
    let like = subst (IsBodyLike s.scene.scripts (ids.Worker w) (acts_in_log s.history (ids.Worker w))) works (alive_like s sound (ids.Worker w) n alive) in
    act_keeps s (ids.Worker w) n (IsWorker x) _ _ _ sound alive up works refl (stays n) (issued_well s.scene s.history w x r (next_label n) like next)

pub repeats : (s : State) → IsSound s → (p : NodeId) (n : Live) (x : Worker) (r : ℕ × Op) → IsTrue (is_worker s.scene p) → IsAlive s p n → n.phase ≡ phases.Up
    → n.body ≡ IsWorker x
    → again_request x ≡ Some r → Keeps s p (repeat_plan (view s p) n r)
repeats s sound (ids.Shard q) n x r is alive up works again = absurd cc
repeats s sound (ids.Worker w) n x r is alive up works again =
    let like = subst (IsBodyLike s.scene.scripts (ids.Worker w) (acts_in_log s.history (ids.Worker w))) works (alive_like s sound (ids.Worker w) n alive) in
    act_keeps s (ids.Worker w) n (IsWorker x) _ _ _ sound alive up works refl (stays n) (repeated_well s.scene s.history w x r (next_label n) like again)

pub serves : (s : State) → IsSound s → (p w : NodeId) (n : Live) (y : Shard) (place : ℕ) (v : Service) → IsTrue (is_shard s.scene p)
    → IsTrue (is_worker s.scene w) → IsAlive s p n
    → n.phase ≡ phases.Up → n.body ≡ IsShard y → service y (node_number w) place ≡ Ok v
    → Keeps s p (service_plan (view s p) n (node_number w) (cause_of_waiting s.history p (node_number w)) v)
serves s sound (ids.Worker q) w n y place v is there alive up works chosen = absurd cc
serves s sound (ids.Shard r) (ids.Shard q) n y place v is there alive up works chosen = absurd cc
serves s sound (ids.Shard r) (ids.Worker w) n y place v is there alive up works chosen =
    let like = subst (IsBodyLike s.scene.scripts (ids.Shard r) (acts_in_log s.history (ids.Shard r))) works (alive_like s sound (ids.Shard r) n alive) in
    act_keeps s (ids.Shard r) n (IsShard y) _ _ _ sound alive up works refl (stays n)
    (served_well s.scene s.history w r y place v (next_label n) sound.legal sound.well_formed like (worker-there s.scene (ids.Worker w) there) chosen)

-- ---- hearing

reply_keeps : (s : State) → IsSound s → (w r : ℕ) (n : Live) (x : Worker) (kept : KeptChange) (app : AppMessage) (request : Request) (answer : Answer)
    → IsAlive s (ids.Worker w) n → n.phase ≡ phases.Up
    → n.body ≡ IsWorker x → KeepsNoMore n kept
    → IsWorkerLike (script_numbered s.scene.scripts w) (worker_of_acts new_worker (acts_in_log s.history (ids.Worker w))) x
    → IsReplyOf s.history r w request answer app.by → Keeps s (ids.Worker w) (reply_plan (view s (ids.Worker w)) x kept (ids.Shard r) app request answer)
reply_keeps s sound w r n x kept app request answer alive up works fewer like says = by (awaits x request.number request.op) refl
  where
    by : (b : Bool) → awaits x request.number request.op ≡ b → Keeps s (ids.Worker w) (cond b
        (hearing kept (ids.Shard r) app.label (bodies.Work (heard (script_numbered s.scene.scripts w) x answer))
        (note_of (ids.Worker w) app.by w request (whats.Accepted answer)))
        (hearing kept (ids.Shard r) app.label bodies.Stay (note_of (ids.Worker w) app.by w request (whats.Ignored (Some answer)))))
    by true e =
        act_keeps s (ids.Worker w) n (IsWorker x) _ _ _ sound alive up works refl fewer
        (accepted_well s.scene s.history r w x request answer app.by like says e)
    by false e =
        act_keeps s (ids.Worker w) n (IsWorker x) _ _ _ sound alive up works refl fewer
        (workers.ignored_well s.scene s.history r w x request answer app.by like says e)

request_keeps : (s : State) → IsSound s → (r w : ℕ) (n : Live) (y : Shard) (kept : KeptChange) (app : AppMessage) (request : Request)
    → IsAlive s (ids.Shard r) n
    → n.phase ≡ phases.Up
    → n.body ≡ IsShard y → KeepsNoMore n kept → script_at s.scene.scripts w ≢ None
    → IsShardLike s.scene.scripts (shard_of_acts new_shard (acts_in_log s.history (ids.Shard r))) y
    → IsRequestOf s.scene.shards s.history w r request app.by
    → Keeps s (ids.Shard r) (request_plan (view s (ids.Shard r)) n kept (ids.Worker w) app request (arrival y w request))
request_keeps s sound r w n y kept app request alive up works fewer there like says = decide (ltb (newest (session_of y w)) request.number) refl
  where
    old : (o : Option Answer) → cached_answer (session_of y w) request ≡ o → request.number ≤ newest (session_of y w)
        → Keeps s (ids.Shard r) (request_plan (view s (ids.Shard r)) n kept (ids.Worker w) app request (again_or_ignored o))
    old None again le =
        act_keeps s (ids.Shard r) n (IsShard y) _ _ _ sound alive up works refl fewer
        (shards.ignored_well s.scene s.history w r y request app.by like says (le, cached_answer-none (session_of y w) request again))
    old (Some answer) again le =
        act_keeps s (ids.Shard r) n (IsShard y) _ _ _ sound alive up works refl fewer
        (again_well s.scene s.history w r y request answer app.by (next_label n) like says (cached_answer-is (session_of y w) request answer again))

    decide : (b : Bool) → ltb (newest (session_of y w)) request.number ≡ b
        → Keeps s (ids.Shard r)
        (request_plan (view s (ids.Shard r)) n kept (ids.Worker w) app request (cond b Waits (again_or_ignored (cached_answer (session_of y w) request))))
    decide true e =
        act_keeps s (ids.Shard r) n (IsShard y) _ _ _ sound alive up works refl fewer
        (heard_well s.scene s.history w r y request app.by like says there (ltb-true _ _ e))
    decide false e = old (cached_answer (session_of y w) request) refl (ltb-false _ _ e)

-- whatever is heard was said so, by a node of the other kind
talk_keeps : (s : State) → IsSound s → (p from : NodeId) (n : Live) (kept : KeptChange) (app : AppMessage) (body : Body) (talk : Talk) → IsAlive s p n
    → n.phase ≡ phases.Up → n.body ≡ body
    → KeepsNoMore n kept → IsThere s.scene from → IsBodyLike s.scene.scripts p (acts_in_log s.history p) body
    → SaysSo s.scene.shards s.history from p talk app.by
    → Keeps s p (talk_plan (view s p) n kept from app body talk)
talk_keeps s sound (ids.Worker w) (ids.Worker v) n kept app body talk alive up works fewer there like says = absurd says
talk_keeps s sound (ids.Shard r) (ids.Shard q) n kept app body talk alive up works fewer there like says = absurd says
talk_keeps s sound (ids.Worker w) (ids.Shard r) n kept app (IsShard y) talk alive up works fewer there like says = absurd like
talk_keeps s sound (ids.Worker w) (ids.Shard r) n kept app (IsWorker x) (talks.Request request) alive up works fewer there like says = absurd says
talk_keeps s sound (ids.Worker w) (ids.Shard r) n kept app (IsWorker x) (talks.Reply request answer) alive up works fewer there like says =
    reply_keeps s sound w r n x kept app request answer alive up works fewer like says
talk_keeps s sound (ids.Shard r) (ids.Worker w) n kept app (IsWorker x) talk alive up works fewer there like says = absurd like
talk_keeps s sound (ids.Shard r) (ids.Worker w) n kept app (IsShard y) (talks.Reply request answer) alive up works fewer there like says = absurd says
talk_keeps s sound (ids.Shard r) (ids.Worker w) n kept app (IsShard y) (talks.Request request) alive up works fewer there like says =
    request_keeps s sound r w n y kept app request alive up works fewer there like says

heard_keeps : (s : State) → IsSound s → (p from : NodeId) (n : Live) (kept : KeptChange) (app : AppMessage) → IsAlive s p n → n.phase ≡ phases.Up
    → KeepsNoMore n kept → IsThere s.scene from
    → SaysSo s.scene.shards s.history from p app.talk app.by → Keeps s p (heard_plan (view s p) n kept from app)
heard_keeps s sound p from n kept app alive up fewer there says =
    talk_keeps s sound p from n kept app n.body app.talk alive up refl fewer there (alive_like s sound p n alive) says

-- what comes by a link carries what its act says
pub comes_so : (s : State) → IsSound s → (p q : NodeId) (m : Message) → Comes s p q m → Carries s.scene.shards s.history p q m
comes_so s sound p q m comes = sound.carries p q m (subst (λ l. Contains l m) (sym comes.on) (Contains-here m comes.later))

pub hears : (s : State) → IsSound s → (p q : NodeId) (n : Live) (app : AppMessage) → Comes s p q (messages.App app) → IsAlive s q n → n.phase ≡ phases.Up
    → Keeps s q (heard_plan (view s q) n keeps.Stay p app)
hears s sound p q n app comes alive up =
    heard_keeps s sound q p n keeps.Stay app alive up (stays n) (neighbour-there s.scene p q comes.neighbours).0
    (comes_so s sound p q (messages.App app) comes)

pub takes : (s : State) → IsReady s → IsSound s → (p from : NodeId) (n : Live) (app : AppMessage) (later : List (NodeId × AppMessage)) → IsAlive s p n
    → n.phase ≡ phases.Up → n.kept ≡ (from, app) ∷ later
    → Keeps s p (heard_plan (view s p) n keeps.TakeFirst from app)
takes s ready sound p from n app later alive up first =
    let stands : Contains n.kept (from, app) = subst (λ l. Contains l (from, app)) (sym first) (Contains-here (from, app) later) in
    let Ready : Option Node → Type 0 = λ row. IfSome row (IsNodeReady s.scene s.history s.made p) in
    let live = subst Ready alive (ready.nodes p) in
    heard_keeps s sound p from n keeps.TakeFirst app alive up (λ x c. Contains-tail n.kept x c)
    (neighbour-there s.scene p from (live.kept (from, app) stands).from).1
    (alive_keeps s sound p n alive (from, app) stands)
