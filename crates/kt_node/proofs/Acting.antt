-- What a plan makes of its node can be carried out.
-- Cited by `laws::plans_can_be_carried_out`; other crates.
use Rattle.std.proofs.Common.{◌≡◌, ℕ, ◌<◌, ◌≤◌, Bool, true, false, if◌then◌else◌, List, [], ◌∷◌, Option, None, Some}
use Rattle.std.proofs.Common.{Result, Ok, Err, subst, refl, slice_get, arith}
use Rattle.std.proofs.Math.Nat.{mod-lt}
use Rattle.std.specs.Prelude.{All, IfSome}
use Rattle.kt_tuple.specs.declared.node.NodeId.{NodeId}
use Rattle.kt_tuple.specs.declared.op.Op.{Op}
use Rattle.kt_tuple.specs.Signature.{kinds_of_op, signature_of}
use Rattle.kt_worker.specs.declared.worker.Worker.{Worker}
use Rattle.kt_worker.specs.WorkerModel.{next_request, again_request, awaits, heard}
use Rattle.kt_shard.specs.Limits.{sessions}
use Rattle.kt_shard.specs.Shard.{Shard}
use Rattle.kt_shard.specs.Arrival.{Arrival, Waits, Again, Ignored, arrival}
use Rattle.kt_shard.specs.Service.{Service, service}
use Rattle.kt_shard.specs.declared.error.ServeError.{ServeError}
use Rattle.kt_shard.specs.declared.request.Request.{Request}
use Rattle.kt_tuple.specs.declared.op.Answer.{Answer}
use Rattle.kt_state.specs.declared.message.Talk.{Talk}
use Rattle.kt_state.specs.declared.message.Talk.TheVariants as talks
use Rattle.kt_state.specs.declared.message.AppMessage.{AppMessage}
use Rattle.kt_state.specs.declared.live.Phase.{Phase}
use Rattle.kt_state.specs.declared.live.Phase.TheVariants as phases
use Rattle.kt_state.specs.declared.change.BodyChange.TheVariants as bodies
use Rattle.kt_state.specs.declared.change.KeptChange.{KeptChange}
use Rattle.kt_state.specs.declared.change.KeptChange.TheVariants as keeps
use Rattle.kt_state.specs.declared.plan.Plan.{Plan}
use Rattle.kt_state.specs.Labels.{table_size}
use Rattle.kt_state.specs.Node.{Body, IsWorker, IsShard, Live, Node, Down, Alive, node_number, worker_in, shard_in}
use Rattle.kt_node.specs.View.{View}
use Rattle.kt_state.specs.Plan.{Planned}
use Rattle.kt_node.specs.Speaking.{CanAct, CanSpeak, HasPlace, KeptHavePlaces}
use Rattle.kt_state.specs.Ready.{CanCount, CanChange, CanChangeBody}
use Rattle.kt_node.specs.Talking.{home, issue_plan, repeat_plan, service_plan, request_plan, reply_plan, talk_plan, heard_plan}
use Rattle.kt_state.specs.Kept.{first_kept}
use Rattle.kt_node.specs.Steps.{up_in, up_of, by_up, issue, issue_by, issue_unless_kept, issue_found}
use Rattle.kt_node.specs.Steps.{repeat, repeat_by, repeat_found, take, take_first, serve, serve_by, serve_found}
use Rattle.kt_node.specs.AppMessages.{keep_plan, app_when_up, app_in, app_plan, hear_app}

-- the live node can make the plan's change
abbrev Can : Live → Plan → Type 0
Can n plan = CanChange (Alive n) plan.change

pub can-stay : (b : Body) → CanChangeBody b bodies.Stay
can-stay (IsWorker x) = tt
can-stay (IsShard y) = tt

pub works : (b : Body) (x : Worker) → CanChangeBody b (bodies.Work x)
works (IsWorker w) x = tt
works (IsShard y) x = tt

pub waits : (b : Body) (worker : ℕ) (request : Request) → worker < sessions → CanChangeBody b (bodies.Wait worker request)
waits (IsWorker w) worker request lt = tt
waits (IsShard y) worker request lt = lt

pub serves : (b : Body) (worker : ℕ) (s : Service) → worker < sessions → CanChangeBody b (bodies.Serve worker s)
serves (IsWorker w) worker s lt = tt
serves (IsShard y) worker s lt = lt

home_has_place : (peers : ℕ) (op : Op) → 1 ≤ peers → peers < table_size → HasPlace (home peers op)
home_has_place peers op some few = let lt = mod-lt (signature_of (kinds_of_op op)) some in omega (arith, lt, few)

issues : (v : View) (n : Live) (r : ℕ × Op) (x : Worker) → 1 ≤ v.role.peers → v.role.peers < table_size → CanCount n → Can n (issue_plan v n r x)
issues v n r x some few count =
    record { body = works n.body x; heard = tt; said = record { count = count; place = home_has_place v.role.peers r.1 some few } }

repeats : (v : View) (n : Live) (r : ℕ × Op) → 1 ≤ v.role.peers → v.role.peers < table_size → CanCount n → Can n (repeat_plan v n r)
repeats v n r some few count =
    record { body = can-stay n.body; heard = tt; said = record { count = count; place = home_has_place v.role.peers r.1 some few } }

services : (v : View) (n : Live) (worker by : ℕ) (s : Service) → worker < sessions → CanCount n → Can n (service_plan v n worker by s)
services v n worker by s lt count =
    record { body = serves n.body worker s lt; heard = tt; said = record { count = count; place = lt } }

requests : (v : View) (n : Live) (kept : KeptChange) (from : NodeId) (app : AppMessage) (request : Request) (a : Arrival) → HasPlace from → CanCount n
    → Can n (request_plan v n kept from app request a)
requests v n kept from app request Waits place count = record { body = waits n.body (node_number from) request place; heard = place; said = tt }
requests v n kept from app request (Again answer) place count =
    record { body = can-stay n.body; heard = place; said = record { count = count; place = place } }
requests v n kept from app request Ignored place count = record { body = can-stay n.body; heard = place; said = tt }

either : (P : Plan → Type 0) (b : Bool) (p q : Plan) → P p → P q → P (if b then p else q)
either P true p q hp hq = hp
either P false p q hp hq = hq

replies : (v : View) (n : Live) (x : Worker) (kept : KeptChange) (from : NodeId) (app : AppMessage) (request : Request) (answer : Answer) → HasPlace from
    → Can n (reply_plan v x kept from app request answer)
replies v n x kept from app request answer place =
    either (Can n) (awaits x request.number request.op) _ _
    (record { body = works n.body (heard v.role.script x answer); heard = place; said = tt })
    (record { body = can-stay n.body; heard = place; said = tt })

talks_can : (v : View) (n : Live) (kept : KeptChange) (from : NodeId) (app : AppMessage) (body : Body) (talk : Talk) → HasPlace from → CanCount n
    → Can n (talk_plan v n kept from app body talk)
talks_can v n kept from app (IsWorker x) (talks.Reply request answer) place count = replies v n x kept from app request answer place
talks_can v n kept from app (IsWorker x) (talks.Request request) place count = record { body = can-stay n.body; heard = place; said = tt }
talks_can v n kept from app (IsShard y) (talks.Request request) place count =
    requests v n kept from app request (arrival y (node_number from) request) place count
talks_can v n kept from app (IsShard y) (talks.Reply request answer) place count = record { body = can-stay n.body; heard = place; said = tt }

heard_can : (v : View) (n : Live) (kept : KeptChange) (from : NodeId) (app : AppMessage) → HasPlace from → CanCount n → Can n (heard_plan v n kept from app)
heard_can v n kept from app place count = talks_can v n kept from app n.body app.talk place count

abbrev planned : Plan → Planned
planned p = Ok p

-- what is planned is this plan
pub this : (P : Plan → Type 0) (p q : Plan) → P p → planned p ≡ planned q → P q
this P p q h e = let same : p ≡ q = cc in subst P same h

-- ---- the steps, as deep as their definitions go

while_up-can : (node : Node) (plan : Live → Planned) (p : Plan)
    → ((n : Live) → node ≡ Alive n → CanCount n → plan n ≡ Ok p → Can n p) → CanSpeak node → by_up (up_of node) plan ≡ Ok p → CanChange node p.change
while_up-can Down plan p each count e = absurd cc
while_up-can (Alive n) plan p each count e = by_phase n.phase count e
  where
    by_phase : (phase : Phase) → IfSome (up_in n phase) CanCount → by_up (up_in n phase) plan ≡ Ok p → Can n p
    by_phase phases.Up count e = each n refl count e
    by_phase (phases.Held b) count e = absurd cc
    by_phase (phases.Rolling b) count e = absurd cc

issue_found-can : (v : View) (n : Live) (x : Worker) (r : Option (ℕ × Op)) (p : Plan) → 1 ≤ v.role.peers → v.role.peers < table_size → CanCount n
    → issue_found v n x r ≡ Ok p → Can n p
issue_found-can v n x None p some few count e = absurd cc
issue_found-can v n x (Some r) p some few count e = this (Can n) _ p (issues v n r _ some few count) e

issue_unless-can : (v : View) (n : Live) (x : Worker) (kept : Option (NodeId × AppMessage)) (p : Plan) → 1 ≤ v.role.peers → v.role.peers < table_size
    → CanCount n
    → issue_unless_kept v n x kept ≡ Ok p → Can n p
issue_unless-can v n x None p some few count e = issue_found-can v n x (next_request v.role.script x) p some few count e
issue_unless-can v n x (Some first) p some few count e = absurd cc

issue_by-can : (v : View) (n : Live) (x : Option Worker) (p : Plan) → 1 ≤ v.role.peers → v.role.peers < table_size → CanCount n
    → issue_by v n x ≡ Ok p → Can n p
issue_by-can v n None p some few count e = absurd cc
issue_by-can v n (Some x) p some few count e = issue_unless-can v n x (first_kept n) p some few count e

pub issue-can : (v : View) (p : Plan) → CanAct v → issue v ≡ Ok p → CanChange v.node p.change
issue-can v p can e =
    while_up-can v.node (λ n. issue_by v n (worker_in n.body)) p (λ n is count f. issue_by-can v n (worker_in n.body) p can.some can.few count f) can.count e

repeat_found-can : (v : View) (n : Live) (r : Option (ℕ × Op)) (p : Plan) → 1 ≤ v.role.peers → v.role.peers < table_size → CanCount n
    → repeat_found v n r ≡ Ok p → Can n p
repeat_found-can v n None p some few count e = absurd cc
repeat_found-can v n (Some r) p some few count e = this (Can n) _ p (repeats v n r some few count) e

repeat_by-can : (v : View) (n : Live) (x : Option Worker) (p : Plan) → 1 ≤ v.role.peers → v.role.peers < table_size → CanCount n
    → repeat_by v n x ≡ Ok p → Can n p
repeat_by-can v n None p some few count e = absurd cc
repeat_by-can v n (Some x) p some few count e = repeat_found-can v n (again_request x) p some few count e

pub repeat-can : (v : View) (p : Plan) → CanAct v → repeat v ≡ Ok p → CanChange v.node p.change
repeat-can v p can e =
    while_up-can v.node (λ n. repeat_by v n (worker_in n.body)) p (λ n is count f. repeat_by-can v n (worker_in n.body) p can.some can.few count f) can.count e

first_has_place : (kept : List (NodeId × AppMessage)) → All (λ (x : NodeId × AppMessage). HasPlace x.0) kept → IfSome (slice_get kept 0) (λ x. HasPlace x.0)
first_has_place [] all = tt
first_has_place (x ∷ later) all = all 0 x (omega arith)

take_first-can : (v : View) (n : Live) (first : Option (NodeId × AppMessage)) (p : Plan) → IfSome first (λ x. HasPlace x.0) → CanCount n
    → take_first v n first ≡ Ok p → Can n p
take_first-can v n None p place count e = absurd cc
take_first-can v n (Some first) p place count e = this (Can n) _ p (heard_can v n keeps.TakeFirst first.0 first.1 place count) e

pub take-can : (v : View) (p : Plan) → CanAct v → take v ≡ Ok p → CanChange v.node p.change
take-can v p can e =
    while_up-can v.node (λ n. take_first v n (first_kept n)) p
    (λ n is count f. take_first-can v n (first_kept n) p (first_has_place n.kept (subst KeptHavePlaces is can.kept)) count f) can.count e

serve_found-can : (v : View) (n : Live) (worker by : ℕ) (s : Result Service ServeError) (p : Plan) → worker < sessions → CanCount n
    → serve_found v n worker by s ≡ Ok p → Can n p
serve_found-can v n worker by (Ok s) p lt count e = this (Can n) _ p (services v n worker by s lt count) e
serve_found-can v n worker by (Err refusal) p lt count e = absurd cc

serve_by-can : (v : View) (n : Live) (worker place by : ℕ) (y : Option Shard) (p : Plan) → worker < sessions → CanCount n
    → serve_by v n worker place by y ≡ Ok p → Can n p
serve_by-can v n worker place by None p lt count e = absurd cc
serve_by-can v n worker place by (Some y) p lt count e = serve_found-can v n worker by (service y worker place) p lt count e

pub serve-can : (v : View) (worker place by : ℕ) (p : Plan) → CanAct v → worker < sessions → serve v worker place by ≡ Ok p → CanChange v.node p.change
serve-can v worker place by p can lt e =
    while_up-can v.node (λ n. serve_by v n worker place by (shard_in n.body)) p
    (λ n is count f. serve_by-can v n worker place by (shard_in n.body) p lt count f) can.count e

-- ---- an underlying message

keeps_can : (n : Live) (from : NodeId) (app : AppMessage) → Can n (keep_plan from app)
keeps_can n from app = record { body = can-stay n.body; heard = tt; said = tt }

up-can : (v : View) (n : Live) (from : NodeId) (app : AppMessage) (first : Option (NodeId × AppMessage)) → HasPlace from → CanCount n
    → Can n (app_when_up v n from app first)
up-can v n from app None place count = heard_can v n keeps.Stay from app place count
up-can v n from app (Some first) place count = keeps_can n from app

app_in-can : (v : View) (n : Live) (from : NodeId) (app : AppMessage) (phase : Phase) → HasPlace from → IfSome (up_in n phase) CanCount
    → Can n (app_in v n from app phase)
app_in-can v n from app phases.Up place count = up-can v n from app (first_kept n) place count
app_in-can v n from app (phases.Held b) place count = keeps_can n from app
app_in-can v n from app (phases.Rolling b) place count = tt

app_plan-can : (v : View) (from : NodeId) (app : AppMessage) (node : Node) → HasPlace from → CanSpeak node → CanChange node (app_plan v from app node).change
app_plan-can v from app Down place count = tt
app_plan-can v from app (Alive n) place count = app_in-can v n from app n.phase place count

pub hear_app-can : (v : View) (from : NodeId) (app : AppMessage) (p : Plan) → CanAct v → HasPlace from → hear_app v from app ≡ Ok p → CanChange v.node p.change
hear_app-can v from app p can place e = this (λ (q : Plan). CanChange v.node q.change) _ p (app_plan-can v from app v.node place can.count) e
