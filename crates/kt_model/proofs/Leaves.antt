-- What the leaves of the tables are made of: whom they send to, and what becomes of a node's work.
-- Cited by Backs, CanApplies, FirstCut, GoodActs, GoodAsks, Newer, QuietLeaves, Saves, StaysBacked.
use Rattle.kt_model.specs.Effect.{noted}
use Rattle.std.proofs.Common.{◌≡◌, ℕ, Bool, true, false, List, Contains, Option, None, Some, sym, subst, arith, refl, ap, ◌∙◌, length, ◌∷◌, [], length-append}
use Rattle.std.specs.Prelude.{IfSome, IsTrue, unwrap_or}
use Rattle.std.specs.List.{AllByRecursion}
use Rattle.kt_tuple.specs.declared.node.NodeId.{NodeId}
use Rattle.kt_tuple.specs.declared.node.NodeId.TheVariants as ids
use Rattle.kt_history.specs.declared.note.Note.{Note}
use Rattle.kt_script.specs.declared.command.Command.{Command}
use Rattle.kt_worker.specs.declared.worker.Worker.{Worker}
use Rattle.kt_shard.specs.declared.request.Request.{Request}
use Rattle.kt_shard.specs.Service.{Service}
use Rattle.kt_ckpt.specs.declared.header.CkptHeader.{CkptHeader}
use Rattle.kt_vote.specs.declared.asker.Asker.{Asker}
use Rattle.kt_vote.specs.declared.vote.Vote.{Vote}
use Rattle.kt_vote.specs.Poll.{Poll, outcome_of}
use Rattle.kt_link.specs.declared.label.Label.{Label}
use Rattle.kt_state.specs.declared.message.Message.{Message}
use Rattle.kt_state.specs.declared.message.Message.TheVariants as messages
use Rattle.kt_state.specs.declared.live.Phase.{Phase}
use Rattle.kt_state.specs.declared.change.BodyChange.TheVariants as bodies
use Rattle.kt_state.specs.Labels.{numbers}
use Rattle.kt_state.specs.Node.{Body, IsWorker, IsShard, Live, across, neighbours, poll_in, poll_of, Down}
use Rattle.kt_state.specs.Ready.{CanCount}
use Rattle.kt_state.specs.Updating.{changed_body}
use Rattle.kt_state.specs.Voting.{casting_to, casting_unless, casting_of, casting, poll_after, votes}
use Rattle.kt_state.specs.Asking.{check_asks, roll_asks}
use Rattle.kt_node.specs.Joining.{is_in_cohort, cohort}
use Rattle.kt_node.specs.Learning.{verdict_to}
use Rattle.kt_scenario.specs.Scene.{SceneModel, is_node}
use Rattle.kt_model.specs.State.{State, role_of, view}
use Rattle.kt_model.specs.auxiliary.Ready.{AreNeighbours, IsWithin, IsBodyReady, IsMessageReady, IsPollReady, IsPhaseReady, IsReady}
use Rattle.kt_model.proofs.Plans as plans
use Rattle.kt_model.proofs.Plans.{IsAlive, Votes}
use Rattle.kt_model.proofs.Scene.{role-id, across-neighbour}
use Rattle.kt_model.proofs.Lists.{all-from, all-map, all-numbers, filter-was}
use Rattle.kt_model.proofs.Growing.{body-grown, long-noted}
use Rattle.kt_model.proofs.Within.{length-left}
use Rattle.kt_model.proofs.Good.{live-ready}
use Rattle.kt_logs.proofs.Shared.{all-at}
use Rattle.kt_store.specs.Content.{verdict_of}
use Rattle.kt_model.specs.StoreReads.{of_poll}

-- ---- the work

pub stay-body : (script : List Command) (h : List Note) (note : Option Note) (p : NodeId) (b : Body) → IsBodyReady script (length h) p b
    → IsBodyReady script (length (noted h note)) p (changed_body b bodies.Stay)
stay-body script h note p (IsWorker x) is = body-grown script (length h) (length (noted h note)) p (IsWorker x) (long-noted h note) is
stay-body script h note p (IsShard y) is = body-grown script (length h) (length (noted h note)) p (IsShard y) (long-noted h note) is

pub work-body : (script : List Command) (h : List Note) (note : Note) (p : NodeId) (b : Body) (x new : Worker) → b ≡ IsWorker x
    → (IsWithin script x → IsWithin script new)
    → IsBodyReady script (length h) p b → IsBodyReady script (length (noted h (Some note))) p (changed_body b (bodies.Work new))
work-body script h note (ids.Worker n) (IsWorker w) x new e keeps is = let same : w ≡ x = cc in keeps (subst (IsWithin script) same is)
work-body script h note (ids.Shard n) (IsWorker w) x new e keeps is = absurd is
work-body script h note p (IsShard y) x new e keeps is = absurd cc

pub wait-body : (script : List Command) (h : List Note) (note : Note) (p : NodeId) (b : Body) (worker : ℕ) (request : Request)
    → IsBodyReady script (length h) p b → IsBodyReady script (length (noted h (Some note))) p (changed_body b (bodies.Wait worker request))
wait-body script h note p (IsWorker x) worker request is =
    body-grown script (length h) (length (noted h (Some note))) p (IsWorker x) (long-noted h (Some note)) is
wait-body script h note (ids.Worker n) (IsShard y) worker request is = absurd is
wait-body script h note (ids.Shard n) (IsShard y) worker request is = let long = long-noted h (Some note) in omega (arith, is, long)

pub serve-body : (script : List Command) (h : List Note) (note : Note) (p : NodeId) (b : Body) (worker : ℕ) (v : Service)
    → IsBodyReady script (length h) p b → IsBodyReady script (length (noted h (Some note))) p (changed_body b (bodies.Serve worker v))
serve-body script h note p (IsWorker x) worker v is =
    body-grown script (length h) (length (noted h (Some note))) p (IsWorker x) (long-noted h (Some note)) is
serve-body script h note (ids.Worker n) (IsShard y) worker v is = absurd is
serve-body script h note (ids.Shard n) (IsShard y) worker v is =
    let long = length-left y.bag v.request.op v.place in
    let one = length-append h (note ∷ []) in
    omega (arith, is, long, one)

-- a live node can count one message more
pub can-count : (s : State) → IsReady s → (p : NodeId) (n : Live) → IsAlive s p n → CanCount n
can-count s ready p n at =
    let few = (live-ready s ready p n at).count in
    let steps = ready.few_steps in
    omega (arith, few, steps)

-- ---- ballots

pub after-poll : (scene : SceneModel) (p : NodeId) (b : Poll) (vote : Option (NodeId × Vote)) → IsPollReady scene p b → IsPollReady scene p (poll_after b vote)
after-poll scene p b None is = is
after-poll scene p b (Some vote) is = record { parent = is.parent; asked = is.asked }

phase-poll : (scene : SceneModel) (p : NodeId) (x : Phase) (b : Poll) (phase : Poll → Phase) → Votes x b phase → IsPhaseReady scene p x → IsPollReady scene p b
phase-poll scene p x b phase plans.holds is = is
phase-poll scene p x b phase plans.rolls is = is

-- what a node that votes knows of its ballot
pub poll-ready : (s : State) → IsReady s → (p : NodeId) (n : Live) (b : Poll) (phase : Poll → Phase) → IsAlive s p n → Votes n.phase b phase
    → IsPollReady s.scene p b
poll-ready s ready p n b phase at voting = phase-poll s.scene p n.phase b phase voting (live-ready s ready p n at).phase

-- the ballot of a node that votes
pub ballot_in : (x : Phase) (b : Poll) (phase : Poll → Phase) → Votes x b phase → poll_in x ≡ Some b
ballot_in x b phase plans.holds = refl
ballot_in x b phase plans.rolls = refl

-- what the board has of the instance of an alive node's ballot
pub of_ballot : (s : State) (p : NodeId) (n : Live) (b : Poll) → IsAlive s p n → poll_in n.phase ≡ Some b
    → of_poll s.content (poll_of (view s p).node) ≡ verdict_of s.content b.instance
of_ballot s p n b alive votes_in =
    ap (λ row. of_poll s.content (poll_of (unwrap_or row Down))) alive ∙ ap (of_poll s.content) votes_in

pub phase-ready : (scene : SceneModel) (p : NodeId) (x : Phase) (b c : Poll) (phase : Poll → Phase) → Votes x b phase → IsPollReady scene p c
    → IsPhaseReady scene p (phase c)
phase-ready scene p x b c phase plans.holds is = is
phase-ready scene p x b c phase plans.rolls is = is

-- ---- who is asked

pub all-neighbours : (scene : SceneModel) (p : NodeId) → IsTrue (is_node scene p) → AllByRecursion (AreNeighbours scene p) (neighbours (role_of scene p))
all-neighbours scene p there =
    all-map (AreNeighbours scene p) (across (role_of scene p).id) (numbers 1 (role_of scene p).peers)
    (all-numbers (λ k. AreNeighbours scene p (across (role_of scene p).id k)) 1 (role_of scene p).peers
    (λ k low high. subst (λ (q : NodeId). AreNeighbours scene p (across q k)) (sym (role-id scene p))
    (across-neighbour scene p k there low (omega (arith, high)))))

pub neighbour-in : (scene : SceneModel) (p : NodeId) → IsTrue (is_node scene p) → (q : NodeId) → Contains (neighbours (role_of scene p)) q
    → AreNeighbours scene p q
neighbour-in scene p there q c = all-at (AreNeighbours scene p) (neighbours (role_of scene p)) q (all-neighbours scene p there) c

pub cohort-in : (scene : SceneModel) (p : NodeId) (permanent : Option CkptHeader) (n : Live) → IsTrue (is_node scene p)
    → (q : NodeId) → Contains (cohort (role_of scene p) permanent n) q → AreNeighbours scene p q
cohort-in scene p permanent n there q c =
    neighbour-in scene p there q (filter-was (is_in_cohort permanent n) (neighbours (role_of scene p)) q c)

-- ---- what is sent

-- the message goes to a neighbour
abbrev pub GoesNear : SceneModel → NodeId → NodeId × Message → Type 0
GoesNear scene p m = AreNeighbours scene p m.0

-- the message is ready
abbrev pub SaysReady : List Note → NodeId × Message → Type 0
SaysReady h m = IsMessageReady h m.1

-- votes go to who asked
pub casting-all : (P : NodeId × Message → Type 0) (b : Poll) → IfSome b.parent (λ a. (vote : Vote) → P (a.node, messages.Vote vote))
    → AllByRecursion P (votes (casting b))
casting-all P b h = by b.parent h
  where
    agrees : (parent : Asker) → ((vote : Vote) → P (parent.node, messages.Vote vote)) → (o : Option Bool) → AllByRecursion P (votes (casting_to b parent o))
    agrees parent h None = tt
    agrees parent h (Some agreed) = (h _, tt)

    unless : (parent : Asker) → ((vote : Vote) → P (parent.node, messages.Vote vote)) → (voted : Bool)
        → AllByRecursion P (votes (casting_unless voted b parent))
    unless parent h true = tt
    unless parent h false = agrees parent h (outcome_of b)

    by : (o : Option Asker) → IfSome o (λ a. (vote : Vote) → P (a.node, messages.Vote vote)) → AllByRecursion P (votes (casting_of b o))
    by None h = tt
    by (Some parent) h = unless parent h b.voted

pub casting-near : (scene : SceneModel) (p : NodeId) (b : Poll) → IsPollReady scene p b → AllByRecursion (GoesNear scene p) (votes (casting b))
casting-near scene p b is = casting-all (GoesNear scene p) b (by b.parent is.parent)
  where
    by : (o : Option Asker) → IfSome o (λ a. AreNeighbours scene p a.node) → IfSome o (λ a. (vote : Vote) → AreNeighbours scene p a.node)
    by None h = tt
    by (Some a) h = λ vote. h

pub casting-says : (h : List Note) (b : Poll) → AllByRecursion (SaysReady h) (votes (casting b))
casting-says h b = casting-all (SaysReady h) b (by b.parent)
  where
    by : (o : Option Asker) → IfSome o (λ a. (vote : Vote) → Unit {0})
    by None = tt
    by (Some a) = λ vote. tt

-- asks and verdicts go to who is asked
pub checks-near : (scene : SceneModel) (p : NodeId) (instance : ℕ) (n : Live) (asked : List NodeId)
    → ((q : NodeId) → Contains asked q → AreNeighbours scene p q)
    → AllByRecursion (GoesNear scene p) (check_asks instance n asked)
checks-near scene p instance n asked near = all-map (GoesNear scene p) _ asked (all-from (AreNeighbours scene p) asked near)

pub checks-say : (h : List Note) (instance : ℕ) (n : Live) (asked : List NodeId) → AllByRecursion (SaysReady h) (check_asks instance n asked)
checks-say h instance n asked = all-map (SaysReady h) _ asked (all-from (λ q. Unit {0}) asked (λ q c. tt))

pub rolls-near : (scene : SceneModel) (p : NodeId) (instance incarnation : ℕ) (label : ℕ → Label) (asked : List NodeId)
    → ((q : NodeId) → Contains asked q → AreNeighbours scene p q)
    → AllByRecursion (GoesNear scene p) (roll_asks instance incarnation label asked)
rolls-near scene p instance incarnation label asked near = all-map (GoesNear scene p) _ asked (all-from (AreNeighbours scene p) asked near)

pub rolls-say : (h : List Note) (instance incarnation : ℕ) (label : ℕ → Label) (asked : List NodeId)
    → AllByRecursion (SaysReady h) (roll_asks instance incarnation label asked)
rolls-say h instance incarnation label asked = all-map (SaysReady h) _ asked (all-from (λ q. Unit {0}) asked (λ q c. tt))

pub verdicts-near : (scene : SceneModel) (p : NodeId) (instance : ℕ) (agreed : Bool) (asked : List NodeId)
    → ((q : NodeId) → Contains asked q → AreNeighbours scene p q)
    → AllByRecursion (GoesNear scene p) (verdict_to instance agreed asked)
verdicts-near scene p instance agreed asked near = all-map (GoesNear scene p) _ asked (all-from (AreNeighbours scene p) asked near)

pub verdicts-say : (h : List Note) (instance : ℕ) (agreed : Bool) (asked : List NodeId) → AllByRecursion (SaysReady h) (verdict_to instance agreed asked)
verdicts-say h instance agreed asked = all-map (SaysReady h) _ asked (all-from (λ q. Unit {0}) asked (λ q c. tt))
