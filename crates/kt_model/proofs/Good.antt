-- What a plan has so that it can be carried out and leaves the state ready, told of its parts.
-- Cited by CanApplies, Fit, GoodActs, GoodAsks, Leaves, Saves, StaysBacked.
use Rattle.std.proofs.Common.{◌≡◌, ℕ, ◌+◌, ◌<◌, ◌≤◌, List, [], length, Contains, not, Option, None, Some, inl, inr, refl, sym, ap, ◌∙◌, subst, arith}
use Rattle.std.specs.Prelude.{IfSome, IsTrue, is_some, unwrap_or}
use Rattle.std.specs.Option.{option_map}
use Rattle.std.specs.List.{AllByRecursion}
use Rattle.std.proofs.lemmas.List.Elements.{Contains-push_cases}
use Rattle.kt_tuple.specs.declared.node.NodeId.{NodeId}
use Rattle.kt_tuple.specs.Node.{node_index}
use Rattle.kt_history.specs.declared.note.Note.{Note}
use Rattle.kt_history.specs.WellFormed.{MayFollow}
use Rattle.kt_history.specs.Chronicle.{node_of}
use Rattle.kt_shard.specs.Table.{at}
use Rattle.kt_logs.proofs.Shared.{all-at}
use Rattle.kt_shard.proofs.Shared.{length-put}
use Rattle.kt_state.specs.declared.message.Message.{Message}
use Rattle.kt_state.specs.declared.message.AppMessage.{AppMessage}
use Rattle.kt_state.specs.declared.live.Phase.{Phase}
use Rattle.kt_state.specs.declared.change.KeptChange.{KeptChange}
use Rattle.kt_state.specs.declared.change.KeptChange.TheVariants as keeps
use Rattle.kt_state.specs.declared.change.Update.{Update}
use Rattle.kt_state.specs.declared.change.Change.TheVariants as changes
use Rattle.kt_state.specs.declared.plan.Plan.{Plan}
use Rattle.kt_state.specs.declared.plan.Write.{Write}
use Rattle.kt_state.specs.Node.{Live, Node, Down, Alive}
use Rattle.kt_state.specs.Ready.{CanUpdate, CanChange}
use Rattle.kt_state.specs.Updating.{changed, changed_body, changed_kept, is_above, phase_in, said_count, updated}
use Rattle.kt_scenario.specs.declared.step.Step.{Step}
use Rattle.kt_scenario.specs.Step.{owner}
use Rattle.kt_scenario.specs.declared.step.TheConstants.{MAX_STEPS, MAX_NOTES}
use Rattle.kt_scenario.specs.Scene.{SceneModel, is_node}
use Rattle.kt_model.specs.State.{State, node, link_place, role_of, view}
use Rattle.kt_model.specs.Effect.{noted, taken_off, applied}
use Rattle.kt_model.specs.auxiliary.Ready.{AreNeighbours, IsBodyReady, IsMessageReady, IsPhaseReady, IsKeptReady, IsLiveReady, IsNodeReady, IsReady, CanApply}
use Rattle.kt_model.proofs.Plans.{IsAlive}
use Rattle.kt_model.proofs.OnLinks.{Contains-tail, taken_off-was, sent-cases}
use Rattle.kt_model.proofs.Frames.{applied-rows, put-holds}
use Rattle.kt_model.proofs.Scene.{node-row}
use Rattle.kt_model.proofs.Lists.{filter-was}
use Rattle.kt_model.proofs.Growing.{message-noted, kept-noted, row-grown, noted-causes, length-noted}

pub record IsGood (s : State) (p : NodeId) (plan : Plan) : Type 0 where
  pub there : IsTrue (is_node s.scene p)
  pub send : AllByRecursion (λ m. AreNeighbours s.scene p m.0) plan.send
  pub change : CanChange (view s p).node plan.change
  pub note : IfSome plan.note (MayFollow s.history)
  pub own : IfSome plan.note (λ note. node_of note ≡ p)
  pub says : AllByRecursion (λ m. IsMessageReady (noted s.history plan.note) m.1) plan.send
  pub becomes : IfSome (option_map (changed plan.change) (node s p)) (IsNodeReady s.scene (noted s.history plan.note) (s.made + 1) p)

pub good-applies : (s : State) (p : NodeId) (plan : Plan) → IsReady s → IsGood s p plan → CanApply s p plan
good-applies s p plan ready g =
    record { row = node-row s.scene ready.scene p g.there; send = g.send; change = g.change; note = g.note; own = g.own }

-- ---- the state after it

there-after : (s : State) → IsReady s → (step : Step) (plan : Plan) (q : NodeId) → is_some (node (applied s step plan) q) ≡ is_node s.scene q
there-after s ready step plan = applied-rows s step plan (λ q row. is_some row ≡ is_node s.scene q) own (λ q apart. ready.there q)
  where
    same : (row : Option Node) → is_some (option_map (changed plan.change) row) ≡ is_some row
    same None = refl
    same (Some x) = refl

    own : is_some (option_map (changed plan.change) (node s (owner step))) ≡ is_node s.scene (owner step)
    own = same (node s (owner step)) ∙ ready.there (owner step)

messages-after : (s : State) → IsReady s → (step : Step) (plan : Plan) → IsGood s (owner step) plan → (k : ℕ) (m : Message)
    → Contains (at [] (applied s step plan).links k) m
    → IsMessageReady (noted s.history plan.note) m
messages-after s ready step plan g k m c =
    elim (sent-cases (link_place s.scene) (taken_off (link_place s.scene) s.links step) (owner step) plan.send (Some k) m c) [
      | inl old ↦ message-noted s.history plan.note m (ready.messages k m (taken_off-was (link_place s.scene) s.links step (Some k) m old))
      | inr new ↦ all-at (λ (x : NodeId × Message). IsMessageReady (noted s.history plan.note) x.1) plan.send (new.to, m) g.says new.among
    ]

pub good-ready : (s : State) (step : Step) (plan : Plan) → IsReady s → IsGood s (owner step) plan → s.made < MAX_STEPS → length s.history < MAX_NOTES
    → IsReady (applied s step plan)
good-ready s step plan ready g few room =
    let p = owner step in
    let row = node-row s.scene ready.scene p g.there in
    let row_room : node_index p < length s.nodes = let rows = ready.rows in omega (arith, row, rows) in
    let own_room : node_index p < length s.own = let counts = ready.counts in omega (arith, row, counts) in
    record {
      scene = ready.scene;
      scripts = ready.scripts;
      rows = length-put None s.nodes (node_index p) _ row_room ∙ ready.rows;
      counts = length-put 0 s.own (node_index p) _ own_room ∙ ready.counts;
      there = there-after s ready step plan;
      nodes = applied-rows s step plan (λ q x. IfSome x (IsNodeReady s.scene (noted s.history plan.note) (s.made + 1) q)) g.becomes
          (λ q apart. row-grown s.scene s.history plan.note s.made q (node s q) (ready.nodes q));
      few_steps = omega (arith, few);
      few_own = put-holds (λ (n : ℕ). n ≤ s.made + 1) 0 s.own (node_index p) _ (let h = ready.few_own (node_index p) in omega (arith, h))
          (λ k. let h = ready.few_own k in omega (arith, h));
      few_notes = let one = length-noted s.history plan.note in omega (arith, room, one);
      few_made = λ new. let one = length-noted s.history plan.note in let h = ready.few_made new in omega (arith, h, one);
      causes = noted-causes s.history plan.note ready.causes g.note;
      messages = messages-after s ready step plan g;
    }

-- ---- a live node that turns

-- what is put behind the kept messages has come from a neighbour
abbrev pub IsKeeping : SceneModel → List Note → NodeId → KeptChange → Type 0
IsKeeping scene h p (keeps.Append from app) = IsKeptReady scene h p (from, app)
IsKeeping scene h p _ = Unit {0}

-- the parts of an update that leaves its node ready
pub record UpdatesWell (s : State) (note : Option Note) (p : NodeId) (n : Live) (t : Update) : Type 0 where
  pub can : CanUpdate n t
  pub body : IsBodyReady (role_of s.scene p).script (length (noted s.history note)) p (changed_body n.body t.body)
  pub kept : IsKeeping s.scene s.history p t.kept
  pub phase : IfSome t.phase (IsPhaseReady s.scene p)

kept-well : (scene : SceneModel) (h : List Note) (note : Option Note) (p : NodeId) (kept : List (NodeId × AppMessage)) (change : KeptChange)
    → ((x : NodeId × AppMessage) → Contains kept x → IsKeptReady scene h p x) → IsKeeping scene h p change
    → (x : NodeId × AppMessage) → Contains (changed_kept kept change) x → IsKeptReady scene (noted h note) p x
kept-well scene h note p kept keeps.Stay is well x c = kept-noted scene h note p x (is x c)
kept-well scene h note p kept keeps.TakeFirst is well x c = kept-noted scene h note p x (is x (Contains-tail kept x c))
kept-well scene h note p kept (keeps.Sieve from l) is well x c =
    kept-noted scene h note p x (is x (filter-was (λ (y : NodeId × AppMessage). not (is_above from l y)) kept x c))
kept-well scene h note p kept (keeps.Append from app) is well x c = elim (Contains-push_cases kept (from, app) x c) [
  | inl was ↦ kept-noted scene h note p x (is x was)
  | inr e ↦ subst (IsKeptReady scene (noted h note) p) e (kept-noted scene h note p (from, app) well)
]

few-said : (count made : ℕ) (said : Option NodeId) → count ≤ made → said_count count said ≤ made + 1
few-said count made None le = omega (arith, le)
few-said count made (Some q) le = omega (arith, le)

phase-well : (scene : SceneModel) (p : NodeId) (phase : Phase) (new : Option Phase) → IsPhaseReady scene p phase → IfSome new (IsPhaseReady scene p)
    → IsPhaseReady scene p (phase_in phase new)
phase-well scene p phase None is well = is
phase-well scene p phase (Some new) is well = well

updated-ready : (s : State) (note : Option Note) (p : NodeId) (n : Live) (t : Update) → IsLiveReady s.scene s.history s.made p n → UpdatesWell s note p n t
    → IsLiveReady s.scene (noted s.history note) (s.made + 1) p (updated t n)
updated-ready s note p n t is well = record {
  body = well.body;
  count = few-said n.count s.made t.said is.count;
  phase = phase-well s.scene p n.phase t.phase is.phase well.phase;
  kept = kept-well s.scene s.history note p n.kept t.kept is.kept well.kept;
}

-- what a ready state knows of a live node
pub live-ready : (s : State) → IsReady s → (p : NodeId) (n : Live) → IsAlive s p n → IsLiveReady s.scene s.history s.made p n
live-ready s ready p n at = let P : Option Node → Type 0 = λ row. IfSome row (IsNodeReady s.scene s.history s.made p) in subst P at (ready.nodes p)

pub live-seen : (s : State) (p : NodeId) (n : Live) → IsAlive s p n → (view s p).node ≡ Alive n
live-seen s p n at = ap (λ row. unwrap_or row Down) at

-- a live node turns, sends and notes
pub update-good : (s : State) → IsReady s → (p : NodeId) (n : Live) (t : Update) (send : List (NodeId × Message)) (note : Option Note) (write : Option Write)
    → IsTrue (is_node s.scene p) → IsAlive s p n → UpdatesWell s note p n t
    → AllByRecursion (λ m. AreNeighbours s.scene p m.0) send → AllByRecursion (λ m. IsMessageReady (noted s.history note) m.1) send
    → IfSome note (MayFollow s.history) → IfSome note (λ x. node_of x ≡ p)
    → IsGood s p (record { change = changes.Update t; send = send; note = note; write = write })
update-good s ready p n t send note write there at well sends says may own = record {
  there = there;
  send = sends;
  change = subst (λ (x : Node). CanChange x (changes.Update t)) (sym (live-seen s p n at)) well.can;
  note = may;
  own = own;
  says = says;
  becomes = subst (λ (row : Option Node). IfSome (option_map (changed (changes.Update t)) row) (IsNodeReady s.scene (noted s.history note) (s.made + 1) p))
      (sym at)
      (updated-ready s note p n t (live-ready s ready p n at) well);
}

-- the node stays as it is
pub stay-good : (s : State) → IsReady s → (p : NodeId) (note : Option Note) (write : Option Write) → IsTrue (is_node s.scene p)
    → IfSome note (MayFollow s.history) → IfSome note (λ x. node_of x ≡ p)
    → IsGood s p (record { change = changes.Stay; send = []; note = note; write = write })
stay-good s ready p note write there may own = record {
  there = there;
  send = tt;
  change = can (view s p).node;
  note = may;
  own = own;
  says = tt;
  becomes = stays (node s p) (row-grown s.scene s.history note s.made p (node s p) (ready.nodes p));
}
  where
    can : (x : Node) → CanChange x changes.Stay
    can Down = tt
    can (Alive n) = tt

    stays : (row : Option Node) → IfSome row (IsNodeReady s.scene (noted s.history note) (s.made + 1) p)
        → IfSome (option_map (changed changes.Stay) row) (IsNodeReady s.scene (noted s.history note) (s.made + 1) p)
    stays None is = tt
    stays (Some x) is = is

-- the node falls
pub fall-good : (s : State) → IsReady s → (p : NodeId) (note : Option Note) (write : Option Write) → IsTrue (is_node s.scene p)
    → IfSome note (MayFollow s.history) → IfSome note (λ x. node_of x ≡ p)
    → IsGood s p (record { change = changes.Fall; send = []; note = note; write = write })
fall-good s ready p note write there may own = record {
  there = there;
  send = tt;
  change = can (view s p).node;
  note = may;
  own = own;
  says = tt;
  becomes = falls (node s p);
}
  where
    can : (x : Node) → CanChange x changes.Fall
    can Down = tt
    can (Alive n) = tt

    falls : (row : Option Node) → IfSome (option_map (changed changes.Fall) row) (IsNodeReady s.scene (noted s.history note) (s.made + 1) p)
    falls None = tt
    falls (Some x) = tt

-- the node goes on as this one
pub load-good : (s : State) (p : NodeId) (live : Live) (send : List (NodeId × Message)) (note : Option Note) (write : Option Write)
    → IsTrue (is_node s.scene p) → IsLiveReady s.scene (noted s.history note) (s.made + 1) p live
    → AllByRecursion (λ m. AreNeighbours s.scene p m.0) send → AllByRecursion (λ m. IsMessageReady (noted s.history note) m.1) send
    → IfSome note (MayFollow s.history) → IfSome note (λ x. node_of x ≡ p)
    → IsGood s p (record { change = changes.Load live; send = send; note = note; write = write })
load-good s p live send note write there is sends says may own = record {
  there = there;
  send = sends;
  change = can (view s p).node;
  note = may;
  own = own;
  says = says;
  becomes = loads (node s p);
}
  where
    can : (x : Node) → CanChange x (changes.Load live)
    can Down = tt
    can (Alive n) = tt

    loads : (row : Option Node) → IfSome (option_map (changed (changes.Load live)) row) (IsNodeReady s.scene (noted s.history note) (s.made + 1) p)
    loads None = tt
    loads (Some x) = is
