-- Random faults are as many as were asked for, and a line can say each.
-- Cited by `drawing::push_drawn`, `drawing::push_random_faults`.
use Rattle.std.proofs.Common.{◌≡◌, ℕ, zero, suc, ◌+◌, ◌-◌, ◌<◌, ◌≤◌, arith, length, Bool, true, false, if◌then◌else◌, List, [], ◌∷◌, ◌++◌}
use Rattle.std.proofs.Common.{refl, sym, ap, ◌∙◌, append-nil, append_assoc, ltb-true, ltb-false}
use Rattle.std.specs.Prelude.{◌&&◌, nat_le, nat_lt, map, All}
use Rattle.std.proofs.lemmas.Bool.{le-leb}
use Rattle.std.proofs.lemmas.Nat.{mod_below}
use Rattle.std.proofs.lemmas.List.Elements.{All-cons, All-map, All-nil}
use Rattle.rand_core.specs.Stream.{Stream, next_u32}
use Rattle.kt_tuple.specs.declared.node.NodeId.{NodeId}
use Rattle.kt_tuple.specs.declared.node.NodeId.TheVariants as nodes
use Rattle.kt_scenario.specs.Scene.{SceneModel, is_node}
use Rattle.kt_scenario.specs.declared.faults.Fault.{Fault}
use Rattle.kt_scenario.specs.declared.faults.FaultKind.{FaultKind}
use Rattle.kt_scenario.specs.declared.faults.FaultLine.{FaultLine}
use Rattle.kt_scenario.proofs.Shared.{script_at-there, shard-node, worker-node}
use Rattle.kt_text.specs.Scenario.{IsFaultLine}
use Rattle.kt_text.specs.Work.{unspent}
use Rattle.kt_chaos.specs.Drawing.{below, drawn_fault, drawn_faults, kind_at, node_at, node_count}
use Rattle.kt_chaos.specs.declared.drawing.TheConstants.{MAX_AFTER, ONE_CHECK_IN}

-- ---- so many

pub drawn-length : (count : ℕ) (scene : SceneModel) (s : Stream) → length (drawn_faults count scene s) ≡ count
drawn-length zero scene s = refl
drawn-length (suc count) scene s = ap suc (drawn-length count scene (drawn_fault scene s).1)

-- the first of those that are left is drawn, and the others are left
pub drawn-next : (count done : ℕ) (scene : SceneModel) (s : Stream) → done < count
    → drawn_faults (count - done) scene s ≡ (drawn_fault scene s).0 ∷ drawn_faults (count - (done + 1)) scene (drawn_fault scene s).1
drawn-next count done scene s lt =
    let more : count - done ≡ suc (count - (done + 1)) = omega (arith, lt) in
    ap (λ (n : ℕ). drawn_faults n scene s) more

-- all lines were pushed
pub pushed-all : (all now : List FaultLine) (count done : ℕ) (scene : SceneModel) (s : Stream) → count ≤ done
    → now ++ map unspent (drawn_faults (count - done) scene s) ≡ all → now ≡ all
pushed-all all now count done scene s le so_far =
    let none : count - done ≡ zero = omega (arith, le) in
    sym (append-nil now) ∙ sym (ap (λ (n : ℕ). now ++ map unspent (drawn_faults n scene s)) none) ∙ so_far

-- one line more was pushed
pub pushed-next : (all before after : List FaultLine) (fault : Fault) (count done : ℕ) (scene : SceneModel) (s t : Stream) → done < count
    → (fault, t) ≡ drawn_fault scene s → after ≡ before ++ unspent fault ∷ [] → before ++ map unspent (drawn_faults (count - done) scene s) ≡ all
    → after ++ map unspent (drawn_faults (count - (done + 1)) scene t) ≡ all
pushed-next all before after fault count done scene s t lt drawn pushed so_far =
    let rest = drawn_faults (count - (done + 1)) scene t in
    let next : drawn_faults (count - done) scene s ≡ fault ∷ rest =
    drawn-next count done scene s lt
    ∙ ap (λ (d : Fault × Stream). d.0 ∷ drawn_faults (count - (done + 1)) scene d.1) (sym drawn) in
    ap (λ (xs : List FaultLine). xs ++ map unspent rest) pushed
    ∙ append_assoc before (unspent fault ∷ []) (map unspent rest)
    ∙ sym (ap (λ (fs : List Fault). before ++ map unspent fs) next)
    ∙ so_far

-- ---- one of them

abbrev pub fault-by : FaultKind → NodeId → ℕ → Fault
fault-by kind node after = record { kind = kind; node = node; after = after }

abbrev fault-of : SceneModel → (k p a : ℕ) → Fault
fault-of scene k p a = fault-by (kind_at k) (node_at scene p) a

-- the fault of a first word and of those behind it
abbrev rest-of : SceneModel → ℕ → ℕ × Stream → Fault × Stream
rest-of scene k d = (fault-of scene k d.0 (below (MAX_AFTER + 1) d.1).0, (below (MAX_AFTER + 1) d.1).1)

-- three words give a fault
pub drawn-so : (scene : SceneModel) (s t u v : Stream) (k p a nodes after : ℕ) (kind : FaultKind) (node : NodeId)
    → (k, t) ≡ below ONE_CHECK_IN s → (p, u) ≡ below nodes t → nodes ≡ node_count scene → (a, v) ≡ below (MAX_AFTER + 1) u → kind ≡ kind_at k
    → node ≡ node_at scene p → after ≡ a → (fault-by kind node after, v) ≡ drawn_fault scene s
drawn-so scene s t u v k p a nodes after kind node one two all three is_kind is_node is_after =
    ap (λ (x : FaultKind). (fault-by x node after, v)) is_kind
    ∙ ap (λ (x : NodeId). (fault-by (kind_at k) x after, v)) is_node
    ∙ ap (λ (x : ℕ). (fault-of scene k p x, v)) is_after
    ∙ ap (λ (d : ℕ × Stream). (fault-of scene k p d.0, d.1)) three
    ∙ ap (rest-of scene k)
    (two ∙ ap (λ (n : ℕ). below n t) all)
    ∙ ap (λ (d : ℕ × Stream). rest-of scene d.0 (below (node_count scene) d.1)) one

-- ---- each of them a line

both : (a b : Bool) → a ≡ true → b ≡ true → (a && b) ≡ true
both a b e f = ap (λ (x : Bool). x && b) e ∙ f

node-there : (scene : SceneModel) (place : ℕ) → place < node_count scene → is_node scene (node_at scene place) ≡ true
node-there scene place lt = by (nat_lt place (length scene.scripts)) refl
  where
    by : (b : Bool) → nat_lt place (length scene.scripts) ≡ b
        → is_node scene (if b then nodes.Worker (place + 1) else nodes.Shard (place - length scene.scripts + 1)) ≡ true
    by true at =
        let few = ltb-true place (length scene.scripts) at in
        worker-node scene (nodes.Worker (place + 1)) (script_at-there scene.scripts (place + 1) (omega arith) (omega (arith, few)))
    by false at =
        let past = ltb-false place (length scene.scripts) at in
        shard-node scene (nodes.Shard (place - length scene.scripts + 1))
        (both (nat_le 1 (place - length scene.scripts + 1)) (nat_le (place - length scene.scripts + 1) scene.shards)
        (le-leb 1 (place - length scene.scripts + 1) (omega arith))
        (le-leb (place - length scene.scripts + 1) scene.shards (omega (arith, lt, past))))

drawn-line : (scene : SceneModel) (s : Stream) → 1 ≤ scene.shards → IsFaultLine scene (unspent (drawn_fault scene s).0)
drawn-line scene s some_shards =
    let kind = below ONE_CHECK_IN s in
    let node = below (node_count scene) kind.1 in
    let some : 0 < node_count scene = omega (arith, some_shards) in
    let soon = mod_below (next_u32 node.1).0 (MAX_AFTER + 1) (omega arith) in
    record {
      there = node-there scene node.0 (mod_below (next_u32 kind.1).0 (node_count scene) some);
      soon = omega (arith, soon);
      unspent = refl;
    }

drawn-each : (count : ℕ) (scene : SceneModel) (s : Stream) → 1 ≤ scene.shards → All (λ f. IsFaultLine scene (unspent f)) (drawn_faults count scene s)
drawn-each zero scene s some = All-nil (λ f. IsFaultLine scene (unspent f))
drawn-each (suc count) scene s some =
    All-cons (λ f. IsFaultLine scene (unspent f)) (drawn_fault scene s).0 (drawn_faults count scene (drawn_fault scene s).1)
    (drawn-line scene s some) (drawn-each count scene (drawn_fault scene s).1 some)

pub drawn-lines : (count : ℕ) (scene : SceneModel) (s : Stream) → 1 ≤ scene.shards → All (IsFaultLine scene) (map unspent (drawn_faults count scene s))
drawn-lines count scene s some = All-map (IsFaultLine scene) unspent (drawn_faults count scene s) (drawn-each count scene s some)
