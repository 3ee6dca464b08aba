-- What waits is listed, and nothing else is.
-- Cited by `laws::what_waits_is_found`.
use Rattle.std.proofs.Common.{◌≡◌, ℕ, zero, suc, ◌+◌, ◌<◌, Bool, true, false, List, [], ◌∷◌, map, length, slice_get, All, Contains, IsTrue, nat_le}
use Rattle.std.proofs.Common.{Option, Some, None, is_some, if◌then◌else◌, refl, sym, ap, subst, ◌∙◌, arith}
use Rattle.std.specs.List.{range_with_len}
use Rattle.std.proofs.lemmas.Bool.{and_parts, cond-true, false≢true, leb-true}
use Rattle.std.proofs.lemmas.List.Elements.{All-cons, All-nil, Contains-append_right}
use Rattle.std.proofs.lemmas.List.FromFn.{get_or-map-range_with_len, length-map-range_with_len}
use Rattle.kt_history.proofs.Shared.{Contains-here}
use Rattle.kt_tuple.specs.declared.node.NodeId.{NodeId}
use Rattle.kt_tuple.specs.declared.node.NodeId.TheVariants as ids
use Rattle.kt_tuple.specs.declared.node.TheConstants.{MAX_SHARDS, MAX_WORKERS}
use Rattle.kt_tuple.specs.declared.op.Op.{Op}
use Rattle.kt_tuple.specs.Node.{all_nodes, all_shards, all_workers, node_number}
use Rattle.kt_script.specs.declared.command.Command.{Command}
use Rattle.kt_scenario.specs.Scene.{IsScene, SceneModel, is_among, is_shard, is_worker, script_at}
use Rattle.kt_model.specs.State.{State}
use Rattle.kt_core.specs.Lent.{shard, worker}
use Rattle.kt_stage.specs.Policy.{unanswered, waits_in}
use Rattle.kt_summary.specs.declared.waits.Wait.{Wait}
use Rattle.kt_summary.specs.Waits.{IsWait, all_waits, number_held, number_waiting, wait_at, wait_of, waits_of}
use Rattle.kt_summary.proofs.Lists.{flat-all, flat-contains}

-- ---- nothing else

held-each : (s : State) (p q : NodeId) (r : ℕ × Op) (b : Bool) → unanswered (worker s p) ≡ Some r → waits_in (shard s q) (node_number p) r ≡ b
    → All (IsWait s) (wait_of p q (if b then Some r.0 else None))
held-each s p q r true asked waits =
    All-cons (IsWait s) (record { worker = p; shard = q; number = r.0 }) [] (record { op = r.1; asked = asked; waits = waits }) (All-nil (IsWait s))
held-each s p q r false asked waits = All-nil (IsWait s)

wait-each : (s : State) (p q : NodeId) (o : Option (ℕ × Op)) → unanswered (worker s p) ≡ o → All (IsWait s) (wait_of p q (number_held s p q o))
wait-each s p q None asked = All-nil (IsWait s)
wait-each s p q (Some r) asked = held-each s p q r (waits_in (shard s q) (node_number p) r) asked refl

waits-each : (s : State) (nodes : List NodeId) (p : NodeId) → All (IsWait s) (waits_of s nodes p)
unfolding waits_of
waits-each s nodes p = flat-all (IsWait s) (wait_at s p) (λ q. wait-each s p q (unanswered (worker s p)) refl) nodes

pub waits_each : (s : State) → All (IsWait s) (all_waits s)
waits_each s = flat-all (IsWait s) (waits_of s all_nodes) (waits-each s all_nodes) all_workers

-- ---- all that waits

named : (f : ℕ → NodeId) (most k : ℕ) → k < most → Contains (map f (range_with_len 1 most)) (f (suc k))
named f most k lt =
    let at : 1 + k ≡ suc k = omega arith in
    let long = length-map-range_with_len f 1 most in
    (k, omega (arith, lt, long), get_or-map-range_with_len f 1 most k (suc k) (f (suc k)) lt at)

script-within : (scripts : List (List Command)) (k : ℕ) → is_some (slice_get scripts k) ≡ true → k < length scripts
script-within [] k there = absurd (false≢true there)
script-within (x ∷ xs) zero there = omega arith
script-within (x ∷ xs) (suc k) there = let within = script-within xs k there in omega (arith, within)

worker-number : (scene : SceneModel) (n : ℕ) → IsScene scene → is_some (script_at scene.scripts n) ≡ true → Contains all_workers (ids.Worker n)
worker-number scene zero is there = absurd (false≢true there)
worker-number scene (suc k) is there =
    let within = script-within scene.scripts k there in
    let few = is.few_workers in
    named (λ n. ids.Worker n) MAX_WORKERS k (omega (arith, within, few))

listed-worker : (scene : SceneModel) (p : NodeId) → IsScene scene → is_worker scene p ≡ true → Contains all_workers p
listed-worker scene (ids.Worker n) is there = worker-number scene n is there
listed-worker scene (ids.Shard n) is there = absurd (false≢true there)

shard-number : (scene : SceneModel) (n : ℕ) → IsScene scene → is_among scene.shards n ≡ true → Contains all_shards (ids.Shard n)
shard-number scene zero is there = absurd (false≢true there)
shard-number scene (suc k) is there =
    let within = leb-true (suc k) scene.shards (and_parts (nat_le 1 (suc k)) (nat_le (suc k) scene.shards) there).1 in
    let few = is.few_shards in
    named (λ n. ids.Shard n) MAX_SHARDS k (omega (arith, within, few))

listed-shard : (scene : SceneModel) (p : NodeId) → IsScene scene → is_shard scene p ≡ true → Contains all_nodes p
listed-shard scene (ids.Worker n) is there = absurd (false≢true there)
listed-shard scene (ids.Shard n) is there = Contains-append_right all_workers all_shards (ids.Shard n) (shard-number scene n is there)

wait-there : (s : State) (wait : Wait) → IsWait s wait → Contains (wait_at s wait.worker wait.shard) wait
wait-there s wait w =
    let held : number_waiting s wait.worker wait.shard ≡ Some wait.number =
    ap (number_held s wait.worker wait.shard) w.asked ∙ cond-true _ _ _ w.waits in
    let P : List Wait → Type 0 = λ xs. Contains xs wait in
    subst P (sym (ap (wait_of wait.worker wait.shard) held)) (Contains-here wait [])

waits-there : (s : State) (nodes : List NodeId) (wait : Wait) → Contains nodes wait.shard → IsWait s wait → Contains (waits_of s nodes wait.worker) wait
unfolding waits_of
waits-there s nodes wait q w = flat-contains (wait_at s wait.worker) nodes wait.shard wait q (wait-there s wait w)

pub waits_all : (s : State) (wait : Wait) → IsScene s.scene → IsTrue (is_worker s.scene wait.worker) → IsTrue (is_shard s.scene wait.shard)
    → IsWait s wait → Contains (all_waits s) wait
waits_all s wait is w q waits =
    flat-contains (waits_of s all_nodes) all_workers wait.worker wait (listed-worker s.scene wait.worker is w)
    (waits-there s all_nodes wait (listed-shard s.scene wait.shard is q) waits)
