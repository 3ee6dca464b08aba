-- Random faults: which ones a seed gives a scene.
-- Cited by Draws, drawing.rt, `drawing::push_drawn`, `drawing::push_random_faults`; other crates.
use Rattle.std.specs.Prelude.{ℕ, zero, suc, ◌+◌, ◌-◌, ◌%◌, ◌==◌, nat_lt, if◌then◌else◌, List, [], ◌∷◌, length}
use Rattle.rand_core.specs.Stream.{Stream, next_u32}
use Rattle.rand_core.specs.Steps.{steps_u32, stream_of}
use Rattle.rand_core.specs.Pcg32Seed.{pcg32_seed}
use Rattle.rand_pcg.specs.Pcg.{pcg32, pcg32_of_seed}
use Rattle.kt_tuple.specs.declared.node.NodeId.{NodeId}
use Rattle.kt_tuple.specs.declared.node.NodeId.TheVariants as nodes
use Rattle.kt_scenario.specs.Scene.{SceneModel}
use Rattle.kt_scenario.specs.declared.faults.Fault.{Fault}
use Rattle.kt_scenario.specs.declared.faults.FaultKind.{FaultKind}
use Rattle.kt_scenario.specs.declared.faults.FaultKind.TheVariants.{Fail, Check}
use Rattle.kt_chaos.specs.declared.drawing.Chaos.{Chaos}
use Rattle.kt_chaos.specs.declared.drawing.TheConstants.{MAX_AFTER, ONE_CHECK_IN}

-- a number below this one, from the next word of the stream; and the stream behind the word
abbrev pub below : ℕ → Stream → ℕ × Stream
below count s = ((next_u32 s).0 % count, (next_u32 s).1)

abbrev pub node_count : SceneModel → ℕ
node_count scene = length scene.scripts + scene.shards

-- the node at this place in node order, counted from 0
abbrev pub node_at : SceneModel → ℕ → NodeId
node_at scene place =
    if nat_lt place (length scene.scripts)
    then nodes.Worker (place + 1)
    else nodes.Shard (place - length scene.scripts + 1)

-- one number gives a check, and the others a failure
abbrev pub kind_at : ℕ → FaultKind
kind_at number = if number == 0 then Check else Fail

-- a fault from the next three words of the stream: its kind, then its node, then when it is due
abbrev pub drawn_fault : SceneModel → Stream → Fault × Stream
drawn_fault scene s =
    let kind = below ONE_CHECK_IN s in
    let node = below (node_count scene) kind.1 in
    let after = below (MAX_AFTER + 1) node.1 in
    (record { kind = kind_at kind.0; node = node_at scene node.0; after = after.0 }, after.1)

-- so many of them
abbrev pub drawn_faults : ℕ → SceneModel → Stream → List Fault
drawn_faults zero scene s = []
drawn_faults (suc count) scene s = (drawn_fault scene s).0 ∷ drawn_faults count scene (drawn_fault scene s).1

-- all that the generator gives that is seeded with this number
abbrev pub stream_from : ℕ → Stream
stream_from seed = stream_of (steps_u32 pcg32) (pcg32_of_seed (pcg32_seed 16 seed))

abbrev pub random_faults : Chaos → SceneModel → List Fault
random_faults chaos scene = drawn_faults chaos.count scene (stream_from chaos.seed)
