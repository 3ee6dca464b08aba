use Rattle.std.proofs.Common.{◌≡◌, take, flat_map}
use Rattle.kt_script.specs.Command.{slot_bindings}
use Rattle.kt_script.proofs.command.slot_bindings.Given as goal

abbrev pub invariant-loop-slot : goal.invariant-loop-slot
invariant-loop-slot l = l.bindings.items ≡ flat_map slot_bindings (take l.slot-index l.slots)
