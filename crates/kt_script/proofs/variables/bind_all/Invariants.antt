use Rattle.std.proofs.Common.{◌≡◌, ◌+◌, ◌≤◌, length}
use Rattle.indexmap.specs.IndexMap.{spare}
use Rattle.kt_script.specs.Variables.{with_bindings}
use Rattle.kt_script.proofs.variables.bind_all.Given as goal

abbrev pub invariant-loop-name : goal.invariant-loop-name
invariant-loop-name l = record {
  bound : l.variables.entries ≡ with_bindings l.initial.variables.entries l.yielded;
  room : length l.fn.bindings.items ≤ spare l.variables + length l.yielded;
}
