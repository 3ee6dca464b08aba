use Rattle.std.proofs.Common.{◌≡◌, ◌+◌, ◌++◌, [], drop}
use Rattle.std.specs.Prelude.{IsTrue}
use Rattle.kt_trace.specs.Rows.{behind, trace_from}
use Rattle.kt_page.proofs.watch.watch_each.Given as goal

abbrev pub invariant-loop-place : goal.invariant-loop-place
invariant-loop-place l = record {
  honest : IsTrue l.world.is_honest;
  so_far : l.entries.items ++ trace_from [] (l.place + 1) l.world.state (drop l.place l.steps)
      ≡ l.initial.entries.items ++ trace_from [] 1 l.initial.world.state l.steps;
  leads : behind l.world.state (drop l.place l.steps) ≡ behind l.initial.world.state l.steps;
}
