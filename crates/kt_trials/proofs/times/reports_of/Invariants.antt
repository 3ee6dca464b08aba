use Rattle.std.proofs.Common.{◌≡◌, length}
use Rattle.std.specs.Prelude.{All}
use Rattle.kt_trials.specs.Runs.{IsRunReport}
use Rattle.kt_trials.specs.auxiliary.Telling.{items_of}
use Rattle.kt_trials.proofs.times.reports_of.Given as goal

abbrev pub invariant-loop : goal.invariant-loop
invariant-loop g l = record {
  each : All (IsRunReport l.text) (items_of l.reports.items);
  count : length l.reports.items ≡ l.counter;
}
