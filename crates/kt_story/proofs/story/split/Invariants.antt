use Rattle.std.proofs.Common.{◌≡◌, ◌++◌}
use Rattle.std.specs.Prelude.{None}
use Rattle.kt_story.specs.Story.{last_refused, made_rows}
use Rattle.kt_story.proofs.story.split.Given as goal

-- the rows and the refusal of the entries so far
abbrev pub invariant-loop-entry : goal.invariant-loop-entry
invariant-loop-entry l = record {
  rows : l.rows.items ≡ l.initial.rows.items ++ made_rows l.yielded;
  refused : l.refused ≡ last_refused None l.yielded;
}
