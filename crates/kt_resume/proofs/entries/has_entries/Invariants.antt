use Rattle.std.proofs.Common.{◌≡◌, ◌++◌}
use Rattle.std.specs.List.{flat_map}
use Rattle.kt_state.specs.Labels.{numbers}
use Rattle.kt_state.specs.State.{entry}
use Rattle.kt_shard.specs.Table.{at}
use Rattle.kt_resume.specs.Remade.{empty_slot}
use Rattle.kt_resume.proofs.entries.has_entries.Given as goal

-- the list has what is in the sessions that were looked at, and then the rest
abbrev pub invariant-loop-before : goal.invariant-loop-before
invariant-loop-before g l =
    l.listed ≡ flat_map (λ worker. entry worker (g.E.Entry.entry_on (at empty_slot l.slots worker).session)) (numbers 1 l.before) ++ l.rest
