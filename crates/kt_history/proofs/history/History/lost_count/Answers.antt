use Rattle.std.proofs.Common.{ap, ◌∙◌}
use Rattle.kt_history.specs.Survival.{lost_count}
use Rattle.kt_history.proofs.Room.{shown_notes}
use Rattle.kt_history.proofs.Survivors.{IsLostCount-from}
use Rattle.kt_history.proofs.Counts.{lost_count-is}
use Rattle.kt_history.proofs.history.History.lost_count.Goals as goal

pub returns-clause-count : goal.returns-clause-count
returns-clause-count c = lost_count-is _ _ _ _ c.self.invariant ∙ ap lost_count (shown_notes c.self.view_is)

pub returns-clause-lost : goal.returns-clause-lost
returns-clause-lost c =
    let same = shown_notes c.self.view_is in
    IsLostCount-from c.self.inside.notes.items c.args.self.now.notes c.self.inside.lost same c.self.invariant.causes
    (lost_count-is _ _ _ _ c.self.invariant ∙ ap lost_count same)
