use Rattle.kt_stage.proofs.Halts.{given-from}
use Rattle.kt_stage.proofs.locked_journal.LockedJournal.next_for.Goals as goal

pub returns-clause-given : goal.returns-clause-given
returns-clause-given g c =
    given-from c.journal.inside.world c.next_for.new.world c.args.node c.next_for.result
    c.next_for.ensures.own c.next_for.ensures.allowed c.next_for.ensures.next.same
