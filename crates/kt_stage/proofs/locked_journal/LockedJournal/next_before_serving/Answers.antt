use Rattle.kt_stage.proofs.Halts.{given-from}
use Rattle.kt_stage.proofs.locked_journal.LockedJournal.next_before_serving.Goals as goal

pub returns-clause-given : goal.returns-clause-given
returns-clause-given g c =
    given-from c.journal.inside.world c.next_before_serving.new.world c.args.node c.next_before_serving.result
    c.next_before_serving.ensures.own c.next_before_serving.ensures.allowed c.next_before_serving.ensures.next.same
