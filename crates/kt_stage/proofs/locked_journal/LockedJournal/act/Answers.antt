use Rattle.kt_stage.proofs.Counts.{tried-later}
use Rattle.kt_stage.proofs.Making.{counted_more, owned_more, replays_more}
use Rattle.kt_stage.proofs.locked_journal.LockedJournal.act.Goals as goal

pub invariant_of-self-2 : goal.invariant_of-self-2
invariant_of-self-2 g c =
    let old = c.args.self.now in record {
      replays = replays_more g.L.Naming.opening old.journal.world c.make.new.self.world old.journal.steps c.make.new.self.steps c.args.step old.replays
          c.in_ok-make.ensures.made c.make.ensures.honest c.in_ok-make.ensures.effect;
      later = tried-later g.L.Naming.opening.counts old.journal.world.counts c.make.new.self.world.counts c.make.result old.later c.make.ensures.counts;
      counted = counted_more old.book.total c.add.new.self.total old.journal.steps c.make.new.self.steps c.args.step old.counted c.add.ensures.total
          c.in_ok-make.ensures.made;
      owned = owned_more g.L.Naming.opening.state.scene old.journal.steps c.make.new.self.steps c.args.step c.seat.inside.node old.owned
          c.in_ok-make.ensures.made (c.is_own.ensures.0 c.if-not-is_own.false) c.seat.invariant.2;
    }
