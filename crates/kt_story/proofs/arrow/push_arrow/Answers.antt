use Rattle.kt_story.proofs.Arriving.{waits_more}
use Rattle.kt_story.proofs.arrow.push_arrow.Goals as goal

pub returns-clause-ways : goal.returns-clause-ways
returns-clause-ways c = λ earlier waits.
    waits_more c.args.story.now earlier c.args.row.now c.args.to c.args.message.now c.args.ways.now c.pop-came.new.self
    c.pop-came.ensures.rest c.pop-came.ensures.alone waits
