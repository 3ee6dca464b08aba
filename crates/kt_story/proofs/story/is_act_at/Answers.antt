use Rattle.kt_story.proofs.Deciding.{act_decided}
use Rattle.kt_story.proofs.story.is_act_at.Goals as goal

pub returns : goal.returns
returns c = act_decided c.args.history.now.notes c.args.number c.is_act.result c.is_act.ensures
