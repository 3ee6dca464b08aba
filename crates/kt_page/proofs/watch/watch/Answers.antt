use Rattle.std.proofs.lemmas.Result.{IfOk-weaker}
use Rattle.kt_model.specs.Reached.{opening}
use Rattle.kt_page.proofs.Watching.{story_seen}
use Rattle.kt_page.proofs.watch.watch.Goals as goal

pub returns-in-Ok-clause-story : goal.returns-in-Ok-clause-story
returns-in-Ok-clause-story c =
    story_seen (opening c.args.scene) c.in_ok-world.world.state c.watch_steps.new.world.state c.args.steps.now c.in-Ok.entries.items c.seen.result
    c.in_ok-world.ensures.state c.in-Ok.ensures.entries c.in-Ok.ensures.world c.seen.ensures.state c.seen.ensures.rows c.seen.ensures.refused
