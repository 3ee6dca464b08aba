use Rattle.std.proofs.Common.{sym, ◌∙◌}
use Rattle.kt_stage.proofs.Making.{replays_opened}
use Rattle.kt_stage.proofs.running.run_on.Goals as goal

pub returns-in-Err-clause-replays_back : goal.returns-in-Err-clause-replays_back
returns-in-Err-clause-replays_back g c =
    replays_opened g.L.Naming.opening c.unbegun.result.world c.unbegun.result.steps
    (c.requires.opening ∙ sym c.in-Err.ensures.back ∙ sym c.unbegun.ensures.world) c.unbegun.ensures.steps
