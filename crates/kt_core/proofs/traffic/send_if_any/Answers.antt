use Rattle.std.proofs.Common.{sym, ap, ◌∙◌}
use Rattle.std.specs.Prelude.{option_to_list}
use Rattle.kt_link.specs.Network.{place}
use Rattle.kt_model.specs.Effect.{sent}
use Rattle.kt_core.proofs.Traffics.{sent-none}
use Rattle.kt_core.proofs.traffic.send_if_any.Goals as goal

pub returns-in-None-clause-queues : goal.returns-in-None-clause-queues
returns-in-None-clause-queues c =
    let way = place c.args.links.now.workers c.args.links.now.shards in
    sym (ap (λ o. sent way c.args.links.now.queues c.args.owner (option_to_list o)) c.in-None.is ∙ sent-none way c.args.links.now.queues c.args.owner)
