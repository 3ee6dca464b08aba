use Rattle.kt_resume.specs.Found.{scene_of}
use Rattle.kt_resume.proofs.Fits.{shard-told, worker-told}
use Rattle.kt_resume.proofs.leads.leads_to.Goals as goal

pub returns-in-Worker-Worker : goal.returns-in-Worker-Worker
returns-in-Worker-Worker c =
    let w = c.in-Worker-Worker in
    worker-told (scene_of c.args.shards c.args.scripts.now) c.args.node w.name c.args.stored.now w.stored c.args.history.now.notes c.worker_leads_to.result
    w.is-0 w.is-1
    c.requires.there c.worker_leads_to.ensures

pub returns-in-Shard-Shard : goal.returns-in-Shard-Shard
returns-in-Shard-Shard c =
    let s = c.in-Shard-Shard in
    shard-told (scene_of c.args.shards c.args.scripts.now) c.args.node s.name c.args.stored.now s.stored c.args.history.now.notes c.shard_leads_to.result
    s.is-0 s.is-1
    c.shard_leads_to.ensures
