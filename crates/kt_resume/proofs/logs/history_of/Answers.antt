use Rattle.std.proofs.Common.{◌≡◌, ◌∙◌, [], Result, Ok, Err, List, ap, sym}
use Rattle.std.specs.Prelude.{IfOk}
use Rattle.kt_resume.specs.Found.{scene_of, content_of}
use Rattle.kt_resume.proofs.Founds.{placed-history}
use Rattle.kt_resume.proofs.logs.history_of.Goals as goal

pub returns : goal.returns
returns c =
    let scene = scene_of c.args.shards c.args.scripts.now in
    let store = content_of c.args.found.now in
    let nodes = c.deref.ensures.value ∙ c.in_ok-nodes.ensures in
    let logs = c.deref_mut.ensures.value ∙ c.in_ok-logs.ensures.logs in
    record {
      notes = placed-history scene store c.deref.result.now c.deref_mut.result.now c.place_all.result nodes logs c.in_ok-logs.ensures.long
          c.place_all.ensures.placed;
    }
