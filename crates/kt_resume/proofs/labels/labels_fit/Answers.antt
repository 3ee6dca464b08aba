use Rattle.std.proofs.Common.{sym, ◌∙◌}
use Rattle.kt_resume.specs.Found.{content_of}
use Rattle.kt_resume.proofs.Links.{labels-from, labels-to}
use Rattle.kt_resume.proofs.labels.labels_fit.Goals as goal

pub returns : goal.returns
returns c = λ scene same there.
    let store = content_of c.args.found.now in (
      λ t. labels-from scene store c.args.node c.args.nodes.now same (sym c.all_fit.ensures ∙ t),
      λ fit. c.all_fit.ensures ∙ labels-to scene store c.args.node c.args.nodes.now same there fit,
    )
