use Rattle.std.proofs.Common.{ℕ, List, ◌++◌, ap, ◌∙◌}
use Rattle.kt_page.specs.Head.{page_head}
use Rattle.kt_page.proofs.page.joined.Goals as goal

pub returns-in-Ok : goal.returns-in-Ok
returns-in-Ok c =
    c.in-Ok.ensures
    ∙ ap (λ (t : List ℕ). (((t ++ page_head) ++ c.args.front.now) ++ c.args.picture.now) ++ c.args.rest.now) c.new-text.ensures.items
