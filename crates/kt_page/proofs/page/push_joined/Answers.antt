use Rattle.std.proofs.Common.{ℕ, List, ◌++◌, ap, ◌∙◌}
use Rattle.kt_page.proofs.page.push_joined.Goals as goal

pub returns : goal.returns
returns c =
    c.in_ok-extend_from_slice-4.ensures.items
    ∙ ap (λ (t : List ℕ). t ++ c.args.rest.now)
    (c.in_ok-extend_from_slice-3.ensures.items
    ∙ ap (λ (t : List ℕ). t ++ c.args.picture.now)
    (c.in_ok-extend_from_slice-2.ensures.items ∙ ap (λ (t : List ℕ). t ++ c.args.front.now) c.in_ok-extend_from_slice.ensures.items))
