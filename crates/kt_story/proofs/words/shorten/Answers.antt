use Rattle.std.proofs.Common.{◌≡◌, ℕ, ◌+◌, ◌-◌, ◌<◌, length, take, ap, ◌∙◌, arith}
use Rattle.std.proofs.lemmas.Grind.{common_steps}
use Rattle.kt_story.proofs.Cutting.{is_cut}
use Rattle.kt_story.proofs.words.shorten.Goals as goal

pub returns : goal.returns
returns c =
    let text = c.args.text.now.items in
    let many : c.args.start + c.args.most < length text = grind (arith, common_steps) in
    let place : c.saturating_add-2.result ≡ c.args.start + (c.args.most - 3) = grind (arith, common_steps) in
    λ front behind is begins.
    is_cut text c.truncate.new.self.items c.extend_from_slice.new.self.items front behind c.args.start c.args.most is begins many
    (c.truncate.ensures.items ∙ ap (λ (n : ℕ). take n text) place) c.in_ok-extend_from_slice.ensures.items
