use Rattle.std.proofs.Common.{◌≡◌, ℕ, ◌+◌, ◌-◌, ap, ◌∙◌, arith}
use Rattle.std.proofs.lemmas.Grind.{common_steps}
use Rattle.kt_draw.specs.declared.element.Point.{Point}
use Rattle.kt_draw.specs.Rows.{point, row_point, text_x}
use Rattle.kt_draw.proofs.Said.{is_said}
use Rattle.kt_draw.proofs.row.row_text.Goals as goal

pub returns : goal.returns
returns c =
    let sheet = c.args.sheet in
    let row = c.args.row.now in
    let pt : ℕ → ℕ → Point = λ x y. record { x = x; y = y } in
    let at : c.point-y.result ≡ row_point sheet row =
    c.point-y.ensures.value ∙ ap (λ (n : ℕ). point sheet row.node n) c.above.ensures in
    let y : c.point-y.result.y ≡ (row_point sheet row).y = ap (λ (p : Point). p.y) at in
    let left : c.saturating_sub.result ≡ c.text_x-x.result - 14 = grind (arith, common_steps) in
    let low : c.saturating_add.result ≡ c.point-y.result.y + 4 = grind (arith, common_steps) in
    is_said sheet c.args.story.now row c.mark-mark.result (pt c.saturating_sub.result c.point-y.result.y)
    (pt c.text_x-x.result c.saturating_add.result) c.new-out.result.items c.push_again.new.out.items c.push_words.new.out.items
    c.classes_of.result.now c.in_ok-words.words.said.items c.in_ok-words.words.reason.items c.mark-mark.ensures.mark c.new-out.ensures.items
    c.in_ok-push_again.ensures c.classes_of.ensures c.in_ok-push_words.ensures
    (ap (λ (x : ℕ). pt x c.point-y.result.y) (left ∙ ap (λ (x : ℕ). x - 14) c.text_x-x.ensures) ∙ ap (λ (v : ℕ). pt (text_x sheet - 14) v) y)
    (ap (λ (x : ℕ). pt x c.saturating_add.result) c.text_x-x.ensures
    ∙ ap (λ (v : ℕ). pt (text_x sheet) v) (low ∙ ap (λ (v : ℕ). v + 4) y))
    c.in_ok-words.ensures.said c.in_ok-words.ensures.reason
