use Rattle.std.proofs.Common.{◌∷◌, ◌++◌, []}
use Rattle.std.specs.Prelude.{decimal}
use Rattle.kt_text.specs.Text.{line_end}
use Rattle.kt_tell.specs.Words.{head_text, tail_text}
use Rattle.kt_tell.proofs.Pieces.{then_more}
use Rattle.kt_tell.proofs.words.push_made.Goals as goal

pub returns : goal.returns
returns c =
    let row = c.args.row.now in
    let start = c.args.out.now.items in
    let number = decimal row.number in
    then_more start (number ++ 32 ∷ head_text row ++ tail_text row) line_end c.push_tail.new.out.items c.push-2.new.self.items
    (then_more start (number ++ 32 ∷ head_text row) (tail_text row) c.push_head.new.out.items c.push_tail.new.out.items
    (then_more start number (32 ∷ head_text row) c.push_number.new.out.items c.push_head.new.out.items
    c.in_ok-push_number.ensures.ok
    (then_more c.push_number.new.out.items (32 ∷ []) (head_text row) c.push.new.self.items c.push_head.new.out.items
    c.in_ok-push.ensures.items c.in_ok-push_head.ensures))
    c.in_ok-push_tail.ensures)
    c.in_ok-push-2.ensures.items
