use Rattle.std.proofs.Common.{◌∷◌, ◌++◌, []}
use Rattle.std.specs.Prelude.{codes}
use Rattle.kt_draw.specs.Elements.{element, point_text}
use Rattle.kt_draw.proofs.Behind.{then_more}
use Rattle.kt_draw.proofs.element.push_line.Goals as goal

pub returns : goal.returns
returns c =
    let start = c.args.out.now.items in
    let begin = element (codes "path") c.args.classes.now in
    let from = point_text c.args.from in
    let to = point_text c.args.to in
    then_more start (begin ++ codes " d=\"M" ++ from ++ 76 ∷ to) (codes "\"/>\n") c.push_point-2.new.out.items c.extend_from_slice-2.new.self.items
    (then_more start (begin ++ codes " d=\"M" ++ from) (76 ∷ to) c.push_point.new.out.items c.push_point-2.new.out.items
    (then_more start (begin ++ codes " d=\"M") from c.extend_from_slice.new.self.items c.push_point.new.out.items
    (then_more start begin (codes " d=\"M") c.push_element.new.out.items c.extend_from_slice.new.self.items
    c.in_ok-push_element.ensures c.in_ok-extend_from_slice.ensures.items)
    c.in_ok-push_point.ensures)
    (then_more c.push_point.new.out.items (76 ∷ []) to c.push.new.self.items c.push_point-2.new.out.items
    c.in_ok-push.ensures.items c.in_ok-push_point-2.ensures))
    c.in_ok-extend_from_slice-2.ensures.items
