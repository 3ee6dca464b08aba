use Rattle.std.proofs.Common.{◌∷◌, ◌++◌, []}
use Rattle.std.specs.Prelude.{codes}
use Rattle.kt_draw.specs.Elements.{place_attributes}
use Rattle.kt_draw.proofs.Behind.{then_more}
use Rattle.kt_draw.proofs.element.push_use.Goals as goal

pub returns : goal.returns
returns c =
    let start = c.args.out.now.items in
    let name = c.args.name.now in
    let place = place_attributes c.args.at in
    then_more start (codes "<use href=\"#" ++ name ++ 34 ∷ place) (codes "/>\n") c.push_place.new.out.items c.extend_from_slice-3.new.self.items
    (then_more start (codes "<use href=\"#" ++ name) (34 ∷ place) c.extend_from_slice-2.new.self.items c.push_place.new.out.items
    (then_more start (codes "<use href=\"#") name c.extend_from_slice.new.self.items c.extend_from_slice-2.new.self.items
    c.in_ok-extend_from_slice.ensures.items c.in_ok-extend_from_slice-2.ensures.items)
    (then_more c.extend_from_slice-2.new.self.items (34 ∷ []) place c.push.new.self.items c.push_place.new.out.items
    c.in_ok-push.ensures.items c.in_ok-push_place.ensures))
    c.in_ok-extend_from_slice-3.ensures.items
