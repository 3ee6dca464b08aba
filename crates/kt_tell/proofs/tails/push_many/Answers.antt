use Rattle.std.proofs.Common.{◌++◌}
use Rattle.std.specs.Prelude.{codes, decimal}
use Rattle.kt_tell.proofs.Pieces.{then_more}
use Rattle.kt_tell.proofs.tails.push_many.Goals as goal

pub returns : goal.returns
returns c =
    then_more c.args.out.now.items (codes ", " ++ decimal c.args.undone) (codes " services undone") c.push_number.new.out.items
    c.extend_from_slice-2.new.self.items
    (then_more c.args.out.now.items (codes ", ") (decimal c.args.undone) c.extend_from_slice.new.self.items c.push_number.new.out.items
    c.in_ok-extend_from_slice.ensures.items c.in_ok-push_number.ensures.ok)
    c.in_ok-extend_from_slice-2.ensures.items
