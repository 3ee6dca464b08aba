use Rattle.std.proofs.Common.{◌++◌, List, ap, ◌∙◌}
use Rattle.std.specs.List.{flat_map}
use Rattle.kt_tuple.specs.Node.{all_nodes}
use Rattle.kt_cells.specs.Cells.{Lines, cells_at, cells_of, ways_from}
use Rattle.kt_cells.specs.Texts.{cells_text}
use Rattle.kt_cells.proofs.cells.cells_of.Goals as goal

pub returns : goal.returns
unfolding cells_of
returns c =
    let s = c.args.world.now.state in
    c.in_ok-push_all_ways.ensures
    ∙ ap (λ (cs : List Lines). cs ++ flat_map (ways_from s) all_nodes)
    (c.in_ok-push_nodes.ensures ∙ ap (λ (cs : List Lines). cs ++ flat_map (cells_at s) all_nodes) (ap cells_text c.new-cells.ensures.items))
