use Rattle.std.specs.Prelude.{Option, None}
use Rattle.std.specs.Option.{option_map}
use Rattle.kt_state.specs.declared.change.Change.TheVariants as changes
use Rattle.kt_state.specs.ShortUpdate.{update_of}
use Rattle.kt_state.specs.Node.{Node}
use Rattle.kt_state.specs.Updating.{changed}
use Rattle.kt_core.specs.auxiliary.Rows.{row_view}
use Rattle.kt_logs.proofs.Shared.{map-set_changed}
use Rattle.kt_core.proofs.change.update_in_row.Goals as goal

pub returns : goal.returns
returns c =
    map-set_changed row_view None (λ (p : Option Node). option_map (changed (changes.Update (update_of c.args.update))) p)
    c.args.nodes.now.items c.args.row c.index_mut.result.now c.update_short.new.row c.requires.row c.index_mut.ensures.value c.update_short.ensures
