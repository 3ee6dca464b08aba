use Rattle.std.specs.Prelude.{Option, None, Some}
use Rattle.std.specs.Option.{option_map}
use Rattle.kt_state.specs.declared.change.Change.TheVariants as changes
use Rattle.kt_state.specs.Node.{Node}
use Rattle.kt_state.specs.Updating.{no_update}
use Rattle.kt_state.specs.Updating.{changed}
use Rattle.kt_core.specs.auxiliary.Rows.{row_view}
use Rattle.kt_logs.proofs.Shared.{map-set_changed}
use Rattle.kt_core.proofs.change.say_in_row.Goals as goal

pub returns : goal.returns
returns c =
    map-set_changed row_view None (λ (p : Option Node). option_map (changed (changes.Update record no_update { said = Some c.args.to })) p)
    c.args.nodes.now.items c.args.row c.index_mut.result.now c.say.new.row c.requires.row c.index_mut.ensures.value c.say.ensures
