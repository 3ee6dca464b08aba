use Rattle.std.proofs.Common.{rules, ◌≡◌, ◌==◌, ◌<◌, length, Some, None, sym, ◌∙◌}
use Rattle.std.specs.List.{position}
use Rattle.std.proofs.lemmas.Option.{slice_get-get_or}
use Rattle.kt_store.specs.declared.rows.InstanceRow.{InstanceRow}
use Rattle.kt_store.proofs.Tables.{position_found, position_none}
use Rattle.kt_store.proofs.instance_row.instance_row_at.Goals as goal

pub returns-in_err-place : goal.returns-in_err-place
returns-in_err-place c =
    let place : position (λ (row : InstanceRow). row.instance == c.args.instance) c.args.rows.now ≡ None = search rules in
    let none : c.from_residual.result ≡ None = search rules in
    rw none (sym (position_none (λ (row : InstanceRow). row.instance == c.args.instance) c.args.rows.now place))

pub returns : goal.returns
returns c =
    let place : position (λ (row : InstanceRow). row.instance == c.args.instance) c.args.rows.now ≡ Some c.in_ok-place.place = search rules in
    let within : c.in_ok-place.place < length c.args.rows.now = search rules in
    sym (slice_get-get_or c.args.rows.now c.in_ok-place.place _ within)
    ∙ position_found (λ (row : InstanceRow). row.instance == c.args.instance) c.args.rows.now c.in_ok-place.place place
