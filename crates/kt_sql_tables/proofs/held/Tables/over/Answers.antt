use Rattle.kt_sql_tables.specs.Held.{Tabled}
use Rattle.kt_sql_tables.proofs.TabledLemmas.{ready_kept, sure_parts}
use Rattle.kt_sql_tables.proofs.held.Tables.over.Goals as goal

pub invariant_of-result : goal.invariant_of-result
invariant_of-result g c sure =
    let s : Tabled _ = record { conn = c.args.conn; is_trusted = c.args.is_trusted } in
    let is = sure_parts g.S.Store s sure in
    ready_kept g.S.Store s (c.requires is.clean) c.schema.ensures.live is.trusted
