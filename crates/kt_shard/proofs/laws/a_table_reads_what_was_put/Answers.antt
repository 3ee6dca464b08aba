use Rattle.kt_shard.proofs.Tables.{at-put_same, at-put_other}
use Rattle.kt_shard.proofs.laws.a_table_reads_what_was_put.Goals as goal

pub returns : goal.returns
returns g c = record { same = at-put_same; others = at-put_other }
