use Rattle.std.proofs.Common.{true, refl}
use Rattle.sqlite_trees.proofs.Doubt.{no_doubt}
use Rattle.kt_sql.proofs.open.SqlStore+MemStore.in_memory.Goals as goal

pub returns-in-Ok-clause-honest : goal.returns-in-Ok-clause-honest
returns-in-Ok-clause-honest c = (c.in-Ok.ensures.fresh (no_doubt true refl) c.in_ok-open_in_memory.ensures.empty.2).0

pub returns-in-Ok-clause-fresh : goal.returns-in-Ok-clause-fresh
returns-in-Ok-clause-fresh c = (c.in-Ok.ensures.fresh (no_doubt true refl) c.in_ok-open_in_memory.ensures.empty.2).1

pub returns-clause-undamaged : goal.returns-clause-undamaged
returns-clause-undamaged c = λ is. (c.in-Err.ensures.damaged is (no_doubt true refl)).0 c.in_ok-open_in_memory.ensures.empty.2
