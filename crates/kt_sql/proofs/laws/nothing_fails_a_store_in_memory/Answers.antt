use Rattle.std.proofs.Common.{refl}
use Rattle.sqlite_trees.specs.View.{doubt}
use Rattle.kt_sql.proofs.laws.nothing_fails_a_store_in_memory.Goals as goal

pub returns : goal.returns
unfolding doubt
returns c = λ store. refl
