-- What an operation leaves of a bag.
-- Cited by Bags, Homes, OneRun, Permutations, Renamed, specs/ShardLog; other crates.
use Rattle.std.specs.Prelude.{cond, List, [], ◌∷◌}
use Rattle.kt_tuple.specs.declared.tuple.Tuple.{Tuple}
use Rattle.kt_tuple.specs.declared.op.Op.{Op}
use Rattle.kt_tuple.specs.declared.op.Op.TheVariants.{Out, In, Rd, Inp, Rdp}
use Rattle.kt_tuple.specs.declared.op.Answer.{Answer}
use Rattle.kt_tuple.specs.declared.op.Answer.TheVariants as answers
use Rattle.kt_tuple.specs.Op.{tuple_eq}

-- the bag without its first tuple that equals u
abbrev pub without : Tuple → List Tuple → List Tuple
without u [] = []
without u (v ∷ bag) = cond (tuple_eq v u) bag (v ∷ without u bag)

-- the bag after an operation was answered so
abbrev pub served_bag : List Tuple → Op → Answer → List Tuple
served_bag bag (Out u) answer = u ∷ bag
served_bag bag (In t) answers.Done = bag
served_bag bag (In t) (answers.Got u) = without u bag
served_bag bag (In t) answers.None = bag
served_bag bag (Rd t) answer = bag
served_bag bag (Inp t) answers.Done = bag
served_bag bag (Inp t) (answers.Got u) = without u bag
served_bag bag (Inp t) answers.None = bag
served_bag bag (Rdp t) answer = bag
