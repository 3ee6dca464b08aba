-- What one service of a run takes out.
-- Cited by Runs, space.rt.
use Rattle.std.specs.Prelude.{◌≡◌, List, ◌∷◌, Contains, IsPermutation}
use Rattle.kt_tuple.specs.declared.tuple.Tuple.{Tuple}
use Rattle.kt_tuple.specs.declared.op.Op.{Op}
use Rattle.kt_tuple.specs.declared.op.Answer.{Answer}
use Rattle.kt_tuple.specs.declared.op.Answer.TheVariants as answers
use Rattle.kt_tuple.specs.Space.{SpaceStep}

-- the space can answer the operation so
abbrev pub CanStep : List Tuple → Op → Answer → Type 0
CanStep old op answer = (new : List Tuple) × SpaceStep old op answer new

-- the tuple that was withdrawn is there
abbrev pub IsThere : List Tuple → Answer → Type 0
IsThere old answers.Done = Unit {0}
IsThere old (answers.Got u) = Contains old u
IsThere old answers.None = Unit {0}

-- the tuple that was withdrawn is taken out once
abbrev pub TakesOut : List Tuple → Answer → List Tuple → Type 0
TakesOut old answers.Done new = new ≡ old
TakesOut old (answers.Got u) new = IsPermutation old (u ∷ new)
TakesOut old answers.None new = new ≡ old
