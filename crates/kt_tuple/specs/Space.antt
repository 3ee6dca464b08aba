-- One sequential tuple space (Gelernter, "Generative Communication in Linda").
-- The space is a multiset of tuples: a list up to permutation.
-- Cited by other crates.
use Rattle.std.specs.Prelude.{List, [], ◌∷◌, Contains, IsPermutation}
use Rattle.kt_tuple.specs.declared.tuple.Tuple.{Tuple}
use Rattle.kt_tuple.specs.declared.template.Template.{Template}
use Rattle.kt_tuple.specs.declared.op.Op.{Op}
use Rattle.kt_tuple.specs.declared.op.Op.TheVariants.{Out, In, Rd, Inp, Rdp}
use Rattle.kt_tuple.specs.declared.op.Answer.{Answer}
use Rattle.kt_tuple.specs.declared.op.Answer.TheVariants as answers
use Rattle.kt_tuple.specs.declared.service.Service.{Service}
use Rattle.kt_tuple.specs.Matching.{Matches}

-- some tuple that matches was withdrawn
abbrev pub Withdraws : Template → List Tuple → Tuple → List Tuple → Type 0
Withdraws t old u new = Matches t u × IsPermutation old (u ∷ new)

-- some tuple that matches was read, and the space stays
abbrev pub Reads : Template → List Tuple → Tuple → List Tuple → Type 0
Reads t old u new = Matches t u × Contains old u × IsPermutation old new

-- no tuple matches, and the space stays
abbrev pub FindsNone : Template → List Tuple → List Tuple → Type 0
FindsNone t old new = ((u : Tuple) → Contains old u → ¬ Matches t u) × IsPermutation old new

-- the space old answers the operation so, and is new then
abbrev pub SpaceStep : List Tuple → Op → Answer → List Tuple → Type 0
SpaceStep old (Out u) answers.Done new = IsPermutation (u ∷ old) new
SpaceStep old (Out u) (answers.Got v) new = ⊥
SpaceStep old (Out u) answers.None new = ⊥
SpaceStep old (In t) answers.Done new = ⊥
SpaceStep old (In t) (answers.Got u) new = Withdraws t old u new
SpaceStep old (In t) answers.None new = ⊥
SpaceStep old (Rd t) answers.Done new = ⊥
SpaceStep old (Rd t) (answers.Got u) new = Reads t old u new
SpaceStep old (Rd t) answers.None new = ⊥
SpaceStep old (Inp t) answers.Done new = ⊥
SpaceStep old (Inp t) (answers.Got u) new = Withdraws t old u new
SpaceStep old (Inp t) answers.None new = FindsNone t old new
SpaceStep old (Rdp t) answers.Done new = ⊥
SpaceStep old (Rdp t) (answers.Got u) new = Reads t old u new
SpaceStep old (Rdp t) answers.None new = FindsNone t old new

-- the services lead, one after the other, from the tuples old to the tuples new
abbrev pub RunsFrom : List Tuple → List Service → List Tuple → Type 0
RunsFrom old [] new = IsPermutation old new
RunsFrom old (s ∷ later) new = (between : List Tuple) × SpaceStep old s.op s.answer between × RunsFrom between later new

-- the services are one run of a space that was empty at first, and lead to these tuples
abbrev pub IsSpaceRun : List Service → List Tuple → Type 0
IsSpaceRun services tuples = RunsFrom [] services tuples
