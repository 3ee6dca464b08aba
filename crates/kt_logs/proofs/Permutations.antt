-- Bags that differ in order alone: what is added to both or taken from both leaves them so, and a step on one is a step on the other.
-- Cited by other crates.
use Rattle.std.proofs.Common.{List, ◌∷◌, Contains, IsPermutation}
use Rattle.std.proofs.lemmas.List.Sorted.{IsPermutation-refl, IsPermutation-sym, IsPermutation-trans, IsPermutation-cons, Contains-permutation}
use Rattle.kt_tuple.specs.declared.tuple.Tuple.{Tuple}
use Rattle.kt_tuple.specs.declared.op.Op.{Op}
use Rattle.kt_tuple.specs.declared.op.Op.TheVariants.{Out, In, Rd, Inp, Rdp}
use Rattle.kt_tuple.specs.declared.op.Answer.{Answer}
use Rattle.kt_tuple.specs.declared.op.Answer.TheVariants as answers
use Rattle.kt_tuple.specs.Space.{SpaceStep}
use Rattle.kt_logs.specs.Bag.{without, served_bag}
use Rattle.kt_history.proofs.Shared.{Contains-here, IsPermutation-uncons, like_none}
use Rattle.kt_logs.proofs.Bags.{takes}

-- one is the other with u
taken_like : (u : Tuple) (x y new : List Tuple) → IsPermutation x y → IsPermutation y (u ∷ new) → IsPermutation x (u ∷ without u x)
    × IsPermutation (without u x) new
taken_like u x y new like h =
    let both : IsPermutation x (u ∷ new) = IsPermutation-trans x y (u ∷ new) like h in
    let there : Contains x u = Contains-permutation (u ∷ new) x u (IsPermutation-sym x (u ∷ new) both) (Contains-here u new) in
    let out : IsPermutation x (u ∷ without u x) = takes u x there in
    (out, IsPermutation-uncons u (without u x) new (IsPermutation-trans (u ∷ without u x) x (u ∷ new) (IsPermutation-sym x (u ∷ without u x) out) both))

-- a step on a bag is a step on one that differs in order alone, and leaves such
pub step_like : (x y : List Tuple) (op : Op) (answer : Answer) (new : List Tuple) → IsPermutation x y → SpaceStep y op answer new →
    SpaceStep x op answer (served_bag x op answer) × IsPermutation (served_bag x op answer) new
step_like x y (Out u) answers.Done new like h = (IsPermutation-refl (u ∷ x), IsPermutation-trans (u ∷ x) (u ∷ y) new (IsPermutation-cons u x y like) h)
step_like x y (In t) (answers.Got u) new like h = let k = taken_like u x y new like h.1 in ((h.0, k.0), k.1)
step_like x y (Inp t) (answers.Got u) new like h = let k = taken_like u x y new like h.1 in ((h.0, k.0), k.1)
step_like x y (Rd t) (answers.Got u) new like h =
    ((h.0, Contains-permutation y x u (IsPermutation-sym x y like) h.1, IsPermutation-refl x), IsPermutation-trans x y new like h.2)
step_like x y (Rdp t) (answers.Got u) new like h =
    ((h.0, Contains-permutation y x u (IsPermutation-sym x y like) h.1, IsPermutation-refl x), IsPermutation-trans x y new like h.2)
step_like x y (Inp t) answers.None new like h = ((like_none t x y like h.0, IsPermutation-refl x), IsPermutation-trans x y new like h.1)
step_like x y (Rdp t) answers.None new like h = ((like_none t x y like h.0, IsPermutation-refl x), IsPermutation-trans x y new like h.1)
step_like x y _ _ new like h = absurd h
