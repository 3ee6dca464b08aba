-- What holds of each element of a list holds of one that it contains, and of each of two lists together.
-- Cited by NamedCauses; other crates.
use Rattle.std.proofs.Common.{List, [], ◌∷◌, ◌++◌, Contains, inl, inr, subst}
use Rattle.std.specs.List.{AllByRecursion}
use Rattle.kt_history.proofs.Shared.{Contains-none, Contains-cons_cases}

pub all-at : {X : Type 0} (P : X → Type 0) (xs : List X) (x : X) → AllByRecursion P xs → Contains xs x → P x
all-at P [] x all c = absurd (Contains-none x c)
all-at P (y ∷ ys) x all c = elim (Contains-cons_cases y ys x c) [ inl e ↦ subst P e all.0 | inr there ↦ all-at P ys x all.1 there ]

pub all-append : {X : Type 0} (P : X → Type 0) (xs ys : List X) → AllByRecursion P xs → AllByRecursion P ys → AllByRecursion P (xs ++ ys)
all-append P [] ys h g = g
all-append P (x ∷ xs) ys h g = (h.0, all-append P xs ys h.1 g)
