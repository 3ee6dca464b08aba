-- The value of a name stands at the name's number.
-- Cited by variables.rt, `variables::held`, `variables::hold`.
use Rattle.std.proofs.Common.{◌≡◌, ℕ, ◌≤◌, length, arith, zero, suc, true, false, pos, List, [], ◌∷◌, slice_set, position, None, Some, refl, ap, ◌∙◌}
use Rattle.std.specs.Prelude.{slice_index_or, if◌then◌else◌}
use Rattle.std.specs.Map.{keys_of}
use Rattle.std.specs.List.{AllByRecursion}
use Rattle.indexmap.proofs.MapLemmas.{Found-position, Missing-position}
use Rattle.kt_tuple.specs.declared.value.Value.{Value}
use Rattle.kt_tuple.specs.declared.value.Value.TheVariants.{Int}
use Rattle.kt_tuple.specs.declared.value.Kind.{Kind}
use Rattle.kt_script.specs.declared.name.Name.{Name}
use Rattle.kt_script.specs.Name.{same_name}
use Rattle.kt_script.specs.Memory.{held, with_held}

-- the i-th name is the first that is x
abbrev pub IsFirst : Name → List (Name × Kind) → ℕ → Type 0
IsFirst x [] i = ⊥
IsFirst x (v ∷ vs) zero = same_name x v.0 ≡ true
IsFirst x (v ∷ vs) (suc i) = (same_name x v.0 ≡ false) × IsFirst x vs i

-- no name is x
abbrev pub IsAbsent : Name → List (Name × Kind) → Type 0
IsAbsent x vs = AllByRecursion (λ k. same_name x k ≡ false) (keys_of vs)

pub held-first : (vs : List (Name × Kind)) (us : List Value) (x : Name) (i : ℕ) → IsFirst x vs i → held vs us x ≡ slice_index_or us i (Int (pos 0))
held-first [] us x i h = absurd h
held-first (v ∷ vs) [] x i h = refl
held-first (v ∷ vs) (u ∷ us) x zero h = ap (λ b. if b then u else held vs us x) h
held-first (v ∷ vs) (u ∷ us) x (suc i) h = ap (λ b. if b then u else held vs us x) h.0 ∙ held-first vs us x i h.1

pub held-absent : (vs : List (Name × Kind)) (us : List Value) (x : Name) → IsAbsent x vs → held vs us x ≡ Int (pos 0)
held-absent [] us x h = refl
held-absent (v ∷ vs) [] x h = refl
held-absent (v ∷ vs) (u ∷ us) x h = ap (λ b. if b then u else held vs us x) h.0 ∙ held-absent vs us x h.1

pub with_held-first : (vs : List (Name × Kind)) (us : List Value) (x : Name) (w : Value) (i : ℕ) → IsFirst x vs i → with_held vs us x w ≡ slice_set us i w
with_held-first [] us x w i h = absurd h
with_held-first (v ∷ vs) [] x w i h = refl
with_held-first (v ∷ vs) (u ∷ us) x w zero h = ap (λ b. if b then w ∷ us else u ∷ with_held vs us x w) h
with_held-first (v ∷ vs) (u ∷ us) x w (suc i) h =
    ap (λ b. if b then w ∷ us else u ∷ with_held vs us x w) h.0 ∙ ap (λ rest. u ∷ rest) (with_held-first vs us x w i h.1)

pub with_held-absent : (vs : List (Name × Kind)) (us : List Value) (x : Name) (w : Value) → IsAbsent x vs → with_held vs us x w ≡ us
with_held-absent [] us x w h = refl
with_held-absent (v ∷ vs) [] x w h = refl
with_held-absent (v ∷ vs) (u ∷ us) x w h =
    ap (λ b. if b then w ∷ us else u ∷ with_held vs us x w) h.0 ∙ ap (λ rest. u ∷ rest) (with_held-absent vs us x w h.1)

pub held-some : (vs : List (Name × Kind)) (us : List Value) (x : Name) (i : ℕ) → position (same_name x) (keys_of vs) ≡ Some i
    → held vs us x ≡ slice_index_or us i (Int (pos 0))
held-some vs us x i e = held-first vs us x i (Found-position (same_name x) vs i e).first

pub held-none : (vs : List (Name × Kind)) (us : List Value) (x : Name) → position (same_name x) (keys_of vs) ≡ None → held vs us x ≡ Int (pos 0)
held-none vs us x e = held-absent vs us x (Missing-position (same_name x) vs e).absent

pub with_held-some : (vs : List (Name × Kind)) (us : List Value) (x : Name) (w : Value) (i : ℕ) → position (same_name x) (keys_of vs) ≡ Some i
    → with_held vs us x w ≡ slice_set us i w
with_held-some vs us x w i e = with_held-first vs us x w i (Found-position (same_name x) vs i e).first

pub with_held-none : (vs : List (Name × Kind)) (us : List Value) (x : Name) (w : Value) → position (same_name x) (keys_of vs) ≡ None → with_held vs us x w ≡ us
with_held-none vs us x w e = with_held-absent vs us x w (Missing-position (same_name x) vs e).absent

pub with_held-first_past : (vs : List (Name × Kind)) (us : List Value) (x : Name) (w : Value) (i : ℕ) → IsFirst x vs i → length us ≤ i
    → with_held vs us x w ≡ us
with_held-first_past [] us x w i h past = absurd h
with_held-first_past (v ∷ vs) [] x w i h past = refl
with_held-first_past (v ∷ vs) (u ∷ us) x w zero h past = absurd (omega (arith, past))
with_held-first_past (v ∷ vs) (u ∷ us) x w (suc i) h past =
    ap (λ b. if b then w ∷ us else u ∷ with_held vs us x w) h.0 ∙ ap (λ rest. u ∷ rest) (with_held-first_past vs us x w i h.1 (omega (arith, past)))

-- past the end nothing is written
pub with_held-past : (vs : List (Name × Kind)) (us : List Value) (x : Name) (w : Value) (i : ℕ) → position (same_name x) (keys_of vs) ≡ Some i → length us ≤ i
    → with_held vs us x w ≡ us
with_held-past vs us x w i e past = with_held-first_past vs us x w i (Found-position (same_name x) vs i e).first past

pub ruleset held_laws = (held-none, held-some)

pub ruleset with_held_laws = (with_held-none, with_held-some)
