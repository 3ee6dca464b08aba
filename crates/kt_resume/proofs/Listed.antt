-- A list of what workers have, by rising worker.
-- Cited by `entries::has_entries`.
use Rattle.std.proofs.Common.{◌≡◌, ℕ, zero, suc, ◌+◌, ◌<◌, ◌≤◌, Bool, IsTrue, List, [], ◌∷◌, ◌++◌, length, refl, sym, ap, ◌∙◌, arith, eq-eqb, eqb-true}
use Rattle.std.specs.Prelude.{◌==◌, ◌↔◌}
use Rattle.std.specs.List.{flat_map}
use Rattle.std.proofs.lemmas.List.{append-nil, append_assoc, append_cancel_left, nil_from_length}
use Rattle.kt_state.specs.Labels.{numbers}
use Rattle.kt_state.proofs.Numbers.{flat_from_one}

-- the worker's part of it stands behind those of the workers before
pub listed-more : {A : Type 0} (f : ℕ → List A) (n : ℕ) (listed rest behind : List A) → listed ≡ flat_map f (numbers 1 n) ++ rest → rest ≡ f (n + 1) ++ behind
    → listed ≡ flat_map f (numbers 1 (n + 1)) ++ behind
listed-more f n listed rest behind is more =
    is ∙ ap (λ l. flat_map f (numbers 1 n) ++ l) more ∙ sym (append_assoc (flat_map f (numbers 1 n)) (f (n + 1)) behind)
    ∙ ap (λ l. l ++ behind) (sym (flat_from_one f n))

-- the list of more workers begins with that of fewer and the next one's part
listed-begins : {A : Type 0} (f : ℕ → List A) (n more : ℕ) → (later : List A)
    × (flat_map f (numbers 1 (n + 1 + more)) ≡ flat_map f (numbers 1 n) ++ (f (n + 1) ++ later))
listed-begins f n zero =
    let one : n + 1 + 0 ≡ n + 1 = omega arith in
    ([], ap (λ k. flat_map f (numbers 1 k)) one ∙ flat_from_one f n ∙ ap (λ l. flat_map f (numbers 1 n) ++ l) (sym (append-nil (f (n + 1)))))
listed-begins f n (suc more) =
    let before = listed-begins f n more in
    let last = n + 1 + more in
    let next : n + 1 + suc more ≡ last + 1 = omega arith in
    let front = flat_map f (numbers 1 n) in (
      before.0 ++ f (last + 1),
      ap (λ k. flat_map f (numbers 1 k)) next ∙ flat_from_one f last ∙ ap (λ l. l ++ f (last + 1)) before.1
          ∙ append_assoc front (f (n + 1) ++ before.0) (f (last + 1)) ∙ ap (λ l. front ++ l) (append_assoc (f (n + 1)) before.0 (f (last + 1))),
    )

pub listed-apart : {A : Type 0} (f : ℕ → List A) (n m : ℕ) (listed rest : List A) → n < m → listed ≡ flat_map f (numbers 1 n) ++ rest
    → ((behind : List A) → ¬ (rest ≡ f (n + 1) ++ behind)) → ¬ (listed ≡ flat_map f (numbers 1 m))
listed-apart f n m listed rest lt is other whole =
    let more = distance n m lt in
    let begins = listed-begins f n more.0 in
    other begins.0
    (append_cancel_left (flat_map f (numbers 1 n)) rest (f (n + 1) ++ begins.0)
    (sym is ∙ whole ∙ ap (λ k. flat_map f (numbers 1 k)) more.1 ∙ begins.1))
  where
    distance : (n m : ℕ) → n < m → (more : ℕ) × (m ≡ n + 1 + more)
    distance n zero lt = absurd (omega arith)
    distance zero (suc m) lt = (m, omega arith)
    distance (suc n) (suc m) lt = let d = distance n m (omega arith) in (d.0, let e : m ≡ n + 1 + d.0 = d.1 in omega (arith, e))

pub empty_is : {A : Type 0} (xs : List A) (empty : Bool) → empty ≡ (length xs == 0) → IsTrue empty ↔ (xs ≡ [])
empty_is xs empty e =
    (λ h. nil_from_length xs (eqb-true (length xs) 0 (sym e ∙ h)), λ is. e ∙ eq-eqb (length xs) 0 (ap (λ l. length l) is))

pub listed-end : {A : Type 0} (f : ℕ → List A) (n m : ℕ) (listed rest : List A) (empty : Bool) → n ≤ m → m ≤ n → listed ≡ flat_map f (numbers 1 n) ++ rest
    → IsTrue empty ↔ (rest ≡ []) → IsTrue empty ↔ (listed ≡ flat_map f (numbers 1 m))
listed-end f n m listed rest empty below above is empties =
    let all : n ≡ m = omega (arith, below, above) in
    let whole : flat_map f (numbers 1 n) ≡ flat_map f (numbers 1 m) = ap (λ k. flat_map f (numbers 1 k)) all in (
      λ h. is ∙ ap (λ l. flat_map f (numbers 1 n) ++ l) (empties.0 h) ∙ append-nil (flat_map f (numbers 1 n)) ∙ whole,
      λ e. empties.1
          (append_cancel_left (flat_map f (numbers 1 n)) rest [] (sym is ∙ e ∙ sym whole ∙ sym (append-nil (flat_map f (numbers 1 n))))),
    )
