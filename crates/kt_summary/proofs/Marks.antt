-- A line that is spent stays so.
-- Cited by Noting, `laws::a_line_is_struck_once`.
use Rattle.std.proofs.Common.{◌≡◌, ◌≢◌, ℕ, zero, suc, ◌-◌, ◌≤◌, ◌<◌, true, Option, Some, None, List, [], ◌∷◌, set, take, drop, slice_get}
use Rattle.std.proofs.Common.{refl, sym, ap, ◌∙◌, inl, inr, arith}
use Rattle.std.proofs.lemmas.Bool.{cases_eq, cases_lt, false≢true}
use Rattle.std.proofs.lemmas.List.{take-append-drop, take-take}
use Rattle.std.proofs.lemmas.List.Sums.{fold-append}
use Rattle.kt_scenario.specs.declared.step.Step.{Step}
use Rattle.kt_scenario.specs.declared.step.Step.TheVariants.{Fail, Check}
use Rattle.kt_scenario.specs.declared.faults.FaultKind.TheVariants as kinds
use Rattle.kt_scenario.specs.declared.faults.FaultLine.{FaultLine}
use Rattle.kt_scenario.specs.Faults.{mark_at, marked, place_spent, set_marked, spent}
use Rattle.kt_stage.specs.Policy.{spent_by}
use Rattle.kt_summary.specs.Strikes.{IsStruckBy, is_marked_line, is_spent}

set-keeps : (lines : List FaultLine) (i : ℕ) (x : FaultLine) (place : ℕ) → x.is_marked ≡ true → is_marked_line (slice_get lines place) ≡ true
    → is_marked_line (slice_get (set lines i x) place) ≡ true
set-keeps [] i x place marks e = e
set-keeps (l ∷ ls) zero x zero marks e = marks
set-keeps (l ∷ ls) zero x (suc place) marks e = e
set-keeps (l ∷ ls) (suc i) x zero marks e = e
set-keeps (l ∷ ls) (suc i) x (suc place) marks e = set-keeps ls i x place marks e

mark-keeps : (lines : List FaultLine) (o : Option ℕ) (place : ℕ) → is_marked_line (slice_get lines place) ≡ true
    → is_marked_line (slice_get (mark_at lines o) place) ≡ true
mark-keeps lines None place e = e
mark-keeps lines (Some i) place e = go (slice_get lines i) where
  go : (o : Option FaultLine) → is_marked_line (slice_get (set_marked lines i o) place) ≡ true
  go None = e
  go (Some line) = set-keeps lines i (marked line) place refl e

spent-keeps : (lines : List FaultLine) (step : Step) (place : ℕ) → is_marked_line (slice_get lines place) ≡ true
    → is_marked_line (slice_get (spent lines step) place) ≡ true
spent-keeps lines (Fail p) place e = mark-keeps lines (place_spent kinds.Fail p lines) place e
spent-keeps lines (Check p) place e = mark-keeps lines (place_spent kinds.Check p lines) place e
spent-keeps lines step place e = e

by-keeps : (lines : List FaultLine) (steps : List Step) (place : ℕ) → is_marked_line (slice_get lines place) ≡ true → is_spent lines place steps ≡ true
by-keeps lines [] place e = e
by-keeps lines (step ∷ later) place e = by-keeps (spent lines step) later place (spent-keeps lines step place e)

-- what some steps spend is spent by more of them
pub more-keeps : (lines : List FaultLine) (steps : List Step) (place m n : ℕ) → m ≤ n → is_spent lines place (take m steps) ≡ true
    → is_spent lines place (take n steps) ≡ true
more-keeps lines steps place m n le e =
    let front = take m (take n steps) in
    let rest = drop m (take n steps) in
    ap (λ (xs : List Step). is_spent lines place xs) (sym (take-append-drop m (take n steps)))
    ∙ ap (λ (ls : List FaultLine). is_marked_line (slice_get ls place)) (fold-append spent lines front rest)
    ∙ ap (λ (xs : List Step). is_marked_line (slice_get (spent_by (spent_by lines xs) rest) place)) (take-take m n steps le)
    ∙ by-keeps (spent_by lines (take m steps)) rest place e

not-later : (lines : List FaultLine) (steps : List Step) (place m n : ℕ) → m < n → IsStruckBy lines steps place m → IsStruckBy lines steps place n → ⊥
not-later lines steps place m n lt a b =
    false≢true (sym (b.before (omega (arith, lt))) ∙ more-keeps lines steps place m (n - 1) (omega (arith, lt)) a.after)

-- a line is struck once
pub struck-once : (lines : List FaultLine) (steps : List Step) (place m n : ℕ) → IsStruckBy lines steps place m → IsStruckBy lines steps place n → m ≡ n
struck-once lines steps place m n a b = elim (cases_eq m n) [
  | inl same ↦ same
  | inr other ↦ elim (cases_lt m n) [
    | inl less ↦ absurd (not-later lines steps place m n less a b)
    | inr more ↦ absurd (not-later lines steps place n m (omega (arith, more, other)) b a)
  ]
]
