-- Each script is within its limits.
-- Cited by `opening::scripts_are_short`; other crates.
use Rattle.std.proofs.Common.{◌≡◌, ℕ, ◌+◌, ◌<◌, ◌≤◌, zero, suc, List, [], ◌∷◌, length, get_or, inl, inr, subst, sym, arith}
use Rattle.std.specs.Prelude.{IfSome, slice_get}
use Rattle.std.proofs.lemmas.Bool.{cases_eq, cases_lt}
use Rattle.kt_script.specs.declared.command.Command.{Command}
use Rattle.kt_script.specs.Rules.{IsScript}
use Rattle.kt_script.proofs.Shared.{keeps_limits}
use Rattle.kt_model.specs.Short.{IsShort}

pub of_script : (script : List Command) → IsScript script → IsShort script
of_script script is = let k = keeps_limits script is in record { is_script = is; commands = k.0; variables = k.1 }

at-this : {X : Type 0} (P : X → Type 0) (xs : List X) (k : ℕ) (x d : X) → k < length xs → x ≡ get_or xs k d → P x → IfSome (slice_get xs k) P
at-this P [] k x d lt e h = absurd (omega (arith, lt))
at-this P (y ∷ ys) zero x d lt e h = subst P e h
at-this P (y ∷ ys) (suc k) x d lt e h = at-this P ys k x d (omega (arith, lt)) e h

past : {X : Type 0} (P : X → Type 0) (xs : List X) (n : ℕ) → length xs ≤ n → IfSome (slice_get xs n) P
past P [] n le = tt
past P (y ∷ ys) zero le = absurd (omega (arith, le))
past P (y ∷ ys) (suc n) le = past P ys n (omega (arith, le))

abbrev pub AreShort : List (List Command) → ℕ → Type 0
AreShort scripts k = (n : ℕ) → n < k → IfSome (slice_get scripts n) IsShort

pub short-next : (scripts : List (List Command)) (k : ℕ) (script d : List Command) → script ≡ get_or scripts k d
    → k < length scripts → IsScript script → AreShort scripts k → AreShort scripts (k + 1)
short-next scripts k script d e lt is so_far n below = elim (cases_eq n k) [
  | inl same ↦ subst (λ (m : ℕ). IfSome (slice_get scripts m) IsShort) (sym same) (at-this IsShort scripts k script d lt e (of_script script is))
  | inr apart ↦ so_far n (omega (arith, below, apart))
]

pub short-all : (scripts : List (List Command)) (k : ℕ) → length scripts ≤ k → AreShort scripts k → (n : ℕ) → IfSome (slice_get scripts n) IsShort
short-all scripts k end so_far n = elim (cases_lt n k) [
  | inl below ↦ so_far n below
  | inr above ↦ past IsShort scripts n (omega (arith, above, end))
]
