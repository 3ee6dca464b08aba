-- A text without the shape has its syntax fault at the longest front that begins a text, and nowhere else.
-- Cited by `laws::a_syntax_fault_is_at_the_longest_front`.
use Rattle.std.proofs.Common.{◌≡◌, ℕ, ◌<◌, inl, inr, List, Option, Some, None, refl, sym, ap, ◌∙◌, arith}
use Rattle.std.proofs.lemmas.Bool.{cases_lt}
use Rattle.kt_tuple.specs.declared.parse_error.ParseError.{ParseError}
use Rattle.kt_tuple.specs.declared.parse_error.ParseError.TheVariants as faults
use Rattle.kt_tuple.specs.Grammar.{IsTextOf, IsLongestFront}
use Rattle.kt_tuple.specs.Parsing.{Reader, fault_of}
use Rattle.kt_tuple.proofs.Shapes.{IsReaderOf}
use Rattle.kt_tuple.proofs.TextShapes.{no_syntax_shape, syntax_within, syntax_begins, syntax_longest}

by_order : (n m : ℕ) → (n < m → ⊥) → (m < n → ⊥) → n ≡ m
by_order n m below above = elim (cases_lt n m) [
  | inl lt ↦ absurd (below lt)
  | inr le ↦ elim (cases_lt m n) [
    | inl lt ↦ absurd (above lt)
    | inr ge ↦ omega (arith, le, ge)
  ]
]

module _ (read : Reader) (IsOne : List ℕ → Type 0) (g : IsReaderOf read IsOne) where
  one_front : (text : List ℕ) (n at : ℕ) → fault_of read text ≡ Some (faults.Syntax n) → IsLongestFront (IsTextOf IsOne) text at → n ≡ at
  one_front text n at e h = by_order n at (λ lt. syntax_longest read IsOne g text n at e lt h.within h.begins)
      (λ lt. h.longest n lt (syntax_within read IsOne g text n e) (syntax_begins read IsOne g text n e))

  syntax_by : (o : Option ParseError) (text : List ℕ) (at : ℕ) → fault_of read text ≡ o → ¬ IsTextOf IsOne text → IsLongestFront (IsTextOf IsOne) text at
      → o ≡ Some (faults.Syntax at)
  syntax_by (Some (faults.Syntax n)) text at e none h = ap (λ k. Some (faults.Syntax k)) (one_front text n at e h)
  syntax_by None text at e none h =
      absurd (none (no_syntax_shape read IsOne g text (λ n is. let never : None ≡ Some (faults.Syntax n) = sym e ∙ is in absurd cc)))
  syntax_by (Some (faults.Range m)) text at e none h =
      absurd (none (no_syntax_shape read IsOne g text (λ n is. let never : Some (faults.Range m) ≡ Some (faults.Syntax n) = sym e ∙ is in absurd cc)))
  syntax_by (Some faults.TooLong) text at e none h =
      absurd (none (no_syntax_shape read IsOne g text (λ n is. let never : Some faults.TooLong ≡ Some (faults.Syntax n) = sym e ∙ is in absurd cc)))
  syntax_by (Some faults.OutOfMemory) text at e none h =
      absurd (none (no_syntax_shape read IsOne g text (λ n is. let never : Some faults.OutOfMemory ≡ Some (faults.Syntax n) = sym e ∙ is in absurd cc)))

  pub syntax_only : (text : List ℕ) (at : ℕ) → ¬ IsTextOf IsOne text → IsLongestFront (IsTextOf IsOne) text at → fault_of read text ≡ Some (faults.Syntax at)
  syntax_only text at none h = syntax_by (fault_of read text) text at refl none h
