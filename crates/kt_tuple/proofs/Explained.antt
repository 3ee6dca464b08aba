-- What each error of a text says of it, by the grammar.
-- Cited by parsing.rt.
use Rattle.std.proofs.Common.{◌≡◌, ℕ, List, Some, None}
use Rattle.kt_tuple.specs.declared.parse_error.ParseError.{ParseError}
use Rattle.kt_tuple.specs.declared.parse_error.ParseError.TheVariants as faults
use Rattle.kt_tuple.specs.Grammar.{IsValueText, IsPlaceText, actual, Explains, IsAccepted}
use Rattle.kt_tuple.specs.Reading.{value_at, place_at}
use Rattle.kt_tuple.specs.Parsing.{Reader, fault_of, tuple_fault, template_fault}
use Rattle.kt_tuple.proofs.Shapes.{IsReaderOf}
use Rattle.kt_tuple.proofs.PlaceShapes.{values_shape, places_shape}
use Rattle.kt_tuple.proofs.TextShapes.{shape_no_syntax, syntax_within, syntax_begins, syntax_longest}
use Rattle.kt_tuple.proofs.TextFaults.{range_outside, too_long_inside}
use Rattle.kt_tuple.proofs.Exact.{none_accepted}
use Rattle.kt_tuple.proofs.ByShape.{outside_to, long_to, fine_to}
use Rattle.kt_tuple.proofs.Texts.{tuple_arity, tuple_spelled, template_arity, template_spelled}

module _ (read : Reader) (IsOne : List ℕ → Type 0) (g : IsReaderOf read IsOne) (as_place : (p : List ℕ) → IsOne p → IsPlaceText p) where
  explained : (text : List ℕ) (e : ParseError) → fault_of read text ≡ Some e → Explains IsOne text e
  explained text (faults.Syntax at) e = (
    λ shape. shape_no_syntax read IsOne g text at shape e,
    record {
      within = syntax_within read IsOne g text at e;
      begins = syntax_begins read IsOne g text at e;
      longest = λ n. syntax_longest read IsOne g text at n e;
    },
  )
  explained text (faults.Range at) e = outside_to IsOne as_place text at (range_outside read IsOne g text at e)
  explained text faults.TooLong e = long_to IsOne as_place text (too_long_inside read IsOne g text e)
  explained text faults.OutOfMemory e = tt

pub tuple_explained : (text : List ℕ) (e : ParseError) → tuple_fault text ≡ Some e → Explains IsValueText text e
tuple_explained = explained value_at IsValueText values_shape (λ p h. actual h)

pub tuple_accepted : (text : List ℕ) → tuple_fault text ≡ None → IsAccepted IsValueText text
tuple_accepted text e = fine_to IsValueText (λ p h. actual h) text (none_accepted value_at IsValueText values_shape text e)

pub template_explained : (text : List ℕ) (e : ParseError) → template_fault text ≡ Some e → Explains IsPlaceText text e
template_explained = explained place_at IsPlaceText places_shape (λ p h. h)

pub template_accepted : (text : List ℕ) → template_fault text ≡ None → IsAccepted IsPlaceText text
template_accepted text e = fine_to IsPlaceText (λ p h. h) text (none_accepted place_at IsPlaceText places_shape text e)

pub ruleset tuple_laws = (tuple_arity, tuple_spelled, tuple_explained, tuple_accepted)

pub ruleset template_laws = (template_arity, template_spelled, template_explained, template_accepted)
