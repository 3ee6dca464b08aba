-- The text of a tuple or a template is the one text of what is read of it.
-- Cited by Explained, `Template::write_to`, `Tuple::write_to`, `laws::a_text_read_is_spelled_so`,
--   `laws::a_text_spelled_is_read`.
use Rattle.std.proofs.Common.{◌≡◌, ℕ, List, None, Result, Ok, Err, sym, ap, subst, ◌∙◌}
use Rattle.std.specs.Prelude.{All, OnOk}
use Rattle.kt_tuple.specs.declared.value.Value.{Value}
use Rattle.kt_tuple.specs.declared.template.Place.{Place}
use Rattle.kt_tuple.specs.Valid.{IsValue, IsPlace}
use Rattle.kt_tuple.specs.Matching.{HasArity}
use Rattle.kt_tuple.specs.Spelling.{value_text, place_text, tuple_text, template_text}
use Rattle.kt_tuple.specs.Reading.{value_at, value_of, place_at, place_of}
use Rattle.kt_tuple.specs.Parsing.{tuple_fault, tuple_values, template_fault, template_places}
use Rattle.kt_tuple.specs.auxiliary.Making.{made_in}
use Rattle.kt_tuple.proofs.ValueLaws.{value_taken, value_made, value_read_front, value_read_spelled, value_in_range}
use Rattle.kt_tuple.proofs.ValuesRead.{value_at_text, value_of_text, has_range_text, is_short_text}
use Rattle.kt_tuple.proofs.PlaceLaws.{place_taken, place_made, place_read_front, place_read_spelled, place_in_range}
use Rattle.kt_tuple.proofs.PlacesRead.{place_at_text, place_of_text, has_range_place, is_short_place}
use Rattle.kt_tuple.proofs.Wholes.{IsReader, text_made}
use Rattle.kt_tuple.proofs.WholesRead.{text_faultless, text_remade}
use Rattle.kt_tuple.proofs.Making.{made_of_text}

values_read : IsReader value_at value_of value_text IsValue
values_read = record {
  front = value_read_front;
  spelled = value_read_spelled;
  made = λ text p rest e. value_made p (value_taken text p rest e).1;
  held = value_in_range;
  reads = value_at_text;
  makes = value_of_text;
  in_range = has_range_text;
  short = is_short_text;
}

places_read : IsReader place_at place_of place_text IsPlace
places_read = record {
  front = place_read_front;
  spelled = place_read_spelled;
  made = λ text p rest e. place_made p (place_taken text p rest e).1;
  held = place_in_range;
  reads = place_at_text;
  makes = place_of_text;
  in_range = has_range_place;
  short = is_short_place;
}

tuple_made : (text : List ℕ) → tuple_fault text ≡ None → made_in value_at value_of text ≡ tuple_values text
tuple_made = made_of_text value_at value_of

pub tuple_arity : (text : List ℕ) → tuple_fault text ≡ None → HasArity (tuple_values text)
tuple_arity text e = subst HasArity (tuple_made text e) (text_made value_at value_of value_text IsValue values_read text e).0

pub tuple_held : (text : List ℕ) → tuple_fault text ≡ None → All IsValue (tuple_values text)
tuple_held text e = subst (All IsValue) (tuple_made text e) (text_made value_at value_of value_text IsValue values_read text e).1

pub tuple_spelled : (text : List ℕ) → tuple_fault text ≡ None → tuple_text (tuple_values text) ≡ text
tuple_spelled text e = sym (ap tuple_text (tuple_made text e)) ∙ (text_made value_at value_of value_text IsValue values_read text e).2

pub tuple_faultless : (us : List Value) → HasArity us → All IsValue us → tuple_fault (tuple_text us) ≡ None
tuple_faultless = text_faultless value_at value_of value_text IsValue values_read

pub tuple_remade : (us : List Value) → HasArity us → All IsValue us → tuple_values (tuple_text us) ≡ us
tuple_remade us arity held =
    sym (tuple_made (tuple_text us) (tuple_faultless us arity held)) ∙ text_remade value_at value_of value_text IsValue values_read us arity held

template_made : (text : List ℕ) → template_fault text ≡ None → made_in place_at place_of text ≡ template_places text
template_made = made_of_text place_at place_of

pub template_arity : (text : List ℕ) → template_fault text ≡ None → HasArity (template_places text)
template_arity text e = subst HasArity (template_made text e) (text_made place_at place_of place_text IsPlace places_read text e).0

pub template_held : (text : List ℕ) → template_fault text ≡ None → All IsPlace (template_places text)
template_held text e = subst (All IsPlace) (template_made text e) (text_made place_at place_of place_text IsPlace places_read text e).1

pub template_spelled : (text : List ℕ) → template_fault text ≡ None → template_text (template_places text) ≡ text
template_spelled text e = sym (ap template_text (template_made text e)) ∙ (text_made place_at place_of place_text IsPlace places_read text e).2

pub template_faultless : (ts : List Place) → HasArity ts → All IsPlace ts → template_fault (template_text ts) ≡ None
template_faultless = text_faultless place_at place_of place_text IsPlace places_read

pub template_remade : (ts : List Place) → HasArity ts → All IsPlace ts → template_places (template_text ts) ≡ ts
template_remade ts arity held =
    sym (template_made (template_text ts) (template_faultless ts arity held)) ∙ text_remade place_at place_of place_text IsPlace places_read ts arity held

-- what holds at success shows another thing there
pub when_ok : {A E : Type 0} (r : Result A E) (P Q : Type 0) → (P → Q) → OnOk r P → OnOk r Q
when_ok (Ok x) P Q show p = show p
when_ok (Err e) P Q show p = tt
