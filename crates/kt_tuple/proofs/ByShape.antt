-- The tests of the readers say of places what the grammar says of them.
-- Cited by Explained, `laws::a_text_of_the_shape_has_these_faults`.
use Rattle.std.proofs.Common.{◌≡◌, ℕ, inl, inr, Bool, true, false, List, [], ◌∷◌, ◌++◌, refl, sym, ap, ◌∙◌}
use Rattle.std.proofs.lemmas.Bool.{and_parts, and_from, false_from_ne_true, true_from_ne_false}
use Rattle.std.proofs.lemmas.List.Elements.{All-nil, All-cons, All-head, All-tail}
use Rattle.std.specs.Prelude.{All}
use Rattle.std.specs.List.{list_all}
use Rattle.kt_tuple.specs.Grammar.{quoted, int, str, is_true, is_false, IsPlaceText, actual, any_int, any_str, any_bool, Separated, one, more}
use Rattle.kt_tuple.specs.Grammar.{Consists, in_parentheses, IsInside, IsShort, IsFirstOutside, IsTooLong, IsAccepted}
use Rattle.kt_tuple.specs.Reading.{has_range, is_short}
use Rattle.kt_tuple.proofs.Outside.{int_range, formal_range, str_short, int_short}
use Rattle.kt_tuple.proofs.Rows.{HasOutside, HasTooLong, HasFine}

is_inside : (p : List ℕ) → has_range p ≡ true → IsInside p
is_inside p e is = (int_range p is).0 e

inside_is : (p : List ℕ) → IsPlaceText p → IsInside p → has_range p ≡ true
inside_is p is h = true_from_ne_false (has_range p) (λ e.
    let number = formal_range p is e in
    let never : true ≡ false = sym ((int_range p number).1 (h number)) ∙ e in
    absurd cc)

short_is : (p : List ℕ) → IsPlaceText p → IsShort p → is_short p ≡ true
unfolding is_short
short_is p (actual (int is)) h = int_short p is
short_is p (actual (str (quoted {cs} is))) h = (str_short cs is).1 (h cs is refl)
short_is p (actual is_true) h = refl
short_is p (actual is_false) h = refl
short_is p any_int h = refl
short_is p any_str h = refl
short_is p any_bool h = refl

is_short_by : (p : List ℕ) → is_short p ≡ true → IsShort p
is_short_by p e cs h is = (str_short cs h).0 (ap is_short (sym is) ∙ e)

all_by : (test : List ℕ → Bool) (P : List ℕ → Type 0) → ((p : List ℕ) → test p ≡ true → P p) → (ps : List (List ℕ)) → list_all test ps ≡ true → All P ps
all_by test P holds [] e = All-nil P
all_by test P holds (p ∷ ps) e = let h = and_parts (test p) (list_all test ps) e in All-cons P p ps (holds p h.0) (all_by test P holds ps h.1)

by_all : (test : List ℕ → Bool) (P : List ℕ → Type 0) → ((p : List ℕ) → IsPlaceText p → P p → test p ≡ true) → (ps : List (List ℕ)) → All IsPlaceText ps
    → All P ps → list_all test ps ≡ true
by_all test P passes [] are h = refl
by_all test P passes (p ∷ ps) are h =
    and_from (test p) (list_all test ps) (passes p (All-head IsPlaceText p ps are) (All-head P p ps h))
    (by_all test P passes ps (All-tail IsPlaceText p ps are) (All-tail P p ps h))

all_before : (ps : List (List ℕ)) (p : List ℕ) (others : List (List ℕ)) → All IsPlaceText (ps ++ p ∷ others) → All IsPlaceText ps × IsPlaceText p
all_before [] p others h = (All-nil IsPlaceText, All-head IsPlaceText p others h)
all_before (q ∷ ps) p others h =
    let behind = all_before ps p others (All-tail IsPlaceText q (ps ++ p ∷ others) h) in
    (All-cons IsPlaceText q ps (All-head IsPlaceText q (ps ++ p ∷ others) h) behind.0, behind.1)

module _ (IsOne : List ℕ → Type 0) (as_place : (p : List ℕ) → IsOne p → IsPlaceText p) where
  all_separated : (ps : List (List ℕ)) (text : List ℕ) → Separated IsOne ps text → All IsPlaceText ps
  all_separated ps text (one {p} h) = All-cons IsPlaceText p [] (as_place p h) (All-nil IsPlaceText)
  all_separated ps text (more {p} {text = behind} {ps = others} h s) = All-cons IsPlaceText p others (as_place p h) (all_separated others behind s)

  all_places : (ps : List (List ℕ)) (text : List ℕ) → Consists IsOne ps text → All IsPlaceText ps
  all_places ps text (in_parentheses {text = inner} s) = all_separated ps inner s

  pub outside_to : (text : List ℕ) (at : ℕ) → HasOutside IsOne text at → IsFirstOutside IsOne text at
  outside_to text at h =
      let are = all_before h.before h.number h.others (all_places (h.before ++ h.number ∷ h.others) text h.places) in
      let number = formal_range h.number are.1 h.outside in
      record {
        before = h.before;
        number = h.number;
        others = h.others;
        rest = h.rest;
        places = h.places;
        parts = h.parts;
        begins = h.begins;
        inside = all_by has_range IsInside is_inside h.before h.inside;
        is_int = number;
        outside = λ fits.
            let never : true ≡ false = sym ((int_range h.number number).1 fits) ∙ h.outside in
            absurd cc;
      }

  pub outside_from : (text : List ℕ) (at : ℕ) → IsFirstOutside IsOne text at → HasOutside IsOne text at
  outside_from text at h =
      let are = all_before h.before h.number h.others (all_places (h.before ++ h.number ∷ h.others) text h.places) in
      record {
        before = h.before;
        number = h.number;
        others = h.others;
        rest = h.rest;
        places = h.places;
        parts = h.parts;
        begins = h.begins;
        inside = by_all has_range IsInside inside_is h.before are.0 h.inside;
        outside = false_from_ne_true (has_range h.number) (λ e. h.outside ((int_range h.number h.is_int).0 e));
      }

  pub long_to : (text : List ℕ) → HasTooLong IsOne text → IsTooLong IsOne text
  long_to text h = record {
    places = h.places;
    are = h.are;
    inside = all_by has_range IsInside is_inside h.places h.inside;
    long = elim h.long [
      | inl many ↦ inl many
      | inr long ↦ inr (λ short.
          let never : true ≡ false = sym (by_all is_short IsShort short_is h.places (all_places h.places text h.are) short) ∙ long in
          absurd cc)
    ];
  }

  pub long_from : (text : List ℕ) → IsTooLong IsOne text → HasTooLong IsOne text
  long_from text h = record {
    places = h.places;
    are = h.are;
    inside = by_all has_range IsInside inside_is h.places (all_places h.places text h.are) h.inside;
    long = elim h.long [
      | inl many ↦ inl many
      | inr long ↦ inr (false_from_ne_true (list_all is_short h.places) (λ e. long (all_by is_short IsShort is_short_by h.places e)))
    ];
  }

  pub fine_to : (text : List ℕ) → HasFine IsOne text → IsAccepted IsOne text
  fine_to text h = record {
    places = h.places;
    are = h.are;
    inside = all_by has_range IsInside is_inside h.places h.inside;
    few = h.few;
    short = all_by is_short IsShort is_short_by h.places h.short;
  }

  pub fine_from : (text : List ℕ) → IsAccepted IsOne text → HasFine IsOne text
  fine_from text h = record {
    places = h.places;
    are = h.are;
    inside = by_all has_range IsInside inside_is h.places (all_places h.places text h.are) h.inside;
    few = h.few;
    short = by_all is_short IsShort short_is h.places (all_places h.places text h.are) h.short;
  }
