-- The text of a whole tuple or template, for each kind of place.
-- Cited by TextStops, Texts, WholesRead; other crates.
use Rattle.std.proofs.Common.{◌≡◌, ℕ, zero, suc, ◌+◌, ◌-◌, ◌<◌, ◌≤◌, Bool, true, false, eqb, List, [], ◌∷◌, ◌++◌}
use Rattle.std.proofs.Common.{length, map, Option, Some, None, Ok, refl, sym, ap, subst, ◌∙◌, append_assoc, arith}
use Rattle.std.proofs.lemmas.Bool.{eqb-true}
use Rattle.std.proofs.lemmas.List.{append-nil}
use Rattle.std.proofs.lemmas.List.Elements.{All-nil, All-cons}
use Rattle.std.specs.Prelude.{All, codes}
use Rattle.kt_tuple.specs.declared.tuple.TheConstants.{MAX_PLACES}
use Rattle.kt_tuple.specs.Spelling.{separated, in_parentheses}
use Rattle.kt_tuple.specs.Matching.{HasArity}
use Rattle.kt_tuple.specs.Reading.{◌>>=◌, word_at, after_place, has_range, is_short, begins_with_digit}
use Rattle.kt_tuple.specs.Parsing.{Reader, and_behind, places_from, places_in, fault_of}
use Rattle.kt_tuple.specs.auxiliary.Making.{made_from, made_in}
use Rattle.kt_tuple.proofs.ValueLaws.{bound, word_taken}
use Rattle.kt_tuple.proofs.Made.{made_step}
use Rattle.kt_tuple.proofs.Faults.{AreFine, found_fine}

-- what is read is spelled so, and what is spelled so is read
pub record IsReader {A : Type 0} (read : Reader) (make : List ℕ → Option A) (spell : A → List ℕ) (IsHeld : A → Type 0) : Type 0 where
  pub front : (text p rest : List ℕ) → read text ≡ Ok (p, rest) → text ≡ p ++ rest
  pub spelled : (text p rest : List ℕ) (x : A) → read text ≡ Ok (p, rest) → make p ≡ Some x → spell x ≡ p
  pub made : (text p rest : List ℕ) → read text ≡ Ok (p, rest) → has_range p ≡ true → is_short p ≡ true → (x : A) × (make p ≡ Some x)
  pub held : (p : List ℕ) (x : A) → make p ≡ Some x → IsHeld x
  pub reads : (x : A) (rest : List ℕ) → IsHeld x → begins_with_digit rest ≡ false → read (spell x ++ rest) ≡ Ok (spell x, rest)
  pub makes : (x : A) → IsHeld x → make (spell x) ≡ Some x
  pub in_range : (x : A) → IsHeld x → has_range (spell x) ≡ true
  pub short : (x : A) → IsHeld x → is_short (spell x) ≡ true

none_by_test : (b : Bool) (c : ℕ) (cs : List ℕ) → eqb c 41 ≡ b → after_place (c ∷ cs) ≡ Ok None → c ∷ cs ≡ 41 ∷ []
unfolding after_place
none_by_test true c [] is e = ap (λ k. k ∷ []) (eqb-true c 41 is)
none_by_test true c (d ∷ more) is e = let never = rw is at e in absurd cc
none_by_test false c cs is e =
    let follows = bound (word_at (c ∷ cs) (codes ", ")) (λ next. Ok (Some next)) None (rw is at e) in
    let never : Ok (Some follows.0) ≡ Ok None = follows.2 in
    absurd cc

-- behind the last place stands the closing parenthesis
pub none_follows : (text : List ℕ) → after_place text ≡ Ok None → text ≡ 41 ∷ []
unfolding after_place
none_follows [] e = absurd cc
none_follows (c ∷ cs) e = none_by_test (eqb c 41) c cs refl e

some_by_test : (b : Bool) (c : ℕ) (cs next : List ℕ) → eqb c 41 ≡ b → after_place (c ∷ cs) ≡ Ok (Some next) → c ∷ cs ≡ 44 ∷ 32 ∷ next
unfolding after_place
some_by_test true c [] next is e = let never = rw is at e in absurd cc
some_by_test true c (d ∷ more) next is e = let never = rw is at e in absurd cc
some_by_test false c cs next is e =
    let follows = bound (word_at (c ∷ cs) (codes ", ")) (λ next. Ok (Some next)) (Some next) (rw is at e) in
    let same : follows.0 ≡ next = cc (follows.2) in
    word_taken (c ∷ cs) (codes ", ") follows.0 follows.1 ∙ ap (λ (t : List ℕ). 44 ∷ 32 ∷ t) same

-- behind each other place a comma and a space
pub some_follows : (text next : List ℕ) → after_place text ≡ Ok (Some next) → text ≡ 44 ∷ 32 ∷ next
unfolding after_place
some_follows [] next e = absurd cc
some_follows (c ∷ cs) next e = some_by_test (eqb c 41) c cs next refl e

pub separated-cons : (first : List ℕ) (texts : List (List ℕ)) → 1 ≤ length texts → separated (first ∷ texts) ≡ first ++ 44 ∷ 32 ∷ separated texts
separated-cons first [] some = absurd (omega (arith, some))
separated-cons first (text ∷ texts) some = refl

pub length-map_same : {A : Type 0} (f : A → List ℕ) (xs : List A) → length (map f xs) ≡ length xs
length-map_same f [] = refl
length-map_same f (x ∷ xs) = ap suc (length-map_same f xs)

-- the things from the i-th on, counted from 0, and their text up to the end
pub record IsWhole {A : Type 0} (spell : A → List ℕ) (IsHeld : A → Type 0) (i : ℕ) (text : List ℕ) (xs : List A) : Type 0 where
  pub some : 1 ≤ length xs
  pub few : i + length xs ≤ MAX_PLACES
  pub all : All IsHeld xs
  pub text_is : text ≡ separated (map spell xs) ++ 41 ∷ []

module _ {A : Type 0} (read : Reader) (make : List ℕ → Option A) (spell : A → List ℕ) (IsHeld : A → Type 0) (r : IsReader read make spell IsHeld) where
  whole_last : (i : ℕ) (text p : List ℕ) (x : A) → i < MAX_PLACES → IsHeld x → spell x ≡ p → text ≡ p ++ 41 ∷ [] → IsWhole spell IsHeld i text (x ∷ [])
  whole_last i text p x lt held is parts = record {
    some = omega arith;
    few = omega (arith, lt);
    all = All-cons IsHeld x [] held (All-nil IsHeld);
    text_is = parts ∙ ap (λ (t : List ℕ). t ++ 41 ∷ []) (sym is ∙ sym (append-nil (spell x)));
  }

  whole_more : (i : ℕ) (text p next : List ℕ) (x : A) (xs : List A) → i < MAX_PLACES → IsHeld x → spell x ≡ p → text ≡ p ++ 44 ∷ 32 ∷ next
      → IsWhole spell IsHeld (i + 1) next xs → IsWhole spell IsHeld i text (x ∷ xs)
  whole_more i text p next x xs lt held is parts h = record {
    some = omega arith;
    few = omega (arith, h.few);
    all = All-cons IsHeld x xs held h.all;
    text_is =
        parts ∙ ap (λ (t : List ℕ). t ++ 44 ∷ 32 ∷ next) (sym is) ∙ ap (λ (t : List ℕ). spell x ++ 44 ∷ 32 ∷ t) h.text_is
        ∙ sym (append_assoc (spell x) (44 ∷ 32 ∷ separated (map spell xs)) (41 ∷ []))
        ∙ ap (λ (t : List ℕ). t ++ 41 ∷ []) (sym (separated-cons (spell x) (map spell xs) (omega (arith, h.some, length-map_same spell xs))));
  }

  made_last : (i : ℕ) (text p rest : List ℕ) (x : A) → i < MAX_PLACES → read text ≡ Ok (p, rest) → after_place rest ≡ Ok None → make p ≡ Some x
      → made_from read make (MAX_PLACES - i) text ≡ x ∷ []
  made_last i text p rest x lt place follows is = rw (made_step read make i text lt, place, is, follows) refl

  made_more : (i : ℕ) (text p rest next : List ℕ) (x : A) → i < MAX_PLACES → read text ≡ Ok (p, rest) → after_place rest ≡ Ok (Some next) → make p ≡ Some x
      → made_from read make (MAX_PLACES - i) text ≡ x ∷ made_from read make (MAX_PLACES - (i + 1)) next
  made_more i text p rest next x lt place follows is = rw (made_step read make i text lt, place, is, follows) refl

  whole_end : (i : ℕ) (text p rest : List ℕ) (x : A) → i < MAX_PLACES → read text ≡ Ok (p, rest) → after_place rest ≡ Ok None → make p ≡ Some x
      → IsWhole spell IsHeld i text (made_from read make (MAX_PLACES - i) text)
  whole_end i text p rest x lt place follows is =
      rw (made_last i text p rest x lt place follows is)
      (whole_last i text p x lt (r.held p x is) (r.spelled text p rest x place is)
      (r.front text p rest place ∙ ap (λ (t : List ℕ). p ++ t) (none_follows rest follows)))

  whole_behind : (i : ℕ) (text p rest next : List ℕ) (x : A) → i < MAX_PLACES → read text ≡ Ok (p, rest) → after_place rest ≡ Ok (Some next) → make p ≡ Some x
      → IsWhole spell IsHeld (i + 1) next (made_from read make (MAX_PLACES - (i + 1)) next)
      → IsWhole spell IsHeld i text (made_from read make (MAX_PLACES - i) text)
  whole_behind i text p rest next x lt place follows is more =
      rw (made_more i text p rest next x lt place follows is)
      (whole_more i text p next x (made_from read make (MAX_PLACES - (i + 1)) next) lt (r.held p x is) (r.spelled text p rest x place is)
      (r.front text p rest place ∙ ap (λ (t : List ℕ). p ++ t) (some_follows rest next follows)) more)

  made_by : (next : Option (List ℕ)) (n i : ℕ) (text p rest : List ℕ) (places : List (List ℕ × List ℕ)) → read text ≡ Ok (p, rest) → after_place rest ≡ Ok next
      → and_behind (p, text) next (places_from read n) ≡ Ok places → AreFine i places
      → ((following : List ℕ) (behind : List (List ℕ × List ℕ)) → places_from read n following ≡ Ok behind → AreFine (i + 1) behind
      → IsWhole spell IsHeld (i + 1) following (made_from read make (MAX_PLACES - (i + 1)) following))
      → IsWhole spell IsHeld i text (made_from read make (MAX_PLACES - i) text)
  made_by None n i text p rest places place follows e fine more =
      let one : (p, text) ∷ [] ≡ places = cc in
      let is = subst (AreFine i) (sym one) fine in
      let x = r.made text p rest place is.1 is.2 in
      whole_end i text p rest x.0 is.0 place follows x.1
  made_by (Some next) n i text p rest places place follows e fine more =
      let behind = bound (places_from read n next) (λ behind. Ok ((p, text) ∷ behind)) places e in
      let whole : (p, text) ∷ behind.0 ≡ places = cc (behind.2) in
      let is = subst (AreFine i) (sym whole) fine in
      let x = r.made text p rest place is.1 is.2 in
      whole_behind i text p rest next x.0 is.0 place follows x.1 (more next behind.0 behind.1 is.3)

  -- what is made of fine places that were read
  places_made : (n i : ℕ) (text : List ℕ) (places : List (List ℕ × List ℕ)) → places_from read n text ≡ Ok places → AreFine i places
      → IsWhole spell IsHeld i text (made_from read make (MAX_PLACES - i) text)
  unfolding places_from
  places_made zero i text places e fine = absurd cc
  places_made (suc n) i text places e fine =
      let place = bound (read text) (λ place. after_place place.1 >>= λ next. and_behind (place.0, text) next (places_from read n)) places e in
      let next = bound (after_place place.0.1) (λ next. and_behind (place.0.0, text) next (places_from read n)) places place.2 in
      made_by next.0 n i text place.0.0 place.0.1 places place.1 next.1 next.2 fine (λ following behind. places_made n (i + 1) following behind)

  -- what is made of a text without a fault
  pub text_made : (text : List ℕ) → fault_of read text ≡ None
      → HasArity (made_in read make text)
      × All IsHeld (made_in read make text)
      × (in_parentheses (map spell (made_in read make text)) ≡ text)
  text_made text e =
      let places = found_fine text (places_in read text) e in
      let start = bound (word_at text (40 ∷ [])) (λ start. places_from read (length text) start) places.0 places.1 in
      let whole = places_made (length text) 0 start.0 places.0 start.2 places.2 in
      let arity : HasArity (made_from read make MAX_PLACES start.0) = (whole.some, omega (arith, whole.few)) in
      let text_is : in_parentheses (map spell (made_from read make MAX_PLACES start.0)) ≡ text =
      ap (λ (t : List ℕ). 40 ∷ t) (sym whole.text_is) ∙ sym (word_taken text (40 ∷ []) start.0 start.1) in
      rw start.1 (arity, whole.all, text_is)
