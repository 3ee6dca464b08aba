-- A value that is read is spelled so.
-- Cited by FormalShapes, Making, Outside, PlaceLaws, StrShapes, TextShapes, TextStops, Texts, ValuesRead, Wholes,
--   WordShapes, `laws::a_front_read_is_spelled_so`; other crates.
use Rattle.std.proofs.Common.{◌≡◌, ℕ, ◌-◌, Bool, true, false, cond, ◌&&◌, eqb, leb, List, [], ◌∷◌, ◌++◌, length, Option}
use Rattle.std.proofs.Common.{Some, None, Result, Ok, Err, refl, sym, ap, subst, ◌∙◌, append_assoc, arith, length-append}
use Rattle.std.proofs.lemmas.List.{take_at}
use Rattle.std.proofs.lemmas.Bool.{eqb-true, leb-true, and_parts, and_from, cond-true}
use Rattle.std.specs.Prelude.{ℤ, nat_le, is_some, codes, IsSome}
use Rattle.std.specs.List.{flat_map, list_all}
use Rattle.std.specs.Option.{option_map}
use Rattle.std.specs.Int.{w64}
use Rattle.std.specs.Int.RustNames.{FitsSigned}
use Rattle.kt_tuple.specs.declared.string.TheConstants.{MAX_CHARACTERS}
use Rattle.kt_tuple.specs.declared.value.Value.{Value}
use Rattle.kt_tuple.specs.declared.value.Value.TheVariants.{Int, Str, Bool as Truth}
use Rattle.kt_tuple.specs.Valid.{IsValue}
use Rattle.kt_tuple.specs.Spelling.{character_text, value_text}
use Rattle.kt_tuple.specs.Reading.{◌>>=◌, word_at, spelled_at, int_at, int_of, after_characters, split_before, str_at, value_at, unescaped}
use Rattle.kt_tuple.specs.Reading.{between_quotes, characters_of, str_of, int_value_of, value_of, is_printable, has_range, is_short}
use Rattle.kt_tuple.proofs.IntLaws.{parts_of, up_to_ok, IsInt, int_taken, int_spelled, BeginsAsInt, int_first, int_of_some}
use Rattle.kt_tuple.proofs.Strings.{are_printable}
use Rattle.kt_tuple.proofs.StrLaws.{IsSpelled, characters_taken}

word_by_test : (b : Bool) (c w : ℕ) (text word rest : List ℕ) → eqb w c ≡ b → ((r : List ℕ) → word_at text word ≡ Ok r → text ≡ word ++ r)
    → cond b (word_at text word) (Err (c ∷ text)) ≡ Ok rest → c ∷ text ≡ (w ∷ word) ++ rest
word_by_test true c w text word rest e behind read = ap (λ k. k ∷ text) (sym (eqb-true w c e)) ∙ ap (λ (t : List ℕ). w ∷ t) (behind rest read)
word_by_test false c w text word rest e behind read = absurd cc

-- what is behind a word
pub word_taken : (text word rest : List ℕ) → word_at text word ≡ Ok rest → text ≡ word ++ rest
word_taken text [] rest e = cc
word_taken [] (w ∷ word) rest e = absurd cc
word_taken (c ∷ text) (w ∷ word) rest e = word_by_test (eqb w c) c w text word rest refl (λ r. word_taken text word r) e

-- a str between quotes
pub data IsStr : List ℕ → Type 0 where
  quoted : {body : List ℕ} → IsSpelled false body → IsStr (34 ∷ (body ++ 34 ∷ []))

pub bound : {A B E : Type 0} (r : Result A E) (f : A → Result B E) (y : B) → (r >>= f) ≡ Ok y → (x : A) × (r ≡ Ok x) × (f x ≡ Ok y)
bound (Ok x) f y e = (x, refl, e)
bound (Err d) f y e = absurd cc

str_taken : (text p rest : List ℕ) → str_at text ≡ Ok (p, rest) → (text ≡ p ++ rest) × IsStr p
unfolding str_at
str_taken text p rest e =
    let chars = bound (word_at text (34 ∷ [])) (λ chars. after_characters false chars >>= λ after. Ok (split_before text after)) (p, rest) e in
    let after = bound (after_characters false chars.0) (λ after. Ok (split_before text after)) (p, rest) chars.2 in
    let body = characters_taken chars.0 false after.0 after.1 in
    let whole : text ≡ (34 ∷ (body.0 ++ 34 ∷ [])) ++ after.0 =
    word_taken text (34 ∷ []) chars.0 chars.1 ∙ ap (λ (t : List ℕ). 34 ∷ t) (body.1 ∙ sym (append_assoc body.0 (34 ∷ []) after.0)) in
    let split : split_before text after.0 ≡ (p, rest) = cc (after.2) in
    let same = parts_of text (34 ∷ (body.0 ++ 34 ∷ [])) after.0 p rest whole split in
    (whole ∙ ap (λ (t : List ℕ). t ++ after.0) same.0 ∙ ap (λ (t : List ℕ). p ++ t) same.1, subst IsStr same.0 (quoted body.2))

-- an int, a str, `true` or `false`
pub data IsValueText : List ℕ → Type 0 where
  int : {p : List ℕ} → IsInt p → IsValueText p
  str : {p : List ℕ} → IsStr p → IsValueText p
  truth : (b : Bool) → IsValueText (value_text (Truth b))

-- a word that stands for itself
spelled_taken : (word text p rest : List ℕ) → IsValueText word → spelled_at text word ≡ Ok (p, rest) → (text ≡ p ++ rest) × IsValueText p
spelled_taken word text p rest is e =
    let up = up_to_ok text (word_at text word) p rest e in
    let whole = word_taken text word up.0 up.1 in
    let same = parts_of text word up.0 p rest whole up.2 in
    (whole ∙ ap (λ (t : List ℕ). t ++ up.0) same.0 ∙ ap (λ (t : List ℕ). p ++ t) same.1, subst IsValueText same.0 is)

value_by_test : (quote t f : Bool) (text p rest : List ℕ)
    → cond quote (str_at text) (cond t (spelled_at text (codes "true")) (cond f (spelled_at text (codes "false")) (int_at text))) ≡ Ok (p, rest)
    → (text ≡ p ++ rest) × IsValueText p
value_by_test true t f text p rest e = let h = str_taken text p rest e in (h.0, str h.1)
value_by_test false true f text p rest e = spelled_taken (codes "true") text p rest (truth true) e
value_by_test false false true text p rest e = spelled_taken (codes "false") text p rest (truth false) e
value_by_test false false false text p rest e = let h = int_taken text p rest e in (h.0, int h.1)

pub value_taken : (text p rest : List ℕ) → value_at text ≡ Ok (p, rest) → (text ≡ p ++ rest) × IsValueText p
unfolding value_at
value_taken [] p rest e = let h = int_taken [] p rest e in (h.0, int h.1)
value_taken (c ∷ cs) p rest e = value_by_test (eqb c 34) (eqb c 116) (eqb c 102) (c ∷ cs) p rest e

pub between : (body : List ℕ) → between_quotes (34 ∷ (body ++ 34 ∷ [])) ≡ body
between body =
    let k : length (body ++ 34 ∷ []) - 1 ≡ length body = omega (arith, length-append body (34 ∷ [])) in
    rw k (take_at body (34 ∷ []) (length body) refl)

str_chosen : (b : Bool) (cs : List ℕ) (v : Value) → cond b (Some (Str cs)) None ≡ Some v → Str cs ≡ v
str_chosen true cs v e = cc
str_chosen false cs v e = absurd cc

str_spelled : (p : List ℕ) (v : Value) → IsStr p → str_of (characters_of p) ≡ Some v → value_text v ≡ p
str_spelled p v (quoted {body} h) e =
    let cs : characters_of p ≡ unescaped false body = ap (unescaped false) (between body) in
    let made = str_chosen _ (characters_of p) v e in
    ap value_text (sym made) ∙ ap (λ (t : List ℕ). 34 ∷ (flat_map character_text t ++ 34 ∷ [])) cs ∙ ap (λ (t : List ℕ). 34 ∷ (t ++ 34 ∷ [])) h.text

int_made : (o : Option ℤ) (v : Value) → option_map (λ n. Int n) o ≡ Some v → (z : ℤ) × (o ≡ Some z) × (Int z ≡ v)
int_made (Some z) v e = (z, refl, cc)
int_made None v e = absurd cc

value_of_plain : (p : List ℕ) → BeginsAsInt p → value_of p ≡ int_value_of p
unfolding value_of
value_of_plain p (c, cs, is, no_quote, no_mark, no_t, no_f) = rw (is, no_quote, no_t, no_f) refl

pub value_of_int : (p : List ℕ) → IsInt p → value_of p ≡ int_value_of p
value_of_int p h = value_of_plain p (int_first p h)

value_of_str : (p : List ℕ) → IsStr p → value_of p ≡ str_of (characters_of p)
unfolding value_of
value_of_str p (quoted h) = refl

pub value_of_truth : (b : Bool) → value_of (value_text (Truth b)) ≡ Some (Truth b)
unfolding value_of
value_of_truth true = refl
value_of_truth false = refl

same_value : (u v : Value) → Some u ≡ Some v → u ≡ v
same_value u v e = cc

-- the value of a text that was read is spelled so
pub value_spelled : (p : List ℕ) (v : Value) → IsValueText p → value_of p ≡ Some v → value_text v ≡ p
value_spelled p v (int h) e =
    let made = int_made (int_of p) v (sym (value_of_int p h) ∙ e) in
    ap value_text (sym made.2) ∙ int_spelled p made.0 h made.1
value_spelled p v (str h) e = str_spelled p v h (sym (value_of_str p h) ∙ e)
value_spelled p v (truth b) e = ap value_text (sym (same_value (Truth b) v (sym (value_of_truth b) ∙ e)))

int_in_range : (p : List ℕ) (v : Value) → int_value_of p ≡ Some v → IsValue v
int_in_range p v e =
    let made = int_made (int_of p) v e in
    let number = int_of_some p made.0 made.1 in
    subst IsValue made.2 (subst (FitsSigned w64) number.0 (record { sfits = number.1 }))

str_in_range : (b : Bool) (cs : List ℕ) (v : Value) → (nat_le (length cs) MAX_CHARACTERS && list_all is_printable cs) ≡ b
    → cond b (Some (Str cs)) None ≡ Some v → IsValue v
str_in_range true cs v test e =
    let parts = and_parts (leb (length cs) MAX_CHARACTERS) (list_all is_printable cs) test in
    subst IsValue (str_chosen true cs v e) (leb-true (length cs) MAX_CHARACTERS parts.0, are_printable cs parts.1)
str_in_range false cs v test e = absurd cc

value_in_range_by_test : (quote t f : Bool) (p : List ℕ) (v : Value)
    → cond quote (str_of (characters_of p)) (cond t (Some (Truth true)) (cond f (Some (Truth false)) (int_value_of p))) ≡ Some v → IsValue v
value_in_range_by_test true t f p v e = str_in_range _ (characters_of p) v refl e
value_in_range_by_test false true f p v e = subst IsValue (same_value (Truth true) v e) tt
value_in_range_by_test false false true p v e = subst IsValue (same_value (Truth false) v e) tt
value_in_range_by_test false false false p v e = int_in_range p v e

-- the value of a text is one that a program can hold
pub value_in_range : (p : List ℕ) (v : Value) → value_of p ≡ Some v → IsValue v
unfolding value_of
value_in_range [] v e = int_in_range [] v e
value_in_range (c ∷ cs) v e = value_in_range_by_test (eqb c 34) (eqb c 116) (eqb c 102) (c ∷ cs) v e

pub has_range_plain : (p : List ℕ) → BeginsAsInt p → has_range p ≡ is_some (int_of p)
unfolding has_range
has_range_plain p (c, cs, is, no_quote, no_mark, no_t, no_f) = rw (is, no_quote, no_mark, no_t, no_f) refl

some_there : {A : Type 0} (o : Option A) → is_some o ≡ true → (x : A) × (o ≡ Some x)
some_there (Some x) e = (x, refl)
some_there None e = absurd cc

is_short_str : (p : List ℕ) → IsStr p → is_short p ≡ true → nat_le (length (characters_of p)) MAX_CHARACTERS ≡ true
unfolding is_short
is_short_str p (quoted h) e = e

str_printable : (p : List ℕ) → IsStr p → list_all is_printable (characters_of p) ≡ true
str_printable p (quoted {body} h) = ap (λ (t : List ℕ). list_all is_printable (unescaped false t)) (between body) ∙ h.printable

-- a text that was read has a value, where it is in range and short
pub value_made : (p : List ℕ) → IsValueText p → has_range p ≡ true → is_short p ≡ true → (v : Value) × (value_of p ≡ Some v)
value_made p (int h) range short =
    let z = some_there (int_of p) (sym (has_range_plain p (int_first p h)) ∙ range) in
    (Int z.0, value_of_int p h ∙ ap (option_map (λ n. Int n)) z.1)
value_made p (str h) range short = (
  Str (characters_of p),
  value_of_str p h ∙ cond-true _ (Some (Str (characters_of p))) None
      (and_from (leb (length (characters_of p)) MAX_CHARACTERS) (list_all is_printable (characters_of p)) (is_short_str p h short) (str_printable p h)),
)
value_made p (truth b) range short = (Truth b, value_of_truth b)

-- what was read stands in front of the rest
pub value_read_front : (text p rest : List ℕ) → value_at text ≡ Ok (p, rest) → text ≡ p ++ rest
value_read_front text p rest e = (value_taken text p rest e).0

-- what was read is the text of its value
pub value_read_spelled : (text p rest : List ℕ) (v : Value) → value_at text ≡ Ok (p, rest) → value_of p ≡ Some v → value_text v ≡ p
value_read_spelled text p rest v e is = value_spelled p v (value_taken text p rest e).1 is

-- what was read has a value, where it is in range and short
pub value_read_made : (text p rest : List ℕ) → value_at text ≡ Ok (p, rest) → has_range p ≡ true → is_short p ≡ true → IsSome (value_of p)
value_read_made text p rest e range short =
    let made = value_made p (value_taken text p rest e).1 range short in
    rw made.1 refl
