-- Values and places are fields.
-- Cited by OldFields, States, Tuples, `value::str_at`.
use Rattle.std.proofs.Common.{◌≡◌, ℕ, ℤ, ◌^◌, ◌<◌, ◌≤◌, Bool, true, false, cond, eqb, List, []}
use Rattle.std.proofs.Common.{◌∷◌, ◌++◌, length, Result, Ok, Err, refl, sym, ap, subst, ◌∙◌, arith}
use Rattle.std.specs.List.{list_all}
use Rattle.std.specs.Int.{w64, to_be_bytes, cast_signed, cast_unsigned}
use Rattle.std.specs.Int.RustNames.{FitsSigned}
use Rattle.std.proofs.lemmas.Bool.{eqb-true, eqb-false}
use Rattle.std.proofs.lemmas.Int.{to_z-of_z, of_z-to_z}
use Rattle.std.proofs.Math.Facts.{sfits_to_z, Fits-of_lt, Fits-lt-pow, Fits-of_z}
use Rattle.kt_tuple.specs.declared.value.Value.{Value}
use Rattle.kt_tuple.specs.declared.value.Value.TheVariants.{Int, Str, Bool as Truth}
use Rattle.kt_tuple.specs.declared.value.Kind.{Kind}
use Rattle.kt_tuple.specs.declared.value.Kind.TheVariants as kinds
use Rattle.kt_tuple.specs.declared.template.Place.{Place}
use Rattle.kt_tuple.specs.declared.template.Place.TheVariants.{Actual, Formal}
use Rattle.kt_tuple.specs.Reading.{is_printable}
use Rattle.kt_tuple.specs.Text.{IsText}
use Rattle.kt_tuple.specs.Valid.{IsValue, IsPlace}
use Rattle.kt_tuple.proofs.Shared.{are_printable, all_printable}
use Rattle.kt_ckpt.specs.declared.error.CkptError.{CkptError}
use Rattle.kt_ckpt.specs.declared.error.CkptError.TheVariants.{Field}
use Rattle.kt_ckpt.specs.Limits.{int_code, str_code, bool_code, int_formal_code, str_formal_code, bool_formal_code}
use Rattle.kt_tuple.specs.declared.string.TheConstants.{MAX_CHARACTERS}
use Rattle.kt_ckpt.specs.Reading.{◌>>=◌, made, bytes_at, byte_within}
use Rattle.kt_ckpt.specs.Value.{value_code, behind_value_code, value_bytes, place_code, behind_place_code}
use Rattle.kt_ckpt.specs.Value.{place_bytes, int_at, printed, str_at, bool_at, value_behind, value_at, place_behind, place_at}
use Rattle.kt_ckpt.proofs.Field.{IsBytes, Takes, Takes-then, Continues, IsField, Lasts, the_ok, pair_of_ok, bind_ok}
use Rattle.kt_ckpt.proofs.Combined.{known, known_lasts, fault, refused, refused_lasts, same_field}
use Rattle.kt_ckpt.proofs.Combined.{either, either_lasts, behind, behind_lasts, made_field, made_lasts}
use Rattle.kt_ckpt.proofs.Primitive.{byte_field, byte_lasts, byte_within_field, byte_within_lasts, flag_field, flag_lasts, wide64}
use Rattle.kt_ckpt.proofs.Primitive.{number_field, number_lasts, front_takes, front_again, front_lasts, front_len}

-- ---- ints

abbrev IsBehind : ℕ → Value → Type 0
IsBehind code v = IsValue v × (code ≡ value_code v)

unsigned_fits : (n : ℤ) → FitsSigned w64 n → cast_unsigned w64 n < 2 ^ 64
unsigned_fits n h = Fits-lt-pow (Fits-of_z h)

int_from : (v : Value) → IsBehind int_code v → (n : ℕ) × ((n < 2 ^ 64) × (Int (cast_signed w64 n) ≡ v))
int_from (Int n) h = (cast_unsigned w64 n, (unsigned_fits n h.0, ap Int (to_z-of_z w64 n h.0)))
int_from (Str cs) h = absurd (omega (arith, h.1))
int_from (Truth b) h = absurd (omega (arith, h.1))

int_field : IsField behind_value_code (IsBehind int_code) int_at
unfolding int_at
int_field =
    let f = made_field (number_field w64 (2 ^ 64) wide64) (λ n. Int (cast_signed w64 n)) behind_value_code (IsBehind int_code)
    (λ n lt. ap (to_be_bytes w64) (sym (of_z-to_z w64 n lt))) (λ n lt. (sfits_to_z (Fits-of_lt lt), refl)) int_from in
    record { again = f.again; takes = f.takes }

int_lasts : Lasts int_at
unfolding int_at
int_lasts = let l = made_lasts (λ n. Int (cast_signed w64 n)) (number_lasts w64) in record { goes_on = l.goes_on }

-- ---- strs

printed_ok : (cs : List ℕ) (rest : List ℕ) (x : Value × List ℕ) → printed cs rest ≡ Ok x → (list_all is_printable cs ≡ true) × (Str cs ≡ x.0) × (rest ≡ x.1)
printed_ok cs rest x e = by (list_all is_printable cs) refl e where
  by : (b : Bool) → list_all is_printable cs ≡ b → cond b (the_ok {X = Value × List ℕ} (Str cs, rest)) (Err Field) ≡ Ok x
      → (list_all is_printable cs ≡ true) × (Str cs ≡ x.0) × (rest ≡ x.1)
  by true p e = let s = pair_of_ok (Str cs, rest) x e in (p, s.0, s.1)
  by false p e = absurd cc

printed_lasts : (cs : List ℕ) → Lasts (printed cs)
printed_lasts cs = record { goes_on = λ bytes more. by bytes more (list_all is_printable cs) } where
  by : (bytes more : List ℕ) (b : Bool) → Continues more (cond b (the_ok {X = Value × List ℕ} (Str cs, bytes)) (Err Field))
      (cond b (the_ok {X = Value × List ℕ} (Str cs, bytes ++ more)) (Err Field))
  by bytes more true = refl
  by bytes more false = refl

after_length : ℕ × List ℕ → Result (Value × List ℕ) CkptError
after_length n = bytes_at n.0 n.1 >>= λ cs. printed cs.0 cs.1

str_field : IsField behind_value_code (IsBehind str_code) str_at
unfolding str_at after_length
str_field = record { again = λ v rest h. again v rest h; takes = λ bytes v rest fits e. takes bytes v rest fits e } where
  again : (v : Value) (rest : List ℕ) → IsBehind str_code v → str_at (behind_value_code v ++ rest) ≡ Ok (v, rest)
  again (Int n) rest h = absurd (omega (arith, h.1))
  again (Truth b) rest h = absurd (omega (arith, h.1))
  again (Str cs) rest h =
      let len = byte_within_field 0 MAX_CHARACTERS (omega arith) in
      ap (λ (r : Result (ℕ × List ℕ) CkptError). r >>= after_length) (len.again (length cs) (cs ++ rest) (omega arith, h.0.0))
      ∙ ap (λ (r : Result (List ℕ × List ℕ) CkptError). r >>= λ x. printed x.0 x.1) (front_again (length cs) cs rest refl)
      ∙ ap (λ (b : Bool). cond b (the_ok {X = Value × List ℕ} (Str cs, rest)) (Err Field)) (all_printable cs h.0.1)

  takes : (bytes : List ℕ) (v : Value) (rest : List ℕ) → IsBytes bytes → str_at bytes ≡ Ok (v, rest)
      → Takes bytes (behind_value_code v) rest × IsBehind str_code v
  takes bytes v rest fits e =
      let len = byte_within_field 0 MAX_CHARACTERS (omega arith) in
      let a = bind_ok (byte_within 0 MAX_CHARACTERS bytes) after_length (v, rest) e in
      let b = bind_ok (bytes_at a.0.0 a.0.1) (λ x. printed x.0 x.1) (v, rest) a.2 in
      let p = printed_ok b.0.0 b.0.1 (v, rest) b.2 in
      let t = len.takes bytes a.0.0 a.0.1 fits a.1 in
      let u = front_takes a.0.0 a.0.1 b.0.0 b.0.1 t.0.rest_fits b.1 in
      let text : Takes bytes (length b.0.0 ∷ b.0.0) b.0.1 = subst (λ (n : ℕ). Takes bytes (n ∷ b.0.0) b.0.1) (sym u.1) (Takes-then t.0 u.0) in
      subst (λ (w : Value). Takes bytes (behind_value_code w) rest × IsBehind str_code w) p.1
      (subst (λ (r : List ℕ). Takes bytes (length b.0.0 ∷ b.0.0) r) p.2 text, ((omega (arith, u.1, t.1.1), are_printable b.0.0 p.0), refl))

str_lasts : Lasts str_at
unfolding str_at after_length
str_lasts =
    let l = behind_lasts (λ n bytes. after_length (n, bytes)) (byte_within_lasts 0 MAX_CHARACTERS)
    (λ n. behind_lasts (λ cs bytes. printed cs bytes) (front_lasts n) printed_lasts) in
    record { goes_on = l.goes_on }

-- ---- bools

bool_from : (v : Value) → IsBehind bool_code v → (b : Bool) × (Unit {0} × (Truth b ≡ v))
bool_from (Int n) h = absurd (omega (arith, h.1))
bool_from (Str cs) h = absurd (omega (arith, h.1))
bool_from (Truth b) h = (b, (tt, refl))

bool_field : IsField behind_value_code (IsBehind bool_code) bool_at
unfolding bool_at
bool_field =
    let f = made_field flag_field Truth behind_value_code (IsBehind bool_code) (λ b h. refl) (λ b h. (tt, refl)) bool_from in
    record { again = f.again; takes = f.takes }

bool_lasts : Lasts bool_at
unfolding bool_at
bool_lasts = let l = made_lasts Truth flag_lasts in record { goes_on = l.goes_on }

-- ---- values

no_code : (code : ℕ) (v : Value) → eqb code int_code ≡ false → eqb code str_code ≡ false → eqb code bool_code ≡ false → IsBehind code v → ⊥
no_code code (Int n) p q r h = eqb-false code int_code p h.1
no_code code (Str cs) p q r h = eqb-false code str_code q h.1
no_code code (Truth b) p q r h = eqb-false code bool_code r h.1

abbrev bool_or_fault : ℕ → List ℕ → Result (Value × List ℕ) CkptError
bool_or_fault code bytes = cond (eqb code bool_code) (bool_at bytes) (fault Field bytes)

abbrev str_or_bool : ℕ → List ℕ → Result (Value × List ℕ) CkptError
str_or_bool code bytes = cond (eqb code str_code) (str_at bytes) (bool_or_fault code bytes)

pub value_behind_field : (code : ℕ) → IsField behind_value_code (IsBehind code) (value_behind code)
unfolding value_behind
value_behind_field code =
    let f = either int_at (str_or_bool code) (eqb code int_code)
    (λ p. subst (λ (k : ℕ). IsField behind_value_code (IsBehind k) int_at) (sym (eqb-true code int_code p)) int_field)
    (λ p. either str_at (bool_or_fault code) (eqb code str_code)
    (λ q. subst (λ (k : ℕ). IsField behind_value_code (IsBehind k) str_at) (sym (eqb-true code str_code q)) str_field)
    (λ q. either bool_at (fault Field) (eqb code bool_code)
    (λ r. subst (λ (k : ℕ). IsField behind_value_code (IsBehind k) bool_at) (sym (eqb-true code bool_code r)) bool_field)
    (λ r. refused behind_value_code (IsBehind code) Field (λ v. no_code code v p q r)))) in
    record { again = f.again; takes = f.takes }

pub value_behind_lasts : (code : ℕ) → Lasts (value_behind code)
unfolding value_behind
value_behind_lasts code =
    let l = either_lasts int_at (str_or_bool code) (eqb code int_code) int_lasts
    (either_lasts str_at (bool_or_fault code) (eqb code str_code) str_lasts
    (either_lasts bool_at (fault Field) (eqb code bool_code) bool_lasts (refused_lasts Field))) in
    record { goes_on = l.goes_on }

value_code_is_byte : (v : Value) → value_code v < 256
value_code_is_byte (Int n) = omega arith
value_code_is_byte (Str cs) = omega arith
value_code_is_byte (Truth b) = omega arith

pub value_field : IsField value_bytes IsValue value_at
unfolding value_at
value_field =
    let f = behind byte_field value_code behind_value_code IsValue value_behind (λ v h. value_code_is_byte v) (λ code lt. value_behind_field code) in
    record { again = f.again; takes = f.takes }

pub value_lasts : Lasts value_at
unfolding value_at
value_lasts = let l = behind_lasts value_behind byte_lasts value_behind_lasts in record { goes_on = l.goes_on }

-- ---- places

abbrev IsPlaceBehind : ℕ → Place → Type 0
IsPlaceBehind code p = IsPlace p × (code ≡ place_code p)

-- the code of an actual is that of no formal
value_code_is_low : (v : Value) → value_code v < int_formal_code
value_code_is_low (Int n) = omega arith
value_code_is_low (Str cs) = omega arith
value_code_is_low (Truth b) = omega arith

int_formal : (p : Place) → IsPlaceBehind int_formal_code p → Formal kinds.Int ≡ p
int_formal (Actual v) h = absurd (omega (arith, h.1, value_code_is_low v))
int_formal (Formal kinds.Int) h = refl
int_formal (Formal kinds.Str) h = absurd (omega (arith, h.1))
int_formal (Formal kinds.Bool) h = absurd (omega (arith, h.1))

str_formal : (p : Place) → IsPlaceBehind str_formal_code p → Formal kinds.Str ≡ p
str_formal (Actual v) h = absurd (omega (arith, h.1, value_code_is_low v))
str_formal (Formal kinds.Int) h = absurd (omega (arith, h.1))
str_formal (Formal kinds.Str) h = refl
str_formal (Formal kinds.Bool) h = absurd (omega (arith, h.1))

bool_formal : (p : Place) → IsPlaceBehind bool_formal_code p → Formal kinds.Bool ≡ p
bool_formal (Actual v) h = absurd (omega (arith, h.1, value_code_is_low v))
bool_formal (Formal kinds.Int) h = absurd (omega (arith, h.1))
bool_formal (Formal kinds.Str) h = absurd (omega (arith, h.1))
bool_formal (Formal kinds.Bool) h = refl

formal_field : (k : Kind) → ((p : Place) → IsPlaceBehind (place_code (Formal k)) p → Formal k ≡ p)
    → IsField behind_place_code (IsPlaceBehind (place_code (Formal k))) (λ bytes. the_ok (Formal k, bytes))
formal_field k is = same_field (known (Formal k)) behind_place_code (IsPlaceBehind (place_code (Formal k)))
    (λ p e. subst (IsPlaceBehind (place_code (Formal k))) e (tt, refl)) is (λ p e. subst (λ (p : Place). [] ≡ behind_place_code p) e refl)

actual_from : (code : ℕ) (p : Place) → eqb code int_formal_code ≡ false → eqb code str_formal_code ≡ false → eqb code bool_formal_code ≡ false
    → IsPlaceBehind code p → (v : Value) × (IsBehind code v × (Actual v ≡ p))
actual_from code (Actual v) p q r h = (v, (h, refl))
actual_from code (Formal kinds.Int) p q r h = absurd (eqb-false code int_formal_code p h.1)
actual_from code (Formal kinds.Str) p q r h = absurd (eqb-false code str_formal_code q h.1)
actual_from code (Formal kinds.Bool) p q r h = absurd (eqb-false code bool_formal_code r h.1)

abbrev actual_behind : ℕ → List ℕ → Result (Place × List ℕ) CkptError
actual_behind code bytes = made Actual (value_behind code bytes)

abbrev int_formal_at : List ℕ → Result (Place × List ℕ) CkptError
int_formal_at bytes = Ok (Formal kinds.Int, bytes)

abbrev str_formal_at : List ℕ → Result (Place × List ℕ) CkptError
str_formal_at bytes = Ok (Formal kinds.Str, bytes)

abbrev bool_formal_at : List ℕ → Result (Place × List ℕ) CkptError
bool_formal_at bytes = Ok (Formal kinds.Bool, bytes)

abbrev bool_or_actual : ℕ → List ℕ → Result (Place × List ℕ) CkptError
bool_or_actual code bytes = cond (eqb code bool_formal_code) (bool_formal_at bytes) (actual_behind code bytes)

abbrev str_or_actual : ℕ → List ℕ → Result (Place × List ℕ) CkptError
str_or_actual code bytes = cond (eqb code str_formal_code) (str_formal_at bytes) (bool_or_actual code bytes)

place_behind_field : (code : ℕ) → IsField behind_place_code (IsPlaceBehind code) (place_behind code)
unfolding place_behind
place_behind_field code =
    let f = either int_formal_at (str_or_actual code) (eqb code int_formal_code)
    (λ p. subst (λ (k : ℕ). IsField behind_place_code (IsPlaceBehind k) int_formal_at) (sym (eqb-true code int_formal_code p))
    (formal_field kinds.Int int_formal))
    (λ p. either str_formal_at (bool_or_actual code) (eqb code str_formal_code)
    (λ q. subst (λ (k : ℕ). IsField behind_place_code (IsPlaceBehind k) str_formal_at) (sym (eqb-true code str_formal_code q))
    (formal_field kinds.Str str_formal))
    (λ q. either bool_formal_at (actual_behind code) (eqb code bool_formal_code)
    (λ r. subst (λ (k : ℕ). IsField behind_place_code (IsPlaceBehind k) bool_formal_at) (sym (eqb-true code bool_formal_code r))
    (formal_field kinds.Bool bool_formal))
    (λ r. made_field (value_behind_field code) Actual behind_place_code (IsPlaceBehind code) (λ v h. refl) (λ v h. h) (λ x. actual_from code x p q r)))) in
    record { again = f.again; takes = f.takes }

place_behind_lasts : (code : ℕ) → Lasts (place_behind code)
unfolding place_behind
place_behind_lasts code =
    let l = either_lasts int_formal_at (str_or_actual code) (eqb code int_formal_code) (known_lasts (Formal kinds.Int))
    (either_lasts str_formal_at (bool_or_actual code) (eqb code str_formal_code) (known_lasts (Formal kinds.Str))
    (either_lasts bool_formal_at (actual_behind code) (eqb code bool_formal_code) (known_lasts (Formal kinds.Bool))
    (made_lasts Actual (value_behind_lasts code)))) in
    record { goes_on = l.goes_on }

place_code_is_byte : (p : Place) → place_code p < 256
place_code_is_byte (Actual v) = value_code_is_byte v
place_code_is_byte (Formal kinds.Int) = omega arith
place_code_is_byte (Formal kinds.Str) = omega arith
place_code_is_byte (Formal kinds.Bool) = omega arith

pub place_field : IsField place_bytes IsPlace place_at
unfolding place_at
place_field =
    let f = behind byte_field place_code behind_place_code IsPlace place_behind (λ p h. place_code_is_byte p) (λ code lt. place_behind_field code) in
    record { again = f.again; takes = f.takes }

pub place_lasts : Lasts place_at
unfolding place_at
place_lasts = let l = behind_lasts place_behind byte_lasts place_behind_lasts in record { goes_on = l.goes_on }

-- ---- what the code reads of a str

pub str_read : (bytes : List ℕ) (n : ℕ) (after cs rest : List ℕ) → byte_within 0 MAX_CHARACTERS bytes ≡ Ok (n, after) → bytes_at n after ≡ Ok (cs, rest)
    → IsText cs → str_at bytes ≡ Ok (Str cs, rest)
unfolding str_at
str_read bytes n after cs rest p q text =
    ap (λ (r : Result (ℕ × List ℕ) CkptError). r >>= λ n. bytes_at n.0 n.1 >>= λ cs. printed cs.0 cs.1) p
    ∙ ap (λ (r : Result (List ℕ × List ℕ) CkptError). r >>= λ cs. printed cs.0 cs.1) q
    ∙ ap (λ (b : Bool). cond b (the_ok {X = Value × List ℕ} (Str cs, rest)) (Err Field)) (all_printable cs text.1)

pub str_refused : (bytes : List ℕ) (n : ℕ) (after cs rest : List ℕ) → byte_within 0 MAX_CHARACTERS bytes ≡ Ok (n, after) → bytes_at n after ≡ Ok (cs, rest)
    → n ≤ MAX_CHARACTERS → (IsText cs → ⊥) → str_at bytes ≡ Err Field
unfolding str_at
str_refused bytes n after cs rest p q le none =
    ap (λ (r : Result (ℕ × List ℕ) CkptError). r >>= λ n. bytes_at n.0 n.1 >>= λ cs. printed cs.0 cs.1) p
    ∙ ap (λ (r : Result (List ℕ × List ℕ) CkptError). r >>= λ cs. printed cs.0 cs.1) q
    ∙ by (list_all is_printable cs) refl
  where
    by : (b : Bool) → list_all is_printable cs ≡ b → cond b (the_ok {X = Value × List ℕ} (Str cs, rest)) (Err Field) ≡ Err Field
    by true e = absurd (none (omega (arith, front_len n after cs rest q), are_printable cs e))
    by false e = refl
