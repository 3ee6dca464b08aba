-- Values, places, tuples and templates of format 1 are fields.
-- Cited by OldOps, OldStates, OldWorkers.
use Rattle.std.proofs.Common.{◌≡◌, ℕ, ◌<◌, ◌≤◌, Bool, true, false, cond, eqb, leb, not, ◌&&◌, List, [], ◌∷◌, ◌++◌, length, Result, Ok, Err}
use Rattle.std.proofs.Common.{refl, sym, ap, subst, ◌∙◌, arith}
use Rattle.std.specs.Prelude.{All}
use Rattle.std.specs.List.{flat_map, list_all}
use Rattle.std.proofs.lemmas.Bool.{and_parts, and_from, leb-true, le-leb}
use Rattle.std.proofs.lemmas.List.Elements.{All-nil, All-cons, All-head, All-tail}
use Rattle.kt_tuple.specs.declared.value.Value.{Value}
use Rattle.kt_tuple.specs.declared.value.Value.TheVariants.{Int, Str, Bool as Truth}
use Rattle.kt_tuple.specs.declared.value.Kind.TheVariants as kinds
use Rattle.kt_tuple.specs.declared.template.Place.{Place}
use Rattle.kt_tuple.specs.declared.template.Place.TheVariants.{Actual, Formal}
use Rattle.kt_tuple.specs.Valid.{IsValue, IsPlace}
use Rattle.kt_ckpt.specs.declared.error.CkptError.{CkptError}
use Rattle.kt_ckpt.specs.declared.error.CkptError.TheVariants.{Cut, Field}
use Rattle.kt_ckpt.specs.declared.old_limits.TheConstants.{OLD_PLACES}
use Rattle.kt_ckpt.specs.OldLimits.{is_old_value, is_old_place, is_old_tuple, is_old_template}
use Rattle.kt_ckpt.specs.OldParts.{first_such, is_old_value_code, is_old_place_code}
use Rattle.kt_ckpt.specs.OldParts.{old_value_at, old_place_at, old_tuple_at, old_template_at}
use Rattle.kt_ckpt.specs.Tuple.{IsTuple, IsTemplate, tuple_bytes, template_bytes}
use Rattle.kt_ckpt.specs.Value.{value_code, behind_value_code, value_bytes, value_at, place_code, behind_place_code, place_bytes, place_at}
use Rattle.kt_ckpt.proofs.Field.{IsBytes, Takes, Continues, IsField, Lasts}
use Rattle.kt_ckpt.proofs.Combined.{same_field}
use Rattle.kt_ckpt.proofs.Tuples.{counted_field, counted_lasts}
use Rattle.kt_ckpt.proofs.Values.{value_field, value_lasts, place_field, place_lasts}

-- ---- a field whose first byte passes

-- each spelling has its code in front, which tells whether the value passes
record Tells {X : Type 0} (spelled : X → List ℕ) (passes : ℕ → Bool) (test : X → Bool) : Type 0 where
  code : X → ℕ
  behind : X → List ℕ
  is : (x : X) → spelled x ≡ code x ∷ behind x
  same : (x : X) → passes (code x) ≡ test x

first_field : {X : Type 0} {spelled : X → List ℕ} {IsAllowed : X → Type 0} {read : List ℕ → Result (X × List ℕ) CkptError} → IsField spelled IsAllowed read
    → (passes : ℕ → Bool) (test : X → Bool) → Tells spelled passes test → IsField spelled (λ x. IsAllowed x × (test x ≡ true)) (first_such passes read)
unfolding first_such
first_field {X} {spelled} {IsAllowed} {read} f passes test tells = record {
  again = λ x rest h. again x rest h.0 h.1;
  takes = λ bytes x rest fits e. takes bytes x rest fits e;
} where
  again : (x : X) (rest : List ℕ) → IsAllowed x → test x ≡ true → first_such passes read (spelled x ++ rest) ≡ Ok (x, rest)
  again x rest h p =
      let whole = f.again x rest h in
      let text = tells.is x in
      ap (λ (t : List ℕ). first_such passes read (t ++ rest)) text
      ∙ ap (λ (b : Bool). cond b (read (tells.code x ∷ (tells.behind x ++ rest))) (Err Field)) (tells.same x ∙ p)
      ∙ ap (λ (t : List ℕ). read (t ++ rest)) (sym text) ∙ whole

  by : (b : ℕ) (bytes : List ℕ) (x : X) (rest : List ℕ) → Takes (b ∷ bytes) (spelled x) rest → passes b ≡ true → test x ≡ true
  by b bytes x rest t p =
      let front : b ∷ bytes ≡ (tells.code x ∷ tells.behind x) ++ rest = t.parts ∙ ap (λ (s : List ℕ). s ++ rest) (tells.is x) in
      let same : b ≡ tells.code x = cc in
      sym (tells.same x) ∙ ap passes (sym same) ∙ p

  nothing : (x : X) (rest : List ℕ) → Takes [] (spelled x) rest → ⊥
  nothing x rest t =
      let front : [] ≡ (tells.code x ∷ tells.behind x) ++ rest = t.parts ∙ ap (λ (s : List ℕ). s ++ rest) (tells.is x) in
      cc

  takes : (bytes : List ℕ) (x : X) (rest : List ℕ) → IsBytes bytes → first_such passes read bytes ≡ Ok (x, rest)
      → Takes bytes (spelled x) rest × (IsAllowed x × (test x ≡ true))
  takes [] x rest fits e = absurd (nothing x rest (f.takes [] x rest fits e).0)
  takes (b ∷ bytes) x rest fits e = cases (passes b) refl e where
    cases : (t : Bool) → passes b ≡ t → cond t (read (b ∷ bytes)) (Err Field) ≡ Ok (x, rest)
        → Takes (b ∷ bytes) (spelled x) rest × (IsAllowed x × (test x ≡ true))
    cases true p e =
        let t = f.takes (b ∷ bytes) x rest fits e in
        (t.0, (t.1, by b bytes x rest t.0 p))
    cases false p e = absurd cc

first_lasts : {X : Type 0} {read : List ℕ → Result (X × List ℕ) CkptError} → Lasts read → read [] ≡ Err Cut → (passes : ℕ → Bool)
    → Lasts (first_such passes read)
unfolding first_such
first_lasts {X} {read} l empty passes = record { goes_on = λ bytes more. goes bytes more } where
  cases : (b : ℕ) (bytes more : List ℕ) (t : Bool) → Continues more (cond t (read (b ∷ bytes)) (Err Field)) (cond t (read (b ∷ (bytes ++ more))) (Err Field))
  cases b bytes more true = l.goes_on (b ∷ bytes) more
  cases b bytes more false = refl

  goes : (bytes more : List ℕ) → Continues more (first_such passes read bytes) (first_such passes read (bytes ++ more))
  goes [] more = subst (λ (r : Result (X × List ℕ) CkptError). Continues more r (first_such passes read more)) (sym empty) tt
  goes (b ∷ bytes) more = cases b bytes more (passes b)

-- ---- values and places

value_tells : Tells value_bytes is_old_value_code is_old_value
value_tells = record { code = value_code; behind = behind_value_code; is = λ v. refl; same = λ v. same v } where
  same : (v : Value) → is_old_value_code (value_code v) ≡ is_old_value v
  same (Int n) = refl
  same (Str cs) = refl
  same (Truth b) = refl

place_tells : Tells place_bytes is_old_place_code is_old_place
place_tells = record { code = place_code; behind = behind_place_code; is = λ p. refl; same = λ p. same p } where
  same : (p : Place) → is_old_place_code (place_code p) ≡ is_old_place p
  same (Actual (Int n)) = refl
  same (Actual (Str cs)) = refl
  same (Actual (Truth b)) = refl
  same (Formal kinds.Int) = refl
  same (Formal kinds.Str) = refl
  same (Formal kinds.Bool) = refl

abbrev pub IsOldValue : Value → Type 0
IsOldValue v = IsValue v × (is_old_value v ≡ true)

abbrev pub IsOldPlace : Place → Type 0
IsOldPlace p = IsPlace p × (is_old_place p ≡ true)

pub old_value_field : IsField value_bytes IsOldValue old_value_at
unfolding old_value_at
old_value_field = let f = first_field value_field is_old_value_code is_old_value value_tells in record { again = f.again; takes = f.takes }

pub old_value_lasts : Lasts old_value_at
unfolding old_value_at value_at
old_value_lasts = let l = first_lasts value_lasts refl is_old_value_code in record { goes_on = l.goes_on }

pub old_place_field : IsField place_bytes IsOldPlace old_place_at
unfolding old_place_at
old_place_field = let f = first_field place_field is_old_place_code is_old_place place_tells in record { again = f.again; takes = f.takes }

pub old_place_lasts : Lasts old_place_at
unfolding old_place_at place_at
old_place_lasts = let l = first_lasts place_lasts refl is_old_place_code in record { goes_on = l.goes_on }

-- ---- lists, where each passes

pub all_pass : {X : Type 0} (Is : X → Type 0) (test : X → Bool) (xs : List X) → All (λ x. Is x × (test x ≡ true)) xs → All Is xs × (list_all test xs ≡ true)
all_pass Is test [] h = (All-nil Is, refl)
all_pass Is test (x ∷ xs) h =
    let first = All-head (λ x. Is x × (test x ≡ true)) x xs h in
    let later = all_pass Is test xs (All-tail (λ x. Is x × (test x ≡ true)) x xs h) in
    (All-cons Is x xs first.0 later.0, and_from _ _ first.1 later.1)

pub passes_all : {X : Type 0} (Is : X → Type 0) (test : X → Bool) (xs : List X) → All Is xs → list_all test xs ≡ true → All (λ x. Is x × (test x ≡ true)) xs
passes_all Is test [] h p = All-nil (λ x. Is x × (test x ≡ true))
passes_all Is test (x ∷ xs) h p =
    let parts = and_parts (test x) (list_all test xs) p in
    All-cons (λ x. Is x × (test x ≡ true)) x xs (All-head Is x xs h, parts.0) (passes_all Is test xs (All-tail Is x xs h) parts.1)

-- ---- tuples and templates

abbrev pub IsOldTuple : List Value → Type 0
IsOldTuple u = IsTuple u × (is_old_tuple u ≡ true)

abbrev pub IsOldTemplate : List Place → Type 0
IsOldTemplate t = IsTemplate t × (is_old_template t ≡ true)

abbrev Counted : {X : Type 0} → (X → Type 0) → (X → Bool) → List X → Type 0
Counted Is test xs = ((1 ≤ length xs) × (length xs ≤ OLD_PLACES)) × All (λ x. Is x × (test x ≡ true)) xs

module _ {X : Type 0} (Is : X → Type 0) (test : X → Bool) (xs : List X) where
  counted_old : Counted Is test xs → (((1 ≤ length xs) × (length xs ≤ 16)) × All Is xs) × ((leb (length xs) OLD_PLACES && list_all test xs) ≡ true)
  counted_old h =
      let all = all_pass Is test xs h.1 in
      (((h.0.0, omega (arith, h.0.1)), all.0), and_from _ _ (le-leb (length xs) OLD_PLACES h.0.1) all.1)

  old_counted : (1 ≤ length xs) → All Is xs → (leb (length xs) OLD_PLACES && list_all test xs) ≡ true → Counted Is test xs
  old_counted low all p =
      let parts = and_parts (leb (length xs) OLD_PLACES) (list_all test xs) p in
      ((low, leb-true (length xs) OLD_PLACES parts.0), passes_all Is test xs all parts.1)

pub old_tuple_field : IsField tuple_bytes IsOldTuple old_tuple_at
unfolding old_tuple_at
old_tuple_field =
    let f = same_field (counted_field old_value_field 1 OLD_PLACES (omega arith)) tuple_bytes IsOldTuple (λ u h. counted_old IsValue is_old_value u h)
    (λ u h. old_counted IsValue is_old_value u h.0.0.0 h.0.1 h.1) (λ u h. refl) in
    record { again = f.again; takes = f.takes }

pub old_tuple_lasts : Lasts old_tuple_at
unfolding old_tuple_at
old_tuple_lasts = let l = counted_lasts old_value_lasts 1 OLD_PLACES in record { goes_on = l.goes_on }

pub old_template_field : IsField template_bytes IsOldTemplate old_template_at
unfolding old_template_at
old_template_field =
    let f = same_field (counted_field old_place_field 1 OLD_PLACES (omega arith)) template_bytes IsOldTemplate (λ t h. counted_old IsPlace is_old_place t h)
    (λ t h. old_counted IsPlace is_old_place t h.0.0.0 h.0.1 h.1) (λ t h. refl) in
    record { again = f.again; takes = f.takes }

pub old_template_lasts : Lasts old_template_at
unfolding old_template_at
old_template_lasts = let l = counted_lasts old_place_lasts 1 OLD_PLACES in record { goes_on = l.goes_on }
