-- The magic bytes and the version are fields with one value.
-- Cited by Checkpoints, OldCheckpoints.
use Rattle.std.proofs.Common.{◌≡◌, ℕ, ◌<◌, ◌≤◌, Bool, true, false, cond, eqb, nat_eq, List, [], ◌∷◌, length, take, drop, Result, Ok, Err, refl, sym, ap, subst}
use Rattle.std.proofs.Common.{◌∙◌, arith}
use Rattle.std.specs.Prelude.{◌≢◌}
use Rattle.std.specs.Bool.{Decides}
use Rattle.std.specs.Cmp.Lexicographic.{pointwise}
use Rattle.std.proofs.lemmas.Bool.{eqb-true, eq-eqb, ne_eqb, lt-ltb, le-ltb}
use Rattle.kt_tuple.specs.Equality.{text_eq_decides}
use Rattle.kt_ckpt.specs.declared.error.CkptError.{CkptError}
use Rattle.kt_ckpt.specs.declared.error.CkptError.TheVariants.{Cut, Magic, Version}
use Rattle.kt_ckpt.specs.Limits.{magic, version}
use Rattle.kt_ckpt.specs.Reading.{◌>>=◌, bytes_at}
use Rattle.kt_ckpt.specs.Checkpoint.{magic_at, version_at}
use Rattle.kt_ckpt.proofs.Field.{Takes, IsField, Lasts, the_ok, pair_of_ok, bind_ok}
use Rattle.kt_ckpt.proofs.Combined.{known_lasts, fault, refused_lasts, either_lasts, behind_lasts}
use Rattle.kt_ckpt.proofs.Primitive.{byte_field, byte_lasts, front_takes, front_again, front_lasts}

abbrev if_this : {X : Type 0} → X → CkptError → (X → Bool) → X × List ℕ → Result (X × List ℕ) CkptError
if_this this e test a = cond (test a.0) (Ok (this, a.1)) (Err e)

constant : {X : Type 0} {spelled : X → List ℕ} {IsAllowed : X → Type 0} {first : List ℕ → Result (X × List ℕ) CkptError} → IsField spelled IsAllowed first
    → (this : X) (e : CkptError) (test : X → Bool) → ((x : X) → Decides (test x) (x ≡ this)) → IsAllowed this
    → IsField spelled (λ x. x ≡ this) (λ bytes. first bytes >>= if_this this e test)
constant {X} {spelled} {IsAllowed} {first} f this fault_of test decides allowed = record {
  again = λ x rest h.
      ap (λ (r : Result (X × List ℕ) CkptError). r >>= if_this this fault_of test) (f.again x rest (subst IsAllowed (sym h) allowed))
      ∙ ap (λ (b : Bool). cond b (the_ok {X = X × List ℕ} (this, rest)) (Err fault_of)) ((decides x).1 h)
      ∙ ap (λ (y : X). the_ok {X = X × List ℕ} (y, rest)) (sym h);
  takes = λ bytes x rest fits e.
      let a = bind_ok (first bytes) (if_this this fault_of test) (x, rest) e in
      let t = f.takes bytes a.0.0 a.0.1 fits a.1 in
      by bytes x rest a.0.0 a.0.1 t.0 (test a.0.0) refl a.2;
} where
  by : (bytes : List ℕ) (x : X) (rest : List ℕ) (y : X) (after : List ℕ) → Takes bytes (spelled y) after → (b : Bool) → test y ≡ b
      → cond b (the_ok {X = X × List ℕ} (this, after)) (Err fault_of) ≡ Ok (x, rest) → Takes bytes (spelled x) rest × (x ≡ this)
  by bytes x rest y after t true p e =
      let s = pair_of_ok (this, after) (x, rest) e in
      let same : y ≡ x = (decides y).0 p ∙ s.0 in
      (subst (λ (z : X). Takes bytes (spelled z) rest) same (subst (λ (r : List ℕ). Takes bytes (spelled y) r) s.1 t), sym s.0)
  by bytes x rest y after t false p e = absurd cc

constant_lasts : {X : Type 0} {first : List ℕ → Result (X × List ℕ) CkptError} → Lasts first → (this : X) (e : CkptError) (test : X → Bool)
    → Lasts (λ bytes. first bytes >>= if_this this e test)
constant_lasts {X} {first} l this e test =
    behind_lasts (λ x bytes. if_this this e test (x, bytes)) l (λ x. either_lasts (λ bytes. the_ok {X = X × List ℕ} (this, bytes)) (fault e) (test x)
    (known_lasts this) (refused_lasts e))

bytes_field : (n : ℕ) → IsField (λ (m : List ℕ). m) (λ m. length m ≡ n) (bytes_at n)
bytes_field n = record { again = λ m rest h. front_again n m rest h; takes = λ bytes m rest fits e. let t = front_takes n bytes m rest fits e in (t.0, t.1) }

pub magic_field : IsField (λ (m : List ℕ). m) (λ m. m ≡ magic) magic_at
unfolding magic_at
magic_field =
    let f = constant (bytes_field 4) magic Magic (λ m. pointwise nat_eq m magic) (λ m. text_eq_decides m magic) refl in
    record { again = f.again; takes = f.takes }

pub magic_lasts : Lasts magic_at
unfolding magic_at
magic_lasts = let l = constant_lasts (front_lasts 4) magic Magic (λ m. pointwise nat_eq m magic) in record { goes_on = l.goes_on }

is_version_decides : (v : ℕ) → Decides (eqb v version) (v ≡ version)
is_version_decides v = (λ e. eqb-true v version e, λ e. eq-eqb v version e)

pub version_field : IsField (λ (v : ℕ). v ∷ []) (λ v. v ≡ version) version_at
unfolding version_at
version_field =
    let f = constant byte_field version Version (λ v. eqb v version) is_version_decides (omega arith) in
    record { again = f.again; takes = f.takes }

pub version_lasts : Lasts version_at
unfolding version_at
version_lasts = let l = constant_lasts byte_lasts version Version (λ v. eqb v version) in record { goes_on = l.goes_on }

-- ---- bytes that do not begin so

says_no : {P : Type 0} (b : Bool) → Decides b P → (P → ⊥) → b ≡ false
says_no true decides never = absurd (never (decides.0 refl))
says_no false decides never = refl

abbrev judged : List ℕ → Bool → Result (List ℕ × List ℕ) CkptError
judged bytes few = cond few (Err Cut) (the_ok {X = List ℕ × List ℕ} (take 4 bytes, drop 4 bytes))
    >>= if_this magic Magic (λ m. pointwise nat_eq m magic)

pub too_few : (bytes : List ℕ) → length bytes < 4 → magic_at bytes ≡ Err Cut
unfolding magic_at
too_few bytes h = ap (judged bytes) (lt-ltb (length bytes) 4 h)

pub other_magic : (bytes : List ℕ) → 4 ≤ length bytes → take 4 bytes ≢ magic → magic_at bytes ≡ Err Magic
unfolding magic_at
other_magic bytes h never =
    ap (judged bytes) (le-ltb (length bytes) 4 h)
    ∙ ap (λ (b : Bool). cond b (the_ok {X = List ℕ × List ℕ} (magic, drop 4 bytes)) (Err Magic))
    (says_no (pointwise nat_eq (take 4 bytes) magic) (text_eq_decides (take 4 bytes) magic) never)

pub other_version : (v : ℕ) (more : List ℕ) → v ≢ version → version_at (v ∷ more) ≡ Err Version
unfolding version_at
other_version v more never = ap (λ (b : Bool). cond b (the_ok {X = ℕ × List ℕ} (version, more)) (Err Version)) (ne_eqb v version never)
