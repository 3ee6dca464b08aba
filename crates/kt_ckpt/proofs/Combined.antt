-- Fields made of fields: one behind the other, one or the other, one under another name.
-- Cited by ActCauses, ActFields, ActWhats, Checkpoints, Front, Nodes, OldCheckpoints, OldFields, OldOps, OldParts,
--   OldRising, OldStates, OldWorkers, Ops, Peers, Primitive, States, Tuples, Values.
use Rattle.std.proofs.Common.{◌≡◌, ℕ, Bool, true, false, cond, List, [], ◌++◌, Result, Ok, Err, refl, sym, ap, subst, ◌∙◌, append_assoc}
use Rattle.kt_ckpt.specs.declared.error.CkptError.{CkptError}
use Rattle.kt_ckpt.specs.declared.error.CkptError.TheVariants.{Magic, Version, Cut, Field, Extra, OutOfMemory}
use Rattle.kt_ckpt.specs.Reading.{◌>>=◌, made}
use Rattle.kt_ckpt.proofs.Field.{IsBytes, Takes, Takes-then, Continues, IsField, Lasts, the_ok, pair_of_ok, bind_ok}

-- nothing is read, and the value is known
pub known : {X : Type 0} (x : X) → IsField (λ (y : X). []) (λ y. x ≡ y) (λ bytes. the_ok (x, bytes))
known {X} x = record {
  again = λ y rest e. ap (λ (z : X). the_ok (z, rest)) e;
  takes = λ bytes y rest fits e.
      let p = pair_of_ok (x, bytes) (y, rest) e in
      (record { parts = p.1; rest_fits = subst IsBytes p.1 fits }, p.0);
}

pub known_lasts : {X : Type 0} (x : X) → Lasts (λ bytes. the_ok (x, bytes))
known_lasts x = record { goes_on = λ bytes more. refl }

abbrev pub fault : {X : Type 0} → CkptError → List ℕ → Result (X × List ℕ) CkptError
fault e bytes = Err e

-- no value is allowed, and there is a fault
pub refused : {X : Type 0} (spelled : X → List ℕ) (IsAllowed : X → Type 0) (e : CkptError) → ((x : X) → IsAllowed x → ⊥) → IsField spelled IsAllowed (fault e)
refused {X} spelled IsAllowed e none = record {
  again = λ x rest h. absurd (none x h);
  takes = λ bytes x rest fits h. absurd cc;
}

pub refused_lasts : {X : Type 0} (e : CkptError) → Lasts {X = X} (fault e)
refused_lasts {X} e = record { goes_on = λ bytes more. stays e more } where
  stays : (e : CkptError) (more : List ℕ) → Continues {X = X} more (Err e) (Err e)
  stays Cut more = tt
  stays Magic more = refl
  stays Version more = refl
  stays Field more = refl
  stays Extra more = refl
  stays OutOfMemory more = refl

-- the same field, where the same values are allowed and spelled the same
pub same_field : {X : Type 0} {spelled : X → List ℕ} {IsAllowed : X → Type 0} {read : List ℕ → Result (X × List ℕ) CkptError} → IsField spelled IsAllowed read
    → (other : X → List ℕ) (IsOther : X → Type 0) → ((x : X) → IsAllowed x → IsOther x) → ((x : X) → IsOther x → IsAllowed x)
    → ((x : X) → IsAllowed x → spelled x ≡ other x) → IsField other IsOther read
same_field {read = read} f other IsOther to from same = record {
  again = λ x rest h. ap (λ (t : List ℕ). read (t ++ rest)) (sym (same x (from x h))) ∙ f.again x rest (from x h);
  takes = λ bytes x rest fits e.
      let t = f.takes bytes x rest fits e in
      (subst (λ (text : List ℕ). Takes bytes text rest) (same x t.1) t.0, to x t.1);
}

-- one field or the other, by a test
pub either : {X : Type 0} {spelled : X → List ℕ} {IsAllowed : X → Type 0} (first second : List ℕ → Result (X × List ℕ) CkptError) (b : Bool)
    → (b ≡ true → IsField spelled IsAllowed first) → (b ≡ false → IsField spelled IsAllowed second)
    → IsField spelled IsAllowed (λ bytes. cond b (first bytes) (second bytes))
either first second true f g = let h = f refl in record { again = h.again; takes = h.takes }
either first second false f g = let h = g refl in record { again = h.again; takes = h.takes }

pub either_lasts : {X : Type 0} (first second : List ℕ → Result (X × List ℕ) CkptError) (b : Bool) → Lasts first → Lasts second
    → Lasts (λ bytes. cond b (first bytes) (second bytes))
either_lasts first second true f g = record { goes_on = f.goes_on }
either_lasts first second false f g = record { goes_on = g.goes_on }

-- a field behind another: the first is a part of the value, and what is read behind it may ask which it is
pub behind : {A X : Type 0} {spelled_first : A → List ℕ} {IsFirst : A → Type 0} {first : List ℕ → Result (A × List ℕ) CkptError}
    → IsField spelled_first IsFirst first
    → (part : X → A) (spelled_after : X → List ℕ) (IsAllowed : X → Type 0) (second : A → List ℕ → Result (X × List ℕ) CkptError)
    → ((x : X) → IsAllowed x → IsFirst (part x))
    → ((a : A) → IsFirst a → IsField spelled_after (λ x. IsAllowed x × (a ≡ part x)) (second a))
    → IsField (λ x. spelled_first (part x) ++ spelled_after x) IsAllowed (λ bytes. first bytes >>= λ a. second a.0 a.1)
behind {A} {X} {spelled_first} {IsFirst} {first} f part spelled_after IsAllowed second has then = record {
  again = λ x rest h.
      let g = then (part x) (has x h) in
      ap (λ (t : List ℕ). first t >>= λ a. second a.0 a.1) (append_assoc (spelled_first (part x)) (spelled_after x) rest)
      ∙ ap (λ (r : Result (A × List ℕ) CkptError). r >>= λ a. second a.0 a.1) (f.again (part x) (spelled_after x ++ rest) (has x h))
      ∙ g.again x rest (h, refl);
  takes = λ bytes x rest fits e.
      let b = bind_ok (first bytes) (λ a. second a.0 a.1) (x, rest) e in
      let t = f.takes bytes b.0.0 b.0.1 fits b.1 in
      let u = (then b.0.0 t.1).takes b.0.1 x rest t.0.rest_fits b.2 in
      (subst (λ (a : A). Takes bytes (spelled_first a ++ spelled_after x) rest) u.1.1 (Takes-then t.0 u.0), u.1.0);
}

pub behind_lasts : {A X : Type 0} {first : List ℕ → Result (A × List ℕ) CkptError} (second : A → List ℕ → Result (X × List ℕ) CkptError)
    → Lasts first → ((a : A) → Lasts (second a)) → Lasts (λ bytes. first bytes >>= λ a. second a.0 a.1)
behind_lasts {A} {X} {first} second f then = record { goes_on = λ bytes more. goes (first bytes) (first (bytes ++ more)) more (f.goes_on bytes more) } where
  goes : (r longer : Result (A × List ℕ) CkptError) (more : List ℕ) → Continues more r longer
      → Continues more (r >>= λ a. second a.0 a.1) (longer >>= λ a. second a.0 a.1)
  goes (Ok a) longer more h = subst (λ (l : Result (A × List ℕ) CkptError). Continues more (second a.0 a.1) (l >>= λ a. second a.0 a.1)) (sym h)
      ((then a.0).goes_on a.1 more)
  goes (Err Cut) longer more h = tt
  goes (Err Magic) longer more h = ap (λ (r : Result (A × List ℕ) CkptError). r >>= λ a. second a.0 a.1) h
  goes (Err Version) longer more h = ap (λ (r : Result (A × List ℕ) CkptError). r >>= λ a. second a.0 a.1) h
  goes (Err Field) longer more h = ap (λ (r : Result (A × List ℕ) CkptError). r >>= λ a. second a.0 a.1) h
  goes (Err Extra) longer more h = ap (λ (r : Result (A × List ℕ) CkptError). r >>= λ a. second a.0 a.1) h
  goes (Err OutOfMemory) longer more h = ap (λ (r : Result (A × List ℕ) CkptError). r >>= λ a. second a.0 a.1) h

-- a value made of a field
pub made_field : {A X : Type 0} {spelled_first : A → List ℕ} {IsFirst : A → Type 0} {first : List ℕ → Result (A × List ℕ) CkptError}
    → IsField spelled_first IsFirst first
    → (make : A → X) (spelled : X → List ℕ) (IsAllowed : X → Type 0) → ((a : A) → IsFirst a → spelled_first a ≡ spelled (make a))
    → ((a : A) → IsFirst a → IsAllowed (make a))
    → ((x : X) → IsAllowed x → (a : A) × (IsFirst a × (make a ≡ x))) → IsField spelled IsAllowed (λ bytes. made make (first bytes))
made_field {A} {X} {spelled_first} {IsFirst} {first} f make spelled IsAllowed same to from = record {
  again = λ x rest h.
      let w = from x h in
      subst (λ (y : X). (made make (first (spelled y ++ rest))) ≡ Ok (y, rest)) w.1.1
      (ap (λ (t : List ℕ). made make (first (t ++ rest))) (sym (same w.0 w.1.0)) ∙ ap (made make) (f.again w.0 rest w.1.0));
  takes = λ bytes x rest fits e.
      let b = bind_ok (first bytes) (λ a. the_ok {X = X × List ℕ} (make a.0, a.1)) (x, rest) e in
      let t = f.takes bytes b.0.0 b.0.1 fits b.1 in
      let s = pair_of_ok (make b.0.0, b.0.1) (x, rest) b.2 in (
        subst (λ (y : X). Takes bytes (spelled y) rest) s.0 (subst (λ (r : List ℕ). Takes bytes (spelled (make b.0.0)) r) s.1
            (subst (λ (text : List ℕ). Takes bytes text b.0.1) (same b.0.0 t.1) t.0)),
        subst IsAllowed s.0 (to b.0.0 t.1),
      );
}

pub made_lasts : {A X : Type 0} {first : List ℕ → Result (A × List ℕ) CkptError} (make : A → X) → Lasts first → Lasts (λ bytes. made make (first bytes))
made_lasts {A} {X} make l = behind_lasts (λ a bytes. the_ok {X = X × List ℕ} (make a, bytes)) l (λ a. known_lasts (make a))
