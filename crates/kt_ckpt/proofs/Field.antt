-- What it is to read a field: just its spellings are read, whatever follows, and what is known of it stays known as more bytes come.
-- Cited by ActCauses, ActFields, ActWhats, Checkpoints, Combined, Front, Nodes, OldCheckpoints, OldFields, OldOps,
--   OldParts, OldRising, OldStates, OldWorkers, Ops, Peers, Primitive, States, Tuples, Values.
use Rattle.std.proofs.Common.{◌≡◌, ℕ, suc, ◌+◌, ◌<◌, List, [], ◌∷◌, ◌++◌, length, get_or, take, drop, Result, Ok, Err, refl, sym, ap, ◌∙◌, append_assoc}
use Rattle.std.proofs.Common.{arith, inl, inr}
use Rattle.std.proofs.lemmas.Bool.{cases_lt}
use Rattle.std.proofs.lemmas.List.{append-nil, length-append, length-take, get_or-drop, get_or-take, get_or_past}
use Rattle.kt_ckpt.specs.declared.error.CkptError.{CkptError}
use Rattle.kt_ckpt.specs.declared.error.CkptError.TheVariants.{Magic, Version, Cut, Field, Extra, OutOfMemory}
use Rattle.kt_ckpt.specs.Reading.{◌>>=◌}

-- each number is a byte
abbrev pub IsBytes : List ℕ → Type 0
IsBytes bytes = (i : ℕ) → get_or bytes i 0 < 256

pub IsBytes-drop : (n : ℕ) (bytes : List ℕ) → IsBytes bytes → IsBytes (drop n bytes)
IsBytes-drop n bytes h i = rw get_or-drop (h (n + i))

pub IsBytes-take : (n : ℕ) (bytes : List ℕ) → IsBytes bytes → IsBytes (take n bytes)
IsBytes-take n bytes h i =
    elim (cases_lt i n) [
      | inl lt ↦ rw (get_or-take n bytes i 0 lt) (h i)
      | inr le ↦ rw (get_or_past (take n bytes) i 0 (omega (arith, length-take n bytes))) (omega arith)
    ]

pub IsBytes-tail : (b : ℕ) (bytes : List ℕ) → IsBytes (b ∷ bytes) → IsBytes bytes
IsBytes-tail b bytes h i = h (suc i)

-- the bytes are the text and then the rest
pub record Takes (bytes text rest : List ℕ) : Type 0 where
  pub parts : bytes ≡ text ++ rest
  pub rest_fits : IsBytes rest

pub Takes-then : {a x b y c : List ℕ} → Takes a x b → Takes b y c → Takes a (x ++ y) c
Takes-then {x = x} {y = y} {c = c} p q = record { parts = p.parts ∙ ap (λ (t : List ℕ). x ++ t) q.parts ∙ sym (append_assoc x y c); rest_fits = q.rest_fits }

-- what is read of more bytes, where this was read: the same but for the rest; a fault stays, unless bytes were wanting
abbrev pub Continues : {X : Type 0} → List ℕ → Result (X × List ℕ) CkptError → Result (X × List ℕ) CkptError → Type 0
Continues more (Ok x) longer = longer ≡ Ok (x.0, x.1 ++ more)
Continues more (Err Cut) longer = Unit {0}
Continues more (Err e) longer = longer ≡ Err e

-- each spelling of an allowed value is read, whatever follows, and nothing else
pub record IsField {X : Type 0} (spelled : X → List ℕ) (IsAllowed : X → Type 0) (read : List ℕ → Result (X × List ℕ) CkptError) : Type 0 where
  pub again : (x : X) (rest : List ℕ) → IsAllowed x → read (spelled x ++ rest) ≡ Ok (x, rest)
  pub takes : (bytes : List ℕ) (x : X) (rest : List ℕ) → IsBytes bytes → read bytes ≡ Ok (x, rest) → Takes bytes (spelled x) rest × IsAllowed x

-- what is known of the bytes stays known as more come
pub record Lasts {X : Type 0} (read : List ℕ → Result (X × List ℕ) CkptError) : Type 0 where
  pub goes_on : (bytes more : List ℕ) → Continues more (read bytes) (read (bytes ++ more))

abbrev pub the_ok : {X : Type 0} → X → Result X CkptError
the_ok x = Ok x

pub pair_of_ok : {X : Type 0} (x y : X × List ℕ) → the_ok x ≡ the_ok y → (x.0 ≡ y.0) × (x.1 ≡ y.1)
pair_of_ok x y e = let same : x ≡ y = cc in (ap (λ p. p.0) same, ap (λ p. p.1) same)

-- the value of a step that did not fail
pub bind_ok : {A B : Type 0} (r : Result A CkptError) (f : A → Result B CkptError) (y : B) → (r >>= f) ≡ Ok y → (x : A) × (r ≡ Ok x) × (f x ≡ Ok y)
bind_ok (Ok x) f y e = (x, refl, e)
bind_ok (Err d) f y e = absurd cc

nothing_longer : {X : Type 0} (x : X) (y : X × List ℕ) (c : ℕ) (more : List ℕ) → the_ok {X = X × List ℕ} (x, []) ≡ the_ok (y.0, y.1 ++ c ∷ more) → ⊥
nothing_longer x y c more e =
    let rest : [] ≡ y.1 ++ c ∷ more = (pair_of_ok (x, []) (y.0, y.1 ++ c ∷ more) e).1 in
    omega (arith, ap length rest, length-append y.1 (c ∷ more))

cut_by : {X : Type 0} (x : X) (c : ℕ) (more : List ℕ) (r longer : Result (X × List ℕ) CkptError) → Continues (c ∷ more) r longer → longer ≡ Ok (x, [])
    → r ≡ Err Cut
cut_by x c more (Ok y) longer h e = absurd (nothing_longer x y c more (sym e ∙ h))
cut_by x c more (Err Cut) longer h e = refl
cut_by x c more (Err Magic) longer h e = absurd cc
cut_by x c more (Err Version) longer h e = absurd cc
cut_by x c more (Err Field) longer h e = absurd cc
cut_by x c more (Err Extra) longer h e = absurd cc
cut_by x c more (Err OutOfMemory) longer h e = absurd cc

-- a proper front of a spelling is cut short
pub front_is_cut : {X : Type 0} {spelled : X → List ℕ} {IsAllowed : X → Type 0} {read : List ℕ → Result (X × List ℕ) CkptError}
    → IsField spelled IsAllowed read → Lasts read
    → (x : X) (front : List ℕ) (c : ℕ) (more : List ℕ) → IsAllowed x → spelled x ≡ front ++ c ∷ more → read front ≡ Err Cut
front_is_cut {spelled = spelled} {read = read} f l x front c more allowed e =
    let whole : read (front ++ c ∷ more) ≡ Ok (x, []) = ap read (sym e ∙ sym (append-nil (spelled x))) ∙ f.again x [] allowed in
    cut_by x c more (read front) (read (front ++ c ∷ more)) (l.goes_on front (c ∷ more)) whole
