-- What it means that a reader reads the texts of a shape.
-- Cited by Exact, Explained, FormalShapes, IntShapes, Layouts, Only, PlaceShapes, StrShapes, TextFaults, TextShapes,
--   TextStops, WordShapes.
use Rattle.std.proofs.Common.{◌≡◌, ℕ, ◌⊎◌, inl, inr, false, List, [], ◌∷◌, ◌++◌, Result, Ok, Err, refl, sym, ap, subst, ◌∙◌}
use Rattle.kt_tuple.specs.Grammar.{Begins}
use Rattle.kt_tuple.specs.Parsing.{Reader}
use Rattle.kt_tuple.specs.Reading.{◌>>=◌, begins_with_digit, split_before}
use Rattle.kt_tuple.proofs.IntLaws.{split_front}

-- what was read in front of the rest is read again, whatever follows the first byte of the rest
abbrev pub Again : Reader → List ℕ → List ℕ → Type 0
Again read p [] = Unit
Again read p (d ∷ ds) = (w : List ℕ) → read (p ++ d ∷ w) ≡ Ok (p, d ∷ w)

-- the reader goes no further, whatever follows the first byte of the rest
abbrev pub Halts : {X : Type 0} → (List ℕ → Result X (List ℕ)) → List ℕ → List ℕ → Type 0
Halts read front [] = Unit
Halts read front (c ∷ cs) = (w : List ℕ) → read (front ++ c ∷ w) ≡ Err (c ∷ w)

-- what was read has the shape
abbrev pub Took : Reader → (List ℕ → Type 0) → List ℕ → List ℕ × List ℕ → Type 0
Took read IsOne text x = (text ≡ x.0 ++ x.1) × IsOne x.0 × Again read x.0 x.1

-- what stands before the rest begins a text of the shape, and goes no further
abbrev pub Stops : {X : Type 0} → (List ℕ → Result X (List ℕ)) → (List ℕ → Type 0) → List ℕ → List ℕ → Type 0
Stops read IsOne text rest = (front : List ℕ) × (text ≡ front ++ rest) × Begins IsOne front × Halts read front rest

pub record IsReaderOf (read : Reader) (IsOne : List ℕ → Type 0) : Type 0 where
  pub some : (p : List ℕ) × IsOne p
  pub takes : (text : List ℕ) (x : List ℕ × List ℕ) → read text ≡ Ok x → Took read IsOne text x
  pub reads : (p rest : List ℕ) → IsOne p → begins_with_digit rest ≡ false → read (p ++ rest) ≡ Ok (p, rest)
  pub stops : (text rest : List ℕ) → read text ≡ Err rest → Stops read IsOne text rest

-- what stands before the rest, and the rest
pub took_split : (read : Reader) (IsOne : List ℕ → Type 0) (text front after : List ℕ) (x : List ℕ × List ℕ) → text ≡ front ++ after
    → split_before text after ≡ x
    → IsOne front → Again read front after → Took read IsOne text x
took_split read IsOne text front after x parts split one again =
    let e : (front, after) ≡ x = sym (split_front front after) ∙ ap (λ (t : List ℕ). split_before t after) (sym parts) ∙ split in
    let took : Took read IsOne text (front, after) = (parts, one, again) in
    subst (Took read IsOne text) e took

again_as : (r s : Reader) (c : ℕ) → ((w : List ℕ) → r (c ∷ w) ≡ s (c ∷ w)) → (cs p rest : List ℕ) → c ∷ cs ≡ p ++ rest → Again s p rest → Again r p rest
again_as r s c same cs p [] e again = tt
again_as r s c same cs [] (d ∷ ds) e again = λ w.
    let is : c ≡ d = cc in
    subst (λ k. r (k ∷ w) ≡ s (k ∷ w)) is (same w) ∙ again w
again_as r s c same cs (f ∷ p) (d ∷ ds) e again = λ w.
    let is : c ≡ f = cc in
    subst (λ k. r (k ∷ (p ++ d ∷ w)) ≡ s (k ∷ (p ++ d ∷ w))) is (same (p ++ d ∷ w)) ∙ again w

pub halts_as : {X : Type 0} (r s : List ℕ → Result X (List ℕ)) (c : ℕ) → ((w : List ℕ) → r (c ∷ w) ≡ s (c ∷ w)) → (cs front rest : List ℕ)
    → c ∷ cs ≡ front ++ rest
    → Halts s front rest → Halts r front rest
halts_as r s c same cs front [] e halts = tt
halts_as r s c same cs [] (d ∷ ds) e halts = λ w.
    let is : c ≡ d = cc in
    subst (λ k. r (k ∷ w) ≡ s (k ∷ w)) is (same w) ∙ halts w
halts_as r s c same cs (f ∷ front) (d ∷ ds) e halts = λ w.
    let is : c ≡ f = cc in
    subst (λ k. r (k ∷ (front ++ d ∷ w)) ≡ s (k ∷ (front ++ d ∷ w))) is (same (front ++ d ∷ w)) ∙ halts w

-- a reader that leaves texts with this first byte to another one
pub took_as : (r s : Reader) (IsOne IsOther : List ℕ → Type 0) (c : ℕ) (cs : List ℕ) (x : List ℕ × List ℕ) → ((w : List ℕ) → r (c ∷ w) ≡ s (c ∷ w))
    → ((p : List ℕ) → IsOther p → IsOne p) → Took s IsOther (c ∷ cs) x → Took r IsOne (c ∷ cs) x
took_as r s IsOne IsOther c cs x same one took = (took.0, one x.0 took.1, again_as r s c same cs x.0 x.1 took.0 took.2)

pub stops_as : (r s : Reader) (IsOne IsOther : List ℕ → Type 0) (c : ℕ) (cs rest : List ℕ) → ((w : List ℕ) → r (c ∷ w) ≡ s (c ∷ w))
    → ((p : List ℕ) → IsOther p → IsOne p) → Stops s IsOther (c ∷ cs) rest → Stops r IsOne (c ∷ cs) rest
stops_as r s IsOne IsOther c cs rest same one stops =
    (stops.0, stops.1, (stops.2.0, one (stops.0 ++ stops.2.0) stops.2.1), halts_as r s c same cs stops.0 rest stops.1 stops.3)

-- where nothing is left
pub stops_nil : {X : Type 0} (read : List ℕ → Result X (List ℕ)) (IsOne : List ℕ → Type 0) (rest : List ℕ) → (p : List ℕ) × IsOne p → [] ≡ rest
    → Stops read IsOne [] rest
stops_nil read IsOne [] one e = ([], refl, one, tt)
stops_nil read IsOne (c ∷ cs) one e = absurd cc

-- the same at the first byte
pub stops_here : {X : Type 0} (read : List ℕ → Result X (List ℕ)) (IsOne : List ℕ → Type 0) (c : ℕ) (cs rest : List ℕ) → (p : List ℕ) × IsOne p → c ∷ cs ≡ rest
    → ((w : List ℕ) → read (c ∷ w) ≡ Err (c ∷ w)) → Stops read IsOne (c ∷ cs) rest
stops_here read IsOne c cs rest one e halts =
    let stops : Stops read IsOne (c ∷ cs) (c ∷ cs) = ([], refl, one, halts) in
    subst (Stops read IsOne (c ∷ cs)) e stops

pub bound_err : {A B : Type 0} (r : Result A (List ℕ)) (f : A → Result B (List ℕ)) (e : List ℕ) → (r >>= f) ≡ Err e → (r ≡ Err e)
    ⊎ ((x : A) × (r ≡ Ok x) × (f x ≡ Err e))
bound_err (Ok x) f e is = inr (x, refl, is)
bound_err (Err d) f e is = inl cc
