-- Where no text goes on with the next byte, what was read begins some text, and with that byte it begins none.
-- Cited by TextShapes.
use Rattle.std.proofs.Common.{◌≡◌, ℕ, zero, suc, ◌<◌, ◌≤◌, inl, inr, List, [], ◌∷◌, ◌++◌, length, Option, Some}
use Rattle.std.proofs.Common.{None, Ok, Err, refl, sym, ap, subst, ◌∙◌, append_assoc, arith, length-append}
use Rattle.kt_tuple.specs.Reading.{◌>>=◌, after_place}
use Rattle.kt_tuple.specs.Parsing.{Reader, and_behind, places_from}
use Rattle.kt_tuple.proofs.ValueLaws.{bound}
use Rattle.kt_tuple.proofs.Wholes.{none_follows, some_follows}
use Rattle.kt_tuple.proofs.Shapes.{Again, Halts, Took, IsReaderOf, bound_err}
use Rattle.kt_tuple.proofs.Layouts.{Laid, last, next, Follows, closed, further, laid_with, follows_read, follows_further, after_stops}

again_at : (read : Reader) (p rest front : List ℕ) (c : ℕ) (cs : List ℕ) → Again read p rest → rest ≡ front ++ c ∷ cs → (w : List ℕ)
    → read (p ++ (front ++ c ∷ w)) ≡ Ok (p, front ++ c ∷ w)
again_at read p rest [] c cs again e w = let h : Again read p (c ∷ cs) = subst (Again read p) e again in h w
again_at read p rest (f ∷ front) c cs again e w = let h : Again read p (f ∷ (front ++ c ∷ cs)) = subst (Again read p) e again in h (front ++ c ∷ w)

-- no places stand in a text that begins with the front and the first byte of the rest
abbrev pub NeverLaid : (List ℕ → Type 0) → List ℕ → List ℕ → Type 0
NeverLaid IsOne front [] = Unit
NeverLaid IsOne front (c ∷ cs) = (w : List ℕ) (found : List (List ℕ × List ℕ)) → Laid IsOne found (front ++ c ∷ w) → ⊥

abbrev pub StopsLaid : (List ℕ → Type 0) → List ℕ → List ℕ → Type 0
StopsLaid IsOne text rest =
    (front : List ℕ) × (text ≡ front ++ rest) × ((w : List ℕ) × (found : List (List ℕ × List ℕ)) × Laid IsOne found (front ++ w)) × NeverLaid IsOne front rest

module _ (read : Reader) (IsOne : List ℕ → Type 0) (g : IsReaderOf read IsOne) where
  laid_read : (found : List (List ℕ × List ℕ)) (text : List ℕ) → Laid IsOne found text → (x : List ℕ × List ℕ) × (read text ≡ Ok x) × Follows IsOne x.1
  laid_read found text (last {p} h) = ((p, 41 ∷ []), g.reads p (41 ∷ []) h refl, closed)
  laid_read found text (next {p} {text = behind} h l) = ((p, 44 ∷ 32 ∷ behind), g.reads p (44 ∷ 32 ∷ behind) h refl, further l)

  -- what stands behind the first place
  laid_follows : (found : List (List ℕ × List ℕ)) (text p t : List ℕ) → Laid IsOne found text → read text ≡ Ok (p, t) → Follows IsOne t
  laid_follows found text p t l e =
      let h = laid_read found text l in
      let both : Ok h.0 ≡ Ok (p, t) = sym h.1 ∙ e in
      let pair : h.0 ≡ (p, t) = cc in
      let same : h.0.1 ≡ t = ap (λ (x : List ℕ × List ℕ). x.1) pair in
      subst (Follows IsOne) same h.2

  never_at_place : (front rest : List ℕ) → Halts read front rest → NeverLaid IsOne front rest
  never_at_place front [] halts = tt
  never_at_place front (c ∷ cs) halts = λ w found l.
      let h = laid_read found (front ++ c ∷ w) l in
      let never : Err (c ∷ w) ≡ Ok h.0 = sym (halts w) ∙ h.1 in
      absurd cc

  stops_at_place : (text rest : List ℕ) → read text ≡ Err rest → StopsLaid IsOne text rest
  stops_at_place text rest e =
      let h = g.stops text rest e in
      let p = h.0 ++ h.2.0 in (
        h.0,
        h.1,
        (h.2.0 ++ 41 ∷ [], (p, p ++ 41 ∷ []) ∷ [], subst (Laid IsOne ((p, p ++ 41 ∷ []) ∷ [])) (append_assoc h.0 h.2.0 (41 ∷ [])) (last h.2.1)),
        never_at_place h.0 rest h.3,
      )

  never_behind : (p behind front rest : List ℕ) → Again read p behind → behind ≡ front ++ rest → Halts after_place front rest
      → NeverLaid IsOne (p ++ front) rest
  never_behind p behind front [] again e halts = tt
  never_behind p behind front (c ∷ cs) again e halts = λ w found l.
      let place = ap read (append_assoc p front (c ∷ w)) ∙ again_at read p behind front c cs again e w in
      let f = follows_read (front ++ c ∷ w) (laid_follows found ((p ++ front) ++ c ∷ w) p (front ++ c ∷ w) l place) in
      let never : Err (c ∷ w) ≡ Ok f.0 = sym (halts w) ∙ f.1 in
      absurd cc

  stops_behind : (text p behind rest : List ℕ) → Took read IsOne text (p, behind) → after_place behind ≡ Err rest → StopsLaid IsOne text rest
  stops_behind text p behind rest took e =
      let h = after_stops IsOne p took.1 behind rest e in
      let l = laid_with p (h.0 ++ h.2.0) took.1 h.2.1 in (
        p ++ h.0,
        took.0 ∙ ap (λ (t : List ℕ). p ++ t) h.1 ∙ sym (append_assoc p h.0 rest),
        (h.2.0, l.0, subst (Laid IsOne l.0) (sym (append_assoc p h.0 h.2.0)) l.1),
        never_behind p behind h.0 rest took.2 h.1 h.3,
      )

  never_later : (p behind front rest : List ℕ) → Again read p behind → behind ≡ 44 ∷ 32 ∷ (front ++ rest) → NeverLaid IsOne front rest
      → NeverLaid IsOne (p ++ 44 ∷ 32 ∷ front) rest
  never_later p behind front [] again e never = tt
  never_later p behind front (c ∷ cs) again e never = λ w found l.
      let place = ap read (append_assoc p (44 ∷ 32 ∷ front) (c ∷ w)) ∙ again_at read p behind (44 ∷ 32 ∷ front) c cs again e w in
      let f = laid_follows found ((p ++ 44 ∷ 32 ∷ front) ++ c ∷ w) p (44 ∷ 32 ∷ (front ++ c ∷ w)) l place in
      let others = follows_further (44 ∷ 32 ∷ (front ++ c ∷ w)) (front ++ c ∷ w) f refl in
      never w others.0 others.1

  stops_later : (text p behind following rest : List ℕ) → Took read IsOne text (p, behind) → behind ≡ 44 ∷ 32 ∷ following → StopsLaid IsOne following rest
      → StopsLaid IsOne text rest
  stops_later text p behind following rest took e h =
      let parts : behind ≡ 44 ∷ 32 ∷ (h.0 ++ rest) = e ∙ ap (λ (t : List ℕ). 44 ∷ 32 ∷ t) h.1 in
      let found = (p, p ++ 44 ∷ 32 ∷ (h.0 ++ h.2.0)) ∷ h.2.1 in (
        p ++ 44 ∷ 32 ∷ h.0,
        took.0 ∙ ap (λ (t : List ℕ). p ++ t) parts ∙ sym (append_assoc p (44 ∷ 32 ∷ h.0) rest),
        (h.2.0, found, subst (Laid IsOne found) (sym (append_assoc p (44 ∷ 32 ∷ h.0) h.2.0)) (next took.1 h.2.2)),
        never_later p behind h.0 rest took.2 parts h.3,
      )

  stops_by : (o : Option (List ℕ)) (n : ℕ) (text p behind rest : List ℕ) → Took read IsOne text (p, behind) → after_place behind ≡ Ok o → length text ≤ n
      → ((following : List ℕ) → length following < n → places_from read n following ≡ Err rest → StopsLaid IsOne following rest)
      → and_behind (p, text) o (places_from read n) ≡ Err rest → StopsLaid IsOne text rest
  stops_by None n text p behind rest took after small more e = absurd cc
  stops_by (Some following) n text p behind rest took after small more e =
      let comma = some_follows behind following after in
      let shorter : length following < n = omega (arith, small, ap length took.0, length-append p behind, ap length comma) in
      elim (bound_err (places_from read n following) (λ others. Ok ((p, text) ∷ others)) rest e) [
        | inl h ↦ stops_later text p behind following rest took comma (more following shorter h)
        | inr h ↦ let never : Ok ((p, text) ∷ h.0) ≡ Err rest = h.2 in absurd cc
      ]

  pub stops_from : (n : ℕ) (text rest : List ℕ) → length text < n → places_from read n text ≡ Err rest → StopsLaid IsOne text rest
  unfolding places_from
  stops_from zero text rest lt e = absurd (omega (arith, lt))
  stops_from (suc n) text rest lt e =
      elim (bound_err (read text) (λ place. after_place place.1 >>= λ o. and_behind (place.0, text) o (places_from read n)) rest e) [
        | inl h ↦ stops_at_place text rest h
        | inr place ↦ elim (bound_err (after_place place.0.1) (λ o. and_behind (place.0.0, text) o (places_from read n)) rest place.2) [
          | inl h ↦ stops_behind text place.0.0 place.0.1 rest (g.takes text place.0 place.1) h
          | inr o ↦ stops_by o.0 n text place.0.0 place.0.1 rest (g.takes text place.0 place.1) o.1 (omega (arith, lt))
              (λ following. stops_from n following rest) o.2
        ]
      ]

  -- what is read is laid out so
  laid_by : (o : Option (List ℕ)) (n : ℕ) (text p behind : List ℕ) (found : List (List ℕ × List ℕ)) → Took read IsOne text (p, behind)
      → after_place behind ≡ Ok o
      → ((following : List ℕ) (others : List (List ℕ × List ℕ)) → places_from read n following ≡ Ok others → Laid IsOne others following)
      → and_behind (p, text) o (places_from read n) ≡ Ok found → Laid IsOne found text
  laid_by None n text p behind found took after more e =
      let parts : text ≡ p ++ 41 ∷ [] = took.0 ∙ ap (λ (t : List ℕ). p ++ t) (none_follows behind after) in
      let same : (p, text) ∷ [] ≡ found = cc in
      subst (λ (xs : List (List ℕ × List ℕ)). Laid IsOne xs text) same (subst (λ (t : List ℕ). Laid IsOne ((p, t) ∷ []) t) (sym parts) (last took.1))
  laid_by (Some following) n text p behind found took after more e =
      let parts : text ≡ p ++ 44 ∷ 32 ∷ following = took.0 ∙ ap (λ (t : List ℕ). p ++ t) (some_follows behind following after) in
      let others = bound (places_from read n following) (λ others. Ok ((p, text) ∷ others)) found e in
      let same : (p, text) ∷ others.0 ≡ found = cc (others.2) in
      subst (λ (xs : List (List ℕ × List ℕ)). Laid IsOne xs text) same
      (subst (λ (t : List ℕ). Laid IsOne ((p, t) ∷ others.0) t) (sym parts) (next took.1 (more following others.0 others.1)))

  pub places_laid : (n : ℕ) (text : List ℕ) (found : List (List ℕ × List ℕ)) → places_from read n text ≡ Ok found → Laid IsOne found text
  unfolding places_from
  places_laid zero text found e = absurd cc
  places_laid (suc n) text found e =
      let place = bound (read text) (λ place. after_place place.1 >>= λ o. and_behind (place.0, text) o (places_from read n)) found e in
      let o = bound (after_place place.0.1) (λ o. and_behind (place.0.0, text) o (places_from read n)) found place.2 in
      laid_by o.0 n text place.0.0 place.0.1 found (g.takes text place.0 place.1) o.1 (places_laid n) o.2

  -- and what is laid out so is read
  pub laid_places : (n : ℕ) (text : List ℕ) (found : List (List ℕ × List ℕ)) → Laid IsOne found text → length found ≤ n → places_from read n text ≡ Ok found
  unfolding places_from after_place
  laid_places zero text found (last h) small = absurd (omega (arith, small))
  laid_places zero text found (next h l) small = absurd (omega (arith, small))
  laid_places (suc n) text found (last {p} h) small = rw (g.reads p (41 ∷ []) h refl) refl
  laid_places (suc n) text found (next {p} {text = behind} {found = others} h l) small =
      rw (g.reads p (44 ∷ 32 ∷ behind) h refl, laid_places n behind others l (omega (arith, small))) refl
