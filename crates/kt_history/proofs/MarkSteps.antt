-- How marks change, one at a time.
-- Cited by Counts, KeepingActs, KeepingCuts, `mark::count_lost`, `mark::lose_some`, `mark::renew`, `mark::unmark`.
use Rattle.std.proofs.Common.{◌≡◌, ℕ, zero, suc, ◌+◌, ◌-◌, ◌<◌, ◌≤◌, ◌==◌, ◌&&◌, ◌||◌, not, Bool, true, false, cond, List, [], ◌∷◌, ◌++◌}
use Rattle.std.proofs.Common.{take, drop, set, length, get_or, Option, None, Some, refl, sym, ap, ◌∙◌, subst, inl, inr, arith, add-zero}
use Rattle.std.specs.List.{slice_get, list_any}
use Rattle.std.proofs.lemmas.List.{get_or-set_same, get_or-set_other, get_or-take, length-set, length-take-le, ext_get_or, take_more, take_rest}
use Rattle.kt_history.proofs.Lists.{Contains-from_list_any}
use Rattle.std.proofs.lemmas.List.Folds.{list_any-append}
use Rattle.std.proofs.lemmas.Bool.{cases_Bool, cases_eq, eq-eqb, ne_eqb}
use Rattle.std.proofs.Math.Bool.{and-false, and-true, or-false, or-true}
use Rattle.kt_history.specs.declared.note.Note.{Note}
use Rattle.kt_history.specs.declared.note.Note.TheVariants as notes
use Rattle.kt_history.specs.declared.mark.Mark.{Mark}
use Rattle.kt_history.specs.auxiliary.Marks.{mark_at, no_mark, lasts_in, unmarked, renewed, LooksBack, AreMarksOf}
use Rattle.kt_history.specs.auxiliary.Marks.{IsRenewed, IsUnmarked, AreLost, HasLost, lost_among, is_lost}

-- one more number is lost
pub unmarked-push : (xs : List ℕ) (n k : ℕ) (m : Mark)
    → unmarked (xs ++ n ∷ []) k m ≡ cond (n == suc k) (record { previous = m.previous; place = m.place; survives = false }) (unmarked xs k m)
unmarked-push xs n k m = go (n == suc k) refl where
  go : (b : Bool) → (n == suc k) ≡ b
      → unmarked (xs ++ n ∷ []) k m ≡ cond b (record { previous = m.previous; place = m.place; survives = false }) (unmarked xs k m)
  go true e =
      ap (λ t. let x : Mark = record { previous = m.previous; place = m.place; survives = m.survives && not t } in x)
      (list_any-append (λ i. i == suc k) xs (n ∷ []) ∙ ap (λ t. list_any (λ i. i == suc k) xs || (t || false)) e ∙ or-true (list_any (λ i. i == suc k) xs))
      ∙ ap (λ t. let x : Mark = record { previous = m.previous; place = m.place; survives = t } in x) (and-false m.survives)
  go false e =
      ap (λ t. let x : Mark = record { previous = m.previous; place = m.place; survives = m.survives && not t } in x)
      (list_any-append (λ i. i == suc k) xs (n ∷ []) ∙ ap (λ t. list_any (λ i. i == suc k) xs || (t || false)) e ∙ or-false (list_any (λ i. i == suc k) xs))

-- so far these numbers are lost
pub record UnmarkedUpTo (numbers : List ℕ) (old now : List Mark) : Type 0 where
  pub lengths : length now ≡ length old
  pub each : (k : ℕ) → k < length old → mark_at now k ≡ unmarked numbers k (mark_at old k)

pub UnmarkedUpTo-push : (numbers : List ℕ) (n : ℕ) (old now : List Mark) → UnmarkedUpTo numbers old now → 1 ≤ n → n ≤ length old
    → UnmarkedUpTo (numbers ++ n ∷ []) old (set now (n - 1)
    (record { previous = (mark_at now (n - 1)).previous; place = (mark_at now (n - 1)).place; survives = false }))
UnmarkedUpTo-push numbers n old now u low high = record {
  lengths = length-set now (n - 1) _ ∙ u.lengths;
  each = λ k lt. elim (cases_eq k (n - 1)) [
    | inl here ↦
        let P : ℕ → Type 0 = λ i. mark_at (set now (n - 1)
        (record { previous = (mark_at now (n - 1)).previous; place = (mark_at now (n - 1)).place; survives = false })) i
        ≡ unmarked (numbers ++ n ∷ []) i (mark_at old i) in
        let same : n ≡ suc (n - 1) = omega (arith, low) in
        let within : n - 1 < length now = omega (arith, low, high, u.lengths) in
        subst P (sym here)
        (get_or-set_same now (n - 1) (record { previous = (mark_at now (n - 1)).previous; place = (mark_at now (n - 1)).place; survives = false })
        no_mark within
        ∙ ap (λ (m : Mark). let x : Mark = record { previous = m.previous; place = m.place; survives = false } in x)
        (u.each (n - 1) (omega (arith, within, u.lengths)))
        ∙ sym (unmarked-push numbers n (n - 1) (mark_at old (n - 1))
        ∙ ap (λ b. cond b (let x : Mark = record { previous = (mark_at old (n - 1)).previous; place = (mark_at old (n - 1)).place; survives = false } in x)
        (unmarked numbers (n - 1) (mark_at old (n - 1)))) (eq-eqb n (suc (n - 1)) same)))
    | inr other ↦
        get_or-set_other now (n - 1) k (record { previous = (mark_at now (n - 1)).previous; place = (mark_at now (n - 1)).place; survives = false })
        no_mark other
        ∙ u.each k lt
        ∙ sym (unmarked-push numbers n k (mark_at old k)
        ∙ ap (λ b. cond b (let x : Mark = record { previous = (mark_at old k).previous; place = (mark_at old k).place; survives = false } in x)
        (unmarked numbers k (mark_at old k)))
        (ne_eqb n (suc k) (λ e. other (omega (arith, e)))))
  ];
}

-- what is looked up among marks that agree below a place
pub lasts_in-agree : (ms ks : List Mark) (n i : ℕ) → n ≤ i → ((k : ℕ) → k < i → mark_at ms k ≡ mark_at ks k) → lasts_in ms n ≡ lasts_in ks n
lasts_in-agree ms ks zero i le same = refl
lasts_in-agree ms ks (suc n) i le same = ap (λ (m : Mark). m.survives) (same n (omega (arith, le)))

pub renewed-agree : (o : Option Note) (m : Mark) (ms ks : List Mark) (i : ℕ) → LooksBack o i → m.previous ≤ i → ((k : ℕ) → k < i → mark_at ms k ≡ mark_at ks k)
    → renewed o m ms ≡ renewed o m ks
renewed-agree None m ms ks i back le same = refl
renewed-agree (Some (notes.Cut p keep)) m ms ks i back le same = refl
renewed-agree (Some (notes.Act a)) m ms ks i back le same =
    ap (λ b. let x : Mark = record { previous = m.previous; place = m.place; survives = m.survives && (b && lasts_in ms a.by) } in x)
    (lasts_in-agree ms ks m.previous i le same)
    ∙ ap (λ b. let x : Mark = record { previous = m.previous; place = m.place; survives = m.survives && (lasts_in ks m.previous && b) } in x)
    (lasts_in-agree ms ks a.by i back same)

pub renewed-previous : (o : Option Note) (m : Mark) (ms : List Mark) → (renewed o m ms).previous ≡ m.previous
renewed-previous None m ms = refl
renewed-previous (Some (notes.Cut p keep)) m ms = refl
renewed-previous (Some (notes.Act a)) m ms = refl

pub renewed-place : (o : Option Note) (m : Mark) (ms : List Mark) → (renewed o m ms).place ≡ m.place
renewed-place None m ms = refl
renewed-place (Some (notes.Cut p keep)) m ms = refl
renewed-place (Some (notes.Act a)) m ms = refl

-- from first on, the marks before place are looked at anew
pub record RenewedUpTo (h : List Note) (old now : List Mark) (first place : ℕ) : Type 0 where
  pub marks_of : AreMarksOf h now
  pub below : (k : ℕ) → k < first → mark_at now k ≡ mark_at old k
  pub done : (k : ℕ) → first ≤ k → k < place → mark_at now k ≡ renewed (slice_get h k) (mark_at old k) now
  pub rest : (k : ℕ) → place ≤ k → mark_at now k ≡ mark_at old k

-- how many are lost among notes with one more
pub lost_among-push : (xs : List Note) (ms : List Mark) (x : Note) (m : Mark) → length ms ≡ length xs
    → lost_among (xs ++ x ∷ []) (ms ++ m ∷ []) ≡ lost_among xs ms + cond (is_lost x m) 1 0
lost_among-push [] [] x m e = add-zero (cond (is_lost x m) 1 0) ∙ omega arith
lost_among-push [] (k ∷ ms) x m e = absurd (omega (arith, e))
lost_among-push (y ∷ xs) [] x m e = absurd (omega (arith, e))
lost_among-push (y ∷ xs) (k ∷ ms) x m e =
    let same : length ms ≡ length xs = omega (arith, e) in
    omega (arith, lost_among-push xs ms x m same)

pub lost_among-append : (xs : List Note) (ms : List Mark) (ys : List Note) (ks : List Mark) → length ms ≡ length xs
    → lost_among (xs ++ ys) (ms ++ ks) ≡ lost_among xs ms + lost_among ys ks
lost_among-append [] [] ys ks e = omega arith
lost_among-append [] (k ∷ ms) ys ks e = absurd (omega (arith, e))
lost_among-append (y ∷ xs) [] ys ks e = absurd (omega (arith, e))
lost_among-append (y ∷ xs) (k ∷ ms) ys ks e =
    let same : length ms ≡ length xs = omega (arith, e) in
    omega (arith, lost_among-append xs ms ys ks same)

at_most_one : (b : Bool) → cond b 1 0 ≤ 1
at_most_one true = omega arith
at_most_one false = omega arith

pub lost_among-at_most : (xs : List Note) (ms : List Mark) → lost_among xs ms ≤ length xs
lost_among-at_most [] ms = omega arith
lost_among-at_most (x ∷ xs) [] = omega arith
lost_among-at_most (x ∷ xs) (m ∷ ms) = omega (arith, at_most_one (is_lost x m), lost_among-at_most xs ms)

pub lost_among-split : (n : ℕ) (xs : List Note) (ms : List Mark) → length ms ≡ length xs
    → lost_among xs ms ≡ lost_among (take n xs) (take n ms) + lost_among (drop n xs) (drop n ms)
lost_among-split zero xs ms e = omega arith
lost_among-split (suc n) [] ms e = omega arith
lost_among-split (suc n) (x ∷ xs) [] e = absurd (omega (arith, e))
lost_among-split (suc n) (x ∷ xs) (m ∷ ms) e =
    let same : length ms ≡ length xs = omega (arith, e) in
    omega (arith, lost_among-split n xs ms same)

-- a mark stays where its number is not among the lost ones
pub unmarked-other : (numbers : List ℕ) (k : ℕ) (m : Mark) → list_any (λ n. n == suc k) numbers ≡ false → unmarked numbers k m ≡ m
unmarked-other numbers k m e =
    ap (λ b. let x : Mark = record { previous = m.previous; place = m.place; survives = m.survives && not b } in x) e
    ∙ ap (λ b. let x : Mark = record { previous = m.previous; place = m.place; survives = b } in x) (and-true m.survives)

pub HasLost-from : (h : List Note) (numbers : List ℕ) (old mid new : List Mark) → AreLost h numbers → AreMarksOf h old → IsUnmarked numbers old mid
    → IsRenewed h mid new (get_or numbers 0 0 - 1) → HasLost h numbers old new
HasLost-from h numbers old mid new l a u r = record {
  lengths = r.lengths ∙ u.lengths;
  below = λ k lt.
      let within : k < length old = omega (arith, lt, l.first_within, a.lengths) in
      r.below k (omega (arith, lt)) ∙ u.each k within ∙ unmarked-other numbers k (mark_at old k) (no_smaller k lt);
  above = λ k le lt.
      r.above k (omega (arith, le)) lt ∙ ap (λ m. renewed (slice_get h k) m new) (u.each k (omega (arith, lt, a.lengths)));
} where
  no_smaller : (k : ℕ) → suc k < get_or numbers 0 0 → list_any (λ n. n == suc k) numbers ≡ false
  no_smaller k lt = elim (cases_Bool (list_any (λ n. n == suc k) numbers)) [
    | inl found ↦ absurd (omega (arith, lt, l.least (suc k) (Contains-from_list_any numbers (suc k) found)))
    | inr none ↦ none
  ]

-- the marks before the first lost number stay
pub HasLost-front : (h : List Note) (numbers : List ℕ) (old new : List Mark) → HasLost h numbers old new → AreLost h numbers → AreMarksOf h old
    → take (get_or numbers 0 0 - 1) new ≡ take (get_or numbers 0 0 - 1) old
HasLost-front h numbers old new l f a =
    let n = get_or numbers 0 0 - 1 in
    let le_old : n ≤ length old = omega (arith, f.first_within, a.lengths) in
    let le_new : n ≤ length new = omega (arith, le_old, l.lengths) in
    let len_new = length-take-le n new le_new in
    let len_old = length-take-le n old le_old in
    ext_get_or no_mark (take n new) (take n old) (len_new ∙ sym len_old)
    (λ i lt.
    let small : i < n = omega (arith, lt, len_new) in
    get_or-take n new i no_mark small ∙ l.below i (omega (arith, small)) ∙ sym (get_or-take n old i no_mark small))

pub HasLost-counted : (h : List Note) (numbers : List ℕ) (old new : List Mark) (lost before after : ℕ) → HasLost h numbers old new → AreLost h numbers
    → AreMarksOf h old → lost ≡ lost_among h old → before ≡ lost_among (drop (get_or numbers 0 0 - 1) h) (drop (get_or numbers 0 0 - 1) old)
    → after ≡ lost_among (drop (get_or numbers 0 0 - 1) h) (drop (get_or numbers 0 0 - 1) new) → lost - before + after ≡ lost_among h new
HasLost-counted h numbers old new lost before after l f a counted is_before is_after =
    let n = get_or numbers 0 0 - 1 in
    let was = lost_among-split n h old a.lengths in
    let now = lost_among-split n h new (l.lengths ∙ a.lengths) in
    let front = ap (lost_among (take n h)) (HasLost-front h numbers old new l f a) in
    omega (arith, was, now, front, counted, is_before, is_after)

-- how many are lost among the first notes, one further
pub lost_among-more : (xs : List Note) (ms : List Mark) (n : ℕ) (x : Note) → n < length xs → length ms ≡ length xs → x ≡ get_or xs n x
    → lost_among (take (n + 1) xs) (take (n + 1) ms) ≡ lost_among (take n xs) (take n ms) + cond (is_lost x (mark_at ms n)) 1 0
lost_among-more xs ms n x lt e at =
    let len_xs = length-take-le n xs (omega (arith, lt)) in
    let len_ms = length-take-le n ms (omega (arith, lt, e)) in
    ap (λ ys. lost_among ys (take (n + 1) ms)) (take_more xs n x lt ∙ ap (λ y. take n xs ++ y ∷ []) (sym at))
    ∙ ap (λ ks. lost_among (take n xs ++ x ∷ []) ks) (take_more ms n no_mark (omega (arith, lt, e)))
    ∙ lost_among-push (take n xs) (take n ms) x (mark_at ms n) (len_ms ∙ sym len_xs)

-- the lost ones behind a place, as a slice from it on shows them
pub lost_among-part : (n : ℕ) (xs : List Note) (ms : List Mark)
    → lost_among (take (length xs - n) (drop n xs)) (take (length ms - n) (drop n ms)) ≡ lost_among (drop n xs) (drop n ms)
lost_among-part n xs ms =
    ap (λ ys. lost_among ys (take (length ms - n) (drop n ms))) (take_rest xs n) ∙ ap (lost_among (drop n xs)) (take_rest ms n)
