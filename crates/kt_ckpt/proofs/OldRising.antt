-- Lists by rising workers, as format 1 has them.
-- Cited by OldStates, `old_state::old_rising_at`.
use Rattle.std.proofs.Common.{◌≡◌, ◌≢◌, ℕ, zero, suc, ◌+◌, ◌-◌, ◌<◌, ◌≤◌, Bool, true, false, cond, leb, ◌&&◌, List, [], ◌∷◌, ◌++◌, length, Result, Ok, Err}
use Rattle.std.proofs.Common.{refl, sym, ap, subst, ◌∙◌, append_assoc, arith}
use Rattle.std.specs.Prelude.{All}
use Rattle.std.specs.List.{flat_map, list_all}
use Rattle.std.proofs.lemmas.Bool.{and_parts, and_from, leb-true, le-leb}
use Rattle.std.proofs.lemmas.List.{append-nil}
use Rattle.std.proofs.lemmas.List.Elements.{All-nil, All-cons, All-head, All-tail}
use Rattle.kt_ckpt.specs.declared.error.CkptError.{CkptError}
use Rattle.kt_ckpt.specs.declared.error.CkptError.TheVariants.{Field, OutOfMemory}
use Rattle.kt_ckpt.specs.declared.old_limits.TheConstants.{OLD_WORKERS}
use Rattle.kt_ckpt.specs.OldLimits.{is_old_entry}
use Rattle.kt_ckpt.specs.OldState.{old_rising_at}
use Rattle.kt_ckpt.specs.Reading.{◌>>=◌, byte_at, byte_within, within, IsRising}
use Rattle.kt_ckpt.proofs.Field.{IsBytes, Takes, Takes-then, IsField, Lasts, the_ok, pair_of_ok, bind_ok}
use Rattle.kt_ckpt.proofs.Combined.{known_lasts, behind_lasts}
use Rattle.kt_ckpt.proofs.Loop.{with_front}
use Rattle.kt_ckpt.proofs.Primitive.{entry, byte_within_field, byte_within_lasts}

-- each worker is above the one before, the first is the least or above it, and none is above the greatest of format 1
abbrev pub IsOldRising : {X : Type 0} → ℕ → List (ℕ × X) → Type 0
IsOldRising least [] = Unit {0}
IsOldRising least (x ∷ xs) = (least ≤ x.0) × (x.0 ≤ OLD_WORKERS) × IsOldRising (x.0 + 1) xs

-- there are no more of them than workers
pub old_rising_len : {X : Type 0} (low : ℕ) (xs : List (ℕ × X)) → low ≤ OLD_WORKERS + 1 → IsOldRising low xs → length xs + low ≤ OLD_WORKERS + 1
old_rising_len low [] le h = omega arith
old_rising_len low (x ∷ xs) le h = let rest = old_rising_len (x.0 + 1) xs (omega (arith, h.1)) h.2 in omega (arith, rest, h.0)

-- they rise, and each is one that format 1 can hold
module _ {X : Type 0} (Is : X → Type 0) (test : X → Bool) where
  abbrev pub IsOldOne : ℕ × X → Type 0
  IsOldOne x = Is x.1 × (test x.1 ≡ true)

  abbrev pub IsOne : ℕ × X → Type 0
  IsOne x = Is x.1

  pub old_to_now : (low : ℕ) (xs : List (ℕ × X)) → IsOldRising low xs → All IsOldOne xs
      → IsRising low xs × (All IsOne xs × (list_all (is_old_entry test) xs ≡ true))
  old_to_now low [] rise all = (tt, (All-nil IsOne, refl))
  old_to_now low (x ∷ xs) rise all =
      let first = All-head IsOldOne x xs all in
      let later = old_to_now (x.0 + 1) xs rise.2 (All-tail IsOldOne x xs all) in (
        (rise.0, omega (arith, rise.1), later.0),
        (All-cons IsOne x xs first.0 later.1.0, and_from _ _ (and_from _ _ (le-leb x.0 OLD_WORKERS rise.1) first.1) later.1.1),
      )

  pub now_to_old : (low : ℕ) (xs : List (ℕ × X)) → IsRising low xs → All IsOne xs → list_all (is_old_entry test) xs ≡ true
      → IsOldRising low xs × All IsOldOne xs
  now_to_old low [] rise all p = (tt, All-nil IsOldOne)
  now_to_old low (x ∷ xs) rise all p =
      let parts = and_parts (is_old_entry test x) (list_all (is_old_entry test) xs) p in
      let here = and_parts (leb x.0 OLD_WORKERS) (test x.1) parts.0 in
      let later = now_to_old (x.0 + 1) xs rise.2 (All-tail IsOne x xs all) parts.1 in
      ((rise.0, leb-true x.0 OLD_WORKERS here.0, later.0), All-cons IsOldOne x xs (All-head IsOne x xs all, here.1) later.1)

pub rising_now : {X : Type 0} (low : ℕ) (xs : List (ℕ × X)) → IsOldRising low xs → IsRising low xs
rising_now low [] rise = tt
rising_now low (x ∷ xs) rise = (rise.0, omega (arith, rise.1), rising_now (x.0 + 1) xs rise.2)

abbrev after_first : {X : Type 0} → (List ℕ → Result (X × List ℕ) CkptError) → ℕ → ℕ → X × List ℕ → Result (List (ℕ × X) × List ℕ) CkptError
after_first {X} read n w first = old_rising_at read (w + 1) n first.1 >>= λ others. the_ok {X = List (ℕ × X) × List ℕ} ((w, first.0) ∷ others.0, others.1)

abbrev after_worker : {X : Type 0} → (List ℕ → Result (X × List ℕ) CkptError) → ℕ → ℕ × List ℕ → Result (List (ℕ × X) × List ℕ) CkptError
after_worker read n worker = read worker.1 >>= after_first read n worker.0

pub old_rising_field : {X : Type 0} {spelled : X → List ℕ} {IsAllowed : X → Type 0} {read : List ℕ → Result (X × List ℕ) CkptError}
    → IsField spelled IsAllowed read
    → (low n : ℕ) → IsField (λ xs. flat_map (entry spelled) xs) (λ xs. (length xs ≡ n) × (IsOldRising low xs × All (λ x. IsAllowed x.1) xs))
    (old_rising_at read low n)
unfolding old_rising_at
old_rising_field {X} {spelled} {IsAllowed} {read} f low n = record {
  again = λ xs rest h. again low n xs rest h.0 h.1.0 h.1.1;
  takes =
      λ bytes xs rest fits e. takes low n bytes xs rest fits e;
} where
  again : (low n : ℕ) (xs : List (ℕ × X)) (rest : List ℕ) → length xs ≡ n → IsOldRising low xs → All (λ x. IsAllowed x.1) xs
      → old_rising_at read low n (flat_map (entry spelled) xs ++ rest) ≡ Ok (xs, rest)
  again low zero [] rest len rising all = refl
  again low zero (x ∷ xs) rest len rising all = absurd (omega arith)
  again low (suc n) [] rest len rising all = absurd (omega arith)
  again low (suc n) (x ∷ xs) rest len rising all =
      let worker = byte_within_field low OLD_WORKERS (omega arith) in
      let regrouped : flat_map (entry spelled) (x ∷ xs) ++ rest ≡ (x.0 ∷ []) ++ (spelled x.1 ++ (flat_map (entry spelled) xs ++ rest)) =
      ap (λ (t : List ℕ). x.0 ∷ t) (append_assoc (spelled x.1) (flat_map (entry spelled) xs) rest) in
      ap (old_rising_at read low (suc n)) regrouped
      ∙ ap (λ (r : Result (ℕ × List ℕ) CkptError). r >>= after_worker read n)
      (worker.again x.0 (spelled x.1 ++ (flat_map (entry spelled) xs ++ rest)) (rising.0, rising.1))
      ∙ ap (λ (r : Result (X × List ℕ) CkptError). r >>= after_first read n x.0)
      (f.again x.1 (flat_map (entry spelled) xs ++ rest) (All-head (λ x. IsAllowed x.1) x xs all))
      ∙ ap (λ (r : Result (List (ℕ × X) × List ℕ) CkptError). r >>= λ others. the_ok {X = List (ℕ × X) × List ℕ} (x ∷ others.0, others.1))
      (again (x.0 + 1) n xs rest (omega arith) rising.2 (All-tail (λ x. IsAllowed x.1) x xs all))

  takes : (low n : ℕ) (bytes : List ℕ) (xs : List (ℕ × X)) (rest : List ℕ) → IsBytes bytes → old_rising_at read low n bytes ≡ Ok (xs, rest)
      → Takes bytes (flat_map (entry spelled) xs) rest × ((length xs ≡ n) × (IsOldRising low xs × All (λ x. IsAllowed x.1) xs))
  takes low zero bytes xs rest fits e =
      let s = pair_of_ok ([], bytes) (xs, rest) e in
      subst (λ (y : List (ℕ × X) × List ℕ). Takes bytes (flat_map (entry spelled) y.0)
      y.1 × ((length y.0 ≡ 0) × (IsOldRising low y.0 × All (λ x. IsAllowed x.1) y.0)))
      (ap (λ (a : List (ℕ × X)). (a, bytes)) s.0 ∙ ap (λ (r : List ℕ). (xs, r)) s.1)
      (record { parts = refl; rest_fits = fits }, (refl, (tt, All-nil (λ x. IsAllowed x.1))))
  takes low (suc n) bytes xs rest fits e =
      let worker = byte_within_field low OLD_WORKERS (omega arith) in
      let w = bind_ok (byte_within low OLD_WORKERS bytes) (after_worker read n) (xs, rest) e in
      let a = bind_ok (read w.0.1) (after_first read n w.0.0) (xs, rest) w.2 in
      let b = bind_ok (old_rising_at read (w.0.0 + 1) n a.0.1) (λ others. the_ok {X = List (ℕ × X) × List ℕ} ((w.0.0, a.0.0) ∷ others.0, others.1))
      (xs, rest) a.2 in
      let s = pair_of_ok ((w.0.0, a.0.0) ∷ b.0.0, b.0.1) (xs, rest) b.2 in
      let v = worker.takes bytes w.0.0 w.0.1 fits w.1 in
      let t = f.takes w.0.1 a.0.0 a.0.1 v.0.rest_fits a.1 in
      let u = takes (w.0.0 + 1) n a.0.1 b.0.0 b.0.1 t.0.rest_fits b.1 in
      subst (λ (y : List (ℕ × X) × List ℕ). Takes bytes (flat_map (entry spelled) y.0)
      y.1 × ((length y.0 ≡ suc n) × (IsOldRising low y.0 × All (λ x. IsAllowed x.1) y.0)))
      (ap (λ (l : List (ℕ × X)). (l, b.0.1)) s.0 ∙ ap (λ (r : List ℕ). (xs, r)) s.1)
      (Takes-then v.0 (Takes-then t.0 u.0), (ap suc u.1.0, ((v.1.0, v.1.1, u.1.1.0), All-cons (λ x. IsAllowed x.1) (w.0.0, a.0.0) b.0.0 t.1 u.1.1.1)))

pub old_rising_lasts : {X : Type 0} {read : List ℕ → Result (X × List ℕ) CkptError} → Lasts read → (low n : ℕ) → Lasts (old_rising_at read low n)
unfolding old_rising_at
old_rising_lasts {X} {read} l low zero = record { goes_on = λ bytes more. refl }
old_rising_lasts {X} {read} l low (suc n) =
    let m = behind_lasts (λ w bytes. after_worker read n (w, bytes)) (byte_within_lasts low OLD_WORKERS)
    (λ w. behind_lasts (λ x bytes. after_first read n w (x, bytes)) l
    (λ x. behind_lasts (λ xs bytes. the_ok {X = List (ℕ × X) × List ℕ} ((w, x) ∷ xs, bytes)) (old_rising_lasts l (w + 1) n)
    (λ xs. known_lasts ((w, x) ∷ xs)))) in
    record { goes_on = m.goes_on }

-- a byte that was read is within its bounds
within_is : (low high : ℕ) (n m : ℕ × List ℕ) → within low high n ≡ Ok m → (low ≤ m.0) × (m.0 ≤ high)
within_is low high n m e = by (leb low n.0) (leb n.0 high) refl refl e where
  by : (a b : Bool) → leb low n.0 ≡ a → leb n.0 high ≡ b → cond (a && b) (the_ok n) (Err Field) ≡ Ok m → (low ≤ m.0) × (m.0 ≤ high)
  by true true p q e =
      let s = pair_of_ok n m e in
      (subst (λ (k : ℕ). low ≤ k) s.0 (leb-true low n.0 p), subst (λ (k : ℕ). k ≤ high) s.0 (leb-true n.0 high q))
  by true false p q e = absurd cc
  by false b p q e = absurd cc

-- what was read of bytes has rising workers
pub old_rising_of : {X : Type 0} (read : List ℕ → Result (X × List ℕ) CkptError) (low n : ℕ) (bytes : List ℕ) (xs : List (ℕ × X)) (rest : List ℕ)
    → old_rising_at read low n bytes ≡ Ok (xs, rest) → IsRising low xs
unfolding old_rising_at byte_within
old_rising_of {X} read low zero bytes xs rest e = let s = pair_of_ok ([], bytes) (xs, rest) e in subst (IsRising low) s.0 tt
old_rising_of {X} read low (suc n) bytes xs rest e =
    let w = bind_ok (byte_within low OLD_WORKERS bytes) (after_worker read n) (xs, rest) e in
    let a = bind_ok (read w.0.1) (after_first read n w.0.0) (xs, rest) w.2 in
    let b = bind_ok (old_rising_at read (w.0.0 + 1) n a.0.1) (λ others. the_ok {X = List (ℕ × X) × List ℕ} ((w.0.0, a.0.0) ∷ others.0, others.1))
    (xs, rest) a.2 in
    let s = pair_of_ok ((w.0.0, a.0.0) ∷ b.0.0, b.0.1) (xs, rest) b.2 in
    let c = bind_ok (byte_at bytes) (within low OLD_WORKERS) w.0 w.1 in
    let v = within_is low OLD_WORKERS c.0 w.0 c.2 in
    subst (IsRising low) s.0 (v.0, omega (arith, v.1), old_rising_of read (w.0.0 + 1) n a.0.1 b.0.0 b.0.1 b.1)

regroup : {X : Type 0} (front : List X) (x : X) (read : Result (List X × List ℕ) CkptError)
    → with_front front (read >>= λ others. Ok (x ∷ others.0, others.1)) ≡ with_front (front ++ x ∷ []) read
regroup {X} front x (Ok y) = ap (λ (xs : List X). Ok (xs, y.1)) (simp append_assoc)
regroup front x (Err e) = refl

-- ---- what the loop reads

pub old_rising_goes_on : {X : Type 0} (read : List ℕ → Result (X × List ℕ) CkptError) (front : List (ℕ × X)) (least count i : ℕ) (bytes : List ℕ) (w : ℕ)
    (behind : List ℕ) (x : X) (after : List ℕ) (total : Result (List (ℕ × X) × List ℕ) CkptError)
    → i < count → byte_within least OLD_WORKERS bytes ≡ Ok (w, behind) → read behind ≡ Ok (x, after)
    → with_front front (old_rising_at read least (count - i) bytes) ≡ total
    → with_front (front ++ (w, x) ∷ []) (old_rising_at read (w + 1) (count - (i + 1)) after) ≡ total
unfolding old_rising_at
old_rising_goes_on read front least count i bytes w behind x after total lt g h so_far =
    let k : count - i ≡ suc (count - (i + 1)) = omega arith in
    let one : with_front front (old_rising_at read least (count - i) bytes)
    ≡ with_front (front ++ (w, x) ∷ []) (old_rising_at read (w + 1) (count - (i + 1)) after) =
    rw (k, g, h) (regroup front (w, x) (old_rising_at read (w + 1) (count - (i + 1)) after)) in
    sym one ∙ so_far

pub old_rising_ends : {X : Type 0} (read : List ℕ → Result (X × List ℕ) CkptError) (e : CkptError) (front : List (ℕ × X)) (least count i : ℕ) (bytes : List ℕ)
    (total : Result (List (ℕ × X) × List ℕ) CkptError)
    → i < count → (e ≢ OutOfMemory → byte_within least OLD_WORKERS bytes ≡ Err e)
    → with_front front (old_rising_at read least (count - i) bytes) ≡ total → e ≢ OutOfMemory → total ≡ Err e
unfolding old_rising_at
old_rising_ends read e front least count i bytes total lt fails so_far ne =
    let k : count - i ≡ suc (count - (i + 1)) = omega arith in
    let g : byte_within least OLD_WORKERS bytes ≡ Err e = fails ne in
    let one : with_front front (old_rising_at read least (count - i) bytes) ≡ Err e = rw (k, g) refl in
    sym so_far ∙ one

pub old_rising_ends_behind : {X : Type 0} (read : List ℕ → Result (X × List ℕ) CkptError) (e : CkptError) (front : List (ℕ × X)) (least count i : ℕ)
    (bytes : List ℕ) (w : ℕ) (behind : List ℕ) (total : Result (List (ℕ × X) × List ℕ) CkptError)
    → i < count → byte_within least OLD_WORKERS bytes ≡ Ok (w, behind) → (e ≢ OutOfMemory → read behind ≡ Err e)
    → with_front front (old_rising_at read least (count - i) bytes) ≡ total → e ≢ OutOfMemory → total ≡ Err e
unfolding old_rising_at
old_rising_ends_behind read e front least count i bytes w behind total lt g fails so_far ne =
    let k : count - i ≡ suc (count - (i + 1)) = omega arith in
    let h : read behind ≡ Err e = fails ne in
    let one : with_front front (old_rising_at read least (count - i) bytes) ≡ Err e = rw (k, g, h) refl in
    sym so_far ∙ one

pub old_rising_done : {X : Type 0} (read : List ℕ → Result (X × List ℕ) CkptError) (front : List (ℕ × X)) (least count i : ℕ) (bytes : List ℕ)
    (total : Result (List (ℕ × X) × List ℕ) CkptError) → count ≤ i
    → with_front front (old_rising_at read least (count - i) bytes) ≡ total → total ≡ Ok (front, bytes)
unfolding old_rising_at
old_rising_done {X} read front least count i bytes total le so_far =
    let k : count - i ≡ 0 = omega arith in
    let one : with_front front (old_rising_at read least (count - i) bytes) ≡ Ok (front, bytes) =
    rw k (ap (λ (xs : List (ℕ × X)). Ok (xs, bytes)) (append-nil front)) in
    sym so_far ∙ one
