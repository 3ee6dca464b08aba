-- Values read one after the other, as a loop does.
-- Cited by Checkpoints, OldCheckpoints, OldRising, Peers, `act_bytes::acts_at`, `act_bytes::push_acts`,
--   `encode::push_peers`, `entry::push_each`, `entry::rising_at`, `list::list_at`, `old_parts::old_list_at`,
--   `old_state::old_rising_at`, `shard::push_tuples`, `tuple::push_places`, `tuple::push_values`,
--   `worker::push_fields`.
use Rattle.std.proofs.Common.{length, get_or, take, ◌≡◌, ◌≢◌, ℕ, suc, ◌-◌, ◌+◌, ◌≤◌, ◌<◌, List, [], ◌∷◌, ◌++◌, Result, Ok, Err, refl, sym, ap, ◌∙◌}
use Rattle.std.proofs.Common.{append_assoc, arith}
use Rattle.std.proofs.lemmas.List.{append-nil, flat_map_more, take_more}
use Rattle.std.specs.List.{flat_map}
use Rattle.kt_ckpt.specs.declared.error.CkptError.{CkptError}
use Rattle.kt_ckpt.specs.declared.error.CkptError.TheVariants.{OutOfMemory}
use Rattle.kt_ckpt.specs.Reading.{◌>>=◌, byte_within, list_at, rising_at}
use Rattle.kt_tuple.specs.declared.node.TheConstants.{MAX_WORKERS}

-- what was read before, and what is still read
abbrev pub with_front : {X : Type 0} → List X → Result (List X × List ℕ) CkptError → Result (List X × List ℕ) CkptError
with_front front read = read >>= λ x. Ok (front ++ x.0, x.1)

regroup : {X : Type 0} (front : List X) (x : X) (read : Result (List X × List ℕ) CkptError)
    → with_front front (read >>= λ others. Ok (x ∷ others.0, others.1)) ≡ with_front (front ++ x ∷ []) read
regroup {X} front x (Ok y) = ap (λ (xs : List X). Ok (xs, y.1)) (simp append_assoc)
regroup front x (Err e) = refl

pub begins : {X : Type 0} (read : Result (List X × List ℕ) CkptError) → with_front [] read ≡ read
begins (Ok y) = refl
begins (Err e) = refl

pub goes_on : {X : Type 0} (read : List ℕ → Result (X × List ℕ) CkptError) (front : List X) (count i : ℕ) (bytes : List ℕ) (x : X) (after : List ℕ)
    (total : Result (List X × List ℕ) CkptError) → i < count → read bytes ≡ Ok (x, after)
    → with_front front (list_at read (count - i) bytes) ≡ total → with_front (front ++ x ∷ []) (list_at read (count - (i + 1)) after) ≡ total
unfolding list_at
goes_on read front count i bytes x after total lt h so_far =
    let k : count - i ≡ suc (count - (i + 1)) = omega arith in
    let one : with_front front (list_at read (count - i) bytes) ≡ with_front (front ++ x ∷ []) (list_at read (count - (i + 1)) after) =
    rw (k, h) (regroup front x (list_at read (count - (i + 1)) after)) in
    sym one ∙ so_far

pub ends : {X : Type 0} (read : List ℕ → Result (X × List ℕ) CkptError) (e : CkptError) (front : List X) (count i : ℕ) (bytes : List ℕ)
    (total : Result (List X × List ℕ) CkptError) → i < count → (e ≢ OutOfMemory → read bytes ≡ Err e)
    → with_front front (list_at read (count - i) bytes) ≡ total → e ≢ OutOfMemory → total ≡ Err e
unfolding list_at
ends read e front count i bytes total lt fails so_far ne =
    let k : count - i ≡ suc (count - (i + 1)) = omega arith in
    let h : read bytes ≡ Err e = fails ne in
    let one : with_front front (list_at read (count - i) bytes) ≡ Err e = rw (k, h) refl in
    sym so_far ∙ one

pub is_done : {X : Type 0} (read : List ℕ → Result (X × List ℕ) CkptError) (front : List X) (count i : ℕ) (bytes : List ℕ)
    (total : Result (List X × List ℕ) CkptError) → count ≤ i → with_front front (list_at read (count - i) bytes) ≡ total → total ≡ Ok (front, bytes)
unfolding list_at
is_done {X} read front count i bytes total le so_far =
    let k : count - i ≡ 0 = omega arith in
    let one : with_front front (list_at read (count - i) bytes) ≡ Ok (front, bytes) = rw k (ap (λ (xs : List X). Ok (xs, bytes)) (append-nil front)) in
    sym so_far ∙ one

-- one text behind another
pub both_appended : (old now new first second : List ℕ) → now ≡ old ++ first → new ≡ now ++ second → new ≡ old ++ (first ++ second)
both_appended old now new first second e f = f ∙ ap (λ (t : List ℕ). t ++ second) e ∙ append_assoc old first second

-- one more is appended
pub appended : {X : Type 0} (spelled : X → List ℕ) (xs : List X) (i : ℕ) (x : X) (old now new : List ℕ) → i < length xs → x ≡ get_or xs i x
    → now ≡ old ++ flat_map spelled (take i xs) → new ≡ now ++ spelled x → new ≡ old ++ flat_map spelled (take (i + 1) xs)
appended {X} spelled xs i x old now new lt is before e =
    e ∙ ap (λ (t : List ℕ). t ++ spelled x) before ∙ flat_map_more spelled old (take i xs) x
    ∙ ap (λ (y : X). old ++ flat_map spelled (take i xs ++ y ∷ [])) is ∙ ap (λ (ys : List X). old ++ flat_map spelled ys) (sym (take_more xs i x lt))

-- ---- the same with rising workers

pub rising_goes_on : {X : Type 0} (read : List ℕ → Result (X × List ℕ) CkptError) (front : List (ℕ × X)) (least count i : ℕ) (bytes : List ℕ) (w : ℕ)
    (behind : List ℕ) (x : X) (after : List ℕ) (total : Result (List (ℕ × X) × List ℕ) CkptError)
    → i < count → byte_within least MAX_WORKERS bytes ≡ Ok (w, behind) → read behind ≡ Ok (x, after)
    → with_front front (rising_at read least (count - i) bytes) ≡ total
    → with_front (front ++ (w, x) ∷ []) (rising_at read (w + 1) (count - (i + 1)) after) ≡ total
unfolding rising_at
rising_goes_on read front least count i bytes w behind x after total lt g h so_far =
    let k : count - i ≡ suc (count - (i + 1)) = omega arith in
    let one : with_front front (rising_at read least (count - i) bytes)
    ≡ with_front (front ++ (w, x) ∷ []) (rising_at read (w + 1) (count - (i + 1)) after) =
    rw (k, g, h) (regroup front (w, x) (rising_at read (w + 1) (count - (i + 1)) after)) in
    sym one ∙ so_far

pub rising_ends : {X : Type 0} (read : List ℕ → Result (X × List ℕ) CkptError) (e : CkptError) (front : List (ℕ × X)) (least count i : ℕ) (bytes : List ℕ)
    (total : Result (List (ℕ × X) × List ℕ) CkptError)
    → i < count → (e ≢ OutOfMemory → byte_within least MAX_WORKERS bytes ≡ Err e)
    → with_front front (rising_at read least (count - i) bytes) ≡ total → e ≢ OutOfMemory → total ≡ Err e
unfolding rising_at
rising_ends read e front least count i bytes total lt fails so_far ne =
    let k : count - i ≡ suc (count - (i + 1)) = omega arith in
    let g : byte_within least MAX_WORKERS bytes ≡ Err e = fails ne in
    let one : with_front front (rising_at read least (count - i) bytes) ≡ Err e = rw (k, g) refl in
    sym so_far ∙ one

pub rising_ends_behind : {X : Type 0} (read : List ℕ → Result (X × List ℕ) CkptError) (e : CkptError) (front : List (ℕ × X)) (least count i : ℕ)
    (bytes : List ℕ) (w : ℕ) (behind : List ℕ) (total : Result (List (ℕ × X) × List ℕ) CkptError)
    → i < count → byte_within least MAX_WORKERS bytes ≡ Ok (w, behind) → (e ≢ OutOfMemory → read behind ≡ Err e)
    → with_front front (rising_at read least (count - i) bytes) ≡ total → e ≢ OutOfMemory → total ≡ Err e
unfolding rising_at
rising_ends_behind read e front least count i bytes w behind total lt g fails so_far ne =
    let k : count - i ≡ suc (count - (i + 1)) = omega arith in
    let h : read behind ≡ Err e = fails ne in
    let one : with_front front (rising_at read least (count - i) bytes) ≡ Err e = rw (k, g, h) refl in
    sym so_far ∙ one

pub rising_done : {X : Type 0} (read : List ℕ → Result (X × List ℕ) CkptError) (front : List (ℕ × X)) (least count i : ℕ) (bytes : List ℕ)
    (total : Result (List (ℕ × X) × List ℕ) CkptError) → count ≤ i
    → with_front front (rising_at read least (count - i) bytes) ≡ total → total ≡ Ok (front, bytes)
unfolding rising_at
rising_done {X} read front least count i bytes total le so_far =
    let k : count - i ≡ 0 = omega arith in
    let one : with_front front (rising_at read least (count - i) bytes) ≡ Ok (front, bytes) =
    rw k (ap (λ (xs : List (ℕ × X)). Ok (xs, bytes)) (append-nil front)) in
    sym so_far ∙ one
