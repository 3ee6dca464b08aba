-- A board whose rows are numbered from 1 on: what is found by its number, and what is open.
-- Cited by `Contents::next_number`, `Contents::open_instance_of`, `Contents::settle`,
--   `instance_row::add_instance_row`, `instance_row::place_of`.
use Rattle.std.proofs.Common.{◌≡◌, ◌⊎◌, ℕ, zero, suc, ◌+◌, ◌<◌, ◌≤◌, ◌==◌, length, Bool, true, false, not, cond, List, [], ◌∷◌, ◌++◌, filter}
use Rattle.std.proofs.Common.{map, set, get_or, All, AllPairs, Some, None, refl, sym, ap, subst, ◌∙◌, arith, inl, inr}
use Rattle.std.specs.Prelude.{fold, max, nat_lt, ◌&&◌}
use Rattle.std.specs.List.{find, position, position_or_len, slice_get}
use Rattle.std.specs.Option.{option_map}
use Rattle.std.proofs.lemmas.List.{map-append}
use Rattle.std.proofs.lemmas.List.Elements.{filter-append}
use Rattle.std.proofs.lemmas.List.Elements.{All-cons}
use Rattle.std.proofs.lemmas.List.Kept.{AllPairs-cons}
use Rattle.std.proofs.lemmas.Option.{get_or_from_slice_get, none-some, same_Some, slice_get_within}
use Rattle.kt_store.specs.Content.{greatest}
use Rattle.kt_tuple.specs.declared.node.NodeId.{NodeId}
use Rattle.kt_tuple.specs.Node.{node_eq}
use Rattle.kt_store.specs.declared.instance_row.Opened.{Opened}
use Rattle.kt_store.specs.declared.rows.InstanceRow.{InstanceRow}
use Rattle.kt_store.specs.Verdict.{is_open, verdict_from}
use Rattle.kt_store.specs.Proper.{IsBoard}
use Rattle.kt_store.specs.auxiliary.Rising.{IsNumberedFrom, opened, opened_of}
use Rattle.kt_store.proofs.Tables.{position_found}

behind : (x : InstanceRow) (rows : List InstanceRow) (n : ℕ) → IsNumberedFrom n (x ∷ rows) → IsNumberedFrom (suc n) rows
behind x rows n from k row at = let is : row.instance ≡ n + suc k + 1 = from (suc k) row at in omega (arith, is)

one_more : (k : ℕ) → 1 + k ≡ suc k
one_more k = omega arith

-- where the row of a number stands
pub there : (rows : List InstanceRow) (n k i : ℕ) → IsNumberedFrom n rows → k < length rows → i ≡ n + k + 1
    → position_or_len (λ (row : InstanceRow). row.instance == i) rows ≡ k
there [] n k i from within is = absurd (omega (arith, within))
there (x ∷ rows) n zero i from within is =
    let first : x.instance ≡ n + 0 + 1 = from 0 x refl in
    let here : (x.instance == i) ≡ true = grind (arith, first, is) in rw here refl
there (x ∷ rows) n (suc k) i from within is =
    let first : x.instance ≡ n + 0 + 1 = from 0 x refl in
    let here : (x.instance == i) ≡ false = grind (arith, first, is) in
    rw here (ap (λ (m : ℕ). 1 + m) (there rows (suc n) k i (behind x rows n from) (omega (arith, within)) (omega (arith, is))) ∙ one_more k)

-- a number outside has no row
pub outside : (rows : List InstanceRow) (n i : ℕ) → IsNumberedFrom n rows → (i ≤ n) ⊎ (n + length rows < i)
    → position_or_len (λ (row : InstanceRow). row.instance == i) rows ≡ length rows
outside [] n i from out = refl
outside (x ∷ rows) n i from (inl low) =
    let first : x.instance ≡ n + 0 + 1 = from 0 x refl in
    let here : (x.instance == i) ≡ false = grind (arith, first, low) in
    rw here (ap (λ (m : ℕ). 1 + m) (outside rows (suc n) i (behind x rows n from) (inl (omega (arith, low)))) ∙ one_more (length rows))
outside (x ∷ rows) n i from (inr high) =
    let first : x.instance ≡ n + 0 + 1 = from 0 x refl in
    let here : (x.instance == i) ≡ false = grind (arith, first, high) in
    rw here (ap (λ (m : ℕ). 1 + m) (outside rows (suc n) i (behind x rows n from) (inr (omega (arith, high)))) ∙ one_more (length rows))

-- the place of a number, as the code computes it
pub place_there : (rows : List InstanceRow) (k i : ℕ) → IsNumberedFrom 0 rows → k < length rows → i ≡ k + 1
    → Some k ≡ position (λ (row : InstanceRow). row.instance == i) rows
place_there rows k i from within is =
    let low : nat_lt k (length rows) ≡ true = grind (arith, within) in
    let taken : cond (nat_lt k (length rows)) (Some k) None ≡ Some k = rw low refl in
    sym (ap (λ (m : ℕ). cond (nat_lt m (length rows)) (Some m) None) (there rows 0 k i from within (omega (arith, is))) ∙ taken)

pub place_none : (rows : List InstanceRow) (i : ℕ) → IsNumberedFrom 0 rows → (i ≤ 0) ⊎ (length rows < i)
    → None ≡ position (λ (row : InstanceRow). row.instance == i) rows
place_none rows i from out =
    let low : nat_lt (length rows) (length rows) ≡ false = grind arith in
    let taken : cond (nat_lt (length rows) (length rows)) (Some (length rows)) None ≡ None = rw low refl in
    sym (ap (λ (m : ℕ). cond (nat_lt m (length rows)) (Some m) None) (outside rows 0 i from (past out)) ∙ taken)
  where
    past : (i ≤ 0) ⊎ (length rows < i) → (i ≤ 0) ⊎ (0 + length rows < i)
    past (inl low) = inl low
    past (inr high) = inr (omega (arith, high))

-- the greatest number is that of the last row
pub greatest_numbered : (rows : List InstanceRow) (n : ℕ) → IsNumberedFrom n rows
    → fold max n (map (λ (row : InstanceRow). row.instance) rows) ≡ n + length rows
greatest_numbered [] n from = omega arith
greatest_numbered (x ∷ rows) n from =
    let first : x.instance ≡ n + 0 + 1 = from 0 x refl in
    let top : max n x.instance ≡ suc n = grind (arith, first) in
    let rest : fold max (suc n) (map (λ (row : InstanceRow). row.instance) rows) ≡ suc n + length rows =
    greatest_numbered rows (suc n) (behind x rows n from) in
    let all : suc n + length rows ≡ n + suc (length rows) = omega arith in
    ap (λ (a : ℕ). fold max a (map (λ (row : InstanceRow). row.instance) rows)) top ∙ rest ∙ all

alone : (new : InstanceRow) (n : ℕ) → new.instance ≡ n + 0 + 1 → IsNumberedFrom n (new ∷ [])
alone new n is zero row at = ap (λ (r : InstanceRow). r.instance) (sym (same_Some new row at)) ∙ is
alone new n is (suc k) row at = absurd (none-some row at)

-- the numbers go on with the next row
pub next_numbered : (new : InstanceRow) (rows : List InstanceRow) (n : ℕ) → IsNumberedFrom n rows → new.instance ≡ n + length rows + 1
    → IsNumberedFrom n (rows ++ new ∷ [])
next_numbered new [] n from is k row at = alone new n is k row at
next_numbered new (x ∷ rows) n from is zero row at = from 0 row at
next_numbered new (x ∷ rows) n from is (suc k) row at =
    let rest : row.instance ≡ suc n + k + 1 =
    next_numbered new rows (suc n) (behind x rows n from) (omega (arith, is)) k row at in omega (arith, rest)

-- a row that keeps its number
pub set_numbered : (rows : List InstanceRow) (n k : ℕ) (old new : InstanceRow) → IsNumberedFrom n rows → slice_get rows k ≡ Some old
    → new.instance ≡ old.instance → IsNumberedFrom n (set rows k new)
set_numbered [] n k old new from at same j row is = absurd (none-some old at)
set_numbered (x ∷ rows) n zero old new from at same zero row is =
    ap (λ (r : InstanceRow). r.instance) (sym (same_Some new row is)) ∙ same ∙ from 0 old at
set_numbered (x ∷ rows) n zero old new from at same (suc j) row is = from (suc j) row is
set_numbered (x ∷ rows) n (suc k) old new from at same zero row is = from 0 row is
set_numbered (x ∷ rows) n (suc k) old new from at same (suc j) row is =
    let rest : row.instance ≡ suc n + j + 1 = set_numbered rows (suc n) k old new (behind x rows n from) at same j row is in
    omega (arith, rest)

found_passes : (l : List InstanceRow) (i : ℕ) (row : InstanceRow) → find (λ (row : InstanceRow). row.instance == i) l ≡ Some row
    → (row.instance == i) ≡ true
found_passes [] i row e = absurd (none-some row e)
found_passes (x ∷ l) i row e = by (x.instance == i) refl e (found_passes l i row)
  where
    by : (b : Bool) → (x.instance == i) ≡ b → cond b (Some x) (find (λ (row : InstanceRow). row.instance == i) l) ≡ Some row
        → (find (λ (row : InstanceRow). row.instance == i) l ≡ Some row → (row.instance == i) ≡ true) → (row.instance == i) ≡ true
    by true is e rest = ap (λ (r : InstanceRow). r.instance == i) (sym (same_Some x row e)) ∙ is
    by false is e rest = rest e

-- the row of a number has this number
pub found_number : (rows : List InstanceRow) (k i : ℕ) (row : InstanceRow) → position (λ (row : InstanceRow). row.instance == i) rows ≡ Some k
    → slice_get rows k ≡ Some row → row.instance ≡ i
found_number rows k i row place at =
    let is : find (λ (row : InstanceRow). row.instance == i) rows ≡ Some row =
    sym (position_found (λ (row : InstanceRow). row.instance == i) rows k place) ∙ at in
    let passes : (row.instance == i) ≡ true = found_passes rows i row is in
    grind (arith, passes)

all_set : {A : Type 0} (P : A → Type 0) (rows : List A) (k : ℕ) (new : A) → All P rows → P new → All P (set rows k new)
all_set P [] k new all h = all
all_set P (x ∷ rows) zero new all h = All-cons P new rows h (λ k d lt. all (suc k) d (omega (arith, lt)))
all_set P (x ∷ rows) (suc k) new all h =
    All-cons P x (set rows k new) (all 0 x (omega arith)) (all_set P rows k new (λ k d lt. all (suc k) d (omega (arith, lt))) h)

pairs_set : {A : Type 0} (R : A → A → Type 0) (rows : List A) (k : ℕ) (old new : A) → AllPairs R rows → slice_get rows k ≡ Some old
    → ((x : A) → R x old → R x new) → ((x : A) → R old x → R new x) → AllPairs R (set rows k new)
pairs_set R [] k old new pairs at left right = pairs
pairs_set {A} R (x ∷ rows) zero old new pairs at left right =
    AllPairs-cons R new rows
    (λ j d lt. right _ (subst (λ (y : A). R y (get_or rows j d)) (same_Some x old at) (pairs 0 (suc j) d (omega arith) (omega (arith, lt)))))
    (λ i j d lt within. pairs (suc i) (suc j) d (omega (arith, lt)) (omega (arith, within)))
pairs_set {A} R (x ∷ rows) (suc k) old new pairs at left right =
    let first : All (R x) rows = λ j d lt. pairs 0 (suc j) d (omega arith) (omega (arith, lt)) in
    let here : R x old = subst (R x) (get_or_from_slice_get rows k old old at) (first k old (slice_get_within rows k old at)) in
    AllPairs-cons R x (set rows k new) (all_set (R x) rows k new first (left x here))
    (pairs_set R rows k old new (λ i j d lt within. pairs (suc i) (suc j) d (omega (arith, lt)) (omega (arith, within))) at left right)

-- a board stays one where a row keeps its number
pub board_set : (rows : List InstanceRow) (k : ℕ) (old new : InstanceRow) → IsBoard rows → slice_get rows k ≡ Some old
    → new.instance ≡ old.instance → IsBoard (set rows k new)
board_set rows k old new is at same = record {
  rising = pairs_set (λ (a b : InstanceRow). nat_lt a.instance b.instance ≡ true) rows k old new is.rising at
      (λ x h. ap (nat_lt x.instance) same ∙ h) (λ x h. ap (λ (n : ℕ). nat_lt n x.instance) same ∙ h);
  within = all_set (λ (row : InstanceRow). row.instance ≤ greatest) rows k new is.within
      (subst (λ (n : ℕ). n ≤ greatest) (ap (λ (n : ℕ). n) (sym same)) (old_within is.within));
}
  where
    old_within : All (λ (row : InstanceRow). row.instance ≤ greatest) rows → old.instance ≤ greatest
    old_within all = subst (λ (r : InstanceRow). r.instance ≤ greatest) (get_or_from_slice_get rows k old old at)
        (all k old (slice_get_within rows k old at))

-- an instance that is begun is open, and behind all others
pub opened_next : (new : InstanceRow) (rows : List InstanceRow) → is_open new.verdict ≡ true
    → opened (rows ++ new ∷ []) ≡ opened rows ++ opened_of new ∷ []
opened_next new rows h =
    ap (map opened_of) (filter-append (λ (row : InstanceRow). is_open row.verdict) rows (new ∷ []))
    ∙ map-append opened_of (filter (λ (row : InstanceRow). is_open row.verdict) rows)
    (filter (λ (row : InstanceRow). is_open row.verdict) (new ∷ []))
    ∙ rw h refl

-- what a node has open is found among those that are open
pub open_found : (p : NodeId) (rows : List InstanceRow)
    → option_map (λ (o : Opened). o.instance) (find (λ (o : Opened). node_eq o.initiator p) (opened rows))
    ≡ option_map (λ (row : InstanceRow). row.instance)
    (find (λ (row : InstanceRow). node_eq row.initiator p && is_open row.verdict) rows)
open_found p [] = refl
open_found p (x ∷ rows) = by (is_open x.verdict) (node_eq x.initiator p) refl refl (open_found p rows)
  where
    Found : List InstanceRow → Type 0
    Found l = option_map (λ (o : Opened). o.instance) (find (λ (o : Opened). node_eq o.initiator p) (opened l))
        ≡ option_map (λ (row : InstanceRow). row.instance)
        (find (λ (row : InstanceRow). node_eq row.initiator p && is_open row.verdict) l)

    by : (a b : Bool) → is_open x.verdict ≡ a → node_eq x.initiator p ≡ b → Found rows → Found (x ∷ rows)
    by true true h g e = rw h (rw g refl)
    by true false h g e = rw h (rw g e)
    by false true h g e = rw h (rw g e)
    by false false h g e = rw h (rw g e)

closed : (agreed : Bool) → is_open (verdict_from agreed) ≡ false
closed true = refl
closed false = refl

-- a number before all of them takes none away
others : (rows : List InstanceRow) (n i : ℕ) → IsNumberedFrom n rows → i ≤ n
    → filter (λ (o : Opened). not (o.instance == i)) (opened rows) ≡ opened rows
others [] n i from low = refl
others (x ∷ rows) n i from low = by (is_open x.verdict) refl (others rows (suc n) i (behind x rows n from) (omega (arith, low)))
  where
    Stays : List InstanceRow → Type 0
    Stays l = filter (λ (o : Opened). not (o.instance == i)) (opened l) ≡ opened l

    first : x.instance ≡ n + 0 + 1
    first = from 0 x refl

    here : (x.instance == i) ≡ false
    here = grind (arith, first, low)

    by : (b : Bool) → is_open x.verdict ≡ b → Stays rows → Stays (x ∷ rows)
    by true h e = rw h (rw here (ap (λ l. opened_of x ∷ l) e))
    by false h e = rw h e

-- an instance that gets its verdict is open no more
pub opened_settled : (rows : List InstanceRow) (n k i : ℕ) (row : InstanceRow) (agreed : Bool) → IsNumberedFrom n rows
    → slice_get rows k ≡ Some row → i ≡ n + k + 1
    → opened (set rows k record row { verdict = verdict_from agreed }) ≡ filter (λ (o : Opened). not (o.instance == i)) (opened rows)
opened_settled [] n k i row agreed from at is = absurd (none-some row at)
opened_settled (x ∷ rows) n zero i row agreed from at is =
    rw (closed agreed) (by (is_open x.verdict) refl (sym (others rows (suc n) i (behind x rows n from) (omega (arith, is)))))
  where
    first : x.instance ≡ n + 0 + 1
    first = from 0 x refl

    here : (x.instance == i) ≡ true
    here = grind (arith, first, is)

    by : (b : Bool) → is_open x.verdict ≡ b → opened rows ≡ filter (λ (o : Opened). not (o.instance == i)) (opened rows)
        → opened rows ≡ filter (λ (o : Opened). not (o.instance == i)) (opened (x ∷ rows))
    by true h e = rw h (rw here e)
    by false h e = rw h e
opened_settled (x ∷ rows) n (suc k) i row agreed from at is =
    by (is_open x.verdict) refl (opened_settled rows (suc n) k i row agreed (behind x rows n from) at (omega (arith, is)))
  where
    first : x.instance ≡ n + 0 + 1
    first = from 0 x refl

    here : (x.instance == i) ≡ false
    here = grind (arith, first, is)

    rest : List InstanceRow
    rest = set rows k record row { verdict = verdict_from agreed }

    by : (b : Bool) → is_open x.verdict ≡ b → opened rest ≡ filter (λ (o : Opened). not (o.instance == i)) (opened rows)
        → opened (x ∷ rest) ≡ filter (λ (o : Opened). not (o.instance == i)) (opened (x ∷ rows))
    by true h e = rw h (rw here (ap (λ l. opened_of x ∷ l) e))
    by false h e = rw h e
