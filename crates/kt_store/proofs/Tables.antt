-- Rows in rising order: a row that is written in its place, and one that is put behind all others.
-- Cited by Board, Nodes, Numbered, `Contents::settle`, `change::change_row`, `instance_row::instance_row_at`; other
--   crates.
use Rattle.std.proofs.Common.{◌≡◌, ℕ, zero, suc, ◌<◌, ◌≤◌, insert, length, get_or, Bool, true, false, cond, List}
use Rattle.std.proofs.Common.{[], ◌∷◌, ◌++◌, filter, set, All, AllPairs, None, Some, refl, sym, ap, ◌∙◌, arith}
use Rattle.std.specs.Prelude.{nat_lt}
use Rattle.std.specs.List.{find, position, position_or_len, slice_get}
use Rattle.std.proofs.lemmas.List.Elements.{All-cons, All-append, All-filter, filter_passes}
use Rattle.std.proofs.lemmas.List.Folds.{find_at}
use Rattle.std.proofs.lemmas.List.Kept.{AllPairs-cons, AllPairs-filter}
use Rattle.std.proofs.lemmas.Option.{none-some, same_Some, slice_get_past, slice_get_within, get_or_from_slice_get}

-- the rows with this one in its place
abbrev pub placed : {A : Type 0} → (A → A → Bool) → A → List A → List A
placed lt new rows = filter (λ row. lt row new) rows ++ new ∷ filter (λ row. lt new row) rows

all_kept : {A : Type 0} (p : A → Bool) (rows : List A) → All (λ row. p row ≡ true) rows → filter p rows ≡ rows
all_kept p [] all = refl
all_kept p (x ∷ rows) all = rw (all 0 x (omega arith)) (ap (λ l. x ∷ l) (all_kept p rows (λ k d lt. all (suc k) d (omega (arith, lt)))))

none_kept : {A : Type 0} (p : A → Bool) (rows : List A) → All (λ row. p row ≡ false) rows → filter p rows ≡ []
none_kept p [] all = refl
none_kept p (x ∷ rows) all = rw (all 0 x (omega arith)) (none_kept p rows (λ k d lt. all (suc k) d (omega (arith, lt))))

-- an order in which nothing comes before what comes before it
pub record IsOrder {A : Type 0} (lt : A → A → Bool) : Type 0 where
  pub one_way : (a b : A) → lt a b ≡ true → lt b a ≡ false
  pub itself : (a : A) → lt a a ≡ false
  pub through : (a b c : A) → lt a b ≡ true → lt b c ≡ true → lt a c ≡ true

-- a row behind all others
pub placed_last : {A : Type 0} (lt : A → A → Bool) (new : A) (rows : List A) → IsOrder lt → All (λ row. lt row new ≡ true) rows
    → rows ++ new ∷ [] ≡ placed lt new rows
placed_last lt new rows o all =
    sym (ap (λ l. l ++ new ∷ filter (λ row. lt new row) rows) (all_kept (λ row. lt row new) rows all)
    ∙ ap (λ l. rows ++ new ∷ l) (none_kept (λ row. lt new row) rows (λ k d h. o.one_way _ new (all k d h))))

-- a row in the place of one with the same key
pub placed_at : {A : Type 0} (lt : A → A → Bool) (old new : A) (rows : List A) (k : ℕ) → IsOrder lt
    → ((row : A) → lt row new ≡ lt row old) → ((row : A) → lt new row ≡ lt old row)
    → AllPairs (λ a b. lt a b ≡ true) rows → slice_get rows k ≡ Some old → set rows k new ≡ placed lt new rows
placed_at lt old new [] k o same same' sorted at = absurd (none-some old at)
placed_at lt old new (x ∷ rows) zero o same same' sorted at =
    let is : x ≡ old = same_Some x old at in
    let later : All (λ row. lt old row ≡ true) rows =
    λ k d h. ap (λ y. lt y (get_or rows k d)) (sym is) ∙ sorted 0 (suc k) d (omega arith) (omega (arith, h)) in
    rw (same x ∙ ap (λ y. lt y old) is ∙ o.itself old) (rw (same' x ∙ ap (lt old) is ∙ o.itself old)
    (rw (none_kept (λ row. lt row new) rows (λ k d h. same _ ∙ o.one_way old _ (later k d h)))
    (rw (all_kept (λ row. lt new row) rows (λ k d h. same' _ ∙ later k d h)) refl)))
placed_at lt old new (x ∷ rows) (suc k) o same same' sorted at =
    let here : lt x old ≡ true = ap (lt x) (sym (get_or_from_slice_get rows k old old at))
    ∙ sorted 0 (suc k) old (omega arith) (omega (arith, slice_get_within rows k old at)) in
    let rest : set rows k new ≡ placed lt new rows =
    placed_at lt old new rows k o same same' (λ i j d h g. sorted (suc i) (suc j) d (omega (arith, h)) (omega (arith, g))) at in
    rw (same x ∙ here) (rw (same' x ∙ o.one_way x old here) (ap (λ l. x ∷ l) rest))

-- a row among the others: behind those that come before it
pub placed_among : {A : Type 0} (lt : A → A → Bool) (new : A) (rows : List A) (k : ℕ) → IsOrder lt
    → AllPairs (λ a b. lt a b ≡ true) rows → k ≤ length rows
    → ((i : ℕ) (d : A) → i < k → lt (get_or rows i d) new ≡ true) → ((d : A) → k < length rows → lt new (get_or rows k d) ≡ true)
    → insert rows k new ≡ placed lt new rows
placed_among lt new [] zero o sorted inside before after = refl
placed_among lt new [] (suc k) o sorted inside before after = absurd (omega (arith, inside))
placed_among lt new (x ∷ rows) zero o sorted inside before after =
    let here : lt new x ≡ true = after x (omega arith) in
    let later : All (λ row. lt new row ≡ true) rows =
    λ k d h. o.through new x _ here (sorted 0 (suc k) d (omega arith) (omega (arith, h))) in
    rw (o.one_way new x here) (rw here
    (rw (none_kept (λ row. lt row new) rows (λ k d h. o.one_way new _ (later k d h)))
    (rw (all_kept (λ row. lt new row) rows later) refl)))
placed_among lt new (x ∷ rows) (suc k) o sorted inside before after =
    let here : lt x new ≡ true = before 0 x (omega arith) in
    let rest : insert rows k new ≡ placed lt new rows =
    placed_among lt new rows k o (λ i j d h g. sorted (suc i) (suc j) d (omega (arith, h)) (omega (arith, g))) (omega (arith, inside))
    (λ i d h. before (suc i) d (omega (arith, h))) (λ d h. after d (omega (arith, h))) in
    rw here (rw (o.one_way x new here) (ap (λ l. x ∷ l) rest))

pairs_append : {A : Type 0} (R : A → A → Type 0) (xs ys : List A) → AllPairs R xs → AllPairs R ys → All (λ x. All (R x) ys) xs
    → AllPairs R (xs ++ ys)
pairs_append R [] ys h g all = g
pairs_append R (x ∷ xs) ys h g all =
    AllPairs-cons R x (xs ++ ys)
    (All-append (R x) xs ys (λ k d lt. h 0 (suc k) d (omega arith) (omega (arith, lt))) (all 0 x (omega arith)))
    (pairs_append R xs ys (λ i j d lt within. h (suc i) (suc j) d (omega (arith, lt)) (omega (arith, within))) g
    (λ k d lt. all (suc k) d (omega (arith, lt))))

-- rows that rise do so with one more in its place
pub placed_rising : {A : Type 0} (lt : A → A → Bool) (new : A) (rows : List A) → IsOrder lt
    → AllPairs (λ a b. lt a b ≡ true) rows → AllPairs (λ a b. lt a b ≡ true) (placed lt new rows)
placed_rising {A} lt new rows o sorted =
    let R : A → A → Type 0 = λ a b. lt a b ≡ true in
    let behind : All (R new) (filter (λ row. lt new row) rows) = filter_passes (λ row. lt new row) rows in
    pairs_append R (filter (λ row. lt row new) rows) (new ∷ filter (λ row. lt new row) rows)
    (AllPairs-filter R (λ row. lt row new) rows sorted)
    (AllPairs-cons R new (filter (λ row. lt new row) rows) behind (AllPairs-filter R (λ row. lt new row) rows sorted))
    (λ k d h. let low : lt _ new ≡ true = filter_passes (λ row. lt row new) rows k d h in
    All-cons (R _) new (filter (λ row. lt new row) rows) low (λ j e g. o.through _ new _ low (behind j e g)))

-- what is so of all rows and of the one more is so of all then
pub placed_all : {A : Type 0} (P : A → Type 0) (lt : A → A → Bool) (new : A) (rows : List A) → P new → All P rows
    → All P (placed lt new rows)
placed_all P lt new rows h all =
    All-append P (filter (λ row. lt row new) rows) (new ∷ filter (λ row. lt new row) rows) (All-filter (λ row. lt row new) P rows all)
    (All-cons P new (filter (λ row. lt new row) rows) h (All-filter (λ row. lt new row) P rows all))

-- where no row is found, none passes
pub none_passes : {A : Type 0} (p : A → Bool) (rows : List A) → find p rows ≡ None → All (λ row. p row ≡ false) rows
none_passes p [] e = λ k d h. absurd (omega (arith, h))
none_passes {A} p (x ∷ rows) e = by (p x) refl e (none_passes p rows)
  where
    by : (b : Bool) → p x ≡ b → cond b (Some x) (find p rows) ≡ None → (find p rows ≡ None → All (λ row. p row ≡ false) rows)
        → All (λ row. p row ≡ false) (x ∷ rows)
    by true is e rest = absurd (none-some x (sym e))
    by false is e rest = All-cons (λ (row : A). p row ≡ false) x rows is (rest e)

-- where the first row that passes a test stands, and what it is
pub position_found : {A : Type 0} (p : A → Bool) (rows : List A) (k : ℕ) → position p rows ≡ Some k → slice_get rows k ≡ find p rows
position_found p rows k e = by (nat_lt (position_or_len p rows) (length rows)) e
  where
    by : (b : Bool) → cond b (Some (position_or_len p rows)) None ≡ Some k → slice_get rows k ≡ find p rows
    by true e = ap (slice_get rows) (sym (same_Some (position_or_len p rows) k e)) ∙ sym (find_at p rows)
    by false e = absurd (none-some k e)

pub position_none : {A : Type 0} (p : A → Bool) (rows : List A) → position p rows ≡ None → find p rows ≡ None
position_none p rows e = by (nat_lt (position_or_len p rows) (length rows)) refl e
  where
    by : (b : Bool) → nat_lt (position_or_len p rows) (length rows) ≡ b → cond b (Some (position_or_len p rows)) None ≡ None → find p rows ≡ None
    by true is e = absurd (none-some _ (sym e))
    by false is e = find_at p rows ∙ slice_get_past rows (position_or_len p rows) (grind (arith, is))
