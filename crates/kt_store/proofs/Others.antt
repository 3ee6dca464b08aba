-- What a row in its place is to those that read: of its own key it is the row, of every other key nothing changed.
-- Cited by OtherInstances, OtherNodes.
use Rattle.std.proofs.Common.{◌≡◌, Bool, true, false, cond, List, [], ◌∷◌, ◌++◌, filter, None, Some, refl, sym, ap, ◌∙◌, true≢false}
use Rattle.std.specs.List.{find}
use Rattle.std.proofs.lemmas.Option.{none-some}

find_kept : {A : Type 0} (p a : A → Bool) (rows : List A) → ((row : A) → p row ≡ true → a row ≡ true) → find p (filter a rows) ≡ find p rows
find_kept p a [] h = refl
find_kept p a (x ∷ rows) h = by (p x) refl (a x) refl (find_kept p a rows h)
  where
    by : (b : Bool) → p x ≡ b → (c : Bool) → a x ≡ c → find p (filter a rows) ≡ find p rows
        → find p (cond c (x ∷ filter a rows) (filter a rows)) ≡ cond b (Some x) (find p rows)
    by true is true at rest = rw is refl
    by false is true at rest = rw is rest
    by true is false at rest = absurd (true≢false (sym (h x is) ∙ at))
    by false is false at rest = rest

find_dropped : {A : Type 0} (p a : A → Bool) (rows : List A) → ((row : A) → p row ≡ true → a row ≡ false) → find p (filter a rows) ≡ None
find_dropped p a [] h = refl
find_dropped p a (x ∷ rows) h = by (p x) refl (a x) refl (find_dropped p a rows h)
  where
    by : (b : Bool) → p x ≡ b → (c : Bool) → a x ≡ c → find p (filter a rows) ≡ None → find p (cond c (x ∷ filter a rows) (filter a rows)) ≡ None
    by true is true at rest = absurd (true≢false (sym at ∙ h x is))
    by false is true at rest = rw is rest
    by b is false at rest = rest

find_behind : {A : Type 0} (p : A → Bool) (xs ys : List A) → find p xs ≡ None → find p (xs ++ ys) ≡ find p ys
find_behind p [] ys e = refl
find_behind p (x ∷ xs) ys e = by (p x) e (find_behind p xs ys)
  where
    by : (b : Bool) → cond b (Some x) (find p xs) ≡ None → (find p xs ≡ None → find p (xs ++ ys) ≡ find p ys)
        → cond b (Some x) (find p (xs ++ ys)) ≡ find p ys
    by true e rest = absurd (none-some x (sym e))
    by false e rest = rest e

find_front : {A : Type 0} (p : A → Bool) (xs ys : List A) → find p ys ≡ None → find p (xs ++ ys) ≡ find p xs
find_front p [] ys e = e
find_front p (x ∷ xs) ys e = ap (cond (p x) (Some x)) (find_front p xs ys e)

-- of the rows before the new one, the new one, and the rows behind it, the first that passes is the new one
pub placed_own : {A : Type 0} (p low high : A → Bool) (new : A) (rows : List A) → p new ≡ true → ((row : A) → p row ≡ true → low row ≡ false)
    → find p (filter low rows ++ new ∷ filter high rows) ≡ Some new
placed_own p low high new rows is none =
    let there : find p (new ∷ filter high rows) ≡ Some new = rw is refl in
    find_behind p (filter low rows) (new ∷ filter high rows) (find_dropped p low rows none) ∙ there

-- is the first of all rows that passes, where those that pass come before the new one
pub placed_below : {A : Type 0} (p low high : A → Bool) (new : A) (rows : List A) → p new ≡ false
    → ((row : A) → p row ≡ true → low row ≡ true) → ((row : A) → p row ≡ true → high row ≡ false)
    → find p (filter low rows ++ new ∷ filter high rows) ≡ find p rows
placed_below p low high new rows other kept dropped =
    let none : find p (new ∷ filter high rows) ≡ None = rw other (find_dropped p high rows dropped) in
    find_front p (filter low rows) (new ∷ filter high rows) none ∙ find_kept p low rows kept

-- and where they come behind it
pub placed_above : {A : Type 0} (p low high : A → Bool) (new : A) (rows : List A) → p new ≡ false
    → ((row : A) → p row ≡ true → low row ≡ false) → ((row : A) → p row ≡ true → high row ≡ true)
    → find p (filter low rows ++ new ∷ filter high rows) ≡ find p rows
placed_above p low high new rows other dropped kept =
    let past : find p (new ∷ filter high rows) ≡ find p rows = rw other (find_kept p high rows kept) in
    find_behind p (filter low rows) (new ∷ filter high rows) (find_dropped p low rows dropped) ∙ past
