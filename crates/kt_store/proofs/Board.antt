-- A verdict that is written on the board.
-- Cited by `Contents::next_number`, `Contents::settle`, `instance_row::add_instance_row`; other crates.
use Rattle.std.proofs.Common.{◌≡◌, ℕ, Bool, true, List, set, AllPairs, [], ◌∷◌, ◌++◌, ◌+◌, get_or, suc, ◌≤◌, All, map, None, Some, refl, ap, ◌∙◌, arith}
use Rattle.std.specs.Prelude.{nat_lt, fold, max}
use Rattle.std.specs.List.{slice_get}
use Rattle.std.proofs.lemmas.List.Elements.{All-cons, All-push}
use Rattle.std.proofs.lemmas.List.Quantifiers.{all_pairs_push}
use Rattle.kt_store.specs.declared.rows.InstanceRow.{InstanceRow}
use Rattle.kt_store.specs.Verdict.{verdict_from}
use Rattle.kt_store.specs.Content.{Content, greatest, instance_row}
use Rattle.kt_store.specs.Proper.{IsBoard}
use Rattle.kt_store.specs.Changes.{decided, with_instance_row}
use Rattle.kt_store.proofs.Tables.{IsOrder, placed_at, placed_last}

pub by_number_order : IsOrder (λ (a b : InstanceRow). nat_lt a.instance b.instance)
by_number_order = record { one_way = λ a b h. grind (arith, h); itself = λ a. grind arith; through = λ a b c h g. grind (arith, h, g) }

pub decided_there : (c : Content) (i : ℕ) (agreed : Bool) (k : ℕ) (row : InstanceRow)
    → AllPairs (λ (a b : InstanceRow). nat_lt a.instance b.instance ≡ true) c.board
    → instance_row c i ≡ Some row → slice_get c.board k ≡ Some row
    → record c { board = set c.board k record row { verdict = verdict_from agreed } } ≡ decided i agreed c
decided_there c i agreed k row rising found at =
    ap (λ (b : List InstanceRow). let d : Content = record c { board = b } in d)
    (placed_at (λ (a b : InstanceRow). nat_lt a.instance b.instance) row record row { verdict = verdict_from agreed } c.board k by_number_order (λ r. refl)
    (λ r. refl) rising at)
    ∙ rw found refl

pub not_begun : (c : Content) (i : ℕ) (agreed : Bool) → instance_row c i ≡ None → c ≡ decided i agreed c
not_begun c i agreed none = rw none refl

-- the greatest of numbers within a bound is within it
pub greatest_within : (rows : List InstanceRow) (a n : ℕ) → a ≤ n → All (λ (row : InstanceRow). row.instance ≤ n) rows
    → fold max a (map (λ (row : InstanceRow). row.instance) rows) ≤ n
greatest_within [] a n h all = h
greatest_within (x ∷ rows) a n h all =
    greatest_within rows (max a x.instance) n (grind (arith, h, all 0 x (omega arith))) (λ k d lt. all (suc k) d (omega (arith, lt)))

-- the greatest of numbers is none below them, and none below where it began
above_start : (rows : List InstanceRow) (a : ℕ) → a ≤ fold max a (map (λ (row : InstanceRow). row.instance) rows)
above_start [] a = omega arith
above_start (x ∷ rows) a = let rest : max a x.instance ≤ fold max (max a x.instance) (map (λ (row : InstanceRow). row.instance) rows) =
    above_start rows (max a x.instance) in grind (arith, rest)

pub above_all : (rows : List InstanceRow) (a : ℕ) → All (λ (row : InstanceRow). row.instance ≤ fold max a (map (λ (row : InstanceRow). row.instance) rows)) rows
above_all [] a = λ k d h. absurd (omega (arith, h))
above_all (x ∷ rows) a =
    let n : ℕ = fold max (max a x.instance) (map (λ (row : InstanceRow). row.instance) rows) in
    let rest : max a x.instance ≤ n = above_start rows (max a x.instance) in
    All-cons (λ (row : InstanceRow). row.instance ≤ n) x rows (grind (arith, rest)) (above_all rows (max a x.instance))

below_next : (new : InstanceRow) (rows : List InstanceRow) → new.instance ≡ fold max 0 (map (λ (row : InstanceRow). row.instance) rows) + 1
    → All (λ (row : InstanceRow). nat_lt row.instance new.instance ≡ true) rows
below_next new rows next = λ k d h. let low : (get_or rows k d).instance ≤ fold max 0 (map (λ (row : InstanceRow). row.instance) rows) =
    above_all rows 0 k d h in grind (arith, low, next)

-- the next instance stands behind all others
pub instance_row_last : (new : InstanceRow) (rows : List InstanceRow) → new.instance ≡ fold max 0 (map (λ (row : InstanceRow). row.instance) rows) + 1
    → rows ++ new ∷ [] ≡ with_instance_row new rows
instance_row_last new rows next = placed_last (λ (a b : InstanceRow). nat_lt a.instance b.instance) new rows by_number_order (below_next new rows next)

-- the board stays one with it
pub still_board : (new : InstanceRow) (rows : List InstanceRow) → new.instance ≡ fold max 0 (map (λ (row : InstanceRow). row.instance) rows) + 1
    → new.instance ≤ greatest → IsBoard rows → IsBoard (rows ++ new ∷ [])
still_board new rows next within is = record {
  rising = all_pairs_push (λ (a b : InstanceRow). nat_lt a.instance b.instance ≡ true) rows new is.rising (below_next new rows next);
  within = All-push (λ (row : InstanceRow). row.instance ≤ greatest) rows new is.within within;
}
