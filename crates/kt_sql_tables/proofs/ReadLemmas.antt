-- What the queries give of what the tables hold.
-- Cited by AnswerLemmas, FoundLemmas, OldLemmas, OpenedLemmas.
use Rattle.std.proofs.Common.{◌≡◌, ℕ, ℤ, pos, max, Bool, true, false, cond, List, [], ◌∷◌, map, map-id, filter}
use Rattle.std.proofs.Common.{fold, find, slice_get, option_map, flat_map, refl, sym, ap, ap₂, subst, ◌∙◌, arith, Less}
use Rattle.std.proofs.Common.{int_cmp, Ordering, IsPermutation, None, ◌^◌}
use Rattle.std.specs.Prelude.{nat_le, unwrap_or}
use Rattle.std.proofs.Math.Path.{fun_ext}
use Rattle.std.specs.List.{list_all}
use Rattle.std.specs.Ordering.{is_eq, is_gt}
use Rattle.std.proofs.lemmas.Int.{ints}
use Rattle.sqlite_value.specs.declared.value.Value.TheVariants.{Null}
use Rattle.sqlite_value.specs.declared.keys.Key.{Key}
use Rattle.sqlite_value.specs.Order.{Row, column}
use Rattle.sqlite_value.specs.Order.{value_cmp}
use Rattle.sqlite_value.proofs.OrderLemmas.{value_cmp-Int}
use Rattle.std.proofs.lemmas.List.Sorted.{IsPermutation-trans, IsPermutation-map}
use Rattle.sqlite_trees.specs.Tree.{Trees}
use Rattle.sqlite_sql.specs.Term.{Term, Env, eval_all, holds}
use Rattle.sqlite_sql.specs.Query.{Query, IsAnswer, Output, matches, output, page, inner, end}
use Rattle.std.proofs.lemmas.Option.{slice_get-map}
use Rattle.sqlite_sql.specs.Program.{overlay}
use Rattle.sqlite.specs.State.{State, Shown}
use Rattle.sqlite.proofs.Callers.{reads_as}
use Rattle.sqlite_keyed.specs.Keyed.{IsKeyedBy}
use Rattle.sqlite_keyed.specs.Lists.{sort_by, insert_sorted}
use Rattle.sqlite_keyed.proofs.ListLemmas.{filter_all, all_of, slice_get-filter, map-map, map_same, map-flat_map, flat_map-map}
use Rattle.sqlite_keyed.proofs.ListLemmas.{flat_map_same_on, IsPermutation-flat_map}
use Rattle.sqlite_typed.proofs.TestLemmas.{last_key}
use Rattle.sqlite_typed.proofs.AnswerLemmas.{last_table, at_end, answer_by_keys, answer_sorted, IsNoTie}
use Rattle.kt_sql_tables.specs.Schema.{kt_schema}
use Rattle.kt_sql_tables.proofs.Texts.{Asks, from_table, rising, falling}
use Rattle.kt_sql_tables.proofs.TableRows.{Table, widened}

-- a query without tables of its own reads those of the database
no_others : (db : Trees) → overlay db [] ≡ db
no_others db = fun_ext (λ t. elim (nat_le (2 ^ 31) t) as (λ b. unwrap_or (cond b None None) (db t) ≡ db t) [ true ↦ refl | false ↦ refl ])

-- the rows of a query are an answer to it
pub answered : (sql : List ℕ) (params : Row) (old new : State) (q : Query) (names : List (List ℕ)) → Asks sql q names → old.now.schema ≡ kt_schema
    → (rows : List Row) → Shown sql params old new rows → IsAnswer q old.now.trees params rows
answered sql params old new q names asks has rows h =
    let read = reads_as sql params old new kt_schema has _ asks.is asks.plain asks.own rows h in
    subst (λ db. IsAnswer q db params rows) (no_others old.now.trees) (read.answer Null)

turned : (a b : ℤ) → int_cmp a b ≡ Less → is_eq (int_cmp b a) ≡ false
turned a b h = grind (arith, ints, h)

-- ---- an answer is that of the rows in any order

if_passed : {A B : Type 0} (f : A → B) (b : Bool) (a : A) → map f (cond b (a ∷ []) []) ≡ cond b (f a ∷ []) []
if_passed f true a = refl
if_passed f false a = refl

module _ {X : Type 0} {IsSaid : X → Type 0} (t : Table IsSaid) (db : Trees) (xs : List X) (bag : IsPermutation (map t.given xs) (map t.shown (db t.tree))) where
  abbrev seen : Row → Row
  seen r = widened (t.shown r)

  pub stored_bag : IsPermutation (map t.stored xs) (map seen (db t.tree))
  stored_bag =
      subst (λ l. IsPermutation l (map seen (db t.tree))) (map-map widened t.given xs ∙ map_same (λ x. widened (t.given x)) t.stored t.opens xs)
      (subst (IsPermutation (map widened (map t.given xs))) (map-map widened t.shown (db t.tree)) (IsPermutation-map widened _ _ bag))

  module _ (tests : List Term) (key : Key) (limit : ℤ) (params : Row)
      (alike : (r : Row) → list_all (holds (params ∷ r ∷ [])) tests ≡ list_all (holds (params ∷ seen r ∷ [])) tests) where
    abbrev asked : Query
    asked = from_table t.tree tests t.columns key limit

    abbrev sorted_db : Trees
    sorted_db tree = map t.stored xs

    abbrev outs : Row → List Output
    outs r = cond (list_all (holds (params ∷ r ∷ [])) tests) (output asked (params ∷ r ∷ []) ∷ []) []

    same_outs : (r : Row) → outs r ≡ outs (seen r)
    same_outs r =
        let same = t.shows params r ∙ sym (t.again r) ∙ sym (t.shows params (seen r)) in
        ap₂ (λ b (o : Output). cond b (o ∷ []) []) (alike r) (ap₂ (λ v (row : Row). let out : Output = (v ∷ [], row) in out) (t.first r) same)

    all_outs : (d : Trees) → map (output asked) (matches d tests (inner t.tree end) (params ∷ [])) ≡ flat_map outs (d t.tree)
    all_outs d =
        let below : Row → List Env = λ r. matches d tests end (params ∷ r ∷ []) in
        map-flat_map (output asked) below (d t.tree)
        ∙ flat_map_same_on (λ r. map (output asked) (below r)) outs (λ r. if_passed (output asked) (list_all (holds (params ∷ r ∷ [])) tests) (params ∷ r ∷ []))
        (d t.tree)

    pub answer_of : (rows : List Row) → IsAnswer asked db params rows → IsAnswer asked sorted_db params rows
    answer_of rows answer =
        let mixed = IsPermutation-flat_map outs (map t.stored xs) (map seen (db t.tree)) stored_bag in
        let whole_bag : map (output asked) (matches db tests (inner t.tree end) (params ∷ [])) ≡ flat_map outs (map seen (db t.tree)) =
        all_outs db ∙ flat_map_same_on outs (λ r. outs (seen r)) same_outs (db t.tree) ∙ sym (flat_map-map outs seen (db t.tree)) in
        let kept = answer.distinct ∙ ap (map (output asked)) answer.grouped ∙ whole_bag in
        record {
          staged = matches sorted_db tests (inner t.tree end) (params ∷ []);
          grouped = refl;
          kept = map (output asked) (matches sorted_db tests (inner t.tree end) (params ∷ []));
          distinct = refl;
          ordered = answer.ordered;
          same = IsPermutation-trans _ _ _ (subst (λ l. IsPermutation l (flat_map outs (map seen (db t.tree)))) (sym (all_outs sorted_db)) mixed)
              (subst (λ l. IsPermutation l answer.ordered) kept answer.same);
          sorted = answer.sorted;
          shown = answer.shown;
        }

module _ {X : Type 0} {IsSaid : X → Type 0} (t : Table IsSaid) (db : Trees) (xs : List X) (bag : IsPermutation (map t.given xs) (map t.shown (db t.tree)))
    (rise : IsKeyedBy (λ x. pos (t.number x)) xs) where
  abbrev key_of : X → ℤ
  key_of x = pos (t.number x)

  abbrev in_place : Trees
  in_place tree = map t.stored xs

  by_keys : (a b : X) → value_cmp (column (t.stored a) 0) (column (t.stored b) 0) ≡ int_cmp (key_of a) (key_of b)
  by_keys a b = ap₂ value_cmp (t.numbered a) (t.numbered b) ∙ value_cmp-Int (key_of a) (key_of b)

  -- what a query shows of a row that the table keeps
  showing : (params : Row) (x : X) → eval_all t.columns (params ∷ t.stored x ∷ []) ≡ t.given x
  showing params x = t.shows params (t.stored x) ∙ t.back x

  -- those that pass, in the order of their keys
  pub in_order : (tests : List Term) (limit : ℤ) (params : Row) (p : X → Bool)
      → ((r : Row) → list_all (holds (params ∷ r ∷ [])) tests ≡ list_all (holds (params ∷ widened (t.shown r) ∷ [])) tests)
      → ((x : X) → list_all (holds (params ∷ t.stored x ∷ [])) tests ≡ p x)
      → (rows : List Row) → IsAnswer (from_table t.tree tests t.columns rising limit) db params rows
      → rows ≡ page (from_table t.tree tests t.columns rising limit) params (map t.given (filter p xs))
  in_order tests limit params p alike passes rows answer =
      let q = from_table t.tree tests t.columns rising limit in
      let source = last_table in_place t.tree t.stored key_of xs refl rise (at_end in_place) in
      let sorted = answer_of t db xs bag tests rising limit params alike rows answer in
      sym (map-id rows) ∙ answer_by_keys q in_place params source p passes (λ r. r) t.given (showing params) refl refl
      (λ a b. last_key (by_keys a b)) rows sorted

  -- all of them, the last key first
  pub from_last : (limit : ℤ) (params : Row) (rows : List Row) → IsAnswer (from_table t.tree [] t.columns falling limit) db params rows
      → rows ≡ page (from_table t.tree [] t.columns falling limit) params (map t.given (sort_by (λ a b. int_cmp (key_of b) (key_of a)) xs))
  from_last limit params rows answer =
      let q = from_table t.tree [] t.columns falling limit in
      let source = last_table in_place t.tree t.stored key_of xs refl rise (at_end in_place) in
      let order : X → X → Ordering = λ a b. int_cmp (key_of b) (key_of a) in
      let untied : (a b : X) → int_cmp (key_of a) (key_of b) ≡ Less → IsNoTie (order a b) = λ a b h. record { apart = turned (key_of a) (key_of b) h } in
      let sorted = answer_of t db xs bag [] falling limit params (λ r. refl) rows answer in
      sym (map-id rows) ∙ answer_sorted q in_place params source (λ _. true) (λ _. refl) (λ r. r) t.given (showing params) refl refl order untied
      (λ a b. last_key (by_keys b a)) rows sorted
      ∙ ap (λ l. page q params (map t.given (sort_by order l))) (filter_all (λ _. true) xs (all_of _ (λ _. refl) xs))

-- ---- the first of the rows

pub first_given : {X : Type 0} (given : X → Row) (p : X → Bool) (xs : List X) {rows : List Row} → rows ≡ map given (filter p xs)
    → slice_get rows 0 ≡ option_map given (find p xs)
first_given given p xs h = ap (λ l. slice_get l 0) h ∙ slice_get-map given (filter p xs) 0 ∙ ap (option_map given) (slice_get-filter p xs)

-- of numbers, where the greatest comes first, the first is the greatest
module _ {X : Type 0} (number : X → ℕ) where
  abbrev pub downwards : X → X → Ordering
  downwards a b = int_cmp (pos (number b)) (pos (number a))

  abbrev pub greatest_of : List X → ℕ
  greatest_of xs = fold max 0 (map number xs)

  abbrev pub first_or_0 : List X → ℕ
  first_or_0 [] = 0
  first_or_0 (x ∷ xs) = number x

  fold_max : (ns : List ℕ) (a b : ℕ) → fold max (max a b) ns ≡ max a (fold max b ns)
  fold_max [] a b = refl
  fold_max (n ∷ ns) a b = ap (λ m. fold max m ns) (grind arith) ∙ fold_max ns a (max b n)

  swapped : (n : ℕ) → max 0 n ≡ max n 0
  swapped n = grind arith

  inserted : (x : X) (ys : List X) → first_or_0 (insert_sorted downwards x ys) ≡ max (number x) (first_or_0 ys)
  inserted x [] = grind arith
  inserted x (y ∷ ys) = there (is_gt (downwards x y)) refl
    where
      there : (b : Bool) → is_gt (downwards x y) ≡ b → first_or_0 (cond b (y ∷ insert_sorted downwards x ys) (x ∷ y ∷ ys)) ≡ max (number x) (number y)
      there true is = grind (arith, ints, is)
      there false is = grind (arith, ints, is)

  pub first_is_greatest : (xs : List X) → first_or_0 (sort_by downwards xs) ≡ greatest_of xs
  first_is_greatest [] = refl
  first_is_greatest (x ∷ xs) = inserted x (sort_by downwards xs) ∙ ap (max (number x)) (first_is_greatest xs)
      ∙ sym (ap (λ m. fold max m (map number xs)) (swapped (number x)) ∙ fold_max (map number xs) (number x) 0)
