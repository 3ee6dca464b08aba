-- What a write of one row makes of what the tables hold.
-- Cited by AnswerLemmas, MadeLemmas.
use Rattle.std.proofs.Common.{◌≡◌, ◌≢◌, inl, inr, ℕ, ℤ, pos, ltb, Bool, true, false, not, cond, List, [], ◌∷◌, map, filter, Option}
use Rattle.std.proofs.Common.{None, Some, Ok, refl, sym, ap, ap₂, subst, subst₂, ◌∙◌, arith, Ordering, Less, Equal, Greater, int_cmp}
use Rattle.std.proofs.Common.{IsPermutation}
use Rattle.std.specs.Prelude.{IsTrue}
use Rattle.std.specs.List.{AllByRecursion}
use Rattle.std.specs.Ordering.{match_ordering, int_eq, is_eq}
use Rattle.std.proofs.lemmas.Bool.{not-true}
use Rattle.std.proofs.lemmas.Int.{ints}
use Rattle.std.proofs.lemmas.List.Sorted.{IsPermutation-refl, IsPermutation-trans, IsPermutation-sym, IsPermutation-cons, IsPermutation-middle}
use Rattle.std.proofs.lemmas.List.Sorted.{IsPermutation-map}
use Rattle.sqlite.specs.declared.types.Value.{Value}
use Rattle.sqlite.specs.declared.types.Value.TheVariants.{Null, Int}
use Rattle.sqlite.specs.Order.{Row}
use Rattle.sqlite_value.specs.Order.{value_cmp}
use Rattle.sqlite.specs.Kind.TheVariants.{Integer}
use Rattle.sqlite.specs.Ops.{unary}
use Rattle.sqlite_trees.specs.Tree.{Trees, IsAscending, rowid, has_rowid, put_row, without_rowid}
use Rattle.sqlite_catalog.specs.Listing.{IsSound}
use Rattle.sqlite.specs.Cast.{cast}
use Rattle.sqlite_rules.specs.Cast.{cast_row}
use Rattle.sqlite_rules.specs.Lists.{Has}
use Rattle.sqlite.specs.State.{State, CommitsBy, Executes}
use Rattle.sqlite_keyed.specs.Keyed.{insert_by}
use Rattle.sqlite_keyed.specs.Lists.{without_key}
use Rattle.sqlite_keyed.proofs.ListLemmas.{filter_all, filter_none, filter_same, filter-map, all_map, all_unmap, all_of, all_both, all_weaker, all-append}
use Rattle.sqlite_keyed.proofs.ListLemmas.{all-filter, ascending-append, ascending-filter, IsPermutation-filter}
use Rattle.sqlite_trees.proofs.ListLemmas.{all-permutation}
use Rattle.sqlite_typed.proofs.RowLemmas.{puts-map, deletes-map}
use Rattle.kt_store.specs.declared.rows.NodeRow.{NodeRow}
use Rattle.kt_store.specs.declared.rows.InstanceRow.{InstanceRow}
use Rattle.kt_store.specs.declared.rows.Tentative.{Tentative}
use Rattle.kt_store.specs.Changes.{storing}
use Rattle.kt_store.specs.Content.{Content}
use Rattle.kt_store.proofs.Shared.{placed, IsOrder}
use Rattle.kt_sql_tables.specs.Schema.{kt_schema, node_table, board_table, meta_table}
use Rattle.kt_sql_tables.specs.Opened.{meta_shown, this_version}
use Rattle.kt_sql_tables.specs.Stored.{IsStoreOf}
use Rattle.kt_sql_tables.specs.auxiliary.Text.{put_node_text, put_instance_row_text}
use Rattle.kt_sql_tables.specs.Rows.{placing, whole, id_of, instance_value, node_given, instance_row_given, IsNodeRow, IsInstanceRow, HoldsNodes, HoldsBoard}
use Rattle.kt_sql_tables.specs.Rows.{Holds}
use Rattle.kt_sql_tables.specs.auxiliary.Showing.{node_stored}
use Rattle.kt_sql_tables.specs.Rows.{purpose_code, verdict_code}
use Rattle.kt_sql_tables.specs.auxiliary.Changing.{ChangesTo}
use Rattle.kt_sql_tables.specs.auxiliary.Showing.{instance_row_stored}
use Rattle.kt_sql_tables.proofs.PutLemmas.{AreNumbered, HasPut, PutsInto, put_committed, put_ran}
use Rattle.kt_sql_tables.proofs.TableRows.{Table, HoldsAll, nodes_table, instance_row_table}
use Rattle.kt_sql_tables.proofs.Texts.{node_terms, instance_row_terms, put_node_is, put_node_plain, put_instance_row_is, put_instance_row_plain}

-- ---- a row in its place

less_is : (a b : ℕ) → ltb a b ≡ true → (int_eq (pos a) (pos b) ≡ false) × (int_cmp (pos a) (pos b) ≡ Less)
less_is a b h = (grind (arith, ints, h), grind (arith, ints, h))

more_is : (a b : ℕ) → ltb b a ≡ true → (int_eq (pos a) (pos b) ≡ false) × (int_cmp (pos a) (pos b) ≡ Greater)
more_is a b h = (grind (arith, ints, h), grind (arith, ints, h))

same_is : (a b : ℕ) → ltb a b ≡ false → ltb b a ≡ false → int_eq (pos a) (pos b) ≡ true
same_is a b h g = grind (arith, ints, h, g)

-- both of them are in order as their numbers are
abbrev GoesBy : {X : Type 0} → (X → X → Bool) → (X → ℕ) → X → X → Type 0
GoesBy lt number x y = (lt x y ≡ ltb (number x) (number y)) × (lt y x ≡ ltb (number y) (number x))

passing : {X : Type 0} (p : X → Bool) (xs : List X) → AllByRecursion (λ x. p x ≡ true) (filter p xs)
passing p [] = tt
passing {X} p (x ∷ xs) = by (p x) refl (passing p xs)
  where
    by : (b : Bool) → p x ≡ b → AllByRecursion (λ (y : X). p y ≡ true) (filter p xs)
        → AllByRecursion (λ (y : X). p y ≡ true) (cond b (x ∷ filter p xs) (filter p xs))
    by true is later = (is, later)
    by false is later = later

module _ {X : Type 0} (lt : X → X → Bool) (order : IsOrder lt) where
  abbrev Rise : List X → Type 0
  Rise = IsAscending (λ a b. lt a b ≡ true)

  module _ (number : X → ℕ) where
    abbrev key : X → ℤ
    key x = pos (number x)

    not_this : (new : X) (xs : List X) → AllByRecursion (λ x. GoesBy lt number x new) xs → AllByRecursion (λ x. lt new x ≡ true) xs
        → without_key key xs (key new) ≡ xs
    not_this new xs by above =
        filter_all _ xs (all_both _ _ _ (λ x goes high. ap not (more_is (number x) (number new) (sym goes.1 ∙ high)).0) xs by above)

    placed_by : (new : X) (xs : List X) → AllByRecursion (λ x. GoesBy lt number x new) xs → Rise xs
        → insert_by key (without_key key xs (key new)) new ≡ placed lt new xs
    placed_by new [] by rise = refl
    placed_by new (x ∷ xs) by rise = there (ltb (number x) (number new)) (ltb (number new) (number x)) refl refl (placed_by new xs by.1 rise.1)
      where
        there : (low high : Bool) → ltb (number x) (number new) ≡ low → ltb (number new) (number x) ≡ high
            → insert_by key (without_key key xs (key new)) new ≡ placed lt new xs
            → insert_by key (without_key key (x ∷ xs) (key new)) new ≡ placed lt new (x ∷ xs)
        there true high is at later =
            let is_less = less_is (number x) (number new) is in
            let first = by.0.0 ∙ is in
            rw (is_less.0, is_less.1, first, order.one_way x new first) (ap (λ l. x ∷ l) later)
        there false true is at later =
            let is_more = more_is (number x) (number new) at in
            let first = by.0.1 ∙ at in
            let above = all_weaker _ _ (λ y high. order.through new x y first high) xs rise.0 in
            rw (is_more.0, is_more.1, first, order.one_way new x first, not_this new xs by.1 above)
            (sym (rw (filter_none _ xs (all_weaker _ _ (λ y high. order.one_way new y high) xs above), filter_all _ xs above) refl))
        there false false is at later = rw (same_is (number x) (number new) is at, by.0.0 ∙ is, by.0.1 ∙ at) later

  placed_all : (P : X → Type 0) (new : X) (xs : List X) → P new → AllByRecursion P xs → AllByRecursion P (placed lt new xs)
  placed_all P new xs h all =
      all-append P (filter (λ x. lt x new) xs) (new ∷ filter (λ x. lt new x) xs) (all-filter P (λ x. lt x new) xs all) (h, all-filter P (λ x. lt new x) xs all)

  placed_rises : (new : X) (xs : List X) → Rise xs → Rise (placed lt new xs)
  placed_rises new xs rise =
      let R : X → X → Type 0 = λ a b. lt a b ≡ true in
      let high = passing (λ x. lt new x) xs in
      ascending-append R (filter (λ x. lt x new) xs) (new ∷ filter (λ x. lt new x) xs) (ascending-filter R (λ x. lt x new) xs rise)
      (high, ascending-filter R (λ x. lt new x) xs rise)
      (all_weaker _ _ (λ x low. (low, all_weaker _ _ (λ y up. order.through x new y low up) _ high)) _ (passing (λ x. lt x new) xs))

-- ---- a row is put into a table, whose rows stand in some order

had : {X : Type 0} (P : X → Type 0) (xs : List X) → AllByRecursion P xs → (x : X) → Has xs x → P x
had P [] all x has = absurd has
had P (y ∷ ys) all x (inl here) = subst P (sym here) all.0
had P (y ∷ ys) all x (inr later) = had P ys all.1 x later

put_front : (new : Row) (key : ℤ) → rowid new ≡ Int key → (rows : List Row) → AllByRecursion (λ r. has_rowid key r ≡ false) rows
    → IsPermutation (new ∷ rows) (put_row new rows)
put_front new key at [] none = IsPermutation-refl _
put_front new key at (r ∷ rows) none =
    there (value_cmp (rowid r) (rowid new)) (ap (λ v. is_eq (value_cmp (rowid r) v)) at ∙ none.0) (put_front new key at rows none.1)
  where
    there : (o : Ordering) → is_eq o ≡ false → IsPermutation (new ∷ rows) (put_row new rows)
        → IsPermutation (new ∷ r ∷ rows) (match_ordering o (r ∷ put_row new rows) (new ∷ rows) (new ∷ r ∷ rows))
    there Less apart later = IsPermutation-trans _ _ _ (IsPermutation-sym _ _ (IsPermutation-middle (r ∷ []) new rows)) (IsPermutation-cons r _ _ later)
    there Equal apart later = absurd cc
    there Greater apart later = IsPermutation-refl _

module _ {X : Type 0} {IsSaid : X → Type 0} (t : Table IsSaid) where
  abbrev key_in : X → ℤ
  key_in x = pos (t.number x)

  -- each row has a rowid
  numbered_rows : (xs : List X) (rows : List Row) → IsPermutation (map t.given xs) (map t.shown rows) → AreNumbered rows
  numbered_rows xs rows bag =
      let P : Row → Type 0 = λ r. (k : ℤ) × (rowid r ≡ Int k) in
      let given = all_map P t.given xs (all_of _ (λ x. (key_in x, t.given_number x)) xs) in
      let shown = all_unmap P t.shown rows (all-permutation P _ _ bag given) in
      had P rows (all_weaker _ P (λ r it. (it.0, sym (t.same_number r) ∙ it.1)) rows shown)

  kept_shown : (key : ℤ) (rows : List Row) → map t.shown (without_rowid key rows) ≡ without_rowid key (map t.shown rows)
  kept_shown key rows =
      ap (map t.shown) (filter_same (λ r. not (has_rowid key r)) (λ r. not (has_rowid key (t.shown r)))
      (λ r. ap (λ v. not (is_eq (value_cmp v (Int key)))) (sym (t.same_number r))) rows)
      ∙ sym (filter-map (λ r. not (has_rowid key r)) t.shown rows)

  gone : (key : ℤ) (rows : List Row) → AllByRecursion (λ r. has_rowid key r ≡ false) (without_rowid key rows)
  gone key rows = all_weaker _ _ (λ r is. not-true (has_rowid key r) is) _ (passing (λ r. not (has_rowid key r)) rows)

  -- what the table shows then
  put_shown : (new : X) (xs : List X) (rows : List Row) → IsPermutation (map t.given xs) (map t.shown rows)
      → IsPermutation (map t.given (insert_by key_in (without_key key_in xs (key_in new)) new))
      (map t.shown (put_row (t.stored new) (without_rowid (key_in new) rows)))
  put_shown new xs rows bag =
      let key = key_in new in
      let left = without_rowid key (map t.given xs) in
      let right = without_rowid key (map t.shown rows) in
      let inserted : map t.given (insert_by key_in (without_key key_in xs key) new) ≡ put_row (t.given new) left =
      sym (puts-map key_in t.given t.given_number (new ∷ []) (without_key key_in xs key))
      ∙ ap (put_row (t.given new)) (sym (deletes-map key_in t.given t.given_number (key ∷ []) xs)) in
      let first = IsPermutation-sym _ _ (put_front (t.given new) key (t.given_number new) left (gone key (map t.given xs))) in
      let next = IsPermutation-cons (t.given new) left right (IsPermutation-filter (λ r. not (has_rowid key r)) _ _ bag) in
      let last = IsPermutation-map t.shown _ _ (put_front (t.stored new) key (t.numbered new) (without_rowid key rows) (gone key rows)) in
      let same : map t.shown (t.stored new ∷ without_rowid key rows) ≡ t.given new ∷ right = ap₂ ◌∷◌ (t.back new) (kept_shown key rows) in
      subst (λ l. IsPermutation l (map t.shown (put_row (t.stored new) (without_rowid key rows)))) (sym inserted)
      (IsPermutation-trans _ _ _ first (IsPermutation-trans _ _ _ next
      (subst (λ l. IsPermutation l (map t.shown (put_row (t.stored new) (without_rowid key rows)))) same last)))

  goes_by : (new : X) → IsSaid new → (x : X) → IsSaid x → GoesBy t.before t.number x new
  goes_by new h x g = (t.by_number x new g h, t.by_number new x h g)

  -- what it holds then
  pub put_held : (new : X) (xs : List X) (old after : State) → IsSaid new → HoldsAll t (old.now.trees t.tree) xs
      → HasPut t.tree (t.stored new) (key_in new) old after → HoldsAll t (after.now.trees t.tree) (placed t.before new xs)
  put_held new xs old after good held put = record {
    shown = subst₂ (λ (l : List X) (rows : List Row). IsPermutation (map t.given l) (map t.shown rows))
        (placed_by t.before t.order t.number new xs (all_weaker _ _ (goes_by new good) xs held.said) held.rise) (sym put.rows)
        (put_shown new xs (old.now.trees t.tree) held.shown);
    said = placed_all t.before t.order IsSaid new xs good held.said;
    rise = placed_rises t.before t.order new xs held.rise;
  }

-- ---- what the columns keep

either : (b : Bool) (x : Value) → cond b x x ≡ x
either true x = refl
either false x = refl

cast_whole : (n : ℕ) → cast Integer (whole n) ≡ whole n
unfolding unary
cast_whole n = either _ (whole n)

cast_null : cast Integer Null ≡ Null
unfolding unary
cast_null = either _ Null

cast_instance : (t : Option Tentative) → cast Integer (instance_value t) ≡ instance_value t
cast_instance None = cast_null
cast_instance (Some t) = cast_whole t.instance

cast_node : (r : NodeRow) → cast_row node_table (node_stored r) ≡ node_stored r
cast_node r = rw (cast_whole (id_of r.node), cast_null, cast_whole r.incarnation, cast_instance r.tentative) refl

pub cast_meta : cast_row meta_table (whole 1 ∷ Null ∷ whole this_version ∷ []) ≡ whole 1 ∷ Null ∷ whole this_version ∷ []
cast_meta = rw (cast_whole 1, cast_whole this_version, cast_null) refl

cast_instance_row : (p : InstanceRow) → cast_row board_table (instance_row_stored p) ≡ instance_row_stored p
cast_instance_row p =
    rw (cast_whole p.instance, cast_null, cast_whole (id_of p.initiator), cast_whole (purpose_code p.purpose), cast_whole (verdict_code p.verdict)) refl

-- ---- the two statements

puts_node : (r : NodeRow) → PutsInto 0 put_node_text (node_given r) (node_stored r) (pos (id_of r.node))
puts_node r = record {
  name = node_table.name;
  columns = node_table.columns;
  terms = node_terms;
  width = 6;
  at = refl;
  is = put_node_is;
  plain = put_node_plain;
  given = refl;
  numbered = refl;
  mends = cast_node r;
  fixed = cast_node r;
}

puts_instance_row : (p : InstanceRow) → PutsInto 1 put_instance_row_text (instance_row_given p) (instance_row_stored p) (pos p.instance)
puts_instance_row p = record {
  name = board_table.name;
  columns = board_table.columns;
  terms = instance_row_terms;
  width = 5;
  at = refl;
  is = put_instance_row_is;
  plain = put_instance_row_plain;
  given = refl;
  numbered = refl;
  mends = cast_instance_row p;
  fixed = cast_instance_row p;
}

-- the tables are those of a store still, which holds this
changed : (tree : ℕ) (row : Row) (key : ℤ) (old new : State) (c after : Content) → tree ≢ 2 → IsStoreOf old.now.trees c → HasPut tree row key old new
    → Holds new.now.trees after → ChangesTo old new after
changed tree row key old new c after apart store put held = record {
  shown = put.shown;
  schema = put.schema;
  store = record {
    lists = subst (λ s. IsSound s new.now.trees) put.schema put.sound;
    meta = ap (map meta_shown) (put.others 2 (λ same. apart (sym same))) ∙ store.meta;
    holds = held;
  };
}

module _ (r : NodeRow) (good : IsNodeRow r) (old : State) (c : Content) (has : old.now.schema ≡ kt_schema) (store : IsStoreOf old.now.trees c) where
  numbered_nodes : AreNumbered (old.now.trees 0)
  numbered_nodes = numbered_rows nodes_table c.nodes (old.now.trees 0) store.holds.nodes.shown

  node_put : (new : State) → HasPut 0 (node_stored r) (pos (id_of r.node)) old new → ChangesTo old new (storing r c)
  node_put new put =
      let board = subst (λ (rows : List Row). HoldsBoard rows c.board) (sym (put.others 1 (λ same. absurd cc))) store.holds.board in
      let nodes = put_held nodes_table r c.nodes old new good store.holds.nodes put in
      changed 0 _ _ old new c (storing r c) (λ same. absurd cc) store put (record { nodes = nodes; board = board })

  pub node_changes : (new : State) (count : ℕ) → Executes put_node_text (node_given r) old new (Ok count) → ChangesTo old new (storing r c)
  node_changes new count h = node_put new (put_ran (puts_node r) old has numbered_nodes new count h)

  pub node_commits : (db : Trees) → IsTrue old.is_open → CommitsBy put_node_text (node_given r) old db → IsStoreOf db (storing r c)
  node_commits db on h =
      let it = put_committed (puts_node r) old has numbered_nodes db on h in
      subst (λ t. IsStoreOf t (storing r c)) it.2 (node_put it.0 it.1).store

module _ (p : InstanceRow) (good : IsInstanceRow p) (old : State) (c : Content) (has : old.now.schema ≡ kt_schema) (store : IsStoreOf old.now.trees c) where
  numbered_board : AreNumbered (old.now.trees 1)
  numbered_board = numbered_rows instance_row_table c.board (old.now.trees 1) store.holds.board.shown

  instance_row_put : (new : State) → HasPut 1 (instance_row_stored p) (pos p.instance) old new → ChangesTo old new (placing p c)
  instance_row_put new put =
      let nodes = subst (λ (rows : List Row). HoldsNodes rows c.nodes) (sym (put.others 0 (λ same. absurd cc))) store.holds.nodes in
      let board = put_held instance_row_table p c.board old new good store.holds.board put in
      changed 1 _ _ old new c (placing p c) (λ same. absurd cc) store put (record { nodes = nodes; board = board })

  pub instance_row_changes : (new : State) (count : ℕ) → Executes put_instance_row_text (instance_row_given p) old new (Ok count)
      → ChangesTo old new (placing p c)
  instance_row_changes new count h = instance_row_put new (put_ran (puts_instance_row p) old has numbered_board new count h)

  pub instance_row_commits : (db : Trees) → IsTrue old.is_open → CommitsBy put_instance_row_text (instance_row_given p) old db → IsStoreOf db (placing p c)
  instance_row_commits db on h =
      let it = put_committed (puts_instance_row p) old has numbered_board db on h in
      subst (λ t. IsStoreOf t (placing p c)) it.2 (instance_row_put it.0 it.1).store
