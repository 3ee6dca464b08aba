-- What is found where a store is opened.
-- Cited by OldLemmas, `opened::are_said`, `opened::has_no_row`, `opened::kind_of`, `opened::tested`,
--   `ready::readied`; other crates.
use Rattle.std.proofs.Common.{◌≡◌, ℕ, ◌+◌, ◌<◌, ◌≤◌, negsuc, Bool, true, false, ◌&&◌, List, [], ◌∷◌, length, map, flat_map}
use Rattle.std.proofs.Common.{refl, sym, ap, ap₂, subst, subst₂, ◌∙◌, arith, IsPermutation}
use Rattle.std.specs.Prelude.{◌↔◌, IsTrue}
use Rattle.std.specs.List.{AllByRecursion}
use Rattle.std.proofs.lemmas.List.{length-map}
use Rattle.std.proofs.lemmas.List.Sorted.{IsPermutation-map, IsPermutation-sym, length_permutation}
use Rattle.sqlite_value.specs.Order.{Row}
use Rattle.sqlite_trees.specs.Tree.{Trees, IsAscending}
use Rattle.sqlite_sql.specs.Term.{Term, col, eval_all}
use Rattle.sqlite_sql.specs.Query.{IsAnswer, Output, output, matches, inner, end}
use Rattle.sqlite.specs.State.{State, HasCleanDisk, Shown}
use Rattle.sqlite.specs.Effect.{Database}
use Rattle.sqlite.proofs.Callers.{one_permutation}
use Rattle.sqlite_keyed.proofs.ListLemmas.{all_both, all_map, all_of, all_unmap, all_weaker, filter_all, map-map, map_same}
use Rattle.kt_store.specs.declared.rows.NodeRow.{NodeRow}
use Rattle.kt_store.specs.declared.rows.InstanceRow.{InstanceRow}
use Rattle.kt_sql_tables.specs.Schema.{kt_schema}
use Rattle.kt_sql_tables.specs.auxiliary.Text.{all_nodes_text, all_instance_rows_text, meta_text}
use Rattle.kt_sql_tables.specs.Rows.{number_in, node_given, instance_row_given, IsNodeRow, IsInstanceRow, HoldsNodes, HoldsBoard, AreAsSaid}
use Rattle.kt_sql_tables.specs.Settled.{IsSettled}
use Rattle.kt_sql_tables.specs.auxiliary.Looking.{Looks}
use Rattle.kt_sql_tables.proofs.StateLemmas.{look_clean, look_open}
use Rattle.kt_sql_tables.specs.Opened.{meta_shown, meta_of, HasNoRow, IsVersion, IsThisVersion, IsOldVersion, IsReady}
use Rattle.kt_sql_tables.specs.auxiliary.Testing.{key_of, IsRowOf, AreRowsFrom}
use Rattle.kt_sql_tables.proofs.Texts.{Asks, from_table, rising, all_nodes_is, all_instance_rows_is, meta, meta_is, node_names, instance_row_names}
use Rattle.kt_sql_tables.proofs.TableRows.{Table, HoldsAll, nodes_table, instance_row_table}
use Rattle.kt_sql_tables.proofs.ReadLemmas.{answered, in_order}
use Rattle.kt_sql_tables.proofs.FoundLemmas.{keyed}

-- ---- rows that are as said, one after the other

module _ {X : Type 0} (given : X → Row) (IsSaid : X → Type 0) (low n : ℕ) (row : Row) (rest : List Row) (is : n ≡ key_of row) where
  pub rows_more : IsRowOf given IsSaid row → low ≤ n → AreRowsFrom given IsSaid low (row ∷ rest) ↔ AreRowsFrom given IsSaid (n + 1) rest
  rows_more said at = (
    λ a. record { said = a.said.1; above = all_weaker _ _ (λ y high. omega (arith, is, high)) rest a.rise.0; rise = a.rise.1 },
    λ a. record {
      said = (said, a.said);
      above = (omega (arith, is, at), all_weaker _ _ (λ y high. omega (arith, high, at)) rest a.above);
      rise = (all_weaker _ _ (λ y high. omega (arith, is, high)) rest a.above, a.rise);
    },
  )

  pub rows_too_low : n < low → AreRowsFrom given IsSaid low (row ∷ rest) → ⊥
  rows_too_low under a = let first = a.above.0 in omega (arith, is, under, first)

-- ---- all rows that a query shows are those of the table, in its order

flat_ones : {A B C : Type 0} (e : A → B) (f : B → C) (xs : List A) → map f (flat_map (λ x. e x ∷ []) xs) ≡ map (λ x. f (e x)) xs
flat_ones e f [] = refl
flat_ones e f (x ∷ xs) = ap (λ l. f (e x) ∷ l) (flat_ones e f xs)

pub shown_bag : (tree : ℕ) (columns : List Term) (db : Trees) (rows : List Row) → IsAnswer (from_table tree [] columns rising (negsuc 0)) db [] rows
    → IsPermutation (map (λ (r : Row). eval_all columns ([] ∷ r ∷ [])) (db tree)) rows
shown_bag tree columns db rows answer =
    let q = from_table tree [] columns rising (negsuc 0) in
    let kept = answer.distinct ∙ ap (map (output q)) answer.grouped in
    let outs : map (output q) (matches db [] (inner tree end) ([] ∷ [])) ≡ map (λ (r : Row). output q ([] ∷ r ∷ [])) (db tree) =
    flat_ones (λ (r : Row). [] ∷ r ∷ []) (output q) (db tree) in
    let mixed = subst (λ l. IsPermutation l answer.ordered) (kept ∙ outs) answer.same in
    let all = IsPermutation-map (λ (o : Output). o.1) _ _ mixed in
    let seconds : map (λ (o : Output). o.1) (map (λ (r : Row). output q ([] ∷ r ∷ [])) (db tree))
    ≡ map (λ (r : Row). eval_all columns ([] ∷ r ∷ [])) (db tree) =
    map-map _ _ (db tree) in
    subst₂ IsPermutation seconds (sym answer.shown) all

-- so the rows show what is as said just where the table holds such
module _ {X : Type 0} {IsSaid : X → Type 0} (t : Table IsSaid) where
  key_given : (x : X) → key_of (t.given x) ≡ t.number x
  key_given x = ap number_in (t.given_number x)

  before_is : (a b : X) → IsSaid a → IsSaid b → (t.before a b ≡ true) ↔ (key_of (t.given a) < key_of (t.given b))
  before_is a b h g =
      let n = t.by_number a b h g in
      let ka = key_given a in
      let kb = key_given b in
      (λ is. let less = sym n ∙ is in grind (arith, less, ka, kb), λ less. n ∙ grind (arith, less, ka, kb))

  -- what they show
  told_by : (rows : List Row) → AllByRecursion (IsRowOf t.given IsSaid) rows → (xs : List X) × AllByRecursion IsSaid xs × (rows ≡ map t.given xs)
  told_by [] h = ([], tt, refl)
  told_by (r ∷ rows) h =
      let it = h.0 in
      let later = told_by rows h.1 in
      (it.0 ∷ later.0, (it.1, later.1), ap₂ ◌∷◌ it.2 later.2)

  rising_keys : (xs : List X) → AllByRecursion IsSaid xs → IsAscending (λ (a b : X). t.before a b ≡ true) xs
      ↔ IsAscending (λ (a b : Row). key_of a < key_of b) (map t.given xs)
  rising_keys [] said = (λ up. tt, λ up. tt)
  rising_keys (x ∷ xs) said =
      let later = rising_keys xs said.1 in (
        λ up. (
          all_map _ t.given xs (all_both _ _ _ (λ y good first. (before_is x y said.0 good).0 first) xs said.1 up.0),
          later.0 up.1,
        ),
        λ up. (
          all_both _ _ _ (λ y good less. (before_is x y said.0 good).1 less) xs said.1 (all_unmap _ t.given xs up.0),
          later.1 up.1,
        ),
      )

  module _ (sql : List ℕ) (names : List (List ℕ)) (asks : Asks sql (from_table t.tree [] t.columns rising (negsuc 0)) names) (old new : State)
      (has : old.now.schema ≡ kt_schema) (rows : List Row) (h : Shown sql [] old new rows) where
    pub all_found : (xs : List X) → HoldsAll t (old.now.trees t.tree) xs → rows ≡ map t.given xs
    all_found xs held =
        in_order t old.now.trees xs held.shown (keyed t xs held.said held.rise) [] (negsuc 0) [] (λ _. true) (λ r. refl) (λ r. refl) rows
        (answered sql [] old new _ names asks has rows h)
        ∙ ap (map t.given) (filter_all (λ _. true) xs (all_of _ (λ _. refl) xs))

    all_held : AreRowsFrom t.given IsSaid 0 rows ↔ ((xs : List X) × HoldsAll t (old.now.trees t.tree) xs)
    all_held = (
      λ a.
          let it = told_by rows a.said in
          let bag = shown_bag t.tree t.columns old.now.trees rows (answered sql [] old new _ names asks has rows h) in
          let seen : IsPermutation (map t.shown (old.now.trees t.tree)) (map t.given it.0) =
          subst₂ IsPermutation (map_same _ t.shown (t.shows []) (old.now.trees t.tree)) it.2 bag in (
            it.0,
            record {
              shown = IsPermutation-sym _ _ seen;
              said = it.1;
              rise = (rising_keys it.0 it.1).1 (subst (IsAscending (λ (a b : Row). key_of a < key_of b)) it.2 a.rise);
            },
          ),
      λ it.
          let xs = it.0 in
          let is = sym (all_found xs it.1) in
          subst (AreRowsFrom t.given IsSaid 0) is record {
            said = all_map _ t.given xs (all_weaker _ _ (λ x good. (x, good, refl)) xs it.1.said);
            above = all_of _ (λ r. omega arith) (map t.given xs);
            rise = (rising_keys xs it.1.said).0 it.1.rise;
          },
    )

-- nothing is shown just where the table has no row
nothing_by : {X : Type 0} (f : X → Row) (xs : List X) (rows : List Row) → IsPermutation (map f xs) rows → (length rows ≡ 0) ↔ (xs ≡ [])
nothing_by {X} f xs rows bag =
    let len = length_permutation _ _ bag in
    (λ none. empty xs (grind (arith, len, none, length-map xs f)), λ is. grind (arith, len, ap (λ l. length (map f l)) is))
  where
    empty : (xs : List X) → length xs ≡ 0 → xs ≡ []
    empty [] same = refl
    empty (x ∷ xs) same = absurd (omega (arith, same))

pub none_shown : {X : Type 0} {IsSaid : X → Type 0} (t : Table IsSaid) (sql : List ℕ) (names : List (List ℕ))
    → Asks sql (from_table t.tree [] t.columns rising (negsuc 0)) names → (old new : State) → old.now.schema ≡ kt_schema
    → (rows : List Row) → Shown sql [] old new rows → (length rows ≡ 0) ↔ (old.now.trees t.tree ≡ [])
none_shown t sql names asks old new has rows h =
    nothing_by _ (old.now.trees t.tree) rows (shown_bag t.tree t.columns old.now.trees rows (answered sql [] old new _ names asks has rows h))

module _ (old new : State) (has : old.now.schema ≡ kt_schema) (rows : List Row) where
  pub meta_held : (version : ℕ) → Shown meta_text [] old new rows
      → (rows ≡ meta_of version ∷ []) ↔ (map meta_shown (old.now.trees 2) ≡ meta_of version ∷ [])
  meta_held version h =
      let bag : IsPermutation (map meta_shown (old.now.trees 2)) rows =
      shown_bag 2 (col 1 0 ∷ col 1 2 ∷ []) old.now.trees rows (answered meta_text [] old new meta _ meta_is has rows h) in (
        λ is. one_permutation (meta_of version) _ (IsPermutation-sym _ _ (subst (IsPermutation (map meta_shown (old.now.trees 2))) is bag)),
        λ is. one_permutation (meta_of version) _ (subst (λ l. IsPermutation l rows) is bag),
      )

-- where the row of the third table is told by what is seen of it, the version is
pub version_told : (old new : State) → old.now.schema ≡ kt_schema → (seen rows : List Row) → seen ≡ rows → Shown meta_text [] old new rows
    → (version : ℕ) (told : Bool) → (IsTrue told ↔ (seen ≡ meta_of version ∷ [])) → IsTrue told ↔ IsVersion version old.now
version_told old new has seen rows same h version told is =
    let held = meta_held old new has rows version h in (
      λ t. record { schema = has; meta = held.0 (sym same ∙ is.0 t) },
      λ v. is.1 (same ∙ held.1 v.meta),
    )

-- tables have one version
pub one_version : (db : Database) → IsThisVersion db → IsOldVersion db → ⊥
one_version db this old = let both = sym this.meta ∙ old.meta in absurd cc

in_turn : {P Q R : Type 0} → P ↔ Q → Q ↔ R → P ↔ R
in_turn h g = (λ p. g.0 (h.0 p), λ r. h.1 (g.1 r))

-- both tables are as said
both_said : (db : Trees) (a b : Bool) → (IsTrue a ↔ ((nodes : List NodeRow) × HoldsNodes (db 0) nodes))
    → (IsTrue b ↔ ((board : List InstanceRow) × HoldsBoard (db 1) board))
    → IsTrue (a && b) ↔ AreAsSaid db
both_said db true b h g = (
  λ is. let ns = h.0 refl in let ps = g.0 is in (record { nodes = ns.0; board = ps.0 }, record { nodes = ns.1; board = ps.1 }),
  λ it. g.1 (it.0.board, it.1.board),
)
both_said db false b h g = (λ is. absurd cc, λ it. absurd (let bad : IsTrue false = h.1 (it.0.nodes, it.1.nodes) in cc))

both_none : (db : Database) (a b : Bool) → (IsTrue a ↔ (db.trees 0 ≡ [])) → (IsTrue b ↔ (db.trees 1 ≡ []))
    → IsTrue (a && b) ↔ HasNoRow db
both_none db true b nodes board = (λ t. record { nodes = nodes.0 refl; board = board.0 t }, λ n. board.1 n.board)
both_none db false b nodes board = (λ t. absurd cc, λ n. let t = nodes.1 n.nodes in absurd cc)

-- a stop behind two looks at the tables leaves what it could leave before both
pub both_leave : (old two last : State) → HasCleanDisk last → IsSettled old → old.now.schema ≡ kt_schema → Looks old two
    → (HasCleanDisk two → IsTrue two.is_open) → Looks two last → (db : Trees) → last.may_leave db → old.may_leave db
both_leave old two last clean settled has first on second db may =
    let clean-2 = look_clean two last second clean in
    let it = (first.stays clean-2 (on clean-2)).rest settled has in
    first.leaves clean-2 has db (second.leaves clean (ap (λ (d : Database). d.schema) it.0 ∙ has) db may)

-- two looks at the tables, one after the other
module _ (old two last : State) (a b : Bool) (clean : HasCleanDisk last) (on : IsTrue last.is_open) (settled : IsSettled old)
    (first : Looks old two) (second : Looks two last) where
  between : old.now.schema ≡ kt_schema → (two.now ≡ old.now) × IsSettled two
  between has = (first.stays (look_clean two last second clean) (look_open two last second clean on)).rest settled has

  -- they were tested
  pub tested_ready : IsThisVersion old.now
      → (HasCleanDisk two → (rows : List Row) × Shown all_nodes_text [] old two rows × (IsTrue a ↔ AreRowsFrom node_given IsNodeRow 0 rows))
      → (HasCleanDisk last → (rows : List Row) × Shown all_instance_rows_text [] two last rows
      × (IsTrue b ↔ AreRowsFrom instance_row_given IsInstanceRow 0 rows))
      → IsReady last (a && b)
  tested_ready version nodes board =
      let now-2 = between version.schema in
      let has-2 = ap (λ (d : Database). d.schema) now-2.0 ∙ version.schema in
      let now-3 = (second.stays clean on).rest now-2.1 has-2 in
      let ns = nodes (look_clean two last second clean) in
      let ps = board clean in
      let in_nodes = in_turn ns.2 (all_held nodes_table all_nodes_text node_names all_nodes_is old two version.schema ns.0 ns.1) in
      let in_board = in_turn ps.2 (all_held instance_row_table all_instance_rows_text instance_row_names all_instance_rows_is two last has-2 ps.0 ps.1) in
      record {
        is_open = on;
        settled = now-3.1;
        version = subst IsThisVersion (sym (now-3.0 ∙ now-2.0)) version;
        trusted = both_said last.now.trees a b
            (subst (λ (d : Database). IsTrue a ↔ ((nodes : List NodeRow) × HoldsNodes (d.trees 0) nodes)) (sym (now-3.0 ∙ now-2.0)) in_nodes)
            (subst (λ (d : Database). IsTrue b ↔ ((board : List InstanceRow) × HoldsBoard (d.trees 1) board)) (sym now-3.0) in_board);
      }

  -- neither has a row
  pub no_row_told : old.now.schema ≡ kt_schema
      → (HasCleanDisk two → (rows : List Row) × Shown all_nodes_text [] old two rows × (IsTrue a ↔ (length rows ≡ 0)))
      → (HasCleanDisk last → (rows : List Row) × Shown all_instance_rows_text [] two last rows × (IsTrue b ↔ (length rows ≡ 0)))
      → IsTrue (a && b) ↔ HasNoRow old.now
  no_row_told has nodes board =
      let now-2 = between has in
      let has-2 = ap (λ (d : Database). d.schema) now-2.0 ∙ has in
      let ns = nodes (look_clean two last second clean) in
      let ps = board clean in
      let in_nodes = in_turn ns.2 (none_shown nodes_table all_nodes_text node_names all_nodes_is old two has ns.0 ns.1) in
      let in_board = in_turn ps.2 (none_shown instance_row_table all_instance_rows_text instance_row_names all_instance_rows_is two last has-2 ps.0 ps.1) in
      let board_was = subst (λ (d : Database). IsTrue b ↔ (d.trees 1 ≡ [])) now-2.0 in_board in
      both_none old.now a b in_nodes board_was
