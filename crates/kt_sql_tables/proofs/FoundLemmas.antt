-- What each query of the store finds.
-- Cited by AnswerLemmas, OpenedLemmas.
use Rattle.std.proofs.Common.{◌≡◌, ℕ, ℤ, pos, negsuc, Bool, true, false, ◌&&◌, ◌==◌, cond, List, [], ◌∷◌, map, subst, IsPermutation}
use Rattle.std.proofs.Common.{slice_get, option_map, Some, IfSome, refl, sym, ap, ap₂, ◌∙◌, arith, ◌<ℤ◌}
use Rattle.std.specs.List.{AllByRecursion, find}
use Rattle.std.specs.Ordering.{int_eq}
use Rattle.std.proofs.lemmas.Int.{ints}
use Rattle.std.proofs.lemmas.List.Sorted.{IsPermutation-map}
use Rattle.sqlite_value.specs.declared.value.Value.TheVariants.{Int}
use Rattle.sqlite_value.specs.Order.{Row}
use Rattle.sqlite_trees.specs.Tree.{IsAscending}
use Rattle.sqlite_sql.specs.declared.ops.CompareOp.TheVariants.{Eq}
use Rattle.sqlite_sql.specs.Term.{lit, col}
use Rattle.std.proofs.lemmas.Option.{slice_get-map}
use Rattle.sqlite.specs.State.{State, Shown}
use Rattle.sqlite_keyed.specs.Keyed.{IsKeyedBy}
use Rattle.sqlite_keyed.specs.Lists.{sort_by}
use Rattle.sqlite_keyed.proofs.ListLemmas.{all_both, all_of, all_weaker, filter_all, map-map}
use Rattle.sqlite_typed.proofs.TestLemmas.{at_ints, then_term, last_term}
use Rattle.sqlite_typed.proofs.AnswerLemmas.{first_shown, first_of}
use Rattle.kt_tuple.specs.declared.node.NodeId.{NodeId}
use Rattle.kt_tuple.specs.declared.node.NodeId.TheVariants.{Worker, Shard}
use Rattle.kt_tuple.specs.Node.{node_eq}
use Rattle.kt_store.specs.declared.rows.NodeRow.{NodeRow}
use Rattle.kt_store.specs.declared.rows.InstanceRow.{InstanceRow}
use Rattle.kt_store.specs.declared.rows.Verdict.{Verdict}
use Rattle.kt_store.specs.declared.rows.Verdict.TheVariants.{Open, Yes, No}
use Rattle.kt_store.specs.Verdict.{is_open}
use Rattle.kt_store.specs.Content.{Content}
use Rattle.kt_sql_tables.specs.Schema.{kt_schema}
use Rattle.kt_sql_tables.specs.auxiliary.Text.{all_ids_text, get_node_text, first_node_text, get_instance_row_text, last_instance_row_text}
use Rattle.kt_sql_tables.specs.auxiliary.Text.{open_instance_row_text}
use Rattle.kt_sql_tables.specs.Rows.{whole, id_of, HasId, verdict_code, node_given, node_shown, instance_row_given, Holds}
use Rattle.kt_sql_tables.specs.auxiliary.Showing.{id_given, id_shown}
use Rattle.kt_sql_tables.proofs.Texts.{all_ids, all_ids_is, id_names}
use Rattle.kt_sql_tables.proofs.Texts.{equals, get_node, get_node_is, first_node, first_node_is, get_instance_row, get_instance_row_is, last_instance_row}
use Rattle.kt_sql_tables.proofs.Texts.{last_instance_row_is}
use Rattle.kt_sql_tables.proofs.Texts.{open_instance_row, open_instance_row_is, node_names, instance_row_names}
use Rattle.kt_sql_tables.proofs.TableRows.{Table, ids_table, nodes_table, instance_row_table}
use Rattle.kt_sql_tables.proofs.ReadLemmas.{answered, in_order, from_last, first_given, downwards}

-- ---- lists

find_same : {X : Type 0} (p q : X → Bool) (xs : List X) → AllByRecursion (λ x. p x ≡ q x) xs → find p xs ≡ find q xs
find_same p q [] h = refl
find_same p q (x ∷ xs) h = rw h.0 (ap (λ o. cond (q x) (Some x) o) (find_same p q xs h.1))

-- what is found is as each of them is
pub found_is : {X : Type 0} (P : X → Type 0) (p : X → Bool) (xs : List X) → AllByRecursion P xs → IfSome (find p xs) P
found_is P p [] h = tt
found_is {X} P p (x ∷ xs) h = there (p x) (found_is P p xs h.1)
  where
    there : (b : Bool) → IfSome (find p xs) P → IfSome (cond b (Some x) (find p xs)) P
    there true later = h.0
    there false later = later

-- what a table holds is in the order of its keys
pub keyed : {X : Type 0} {IsSaid : X → Type 0} (t : Table IsSaid) (xs : List X) → AllByRecursion IsSaid xs → IsAscending (λ (a b : X). t.before a b ≡ true) xs
    → IsKeyedBy (λ x. pos (t.number x)) xs
keyed t [] h r = tt
keyed t (x ∷ xs) h r =
    let above : AllByRecursion (λ y. pos (t.number x) <ℤ pos (t.number y)) xs =
    all_both _ _ _ (λ y good less. let n = sym (t.by_number x y h.0 good) ∙ less in grind (arith, ints, n)) xs h.1 r.0 in
    (above, keyed t xs h.1 r.1)

-- ---- the two tables

same_id : (a b : NodeId) → HasId a → HasId b → int_eq (pos (id_of a)) (pos (id_of b)) ≡ node_eq a b
same_id (Worker m) (Worker n) h g = grind (arith, ints)
same_id (Worker m) (Shard n) h g = grind (arith, ints, h)
same_id (Shard m) (Worker n) h g = grind (arith, ints, g)
same_id (Shard m) (Shard n) h g = grind (arith, ints)

same_number : (m n : ℕ) → int_eq (pos m) (pos n) ≡ (m == n)
same_number m n = grind (arith, ints)

abbrev whole_of : Verdict → ℤ
whole_of v = pos (verdict_code v)

open_code : (v : Verdict) → int_eq (whole_of v) (pos 0) ≡ is_open v
open_code Open = refl
open_code Yes = refl
open_code No = refl

-- ---- what the queries find

module _ (old new : State) (c : Content) (has : old.now.schema ≡ kt_schema) (held : Holds old.now.trees c) where
  abbrev nodes_rise : IsKeyedBy (λ (r : NodeRow). pos (id_of r.node)) c.nodes
  nodes_rise = keyed nodes_table c.nodes held.nodes.said held.nodes.rise

  abbrev board_rises : IsKeyedBy (λ (p : InstanceRow). pos p.instance) c.board
  board_rises = keyed instance_row_table c.board held.board.said held.board.rise

  pub node_found : (node : NodeId) → HasId node → (rows : List Row) → Shown get_node_text (whole (id_of node) ∷ []) old new rows
      → slice_get rows 0 ≡ option_map node_given (find (λ (r : NodeRow). node_eq r.node node) c.nodes)
  node_found node low rows h =
      let params = whole (id_of node) ∷ [] in
      let p = λ (r : NodeRow). int_eq (pos (id_of r.node)) (pos (id_of node)) in
      let answer = answered get_node_text params old new get_node node_names get_node_is has rows h in
      let is =
      in_order nodes_table old.now.trees c.nodes held.nodes.shown nodes_rise (equals (col 1 0) (col 0 0) ∷ []) (negsuc 0) params p (λ r. refl)
      (λ r. last_term (at_ints false Eq (pos (id_of r.node)) (pos (id_of node)))) rows answer in
      first_given node_given p c.nodes is
      ∙ ap (option_map node_given) (find_same p (λ (r : NodeRow). node_eq r.node node) c.nodes
      (all_weaker _ _ (λ r good. same_id r.node node good.node low) c.nodes held.nodes.said))

  pub some_node_found : (rows : List Row) → Shown first_node_text [] old new rows → slice_get rows 0 ≡ option_map node_given (slice_get c.nodes 0)
  some_node_found rows h =
      let answer = answered first_node_text [] old new first_node node_names first_node_is has rows h in
      let is =
      in_order nodes_table old.now.trees c.nodes held.nodes.shown nodes_rise [] (pos 1) [] (λ _. true) (λ r. refl) (λ r. refl) rows answer in
      first_of _ is ∙ slice_get-map node_given _ 0
      ∙ ap (λ (l : List NodeRow). option_map node_given (slice_get l 0)) (filter_all (λ _. true) c.nodes (all_of _ (λ _. refl) c.nodes))

  pub ids_found : (rows : List Row) → Shown all_ids_text [] old new rows → rows ≡ map id_given c.nodes
  ids_found rows h =
      let db = old.now.trees in
      let answer = answered all_ids_text [] old new all_ids id_names all_ids_is has rows h in
      let keys : IsPermutation (map id_shown (map node_given c.nodes)) (map id_shown (map node_shown (db 0))) =
      IsPermutation-map id_shown _ _ held.nodes.shown in
      let bag : IsPermutation (map id_given c.nodes) (map id_shown (db 0)) =
      subst (IsPermutation (map id_given c.nodes)) (map-map id_shown node_shown (db 0))
      (subst (λ l. IsPermutation l (map id_shown (map node_shown (db 0)))) (map-map id_shown node_given c.nodes) keys) in
      in_order ids_table db c.nodes bag nodes_rise [] (negsuc 0) [] (λ _. true) (λ r. refl) (λ r. refl) rows answer
      ∙ ap (map id_given) (filter_all (λ _. true) c.nodes (all_of _ (λ _. refl) c.nodes))

  pub instance_row_found : (i : ℕ) → (rows : List Row) → Shown get_instance_row_text (whole i ∷ []) old new rows
      → slice_get rows 0 ≡ option_map instance_row_given (find (λ (p : InstanceRow). p.instance == i) c.board)
  instance_row_found i rows h =
      let params = whole i ∷ [] in
      let p = λ (r : InstanceRow). int_eq (pos r.instance) (pos i) in
      let answer = answered get_instance_row_text params old new get_instance_row instance_row_names get_instance_row_is has rows h in
      let is =
      in_order instance_row_table old.now.trees c.board held.board.shown board_rises (equals (col 1 0) (col 0 0) ∷ []) (negsuc 0) params p (λ r. refl)
      (λ r. last_term (at_ints false Eq (pos r.instance) (pos i))) rows answer in
      first_given instance_row_given p c.board is
      ∙ ap (option_map instance_row_given) (find_same p (λ (r : InstanceRow). r.instance == i) c.board (all_of _ (λ r. same_number r.instance i) c.board))

  pub open_found : (node : NodeId) → HasId node → (rows : List Row) → Shown open_instance_row_text (whole (id_of node) ∷ []) old new rows
      → slice_get rows 0 ≡ option_map instance_row_given (find (λ (p : InstanceRow). node_eq p.initiator node && is_open p.verdict) c.board)
  open_found node low rows h =
      let params = whole (id_of node) ∷ [] in
      let p = λ (r : InstanceRow). int_eq (pos (id_of r.initiator)) (pos (id_of node)) && int_eq (whole_of r.verdict) (pos 0) in
      let answer = answered open_instance_row_text params old new open_instance_row instance_row_names open_instance_row_is has rows h in
      let is = in_order instance_row_table old.now.trees c.board held.board.shown board_rises
      (equals (col 1 2) (col 0 0) ∷ equals (col 1 4) (lit (Int (pos 0))) ∷ []) (pos 1) params p (λ r. refl)
      (λ r. then_term (at_ints false Eq (pos (id_of r.initiator)) (pos (id_of node))) (last_term (at_ints false Eq (whole_of r.verdict) (pos 0)))) rows
      answer in
      first_shown instance_row_given p c.board is
      ∙ ap (option_map instance_row_given) (find_same p (λ (r : InstanceRow). node_eq r.initiator node && is_open r.verdict) c.board
      (all_weaker _ _ (λ r good. ap₂ ◌&&◌ (same_id r.initiator node good.initiator low) (open_code r.verdict)) c.board held.board.said))

  pub last_found : (rows : List Row) → Shown last_instance_row_text [] old new rows
      → slice_get rows 0 ≡ option_map instance_row_given (slice_get (sort_by (downwards (λ (p : InstanceRow). p.instance)) c.board) 0)
  last_found rows h =
      let answer = answered last_instance_row_text [] old new last_instance_row instance_row_names last_instance_row_is has rows h in
      let is = from_last instance_row_table old.now.trees c.board held.board.shown board_rises (pos 1) [] rows answer in
      first_of _ is ∙ slice_get-map instance_row_given _ 0
