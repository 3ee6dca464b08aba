-- Whether tables of version 1 hold what a store in memory holds.
-- Cited by `old::are_old`, `old::holds_board`, `old::holds_nodes`, `ready::readied`.
use Rattle.std.proofs.Common.{◌≡◌, ℕ, negsuc, Bool, true, false, List, [], ◌∷◌, map, refl, sym, subst, subst₂, ◌∙◌, IsPermutation}
use Rattle.std.specs.Prelude.{◌↔◌, IsTrue}
use Rattle.std.specs.List.{AllByRecursion}
use Rattle.std.proofs.lemmas.Bool.{false≢true}
use Rattle.std.proofs.lemmas.List.Sorted.{IsPermutation-sym}
use Rattle.sqlite.specs.declared.types.Value.TheVariants.{Null}
use Rattle.sqlite.specs.Effect.{Database}
use Rattle.sqlite.specs.Order.{Row}
use Rattle.sqlite.specs.State.{State, HasCleanDisk, Shown}
use Rattle.sqlite_trees.specs.Tree.{IsAscending}
use Rattle.sqlite_keyed.proofs.ListLemmas.{all_weaker, map_same}
use Rattle.kt_tuple.specs.Node.{is_before}
use Rattle.kt_store.proofs.Shared.{IsOrder, by_node_order}
use Rattle.kt_store.specs.declared.rows.NodeRow.{NodeRow}
use Rattle.kt_store.specs.Content.{Content}
use Rattle.kt_sql_tables.specs.Schema.{kt_schema}
use Rattle.kt_sql_tables.specs.Settled.{IsSettled}
use Rattle.kt_sql_tables.specs.Opened.{old_version, IsVersion}
use Rattle.kt_sql_tables.specs.Old.{spelled_old, old_given, HoldsOldNodes, IsOldOf, IsOldRow}
use Rattle.kt_sql_tables.specs.Rows.{whole, id_of, instance_value, node_shown, taken_checkpoint, HoldsBoard}
use Rattle.kt_sql_tables.specs.auxiliary.Looking.{Looks}
use Rattle.kt_sql_tables.proofs.Texts.{Asks, from_table, node_columns, rising}
use Rattle.kt_sql_tables.proofs.TableRows.{Table, HoldsAll}
use Rattle.kt_sql_tables.proofs.RowLemmas.{by_id}
use Rattle.kt_sql_tables.proofs.ReadLemmas.{answered}
use Rattle.kt_sql_tables.proofs.OpenedLemmas.{all_found, shown_bag}

-- ---- what rises goes on to rise

module _ {X : Type 0} {before : X → X → Bool} (order : IsOrder before) (a b : X) (rest : List X) where
  pub goes_on : before a b ≡ true → IsAscending (λ (x y : X). before x y ≡ true) (a ∷ b ∷ rest) ↔ IsAscending (λ (x y : X). before x y ≡ true) (b ∷ rest)
  goes_on is = (λ up. up.1, λ up. ((is, all_weaker _ _ (λ y later. order.through a b y is later) rest up.0), up))

  pub breaks_off : before a b ≡ false → IsAscending (λ (x y : X). before x y ≡ true) (a ∷ b ∷ rest) → ⊥
  breaks_off none up = let is : before a b ≡ true = up.0.0 in absurd cc

-- ---- nodes in version 1

-- as the table keeps the row of one
abbrev pub old_stored : NodeRow → Row
old_stored r =
    whole (id_of r.node) ∷ Null ∷ whole r.incarnation ∷ spelled_old r.permanent ∷ spelled_old (taken_checkpoint r.tentative)
    ∷ instance_value r.tentative ∷ []

abbrev pub old_table : Table IsOldRow
old_table = record {
  tree = 0;
  columns = node_columns;
  number = λ (r : NodeRow). id_of r.node;
  before = λ (a b : NodeRow). is_before a.node b.node;
  order = by_node_order;
  by_number = λ a b h g. by_id a.node b.node h.node g.node;
  given = old_given;
  stored = old_stored;
  shown = node_shown;
  numbered = λ r. refl;
  given_number = λ r. refl;
  same_number = λ r. refl;
  opens = λ r. refl;
  back = λ r. refl;
  shows = λ params r. refl;
  again = λ r. refl;
  first = λ r. refl;
}

-- where the answer has just the rows that are given, and these rise, the table holds them
module _ {X : Type 0} {IsSaid : X → Type 0} (t : Table IsSaid) (sql : List ℕ) (names : List (List ℕ))
    (asks : Asks sql (from_table t.tree [] t.columns rising (negsuc 0)) names) (old new : State) (has : old.now.schema ≡ kt_schema)
    (rows : List Row) (h : Shown sql [] old new rows) where
  abbrev pub AreThese : List X → Type 0
  AreThese xs = AllByRecursion IsSaid xs × (rows ≡ map t.given xs)

  pub these_held : (xs : List X) (a b : Bool) → IsTrue a → (IsTrue a ↔ AreThese xs) → (IsTrue b ↔ IsAscending (λ (x y : X). t.before x y ≡ true) xs)
      → IsTrue b ↔ HoldsAll t (old.now.trees t.tree) xs
  these_held xs a b told these up = (
    λ is.
        let at = these.0 told in
        let bag = shown_bag t.tree t.columns old.now.trees rows (answered sql [] old new _ names asks has rows h) in
        let seen : IsPermutation (map t.shown (old.now.trees t.tree)) (map t.given xs) =
        subst₂ IsPermutation (map_same _ t.shown (t.shows []) (old.now.trees t.tree)) at.1 bag in
        record { shown = IsPermutation-sym _ _ seen; said = at.0; rise = up.0 is },
    λ held. up.1 held.rise,
  )

  pub these_untold : (xs : List X) (a : Bool) → a ≡ false → (IsTrue a ↔ AreThese xs) → HoldsAll t (old.now.trees t.tree) xs → ⊥
  these_untold xs a none these held = false≢true (sym none ∙ these.1 (held.said, all_found t sql names asks old new has rows h xs held))

-- ---- one look after another

-- tables of the version were found, and are as they were
pub record IsFound (version : ℕ) (old mid : State) : Type 0 where
  pub was : IsVersion version old.now
  pub is : IsVersion version mid.now
  pub same : mid.now ≡ old.now
  pub settled : IsSettled mid

pub found : (version : ℕ) (old mid : State) → Looks old mid → HasCleanDisk mid → (old.now.schema ≡ kt_schema → IsTrue mid.is_open)
    → (IsTrue old.is_open → IsSettled old) → IsVersion version old.now → IsFound version old mid
found version old mid looks clean on settled was =
    let stays = looks.stays clean (on was.schema) in
    let it = stays.rest (settled stays.was_open) was.schema in
    record { was = was; is = subst (IsVersion version) (sym it.0) was; same = it.0; settled = it.1 }

module _ (old mid two : State) (c : Content) (f : IsFound old_version old mid) where
  -- both tables hold what is there
  pub old_told : two.now ≡ mid.now → HoldsOldNodes (mid.now.trees 0) c.nodes → (b : Bool) → (IsTrue b ↔ HoldsBoard (two.now.trees 1) c.board)
      → IsTrue b ↔ IsOldOf old.now c
  old_told next nodes b is = (
    λ t. record {
      version = f.was;
      nodes = subst (λ (d : Database). HoldsOldNodes (d.trees 0) c.nodes) f.same nodes;
      board = subst (λ (d : Database). HoldsBoard (d.trees 1) c.board) (next ∙ f.same) (is.0 t);
    },
    λ h. is.1 (subst (λ (d : Database). HoldsBoard (d.trees 1) c.board) (sym (next ∙ f.same)) h.board),
  )

  -- the first does not
  pub old_untold : (b : Bool) → b ≡ false → (IsTrue b ↔ HoldsOldNodes (mid.now.trees 0) c.nodes) → IsOldOf old.now c → ⊥
  old_untold b none is h =
      let bad : IsTrue b = is.1 (subst (λ (d : Database). HoldsOldNodes (d.trees 0) c.nodes) (sym f.same) h.nodes) in absurd cc
