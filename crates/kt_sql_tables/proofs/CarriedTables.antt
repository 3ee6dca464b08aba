-- What all statements together make of the tables.
-- Cited by `carrying::put_in_one`, `opened::put_version`.
use Rattle.std.proofs.Common.{◌≡◌, ◌≢◌, ◌⊎◌, inl, inr, ℕ, ◌<◌, ℤ, pos, true, false, not, cond, List, [], ◌∷◌, ◌++◌, append-nil, map}
use Rattle.std.proofs.Common.{Ok, refl, sym, ap, subst, ◌∙◌, arith}
use Rattle.std.specs.Prelude.{IsPermutation}
use Rattle.std.specs.List.{AllByRecursion}
use Rattle.std.specs.Ordering.{int_eq}
use Rattle.std.proofs.lemmas.Int.{ints}
use Rattle.std.proofs.lemmas.List.Sorted.{IsPermutation-refl, IsPermutation-trans, IsPermutation-sym, IsPermutation-cons, IsPermutation-middle}
use Rattle.std.proofs.lemmas.List.Sorted.{IsPermutation-map}
use Rattle.sqlite.specs.declared.types.Value.{Value}
use Rattle.sqlite.specs.declared.types.Value.TheVariants.{Int}
use Rattle.sqlite.specs.Order.{Row}
use Rattle.sqlite_value.proofs.OrderLemmas.{value_cmp-Int}
use Rattle.sqlite_trees.specs.Tree.{rowid, has_rowid, put_row, without_rowid}
use Rattle.sqlite_trees.proofs.ListLemmas.{all-permutation}
use Rattle.sqlite.specs.Effect.{Database, IsDatabase}
use Rattle.sqlite_catalog.specs.Listing.{IsSound}
use Rattle.sqlite.specs.State.{State, Executes}
use Rattle.sqlite_keyed.proofs.ListLemmas.{all-filter, all_weaker, all_both, all_unmap, IsPermutation-filter}
use Rattle.kt_sql_tables.specs.Schema.{kt_schema}
use Rattle.kt_sql_tables.specs.Opened.{meta_shown, meta_of, old_version, this_version, HasNoRow, IsOldVersion, IsThisVersion}
use Rattle.kt_sql_tables.specs.Rows.{whole, node_shown}
use Rattle.kt_sql_tables.proofs.PutLemmas.{AreNumbered, put_ran}
use Rattle.kt_sql_tables.specs.declared.cells.NodeCells.{NodeCells}
use Rattle.kt_sql_tables.specs.Cells.{cells_given}
use Rattle.kt_sql_tables.specs.auxiliary.Carrying.{cells_stored, RiseById, AreShown, put_all, HasTable, AllPut, IsOld, AreNewTrees}
use Rattle.kt_sql_tables.specs.auxiliary.Text.{first_meta_text}
use Rattle.kt_store.specs.Content.{empty_content}
use Rattle.kt_sql_tables.specs.Stored.{IsStoreOf}
use Rattle.kt_sql_tables.proofs.HeldLemmas.{empty_store}
use Rattle.kt_sql_tables.proofs.MadeLemmas.{meta_row, puts_meta}
use Rattle.kt_sql_tables.proofs.CarriedRows.{HasKey, put_over, over_front, gone}

abbrev pub ids : List NodeCells → List ℕ
ids = map (λ (c : NodeCells). c.id)

-- the rows that have none of these keys
abbrev spared : List ℕ → List Row → List Row
spared [] rows = rows
spared (k ∷ ks) rows = spared ks (without_rowid (pos k) rows)

spared_bag : (ks : List ℕ) (a b : List Row) → IsPermutation a b → IsPermutation (spared ks a) (spared ks b)
spared_bag [] a b h = h
spared_bag (k ∷ ks) a b h = spared_bag ks _ _ (IsPermutation-filter (λ r. not (has_rowid (pos k) r)) _ _ h)

apart : (a b : ℕ) → a < b → int_eq (pos a) (pos b) ≡ false
apart a b h = grind (arith, ints, h)

itself : (a : ℕ) → int_eq (pos a) (pos a) ≡ true
itself a = grind (arith, ints)

other_key : (c d : NodeCells) → c.id < d.id → has_rowid (pos d.id) (cells_stored c) ≡ false
other_key c d h = rw value_cmp-Int (apart c.id d.id h)

pub own_key : (k : ℕ) (r : Row) → rowid r ≡ Int (pos k) → has_rowid (pos k) r ≡ true
own_key k r is = rw (is, value_cmp-Int) (itself k)

spared_first : (cs : List NodeCells) (c : NodeCells) (rows : List Row) → AllByRecursion (λ (d : NodeCells). c.id < d.id) cs
    → spared (ids cs) (cells_stored c ∷ rows) ≡ cells_stored c ∷ spared (ids cs) rows
spared_first [] c rows above = refl
spared_first (d ∷ ds) c rows above =
    let left = without_rowid (pos d.id) rows in
    ap (λ b. spared (ids ds) (cond (not b) (cells_stored c ∷ left) left)) (other_key c d above.0) ∙ spared_first ds c left above.1

behind : (xs a b : List Row) → IsPermutation a b → IsPermutation (xs ++ a) (xs ++ b)
behind [] a b h = h
behind (x ∷ xs) a b h = IsPermutation-cons x _ _ (behind xs a b h)

-- then the table has these rows, and those that have none of their keys
put_all_is : (cs : List NodeCells) (rows : List Row) → RiseById cs → IsPermutation (map cells_stored cs ++ spared (ids cs) rows) (put_all cs rows)
put_all_is [] rows rise = IsPermutation-refl rows
put_all_is (c ∷ cs) rows rise =
    let front = map cells_stored cs in
    let rest = spared (ids cs) (without_rowid (pos c.id) rows) in
    let after = spared (ids cs) (put_over c rows) in
    let moved : IsPermutation (cells_stored c ∷ rest) after =
    subst (λ l. IsPermutation l after) (spared_first cs c _ rise.0) (spared_bag (ids cs) _ _ (over_front c rows)) in
    IsPermutation-trans _ _ _ (IsPermutation-sym _ _ (IsPermutation-middle front (cells_stored c) rest))
    (IsPermutation-trans _ _ _ (behind front _ _ moved) (put_all_is cs (put_over c rows) rise.1))

-- ---- where each row has one of the keys

abbrev IsAmong : List ℕ → Value → Type 0
IsAmong [] v = ⊥
IsAmong (k ∷ ks) v = (v ≡ Int (pos k)) ⊎ IsAmong ks v

among_keyed : (ks : List ℕ) (v : Value) → IsAmong ks v → (k : ℤ) × (v ≡ Int k)
among_keyed [] v h = absurd h
among_keyed (k ∷ ks) v (inl is) = (pos k, is)
among_keyed (k ∷ ks) v (inr later) = among_keyed ks v later

later_one : (k : ℕ) (ks : List ℕ) (r : Row) → has_rowid (pos k) r ≡ false → IsAmong (k ∷ ks) (rowid r) → IsAmong ks (rowid r)
later_one k ks r none (inl is) = absurd (let has = own_key k r is in cc)
later_one k ks r none (inr later) = later

none_spared : (ks : List ℕ) (rows : List Row) → AllByRecursion (λ r. IsAmong ks (rowid r)) rows → spared ks rows ≡ []
none_spared [] [] all = refl
none_spared [] (r ∷ rows) all = absurd all.0
none_spared (k ∷ ks) rows all =
    none_spared ks (without_rowid (pos k) rows)
    (all_both _ _ _ (λ r none among. later_one k ks r none among) _ (gone (pos k) rows)
    (all-filter (λ r. IsAmong (k ∷ ks) (rowid r)) (λ r. not (has_rowid (pos k) r)) rows all))

keys_among : (cells : List NodeCells) (olds : List Row) → map (λ (r : Row). rowid r) olds ≡ map (λ (c : NodeCells). whole c.id) cells
    → AllByRecursion (λ r. IsAmong (ids cells) (rowid r)) olds
keys_among [] [] same = tt
keys_among [] (o ∷ olds) same = absurd cc
keys_among (c ∷ cells) [] same = absurd cc
keys_among (c ∷ cells) (o ∷ olds) same =
    let first : rowid o ≡ whole c.id = cc in
    let later : map (λ (r : Row). rowid r) olds ≡ map (λ (c : NodeCells). whole c.id) cells = cc in
    (inl first, all_weaker _ _ (λ r among. inr among) _ (keys_among cells olds later))

pub olds_among : (db : Database) (cells : List NodeCells) → IsOld db cells → AllByRecursion (λ r. IsAmong (ids cells) (rowid r)) (db.trees 0)
olds_among db cells h =
    all_unmap (λ r. IsAmong (ids cells) (rowid r)) node_shown (db.trees 0)
    (all-permutation (λ r. IsAmong (ids cells) (rowid r)) _ _ h.nodes (keys_among cells h.olds h.keys))

pub has_table : (db : Database) (cells : List NodeCells) → IsOld db cells → HasTable db
has_table db cells h = record {
  schema = h.version.schema;
  numbered = all_weaker _ HasKey (λ r among. among_keyed _ (rowid r) among) _ (olds_among db cells h);
}

shown_stored : (cs : List NodeCells) → map node_shown (map cells_stored cs) ≡ map cells_given cs
shown_stored [] = refl
shown_stored (c ∷ cs) = ap (λ l. cells_given c ∷ l) (shown_stored cs)

-- where the keys are the same, the table has just the new rows
pub all_shown : (db : Database) (cells : List NodeCells) → RiseById cells → IsOld db cells → AreShown cells (put_all cells (db.trees 0))
all_shown db cells rise h =
    let rows = db.trees 0 in
    let none = none_spared (ids cells) rows (olds_among db cells h) in
    let put : IsPermutation (map cells_stored cells) (put_all cells rows) =
    subst (λ l. IsPermutation l (put_all cells rows)) (ap (λ l. map cells_stored cells ++ l) none ∙ append-nil _) (put_all_is cells rows rise) in
    subst (λ l. IsPermutation l (map node_shown (put_all cells rows))) (shown_stored cells) (IsPermutation-map node_shown _ _ put)

-- ---- the version

-- the one row that says the version is numbered 1
pub only_meta : (rows : List Row) → map meta_shown rows ≡ meta_of old_version ∷ [] → AreNumbered rows × (without_rowid (pos 1) rows ≡ [])
only_meta [] h = absurd cc
only_meta (r ∷ []) h =
    let at : rowid r ≡ whole 1 = cc in
    (numbers r at, rw (own_key 1 r at) refl)
  where
    numbers : (r : Row) → rowid r ≡ whole 1 → AreNumbered (r ∷ [])
    numbers r at s (inl is) = (pos 1, subst (λ t. rowid t ≡ whole 1) (sym is) at)
    numbers r at s (inr none) = absurd none
only_meta (r ∷ s ∷ more) h = absurd cc

-- what one statement did to the version
abbrev pub DidVersion : Database → Database → Type 0
DidVersion b d = (d.schema ≡ kt_schema) × (map meta_shown (d.trees 2) ≡ meta_of this_version ∷ []) × ((m : ℕ) → m ≢ 2 → d.trees m ≡ b.trees m)
    × IsDatabase d

pub put_version_does : (old new : State) (count : ℕ) → old.now.schema ≡ kt_schema → map meta_shown (old.now.trees 2) ≡ meta_of old_version ∷ []
    → Executes first_meta_text [] old new (Ok count) → DidVersion old.now new.now
put_version_does old new count has meta h =
    let only = only_meta (old.now.trees 2) meta in
    let put = put_ran puts_meta old has only.0 new count h in
    (put.schema, ap (map meta_shown) (put.rows ∙ ap (put_row meta_row) only.1), λ m apart. put.others m apart, put.sound)

-- where no table but the third has a row, they are as those that were just made
pub raised_made : (old new : State) (count : ℕ) → IsOldVersion old.now → HasNoRow old.now → Executes first_meta_text [] old new (Ok count)
    → IsThisVersion new.now × (new.now.trees 0 ≡ []) × (new.now.trees 1 ≡ [])
raised_made old new count version none h =
    let did = put_version_does old new count version.schema version.meta h in (
      record { schema = did.0; meta = did.1 },
      did.2 0 (λ same. absurd cc) ∙ none.nodes,
      did.2 1 (λ same. absurd cc) ∙ none.board,
    )

-- and that is an empty store
pub raised_store : (old new : State) (count : ℕ) → IsOldVersion old.now → HasNoRow old.now → Executes first_meta_text [] old new (Ok count)
    → IsStoreOf new.now.trees empty_content
raised_store old new count version none h =
    let did = raised_made old new count version none h in
    empty_store new.now (put_version_does old new count version.schema version.meta h).3 did.0 did.1 did.2

-- ---- all of it

-- the version is still 1 where rows of the nodes alone were put
pub still_meta : (cells : List NodeCells) (a b : Database) → IsOld a cells → AllPut cells a b → map meta_shown (b.trees 2) ≡ meta_of old_version ∷ []
still_meta cells a b is put = ap (map meta_shown) (put.others 2 (λ same. absurd cc)) ∙ is.version.meta

pub all_done : (old mid last : Database) (cells : List NodeCells) → IsOld old cells → RiseById cells → AllPut cells old mid → DidVersion mid last
    → (last.schema ≡ kt_schema) × AreNewTrees cells old.trees last.trees
all_done old mid last cells is rise put raised = (
  raised.0,
  record {
    nodes = subst (AreShown cells) (sym (raised.2 0 (λ same. absurd cc) ∙ put.nodes)) (all_shown old cells rise is);
    board = raised.2 1 (λ same. absurd cc) ∙ put.others 1 (λ same. absurd cc);
    meta = raised.1;
    lists = subst (λ schema. IsSound schema last.trees) raised.0 raised.3;
  },
)
