-- What tables hold, read back.
-- Cited by CarriedTables, MadeLemmas, TabledLemmas, `ready::readied`; other crates.
use Rattle.std.proofs.Common.{◌≡◌, true, List, [], ◌∷◌, map, refl, sym, ap, ap₂, subst, ◌∙◌, arith, Less, IsPermutation}
use Rattle.std.specs.Ordering.{on, nat_cmp}
use Rattle.std.specs.declared.cmp.Ordering.{Ordering}
use Rattle.std.proofs.lemmas.Cmp.{nat_cmp_total, on_total}
use Rattle.std.proofs.lemmas.List.Sorted.{IsPermutation-map}
use Rattle.sqlite_keyed.specs.Lists.{sort_by}
use Rattle.sqlite_keyed.proofs.ListLemmas.{all_both, IsPermutation-same}
use Rattle.sqlite.specs.State.{State}
use Rattle.kt_sql_tables.specs.Opened.{IsReady}
use Rattle.kt_sql_tables.specs.Rows.{Holds, content_in, by_node, by_instance, node_in, node_shown, instance_row_in, instance_row_shown}
use Rattle.kt_sql_tables.proofs.OrderLemmas.{sorted_again}
use Rattle.kt_store.specs.declared.rows.NodeRow.{NodeRow}
use Rattle.kt_store.specs.declared.rows.InstanceRow.{InstanceRow}
use Rattle.kt_store.specs.Content.{Content, empty_content}
use Rattle.std.specs.List.{AllByRecursion}
use Rattle.sqlite.specs.Order.{Row}
use Rattle.sqlite_trees.specs.Tree.{IsAscending}
use Rattle.kt_sql_tables.specs.Made.{IsMade}
use Rattle.kt_sql_tables.specs.Opened.{IsThisVersion}
use Rattle.kt_sql_tables.specs.Stored.{IsStoreOf}
use Rattle.sqlite.specs.Effect.{Database, IsDatabase}
use Rattle.sqlite_catalog.specs.Listing.{IsSound}
use Rattle.sqlite.specs.Tree.{Trees}
use Rattle.kt_sql_tables.proofs.RowLemmas.{map_back, row_back, instance_row_back}
use Rattle.kt_sql_tables.proofs.TableRows.{Table, HoldsAll, nodes_table, instance_row_table}

-- what a table holds is read back
module _ {X : Type 0} {IsSaid : X → Type 0} (t : Table IsSaid) where
  abbrev by_key : X → X → Ordering
  by_key = on t.number nat_cmp

  rises_by : (xs : List X) → AllByRecursion IsSaid xs → IsAscending (λ a b. t.before a b ≡ true) xs → IsAscending (λ a b. by_key a b ≡ Less) xs
  rises_by [] good up = tt
  rises_by (x ∷ xs) good up = (
    all_both _ _ _ (λ y is first. let n = sym (t.by_number x y good.0 is) ∙ first in grind (arith, n)) xs good.1 up.0,
    rises_by xs good.1 up.1,
  )

  read_back : (back : Row → X) → ((x : X) → IsSaid x → back (t.given x) ≡ x) → {rows : List Row} (xs : List X) → HoldsAll t rows xs
      → sort_by by_key (map back (map t.shown rows)) ≡ xs
  read_back back same {rows} xs held =
      sorted_again by_key (on_total t.number nat_cmp_total) (map back (map t.shown rows)) xs (rises_by xs held.said held.rise)
      (subst (λ l. IsPermutation l (map back (map t.shown rows))) (map_back IsSaid t.given back same xs held.said) (IsPermutation-map back _ _ held.shown))

pub holds_content : {db : Trees} (c : Content) → Holds db c → content_in db ≡ c
holds_content c h =
    ap₂ (λ (ns : List NodeRow) (ps : List InstanceRow). let whole : Content = record { nodes = ns; board = ps } in whole)
    (read_back nodes_table node_in row_back c.nodes h.nodes) (read_back instance_row_table instance_row_in instance_row_back c.board h.board)

pub empty_content_in : (db : Trees) → db 0 ≡ [] → db 1 ≡ [] → content_in db ≡ empty_content
empty_content_in db none bare =
    ap₂ (λ (ns ps : List Row). let whole : Content = record {
      nodes = sort_by by_node (map node_in (map node_shown ns));
      board = sort_by by_instance (map instance_row_in (map instance_row_shown ps));
    } in whole) none bare

-- two tables without rows
pub empty_holds : (db : Trees) → db 0 ≡ [] → db 1 ≡ [] → Holds db (content_in db)
empty_holds db none bare =
    subst (Holds db) (sym (empty_content_in db none bare)) record {
      nodes = record { shown = IsPermutation-same [] _ (sym (ap (map node_shown) none)); said = tt; rise = tt };
      board = record { shown = IsPermutation-same [] _ (sym (ap (map instance_row_shown) bare)); said = tt; rise = tt };
    }

-- such tables are those of an empty store
pub empty_store : (db : Database) → IsDatabase db → IsThisVersion db → db.trees 0 ≡ [] → db.trees 1 ≡ [] → IsStoreOf db.trees empty_content
empty_store db sound version none bare = record {
  lists = subst (λ schema. IsSound schema db.trees) version.schema sound;
  meta = version.meta;
  holds = subst (Holds db.trees) (empty_content_in db.trees none bare) (empty_holds db.trees none bare);
}

-- tables that were just made
pub made_ready : (s : State) → IsMade s → IsReady s true
made_ready s m = record {
  is_open = m.is_open;
  settled = m.settled;
  version = m.version;
  trusted = (λ _. (content_in s.now.trees, empty_holds s.now.trees m.nodes m.board), λ _. refl);
}
