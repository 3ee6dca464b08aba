-- What a statement that puts a row makes of the nodes, whatever stood there.
-- Cited by CarriedLoop, CarriedTables, `carrying::put_rows`.
use Rattle.std.proofs.Common.{◌≡◌, ◌≢◌, inl, inr, ℕ, ℤ, pos, Bool, true, false, not, cond, List, [], ◌∷◌, ◌++◌, filter, Option}
use Rattle.std.proofs.Common.{None, Some, Ok, refl, sym, ap, subst, ◌∙◌, Ordering, Less, Equal, Greater}
use Rattle.std.specs.Prelude.{IsPermutation}
use Rattle.std.specs.List.{AllByRecursion}
use Rattle.std.specs.Ordering.{match_ordering, is_eq}
use Rattle.std.proofs.lemmas.Bool.{not-true}
use Rattle.std.proofs.lemmas.List.Sorted.{IsPermutation-refl, IsPermutation-trans, IsPermutation-sym, IsPermutation-cons, IsPermutation-middle}
use Rattle.sqlite.specs.declared.types.Value.{Value}
use Rattle.sqlite.specs.declared.types.Value.TheVariants.{Null, Int}
use Rattle.sqlite.specs.Order.{Row}
use Rattle.sqlite_value.specs.Order.{value_cmp}
use Rattle.sqlite.specs.Kind.TheVariants.{Integer}
use Rattle.sqlite.specs.Ops.{unary}
use Rattle.sqlite.specs.Values.{or_null}
use Rattle.sqlite_trees.specs.Tree.{rowid, has_rowid, put_row, without_rowid}
use Rattle.sqlite_trees.proofs.ListLemmas.{all-permutation}
use Rattle.sqlite.specs.Cast.{cast}
use Rattle.sqlite_rules.specs.Cast.{cast_row}
use Rattle.sqlite_rules.specs.Lists.{Has}
use Rattle.sqlite.specs.State.{State, Executes}
use Rattle.sqlite_keyed.proofs.ListLemmas.{all-filter, all_weaker}
use Rattle.kt_sql_tables.specs.Schema.{kt_schema, node_table}
use Rattle.kt_sql_tables.specs.auxiliary.Text.{put_node_text}
use Rattle.kt_sql_tables.specs.Rows.{whole}
use Rattle.kt_sql_tables.proofs.PutLemmas.{AreNumbered, PutsInto, put_ran}
use Rattle.kt_sql_tables.proofs.Texts.{node_terms, put_node_is, put_node_plain}
use Rattle.kt_sql_tables.specs.declared.cells.NodeCells.{NodeCells}
use Rattle.kt_sql_tables.specs.declared.number.Number.{Number}
use Rattle.kt_sql_tables.specs.Cells.{cells_given}
use Rattle.kt_sql_tables.specs.auxiliary.Carrying.{cells_stored, put_all, HasTable}

-- ---- each row has a key

abbrev pub HasKey : Row → Type 0
HasKey r = (k : ℤ) × (rowid r ≡ Int k)

had : {X : Type 0} (P : X → Type 0) (xs : List X) → AllByRecursion P xs → (x : X) → Has xs x → P x
had P [] all x has = absurd has
had P (y ∷ ys) all x (inl here) = subst P (sym here) all.0
had P (y ∷ ys) all x (inr later) = had P ys all.1 x later

pub numbered : (rows : List Row) → AllByRecursion HasKey rows → AreNumbered rows
numbered rows all = had HasKey rows all

-- a row is put first or later, where no other has its key
pub put_front : (new : Row) (key : ℤ) → rowid new ≡ Int key → (rows : List Row) → AllByRecursion (λ r. has_rowid key r ≡ false) rows
    → IsPermutation (new ∷ rows) (put_row new rows)
put_front new key at [] none = IsPermutation-refl _
put_front new key at (r ∷ rows) none =
    there (value_cmp (rowid r) (rowid new)) (ap (λ v. is_eq (value_cmp (rowid r) v)) at ∙ none.0) (put_front new key at rows none.1)
  where
    there : (o : Ordering) → is_eq o ≡ false → IsPermutation (new ∷ rows) (put_row new rows)
        → IsPermutation (new ∷ r ∷ rows) (match_ordering o (r ∷ put_row new rows) (new ∷ rows) (new ∷ r ∷ rows))
    there Less apart later = IsPermutation-trans _ _ _ (IsPermutation-sym _ _ (IsPermutation-middle (r ∷ []) new rows)) (IsPermutation-cons r _ _ later)
    there Equal apart later = absurd cc
    there Greater apart later = IsPermutation-refl _

passing : {X : Type 0} (p : X → Bool) (xs : List X) → AllByRecursion (λ x. p x ≡ true) (filter p xs)
passing p [] = tt
passing {X} p (x ∷ xs) = by (p x) refl (passing p xs)
  where
    by : (b : Bool) → p x ≡ b → AllByRecursion (λ (y : X). p y ≡ true) (filter p xs)
        → AllByRecursion (λ (y : X). p y ≡ true) (cond b (x ∷ filter p xs) (filter p xs))
    by true is later = (is, later)
    by false is later = later

pub gone : (key : ℤ) (rows : List Row) → AllByRecursion (λ r. has_rowid key r ≡ false) (without_rowid key rows)
gone key rows = all_weaker _ _ (λ r is. not-true (has_rowid key r) is) _ (passing (λ r. not (has_rowid key r)) rows)

-- a row is put in place of the one that has its key
abbrev pub put_over : NodeCells → List Row → List Row
put_over c rows = put_row (cells_stored c) (without_rowid (pos c.id) rows)

pub over_front : (c : NodeCells) (rows : List Row) → IsPermutation (cells_stored c ∷ without_rowid (pos c.id) rows) (put_over c rows)
over_front c rows = put_front (cells_stored c) (pos c.id) refl _ (gone (pos c.id) rows)

pub over_keyed : (c : NodeCells) (rows : List Row) → AllByRecursion HasKey rows → AllByRecursion HasKey (put_over c rows)
over_keyed c rows all =
    all-permutation HasKey _ _ (over_front c rows) ((pos c.id, refl), all-filter HasKey (λ r. not (has_rowid (pos c.id) r)) rows all)

pub all_keyed : (cs : List NodeCells) (rows : List Row) → AllByRecursion HasKey rows → AllByRecursion HasKey (put_all cs rows)
all_keyed [] rows all = all
all_keyed (c ∷ cs) rows all = all_keyed cs (put_over c rows) (over_keyed c rows all)

-- one more
pub put_all_more : (cs : List NodeCells) (c : NodeCells) (rows : List Row) → put_all (cs ++ c ∷ []) rows ≡ put_over c (put_all cs rows)
put_all_more [] c rows = refl
put_all_more (d ∷ cs) c rows = put_all_more cs c (put_over d rows)

-- ---- what the columns keep

either : (b : Bool) (x : Value) → cond b x x ≡ x
either true x = refl
either false x = refl

pub cast_whole : (n : ℕ) → cast Integer (whole n) ≡ whole n
unfolding unary
cast_whole n = either _ (whole n)

pub cast_null : cast Integer Null ≡ Null
unfolding unary
cast_null = either _ Null

cast_some : (n : Option Number) → cast Integer (or_null (λ (n : Number). whole n.value) n) ≡ or_null (λ (n : Number). whole n.value) n
cast_some None = cast_null
cast_some (Some n) = cast_whole n.value

pub cast_cells : (c : NodeCells) → cast_row node_table (cells_stored c) ≡ cells_stored c
cast_cells c = rw (cast_whole c.id, cast_null, cast_whole c.incarnation.value, cast_some c.instance) refl

-- ---- the row of a node

puts_cells : (c : NodeCells) → PutsInto 0 put_node_text (cells_given c) (cells_stored c) (pos c.id)
puts_cells c = record {
  name = node_table.name;
  columns = node_table.columns;
  terms = node_terms;
  width = 6;
  at = refl;
  is = put_node_is;
  plain = put_node_plain;
  given = refl;
  numbered = refl;
  mends = cast_cells c;
  fixed = cast_cells c;
}

pub put_row_does : (old new : State) (c : NodeCells) (count : ℕ) → HasTable old.now → Executes put_node_text (cells_given c) old new (Ok count)
    → (new.now.schema ≡ kt_schema) × (new.now.trees 0 ≡ put_over c (old.now.trees 0)) × ((m : ℕ) → m ≢ 0 → new.now.trees m ≡ old.now.trees m)
put_row_does old new c count has h =
    let put = put_ran (puts_cells c) old has.schema (numbered (old.now.trees 0) has.numbered) new count h in
    (put.schema, put.rows, λ m apart. put.others m apart)
