-- What is carried over holds the content.
-- Cited by `carrying::all_cells_of`, `carrying::carried`, `ready::readied`.
use Rattle.std.proofs.Common.{◌≡◌, ◌⊎◌, inl, inr, ℕ, pos, ◌<◌, ◌+◌, Bool, true, false, not, List, [], ◌∷◌, ◌++◌, map, get_or, length, take, Option, zero, suc}
use Rattle.std.proofs.Common.{refl, sym, ap, ap₂, subst, ◌∙◌, arith}
use Rattle.std.specs.Prelude.{◌↔◌, IsPermutation, IsTrue}
use Rattle.std.proofs.lemmas.List.{map-append}
use Rattle.std.specs.List.{AllByRecursion}
use Rattle.sqlite.specs.declared.types.Value.TheVariants.{Int, Blob}
use Rattle.sqlite.specs.Values.{or_null}
use Rattle.kt_ckpt.specs.declared.ckpt.Ckpt.{Ckpt}
use Rattle.kt_sql_tables.specs.declared.number.Number.{Number}
use Rattle.kt_sql_tables.proofs.CellLemmas.{spelled_given}
use Rattle.sqlite.specs.Effect.{Database}
use Rattle.sqlite.specs.Order.{Row}
use Rattle.sqlite.specs.State.{State, HasCleanDisk, Survives}
use Rattle.sqlite.specs.Tree.{Trees}
use Rattle.sqlite_trees.specs.Tree.{IsAscending, rowid}
use Rattle.sqlite_keyed.proofs.ListLemmas.{all-append}
use Rattle.kt_store.specs.declared.rows.NodeRow.{NodeRow}
use Rattle.kt_store.specs.Content.{Content}
use Rattle.kt_tuple.specs.Node.{is_before}
use Rattle.kt_sql_tables.specs.declared.cells.NodeCells.{NodeCells}
use Rattle.kt_sql_tables.specs.Cells.{cells_given}
use Rattle.kt_sql_tables.specs.Old.{AreNewOf, IsCarried, IsOldOf, IsOldRow, old_given}
use Rattle.kt_sql_tables.specs.Rows.{id_of, instance_value, node_given, node_shown, spelled, taken_checkpoint, whole, HoldsBoard, IsNodeRow, IsSpelled}
use Rattle.kt_sql_tables.specs.auxiliary.Carrying.{AreNewTrees, ArePut, IsOld, RiseById}
use Rattle.kt_sql_tables.specs.Settled.{IsSettled}
use Rattle.kt_sql_tables.proofs.CarriedLoop.{one_longer}
use Rattle.kt_sql_tables.proofs.RowLemmas.{by_id}

abbrev pub AreCellsOf : List NodeCells → List NodeRow → Type 0
AreCellsOf cells nodes = map cells_given cells ≡ map node_given nodes

same_keys : (cells : List NodeCells) (nodes : List NodeRow) → AreCellsOf cells nodes
    → map (λ (r : Row). rowid r) (map old_given nodes) ≡ map (λ (c : NodeCells). whole c.id) cells
same_keys [] [] same = refl
same_keys [] (r ∷ nodes) same = absurd cc
same_keys (c ∷ cells) [] same = absurd cc
same_keys (c ∷ cells) (r ∷ nodes) same =
    let first : cells_given c ≡ node_given r = cc in
    let later : AreCellsOf cells nodes = cc in
    let key : whole (id_of r.node) ≡ whole c.id = ap rowid (sym first) in
    ap (λ v. v ∷ map (λ (r : Row). rowid r) (map old_given nodes)) key ∙ ap (λ l. whole c.id ∷ l) (same_keys cells nodes later)

pub is_old : (db : Database) (c : Content) (cells : List NodeCells) → IsOldOf db c → AreCellsOf cells c.nodes → IsOld db cells
is_old db c cells h same = record { version = h.version; olds = map old_given c.nodes; nodes = h.nodes.shown; keys = same_keys cells c.nodes same }

same_number : (a b : ℕ) → whole a ≡ whole b → a ≡ b
same_number a b same = cc

id_is : (c : NodeCells) (r : NodeRow) → cells_given c ≡ node_given r → c.id ≡ id_of r.node
id_is c r same = same_number c.id (id_of r.node) (ap rowid same)

above : (c : NodeCells) (r : NodeRow) (cells : List NodeCells) (nodes : List NodeRow) → c.id ≡ id_of r.node → AreCellsOf cells nodes → IsOldRow r
    → AllByRecursion IsOldRow nodes → AllByRecursion (λ (b : NodeRow). is_before r.node b.node ≡ true) nodes
    → AllByRecursion (λ (d : NodeCells). c.id < d.id) cells
above c r [] nodes key same h old up = tt
above c r (d ∷ cells) [] key same h old up = absurd cc
above c r (d ∷ cells) (s ∷ nodes) key same h old up =
    let first : cells_given d ≡ node_given s = cc in
    let later : AreCellsOf cells nodes = cc in
    let number = id_is d s first in
    let less = sym (by_id r.node s.node h.node old.0.node) ∙ up.0 in
    (grind (arith, less, key, number), above c r cells nodes key later h old.1 up.1)

pub rise_by_id : (cells : List NodeCells) (nodes : List NodeRow) → AreCellsOf cells nodes → AllByRecursion IsOldRow nodes
    → IsAscending (λ (a b : NodeRow). is_before a.node b.node ≡ true) nodes → RiseById cells
rise_by_id [] nodes same old up = tt
rise_by_id (c ∷ cells) [] same old up = absurd cc
rise_by_id (c ∷ cells) (r ∷ nodes) same old up =
    let first : cells_given c ≡ node_given r = cc in
    let later : AreCellsOf cells nodes = cc in
    (above c r cells nodes (id_is c r first) later old.0 old.1 up.0, rise_by_id cells nodes later old.1 up.1)

pub new_of : (c : Content) (cells : List NodeCells) (old : Database) (new : Trees) → IsOldOf old c → AreCellsOf cells c.nodes
    → AllByRecursion IsNodeRow c.nodes → AreNewTrees cells old.trees new → AreNewOf new c
new_of c cells old new h same said made = record {
  holds = record {
    nodes = record {
      shown = subst (λ (l : List Row). IsPermutation l (map node_shown (new 0))) same made.nodes;
      said = said;
      rise = h.nodes.rise;
    };
    board = subst (λ (rows : List Row). HoldsBoard rows c.board) (sym made.board) h.board;
  };
  meta = made.meta;
  lists = made.lists;
}

pub is_carried : (c : Content) (cells : List NodeCells) (old : Database) (new : State) → IsOldOf old c → AreCellsOf cells c.nodes
    → AllByRecursion IsNodeRow c.nodes → ArePut cells old new → IsCarried new c
is_carried c cells old new h same said put =
    let made = new_of c cells old new.now.trees h same said put.trees in
    record {
      is_open = put.is_open;
      settled = put.settled;
      version = record { schema = put.schema; meta = made.meta };
      holds = made.holds;
    }

-- ---- the cells of one row

pub cells_are : (r : NodeRow) (c : NodeCells) (taken : Option Ckpt) → IsOldRow r → c.id ≡ id_of r.node → c.incarnation.value ≡ r.incarnation
    → IsSpelled r.permanent → or_null (λ b. Blob b.items) c.permanent ≡ spelled r.permanent → taken ≡ taken_checkpoint r.tentative → IsSpelled taken
    → or_null (λ b. Blob b.items) c.tentative ≡ spelled taken → or_null (λ (n : Number). Int (pos n.value)) c.instance ≡ instance_value r.tentative
    → IsNodeRow r × (cells_given c ≡ node_given r)
cells_are r c taken old id incarnation fits permanent is fits-2 tentative instance = (
  record { node = old.node; first = old.first; last = old.last; permanent = fits; tentative = (subst IsSpelled is fits-2, old.instance) },
  spelled_given c r (record { id = id; incarnation = incarnation; permanent = permanent; tentative = tentative ∙ ap spelled is; instance = instance }),
)

-- ---- the cells of all rows

-- those of the first rows
abbrev pub AreFirstCells : List NodeRow → ℕ → List NodeCells → Type 0
AreFirstCells rows i cells = AllByRecursion IsNodeRow (take i rows) × AreCellsOf cells (take i rows)

at_place : (P : NodeRow → Type 0) (rows : List NodeRow) (i : ℕ) (d : NodeRow) → i < length rows → AllByRecursion P rows → P (get_or rows i d)
at_place P [] i d within all = absurd (omega (arith, within))
at_place P (r ∷ rows) zero d within all = all.0
at_place P (r ∷ rows) (suc i) d within all = at_place P rows i d (omega (arith, within)) all.1

pub cells_more : (rows : List NodeRow) (i : ℕ) (row : NodeRow) (cells : List NodeCells) (one : NodeCells) → row ≡ get_or rows i row → i < length rows
    → (IsOldRow row → IsNodeRow row × (cells_given one ≡ node_given row)) → AllByRecursion IsOldRow rows → AreFirstCells rows i cells
    → AreFirstCells rows (i + 1) (cells ++ one ∷ [])
cells_more rows i row cells one is within given old first =
    let this = given (subst IsOldRow (sym is) (at_place IsOldRow rows i row within old)) in
    subst (λ (l : List NodeRow). AllByRecursion IsNodeRow l × AreCellsOf (cells ++ one ∷ []) l) (one_longer rows i row is within) (
      all-append IsNodeRow (take i rows) (row ∷ []) first.0 (this.0, tt),
      map-append cells_given cells (one ∷ []) ∙ ap₂ ◌++◌ first.1 (ap (λ (v : Row). v ∷ []) this.1) ∙ sym (map-append node_given (take i rows) (row ∷ [])),
    )

-- the rows are those of these nodes, and the cells those that are lent
pub cells_for : (seen nodes : List NodeRow) (lent cells : List NodeCells) → seen ≡ nodes → lent ≡ cells
    → (AllByRecursion IsOldRow seen → AllByRecursion IsNodeRow seen × AreCellsOf cells seen) → AllByRecursion IsOldRow nodes
    → AllByRecursion IsNodeRow nodes × AreCellsOf lent nodes
cells_for seen nodes lent cells is same given olds =
    let it = given (subst (AllByRecursion IsOldRow) (sym is) olds) in
    subst (λ (l : List NodeRow). AllByRecursion IsNodeRow l × AreCellsOf lent l) is
    (it.0, subst (λ (cs : List NodeCells). AreCellsOf cs seen) (sym same) it.1)

-- ---- from the look to the end

-- outside a transaction what is seen is what was committed
pub was_settled : (s : State) (b : Bool) → b ≡ not s.in_transaction → (IsTrue b → IsTrue s.is_open → s.now ≡ s.committed) → s.in_transaction ≡ false
    → IsTrue s.is_open → IsSettled s
was_settled s b is same autocommit on = record { autocommit = autocommit; same = same (is ∙ ap not autocommit) on }

-- tables of version 1 that hold the content were found
pub record IsToCarry (old mid : State) (c : Content) : Type 0 where
  pub was_open : IsTrue old.is_open
  pub same : mid.now ≡ old.now
  pub settled : IsSettled mid
  pub was : IsOldOf old.now c
  pub is : IsOldOf mid.now c

pub to_carry : (old mid : State) (c : Content) (told : Bool) → IsTrue told → HasCleanDisk mid → (IsTrue old.is_open → IsSettled old)
    → (IsTrue told → IsTrue mid.is_open) → (HasCleanDisk mid → IsTrue mid.is_open → IsTrue old.is_open)
    → (HasCleanDisk mid → IsTrue mid.is_open → IsSettled old → (mid.now ≡ old.now) × IsSettled mid) → (IsTrue told ↔ IsOldOf old.now c)
    → IsToCarry old mid c
to_carry old mid c told is clean settled opened was_open same value =
    let on = opened is in
    let before = was_open clean on in
    let it = same clean on (settled before) in
    let held = value.0 is in
    record { was_open = before; same = it.0; settled = it.1; was = held; is = subst (λ (d : Database). IsOldOf d c) (sym it.0) held }

-- what a stop leaves after it
pub stop_leaves : (old mid end : State) (c : Content) (cells : List NodeCells) → IsOldOf mid.now c → AreCellsOf cells c.nodes
    → AllByRecursion IsNodeRow c.nodes → ((db : Trees) → old.may_leave db → db ≡ old.committed.trees)
    → ((db : Trees) → mid.may_leave db → old.may_leave db) → Survives mid end (AreNewTrees cells mid.now.trees) → HasCleanDisk end
    → (db : Trees) → end.may_leave db → (db ≡ old.committed.trees) ⊎ AreNewOf db c
stop_leaves old mid end c cells held same said law leaves survives clean db may = elim (survives.crash clean db may) [
  | inl before ↦ inl (law db (leaves db before))
  | inr made ↦ inr (new_of c cells mid.now db held same said made)
]

pub stop_lasts : (mid end : State) (c : Content) (cells : List NodeCells) → IsOldOf mid.now c → AreCellsOf cells c.nodes
    → AllByRecursion IsNodeRow c.nodes → ((db : Trees) → IsTrue end.is_open → end.may_leave db → db ≡ end.committed.trees)
    → ArePut cells mid.now end → (db : Trees) → end.may_leave db → AreNewOf db c
stop_lasts mid end c cells held same said law put db may =
    let is = law db put.is_open may ∙ sym (ap (λ (d : Database). d.trees) put.settled.same) in
    subst (λ (t : Trees). AreNewOf t c) (sym is) (new_of c cells mid.now end.now.trees held same said put.trees)
