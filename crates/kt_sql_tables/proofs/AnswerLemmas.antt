-- What the calls on tables answer.
-- Cited by `NodeRowRecord::read`, `Tables::cells_of`, `Tables::find_instance`, `Tables::find_open`,
--   `Tables::has_no_instance_row`, `Tables::has_no_node`, `Tables::last_instance`, `Tables::nodes`,
--   `Tables::put_instance_row`, `Tables::put_node`, `Tables::rows_of`, `Tables::write_both`, `Tables::write`,
--   `carrying::carried`, `firsts::nodes_of`, `old::are_old`, `opened::answers_said`, `ready::raised`, `ready::readied`.
use Rattle.std.proofs.Common.{◌≡◌, inl, inr, ℕ, ◌≤◌, Bool, true, false, List, None, Ok, Err, Result, IfOk, IfErr, IfSome, OnOk, OnErr, arith}
use Rattle.std.proofs.Common.{option_map, slice_get, refl, sym, ap, subst, ◌∙◌, ◌==◌, ◌&&◌, map, [], ◌∷◌, cond, length, fold, max, Ordering, ◌<◌}
use Rattle.std.specs.Prelude.{IsTrue, All, AllPairs, nat_lt}
use Rattle.std.proofs.Common.{zero, suc, ◌++◌, get_or, take, take_all}
use Rattle.std.proofs.lemmas.List.{length-map}
use Rattle.sqlite.specs.Tree.{Trees}
use Rattle.sqlite_trees.specs.Tree.{IsAscending}
use Rattle.kt_tuple.specs.Node.{is_before}
use Rattle.kt_store.specs.Proper.{IsProper}
use Rattle.std.specs.List.{find, AllByRecursion}
use Rattle.sqlite.specs.Store.{Ghosts}
use Rattle.sqlite.specs.Order.{Row}
use Rattle.sqlite.specs.Effect.{Database}
use Rattle.sqlite.specs.Held.{state}
use Rattle.sqlite.specs.State.{Shown}
use Rattle.sqlite_keyed.proofs.ListLemmas.{all_weaker}
use Rattle.kt_tuple.specs.declared.node.NodeId.{NodeId}
use Rattle.kt_tuple.specs.declared.node.NodeId.TheVariants.{Worker, Shard}
use Rattle.kt_tuple.specs.Node.{node_eq}
use Rattle.kt_store.specs.declared.error.StoreError.{StoreError}
use Rattle.kt_store.specs.declared.error.StoreError.TheVariants.{Memory, Device, Damaged, Full}
use Rattle.kt_store.specs.declared.rows.NodeRow.{NodeRow}
use Rattle.kt_store.specs.declared.rows.InstanceRow.{InstanceRow}
use Rattle.kt_store.specs.Verdict.{is_open}
use Rattle.kt_store.specs.Content.{Content, greatest, is_empty}
use Rattle.kt_sql_tables.specs.Reason.{HasReason}
use Rattle.kt_sql_tables.specs.Schema.{kt_schema}
use Rattle.kt_sql_tables.specs.auxiliary.Text.{all_ids_text, put_node_text, put_instance_row_text, get_node_text, first_node_text, get_instance_row_text}
use Rattle.kt_sql_tables.specs.auxiliary.Text.{last_instance_row_text, open_instance_row_text}
use Rattle.kt_sql_tables.specs.Rows.{whole, id_of, HasId, node_given, instance_row_given, IsNodeRow, IsInstanceRow, Holds, content_in, placing}
use Rattle.kt_sql_tables.specs.auxiliary.Showing.{Gives, IsReadError, id_given, number_of}
use Rattle.kt_sql_tables.specs.Held.{Tabled, is_sure, content_of, IsKept}
use Rattle.sqlite.specs.Held.{Held}
use Rattle.sqlite.specs.State.{HasCleanDisk, CommitsBy, Executes}
use Rattle.sqlite.specs.declared.error.Error.{Error}
use Rattle.sqlite_trees.specs.View.{doubt}
use Rattle.kt_store.specs.Changes.{storing}
use Rattle.kt_sql_tables.specs.auxiliary.Looking.{Stays}
use Rattle.kt_sql_tables.proofs.StateLemmas.{executed_open, refused_stays, written_settled}
use Rattle.kt_sql_tables.specs.auxiliary.Both.{PutsBoth, RanBoth}
use Rattle.kt_sql_tables.specs.Stored.{IsStoreOf}
use Rattle.kt_sql_tables.specs.auxiliary.Changing.{Changes}
use Rattle.kt_sql_tables.specs.declared.cells.NodeCells.{NodeCells}
use Rattle.kt_sql_tables.specs.Cells.{cells_given, cells_node, AreSaid}
use Rattle.kt_sql_tables.proofs.CellLemmas.{spelled_given}
use Rattle.kt_sql_tables.proofs.TabledLemmas.{stayed, wrote}
use Rattle.kt_sql_tables.proofs.OrderLemmas.{all_inserted}
use Rattle.kt_sql_tables.proofs.WriteLemmas.{node_changes, node_commits, instance_row_changes, instance_row_commits}
use Rattle.kt_sql_tables.proofs.FoundLemmas.{ids_found, node_found, some_node_found, instance_row_found, open_found, last_found, found_is}
use Rattle.kt_sql_tables.proofs.ReadLemmas.{downwards, first_or_0, first_is_greatest}
use Rattle.sqlite_keyed.specs.Lists.{sort_by, insert_sorted}
use Rattle.std.specs.Ordering.{is_gt}

pub gives_value : {X : Type 0} (x : X) (r : Result X StoreError) → Gives x r → IfOk r (λ o. o ≡ x)
gives_value x (Ok o) h = h
gives_value x (Err e) h = tt

pub gives_memory : {X : Type 0} (x : X) (r : Result X StoreError) → Gives x r → IfErr r (λ e. e ≡ Memory)
gives_memory x (Ok o) h = tt
gives_memory x (Err e) h = h

pub through_ok : {X E : Type 0} (r : Result X E) (P Q : X → Type 0) → ((x : X) → P x → Q x) → IfOk r P → IfOk r Q
through_ok (Ok x) P Q go h = go x h
through_ok (Err e) P Q go h = tt

pub on_ok_of : {X E : Type 0} (r : Result X E) (P : X → Type 0) (A : Type 0) → ((x : X) → P x → A) → IfOk r P → OnOk r A
on_ok_of (Ok x) P A go h = go x h
on_ok_of (Err e) P A go h = tt

pub each_err : {X E : Type 0} (r : Result X E) (A : Type 0) → A → OnErr r A
each_err (Ok x) A a = tt
each_err (Err e) A a = a

pub on_err_of : {X E : Type 0} (r : Result X E) (A B : Type 0) → (A → B) → OnErr r A → OnErr r B
on_err_of (Ok x) A B go h = tt
on_err_of (Err e) A B go h = go h

pub each_on : {X E : Type 0} (r : Result X E) (A : Type 0) → A → OnOk r A
each_on (Ok x) A a = a
each_on (Err e) A a = tt

-- what holds of each holds of the answer
pub each_ok : {X E : Type 0} (r : Result X E) (P : X → Type 0) → ((x : X) → P x) → IfOk r P
each_ok (Ok x) P all = all x
each_ok (Err e) P all = tt

-- what holds where there is an answer holds of it
pub where_ok : {X E : Type 0} (r : Result X E) (A : Type 0) (P : X → Type 0) → OnOk r A → (A → IfOk r P) → IfOk r P
where_ok (Ok x) A P a go = go a
where_ok (Err e) A P a go = tt

-- a row that could not be read is damaged only where the tables are not sound
pub read_reason : {X : Type 0} (sound : Bool) (r : Result X StoreError) → IfErr r IsReadError → (sound ≡ true → IfErr r (λ e. e ≡ Memory))
    → HasReason sound r
read_reason sound (Ok x) named good = record { damaged = λ is. absurd cc; full = λ is. absurd cc }
read_reason sound (Err Memory) named good = record { damaged = λ is. absurd cc; full = λ is. absurd cc }
read_reason sound (Err Device) (inl e) good = absurd cc
read_reason sound (Err Device) (inr e) good = absurd cc
read_reason true (Err Damaged) named good = absurd (let e = good refl in cc)
read_reason false (Err Damaged) named good = record { damaged = λ is. refl; full = λ is. absurd cc }
read_reason sound (Err Full) (inl e) good = absurd cc
read_reason sound (Err Full) (inr e) good = absurd cc

module _ {S : Type 0} (g : Ghosts S) (s n : Tabled S) (kept : IsKept g n) (same : (state g n.conn).now ≡ (state g s.conn).now) where
  -- the tables were those of a store before the call too
  pub was_schema : (state g s.conn).now.schema ≡ kt_schema
  was_schema = ap (λ (d : Database). d.schema) (sym same) ∙ kept.schema

  pub was_held : Holds (state g s.conn).now.trees (content_of g s)
  was_held = subst (λ (d : Database). Holds d.trees (content_in d.trees)) same kept.store.holds

  pub node_read : (node : NodeId) (rows : List Row) → HasId node → Shown get_node_text (whole (id_of node) ∷ []) (state g s.conn) (state g n.conn) rows
      → (slice_get rows 0 ≡ option_map node_given (find (λ (r : NodeRow). node_eq r.node node) (content_of g s).nodes))
      × IfSome (find (λ (r : NodeRow). node_eq r.node node) (content_of g s).nodes) IsNodeRow
  node_read node rows low h = (
    node_found (state g s.conn) (state g n.conn) (content_of g s) was_schema was_held node low rows h,
    found_is IsNodeRow (λ (r : NodeRow). node_eq r.node node) (content_of g s).nodes was_held.nodes.said,
  )

-- a node that has no number there has no row
other : (a b : NodeId) → HasId a → ¬ HasId b → node_eq a b ≡ false
other (Worker m) (Worker n) h g = grind (arith, h, g)
other (Worker m) (Shard n) h g = refl
other (Shard m) (Worker n) h g = refl
other (Shard m) (Shard n) h g = grind (arith, h, g)

pub none_found : {X : Type 0} (p : X → Bool) (xs : List X) → AllByRecursion (λ x. p x ≡ false) xs → find p xs ≡ None
none_found p [] h = refl
none_found p (x ∷ xs) h = rw h.0 (none_found p xs h.1)

module _ {S : Type 0} (g : Ghosts S) (s : Tabled S) (kept : IsKept g s) where
  pub no_node_read : (node : NodeId) → ¬ HasId node → find (λ (r : NodeRow). node_eq r.node node) (content_of g s).nodes ≡ None
  no_node_read node none =
      none_found (λ (r : NodeRow). node_eq r.node node) (content_of g s).nodes
      (all_weaker _ _ (λ r good. other r.node node good.node none) _ kept.store.holds.nodes.said)

  pub no_instance_row_read : (i : ℕ) → greatest < i → find (λ (p : InstanceRow). p.instance == i) (content_of g s).board ≡ None
  no_instance_row_read i high =
      none_found (λ (p : InstanceRow). p.instance == i) (content_of g s).board
      (all_weaker _ _ (λ p good. let low = good.last in grind (arith, high, low)) _ kept.store.holds.board.said)

  pub no_open_read : (node : NodeId) → ¬ HasId node → find (λ (p : InstanceRow). node_eq p.initiator node && is_open p.verdict) (content_of g s).board ≡ None
  no_open_read node none =
      none_found (λ (p : InstanceRow). node_eq p.initiator node && is_open p.verdict) (content_of g s).board
      (all_weaker _ _ (λ p good. ap (λ b. b && is_open p.verdict) (other p.initiator node good.initiator none)) _ kept.store.holds.board.said)

-- ---- the first of the rows, where the greatest number comes first

all_sorted : {X : Type 0} (P : X → Type 0) (cmp : X → X → Ordering) (xs : List X) → AllByRecursion P xs → AllByRecursion P (sort_by cmp xs)
all_sorted P cmp [] h = tt
all_sorted P cmp (x ∷ xs) h = all_inserted P cmp x (sort_by cmp xs) h.0 (all_sorted P cmp xs h.1)

first_is : {X : Type 0} (P : X → Type 0) (xs : List X) → AllByRecursion P xs → IfSome (slice_get xs 0) P
first_is P [] h = tt
first_is P (x ∷ xs) h = h.0

abbrev pub sorted_board : List InstanceRow → List InstanceRow
sorted_board = sort_by (downwards (λ (p : InstanceRow). p.instance))

first_number : (ps : List InstanceRow) → number_of (slice_get ps 0) ≡ first_or_0 (λ (p : InstanceRow). p.instance) ps
first_number [] = refl
first_number (p ∷ ps) = refl

pub last_number : (ps : List InstanceRow) → number_of (slice_get (sorted_board ps) 0) ≡ fold max 0 (map (λ (p : InstanceRow). p.instance) ps)
last_number ps = first_number (sorted_board ps) ∙ first_is_greatest (λ (p : InstanceRow). p.instance) ps

-- no row is shown just where there is nothing to show
empty_where : {X : Type 0} (given : X → Row) (xs : List X) (rows : List Row) → slice_get rows 0 ≡ option_map given (slice_get xs 0)
    → (length rows == 0) ≡ is_empty xs
empty_where given [] [] h = refl
empty_where given [] (r ∷ rows) h = absurd cc
empty_where given (x ∷ xs) [] h = absurd cc
empty_where given (x ∷ xs) (r ∷ rows) h = grind arith

never_empty : (x : InstanceRow) (xs : List InstanceRow) → is_empty (insert_sorted (downwards (λ (q : InstanceRow). q.instance)) x xs) ≡ false
never_empty x [] = refl
never_empty x (y ∷ ys) = there (is_gt (downwards (λ (q : InstanceRow). q.instance) x y))
  where
    there : (b : Bool) → is_empty (cond b (y ∷ insert_sorted (downwards (λ (q : InstanceRow). q.instance)) x ys) (x ∷ y ∷ ys)) ≡ false
    there true = refl
    there false = refl

sorted_empty : (ps : List InstanceRow) → is_empty (sorted_board ps) ≡ is_empty ps
sorted_empty [] = refl
sorted_empty (p ∷ ps) = never_empty p (sorted_board ps)

-- ---- rows in order, one by one

all-listed : {X : Type 0} (P : X → Type 0) (xs : List X) → AllByRecursion P xs → All P xs
all-listed P [] h k d lt = absurd (omega (arith, lt))
all-listed P (x ∷ xs) h zero d lt = h.0
all-listed P (x ∷ xs) h (suc k) d lt = all-listed P xs h.1 k d (omega (arith, lt))

pairs-listed : {X : Type 0} (R : X → X → Type 0) (xs : List X) → IsAscending R xs → AllPairs R xs
pairs-listed R [] h i j d lt within = absurd (omega (arith, within))
pairs-listed R (x ∷ xs) h i zero d lt within = absurd (omega (arith, lt))
pairs-listed R (x ∷ xs) h zero (suc j) d lt within = all-listed (R x) xs h.0 j d (omega (arith, within))
pairs-listed R (x ∷ xs) h (suc i) (suc j) d lt within = pairs-listed R xs h.1 i j d (omega (arith, lt)) (omega (arith, within))

held_proper : (db : Trees) (c : Content) → Holds db c → IsProper c
held_proper db c held = record {
  nodes = record {
    rising = pairs-listed (λ (a b : NodeRow). is_before a.node b.node ≡ true) c.nodes held.nodes.rise;
    within = all-listed (λ (r : NodeRow). r.incarnation ≤ greatest) c.nodes (all_weaker _ _ (λ r good. good.last) c.nodes held.nodes.said);
  };
  board = record {
    rising = pairs-listed (λ (a b : InstanceRow). nat_lt a.instance b.instance ≡ true) c.board held.board.rise;
    within = all-listed (λ (p : InstanceRow). p.instance ≤ greatest) c.board (all_weaker _ _ (λ p good. good.last) c.board held.board.said);
  };
}

-- the keys that are shown, one by one
pub record IsIdAt (ns : List NodeRow) (rows : List Row) (i : ℕ) : Type 0 where
  pub row : NodeRow
  pub good : IsNodeRow row
  pub is : (d : Row) → get_or rows i d ≡ id_given row
  pub more : map (λ (r : NodeRow). r.node) (take (suc i) ns) ≡ map (λ (r : NodeRow). r.node) (take i ns) ++ row.node ∷ []

id_among : (ns : List NodeRow) (i : ℕ) → AllByRecursion IsNodeRow ns → i < length (map id_given ns) → IsIdAt ns (map id_given ns) i
id_among [] i said lt = absurd (omega (arith, lt))
id_among (r ∷ ns) zero said lt = record { row = r; good = said.0; is = λ d. refl; more = refl }
id_among (r ∷ ns) (suc i) said lt =
    let later = id_among ns i said.1 (omega (arith, lt)) in
    record { row = later.row; good = later.good; is = later.is; more = ap (λ l. r.node ∷ l) later.more }

pub id_at_place : (ns : List NodeRow) (rows : List Row) (i : ℕ) → AllByRecursion IsNodeRow ns → rows ≡ map id_given ns → i < length rows → IsIdAt ns rows i
id_at_place ns rows i said is lt =
    let P : List Row → Type 0 = λ l. i < length l → IsIdAt ns l i in
    subst P (sym is) (id_among ns i said) lt

pub all_ids_listed : (ns : List NodeRow) (rows : List Row) → rows ≡ map id_given ns
    → map (λ (r : NodeRow). r.node) (take (length rows) ns) ≡ map (λ (r : NodeRow). r.node) ns
all_ids_listed ns rows is =
    let long : length rows ≡ length ns = ap (λ (l : List Row). length l) is ∙ length-map ns id_given in
    ap (map (λ (r : NodeRow). r.node)) (take_all (length rows) ns (omega (arith, long)))

module _ {S : Type 0} (g : Ghosts S) (s n : Tabled S) (kept : IsKept g n) (same : (state g n.conn).now ≡ (state g s.conn).now) where
  abbrev was : Content
  was = content_of g s

  pub instance_row_read : (i : ℕ) (rows : List Row) → Shown get_instance_row_text (whole i ∷ []) (state g s.conn) (state g n.conn) rows
      → (slice_get rows 0 ≡ option_map instance_row_given (find (λ (p : InstanceRow). p.instance == i) was.board))
      × IfSome (find (λ (p : InstanceRow). p.instance == i) was.board) IsInstanceRow
  instance_row_read i rows h = (
    instance_row_found (state g s.conn) (state g n.conn) was (was_schema g s n kept same) (was_held g s n kept same) i rows h,
    found_is IsInstanceRow (λ (p : InstanceRow). p.instance == i) was.board (was_held g s n kept same).board.said,
  )

  pub open_read : (node : NodeId) (rows : List Row) → HasId node → Shown open_instance_row_text (whole (id_of node) ∷ []) (state g s.conn) (state g n.conn) rows
      → (slice_get rows 0 ≡ option_map instance_row_given (find (λ (p : InstanceRow). node_eq p.initiator node && is_open p.verdict) was.board))
      × IfSome (find (λ (p : InstanceRow). node_eq p.initiator node && is_open p.verdict) was.board) IsInstanceRow
  open_read node rows low h = (
    open_found (state g s.conn) (state g n.conn) was (was_schema g s n kept same) (was_held g s n kept same) node low rows h,
    found_is IsInstanceRow (λ (p : InstanceRow). node_eq p.initiator node && is_open p.verdict) was.board (was_held g s n kept same).board.said,
  )

  pub last_read : (rows : List Row) → Shown last_instance_row_text [] (state g s.conn) (state g n.conn) rows
      → (slice_get rows 0 ≡ option_map instance_row_given (slice_get (sorted_board was.board) 0)) × IfSome (slice_get (sorted_board was.board) 0) IsInstanceRow
  last_read rows h = (
    last_found (state g s.conn) (state g n.conn) was (was_schema g s n kept same) (was_held g s n kept same) rows h,
    first_is IsInstanceRow (sorted_board was.board) (all_sorted IsInstanceRow _ was.board (was_held g s n kept same).board.said),
  )

  pub nodes_read : (rows : List Row) → Shown first_node_text [] (state g s.conn) (state g n.conn) rows → (length rows == 0) ≡ is_empty was.nodes
  nodes_read rows h =
      empty_where node_given was.nodes rows
      (some_node_found (state g s.conn) (state g n.conn) was (was_schema g s n kept same) (was_held g s n kept same) rows h)

  -- the keys of all nodes that have a row
  pub ids_read : (rows : List Row) → Shown all_ids_text [] (state g s.conn) (state g n.conn) rows
      → AllByRecursion IsNodeRow was.nodes × (rows ≡ map id_given was.nodes)
  ids_read rows h = (
    (was_held g s n kept same).nodes.said,
    ids_found (state g s.conn) (state g n.conn) was (was_schema g s n kept same) (was_held g s n kept same) rows h,
  )

  -- the tables were in order
  pub was_proper : IsProper was
  was_proper = held_proper (state g s.conn).now.trees was (was_held g s n kept same)

  pub board_read : (rows : List Row) → Shown last_instance_row_text [] (state g s.conn) (state g n.conn) rows → (length rows == 0) ≡ is_empty was.board
  board_read rows h = empty_where instance_row_given (sorted_board was.board) rows (last_read rows h).0 ∙ sorted_empty was.board

-- ---- writes

module _ {S : Type 0} (g : Ghosts S) (row : Row) where
  -- the change that a row makes which is given by the cells of a node, where they are as said
  pub cells_change : (c : NodeCells) → row ≡ cells_given c → AreSaid c → Changes g put_node_text row (storing (cells_node c))
  cells_change c is are =
      let r = cells_node c in
      let spelt = is ∙ spelled_given c r are.spells in
      record {
        runs = λ old new was count has store h.
            node_changes r are.said (state g old) was has store (state g new) count
            (subst (λ (r : Row). Executes put_node_text r (state g old) (state g new) (Ok count)) spelt h);
        commits = λ old was db on has store h.
            node_commits r are.said (state g old) was has store db on (subst (λ (r : Row). CommitsBy put_node_text r (state g old) db) spelt h);
      }

  -- and by those of an instance
  pub instance_row_change : (p : InstanceRow) → row ≡ instance_row_given p → IsInstanceRow p → Changes g put_instance_row_text row (placing p)
  instance_row_change p is good = record {
    runs = λ old new was count has store h.
        instance_row_changes p good (state g old) was has store (state g new) count
        (subst (λ (r : Row). Executes put_instance_row_text r (state g old) (state g new) (Ok count)) is h);
    commits = λ old was db on has store h.
        instance_row_commits p good (state g old) was has store db on (subst (λ (r : Row). CommitsBy put_instance_row_text r (state g old) db) is h);
  }

-- what both rows make of the tables
pub both_put : {S : Type 0} (g : Ghosts S) (c : NodeCells) (p : InstanceRow) (old : Held S) (was : Content) → AreSaid c → IsInstanceRow p
    → (state g old).now.schema ≡ kt_schema → IsStoreOf (state g old).now.trees was → (both : PutsBoth g (cells_given c) p old)
    → ((state g both.last).now.schema ≡ kt_schema) × IsStoreOf (state g both.last).now.trees (placing p (storing (cells_node c) was))
both_put g c p old was are fine has store both =
    let one = (cells_change g (cells_given c) c refl are).runs (record old { in_transaction = true }) both.mid was both.counts.0 has store both.one in
    let two = instance_row_changes p fine (state g both.mid) (storing (cells_node c) was) one.schema one.store (state g both.last) both.counts.1 both.two in
    (two.schema, two.store)

module _ {S : Type 0} (g : Ghosts S) (s : Tabled S) (h : Held S) (kept : IsTrue (is_sure g s) → IsKept g s)
    (clean : doubt (state g s.conn).is_clean ≤ doubt (state g h).is_clean) where
  abbrev after : Tabled S
  after = record { conn = h; is_trusted = s.is_trusted }

  pub statement_wrote : (sql : List ℕ) (params : Row) (change : Content → Content) (count : ℕ) → (IsTrue (is_sure g s) → Changes g sql params change)
      → (HasCleanDisk (state g h) → Executes sql params (state g s.conn) (state g h) (Ok count))
      → IsTrue (is_sure g after) → IsTrue (is_sure g s) × (content_of g after ≡ change (content_of g s)) × IsKept g after
  statement_wrote sql params change count changes ran =
      wrote g s h (change (content_of g s)) kept clean (λ cl on. executed_open sql params _ _ count (ran cl) on)
      (λ cl was k.
      let it = (changes was).runs s.conn h (content_of g s) count k.schema k.store (ran cl) in
      (written_settled _ _ k.settled it.shown, it.schema, it.store))

  pub not_wrote : (sql : List ℕ) (params : Row) (e : Error) → (HasCleanDisk (state g h) → Executes sql params (state g s.conn) (state g h) (Err e))
      → IsTrue (is_sure g after) → IsTrue (is_sure g s) × (content_of g after ≡ content_of g s) × IsKept g after
  not_wrote sql params e ran sure =
      let it = stayed g s h kept clean (λ cl on. refused_stays sql params _ _ e (ran cl) on) sure in
      (it.0, ap (λ (d : Database). content_in d.trees) it.1, it.2)

  pub both_wrote : (c : NodeCells) (p : InstanceRow) → (IsTrue (is_sure g s) → AreSaid c) → IsInstanceRow p
      → (HasCleanDisk (state g h) → RanBoth g (cells_given c) p s.conn h)
      → IsTrue (is_sure g after)
      → IsTrue (is_sure g s) × (content_of g after ≡ placing p (storing (cells_node c) (content_of g s))) × IsKept g after
  both_wrote c p are fine ran =
      wrote g s h (placing p (storing (cells_node c) (content_of g s))) kept clean (λ cl _. (ran cl).was_open)
      (λ cl was k.
      let it = ran cl in
      let put = both_put g c p s.conn (content_of g s) (are was) fine k.schema k.store it.puts in (
        it.settled,
        ap (λ (d : Database). d.schema) it.now ∙ put.0,
        subst (λ (d : Database). IsStoreOf d.trees (placing p (storing (cells_node c) (content_of g s)))) (sym it.now) put.1,
      ))

  pub neither_wrote : (HasCleanDisk (state g h) → IsTrue (state g h).is_open → Stays (state g s.conn) (state g h))
      → IsTrue (is_sure g after) → IsTrue (is_sure g s) × (content_of g after ≡ content_of g s) × IsKept g after
  neither_wrote stays sure =
      let it = stayed g s h kept clean stays sure in
      (it.0, ap (λ (d : Database). content_in d.trees) it.1, it.2)
