-- What INSERT OR REPLACE makes of a table whose only key is its rowid.
-- Cited by CarriedRows, CarriedTables, ListedLemmas, MadeLemmas, WriteLemmas.
use Rattle.std.proofs.Common.{◌≡◌, ◌⊎◌, inl, inr, ◌≢◌, ℕ, ◌/◌, ℤ, Bool, true, false, not, ◌&&◌, ◌||◌, cond, List, [], ◌∷◌, ◌++◌, length}
use Rattle.std.proofs.Common.{drop, slice_get, Option, None, Some, Ok, Err, Result, refl, sym, ap, subst, subst₂, ◌∙◌, append-nil}
use Rattle.std.specs.Prelude.{IsTrue}
use Rattle.std.specs.Ordering.{int_eq}
use Rattle.std.proofs.lemmas.Bool.{cases_Bool}
use Rattle.std.specs.List.{AllByRecursion}
use Rattle.sqlite_value.specs.declared.value.Value.TheVariants.{Int}
use Rattle.sqlite_value.specs.Order.{Row}
use Rattle.sqlite_value.specs.Keys.{plain, first_key}
use Rattle.sqlite_value.proofs.OrderLemmas.{value_cmp-Int}
use Rattle.sqlite_trees.specs.Tree.{Trees, rowid, has_rowid, put_row, without_rowid}
use Rattle.sqlite_sql.specs.declared.ops.CompareOp.TheVariants.{Eq}
use Rattle.sqlite_sql.specs.Term.{Term}
use Rattle.sqlite_sql.specs.Ops.{is_null}
use Rattle.sqlite_schema.specs.declared.schema.Column.{Column}
use Rattle.sqlite_schema.specs.declared.schema.Keys.TheVariants.{Enforced}
use Rattle.sqlite_schema.specs.declared.command.Conflict.TheVariants.{Replace}
use Rattle.sqlite_schema.specs.Rules.{agree}
use Rattle.sqlite_rules.specs.declared.error.Refusal.{Refusal}
use Rattle.sqlite_rules.specs.declared.error.Rowids.TheVariants.{Chosen, Given}
use Rattle.sqlite_rules.specs.Lists.{Has}
use Rattle.sqlite_rules.specs.Keys.{conflicts, AreConflicts}
use Rattle.sqlite_rules.specs.Calls.{ids_of}
use Rattle.sqlite_rules.specs.Cast.{cast_row}
use Rattle.sqlite_rules.specs.Edit.{edit_of, id_in, without_all, with_rowid, next_rowid}
use Rattle.sqlite.specs.Table.{Table}
use Rattle.sqlite.specs.Source.TheVariants.{Values}
use Rattle.sqlite.specs.Command.{Command}
use Rattle.sqlite.specs.Command.TheVariants.{InsertOr}
use Rattle.sqlite.specs.Does.{Tally, AtPlace, Does, OnRows}
use Rattle.sqlite.specs.Effect.{Database, IsDatabase, value_rows}
use Rattle.sqlite.specs.Listing.{understood}
use Rattle.sqlite.specs.Rows.{Task, Written, Puts, Clears, Judged, Tries, TriesEach, InsertsOr, mended, nothing, count_of}
use Rattle.sqlite.specs.State.{State, mode_of, Shows, Executes, CommitsBy, MayCommit}
use Rattle.sqlite_schema.specs.declared.schema.Schema.{Schema}
use Rattle.sqlite.proofs.Callers.{IsPlain, command_of, one_step, runs_as, statement_of}
use Rattle.sqlite_typed.proofs.TestLemmas.{at_ints}
use Rattle.sqlite_keyed.proofs.KeyedLemmas.{same_int}
use Rattle.sqlite_keyed.proofs.ListLemmas.{filter-filter, filter_all}
use Rattle.kt_sql_tables.specs.Schema.{keyed_table, kt_schema}

-- a part that gave a value did not stop on the way
pub went : {B E R : Type 0} {b : B} {Stops : E → Type 0} → ((stop : E) × Stops stop × (Ok b ≡ Err stop)) ⊎ R → R
went (inl stopped) = absurd (let e = stopped.2 in cc)
went (inr on) = on

pub same_value : {B E : Type 0} {a b : B} → ◌≡◌ {A = Result B E} (Ok a) (Ok b) → a ≡ b
same_value e = cc

-- each row has a rowid
abbrev pub AreNumbered : List Row → Type 0
AreNumbered rows = (r : Row) → Has rows r → (k : ℤ) × (rowid r ≡ Int k)

agrees : (row r : Row) (key k : ℤ) → rowid row ≡ Int key → rowid r ≡ Int k → agree plain (0 ∷ []) r (0 ∷ []) row ≡ (int_eq k key && true)
unfolding first_key
agrees row r key k is at = rw (at, is) (ap (λ b. b && true) (at_ints false Eq k key))

tidy : (b : Bool) → ((b && true) || false) ≡ b
tidy true = refl
tidy false = refl

all_had : {X : Type 0} (P : X → Type 0) (xs : List X) → ((x : X) → Has xs x → P x) → AllByRecursion P xs
all_had P [] h = tt
all_had P (x ∷ xs) h = (h x (inl refl), all_had P xs (λ y has. h y (inr has)))

module _ (name : List ℕ) (tree : ℕ) (columns : List Column) (limit : Option ℕ) (params : Row) where
  abbrev table : Table
  table = keyed_table name tree columns

  abbrev task : Task
  task = record { limit = limit; keys = Enforced; schema = kt_schema; table = table; params = params }

  module _ (row : Row) (key : ℤ) (is : rowid row ≡ Int key) where
    -- what a step leaves: this table, and the others
    abbrev Leaves : Trees → Trees → List Row → Type 0
    Leaves db next rows = (next tree ≡ rows) × ((m : ℕ) → m ≢ tree → next m ≡ db m)

    puts : cast_row table row ≡ row → (db : Trees) (w : Written) → Puts task row db (Ok w) → Leaves db w.trees (put_row row (db tree))
    puts fixed db w h =
        let put = went h in
        let trees : w.trees ≡ put.0 = ap (λ (it : Written). it.trees) (same_value put.2) in
        let edit = edit_of db table [] Given 0 (row ∷ []) in
        let made = one_step kt_schema Enforced db put.0 edit refl put.1 in (
          ap (λ (t : Trees). t tree) trees ∙ made.rows ∙ ap (λ (r : Row). put_row r (db tree)) fixed,
          λ m apart. ap (λ (t : Trees). t m) trees ∙ made.others m apart tt,
        )

    conflict_is : (r : Row) (k : ℤ) → rowid r ≡ Int k → conflicts None [] table row r ≡ int_eq k key
    conflict_is r k at = ap (λ b. b || false) (agrees row r key k is at) ∙ tidy (int_eq k key)

    -- the rowids of the rows that conflict are all this one
    all_this : (rows found : List Row) → AreNumbered rows
        → ((x : Row) → Has found x → (r : Row) × Has rows r × (conflicts None [] table row r ≡ true) × (x ≡ rowid r ∷ []))
        → AllByRecursion (λ id. id ≡ key) (ids_of found)
    all_this rows [] numbered sound = tt
    all_this rows (x ∷ found) numbered sound =
        let it = sound x (inl refl) in
        let id = numbered it.0 it.1 in
        let same = same_int id.0 key (sym (conflict_is it.0 id.0 id.1) ∙ it.2) in
        (ap (λ (r : Row). id_in (rowid r)) it.3 ∙ ap id_in id.1 ∙ same, all_this rows found numbered (λ y has. sound y (inr has)))

    without_many : (ids : List ℤ) (rows : List Row) → AllByRecursion (λ id. id ≡ key) ids → without_all (without_rowid key rows) ids ≡ without_rowid key rows
    without_many [] rows all = refl
    without_many (id ∷ ids) rows all =
        let once = subst (λ i. without_rowid i (without_rowid key rows) ≡ without_rowid key rows) (sym all.0) (filter-filter _ _ (λ r kept. kept) rows) in
        ap (λ l. without_all l ids) once ∙ without_many ids rows all.1

    none_has : (rows : List Row) → AreConflicts None [] table rows row [] → (r : Row) → Has rows r → (k : ℤ) → rowid r ≡ Int k → not (int_eq k key) ≡ true
    none_has rows h r has k at = elim (cases_Bool (int_eq k key)) [
      | inl same ↦ absurd (h.complete r has (conflict_is r k at ∙ same))
      | inr apart ↦ ap not apart
    ]

    -- the rows that conflict are gone
    cleared : (rows found : List Row) → AreNumbered rows → AreConflicts None [] table rows row found → without_all rows (ids_of found) ≡ without_rowid key rows
    cleared rows [] numbered h =
        let kept : (r : Row) → Has rows r → not (has_rowid key r) ≡ true =
        λ r has. let id = numbered r has in rw (id.1, value_cmp-Int) (none_has rows h r has id.0 id.1) in
        sym (filter_all _ rows (all_had (λ r. not (has_rowid key r) ≡ true) rows kept))
    cleared rows (x ∷ found) numbered h =
        let all = all_this rows (x ∷ found) numbered h.sound in
        subst (λ i. without_all (without_rowid i rows) (ids_of found) ≡ without_rowid key rows) (sym all.0) (without_many (ids_of found) rows all.1)

    clears : cast_row table row ≡ row → (db : Trees) (found : List Row) → AreNumbered (db tree) → AreConflicts None [] table (db tree) row found → (w : Written)
        → Clears task Replace row db found (Ok w) → Leaves db w.trees (put_row row (without_rowid key (db tree)))
    clears fixed db [] numbered h w it =
        let put = puts fixed db w it in
        (put.0 ∙ ap (put_row row) (cleared (db tree) [] numbered h), put.1)
    clears fixed db (x ∷ found) numbered h w it =
        let ids = ids_of (x ∷ found) in
        let gone = went it in
        let left = one_step kt_schema Enforced db gone.0 (edit_of db table ids Given 0 []) refl gone.1 in
        let put = puts fixed gone.0 w gone.2 in
        (put.0 ∙ ap (put_row row) (left.rows ∙ cleared (db tree) (x ∷ found) numbered h), λ m apart. put.1 m apart ∙ left.others m apart tt)

    judged_well : (db : Trees) (verdict : Option Refusal) (w : Written) → Judged task Replace [] row db verdict (Ok w)
        → (found : List Row) × AreConflicts None [] table (db tree) row found × Clears task Replace row db found (Ok w)
    judged_well db None w h = h
    judged_well db (Some why) w h = absurd cc

    tries : cast_row table row ≡ row → (db : Trees) → AreNumbered (db tree) → (w : Written) → Tries task Replace [] row db (Ok w)
        → Leaves db w.trees (put_row row (without_rowid key (db tree)))
    tries fixed db numbered w (inl wide) = absurd (let e = wide.1 in cc)
    tries fixed db numbered w (inr judged) =
        let put = judged_well db judged.0 w judged.2 in
        clears fixed db put.0 numbered put.1 w put.2

    -- the whole statement, for the one row that it is given
    replaces : (terms : List Term) (width : ℕ) (source : Row) → value_rows (params ++ []) width (length terms / width) terms ≡ source ∷ []
        → cast_row table (mended Replace table source) ≡ row → cast_row table row ≡ row → (db : Trees) → AreNumbered (db tree) → (w : Written)
        → InsertsOr task Replace [] (Values terms width) db (Ok w)
        → (w.trees tree ≡ put_row row (without_rowid key (db tree))) × ((m : ℕ) → m ≢ tree → w.trees m ≡ db m)
    replaces terms width source given cast fixed db numbered w h =
        let sourced = went h in
        let counted = went sourced.2 in
        let tried = went counted.2 in
        let last = went tried.2 in
        let each = subst (λ rows. TriesEach task Replace [] rows (count_of counted.0) (nothing db) (Ok tried.0)) (sourced.1.1 ∙ given) tried.1 in
        let one = went each in
        let new : with_rowid Chosen (db tree) (cast_row table (mended Replace table source)) ≡ row =
        ap (with_rowid Chosen (db tree)) cast ∙ ap (λ v. cond (is_null v) (Int (next_rowid (db tree)) ∷ drop 1 row) row) is in
        let put = tries fixed db numbered one.0 (subst (λ r. Tries task Replace [] r db (Ok one.0)) new one.1) in
        let trees : w.trees ≡ one.0.trees =
        ap (λ (it : Written). it.trees) (same_value last.2) ∙ same_value last.1 ∙ ap (λ (p : Written × ℤ). p.0.trees) (same_value one.2) in
        (ap (λ (t : Trees). t tree) trees ∙ put.0, λ m apart. ap (λ (t : Trees). t m) trees ∙ put.1 m apart)

-- the statement, with these parameters, puts this row into the table of this place
pub record PutsInto (tree : ℕ) (sql : List ℕ) (params row : Row) (key : ℤ) : Type 0 where
  pub name : List ℕ
  pub columns : List Column
  pub terms : List Term
  pub width : ℕ
  pub at : slice_get kt_schema.tables tree ≡ Some (keyed_table name tree columns)
  pub is : command_of (understood kt_schema sql) ≡ InsertOr tree Replace (Values terms width) []
  pub plain : IsPlain (understood kt_schema sql)
  pub given : value_rows (params ++ []) width (length terms / width) terms ≡ row ∷ []
  pub numbered : rowid row ≡ Int key
  pub mends : cast_row (keyed_table name tree columns) (mended Replace (keyed_table name tree columns) row) ≡ row
  pub fixed : cast_row (keyed_table name tree columns) row ≡ row

-- the row stands there then, and the other tables are as they were
pub record HasPut (tree : ℕ) (row : Row) (key : ℤ) (old new : State) : Type 0 where
  pub shown : Shows old new new.now (cond old.in_transaction old.committed new.now) old.in_transaction
  pub schema : new.now.schema ≡ kt_schema
  pub rows : new.now.trees tree ≡ put_row row (without_rowid key (old.now.trees tree))
  pub others : (m : ℕ) → m ≢ tree → new.now.trees m ≡ old.now.trees m
  pub sound : IsDatabase new.now

-- what a text of one statement that has no RETURNING may commit
commits_as : (sql : List ℕ) (params : Row) (old : State) (schema : Schema) → old.now.schema ≡ schema → (command : Command)
    → command_of (understood schema sql) ≡ command → IsPlain (understood schema sql) → (db : Trees) → CommitsBy sql params old db
    → MayCommit old None command (statement_of sql (understood schema sql)) params db
unfolding CommitsBy
commits_as sql params old schema has command is plain db h =
    let known = sym h.1.is ∙ ap (λ s. understood s sql) has in
    let bare = subst IsPlain (sym known) plain in
    subst₂ (λ k t. MayCommit old None k t params db) (ap command_of known ∙ is) (ap (statement_of sql) known)
    (rw (bare.0, bare.1, append-nil params) at h.2)

module _ {tree : ℕ} {sql : List ℕ} {params row : Row} {key : ℤ} (p : PutsInto tree sql params row key) (old : State) (has : old.now.schema ≡ kt_schema)
    (numbered : AreNumbered (old.now.trees tree)) where
  abbrev puts_row : Command
  puts_row = InsertOr tree Replace (Values p.terms p.width) []

  -- what it does to the database
  put_does : (tally : Tally) (after : Database)
      → Does old.step_limit (mode_of old) params old.now (statement_of sql (understood kt_schema sql)) None puts_row (Ok (tally, after))
      → (after.schema ≡ kt_schema) × (after.trees tree ≡ put_row row (without_rowid key (old.now.trees tree)))
      × ((m : ℕ) → m ≢ tree → after.trees m ≡ old.now.trees m)
  put_does tally after changed =
      let text = statement_of sql (understood kt_schema sql) in
      let does = subst (λ s. Does old.step_limit (mode_of old) params (record old.now { schema = s }) text None puts_row (Ok (tally, after))) has changed in
      let on = λ (table : Table). OnRows (record { limit = old.step_limit; keys = Enforced; schema = kt_schema; table = table; params = params })
      (mode_of old) None puts_row old.now.trees in
      let done = went (subst (λ table. AtPlace on table (Ok (tally, after))) p.at does) in
      let now = ap (λ (p : Tally × Database). p.1) (same_value (went (went done.2).2).2) in
      let next = replaces p.name tree p.columns old.step_limit params row key p.numbered p.terms p.width row p.given p.mends p.fixed old.now.trees numbered
      done.0 done.1 in
      (ap (λ (d : Database). d.schema) now, ap (λ (d : Database). d.trees tree) now ∙ next.0, λ m apart. ap (λ (d : Database). d.trees m) now ∙ next.1 m apart)

  pub put_ran : (new : State) (count : ℕ) → Executes sql params old new (Ok count) → HasPut tree row key old new
  put_ran new count h =
      let w = runs_as sql params old new kt_schema has puts_row p.is p.plain count h in
      let did = put_does w.tally new.now w.changed in
      record { shown = w.shown; schema = did.0; rows = did.1; others = did.2; sound = w.sound }

  -- what a stop inside it may commit is what it leaves where it runs to its end
  pub put_committed : (db : Trees) → IsTrue old.is_open → CommitsBy sql params old db → (new : State) × HasPut tree row key old new × (new.now.trees ≡ db)
  put_committed db on h = by (commits_as sql params old kt_schema has puts_row p.is p.plain db h)
    where
      by : MayCommit old None puts_row (statement_of sql (understood kt_schema sql)) params db
          → (new : State) × HasPut tree row key old new × (new.now.trees ≡ db)
      by (inl ends) = absurd (elim ends.0 [ inl is ↦ let e = is in cc | inr it ↦ let e = it.2 in cc ])
      by (inr w) =
          let did = put_does w.1 w.2 w.3 in
          let new : State = record old { now = w.2; committed = w.2; is_open = true } in (
            new,
            record {
              shown = record {
                was_open = on;
                is_open = refl;
                now_is = refl;
                committed_is = ap (λ b. cond b old.committed w.2) (sym w.0);
                mode = refl;
              };
              schema = did.0;
              rows = did.1;
              others = did.2;
              sound = w.4;
            },
            sym w.5,
          )
