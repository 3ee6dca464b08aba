-- Tables over a connection, from one call to the next.
-- Cited by AnswerLemmas, `Tables::ask`, `Tables::over`, `Tables::write_both`, `Tables::write`; other crates.
use Rattle.std.proofs.Common.{◌≡◌, ◌≤◌, ℕ, Bool, true, false, ◌&&◌, inl, inr, refl, sym, ap, subst, ◌∙◌, arith}
use Rattle.std.specs.Prelude.{◌↔◌, ◌⊎◌, IsTrue}
use Rattle.sqlite.specs.Store.{Ghosts}
use Rattle.sqlite.specs.Held.{Held, state}
use Rattle.sqlite.specs.State.{HasCleanDisk, IsLive, State, Survives}
use Rattle.sqlite_trees.specs.View.{doubt}
use Rattle.sqlite_trees.proofs.Doubt.{no_doubt, clean_of}
use Rattle.sqlite.specs.Effect.{Database}
use Rattle.sqlite.specs.Tree.{Trees}
use Rattle.sqlite_catalog.specs.Listing.{IsSound}
use Rattle.kt_sql_tables.specs.Schema.{kt_schema}
use Rattle.kt_sql_tables.specs.Settled.{IsSettled}
use Rattle.kt_sql_tables.specs.auxiliary.Looking.{Stays}
use Rattle.kt_sql_tables.specs.Opened.{IsReady}
use Rattle.kt_sql_tables.specs.Rows.{AreAsSaid, Holds, content_in}
use Rattle.kt_store.specs.Content.{Content, empty_content}
use Rattle.kt_sql_tables.specs.Made.{IsMade}
use Rattle.kt_sql_tables.specs.Old.{IsCarried}
use Rattle.kt_sql_tables.specs.Held.{Tabled, content_of, is_sound, is_sure, IsKept, Lasts}
use Rattle.kt_sql_tables.specs.Stopped.{StopKeeps, StopLeaves}
use Rattle.kt_sql_tables.specs.Stored.{IsStoreOf}
use Rattle.kt_sql_tables.specs.auxiliary.Lasting as Connection
use Rattle.sqlite_disk.specs.Disk.{MoreFaults}
use Rattle.kt_sql_tables.proofs.HeldLemmas.{holds_content, empty_content_in, made_ready}

three : (a b c : Bool) → IsTrue (a && (b && c)) → IsTrue a × IsTrue b × IsTrue c
three true true true h = (refl, refl, refl)
three true true false h = absurd cc
three true false c h = absurd cc
three false b c h = absurd cc

all_three : (a b c : Bool) → IsTrue a → IsTrue b → IsTrue c → IsTrue (a && (b && c))
all_three true true true p q r = refl
all_three true true false p q r = absurd cc
all_three true false c p q r = absurd cc
all_three false b c p q r = absurd cc

two : (a b : Bool) → IsTrue (a && b) → IsTrue a × IsTrue b
two true true h = (refl, refl)
two true false h = absurd cc
two false b h = absurd cc

-- a count that is 0 has not risen
no_more : (old new : ℕ) → new ≡ 0 → MoreFaults old new → ⊥
no_more old new none more = grind (arith, none, more)

-- tables that were carried over are as said
pub carried_ready : (s : State) (c : Content) → IsCarried s c → IsReady s true
carried_ready s c h = record { is_open = h.is_open; settled = h.settled; version = h.version; trusted = (λ _. (c, h.holds), λ _. refl) }

module _ {S : Type 0} (g : Ghosts S) where
  pub record IsSure (s : Tabled S) : Type 0 where
    pub trusted : IsTrue s.is_trusted
    pub is_open : IsTrue (state g s.conn).is_open
    pub clean : HasCleanDisk (state g s.conn)

  pub sure_parts : (s : Tabled S) → IsTrue (is_sure g s) → IsSure s
  sure_parts s h =
      let parts = three s.is_trusted (state g s.conn).is_open (state g s.conn).is_clean h in
      record { trusted = parts.0; is_open = parts.1; clean = no_doubt _ parts.2 }

  pub sure_whole : (s : Tabled S) → IsSure s → IsTrue (is_sure g s)
  sure_whole s h = all_three s.is_trusted (state g s.conn).is_open (state g s.conn).is_clean h.trusted h.is_open (clean_of _ h.clean)

  -- a sound one whose connection is open is sure
  pub sound_sure : (s : Tabled S) → IsTrue (is_sound g s) → (HasCleanDisk (state g s.conn) → IsTrue (state g s.conn).is_open) → IsTrue (is_sure g s)
  sound_sure s sound opened =
      let parts = two s.is_trusted (state g s.conn).is_clean sound in
      let clean = no_doubt _ parts.1 in
      sure_whole s (record { trusted = parts.0; is_open = opened clean; clean = clean })

  -- one that was sure is so still, unless the disk failed
  pub lasted : (s : Tabled S) (conn : Held S) → Connection.Lasts (state g s.conn) (state g conn)
      → Lasts g s (record { conn = conn; is_trusted = s.is_trusted })
  lasted s conn lasts clean sure = by (lasts.closes clean was.is_open)
    where
      was : IsSure s
      was = sure_parts s sure

      by : IsTrue (state g conn).is_open ⊎ MoreFaults (state g s.conn).faults (state g conn).faults
          → IsTrue (is_sure g (record { conn = conn; is_trusted = s.is_trusted })) ⊎ MoreFaults (state g s.conn).faults (state g conn).faults
      by (inl still) = inl (sure_whole (record { conn = conn; is_trusted = s.is_trusted }) (record { trusted = was.trusted; is_open = still; clean = clean }))
      by (inr more) = inr more

  -- and where it never failed at all, it is
  pub never_ended : (old new : Tabled S) → Lasts g old new → Connection.failures (state g new.conn) ≡ 0 → IsTrue (is_sure g old) → IsTrue (is_sure g new)
  never_ended old new lasts none sure = by (lasts (omega (arith, none)) sure)
    where
      by : IsTrue (is_sure g new) ⊎ MoreFaults (state g old.conn).faults (state g new.conn).faults → IsTrue (is_sure g new)
      by (inl still) = still
      by (inr more) = absurd (no_more (state g old.conn).faults (state g new.conn).faults (omega (arith, none)) more)

  -- a store whose tables were made or tested
  pub ready_kept : (s : Tabled S) → IsReady (state g s.conn) s.is_trusted → IsLive (state g s.conn) → IsTrue s.is_trusted → IsKept g s
  ready_kept s r live trusted =
      let held = r.trusted.0 trusted in
      let db = (state g s.conn).now.trees in
      record {
        settled = r.settled;
        schema = r.version.schema;
        store = record {
          lists = subst (λ schema. IsSound schema db) r.version.schema (live r.is_open).0;
          meta = r.version.meta;
          holds = subst (Holds db) (sym (holds_content held.0 held.1)) held.1;
        };
      }

  -- it is honest just where each row is as said
  pub ready_sure : (h : Held S) (trusted : Bool) → HasCleanDisk (state g h) → IsReady (state g h) trusted
      → IsTrue (is_sure g (record { conn = h; is_trusted = trusted })) ↔ AreAsSaid (state g h).now.trees
  ready_sure h trusted clean r = (
    λ sure. r.trusted.0 (sure_parts (record { conn = h; is_trusted = trusted }) sure).trusted,
    λ said. sure_whole (record { conn = h; is_trusted = trusted }) (record { trusted = r.trusted.1 said; is_open = r.is_open; clean = clean }),
  )

  -- one over tables that were just made is honest and empty
  pub made_fresh : (h : Held S) (trusted : Bool) → HasCleanDisk (state g h) → IsReady (state g h) trusted → IsMade (state g h)
      → let s : Tabled S = record { conn = h; is_trusted = trusted } in IsTrue (is_sure g s) × (content_of g s ≡ empty_content)
  made_fresh h trusted clean ready made =
      ((ready_sure h trusted clean ready).1 ((made_ready (state g h) made).trusted.0 refl), empty_content_in (state g h).now.trees made.nodes made.board)

  -- and one over tables that were carried over is honest, and holds what they hold
  pub carried_sure : (h : Held S) (c : Content) → HasCleanDisk (state g h) → IsCarried (state g h) c
      → let s : Tabled S = record { conn = h; is_trusted = true } in IsTrue (is_sure g s) × (content_of g s ≡ c)
  carried_sure h c clean carried = (
    (ready_sure h true clean (carried_ready (state g h) c carried)).1 (c, carried.holds),
    holds_content c carried.holds,
  )

  -- a call after which the store is sure, and which changed nothing
  pub stayed : (s : Tabled S) (h : Held S) → (IsTrue (is_sure g s) → IsKept g s) → doubt (state g s.conn).is_clean ≤ doubt (state g h).is_clean
      → (HasCleanDisk (state g h) → IsTrue (state g h).is_open → Stays (state g s.conn) (state g h))
      → let after : Tabled S = record { conn = h; is_trusted = s.is_trusted } in
      IsTrue (is_sure g after) → IsTrue (is_sure g s) × ((state g h).now ≡ (state g s.conn).now) × IsKept g after
  stayed s h kept clean stays sure =
      let is = sure_parts (record { conn = h; is_trusted = s.is_trusted }) sure in
      let on = stays is.clean is.is_open in
      let was = sure_whole s (record { trusted = is.trusted; is_open = on.was_open; clean = omega (arith, clean, is.clean) }) in
      let k = kept was in
      let now = on.rest k.settled k.schema in (
        was,
        now.0,
        record {
          settled = now.1;
          schema = ap (λ (d : Database). d.schema) now.0 ∙ k.schema;
          store = subst (λ (d : Database). IsStoreOf d.trees (content_in d.trees)) (sym now.0) k.store;
        },
      )

  -- a call after which the store is sure, so that it was so before, and which changed its tables
  pub wrote : (s : Tabled S) (h : Held S) (c : Content) → (IsTrue (is_sure g s) → IsKept g s)
      → doubt (state g s.conn).is_clean ≤ doubt (state g h).is_clean
      → (HasCleanDisk (state g h) → IsTrue (state g h).is_open → IsTrue (state g s.conn).is_open)
      → (HasCleanDisk (state g h) → IsTrue (is_sure g s) → IsKept g s
      → IsSettled (state g h) × ((state g h).now.schema ≡ kt_schema) × IsStoreOf (state g h).now.trees c)
      → let after : Tabled S = record { conn = h; is_trusted = s.is_trusted } in
      IsTrue (is_sure g after) → IsTrue (is_sure g s) × (content_of g after ≡ c) × IsKept g after
  wrote s h c kept clean opened does sure =
      let is = sure_parts (record { conn = h; is_trusted = s.is_trusted }) sure in
      let was = sure_whole s (record { trusted = is.trusted; is_open = opened is.clean is.is_open; clean = omega (arith, clean, is.clean) }) in
      let done = does is.clean was (kept was) in
      let same = holds_content c done.2.holds in
      (was, same, record { settled = done.0; schema = done.1; store = subst (IsStoreOf (state g h).now.trees) (sym same) done.2 })

  -- ---- what a stop leaves, of tables of which it is known what a stop between two calls leaves

  module _ (s : Tabled S) (kept : IsTrue (is_sure g s) → IsKept g s)
      (settled : (db : Trees) → IsTrue (state g s.conn).is_open → (state g s.conn).may_leave db → db ≡ (state g s.conn).committed.trees) where
    -- what the tables hold
    pub rested : IsTrue (is_sure g s) → (db : Trees) → (state g s.conn).may_leave db → IsStoreOf db (content_of g s)
    rested sure db may =
        let k = kept sure in
        let same = settled db (sure_parts s sure).is_open may ∙ sym (ap (λ (d : Database). d.trees) k.settled.same) in
        subst (λ t. IsStoreOf t (content_of g s)) (sym same) k.store

    -- after a call that commits this or nothing, that or this
    pub stopped : (t : Tabled S) (Commits : Trees → Type 0) (after : Content) → Survives (state g s.conn) (state g t.conn) Commits
        → ((db : Trees) → IsTrue (is_sure g s) → IsKept g s → Commits db → IsStoreOf db after) → StopLeaves g s t after
    stopped t Commits after survives made clean sure db may = elim (survives.crash clean db may) [
      | inl before ↦ inl (rested sure db before)
      | inr commits ↦ inr (made db sure (kept sure) commits)
    ]

    -- after a call that commits nothing, that
    pub untouched : (t : Tabled S) (Commits : Trees → Type 0) → Survives (state g s.conn) (state g t.conn) Commits
        → ((db : Trees) → IsKept g s → Commits db → ⊥) → StopKeeps g s t
    untouched t Commits survives none clean sure db may = elim (survives.crash clean db may) [
      | inl before ↦ rested sure db before
      | inr commits ↦ absurd (none db (kept sure) commits)
    ]
