-- What a stop leaves of a call that reads first and writes then.
-- Cited by `SqlStoreCkptStore::begin_restart`.
use Rattle.std.proofs.Common.{◌≡◌, ◌∙◌, inl, inr, subst}
use Rattle.std.specs.Prelude.{IsTrue}
use Rattle.sqlite.specs.Store.{Ghosts}
use Rattle.sqlite.specs.Held.{state}
use Rattle.sqlite.specs.State.{HasCleanDisk}
use Rattle.kt_store.specs.Content.{Content}
use Rattle.kt_sql_tables.specs.Held.{Tabled, content_of, is_sure}
use Rattle.kt_sql_tables.specs.Stopped.{StopLeaves}
use Rattle.kt_sql_tables.specs.Stored.{IsStoreOf}

module _ {S : Type 0} (g : Ghosts S) where
  -- a read was answered, so the tables hold what they held and are sure still
  pub record Read (s t : Tabled S) : Type 0 where
    pub answers : HasCleanDisk (state g t.conn) → HasCleanDisk (state g s.conn) × (IsTrue (is_sure g s) → IsTrue (is_sure g t))
    pub same : IsTrue (is_sure g t) → content_of g t ≡ content_of g s

  pub both_read : (s t u : Tabled S) → Read s t → Read t u → (IsTrue (is_sure g u) → IsTrue (is_sure g t)) → Read s u
  both_read s t u one two honest = record {
    answers = λ clean.
        let later = two.answers clean in
        let first = one.answers later.0 in
        (first.0, λ sure. later.1 (first.1 sure));
    same = λ sure. two.same sure ∙ one.same (honest sure);
  }

  -- then a stop in the write leaves what was there before the read, or what was written
  pub read_left : (s t u : Tabled S) (after written : Content) → Read s t → (HasCleanDisk (state g u.conn) → HasCleanDisk (state g t.conn))
      → (IsTrue (is_sure g t) → written ≡ after) → StopLeaves g t u written → StopLeaves g s u after
  read_left s t u after written read back is leaves clean sure db may =
      let on = (read.answers (back clean)).1 sure in
      elim (leaves clean on db may) [
        | inl before ↦ inl (subst (IsStoreOf db) (read.same on) before)
        | inr made ↦ inr (subst (IsStoreOf db) (is on) made)
      ]
