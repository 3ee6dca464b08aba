-- When the entries of a checkpoint are those of the sessions.
-- Cited by Suited, suits.rt, `suits::suits_shard`.
use Rattle.std.specs.Prelude.{◌≡◌, ℕ, ◌≤◌, List}
use Rattle.kt_shard.specs.Session.{empty_session}
use Rattle.kt_shard.specs.Table.{at}
use Rattle.kt_ckpt.specs.Fields.{ShardFields}
use Rattle.kt_state.specs.State.{entries}
use Rattle.kt_resume.specs.Remade.{Slot, empty_slot}

-- these fields have what is in the sessions, and those of numbers above that of the last worker, and of 0, are empty
pub record HasSessions (workers : ℕ) (slots : List Slot) (stored : ShardFields) : Type 0 where
  pub waiting : stored.waiting ≡ entries (λ w. (at empty_slot slots w).session.waiting)
  pub cached : stored.cached ≡ entries (λ w. (at empty_slot slots w).session.cached)
  pub others : (n : ℕ) → ¬ ((1 ≤ n) × (n ≤ workers)) → (at empty_slot slots n).session ≡ empty_session
