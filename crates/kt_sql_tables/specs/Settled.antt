-- A connection between two calls of the store.
-- Cited by CarryLemmas, OldLemmas, OpenedLemmas, StateLemmas, TabledLemmas, old.rt, opened.rt, ready.rt, specs/Held,
--   specs/Made, specs/Old, specs/Opened, specs/auxiliary/Both, specs/auxiliary/Carrying, specs/auxiliary/Looking,
--   `carrying::carried`, `ready::readied`.
use Rattle.std.specs.Prelude.{◌≡◌, false}
use Rattle.sqlite.specs.State.{State}

-- no transaction is open, and what is seen is what was committed
pub record IsSettled (s : State) : Type 0 where
  pub autocommit : s.in_transaction ≡ false
  pub same : s.now ≡ s.committed
