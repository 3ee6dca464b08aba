-- What asking a world comes to.
-- Cited by Allowed, Asked, asking.rt, ending.rt, locked_journal.rt, policy.rt, settling.rt, `policy::first_by`,
--   `settling::next_among`; other crates.
use Rattle.std.specs.Prelude.{◌≡◌, Result, IfErr, IfOk, IsTrue}
use Rattle.kt_store.specs.declared.error.StoreError.{StoreError}
use Rattle.kt_store.specs.Calls.{NeverFails, counted}
use Rattle.kt_store.specs.declared.store.CkptStore.{Ghosts}
use Rattle.kt_model.specs.State.{State}
use Rattle.kt_core.specs.Store.{IsFault}
use Rattle.kt_core.specs.World.{WorldModel, beside}

-- the world stays as it was, and while its store, of this kind, is honest the answer is what this says of its state
pub record IsAsked {S T : Type 0} (kind : Ghosts S) (old new : WorldModel) (Says : State → T → Type 0)
    (result : Result T StoreError) : Type 0 where
  pub value : IsTrue new.is_honest → IfOk result (Says old.state)
  pub same : IsTrue new.is_honest → new.state ≡ old.state
  pub beside : beside new.state ≡ beside old.state
  pub honest : IsTrue new.is_honest → IsTrue old.is_honest
  pub lasts : NeverFails kind.failures → IsTrue old.is_honest → IsTrue new.is_honest
  pub counts : new.counts ≡ counted result old.counts
  pub cause : IfErr result (IsFault new.is_honest)
