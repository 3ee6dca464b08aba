-- What one call of a store leaves.
-- Cited by Later, resuming.rt, space.rt, store_reads.rt, writing.rt.
use Rattle.std.specs.Prelude.{◌≡◌, Result, IfOk, IfErr, OnOk, OnErr, IsTrue}
use Rattle.kt_tuple.specs.declared.node.NodeId.{NodeId}
use Rattle.kt_store.specs.declared.error.StoreError.{StoreError}
use Rattle.kt_store.specs.Content.{Content}
use Rattle.kt_store.specs.Calls.{NeverFails, counted}
use Rattle.kt_store.specs.declared.store.CkptStore.{Ghosts}
use Rattle.kt_core.specs.Store.{IsCountedBeside, IsFault, IsWriteFault}

-- what was read is what an honest store holds, which stays as it was
pub record IsRead {S T : Type 0} (kind : Ghosts S) (old new : S) (Says : Content → T → Type 0)
    (result : Result T StoreError) : Type 0 where
  pub value : IsTrue (kind.is_honest new) → IfOk result (Says (kind.content old))
  pub same : IsTrue (kind.is_honest new) → kind.content new ≡ kind.content old
  pub honest : IsTrue (kind.is_honest new) → IsTrue (kind.is_honest old)
  pub lasts : NeverFails kind.failures → IsTrue (kind.is_honest old) → IsTrue (kind.is_honest new)
  pub counts : kind.counts new ≡ counted result (kind.counts old)
  pub cause : IfErr result (IsFault (kind.is_honest new))

-- as what was read, where what is read is copied as well
pub record IsGathered {S T : Type 0} (kind : Ghosts S) (old new : S) (Says : Content → T → Type 0)
    (result : Result T StoreError) : Type 0 where
  pub value : IsTrue (kind.is_honest new) → IfOk result (Says (kind.content old))
  pub same : IsTrue (kind.is_honest new) → kind.content new ≡ kind.content old
  pub honest : IsTrue (kind.is_honest new) → IsTrue (kind.is_honest old)
  pub lasts : NeverFails kind.failures → IsTrue (kind.is_honest old) → IsTrue (kind.is_honest new)
  pub counts : IsCountedBeside result (kind.counts old) (kind.counts new)
  pub cause : IfErr result (IsFault (kind.is_honest new))

-- an honest store holds then what the write of the node makes of it, or as before
pub record IsWritten {S : Type 0} (kind : Ghosts S) (old new : S) (p : NodeId) (written : Content → Content)
    (result : Result (Unit {0}) StoreError) : Type 0 where
  pub made : IsTrue (kind.is_honest new) → OnOk result (kind.content new ≡ written (kind.content old))
  pub unchanged : IsTrue (kind.is_honest new) → OnErr result (kind.content new ≡ kind.content old)
  pub honest : IsTrue (kind.is_honest new) → IsTrue (kind.is_honest old)
  pub lasts : NeverFails kind.failures → IsTrue (kind.is_honest old) → IsTrue (kind.is_honest new)
  pub counts : kind.counts new ≡ counted result (kind.counts old)
  pub cause : IfErr result (IsWriteFault (kind.is_honest new) (kind.content old) p)
