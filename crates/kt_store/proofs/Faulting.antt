-- A fault counted beside those of the store below.
-- Cited by faulty.rt, `FaultStoreCkptStore::begin_check`, `FaultStoreCkptStore::begin_restart`,
--   `FaultStoreCkptStore::bump`, `FaultStoreCkptStore::decide`, `FaultStoreCkptStore::discard`,
--   `FaultStoreCkptStore::incarnation`, `FaultStoreCkptStore::initiator`, `FaultStoreCkptStore::is_fresh`,
--   `FaultStoreCkptStore::next_instance`, `FaultStoreCkptStore::nodes`, `FaultStoreCkptStore::open_of`,
--   `FaultStoreCkptStore::permanent_header`, `FaultStoreCkptStore::permanent`, `FaultStoreCkptStore::promote`,
--   `FaultStoreCkptStore::put_tentative`, `FaultStoreCkptStore::tentative_header`, `FaultStoreCkptStore::tentative`,
--   `FaultStoreCkptStore::verdict`.
use Rattle.std.proofs.Common.{◌≡◌, ◌∙◌, Bool, true, false, ◌||◌, ap, sym, refl}
use Rattle.std.specs.Prelude.{Result, Ok, Err}
use Rattle.kt_store.specs.declared.error.StoreError.{StoreError}
use Rattle.kt_store.specs.declared.error.StoreError.TheVariants.{Memory, Device, Damaged, Full}
use Rattle.kt_store.specs.Calls.{Counts, HasCause, NeverFails, counted}
use Rattle.kt_store.specs.declared.faulty.FaultStore.{FaultStore}
use Rattle.kt_store.specs.declared.store.CkptStore.{Ghosts}
use Rattle.kt_store.specs.auxiliary.Failing.{with_fault}

-- it is one to the counts whether it came before an answer or after it
fault-counted : {T : Type 0} (b : Bool) (r : Result T StoreError) (c : Counts) → with_fault b (counted r c) ≡ counted r (with_fault b c)
fault-counted false r c = refl
fault-counted true (Ok x) c = refl
fault-counted true (Err Memory) c = refl
fault-counted true (Err Device) c = refl
fault-counted true (Err Damaged) c = refl
fault-counted true (Err Full) c = refl

-- an answer of the store below has its cause with the fault counted too
pub passed_on : {T : Type 0} {first before now : Counts} {is_honest : Bool} {IsFull : Type 0} {result : Result T StoreError}
    (old asked : Bool) → asked ≡ (old || false) → before ≡ first → HasCause before now is_honest IsFull result
    → HasCause (with_fault old first) (with_fault asked now) is_honest IsFull result
passed_on {first = first} {now = now} {result = r} true asked is same h = record {
  counts = ap (λ (b : Bool). with_fault b now) is ∙ ap (with_fault true) (h.counts ∙ ap (counted r) same) ∙ fault-counted true r first;
  damaged = h.damaged;
  full = h.full;
}
passed_on {first = first} {now = now} {result = r} false asked is same h = record {
  counts = ap (λ (b : Bool). with_fault b now) is ∙ h.counts ∙ ap (counted r) same;
  damaged = h.damaged;
  full = h.full;
}

-- and so has the fault itself
pub own_fault : {T : Type 0} (old new : Bool) (c d : Counts) (is_honest : Bool) (IsFull : Type 0) → old ≡ false → new ≡ true → d ≡ c
    → HasCause {T = T} (with_fault old c) (with_fault new d) is_honest IsFull (Err Device)
own_fault {T = T} old new c d is_honest IsFull was is same = record {
  counts = ap (λ (b : Bool). with_fault b d) is ∙ ap (with_fault true) same ∙ ap (λ (b : Bool). with_fault true (with_fault b c)) (sym was) ∙ raised-once;
  damaged = λ is. cc is;
  full = λ is. cc is;
}
  where
    raised-once : with_fault true (with_fault old c) ≡ counted {T = T} (Err Device) (with_fault old c)
    raised-once = refl

-- what cannot fail the stores of this kind cannot fail those below
pub below : {S : Type 0} {kind : Ghosts S} → NeverFails {S = FaultStore S kind} (λ s. kind.failures s.inner) → NeverFails kind.failures
below never store = never (record { inner = store; left = 0; has_failed = false; spent = λ is. refl })
