-- What a store counts never falls.
-- Cited by Making, `LockedJournal::act`.
use Rattle.std.proofs.Common.{◌≡◌, ◌≤◌, ℕ, Result, Ok, Err, arith, sym, subst}
use Rattle.kt_store.specs.declared.error.StoreError.{StoreError}
use Rattle.kt_store.specs.declared.error.StoreError.TheVariants as stores
use Rattle.kt_store.specs.Calls.{Counts, counted, raised, raised_by}
use Rattle.kt_model.specs.declared.error.StepError.{StepError}
use Rattle.kt_model.specs.declared.error.StepError.TheVariants as refusals
use Rattle.kt_core.specs.Store.{AreLater}
use Rattle.kt_core.specs.Stepping.{step_counted}

raised-later : (n : ℕ) → n ≤ raised n
raised-later n = grind arith

pub never-fewer : (c : Counts) → AreLater c c
never-fewer c = record { faults = omega arith; wants = omega arith }

pub raised-by-later : (e : StoreError) (c : Counts) → AreLater c (raised_by e c)
raised-by-later stores.Memory c = record { faults = omega arith; wants = raised-later c.wants }
raised-by-later stores.Device c = record { faults = raised-later c.faults; wants = omega arith }
raised-by-later stores.Damaged c = never-fewer c
raised-by-later stores.Full c = never-fewer c

pub counted-later : {T : Type 0} (r : Result T StoreError) (c : Counts) → AreLater c (counted r c)
counted-later (Ok x) c = never-fewer c
counted-later (Err e) c = raised-by-later e c

pub step-later : {T : Type 0} (r : Result T StepError) (c : Counts) → AreLater c (step_counted r c)
step-later (Ok x) c = never-fewer c
step-later (Err (refusals.Store e)) c = raised-by-later e c
step-later (Err refusals.OutOfMemory) c = never-fewer c
step-later (Err refusals.NoNode) c = never-fewer c
step-later (Err refusals.WrongMode) c = never-fewer c
step-later (Err refusals.NothingThere) c = never-fewer c
step-later (Err refusals.NoSuchMatch) c = never-fewer c
step-later (Err refusals.NotDecided) c = never-fewer c
step-later (Err refusals.Unresolved) c = never-fewer c
step-later (Err refusals.StepLimit) c = never-fewer c

-- one time after another
pub later-still : (first between last : Counts) → AreLater first between → AreLater between last → AreLater first last
later-still first between last one two =
    let a = one.faults in let b = two.faults in let c = one.wants in let d = two.wants in
    record { faults = omega (arith, a, b); wants = omega (arith, c, d) }

-- a step was tried since
pub tried-later : {T : Type 0} (first old new : Counts) (r : Result T StepError) → AreLater first old → new ≡ step_counted r old → AreLater first new
tried-later first old new r le is = subst (AreLater first) (sym is) (later-still first old (step_counted r old) le (step-later r old))
