-- What was answered, beside what is due.
-- Cited by loading.rt, specs/auxiliary/Bodies; other crates.
use Rattle.std.specs.Prelude.{◌≡◌, Result, Ok, Err, IsOk}
use Rattle.kt_state.specs.declared.refusal.Refusal.{Refusal}
use Rattle.kt_state.specs.declared.refusal.Refusal.TheVariants as refusals

-- the refusal is the one that is due; where none is, memory ran out
abbrev pub Refuses : {X : Type 0} → Refusal → Result X Refusal → Type 0
Refuses refusals.OutOfMemory due = IsOk due
Refuses refusal due = due ≡ Err refusal

-- what was answered is what is due, unless memory ran out
abbrev pub Gives : {X : Type 0} → Result X Refusal → Result X Refusal → Type 0
Gives (Ok x) due = due ≡ Ok x
Gives (Err refusal) due = Refuses refusal due
