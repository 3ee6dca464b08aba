-- What comes before a tally is written.
-- Cited by Firsts, Told, tally.rt, times.rt, `tally::tally_of`, `times::reports_of`, `times::tally_read`.
use Rattle.std.specs.Prelude.{◌≡◌, ℕ, Bool, List, map, bytes_eq}
use Rattle.std.specs.Global.{Vec}
use Rattle.std.specs.List.{list_any}
use Rattle.kt_scene.specs.declared.fault.ReplayFault.{ReplayFault}
use Rattle.kt_scene.specs.declared.fault.ReplayFault.TheVariants as faults
use Rattle.kt_scene.specs.Outside.{Reader}
use Rattle.kt_scene.specs.Stream.{IsAllRead, IsReadFault}
use Rattle.kt_run.specs.declared.fault.RunTextFault.{RunTextFault}
use Rattle.kt_run.specs.declared.fault.RunTextFault.TheVariants.{Text}
use Rattle.kt_trials.specs.Runs.{AreReports, IsOneFault}
use Rattle.kt_trials.specs.Tally.{tally_text}

abbrev pub items_of : List (Vec ℕ) → List (List ℕ)
items_of texts = map (λ t. t.items) texts

-- the report is one of these
abbrev pub has : List (List ℕ) → List ℕ → Bool
has reports report = list_any (λ other. bytes_eq other report) reports

-- the tally of the reports of so many runs of what was read
pub record IsTally (times : ℕ) (before after : Reader) (tally : List ℕ) : Type 0 where
  pub reports : List (List ℕ)
  pub are : AreReports times before after reports
  pub is : tally ≡ tally_text reports

-- what the runs of a text answer
pub data IsTextStop (text : List ℕ) : RunTextFault → Type 0 where
  of_one : {fault : RunTextFault} → IsOneFault text fault → IsTextStop text fault
  of_room : IsTextStop text (Text faults.Memory)

-- what comes before the writing answers
pub data IsUnwritten (before after : Reader) : RunTextFault → Type 0 where
  in_reading : {fault : ReplayFault} → IsReadFault before after fault → IsUnwritten before after (Text fault)
  in_text : {fault : RunTextFault} (text : List ℕ) → IsAllRead before after text → IsTextStop text fault
      → IsUnwritten before after fault
