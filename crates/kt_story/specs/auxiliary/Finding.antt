-- How the step that is to blame is found: the loss with the service's number, and the row with the number of its cut.
-- Cited by Blaming, Covering, story.rt, `Story::blame`, `Story::told`.
use Rattle.std.specs.Prelude.{ℕ, ◌==◌, Bool, ◌&&◌, is_some, List, Option, All}
use Rattle.std.specs.Prelude.{option_and_then}
use Rattle.std.specs.List.{find}
use Rattle.std.specs.Option.{option_map}
use Rattle.kt_history.specs.declared.note.Note.{Note}
use Rattle.kt_losses.specs.declared.loss.Loss.{Loss}
use Rattle.kt_losses.specs.Losses.{HasAllLost, IsLossOf}
use Rattle.kt_trace.specs.declared.traced.TracedStep.{TracedStep}
use Rattle.kt_tell.specs.Words.{is_failure}
use Rattle.kt_story.specs.declared.story.Blame.{Blame}

-- the losses are those of the history
pub record AreLosses (h : List Note) (losses : List Loss) : Type 0 where
  pub each : All (IsLossOf h) losses
  pub all : HasAllLost h losses

abbrev pub is_of : ℕ → Loss → Bool
is_of number loss = loss.service == number

-- the row made the event of this number
abbrev pub makes : ℕ → TracedStep → Bool
makes number row = row.notes == number && is_some row.note

abbrev pub blame_of : TracedStep → Blame
blame_of cut = record { node = cut.node; failed = is_failure cut.step; step = cut.number }

abbrev pub row_of_cut : List TracedStep → Loss → Option TracedStep
row_of_cut rows loss = find (makes loss.cut) rows

abbrev pub blame_by : List TracedStep → List Loss → ℕ → Option Blame
blame_by rows losses number = option_map blame_of (option_and_then (row_of_cut rows) (find (is_of number) losses))
