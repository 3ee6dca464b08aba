-- What happened before an act (Lamport, "Time, Clocks, and the Ordering of Events in a Distributed System",
-- section "The Partial Ordering").
-- Cited by Changes, Fronts, Pasts, Sense, Survivors, laws.rt, specs/Closed, specs/Survival,
--   `laws::the_past_goes_back_step_by_step`; other crates.
use Rattle.std.specs.Prelude.{◌≡◌, ◌≢◌, ℕ, List, Some, Contains}
use Rattle.kt_history.specs.declared.note.Act.{Act}
use Rattle.kt_history.specs.declared.note.Note.{Note}
use Rattle.kt_history.specs.declared.note.Note.TheVariants as notes
use Rattle.kt_history.specs.Log.{note_at, before, log}

-- g stood in the log of f's node just before the act f was appended
pub record StoodBefore (h : List Note) (g f : ℕ) : Type 0 where
  pub act : Act
  pub is_act : note_at h f ≡ Some (notes.Act act)
  pub stood : Contains (log (before h f) act.node) g

-- the act f names g as the act that sent what was heard
pub record IsCauseOf (h : List Note) (g f : ℕ) : Type 0 where
  pub act : Act
  pub is_act : note_at h f ≡ Some (notes.Act act)
  pub names : act.by ≡ g
  pub some : g ≢ 0

-- e happened before f, or is f: the past of f is the least set that holds f, and with an act each act that
-- stood in its node's log just before it, and with an act its cause
pub data InPast (h : List Note) (e : ℕ) : ℕ → Type 0 where
  itself : InPast h e e
  in_log : {g f : ℕ} → StoodBefore h g f → InPast h e g → InPast h e f
  by_cause : {g f : ℕ} → IsCauseOf h g f → InPast h e g → InPast h e f
