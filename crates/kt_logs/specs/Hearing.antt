-- Where a service comes from: the shard had heard the request.
-- Cited by other crates.
use Rattle.std.specs.Prelude.{◌≡◌, List, Contains}
use Rattle.kt_history.specs.declared.note.Act.{Act}
use Rattle.kt_history.specs.declared.note.What.TheVariants.{Heard}
use Rattle.kt_history.specs.WellFormed.{SameRequest}

-- one of these acts is the hearing of the request that a is about, with the same cause
pub record WasHeardFor (acts : List Act) (a : Act) : Type 0 where
  pub act : Act
  pub among : Contains acts act
  pub hears : act.what ≡ Heard
  pub same : SameRequest a act
  pub by : a.by ≡ act.by
