-- The acts of a log, as checkpoints hold them, stay what they are as the history grows.
-- Cited by HeldActs.
use Rattle.std.proofs.Common.{◌≡◌, ℕ, ◌≤◌, List, take, length, Option, Some, None, refl}
use Rattle.kt_tuple.specs.declared.node.NodeId.{NodeId}
use Rattle.kt_history.specs.declared.note.Note.{Note}
use Rattle.kt_history.specs.Closed.{acts_in_log}
use Rattle.kt_history.specs.WellFormed.{CausesComeFirst}
use Rattle.kt_ckpt.specs.LogActs.{log_acts}
use Rattle.kt_ckpt.proofs.Shared.{front-noted as front-pushed}
pub use Rattle.kt_ckpt.proofs.Shared.{acts-long, take-whole}
use Rattle.kt_model.specs.Effect.{noted}

-- of what is remembered before and after a note, if there is one, the first acts are the same
pub front-noted : (h : List Note) (note : Option Note) → CausesComeFirst h → (q : NodeId) (k : ℕ)
    → k ≤ length (acts_in_log h q) → k ≤ length (acts_in_log (noted h note) q)
    → take k (log_acts (noted h note) q) ≡ take k (log_acts h q)
front-noted h None causes q k before after = refl
front-noted h (Some note) causes q k low high = front-pushed h note causes q k low high
