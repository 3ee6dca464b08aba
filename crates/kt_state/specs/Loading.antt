-- Loading the permanent state.
-- Cited by loading.rt, stored.rt; other crates.
use Rattle.std.specs.Prelude.{ℕ, Option, None, Some, Result, Ok, Err}
use Rattle.std.specs.Option.{option_map}
use Rattle.kt_ckpt.specs.declared.ckpt.Ckpt.{Ckpt}
use Rattle.kt_ckpt.specs.declared.header.CkptHeader.{CkptHeader}
use Rattle.kt_ckpt.specs.Header.{header_of}
use Rattle.kt_state.specs.declared.live.Phase.TheVariants as phases
use Rattle.kt_state.specs.declared.stored.Stored.{Stored}
use Rattle.kt_state.specs.declared.refusal.Refusal.{Refusal}
use Rattle.kt_state.specs.Labels.{no_labels, tabled}
use Rattle.kt_state.specs.Node.{Body, Live, fresh_live}

abbrev pub header_in : Stored → Option CkptHeader
header_in s = option_map header_of s.permanent

-- the node of the permanent checkpoint, in a new incarnation: state and labels are the checkpoint's, nothing was sent
-- since, nothing is kept
abbrev pub loaded_from : Option Ckpt → ℕ → Body → Live
loaded_from None incarnation body = fresh_live phases.Up incarnation body no_labels no_labels
loaded_from (Some c) incarnation body = fresh_live phases.Up incarnation body (tabled c.sent) (tabled c.received)

-- a checkpoint that does not fit the node is refused
abbrev pub loaded_by : Option Ckpt → ℕ → Result Body Refusal → Result Live Refusal
loaded_by checkpoint incarnation (Ok body) = Ok (loaded_from checkpoint incarnation body)
loaded_by checkpoint incarnation (Err refusal) = Err refusal
