-- When a node goes on from its permanent checkpoint.
-- Cited by learning.rt, specs/Failing, specs/Learning, view.rt; other crates.
use Rattle.std.specs.Prelude.{◌+◌, if◌then◌else◌, Result, Err}
use Rattle.kt_state.specs.declared.stored.Stored.{Stored}
use Rattle.kt_state.specs.declared.refusal.Refusal.{Refusal}
use Rattle.kt_state.specs.declared.refusal.Refusal.TheVariants as refusals
use Rattle.kt_state.specs.Loading.{loaded_by, header_in}
use Rattle.kt_state.specs.Node.{Live}
use Rattle.kt_state.specs.State.{body_at}
use Rattle.kt_state.specs.Stored.{fits}
use Rattle.kt_node.specs.View.{View}

-- the node that goes on so from its permanent checkpoint, in the next incarnation
abbrev pub load : View → Stored → Result Live Refusal
load v s =
    if fits v.role v.line_len (header_in s)
    then loaded_by s.permanent (s.incarnation + 1) (body_at v.role s.permanent)
    else Err refusals.Damaged
