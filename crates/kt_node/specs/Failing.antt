-- The table of steps, those of failures: how a node fails, and comes back.
-- Cited by failing.rt; other crates.
use Rattle.std.specs.Prelude.{ℕ, ◌+◌, Bool, ◌&&◌, if◌then◌else◌, [], Option, None, Some, Result, Ok, Err}
use Rattle.std.specs.Option.{is_some}
use Rattle.kt_ckpt.specs.declared.header.CkptHeader.{CkptHeader}
use Rattle.kt_store.specs.declared.rows.Verdict.{Verdict}
use Rattle.kt_store.specs.declared.rows.Verdict.TheVariants as verdicts
use Rattle.kt_vote.specs.declared.asker.Asker.{Asker}
use Rattle.kt_vote.specs.Poll.{Poll, asking_poll}
use Rattle.kt_state.specs.declared.live.Phase.{Phase}
use Rattle.kt_state.specs.declared.live.Phase.TheVariants as phases
use Rattle.kt_state.specs.declared.change.Change.TheVariants as changes
use Rattle.kt_state.specs.declared.plan.Plan.{Plan}
use Rattle.kt_state.specs.declared.plan.Write.TheVariants as writes
use Rattle.kt_state.specs.declared.refusal.Refusal.{Refusal}
use Rattle.kt_state.specs.declared.refusal.Refusal.TheVariants as refusals
use Rattle.kt_state.specs.Labels.{label_at}
use Rattle.kt_state.specs.Node.{Live, Node, Down, Alive, neighbours}
use Rattle.kt_node.specs.View.{View}
use Rattle.kt_state.specs.Stored.{acts_in, fits}
use Rattle.kt_state.specs.Plan.{Planned}
use Rattle.kt_state.specs.Asking.{roll_asks}
use Rattle.kt_state.specs.declared.stored.Stored.{Stored}
use Rattle.kt_node.specs.Loading.{load}
use Rattle.kt_node.specs.Learning.{cut_of}

-- ---- fail: the log is cut to the tentative checkpoint if there is one whose instance did not get No, else to the
-- permanent one

abbrev pub left_by : Option Verdict → Option CkptHeader → Option CkptHeader → ℕ
left_by (Some verdicts.No) permanent tentative = acts_in permanent
left_by _ permanent tentative = acts_in tentative

abbrev pub log_left : Option Verdict → Option CkptHeader → Option CkptHeader → ℕ
log_left verdict permanent None = acts_in permanent
log_left verdict permanent (Some m) = left_by verdict permanent (Some m)

abbrev pub fail_plan : View → ℕ → Plan
fail_plan v keep = record { change = changes.Fall; send = []; note = cut_of v.role.id keep; write = None }

abbrev pub fail_of : View → Option Verdict → Option CkptHeader → Option CkptHeader → Node → Planned
fail_of v verdict permanent tentative Down = Err refusals.WrongMode
fail_of v verdict permanent tentative (Alive n) =
    if fits v.role v.line_len permanent && fits v.role v.line_len tentative
    then Ok (fail_plan v (log_left verdict permanent tentative))
    else Err refusals.Damaged

-- the verdict is what the board has of the tentative checkpoint's instance
abbrev pub fail : View → Option Verdict → Option CkptHeader → Option CkptHeader → Planned
fail v verdict permanent tentative = fail_of v verdict permanent tentative v.node

-- ---- restart: down with nothing tentative and no open instance of its own, or who began a rollback that got No. The
-- node goes on from its permanent checkpoint, in the next incarnation, and asks all neighbours to roll back.

abbrev pub restarter : View → Stored → ℕ → Poll
restarter v s next = asking_poll next (s.incarnation + 1) None (neighbours v.role)

abbrev pub restarting_plan : View → Stored → ℕ → Live → Plan
restarting_plan v s next live = record {
  change = changes.Load record live { phase = phases.Rolling (restarter v s next) };
  send = roll_asks next (s.incarnation + 1) (label_at live.sent) (neighbours v.role);
  note = None;
  write = Some writes.BeginRestart;
}

abbrev pub restarted : View → Stored → ℕ → Result Live Refusal → Planned
restarted v s next (Ok live) = Ok (restarting_plan v s next live)
restarted v s next (Err refusal) = Err refusal

abbrev pub restart_plan : View → Stored → ℕ → Planned
restart_plan v s next = restarted v s next (load v s)

abbrev pub restart_down : View → Stored → ℕ → Bool → Option ℕ → Planned
restart_down v s next is_tentative undecided =
    if is_tentative then Err refusals.Unresolved
    else if is_some undecided then Err refusals.Unresolved
    else restart_plan v s next

abbrev pub restart_after : View → Stored → ℕ → Option Verdict → Planned
restart_after v s next (Some verdicts.No) = restart_plan v s next
restart_after v s next _ = Err refusals.NotDecided

abbrev pub restart_by : View → Stored → ℕ → Option Verdict → Option Asker → Planned
restart_by v s next verdict None = restart_after v s next verdict
restart_by v s next verdict (Some parent) = Err refusals.WrongMode

abbrev pub restart_in : View → Stored → ℕ → Option Verdict → Phase → Planned
restart_in v s next verdict phases.Up = Err refusals.WrongMode
restart_in v s next verdict (phases.Held b) = Err refusals.WrongMode
restart_in v s next verdict (phases.Rolling b) = restart_by v s next verdict b.parent

abbrev pub restart_of : View → Stored → ℕ → Bool → Option ℕ → Option Verdict → Node → Planned
restart_of v s next is_tentative undecided verdict Down = restart_down v s next is_tentative undecided
restart_of v s next is_tentative undecided verdict (Alive n) = restart_in v s next verdict n.phase

-- `is_tentative` says whether a tentative checkpoint is stored, `undecided` which open instance the node began, the
-- verdict is what the board has of the ballot's instance, and the rollback has the next number
abbrev pub restart : View → Stored → ℕ → Bool → Option ℕ → Option Verdict → Planned
restart v s next is_tentative undecided verdict = restart_of v s next is_tentative undecided verdict v.node
