-- Fault lines: which nodes shall fail, or begin a check, and when; and which of these lines a step spends.
-- Cited by faults.rt, `Faults::least_after`; other crates.
use Rattle.std.specs.Prelude.{ℕ, ◌==◌, min, nat_le, Bool, true, false, not, ◌&&◌}
use Rattle.std.specs.Prelude.{List, filter, fold, map, set, slice_get, position, Option, None, Some}
use Rattle.std.specs.List.{list_any}
use Rattle.kt_tuple.specs.declared.node.NodeId.{NodeId}
use Rattle.kt_tuple.specs.Node.{node_eq}
use Rattle.kt_scenario.specs.declared.step.Step.{Step}
use Rattle.kt_scenario.specs.declared.step.Step.TheVariants.{Fail, Check}
use Rattle.kt_scenario.specs.declared.faults.FaultKind.{FaultKind}
use Rattle.kt_scenario.specs.declared.faults.FaultKind.TheVariants as kinds
use Rattle.kt_scenario.specs.declared.faults.Fault.{Fault}
use Rattle.kt_scenario.specs.declared.faults.FaultLine.{FaultLine}

-- the step that the line asks for
abbrev pub step_of : Fault → Step
step_of fault = asked_of fault.kind fault.node
  where
    asked_of : FaultKind → NodeId → Step
    asked_of kinds.Fail p = Fail p
    asked_of kinds.Check p = Check p

abbrev pub is_kind : FaultKind → FaultKind → Bool
is_kind kinds.Fail kinds.Fail = true
is_kind kinds.Check kinds.Check = true
is_kind a b = false

-- the line is of this kind and node, and is not marked
abbrev pub is_open : FaultKind → NodeId → FaultLine → Bool
is_open kind p line = is_kind line.fault.kind kind && node_eq line.fault.node p && not line.is_marked

-- such a line is due for a node that has made so many steps of its own
abbrev pub is_due_line : FaultKind → NodeId → ℕ → FaultLine → Bool
is_due_line kind p own line = is_open kind p line && nat_le line.fault.after own

abbrev pub is_due : FaultKind → NodeId → ℕ → List FaultLine → Bool
is_due kind p own lines = list_any (is_due_line kind p own) lines

-- ---- spending

abbrev pub lesser : Option ℕ → ℕ → Option ℕ
lesser None n = Some n
lesser (Some m) n = Some (min m n)

-- the least number of the list, if it has one
abbrev pub least : List ℕ → Option ℕ
least numbers = fold lesser None numbers

-- the numbers of steps in the lines of this kind and node that are not marked
abbrev pub open_afters : FaultKind → NodeId → List FaultLine → List ℕ
open_afters kind p lines = map (λ line. line.fault.after) (filter (is_open kind p) lines)

abbrev pub place_with : FaultKind → NodeId → List FaultLine → Option ℕ → Option ℕ
place_with kind p lines None = None
place_with kind p lines (Some after) = position (λ line. is_open kind p line && (line.fault.after == after)) lines

-- the place of the line that is spent: of those not marked the one with the least number, of equal ones the first
abbrev pub place_spent : FaultKind → NodeId → List FaultLine → Option ℕ
place_spent kind p lines = place_with kind p lines (least (open_afters kind p lines))

abbrev pub marked : FaultLine → FaultLine
marked line = record line { is_marked = true }

abbrev pub set_marked : List FaultLine → ℕ → Option FaultLine → List FaultLine
set_marked lines place None = lines
set_marked lines place (Some line) = set lines place (marked line)

abbrev pub mark_at : List FaultLine → Option ℕ → List FaultLine
mark_at lines None = lines
mark_at lines (Some place) = set_marked lines place (slice_get lines place)

-- a failure and a check mark a line of their kind and node; no other step marks one
abbrev pub spent : List FaultLine → Step → List FaultLine
spent lines (Fail p) = mark_at lines (place_spent kinds.Fail p lines)
spent lines (Check p) = mark_at lines (place_spent kinds.Check p lines)
spent lines step = lines
