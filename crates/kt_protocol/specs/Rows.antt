-- The rows of the table of arrivals for the two asks, as functions: the tests from the top, the first that stands
-- decides. The ask stands at the front of the link from x to o.
-- Cited by Rows, laws.rt.
use Rattle.std.specs.Prelude.{ℕ, eqb, Bool, true, false, not, ◌&&◌, if◌then◌else◌, List, Option, Some, None}
use Rattle.kt_protocol.specs.Labels.{Label, up_to}
use Rattle.kt_protocol.specs.Logs.{top_sent, top_heard}
use Rattle.kt_protocol.specs.Machine.{Instance, key_of, Check, Rollback, Verdict, Open, Mode, Up, Within, Down, Message}
use Rattle.kt_protocol.specs.Machine.{Node, State}
use Rattle.kt_protocol.specs.Steps.{change, pull, push, sifting, answering, joining, asking}

-- the verdict is not written: a test that computes
abbrev pub is_open : Verdict → Bool
is_open Open = true
is_open v = false

-- an ask: its label, the asker's incarnation, and what stands behind it on the link
pub record Asking : Type 0 where
  pub label : Label
  pub life : ℕ
  pub rest : List Message

-- the ask is dropped
abbrev pub drop_ask : Instance → ℕ → ℕ → Asking → State → State
drop_ask i o x a s = change o (sifting i x a.label) (pull x o a.rest s)

-- the ask is answered
abbrev pub answer_ask : Instance → ℕ → ℕ → Asking → Bool → State → State
answer_ask i o x a y s =
    change o (λ n. answering i (key_of x a.life) y (sifting i x a.label n)) (pull x o a.rest s)

-- o joins and asks its cohort
abbrev pub join_by_ask : Instance → ℕ → ℕ → Asking → (ℕ → Bool) → State → State
join_by_ask i o x a cohort s =
    change o (λ n. joining i (Some (key_of x a.life)) cohort (sifting i x a.label n))
    (push o (asking i cohort (s.node o)) (pull x o a.rest s))

-- the ask of a rollback, where something was heard above its label
abbrev pub roll_in_mode : (ℕ → ℕ → Bool) → ℕ → ℕ → ℕ → Asking → State → Mode → State
roll_in_mode peer k o x a s Up = join_by_ask (Rollback k) o x a (peer o) s
roll_in_mode peer k o x a s (Within (Rollback m) b) = answer_ask (Rollback k) o x a (eqb m k) s
roll_in_mode peer k o x a s mode = answer_ask (Rollback k) o x a false s

-- the row of the ask of a rollback at a node that is not down
abbrev pub roll_row : (ℕ → ℕ → Bool) → ℕ → ℕ → ℕ → Asking → State → State
roll_row peer k o x a s =
    if not (is_open (s.board.verdict (Rollback k))) then answer_ask (Rollback k) o x a false s
    else if up_to (top_heard (s.node o).log x) a.label then answer_ask (Rollback k) o x a true s
    else roll_in_mode peer k o x a s (s.node o).mode

-- the ask of a rollback arrives
abbrev pub hear_roll_ask : (ℕ → ℕ → Bool) → ℕ → ℕ → ℕ → Asking → State → Mode → State
hear_roll_ask peer k o x a s Down = drop_ask (Rollback k) o x a s
hear_roll_ask peer k o x a s mode = roll_row peer k o x a s

-- whom a check asks: the neighbours of whom the node heard something since its permanent checkpoint
abbrev pub check_cohort : (ℕ → ℕ → Bool) → ℕ → Node → ℕ → Bool
check_cohort peer o n q = peer o q && not (up_to (top_heard n.log q) (top_heard n.perm q))

-- the label is at least that of the first message to the asker since the permanent checkpoint, if there is one
abbrev pub reaches : Option Label → Label → Bool
reaches None l = false
reaches (Some first) l = up_to first l

-- this check is held
abbrev pub holds : Option ℕ → ℕ → Bool
holds None k = false
holds (Some j) k = eqb j k

-- the ask of a check, where its label is above what the permanent checkpoint sent
abbrev pub check_in_mode : (ℕ → ℕ → Bool) → ℕ → ℕ → ℕ → Asking → Option Label → State → Mode → State
check_in_mode peer k o x a first s Up =
    if reaches first a.label && up_to a.label (top_sent (s.node o).log x)
    then join_by_ask (Check k) o x a (check_cohort peer o (s.node o)) s else answer_ask (Check k) o x a false s
check_in_mode peer k o x a first s mode =
    answer_ask (Check k) o x a (holds (s.node o).tent k && up_to a.label (top_sent (s.node o).log x)) s

-- the row of the ask of a check at a node that is not down; `first` is the label of its first message to x since its
-- permanent checkpoint
abbrev pub check_row : (ℕ → ℕ → Bool) → ℕ → ℕ → ℕ → Asking → Option Label → State → State
check_row peer k o x a first s =
    if not (is_open (s.board.verdict (Check k))) then answer_ask (Check k) o x a false s
    else if up_to a.label (top_sent (s.node o).perm x) then answer_ask (Check k) o x a true s
    else check_in_mode peer k o x a first s (s.node o).mode

-- the ask of a check arrives
abbrev pub hear_check_ask : (ℕ → ℕ → Bool) → ℕ → ℕ → ℕ → Asking → Option Label → State → Mode → State
hear_check_ask peer k o x a first s Down = drop_ask (Check k) o x a s
hear_check_ask peer k o x a first s mode = check_row peer k o x a first s
