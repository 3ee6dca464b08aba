-- What the cells of a page show of a state: lines of text.
-- Cited by Added, Saved, adding.rt, ballot_cells.rt, cells.rt, node_cells.rt, request_cells.rt, saved_cells.rt,
--   specs/auxiliary/Found, `ballot_cells::ballot_lines`, `ballot_cells::push_others`, `cells::cells_of`,
--   `cells::push_all_ways`, `cells::push_nodes`, `cells::push_ways`, `request_cells::add_all_waiting`; other crates.
use Rattle.std.specs.Prelude.{ℕ, Bool, true, false, if◌then◌else◌, List, [], ◌∷◌, ◌++◌, codes, decimal, filter}
use Rattle.std.specs.Prelude.{length, map, Option, None, Some, option_and_then}
use Rattle.std.specs.List.{flat_map}
use Rattle.kt_tuple.specs.declared.node.NodeId.{NodeId}
use Rattle.kt_tuple.specs.declared.node.NodeId.TheVariants.{Worker, Shard}
use Rattle.kt_tuple.specs.declared.op.Op.{Op}
use Rattle.kt_tuple.specs.Node.{all_nodes}
use Rattle.kt_tuple.specs.Spelling.{node_text, op_text, tuple_text}
use Rattle.kt_script.specs.declared.command.Command.{Command}
use Rattle.kt_history.specs.Log.{log}
use Rattle.kt_shard.specs.declared.request.Request.{Request}
use Rattle.kt_shard.specs.Shard.{Shard as ShardState, session_of}
use Rattle.kt_worker.specs.WorkerModel.{WorkerModel, next_request}
use Rattle.kt_ckpt.specs.Checkpoint.{Checkpoint}
use Rattle.kt_vote.specs.declared.asker.Asker.{Asker}
use Rattle.kt_vote.specs.Poll.{Poll, is_awaited}
use Rattle.kt_store.specs.declared.rows.InstanceRow.{InstanceRow}
use Rattle.kt_store.specs.declared.rows.NodeRow.{NodeRow}
use Rattle.kt_store.specs.declared.rows.Purpose.{Purpose}
use Rattle.kt_store.specs.declared.rows.Purpose.TheVariants as purposes
use Rattle.kt_store.specs.declared.rows.Tentative.{Tentative}
use Rattle.kt_store.specs.declared.rows.Verdict.{Verdict}
use Rattle.kt_store.specs.declared.rows.Verdict.TheVariants as verdicts
use Rattle.kt_store.specs.Content.{Content, instance_row, row_of, verdict_on}
use Rattle.kt_state.specs.declared.node.Mode.{Mode}
use Rattle.kt_state.specs.declared.node.Mode.TheVariants as modes
use Rattle.kt_state.specs.Node.{shard_of, worker_of}
use Rattle.kt_scenario.specs.Scene.{are_neighbours, is_node, script_in}
use Rattle.kt_model.specs.ReadSet.{poll_at}
use Rattle.kt_model.specs.State.{State, link, node}
use Rattle.kt_core.specs.Lent.{kept}
use Rattle.kt_trace.specs.Rows.{mode_at}
use Rattle.kt_story.specs.Said.{count_text}
use Rattle.kt_cells.specs.Lines.{kept_line, message_line}

abbrev pub Lines : Type 0
Lines = List (List ℕ)

-- the line, where it is to be said
abbrev pub said_if : Bool → List ℕ → Lines
said_if true text = text ∷ []
said_if false text = []

-- ---- the mode, and what the node takes part in

abbrev pub mode_word : Mode → List ℕ
mode_word modes.Up = codes "up"
mode_word modes.Held = codes "held"
mode_word modes.Rolling = codes "rolling back"
mode_word modes.Down = codes "down"

abbrev pub purpose_word : Purpose → List ℕ
purpose_word purposes.Check = codes "check "
purpose_word purposes.Rollback = codes "rollback "

-- a check or a rollback, its number, and who began it
abbrev pub begun_text : Option InstanceRow → List ℕ
begun_text None = []
begun_text (Some row) = purpose_word row.purpose ++ decimal row.instance ++ codes " of " ++ node_text row.initiator

abbrev pub asked_text : Option Asker → List ℕ
asked_text None = []
asked_text (Some asker) = codes ", asked by " ++ node_text asker.node

abbrev pub name_behind : NodeId → List ℕ
name_behind p = codes ", " ++ node_text p

-- names with a comma between each two
abbrev pub names_text : List NodeId → List ℕ
names_text [] = []
names_text (p ∷ later) = node_text p ++ flat_map name_behind later

abbrev pub awaited_lines : List NodeId → Lines
awaited_lines [] = []
awaited_lines (p ∷ later) = (codes "waits for the votes of " ++ names_text (p ∷ later)) ∷ []

-- the check or rollback, by whom the node was asked, whose votes are missing, whether one was no, whether it has voted
abbrev pub part_lines : Content → Option Poll → Lines
part_lines c None = []
part_lines c (Some poll) =
    (begun_text (instance_row c poll.instance) ++ asked_text poll.parent)
    ∷ awaited_lines (filter (is_awaited poll) all_nodes)
    ++ said_if poll.refused (codes "a vote was no") ++ said_if poll.voted (codes "has voted")

-- ---- what a worker asks

abbrev pub numbered_text : ℕ → Op → List ℕ
numbered_text number op = decimal number ++ codes ": " ++ op_text op

abbrev pub next_line : Option (ℕ × Op) → List ℕ
next_line None = codes "script done"
next_line (Some r) = codes "next " ++ numbered_text r.0 r.1

abbrev pub next_in : WorkerModel → List Command → Option (ℕ × Op)
next_in w script = next_request script w

-- what is unanswered, and else what comes next
abbrev pub request_line : Option (List Command) → WorkerModel → Option Op → List ℕ
request_line script w (Some op) = codes "waits for " ++ numbered_text w.number op
request_line script w None = next_line (option_and_then (next_in w) script)

abbrev pub request_lines : Option (List Command) → Option WorkerModel → Lines
request_lines script None = []
request_lines script (Some w) = request_line script w w.asked ∷ []

-- ---- what a shard has

abbrev pub tuple_lines : Option ShardState → Lines
tuple_lines None = []
tuple_lines (Some y) = map tuple_text y.bag

abbrev pub waiting_text : NodeId → Option Request → Lines
waiting_text p None = []
waiting_text p (Some r) = (node_text p ++ 46 ∷ decimal r.number ++ 32 ∷ op_text r.op) ∷ []

abbrev pub waiting_of : ShardState → NodeId → Lines
waiting_of y (Worker n) = waiting_text (Worker n) (session_of y n).waiting
waiting_of y (Shard n) = []

-- each worker that waits, and for what
abbrev pub waiting_lines : Option ShardState → Lines
waiting_lines None = []
waiting_lines (Some y) = flat_map (waiting_of y) all_nodes

-- ---- what is kept back, and what is remembered

abbrev pub kept_lines : State → NodeId → Lines
kept_lines s p = map (λ x. kept_line x.0 x.1) (kept s p)

abbrev pub acts_in : Option Checkpoint → ℕ
acts_in None = 0
acts_in (Some checkpoint) = checkpoint.line_len

abbrev pub acts_of : Option Tentative → ℕ
acts_of None = 0
acts_of (Some t) = t.checkpoint.line_len

-- a tentative checkpoint counts as the permanent one from its Yes on
abbrev pub permanent_len : NodeRow → Option Verdict → ℕ
permanent_len row (Some verdicts.Yes) = acts_of row.tentative
permanent_len row (Some verdicts.No) = acts_in row.permanent
permanent_len row (Some verdicts.Open) = acts_in row.permanent
permanent_len row None = acts_in row.permanent

abbrev pub tentative_lines : Option Tentative → Lines
tentative_lines None = []
tentative_lines (Some t) =
    (decimal t.checkpoint.line_len ++ codes " tentative (check " ++ decimal t.instance ++ 41 ∷ []) ∷ []

-- how many acts the node remembers, and how many of them its checkpoints hold
abbrev pub saved_lines : State → NodeId → Lines
saved_lines s p = let row = row_of s.content p in
    count_text (length (log s.history p)) (codes "act")
    ∷ (decimal (permanent_len row (verdict_on s.content row.tentative)) ++ codes " permanent")
    ∷ tentative_lines row.tentative

-- ---- the cells

-- of a worker its request, of a shard its tuples and who waits
abbrev pub own_cells : State → NodeId → List Lines
own_cells s (Worker n) = let p = Worker n in
    request_lines (script_in s.scene p) (option_and_then worker_of (node s p)) ∷ []
own_cells s (Shard n) = let y = option_and_then shard_of (node s (Shard n)) in tuple_lines y ∷ waiting_lines y ∷ []

-- those of a node
abbrev pub node_cells : State → NodeId → List Lines
node_cells s p =
    (mode_word (mode_at s p) ∷ []) ∷ part_lines s.content (poll_at s p) ∷ own_cells s p
    ++ kept_lines s p ∷ saved_lines s p ∷ []

abbrev pub cells_at : State → NodeId → List Lines
cells_at s p = if is_node s.scene p then node_cells s p else []

-- what is on its way from p to q, the first to arrive first
abbrev pub way_cells : State → NodeId → NodeId → List Lines
way_cells s p q = if are_neighbours s.scene p q then map message_line (link s p q) ∷ [] else []

abbrev pub ways_from : State → NodeId → List Lines
ways_from s p = flat_map (way_cells s p) all_nodes

-- those of all nodes, and then those of all links
unfoldable pub cells_of : State → List Lines
cells_of s = flat_map (cells_at s) all_nodes ++ flat_map (ways_from s) all_nodes
