-- The acts of a log: which a node's log may hold, and their bytes.
-- Cited by ActCauses, ActFields, ActWhats, Checkpoints, Gatherings, OldCheckpoints, OldParts, act_bytes.rt, acts.rt,
--   decode.rt, old.rt, past.rt, specs/Checkpoint, specs/LogActs, specs/Old, specs/auxiliary/Gathered, `Past::acts`,
--   `Past::are_fit`, `act_bytes::acts_at`, `act_bytes::push_acts`, `act_bytes::push_log`, `past::are_fit_behind`; other
--   crates.
use Rattle.std.specs.Prelude.{◌≡◌, ℕ, ◌≤◌, ◌<◌, ◌^◌, ◌==◌, nat_le, Bool, true, false, not, ◌&&◌, if◌then◌else◌}
use Rattle.std.specs.Prelude.{List, [], ◌∷◌, ◌++◌, Option, None, Some, IfSome, Result, Ok, Err, IsTrue}
use Rattle.std.specs.Int.{w64, to_be_bytes}
use Rattle.kt_tuple.specs.declared.node.NodeId.{NodeId}
use Rattle.kt_tuple.specs.declared.node.NodeId.TheVariants.{Worker, Shard}
use Rattle.kt_tuple.specs.declared.op.Answer.{Answer}
use Rattle.kt_history.specs.declared.note.What.{What}
use Rattle.kt_history.specs.declared.note.What.TheVariants as whats
use Rattle.kt_ckpt.specs.declared.acts.LogAct.{LogAct}
use Rattle.kt_ckpt.specs.declared.error.CkptError.{CkptError}
use Rattle.kt_ckpt.specs.declared.error.CkptError.TheVariants.{Field}
use Rattle.kt_ckpt.specs.Limits.{worker_code, shard_code, issue_code, repeat_code}
use Rattle.kt_tuple.specs.declared.node.TheConstants.{MAX_WORKERS, MAX_SHARDS}
use Rattle.kt_ckpt.specs.Limits.{heard_code, served_code, again_code, accepted_code, ignored_code}
use Rattle.kt_ckpt.specs.Reading.{◌>>=◌, made, byte_at, number_at}
use Rattle.kt_ckpt.specs.Node.{node_bytes}
use Rattle.kt_ckpt.specs.Op.{IsOp, IsAnswer, op_bytes, op_at, answer_bytes, answer_at}

-- ---- which acts stand in whose log

-- a worker issues, repeats, accepts, and ignores an answer; a shard hears, serves, answers again, and ignores a request
abbrev pub is_done_by : NodeId → What → Bool
is_done_by (Worker i) whats.Issue = true
is_done_by (Worker i) whats.Repeat = true
is_done_by (Worker i) (whats.Accepted answer) = true
is_done_by (Worker i) (whats.Ignored (Some answer)) = true
is_done_by (Shard i) whats.Heard = true
is_done_by (Shard i) (whats.Served answer) = true
is_done_by (Shard i) (whats.Again answer) = true
is_done_by (Shard i) (whats.Ignored None) = true
is_done_by _ _ = false

-- a worker's acts are about its own requests, a shard's about those of a worker that there may be
abbrev pub is_about : NodeId → ℕ → Bool
is_about (Worker i) worker = worker == i
is_about (Shard i) worker = nat_le 1 worker && nat_le worker MAX_WORKERS

-- what a worker hears a shard has sent, what a shard hears of this worker the worker
abbrev pub may_send : NodeId → ℕ → NodeId → Bool
may_send (Worker i) worker (Shard s) = nat_le 1 s && nat_le s MAX_SHARDS
may_send (Shard i) worker (Worker w) = w == worker
may_send _ _ _ = false

-- done without hearing anything
abbrev pub is_own_will : What → Bool
is_own_will whats.Issue = true
is_own_will whats.Repeat = true
is_own_will _ = false

abbrev pub is_caused : NodeId → ℕ → What → Option (NodeId × ℕ) → Bool
is_caused p worker what None = is_own_will what
is_caused p worker what (Some by) = not (is_own_will what) && (may_send p worker by.0 && nat_le 1 by.1)

-- the act may stand in the log of p
abbrev pub is_act_of : NodeId → LogAct → Bool
is_act_of p a = is_done_by p a.what && (is_about p a.worker && is_caused p a.worker a.what a.by)

abbrev pub IsActOf : NodeId → LogAct → Type 0
IsActOf p a = IsTrue (is_act_of p a)

-- ---- bytes

abbrev pub what_code : What → ℕ
what_code whats.Issue = issue_code
what_code whats.Repeat = repeat_code
what_code whats.Heard = heard_code
what_code (whats.Served answer) = served_code
what_code (whats.Again answer) = again_code
what_code (whats.Accepted answer) = accepted_code
what_code (whats.Ignored answer) = ignored_code

-- the answer that the act tells, if it tells one
abbrev pub answer_of : What → Option Answer
answer_of whats.Issue = None
answer_of whats.Repeat = None
answer_of whats.Heard = None
answer_of (whats.Served answer) = Some answer
answer_of (whats.Again answer) = Some answer
answer_of (whats.Accepted answer) = Some answer
answer_of (whats.Ignored answer) = answer

abbrev pub told_bytes : Option Answer → List ℕ
told_bytes None = []
told_bytes (Some answer) = answer_bytes answer

-- a flag, and where there is one the act by its node and place
abbrev pub by_bytes : Option (NodeId × ℕ) → List ℕ
by_bytes None = 0 ∷ []
by_bytes (Some by) = 1 ∷ (node_bytes by.0 ++ to_be_bytes w64 by.1)

abbrev pub act_bytes : LogAct → List ℕ
act_bytes a =
    what_code a.what ∷ (a.worker ∷ (by_bytes a.by ++ (to_be_bytes w64 a.number
    ++ (op_bytes a.op ++ told_bytes (answer_of a.what)))))

-- what of an act has a spelling, besides that it may stand in a log
pub record IsSpelledAct (a : LogAct) : Type 0 where
  pub by : IfSome a.by (λ by. by.1 < 2 ^ 64)
  pub number : a.number < 2 ^ 64
  pub op : IsOp a.op
  pub answer : IfSome (answer_of a.what) IsAnswer

-- ---- reading: each field is judged as it is read

-- a byte that passes
unfoldable pub byte_such : (ℕ → Bool) → List ℕ → Result (ℕ × List ℕ) CkptError
byte_such passes bytes = do
  read ← byte_at bytes
  if passes read.0 then Ok read else Err Field

-- the acts that a node of this kind does
abbrev pub is_code_for : NodeId → ℕ → Bool
is_code_for (Worker i) code =
    if code == issue_code then true
    else if code == repeat_code then true
    else if code == accepted_code then true
    else code == ignored_code
is_code_for (Shard i) code =
    if code == heard_code then true
    else if code == served_code then true
    else if code == again_code then true
    else code == ignored_code

abbrev pub is_own_code : ℕ → Bool
is_own_code code = if code == issue_code then true else code == repeat_code

-- of the act with this code: 0 just where nothing was heard
abbrev pub is_flag_of : ℕ → ℕ → Bool
is_flag_of code flag = if is_own_code code then flag == 0 else flag == 1

-- who sent what was heard is of the other kind
abbrev pub sender_code : NodeId → ℕ
sender_code (Worker i) = shard_code
sender_code (Shard i) = worker_code

abbrev pub sender : NodeId → ℕ → NodeId
sender (Worker i) n = Shard n
sender (Shard i) n = Worker n

abbrev pub place_if : ℕ × List ℕ → Result (ℕ × List ℕ) CkptError
place_if read = if nat_le 1 read.0 then Ok read else Err Field

-- a place, counted from 1
unfoldable pub place_at : List ℕ → Result (ℕ × List ℕ) CkptError
place_at bytes = number_at w64 bytes >>= place_if

unfoldable pub cause_at : NodeId → ℕ → List ℕ → Result ((NodeId × ℕ) × List ℕ) CkptError
cause_at p worker bytes = do
  kind ← byte_such (λ code. code == sender_code p) bytes
  index ← byte_such (λ n. may_send p worker (sender p n)) kind.1
  place ← place_at index.1
  Ok ((sender p index.0, place.0), place.1)

abbrev pub by_behind : NodeId → ℕ → ℕ → List ℕ → Result (Option (NodeId × ℕ) × List ℕ) CkptError
by_behind p worker flag bytes = if flag == 0 then Ok (None, bytes) else made Some (cause_at p worker bytes)

unfoldable pub by_at : NodeId → ℕ → ℕ → List ℕ → Result (Option (NodeId × ℕ) × List ℕ) CkptError
by_at p code worker bytes = do
  flag ← byte_such (is_flag_of code) bytes
  by_behind p worker flag.0 flag.1

-- what was done, by its code; of a worker what is ignored is an answer
abbrev pub ignored_by : NodeId → List ℕ → Result (What × List ℕ) CkptError
ignored_by (Worker i) bytes = made (λ answer. whats.Ignored (Some answer)) (answer_at bytes)
ignored_by (Shard i) bytes = Ok (whats.Ignored None, bytes)

unfoldable pub what_behind : NodeId → ℕ → List ℕ → Result (What × List ℕ) CkptError
what_behind p code bytes =
    if code == issue_code then Ok (whats.Issue, bytes)
    else if code == repeat_code then Ok (whats.Repeat, bytes)
    else if code == heard_code then Ok (whats.Heard, bytes)
    else if code == served_code then made whats.Served (answer_at bytes)
    else if code == again_code then made whats.Again (answer_at bytes)
    else if code == accepted_code then made whats.Accepted (answer_at bytes)
    else ignored_by p bytes

unfoldable pub act_at : NodeId → List ℕ → Result (LogAct × List ℕ) CkptError
act_at p bytes = do
  code ← byte_such (is_code_for p) bytes
  worker ← byte_such (is_about p) code.1
  by ← by_at p code.0 worker.0 worker.1
  number ← number_at w64 by.1
  op ← op_at number.1
  what ← what_behind p code.0 op.1
  Ok (record { by = by.0; worker = worker.0; number = number.0; op = op.0; what = what.0 }, what.1)
