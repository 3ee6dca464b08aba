-- Operations and answers in bytes: a code for which it is, and its tuple or template.
-- Cited by ActFields, ActWhats, OldOps, OldStates, OldWorkers, Ops, States, act_bytes.rt, op.rt, specs/Acts,
--   specs/State, worker.rt.
use Rattle.std.specs.Prelude.{ℕ, ◌==◌, if◌then◌else◌, List, [], ◌∷◌, Result, Ok, Err}
use Rattle.kt_tuple.specs.declared.op.Op.{Op}
use Rattle.kt_tuple.specs.declared.op.Op.TheVariants.{Out, In, Rd, Inp, Rdp}
use Rattle.kt_tuple.specs.declared.op.Answer.{Answer}
use Rattle.kt_tuple.specs.declared.op.Answer.TheVariants as answers
use Rattle.kt_ckpt.specs.declared.error.CkptError.{CkptError}
use Rattle.kt_ckpt.specs.declared.error.CkptError.TheVariants.{Field}
use Rattle.kt_ckpt.specs.Limits.{out_code, in_code, rd_code, inp_code, rdp_code, done_code, got_code, none_code}
use Rattle.kt_ckpt.specs.Reading.{◌>>=◌, made, byte_at}
use Rattle.kt_ckpt.specs.Tuple.{IsTuple, IsTemplate, tuple_bytes, template_bytes, tuple_at, template_at}

abbrev pub IsOp : Op → Type 0
IsOp (Out u) = IsTuple u
IsOp (In t) = IsTemplate t
IsOp (Rd t) = IsTemplate t
IsOp (Inp t) = IsTemplate t
IsOp (Rdp t) = IsTemplate t

abbrev pub op_code : Op → ℕ
op_code (Out u) = out_code
op_code (In t) = in_code
op_code (Rd t) = rd_code
op_code (Inp t) = inp_code
op_code (Rdp t) = rdp_code

abbrev pub behind_op_code : Op → List ℕ
behind_op_code (Out u) = tuple_bytes u
behind_op_code (In t) = template_bytes t
behind_op_code (Rd t) = template_bytes t
behind_op_code (Inp t) = template_bytes t
behind_op_code (Rdp t) = template_bytes t

abbrev pub op_bytes : Op → List ℕ
op_bytes op = op_code op ∷ behind_op_code op

-- an operation behind this code
unfoldable pub op_behind : ℕ → List ℕ → Result (Op × List ℕ) CkptError
op_behind code bytes =
    if code == out_code then made Out (tuple_at bytes)
    else if code == in_code then made In (template_at bytes)
    else if code == rd_code then made Rd (template_at bytes)
    else if code == inp_code then made Inp (template_at bytes)
    else if code == rdp_code then made Rdp (template_at bytes)
    else Err Field

unfoldable pub op_at : List ℕ → Result (Op × List ℕ) CkptError
op_at bytes = do
  code ← byte_at bytes
  op_behind code.0 code.1

abbrev pub IsAnswer : Answer → Type 0
IsAnswer answers.Done = Unit {0}
IsAnswer (answers.Got u) = IsTuple u
IsAnswer answers.None = Unit {0}

abbrev pub answer_code : Answer → ℕ
answer_code answers.Done = done_code
answer_code (answers.Got u) = got_code
answer_code answers.None = none_code

abbrev pub behind_answer_code : Answer → List ℕ
behind_answer_code answers.Done = []
behind_answer_code (answers.Got u) = tuple_bytes u
behind_answer_code answers.None = []

abbrev pub answer_bytes : Answer → List ℕ
answer_bytes answer = answer_code answer ∷ behind_answer_code answer

-- an answer behind this code
unfoldable pub answer_behind : ℕ → List ℕ → Result (Answer × List ℕ) CkptError
answer_behind code bytes =
    if code == done_code then Ok (answers.Done, bytes)
    else if code == got_code then made answers.Got (tuple_at bytes)
    else if code == none_code then Ok (answers.None, bytes)
    else Err Field

unfoldable pub answer_at : List ℕ → Result (Answer × List ℕ) CkptError
answer_at bytes = do
  code ← byte_at bytes
  answer_behind code.0 code.1
