-- How values, tuples and operations of format 1 are read. Each is spelled as it is now; but it may hold less, and each
-- field is judged by that as it is read.
-- Cited by OldFields, OldOps, OldStates, old_parts.rt, specs/OldState.
use Rattle.std.specs.Prelude.{ℕ, ◌==◌, Bool, not, ◌&&◌, if◌then◌else◌, List, [], ◌∷◌, Result, Ok, Err}
use Rattle.kt_tuple.specs.declared.value.Value.{Value}
use Rattle.kt_tuple.specs.declared.template.Place.{Place}
use Rattle.kt_tuple.specs.declared.op.Op.{Op}
use Rattle.kt_tuple.specs.declared.op.Op.TheVariants.{Out, In, Rd, Inp, Rdp}
use Rattle.kt_tuple.specs.declared.op.Answer.{Answer}
use Rattle.kt_tuple.specs.declared.op.Answer.TheVariants as answers
use Rattle.kt_ckpt.specs.declared.error.CkptError.{CkptError}
use Rattle.kt_ckpt.specs.declared.error.CkptError.TheVariants.{Field}
use Rattle.kt_ckpt.specs.declared.old_limits.TheConstants.{OLD_PLACES}
use Rattle.kt_ckpt.specs.Limits.{bool_code, bool_formal_code}
use Rattle.kt_ckpt.specs.Limits.{out_code, in_code, rd_code, inp_code, rdp_code, done_code, got_code, none_code}
use Rattle.kt_ckpt.specs.Reading.{◌>>=◌, Reader, made, byte_at, byte_within, list_at}
use Rattle.kt_ckpt.specs.Value.{value_at, place_at}

-- the field, whose first byte passes
unfoldable pub first_such : {X : Type 0} → (ℕ → Bool) → Reader X → Reader X
first_such passes read [] = read []
first_such passes read (b ∷ rest) = if passes b then read (b ∷ rest) else Err Field

abbrev pub is_old_value_code : ℕ → Bool
is_old_value_code code = not (code == bool_code)

abbrev pub is_old_place_code : ℕ → Bool
is_old_place_code code = not (code == bool_code) && not (code == bool_formal_code)

unfoldable pub old_value_at : List ℕ → Result (Value × List ℕ) CkptError
old_value_at bytes = first_such is_old_value_code value_at bytes

unfoldable pub old_place_at : List ℕ → Result (Place × List ℕ) CkptError
old_place_at bytes = first_such is_old_place_code place_at bytes

unfoldable pub old_tuple_at : List ℕ → Result (List Value × List ℕ) CkptError
old_tuple_at bytes = do
  n ← byte_within 1 OLD_PLACES bytes
  list_at old_value_at n.0 n.1

unfoldable pub old_template_at : List ℕ → Result (List Place × List ℕ) CkptError
old_template_at bytes = do
  n ← byte_within 1 OLD_PLACES bytes
  list_at old_place_at n.0 n.1

-- an operation behind this code
unfoldable pub old_op_behind : ℕ → List ℕ → Result (Op × List ℕ) CkptError
old_op_behind code bytes =
    if code == out_code then made Out (old_tuple_at bytes)
    else if code == in_code then made In (old_template_at bytes)
    else if code == rd_code then made Rd (old_template_at bytes)
    else if code == inp_code then made Inp (old_template_at bytes)
    else if code == rdp_code then made Rdp (old_template_at bytes)
    else Err Field

unfoldable pub old_op_at : List ℕ → Result (Op × List ℕ) CkptError
old_op_at bytes = do
  code ← byte_at bytes
  old_op_behind code.0 code.1

-- an answer behind this code
unfoldable pub old_answer_behind : ℕ → List ℕ → Result (Answer × List ℕ) CkptError
old_answer_behind code bytes =
    if code == done_code then Ok (answers.Done, bytes)
    else if code == got_code then made answers.Got (old_tuple_at bytes)
    else if code == none_code then Ok (answers.None, bytes)
    else Err Field

unfoldable pub old_answer_at : List ℕ → Result (Answer × List ℕ) CkptError
old_answer_at bytes = do
  code ← byte_at bytes
  old_answer_behind code.0 code.1
