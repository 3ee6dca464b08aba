-- What a script does from one operation to the next.
-- Cited by InScript, Reaches, Remains, Unbound, env.rt, laws.rt, next.rt, script.rt, `Script::has_next`; other
--   crates.
use Rattle.std.specs.Prelude.{◌≡◌, ◌≤◌, ℕ, zero, suc, ◌+◌, ℤ, true, if◌then◌else◌, List}
use Rattle.std.specs.Prelude.{[], ◌∷◌, length, drop, fold, Option, None, Some, slice_get}
use Rattle.kt_tuple.specs.declared.value.Kind.{Kind}
use Rattle.kt_tuple.specs.declared.op.Op.{Op}
use Rattle.kt_tuple.specs.declared.op.Answer.{Answer}
use Rattle.kt_script.specs.declared.name.Name.{Name}
use Rattle.kt_script.specs.declared.next.Next.{Next}
use Rattle.kt_script.specs.declared.command.Slot.{Slot}
use Rattle.kt_script.specs.declared.command.Command.{Command}
use Rattle.kt_script.specs.declared.command.Command.TheVariants.{Ask, Set, Unless}
use Rattle.kt_script.specs.Command.{slots_of}
use Rattle.kt_script.specs.Variables.{variables_of}
use Rattle.kt_script.specs.Meaning.{op_of, plus}
use Rattle.kt_script.specs.Asks.{is_none_answer}
use Rattle.kt_script.specs.Memory.{Memory, opening_memory, are_values_of, held, with_held, values_after}

-- where a worker stands in its script: before the command of this number, counted from 0
pub record Position : Type 0 where
  pub pc : ℕ
  pub memory : Memory

-- the position is before a command of the script or at its end, and has a value of its kind for each variable
pub record IsInScript (script : List Command) (position : Position) : Type 0 where
  pub within : position.pc ≤ length script
  pub values : are_values_of (variables_of script) position.memory.values ≡ true

-- `set` is carried out
abbrev pub assigned : List (Name × Kind) → Memory → Name → Name → ℤ → Memory
assigned variables memory variable source number = record memory {
  values = with_held variables memory.values variable (plus (held variables memory.values source) number);
}

-- the next operation among the commands from pc on, of which the first so many are skipped
abbrev pub next_from : List (Name × Kind) → Memory → ℕ → ℕ → List Command → Option Next
next_from variables memory skipped pc [] = None
next_from variables memory (suc skipped) pc (command ∷ later) = next_from variables memory skipped (pc + 1) later
next_from variables memory zero pc (Set variable source number ∷ later) =
    next_from variables (assigned variables memory variable source number) 0 (pc + 1) later
next_from variables memory zero pc (Unless count ∷ later) =
    next_from variables memory (if memory.was_none then count else 0) (pc + 1) later
next_from variables memory zero pc (Ask operation ∷ later) =
    Some (record { op = op_of (held variables memory.values) operation; pc = pc + 1; env = memory })

abbrev pub next_at : List Command → Position → Option Next
next_at script position = next_from (variables_of script) position.memory 0 position.pc (drop position.pc script)

-- the places that a command may bind
abbrev pub slots_of_command : Option Command → List Slot
slots_of_command (Some (Ask operation)) = slots_of operation
slots_of_command _ = []

-- the places of the command just before pc
abbrev pub slots_before : List Command → ℕ → List Slot
slots_before script zero = []
slots_before script (suc pc) = slots_of_command (slice_get script pc)

-- an answer binds the formals of the command just before pc, and whether it was none is kept
abbrev pub bound : List Command → ℕ → Answer → Memory → Memory
bound script pc answer memory = record {
  values = values_after (variables_of script) memory.values (slots_before script pc) answer;
  was_none = is_none_answer answer;
}

-- the position before any answer
abbrev pub opening_position : List Command → Position
opening_position script = record { pc = 0; memory = opening_memory script }

-- what the operation at a position is answered, leads behind it; at the end of the script nothing is answered
abbrev pub answered : List Command → Answer → Position → Option Next → Position
answered script answer position None = position
answered script answer position (Some next) = record { pc = next.pc; memory = bound script next.pc answer next.env }

abbrev pub after_one : List Command → Position → Answer → Position
after_one script position answer = answered script answer position (next_at script position)

-- the position that the answers lead to, each given to the operation that is next then
abbrev pub position_after : List Command → List Answer → Position
position_after script answers = fold (after_one script) (opening_position script) answers

-- the operation, where there is one
abbrev pub op_of_next : Option Next → Option Op
op_of_next None = None
op_of_next (Some next) = Some next.op
