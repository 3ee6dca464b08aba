-- What is read of a worker, and which parts make one.
-- Cited by Fits, laws.rt, worker.rt; other crates.
use Rattle.std.specs.Prelude.{ℕ, nat_lt, Bool, not, if◌then◌else◌, List, length, Option, None, Some}
use Rattle.kt_tuple.specs.declared.op.Op.{Op}
use Rattle.kt_tuple.specs.declared.value.Value.{Value}
use Rattle.kt_script.specs.declared.command.Command.{Command}
use Rattle.kt_script.specs.Memory.{are_values_of}
use Rattle.kt_script.specs.Variables.{variables_of}
use Rattle.kt_worker.specs.declared.misfit.Misfit.{Misfit}
use Rattle.kt_worker.specs.declared.misfit.Misfit.TheVariants as misfits
use Rattle.kt_worker.specs.WorkerModel.{WorkerModel}

-- the worker of these parts: number of the last request, what is unanswered, position, whether the last
-- answer was none, values of the variables
abbrev pub model_of : ℕ → Option Op → ℕ → Bool → List Value → WorkerModel
model_of number asked pc was_none values = record {
  number = number;
  asked = asked;
  position = record { pc = pc; memory = record { values = values; was_none = was_none } };
}

-- why the script has no worker that stands so: of all that is against it, the first
abbrev pub misfit_of : List Command → WorkerModel → Option Misfit
misfit_of script w =
    if nat_lt (length script) w.position.pc then Some misfits.Position
    else if nat_lt w.position.pc w.number then Some misfits.Number
    else if not (are_values_of (variables_of script) w.position.memory.values) then Some misfits.Values
    else None
