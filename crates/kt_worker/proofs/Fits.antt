-- A worker that stands as its answers say fits its script.
-- Cited by `laws::parts_of_a_worker_make_it_again`; other crates.
use Rattle.std.proofs.Common.{◌≡◌, ◌≤◌, Bool, true, false, List, length, Option, None, Some, refl, sym, subst}
use Rattle.std.specs.Prelude.{nat_lt, not, if◌then◌else◌}
use Rattle.std.proofs.lemmas.Bool.{le-ltb}
use Rattle.kt_tuple.specs.declared.op.Op.{Op}
use Rattle.kt_tuple.specs.declared.op.Answer.{Answer}
use Rattle.kt_script.specs.declared.command.Command.{Command}
use Rattle.kt_script.specs.declared.next.Next.{Next}
use Rattle.kt_script.specs.Memory.{are_values_of}
use Rattle.kt_script.specs.Next.{Position, IsInScript, next_at, position_after}
use Rattle.kt_script.specs.Rules.{IsScript}
use Rattle.kt_script.specs.Variables.{variables_of}
use Rattle.kt_script.proofs.Shared.{in_script-after, in_script-next}
use Rattle.kt_worker.specs.declared.misfit.Misfit.TheVariants as misfits
use Rattle.kt_worker.specs.WorkerModel.{WorkerModel}
use Rattle.kt_worker.specs.After.{behind_next, position_when, IsAfter}
use Rattle.kt_worker.specs.Parts.{misfit_of}

behind_next-in : (script : List Command) → IsScript script → (position : Position) → IsInScript script position
    → IsInScript script (behind_next position (next_at script position))
behind_next-in script is position here = by (next_at script position) refl
  where
    by : (o : Option Next) → next_at script position ≡ o → IsInScript script (behind_next position o)
    by None e = here
    by (Some next) e = in_script-next script is position next here e

pub position-after : (script : List Command) (answers : List Answer) (w : WorkerModel) → IsScript script → IsAfter script answers w
    → IsInScript script w.position
position-after script answers w is after = subst (IsInScript script) (sym after.position) (by w.asked)
  where
    by : (o : Option Op) → IsInScript script (position_when o script answers)
    by None = in_script-after script is answers
    by (Some op) = behind_next-in script is (position_after script answers) (in_script-after script is answers)

pub fits-after : (script : List Command) (answers : List Answer) (w : WorkerModel) → IsScript script → IsAfter script answers w → w.number ≤ w.position.pc
    → misfit_of script w ≡ None
fits-after script answers w is after numbered =
    let here = position-after script answers w is after in
    by (nat_lt (length script) w.position.pc) (nat_lt w.position.pc w.number) (are_values_of (variables_of script) w.position.memory.values)
    (le-ltb (length script) w.position.pc here.within) (le-ltb w.position.pc w.number numbered) here.values
  where
    by : (a b c : Bool) → a ≡ false → b ≡ false → c ≡ true
        → (if a then Some misfits.Position else if b then Some misfits.Number else if not c then Some misfits.Values else None) ≡ None
    by false false true e f g = refl
    by true b c e f g = absurd cc
    by false true c e f g = absurd cc
    by false false false e f g = absurd cc
