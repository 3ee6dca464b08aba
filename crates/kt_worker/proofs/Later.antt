-- The next operation stands behind the position that it is looked for from.
-- Cited by `Worker::next`.
use Rattle.std.proofs.Common.{◌≡◌, ℕ, zero, suc, ◌+◌, ◌<◌, ◌≤◌, List, [], ◌∷◌, drop, Option, None, Some, Result, Ok, Err, sym, ap, arith}
use Rattle.std.specs.Prelude.{if◌then◌else◌, IfOk, IfSome}
use Rattle.kt_tuple.specs.declared.value.Kind.{Kind}
use Rattle.kt_script.specs.declared.name.Name.{Name}
use Rattle.kt_script.specs.declared.next.Next.{Next}
use Rattle.kt_script.specs.declared.command.Command.{Command}
use Rattle.kt_script.specs.declared.command.Command.TheVariants.{Ask, Set, Unless}
use Rattle.kt_script.specs.Variables.{variables_of}
use Rattle.kt_script.specs.Memory.{Memory}
use Rattle.kt_script.specs.Next.{Position, assigned, next_from, next_at}
use Rattle.kt_worker.specs.WorkerModel.{WorkerModel}

pc_or : ℕ → Option Next → ℕ
pc_or pc None = pc
pc_or pc (Some next) = next.pc

next_from-later : (variables : List (Name × Kind)) (memory : Memory) (skipped pc : ℕ) (commands : List Command) (next : Next)
    → next_from variables memory skipped pc commands ≡ Some next → pc + 1 ≤ next.pc
unfolding pc_or
next_from-later variables memory skipped pc [] next e = absurd cc
next_from-later variables memory (suc skipped) pc (command ∷ later) next e =
    let h = next_from-later variables memory skipped (pc + 1) later next e in omega (arith, h)
next_from-later variables memory zero pc (Set variable source number ∷ later) next e =
    let h = next_from-later variables (assigned variables memory variable source number) 0 (pc + 1) later next e in omega (arith, h)
next_from-later variables memory zero pc (Unless count ∷ later) next e =
    let h = next_from-later variables memory (if memory.was_none then count else 0) (pc + 1) later next e in omega (arith, h)
next_from-later variables memory zero pc (Ask operation ∷ later) next e =
    let h : pc + 1 ≡ next.pc = ap (pc_or 0) e in omega (arith, h)

pub next_at-later : (script : List Command) (position : Position) (next : Next) → next_at script position ≡ Some next → position.pc + 1 ≤ next.pc
next_at-later script position next e = next_from-later (variables_of script) position.memory 0 position.pc (drop position.pc script) next e

-- so what is found stands behind the number of requests so far
pub found-later : {E : Type 0} (script : List Command) (w : WorkerModel) (r : Result (Option Next) E) → w.number ≤ w.position.pc
    → IfOk r (λ next. next ≡ next_at script w.position) → IfOk r (λ next. IfSome next (λ n. w.number < n.pc))
found-later script w (Ok None) within is = tt
found-later script w (Ok (Some next)) within is = let later = next_at-later script w.position next (sym is) in omega (arith, later, within)
found-later script w (Err e) within is = tt
