-- An operation is left exactly where one is next.
-- Cited by `Script::has_next`.
use Rattle.std.proofs.Common.{◌≡◌, ℕ, zero, suc, ◌+◌, List, [], ◌∷◌, Option, None, Some, refl}
use Rattle.std.specs.Prelude.{is_some, if◌then◌else◌}
use Rattle.kt_tuple.specs.declared.value.Kind.{Kind}
use Rattle.kt_script.specs.declared.name.Name.{Name}
use Rattle.kt_script.specs.declared.command.Command.{Command}
use Rattle.kt_script.specs.declared.command.Command.TheVariants.{Ask, Set, Unless}
use Rattle.kt_script.specs.Memory.{Memory}
use Rattle.kt_script.specs.declared.next.Next.{Next}
use Rattle.kt_script.specs.Next.{assigned, next_from, op_of_next}
use Rattle.kt_script.specs.auxiliary.Left.{has_next_from}

pub is_some-next_from : (vs : List (Name × Kind)) (memory : Memory) (skipped pc : ℕ) (commands : List Command)
    → is_some (next_from vs memory skipped pc commands) ≡ has_next_from memory.was_none skipped commands
is_some-next_from vs memory skipped pc [] = refl
is_some-next_from vs memory (suc skipped) pc (c ∷ later) = is_some-next_from vs memory skipped (pc + 1) later
is_some-next_from vs memory zero pc (Set x y k ∷ later) = is_some-next_from vs (assigned vs memory x y k) 0 (pc + 1) later
is_some-next_from vs memory zero pc (Unless n ∷ later) = is_some-next_from vs memory (if memory.was_none then n else 0) (pc + 1) later
is_some-next_from vs memory zero pc (Ask operation ∷ later) = refl

pub is_some-op_of_next : (next : Option Next) → is_some (op_of_next next) ≡ is_some next
is_some-op_of_next None = refl
is_some-op_of_next (Some next) = refl
