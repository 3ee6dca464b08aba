-- Answers that bind nothing.
-- Cited by `laws::bind_changes_only_formals`.
use Rattle.std.proofs.Common.{◌≡◌, ℕ, Bool, true, false, List, [], refl, ap, ◌∙◌}
use Rattle.std.specs.Prelude.{if◌then◌else◌}
use Rattle.kt_tuple.specs.declared.op.Answer.{Answer}
use Rattle.kt_tuple.specs.declared.op.Answer.TheVariants as answers
use Rattle.kt_tuple.specs.declared.tuple.Tuple.{Tuple}
use Rattle.kt_tuple.specs.declared.value.Value.{Value}
use Rattle.kt_tuple.specs.declared.value.Kind.{Kind}
use Rattle.kt_script.specs.declared.name.Name.{Name}
use Rattle.kt_script.specs.declared.command.Command.{Command}
use Rattle.kt_script.specs.Meaning.{has_kinds}
use Rattle.kt_script.specs.Memory.{Memory, held, with_tuple_held, values_after}
use Rattle.kt_script.specs.Next.{bound, slots_before}
use Rattle.kt_script.specs.Variables.{variables_of}

values_after-empty : (vs : List (Name × Kind)) (us : List Value) (a : Answer) → values_after vs us [] a ≡ us
values_after-empty vs us answers.Done = refl
values_after-empty vs us (answers.Got t) = by (has_kinds (held vs us) [] t)
  where
    by : (b : Bool) → (if b then with_tuple_held vs us [] t else us) ≡ us
    by true = refl
    by false = refl
values_after-empty vs us answers.None = refl

pub bound-no_template : (script : List Command) (pc : ℕ) (a : Answer) (m : Memory) → slots_before script pc ≡ [] → (bound script pc a m).values ≡ m.values
bound-no_template script pc a m e =
    ap (λ p. values_after (variables_of script) m.values p a) e ∙ values_after-empty (variables_of script) m.values a

pub bound-other_kinds : (script : List Command) (pc : ℕ) (t : Tuple) (m : Memory)
    → has_kinds (held (variables_of script) m.values) (slots_before script pc) t ≡ false → (bound script pc (answers.Got t) m).values ≡ m.values
bound-other_kinds script pc t m e =
    ap (λ b. if b then with_tuple_held (variables_of script) m.values (slots_before script pc) t else m.values) e
