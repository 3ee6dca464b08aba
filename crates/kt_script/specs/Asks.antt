-- What a script asks next, told from all the answers since its beginning.
-- Cited by Reaches, env.rt, laws.rt, script.rt, specs/Next; other crates.
use Rattle.std.specs.Prelude.{ℕ, zero, suc, ℤ, Bool, true, false, if◌then◌else◌, List, [], ◌∷◌, Option, None, Some}
use Rattle.kt_tuple.specs.declared.op.Op.{Op}
use Rattle.kt_tuple.specs.declared.op.Answer.{Answer}
use Rattle.kt_tuple.specs.declared.op.Answer.TheVariants as answers
use Rattle.kt_script.specs.declared.name.Name.{Name}
use Rattle.kt_script.specs.declared.command.Operation.{Operation}
use Rattle.kt_script.specs.declared.command.Command.{Command}
use Rattle.kt_script.specs.declared.command.Command.TheVariants.{Ask, Set, Unless}
use Rattle.kt_script.specs.Command.{slots_of}
use Rattle.kt_script.specs.Variables.{kind_in, variables_of}
use Rattle.kt_script.specs.Meaning.{Meaning, zero_of, op_of, plus, with_value, after_answer}

-- what a script did that later commands can tell: an operation was answered, or `set` was carried out
pub data Deed : Type 0 where
  Answered : Operation → Answer → Deed
  Assigned : Name → Name → ℤ → Deed

-- what each name stands for after these deeds, the last one first
abbrev pub meaning_after : List Command → List Deed → Meaning
meaning_after script [] = λ name. zero_of (kind_in (variables_of script) name)
meaning_after script (Answered operation answer ∷ earlier) =
    after_answer (meaning_after script earlier) (slots_of operation) answer
meaning_after script (Assigned variable source number ∷ earlier) =
    with_value (meaning_after script earlier) variable (plus (meaning_after script earlier source) number)

abbrev pub is_none_answer : Answer → Bool
is_none_answer answers.Done = false
is_none_answer (answers.Got tuple) = false
is_none_answer answers.None = true

-- the last answer was none
abbrev pub was_none : List Deed → Bool
was_none [] = false
was_none (Answered operation answer ∷ earlier) = is_none_answer answer
was_none (Assigned variable source number ∷ earlier) = was_none earlier

-- what the commands that are left ask, the first so many of them skipped, after these deeds and then these answers
abbrev pub asks_after : List Command → ℕ → List Deed → List Command → List Answer → Option Op
asks_after script skipped deeds [] answers = None
asks_after script (suc skipped) deeds (command ∷ later) answers = asks_after script skipped deeds later answers
asks_after script zero deeds (Set variable source number ∷ later) answers =
    asks_after script 0 (Assigned variable source number ∷ deeds) later answers
asks_after script zero deeds (Unless count ∷ later) answers =
    asks_after script (if was_none deeds then count else 0) deeds later answers
asks_after script zero deeds (Ask operation ∷ later) [] = Some (op_of (meaning_after script deeds) operation)
asks_after script zero deeds (Ask operation ∷ later) (answer ∷ more) =
    asks_after script 0 (Answered operation answer ∷ deeds) later more

-- the operation that the script asks next after these answers
abbrev pub asks : List Command → List Answer → Option Op
asks script answers = asks_after script 0 [] script answers
