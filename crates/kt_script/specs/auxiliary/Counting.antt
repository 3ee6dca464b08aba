-- How many names a command adds to a script.
-- Cited by Count, rules.rt.
use Rattle.std.specs.Prelude.{ℕ, ◌+◌, ◌||◌, if◌then◌else◌, List, [], ◌∷◌, is_some}
use Rattle.kt_tuple.specs.declared.value.Kind.{Kind}
use Rattle.kt_script.specs.declared.name.Name.{Name}
use Rattle.kt_script.specs.Variables.{kind_in}

-- the names that are not among the variables, each counted at its last binding
abbrev pub count_new : List (Name × Kind) → List (Name × Kind) → ℕ
count_new variables [] = 0
count_new variables (b ∷ more) =
    (if is_some (kind_in variables b.0) || is_some (kind_in more b.0) then 0 else 1) + count_new variables more
