-- A script keeps the limits on commands and variables.
-- Cited by `laws::a_script_keeps_its_limits`; other crates.
use Rattle.std.proofs.Common.{◌≡◌, ◌≤◌, Bool, true, false, List, [], ◌∷◌, ◌++◌, length, length-append}
use Rattle.std.proofs.Common.{append_assoc, None, Some, refl, sym, subst, arith}
use Rattle.std.specs.Prelude.{nat_lt, nat_le, not, ◌&&◌, if◌then◌else◌}
use Rattle.std.specs.Cmp.Lexicographic.{as_long}
use Rattle.std.specs.Map.{values_of}
use Rattle.std.proofs.lemmas.Bool.{and_parts, ltb-true, leb-true}
use Rattle.std.proofs.lemmas.List.{append-nil, length-map}
use Rattle.kt_script.specs.declared.script.TheConstants.{MAX_COMMANDS, MAX_VARIABLES}
use Rattle.kt_tuple.specs.declared.value.Kind.{Kind}
use Rattle.kt_tuple.specs.declared.value.Value.{Value}
use Rattle.kt_tuple.specs.Equality.{kind_eq}
use Rattle.kt_tuple.specs.Signature.{kinds_of}
use Rattle.kt_tuple.specs.Value.{kind_of}
use Rattle.kt_script.specs.declared.name.Name.{Name}
use Rattle.kt_script.specs.declared.command.Command.{Command}
use Rattle.kt_script.specs.declared.script_error.ScriptError.TheVariants as refusals
use Rattle.kt_script.specs.Command.{bindings}
use Rattle.kt_script.specs.Memory.{are_values_of}
use Rattle.kt_script.specs.Rules.{has_count, keeps_rules, is_within, refusal_of, FollowOn, IsScript}
use Rattle.kt_script.specs.Variables.{with_bindings, variables_of}
use Rattle.kt_script.proofs.Pushed.{variables_of-push}

abbrev pub KeepLimits : List Command → Type 0
KeepLimits commands = (length commands ≤ MAX_COMMANDS) × (length (variables_of commands) ≤ MAX_VARIABLES)

is_within-of : (before : List Command) (c : Command) → refusal_of before c ≡ None → is_within before c ≡ true
is_within-of before c e = by (keeps_rules (variables_of before) c) (is_within before c) e
  where
    by : (k w : Bool) → (if not k then Some refusals.Variable else if not w then Some refusals.Limit else None) ≡ None → w ≡ true
    by true true e = refl
    by true false e = absurd cc
    by false w e = absurd cc

limits-push : (before : List Command) (c : Command) → refusal_of before c ≡ None → KeepLimits (before ++ c ∷ [])
limits-push before c e =
    let names = length (with_bindings (variables_of before) (bindings c)) in
    let outer = and_parts (has_count c && nat_lt (length before) MAX_COMMANDS) (nat_le names MAX_VARIABLES) (is_within-of before c e) in
    let inner = and_parts (has_count c) (nat_lt (length before) MAX_COMMANDS) outer.0 in
    let below = ltb-true (length before) MAX_COMMANDS inner.1 in
    let long = length-append before (c ∷ []) in (
      omega (arith, below, long),
      subst (λ (vs : List (Name × Kind)). length vs ≤ MAX_VARIABLES) (sym (variables_of-push before c)) (leb-true names MAX_VARIABLES outer.1),
    )

limits-follow : (before later : List Command) → FollowOn before later → KeepLimits before → KeepLimits (before ++ later)
limits-follow before [] f h = subst KeepLimits (sym (append-nil before)) h
limits-follow before (c ∷ later) f h =
    subst KeepLimits (append_assoc before (c ∷ []) later) (limits-follow (before ++ c ∷ []) later f.1 (limits-push before c f.0))

pub keeps_limits : (script : List Command) → IsScript script → KeepLimits script
keeps_limits script is = limits-follow [] script is (omega arith, omega arith)

pub few-commands : (script : List Command) → IsScript script → length script ≤ MAX_COMMANDS
few-commands script is = (keeps_limits script is).0

pub few-values : (script : List Command) → IsScript script → (values : List Value) → are_values_of (variables_of script) values ≡ true
    → length values ≤ MAX_VARIABLES
few-values script is values h =
    let same = as_long kind_eq (values_of (variables_of script)) (kinds_of values) h in
    let kinds = length-map (variables_of script) (λ (v : Name × Kind). v.1) in
    let of_values = length-map values kind_of in
    let few = (keeps_limits script is).1 in omega (arith, same, kinds, of_values, few)
