-- A script with one command more.
-- Cited by Limits, OneKind, `Script::append`, `variables::bind`; other crates.
use Rattle.std.proofs.Common.{◌≡◌, Bool, true, false, cond, List, [], ◌∷◌, ◌++◌, flat_map, None, Some}
use Rattle.std.proofs.Common.{Result, Ok, Err, IsOk, OnOk, append_assoc, refl, sym, ap, subst, ◌∙◌}
use Rattle.std.specs.Prelude.{if◌then◌else◌, is_some}
use Rattle.indexmap.specs.IndexMap.{insert_entry}
use Rattle.kt_tuple.specs.declared.value.Kind.{Kind}
use Rattle.kt_script.specs.declared.name.Name.{Name}
use Rattle.kt_script.specs.declared.command.Command.{Command}
use Rattle.kt_script.specs.Name.{same_name}
use Rattle.kt_script.specs.Command.{bindings}
use Rattle.kt_script.specs.Variables.{kind_in, with_binding, with_bindings, variables_of}
use Rattle.kt_script.specs.Rules.{refusal_of, FollowOn, IsScript}

pub on_ok : {A E : Type 0} (r : Result A E) (P : Type 0) → IsOk r → OnOk r P → P
on_ok (Ok x) P is h = h
on_ok (Err e) P is h = absurd cc

-- a name that is inserted anew goes last
pub insert_entry-unknown : (vs : List (Name × Kind)) (x : Name) (k : Kind) → None ≡ kind_in vs x → insert_entry same_name vs x k ≡ vs ++ (x, k) ∷ []
insert_entry-unknown [] x k e = refl
insert_entry-unknown (v ∷ vs) x k e = by (same_name x v.0) e (insert_entry-unknown vs x k)
  where
    by : (c : Bool) → None ≡ cond c (Some v.1) (kind_in vs x) → (None ≡ kind_in vs x → insert_entry same_name vs x k ≡ vs ++ (x, k) ∷ [])
        → (if c then (v.0, k) ∷ vs else v ∷ insert_entry same_name vs x k) ≡ v ∷ vs ++ (x, k) ∷ []
    by true e h = absurd cc
    by false e h = ap (λ rest. v ∷ rest) (h e)

pub with_binding-unknown : (vs : List (Name × Kind)) (x : Name) (k : Kind) → None ≡ kind_in vs x → with_binding vs (x, k) ≡ vs ++ (x, k) ∷ []
with_binding-unknown vs x k e = ap (λ o. if is_some o then vs else vs ++ (x, k) ∷ []) (sym e)

pub with_bindings-append : (vs bs more : List (Name × Kind)) → with_bindings vs (bs ++ more) ≡ with_bindings (with_bindings vs bs) more
with_bindings-append vs [] more = refl
with_bindings-append vs (b ∷ bs) more = with_bindings-append (with_binding vs b) bs more

pub all_bindings-push : (commands : List Command) (c : Command) → flat_map bindings (commands ++ c ∷ []) ≡ flat_map bindings commands ++ bindings c
all_bindings-push [] c = append_empty (bindings c)
  where
    append_empty : {A : Type 0} (xs : List A) → xs ++ [] ≡ xs
    append_empty [] = refl
    append_empty (x ∷ xs) = ap (λ rest. x ∷ rest) (append_empty xs)
all_bindings-push (d ∷ commands) c =
    ap (λ rest. bindings d ++ rest) (all_bindings-push commands c) ∙ sym (append_assoc (bindings d) (flat_map bindings commands) (bindings c))

pub variables_of-push : (commands : List Command) (c : Command) → variables_of (commands ++ c ∷ []) ≡ with_bindings (variables_of commands) (bindings c)
variables_of-push commands c =
    ap (with_bindings []) (all_bindings-push commands c) ∙ with_bindings-append [] (flat_map bindings commands) (bindings c)

pub FollowOn-push : (before commands : List Command) (c : Command) → FollowOn before commands → refusal_of (before ++ commands) c ≡ None
    → FollowOn before (commands ++ c ∷ [])
FollowOn-push before [] c h e = (ap (λ cs. refusal_of cs c) (sym (append_empty before)) ∙ e, tt)
  where
    append_empty : {A : Type 0} (xs : List A) → xs ++ [] ≡ xs
    append_empty [] = refl
    append_empty (x ∷ xs) = ap (λ rest. x ∷ rest) (append_empty xs)
FollowOn-push before (d ∷ commands) c h e =
    (h.0, FollowOn-push (before ++ d ∷ []) commands c h.1 (ap (λ cs. refusal_of cs c) (append_assoc before (d ∷ []) commands) ∙ e))

pub IsScript-push : (commands : List Command) (c : Command) → IsScript commands → refusal_of commands c ≡ None → IsScript (commands ++ c ∷ [])
IsScript-push commands c h e = FollowOn-push [] commands c h e

-- the names and the commands of a script with one command more
pub pushed : (commands after : List Command) (c : Command) (names bs names' : List (Name × Kind)) → (names ≡ variables_of commands) × IsScript commands
    → refusal_of commands c ≡ None → bs ≡ bindings c → names' ≡ with_bindings names bs → after ≡ commands ++ c ∷ [] → (names' ≡ variables_of after)
    × IsScript after
pushed commands after c names bs names' h e b n a = (
  n ∙ ap (λ vs. with_bindings vs bs) h.0 ∙ ap (with_bindings (variables_of commands)) b ∙ sym (variables_of-push commands c) ∙ ap variables_of (sym a),
  subst IsScript (sym a) (IsScript-push commands c h.1 e),
)
