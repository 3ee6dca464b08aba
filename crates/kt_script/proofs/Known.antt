-- Every name that a script binds is one of its variables.
-- Cited by OneKind, Reaches.
use Rattle.std.proofs.Common.{◌≡◌, ℕ, zero, suc, Bool, true, false, cond, List, [], ◌∷◌, ◌++◌, drop, None, Some, flat_map, refl, sym, ap, ◌∙◌}
use Rattle.std.specs.Prelude.{if◌then◌else◌, is_some}
use Rattle.kt_tuple.specs.declared.value.Kind.{Kind}
use Rattle.kt_script.specs.declared.name.Name.{Name}
use Rattle.kt_script.specs.declared.command.Command.{Command}
use Rattle.kt_script.specs.Name.{same_name}
use Rattle.kt_script.specs.Command.{bindings}
use Rattle.kt_script.specs.Variables.{kind_in, with_binding, with_bindings, variables_of}
use Rattle.kt_script.proofs.Held.{AreKnown, AreKnown-right, same_refl}

-- a name that has a kind keeps it when more bindings follow
pub kind_in-append : (vs more : List (Name × Kind)) (x : Name) → is_some (kind_in vs x) ≡ true → kind_in (vs ++ more) x ≡ kind_in vs x
kind_in-append [] more x h = absurd cc
kind_in-append (v ∷ vs) more x h =
    by (same_name x v.0) refl (λ e. kind_in-append vs more x (sym (ap (λ b. is_some (cond b (Some v.1) (kind_in vs x))) e) ∙ h))
  where
    by : (b : Bool) → same_name x v.0 ≡ b → (same_name x v.0 ≡ false → kind_in (vs ++ more) x ≡ kind_in vs x) → kind_in (v ∷ vs ++ more) x ≡ kind_in (v ∷ vs) x
    by true e rest = ap (λ b. cond b (Some v.1) (kind_in (vs ++ more) x)) e ∙ sym (ap (λ b. cond b (Some v.1) (kind_in vs x)) e)
    by false e rest =
        ap (λ b. cond b (Some v.1) (kind_in (vs ++ more) x)) e
        ∙ rest e
        ∙ sym (ap (λ b. cond b (Some v.1) (kind_in vs x)) e)

pub known-push : (vs : List (Name × Kind)) (b : Name × Kind) → is_some (kind_in (vs ++ b ∷ []) b.0) ≡ true
known-push [] b = ap (λ c. is_some (cond c (Some b.1) None)) (same_refl b.0)
known-push (v ∷ vs) b = by (same_name b.0 v.0) (known-push vs b)
  where
    by : (c : Bool) → is_some (kind_in (vs ++ b ∷ []) b.0) ≡ true → is_some (cond c (Some v.1) (kind_in (vs ++ b ∷ []) b.0)) ≡ true
    by true h = refl
    by false h = h

pub known-with_binding : (vs : List (Name × Kind)) (b : Name × Kind) (x : Name) → is_some (kind_in vs x) ≡ true → is_some (kind_in (with_binding vs b) x) ≡ true
known-with_binding vs b x h = by (is_some (kind_in vs b.0))
  where
    by : (c : Bool) → is_some (kind_in (if c then vs else vs ++ b ∷ []) x) ≡ true
    by true = h
    by false = ap is_some (kind_in-append vs (b ∷ []) x h) ∙ h

pub known-own : (vs : List (Name × Kind)) (b : Name × Kind) → is_some (kind_in (with_binding vs b) b.0) ≡ true
known-own vs b = by (is_some (kind_in vs b.0)) refl
  where
    by : (c : Bool) → is_some (kind_in vs b.0) ≡ c → is_some (kind_in (if c then vs else vs ++ b ∷ []) b.0) ≡ true
    by true e = e
    by false e = known-push vs b

pub known-with_bindings : (vs bs : List (Name × Kind)) (x : Name) → is_some (kind_in vs x) ≡ true → is_some (kind_in (with_bindings vs bs) x) ≡ true
known-with_bindings vs [] x h = h
known-with_bindings vs (b ∷ bs) x h = known-with_bindings (with_binding vs b) bs x (known-with_binding vs b x h)

pub AreKnown-with_bindings : (vs bs : List (Name × Kind)) → AreKnown (with_bindings vs bs) bs
AreKnown-with_bindings vs [] = tt
AreKnown-with_bindings vs (b ∷ bs) =
    (known-with_bindings (with_binding vs b) bs b.0 (known-own vs b), AreKnown-with_bindings (with_binding vs b) bs)

pub AreKnown-script : (script : List Command) → AreKnown (variables_of script) (flat_map bindings script)
AreKnown-script script = AreKnown-with_bindings [] (flat_map bindings script)

pub AreKnown-drop : (vs : List (Name × Kind)) (pc : ℕ) (commands : List Command) → AreKnown vs (flat_map bindings commands)
    → AreKnown vs (flat_map bindings (drop pc commands))
AreKnown-drop vs zero commands h = h
AreKnown-drop vs (suc pc) [] h = h
AreKnown-drop vs (suc pc) (c ∷ commands) h = AreKnown-drop vs pc commands (AreKnown-right vs (bindings c) (flat_map bindings commands) h)
