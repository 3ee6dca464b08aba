-- In a script a name is bound to values of one kind.
-- Cited by InScript, `laws::names_have_one_kind`.
use Rattle.std.proofs.Common.{◌≡◌, ℕ, zero, suc, ◌<◌, Bool, true, false, cond, List, [], ◌∷◌, ◌++◌, length, get_or}
use Rattle.std.proofs.Common.{append_assoc, flat_map, Option, None, Some, refl, sym, ap, subst, ◌∙◌, arith}
use Rattle.std.specs.Prelude.{if◌then◌else◌, is_some, not, ◌&&◌, Contains}
use Rattle.std.proofs.lemmas.Bool.{and_parts}
use Rattle.std.proofs.lemmas.List.{append-nil}
use Rattle.kt_tuple.specs.declared.value.Kind.{Kind}
use Rattle.kt_tuple.specs.Equality.{kind_eq_decides}
use Rattle.kt_script.specs.declared.name.Name.{Name}
use Rattle.kt_script.specs.declared.command.Command.{Command}
use Rattle.kt_script.specs.declared.script_error.ScriptError.TheVariants as refusals
use Rattle.kt_script.specs.Name.{same_name}
use Rattle.kt_script.specs.Command.{bindings}
use Rattle.kt_script.specs.Variables.{kind_in, with_binding, with_bindings, variables_of}
use Rattle.kt_script.specs.Rules.{agrees, are_uses_bound, are_kinds_kept, keeps_rules, is_within, refusal_of, FollowOn, IsScript}
use Rattle.kt_script.proofs.Count.{same-sym}
use Rattle.kt_script.proofs.Held.{same_is, same_refl}
use Rattle.kt_script.proofs.Known.{kind_in-append}
use Rattle.kt_script.proofs.Pushed.{all_bindings-push, variables_of-push}

-- each of these bindings has the kind that its name has among the variables
abbrev pub AreOfKind : List (Name × Kind) → List (Name × Kind) → Type 0
AreOfKind vs [] = Unit {0}
AreOfKind vs (b ∷ bs) = (kind_in vs b.0 ≡ Some b.1) × AreOfKind vs bs

-- ---- a name keeps its kind

kept : (vs : List (Name × Kind)) (b : Name × Kind) (x : Name) (k : Kind) → kind_in vs x ≡ Some k → kind_in (with_binding vs b) x ≡ Some k
kept vs b x k e = by (is_some (kind_in vs b.0))
  where
    by : (c : Bool) → kind_in (if c then vs else vs ++ b ∷ []) x ≡ Some k
    by true = e
    by false = kind_in-append vs (b ∷ []) x (ap is_some e) ∙ e

kept_all : (vs bs : List (Name × Kind)) (x : Name) (k : Kind) → kind_in vs x ≡ Some k → kind_in (with_bindings vs bs) x ≡ Some k
kept_all vs [] x k e = e
kept_all vs (b ∷ bs) x k e = kept_all (with_binding vs b) bs x k (kept vs b x k e)

AreOfKind-more : (vs more bs : List (Name × Kind)) → AreOfKind vs bs → AreOfKind (with_bindings vs more) bs
AreOfKind-more vs more [] h = tt
AreOfKind-more vs more (b ∷ bs) h = (kept_all vs more b.0 b.1 h.0, AreOfKind-more vs more bs h.1)

AreOfKind-append : (vs xs ys : List (Name × Kind)) → AreOfKind vs xs → AreOfKind vs ys → AreOfKind vs (xs ++ ys)
AreOfKind-append vs [] ys h g = g
AreOfKind-append vs (x ∷ xs) ys h g = (h.0, AreOfKind-append vs xs ys h.1 g)

-- ---- the bindings of a command

kind_in-pushed_own : (vs : List (Name × Kind)) (b : Name × Kind) → kind_in vs b.0 ≡ None → kind_in (vs ++ b ∷ []) b.0 ≡ Some b.1
kind_in-pushed_own [] b e = ap (λ c. cond c (Some b.1) None) (same_refl b.0)
kind_in-pushed_own (v ∷ vs) b e = by (same_name b.0 v.0) e (kind_in-pushed_own vs b)
  where
    by : (c : Bool) → cond c (Some v.1) (kind_in vs b.0) ≡ None → (kind_in vs b.0 ≡ None → kind_in (vs ++ b ∷ []) b.0 ≡ Some b.1)
        → cond c (Some v.1) (kind_in (vs ++ b ∷ []) b.0) ≡ Some b.1
    by true e h = absurd cc
    by false e h = h e

kind_in-pushed_other : (vs : List (Name × Kind)) (b : Name × Kind) (x : Name) → same_name x b.0 ≡ false → kind_in (vs ++ b ∷ []) x ≡ kind_in vs x
kind_in-pushed_other [] b x e = ap (λ c. cond c (Some b.1) None) e
kind_in-pushed_other (v ∷ vs) b x e = ap (λ r. cond (same_name x v.0) (Some v.1) r) (kind_in-pushed_other vs b x e)

agrees-is : (k kind : Kind) → agrees (Some k) kind ≡ true → k ≡ kind
agrees-is k kind e = sym ((kind_eq_decides kind k).0 e)

agrees-own : (k : Kind) → agrees (Some k) k ≡ true
agrees-own k = (kind_eq_decides k k).1 refl

all_three : (a b c : Bool) → a ≡ true → b ≡ true → c ≡ true → (a && b && c) ≡ true
all_three a b c x y z = ap (λ d. d && b && c) x ∙ ap (λ d. true && d && c) y ∙ z

kind_in-own : (vs : List (Name × Kind)) (b : Name × Kind) → agrees (kind_in vs b.0) b.1 ≡ true → kind_in (with_binding vs b) b.0 ≡ Some b.1
kind_in-own vs b h = by (kind_in vs b.0) refl h
  where
    by : (o : Option Kind) → kind_in vs b.0 ≡ o → agrees o b.1 ≡ true → kind_in (if is_some o then vs else vs ++ b ∷ []) b.0 ≡ Some b.1
    by None e h = kind_in-pushed_own vs b e
    by (Some k) e h = e ∙ ap (λ j. Some j) (agrees-is k b.1 h)

kinds-pushed : (vs : List (Name × Kind)) (b : Name × Kind) (more : List (Name × Kind)) → kind_in vs b.0 ≡ None → agrees (kind_in more b.0) b.1 ≡ true
    → are_kinds_kept vs more ≡ true → are_kinds_kept (vs ++ b ∷ []) more ≡ true
kinds-pushed vs b [] none first h = refl
kinds-pushed vs b (m ∷ rest) none first h =
    let outer = and_parts (agrees (kind_in vs m.0) m.1 && agrees (kind_in rest m.0) m.1) (are_kinds_kept vs rest) h in
    let inner = and_parts (agrees (kind_in vs m.0) m.1) (agrees (kind_in rest m.0) m.1) outer.0 in
    by (same_name b.0 m.0) refl first inner.0 inner.1 (λ f. kinds-pushed vs b rest none f outer.1)
  where
    by : (c : Bool) → same_name b.0 m.0 ≡ c → agrees (cond c (Some m.1) (kind_in rest b.0)) b.1 ≡ true → agrees (kind_in vs m.0) m.1 ≡ true
        → agrees (kind_in rest m.0) m.1 ≡ true → (agrees (kind_in rest b.0) b.1 ≡ true → are_kinds_kept (vs ++ b ∷ []) rest ≡ true)
        → are_kinds_kept (vs ++ b ∷ []) (m ∷ rest) ≡ true
    by true e f was next later =
        let name : b.0 ≡ m.0 = same_is b.0 m.0 e in
        let kind : m.1 ≡ b.1 = agrees-is m.1 b.1 f in
        let here : kind_in (vs ++ b ∷ []) m.0 ≡ Some m.1 =
        ap (kind_in (vs ++ b ∷ [])) (sym name) ∙ kind_in-pushed_own vs b none ∙ ap (λ j. Some j) (sym kind) in
        all_three _ _ _
        (ap (λ o. agrees o m.1) here ∙ agrees-own m.1)
        next
        (later (ap (λ x. agrees (kind_in rest x) b.1) name ∙ ap (agrees (kind_in rest m.0)) (sym kind) ∙ next))
    by false e f was next later =
        all_three _ _ _
        (ap (λ o. agrees o m.1) (kind_in-pushed_other vs b m.0 (same-sym m.0 b.0 ∙ e)) ∙ was)
        next
        (later f)

kinds-with_binding : (vs : List (Name × Kind)) (b : Name × Kind) (more : List (Name × Kind)) → agrees (kind_in more b.0) b.1 ≡ true
    → are_kinds_kept vs more ≡ true → are_kinds_kept (with_binding vs b) more ≡ true
kinds-with_binding vs b more first h = by (kind_in vs b.0) refl
  where
    by : (o : Option Kind) → kind_in vs b.0 ≡ o → are_kinds_kept (if is_some o then vs else vs ++ b ∷ []) more ≡ true
    by None e = kinds-pushed vs b more e first h
    by (Some k) e = h

AreOfKind-bound : (vs bs : List (Name × Kind)) → are_kinds_kept vs bs ≡ true → AreOfKind (with_bindings vs bs) bs
AreOfKind-bound vs [] h = tt
AreOfKind-bound vs (b ∷ more) h =
    let outer = and_parts (agrees (kind_in vs b.0) b.1 && agrees (kind_in more b.0) b.1) (are_kinds_kept vs more) h in
    let inner = and_parts (agrees (kind_in vs b.0) b.1) (agrees (kind_in more b.0) b.1) outer.0 in (
      kept_all (with_binding vs b) more b.0 b.1 (kind_in-own vs b inner.0),
      AreOfKind-bound (with_binding vs b) more (kinds-with_binding vs b more inner.1 outer.1),
    )

-- ---- a script

follows-kinds : (before : List Command) (c : Command) → refusal_of before c ≡ None → are_kinds_kept (variables_of before) (bindings c) ≡ true
follows-kinds before c e =
    (and_parts (are_uses_bound (variables_of before) c) (are_kinds_kept (variables_of before) (bindings c)) (by (keeps_rules (variables_of before) c) refl e)).1
  where
    by : (k : Bool) → keeps_rules (variables_of before) c ≡ k
        → (if not k then Some refusals.Variable else if not (is_within before c) then Some refusals.Limit else None) ≡ None
        → keeps_rules (variables_of before) c ≡ true
    by true e f = e
    by false e f = absurd cc

AreOfKind-push : (before : List Command) (c : Command) → refusal_of before c ≡ None → AreOfKind (variables_of before) (flat_map bindings before)
    → AreOfKind (variables_of (before ++ c ∷ [])) (flat_map bindings (before ++ c ∷ []))
AreOfKind-push before c e h =
    let vs = variables_of before in
    subst (λ ws. AreOfKind ws (flat_map bindings (before ++ c ∷ []))) (sym (variables_of-push before c))
    (
    subst (AreOfKind (with_bindings vs (bindings c))) (sym (all_bindings-push before c))
    (AreOfKind-append (with_bindings vs (bindings c)) (flat_map bindings before) (bindings c) (AreOfKind-more vs (bindings c) (flat_map bindings before) h)
    (AreOfKind-bound vs (bindings c) (follows-kinds before c e)))
    )

AreOfKind-follow : (before later : List Command) → FollowOn before later → AreOfKind (variables_of before) (flat_map bindings before)
    → AreOfKind (variables_of (before ++ later)) (flat_map bindings (before ++ later))
AreOfKind-follow before [] f h = subst (λ (cs : List Command). AreOfKind (variables_of cs) (flat_map bindings cs)) (sym (append-nil before)) h
AreOfKind-follow before (c ∷ later) f h =
    subst (λ (cs : List Command). AreOfKind (variables_of cs) (flat_map bindings cs)) (append_assoc before (c ∷ []) later)
    (AreOfKind-follow (before ++ c ∷ []) later f.1 (AreOfKind-push before c f.0 h))

-- each binding of a script has the kind of its variable
pub AreOfKind-script : (script : List Command) → IsScript script → AreOfKind (variables_of script) (flat_map bindings script)
AreOfKind-script script is = AreOfKind-follow [] script is tt

-- ---- the law

kind-at : (vs bs : List (Name × Kind)) (x : Name × Kind) (k : ℕ) → AreOfKind vs bs → k < length bs → get_or bs k x ≡ x → kind_in vs x.0 ≡ Some x.1
kind-at vs [] x k h below e = absurd (omega (arith, below))
kind-at vs (b ∷ bs) x zero h below e = subst (λ (y : Name × Kind). kind_in vs y.0 ≡ Some y.1) e h.0
kind-at vs (b ∷ bs) x (suc k) h below e = kind-at vs bs x k h.1 (omega (arith, below)) e

pub variable_kind : (script : List Command) → IsScript script → (name : Name) (kind : Kind) → Contains (flat_map bindings script) (name, kind)
    → kind_in (variables_of script) name ≡ Some kind
variable_kind script is name kind c = kind-at (variables_of script) (flat_map bindings script) (name, kind) c.0 (AreOfKind-script script is) c.1 c.2

pub one_kind : (script : List Command) → IsScript script → (name : Name) (j k : Kind) → Contains (flat_map bindings script) (name, j)
    → Contains (flat_map bindings script) (name, k) → j ≡ k
one_kind script is name j k first second =
    let e : Some j ≡ Some k = sym (variable_kind script is name j first) ∙ variable_kind script is name k second in cc
