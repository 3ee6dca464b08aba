-- How many variables a script has with one command more.
-- Cited by OneKind, script.rt.
use Rattle.std.proofs.Common.{◌≡◌, ℕ, ◌+◌, Bool, true, false, true≢false, cond, List, [], ◌∷◌}
use Rattle.std.proofs.Common.{◌++◌, length, length-append, Some, None, refl, sym, ap, ◌∙◌, arith}
use Rattle.std.proofs.Math.Bool.{or-false, or-true}
use Rattle.std.specs.Prelude.{if◌then◌else◌, is_some, ◌||◌}
use Rattle.kt_tuple.specs.declared.value.Kind.{Kind}
use Rattle.kt_script.specs.declared.name.Name.{Name}
use Rattle.kt_script.specs.Name.{same_name}
use Rattle.kt_script.specs.Variables.{kind_in, with_bindings}
use Rattle.kt_script.specs.auxiliary.Counting.{count_new}
use Rattle.kt_script.proofs.Held.{same_is, same_refl}

abbrev pub known : List (Name × Kind) → Name → Bool
known vs x = is_some (kind_in vs x)

pub same-sym : (x y : Name) → same_name x y ≡ same_name y x
same-sym x y = by (same_name x y) (same_name y x) refl refl
  where
    by : (b c : Bool) → same_name x y ≡ b → same_name y x ≡ c → same_name x y ≡ same_name y x
    by true true e f = e ∙ sym f
    by true false e f = absurd (true≢false (sym (same_refl y) ∙ ap (λ n. same_name y n) (sym (same_is x y e)) ∙ f))
    by false true e f = absurd (true≢false (sym (same_refl x) ∙ ap (λ n. same_name x n) (sym (same_is y x f)) ∙ e))
    by false false e f = e ∙ sym f

pub known-push : (vs : List (Name × Kind)) (b : Name × Kind) (x : Name) → known (vs ++ b ∷ []) x ≡ (known vs x || same_name x b.0)
known-push [] b x = by (same_name x b.0)
  where
    by : (c : Bool) → is_some (cond c (Some b.1) None) ≡ c
    by true = refl
    by false = refl
known-push (v ∷ vs) b x = by (same_name x v.0) (known-push vs b x)
  where
    by : (c : Bool) → known (vs ++ b ∷ []) x ≡ (known vs x || same_name x b.0)
        → is_some (cond c (Some v.1) (kind_in (vs ++ b ∷ []) x)) ≡ (is_some (cond c (Some v.1) (kind_in vs x)) || same_name x b.0)
    by true h = refl
    by false h = h

one_here : (k : Bool) (m n : ℕ) → (if k then 1 else 0) + m ≡ n → 1 + (0 + m) ≡ (if k then 0 else 1) + n
one_here true m n h = omega (arith, h)
one_here false m n h = omega (arith, h)

one_later : (k : Bool) (p m n : ℕ) → (if k then 1 else 0) + m ≡ n → (if k then 1 else 0) + (p + m) ≡ p + n
one_later true p m n h = omega (arith, h)
one_later false p m n h = omega (arith, h)

-- a name that becomes known is counted no more
pub count_new-push : (vs : List (Name × Kind)) (b : Name × Kind) (bs : List (Name × Kind)) → known vs b.0 ≡ false
    → (if known bs b.0 then 1 else 0) + count_new (vs ++ b ∷ []) bs ≡ count_new vs bs
count_new-push vs b [] new = refl
count_new-push vs b (c ∷ cs) new = by (same_name b.0 c.0) refl (count_new-push vs b cs new)
  where
    by : (d : Bool) → same_name b.0 c.0 ≡ d → (if known cs b.0 then 1 else 0) + count_new (vs ++ b ∷ []) cs ≡ count_new vs cs
        → (if known (c ∷ cs) b.0 then 1 else 0) + count_new (vs ++ b ∷ []) (c ∷ cs) ≡ count_new vs (c ∷ cs)
    by true e h =
        ap (λ d. (if is_some (cond d (Some c.1) (kind_in cs b.0)) then 1 else 0) + count_new (vs ++ b ∷ []) (c ∷ cs)) e
        ∙ ap (λ d. 1 + ((if d || known cs c.0 then 0 else 1) + count_new (vs ++ b ∷ []) cs))
        (known-push vs b c.0 ∙ ap (λ d. known vs c.0 || d) (same-sym c.0 b.0 ∙ e) ∙ or-true (known vs c.0))
        ∙ one_here (known cs b.0) (count_new (vs ++ b ∷ []) cs) (count_new vs cs) h
        ∙ ap (λ x. (if known cs x then 0 else 1) + count_new vs cs) (same_is b.0 c.0 e)
        ∙ ap (λ d. (if d || known cs c.0 then 0 else 1) + count_new vs cs) (sym new ∙ ap (λ x. known vs x) (same_is b.0 c.0 e))
    by false e h =
        ap (λ d. (if is_some (cond d (Some c.1) (kind_in cs b.0)) then 1 else 0) + count_new (vs ++ b ∷ []) (c ∷ cs)) e
        ∙ ap (λ d. (if known cs b.0 then 1 else 0) + ((if d || known cs c.0 then 0 else 1) + count_new (vs ++ b ∷ []) cs))
        (known-push vs b c.0 ∙ ap (λ d. known vs c.0 || d) (same-sym c.0 b.0 ∙ e) ∙ or-false (known vs c.0))
        ∙ one_later (known cs b.0) (if known vs c.0 || known cs c.0 then 0 else 1) (count_new (vs ++ b ∷ []) cs) (count_new vs cs) h

-- as many variables as before, and one for each new name
pub length-with_bindings : (vs bs : List (Name × Kind)) → length (with_bindings vs bs) ≡ length vs + count_new vs bs
length-with_bindings vs [] = omega arith
length-with_bindings vs (b ∷ bs) = by (known vs b.0) refl (length-with_bindings vs bs) (length-with_bindings (vs ++ b ∷ []) bs)
  where
    new : (k : Bool) (m n : ℕ) → (if k then 1 else 0) + m ≡ n → (length vs + 1) + m ≡ length vs + ((if k then 0 else 1) + n)
    new true m n h = omega (arith, h)
    new false m n h = omega (arith, h)

    by : (d : Bool) → known vs b.0 ≡ d → length (with_bindings vs bs) ≡ length vs + count_new vs bs → length (with_bindings (vs ++ b ∷ []) bs) ≡ length
        (vs ++ b ∷ []) + count_new (vs ++ b ∷ []) bs → length (with_bindings vs (b ∷ bs)) ≡ length vs + count_new vs (b ∷ bs)
    by true e h g =
        ap (λ d. length (with_bindings (if d then vs else vs ++ b ∷ []) bs)) e ∙ h
        ∙ ap (λ n. length vs + n) (let z : count_new vs bs ≡ 0 + count_new vs bs = omega arith in z)
        ∙ ap (λ d. length vs + ((if d || known bs b.0 then 0 else 1) + count_new vs bs)) (sym e)
    by false e h g =
        ap (λ d. length (with_bindings (if d then vs else vs ++ b ∷ []) bs)) e ∙ g
        ∙ ap (λ n. n + count_new (vs ++ b ∷ []) bs) (length-append vs (b ∷ []))
        ∙ new (known bs b.0) (count_new (vs ++ b ∷ []) bs) (count_new vs bs) (count_new-push vs b bs e)
        ∙ ap (λ d. length vs + ((if d || known bs b.0 then 0 else 1) + count_new vs bs)) (sym e)

pub ruleset count_laws = (length-with_bindings)
