-- What the names stand for, held as a list of values.
-- Cited by Count, Known, OneKind, Reaches; other crates.
use Rattle.std.proofs.Common.{◌≡◌, suc, Bool, true, false, true≢false, cond, List, [], ◌∷◌, ◌++◌, length, None, Some, flat_map, refl, sym, ap, ◌∙◌, arith}
use Rattle.std.specs.Prelude.{if◌then◌else◌, is_some}
use Rattle.std.specs.Cmp.{unsigned_Decides}
use Rattle.std.specs.Cmp.Lexicographic.{pointwise_decides}
use Rattle.kt_tuple.specs.declared.value.Value.{Value}
use Rattle.kt_tuple.specs.declared.value.Kind.{Kind}
use Rattle.kt_tuple.specs.declared.op.Answer.{Answer}
use Rattle.kt_tuple.specs.declared.op.Answer.TheVariants as answers
use Rattle.kt_script.specs.declared.name.Name.{Name}
use Rattle.kt_script.specs.declared.command.Slot.{Slot}
use Rattle.kt_script.specs.declared.command.Slot.TheVariants as slots
use Rattle.kt_script.specs.Name.{same_name}
use Rattle.kt_script.specs.Command.{slot_bindings}
use Rattle.kt_script.specs.Variables.{kind_in}
use Rattle.kt_script.specs.Meaning.{zero_of, with_value, with_slot, with_tuple, has_kinds, after_answer}
use Rattle.kt_script.specs.Memory.{zeros_of, held, with_held, with_slot_held, with_tuple_held, values_after}

pub same_is : (x y : Name) → same_name x y ≡ true → x ≡ y
same_is x y e = (pointwise_decides unsigned_Decides x y).0 e

pub same_refl : (x : Name) → same_name x x ≡ true
same_refl x = (pointwise_decides unsigned_Decides x x).1 refl

-- every name that is bound among these has a kind in the list
abbrev pub AreKnown : List (Name × Kind) → List (Name × Kind) → Type 0
AreKnown vs [] = Unit {0}
AreKnown vs (b ∷ bs) = (is_some (kind_in vs b.0) ≡ true) × AreKnown vs bs

pub AreKnown-left : (vs xs ys : List (Name × Kind)) → AreKnown vs (xs ++ ys) → AreKnown vs xs
AreKnown-left vs [] ys h = tt
AreKnown-left vs (x ∷ xs) ys h = (h.0, AreKnown-left vs xs ys h.1)

pub AreKnown-right : (vs xs ys : List (Name × Kind)) → AreKnown vs (xs ++ ys) → AreKnown vs ys
AreKnown-right vs [] ys h = h
AreKnown-right vs (x ∷ xs) ys h = AreKnown-right vs xs ys h.1

-- before any answer each name stands for the zero of its kind
pub held-zeros : (vs : List (Name × Kind)) (x : Name) → held vs (zeros_of vs) x ≡ zero_of (kind_in vs x)
held-zeros [] x = refl
held-zeros (v ∷ vs) x = by (same_name x v.0) (held-zeros vs x)
  where
    by : (b : Bool) → held vs (zeros_of vs) x ≡ zero_of (kind_in vs x)
        → (if b then zero_of (Some v.1) else held vs (zeros_of vs) x) ≡ zero_of (cond b (Some v.1) (kind_in vs x))
    by true h = refl
    by false h = h

pub length-zeros : (vs : List (Name × Kind)) → length (zeros_of vs) ≡ length vs
length-zeros [] = refl
length-zeros (v ∷ vs) = ap suc (length-zeros vs)

pub length-with_held : (vs : List (Name × Kind)) (us : List Value) (x : Name) (w : Value) → length (with_held vs us x w) ≡ length us
length-with_held [] us x w = refl
length-with_held (v ∷ vs) [] x w = refl
length-with_held (v ∷ vs) (u ∷ us) x w = by (same_name x v.0) (length-with_held vs us x w)
  where
    by : (b : Bool) → length (with_held vs us x w) ≡ length us → length (if b then w ∷ us else u ∷ with_held vs us x w) ≡ length (u ∷ us)
    by true h = refl
    by false h = ap suc h

-- a name that is known stands for the value that it was given, and each other one for what it did
pub held-with_held : (vs : List (Name × Kind)) (us : List Value) (x : Name) (w : Value) → length us ≡ length vs → is_some (kind_in vs x) ≡ true → (y : Name)
    → held vs (with_held vs us x w) y ≡ with_value (held vs us) x w y
held-with_held [] us x w fits known y = absurd (true≢false (sym known))
held-with_held (v ∷ vs) [] x w fits known y = absurd (omega (arith, fits))
held-with_held (v ∷ vs) (u ∷ us) x w fits known y =
    by (same_name x v.0) refl (λ e. held-with_held vs us x w (omega (arith, fits)) (sym (ap (λ b. is_some (cond b (Some v.1) (kind_in vs x))) e) ∙ known) y)
  where
    first : same_name x v.0 ≡ true → (c : Bool) → same_name y v.0 ≡ c → (if c then w else held vs us y) ≡ (if c then w else (if c then u else held vs us y))
    first e true f = refl
    first e false f = refl

    later : same_name x v.0 ≡ false → held vs (with_held vs us x w) y ≡ with_value (held vs us) x w y → (c d : Bool) → same_name y v.0 ≡ c → same_name y x ≡ d
        → (if c then u else (if d then w else held vs us y)) ≡ (if d then w else (if c then u else held vs us y))
    later e h true true f g = absurd (true≢false (sym f ∙ ap (λ n. same_name n v.0) (same_is y x g) ∙ e))
    later e h true false f g = refl
    later e h false true f g = refl
    later e h false false f g = refl

    by : (b : Bool) → same_name x v.0 ≡ b → (same_name x v.0 ≡ false → held vs (with_held vs us x w) y ≡ with_value (held vs us) x w y)
        → held (v ∷ vs) (with_held (v ∷ vs) (u ∷ us) x w) y ≡ with_value (held (v ∷ vs) (u ∷ us)) x w y
    by true e rest =
        ap (λ b. held (v ∷ vs) (if b then w ∷ us else u ∷ with_held vs us x w) y) e
        ∙ first e (same_name y v.0) refl
        ∙ ap (λ n. if same_name y n then w else (if same_name y v.0 then u else held vs us y)) (sym (same_is x v.0 e))
    by false e rest =
        ap (λ b. held (v ∷ vs) (if b then w ∷ us else u ∷ with_held vs us x w) y) e
        ∙ ap (λ z. if same_name y v.0 then u else z) (rest e)
        ∙ later e (rest e) (same_name y v.0) (same_name y x) refl refl

module _ (vs : List (Name × Kind)) where
  pub length-with_slot_held : (us : List Value) (s : Slot) (w : Value) → length (with_slot_held vs us s w) ≡ length us
  length-with_slot_held us (slots.Actual a) w = refl
  length-with_slot_held us (slots.Formal k None) w = refl
  length-with_slot_held us (slots.Formal k (Some x)) w = length-with_held vs us x w

  pub held-with_slot : (us : List Value) (s : Slot) (w : Value) → length us ≡ length vs → AreKnown vs (slot_bindings s)
      → held vs (with_slot_held vs us s w) ≡ with_slot (held vs us) s w
  held-with_slot us (slots.Actual a) w fits known = refl
  held-with_slot us (slots.Formal k None) w fits known = refl
  held-with_slot us (slots.Formal k (Some x)) w fits known = λ j y. held-with_held vs us x w fits known.0 y j

  pub length-with_tuple_held : (us : List Value) (p : List Slot) (t : List Value) → length (with_tuple_held vs us p t) ≡ length us
  length-with_tuple_held us [] t = refl
  length-with_tuple_held us (s ∷ p) [] = refl
  length-with_tuple_held us (s ∷ p) (w ∷ t) = length-with_tuple_held (with_slot_held vs us s w) p t ∙ length-with_slot_held us s w

  pub held-with_tuple : (us : List Value) (p : List Slot) (t : List Value) → length us ≡ length vs → AreKnown vs (flat_map slot_bindings p)
      → held vs (with_tuple_held vs us p t) ≡ with_tuple (held vs us) p t
  held-with_tuple us [] t fits known = refl
  held-with_tuple us (s ∷ p) [] fits known = refl
  held-with_tuple us (s ∷ p) (w ∷ t) fits known =
      held-with_tuple (with_slot_held vs us s w) p t (length-with_slot_held us s w ∙ fits)
      (AreKnown-right vs (slot_bindings s) (flat_map slot_bindings p) known)
      ∙ ap (λ m. with_tuple m p t) (held-with_slot us s w fits (AreKnown-left vs (slot_bindings s) (flat_map slot_bindings p) known))

  pub length-values_after : (us : List Value) (p : List Slot) (a : Answer) → length (values_after vs us p a) ≡ length us
  length-values_after us p answers.Done = refl
  length-values_after us p (answers.Got t) = by (has_kinds (held vs us) p t)
    where
      by : (b : Bool) → length (if b then with_tuple_held vs us p t else us) ≡ length us
      by true = length-with_tuple_held us p t
      by false = refl
  length-values_after us p answers.None = refl

  -- an answer binds alike in the list of values and in what the names stand for
  pub held-values_after : (us : List Value) (p : List Slot) (a : Answer) → length us ≡ length vs → AreKnown vs (flat_map slot_bindings p)
      → held vs (values_after vs us p a) ≡ after_answer (held vs us) p a
  held-values_after us p answers.Done fits known = refl
  held-values_after us p (answers.Got t) fits known = by (has_kinds (held vs us) p t)
    where
      by : (b : Bool) → held vs (if b then with_tuple_held vs us p t else us) ≡ (if b then with_tuple (held vs us) p t else held vs us)
      by true = held-with_tuple us p t fits known
      by false = refl
  held-values_after us p answers.None fits known = refl
