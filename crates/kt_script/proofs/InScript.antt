-- Answers lead to positions of the script, where each variable has a value of its kind.
-- Cited by `laws::answers_lead_to_places_of_the_script`, `laws::variables_keep_their_kinds`; other crates.
use Rattle.std.proofs.Common.{◌≡◌, ℕ, zero, suc, ◌+◌, ◌≤◌, ℤ, Bool, true, false, true≢false, cond, List, [], ◌∷◌, ◌++◌}
use Rattle.std.proofs.Common.{length, drop, fold, Option, None, Some, slice_get, flat_map, refl, sym, ap, subst, ◌∙◌, arith}
use Rattle.std.specs.Prelude.{if◌then◌else◌}
use Rattle.std.proofs.lemmas.Bool.{and_parts, and_from}
use Rattle.std.proofs.lemmas.List.{length-drop}
use Rattle.kt_tuple.specs.declared.value.Value.{Value}
use Rattle.kt_tuple.specs.declared.value.Value.TheVariants.{Int, Str, Bool as Truth}
use Rattle.kt_tuple.specs.declared.value.Kind.{Kind}
use Rattle.kt_tuple.specs.declared.value.Kind.TheVariants as kinds
use Rattle.kt_tuple.specs.declared.op.Answer.{Answer}
use Rattle.kt_tuple.specs.declared.op.Answer.TheVariants as answers
use Rattle.kt_tuple.specs.Equality.{kind_eq, kind_eq_decides}
use Rattle.kt_tuple.specs.Signature.{kind_of_place}
use Rattle.kt_tuple.specs.Value.{kind_of}
use Rattle.kt_script.specs.declared.name.Name.{Name}
use Rattle.kt_script.specs.declared.next.Next.{Next}
use Rattle.kt_script.specs.declared.command.Slot.{Slot}
use Rattle.kt_script.specs.declared.command.Slot.TheVariants as slots
use Rattle.kt_script.specs.declared.command.Command.{Command}
use Rattle.kt_script.specs.declared.command.Command.TheVariants.{Ask, Set, Unless}
use Rattle.kt_script.specs.Name.{same_name}
use Rattle.kt_script.specs.Command.{slot_bindings, bindings}
use Rattle.kt_script.specs.Variables.{kind_in, variables_of}
use Rattle.kt_script.specs.Meaning.{Meaning, zero_of, place_of_slot, plus, has_kinds}
use Rattle.kt_script.specs.Memory.{Memory, zeros_of, opening_memory, are_values_of, memory_of, held, with_held, with_slot_held, with_tuple_held, values_after}
use Rattle.kt_script.specs.Next.{Position, IsInScript, assigned, next_from, next_at, slots_of_command}
use Rattle.kt_script.specs.Next.{slots_before, bound, opening_position, answered, after_one, position_after}
use Rattle.kt_script.specs.Rules.{IsScript}
use Rattle.kt_script.proofs.OneKind.{AreOfKind, AreOfKind-script}

AreOfKind-left : (vs xs ys : List (Name × Kind)) → AreOfKind vs (xs ++ ys) → AreOfKind vs xs
AreOfKind-left vs [] ys h = tt
AreOfKind-left vs (x ∷ xs) ys h = (h.0, AreOfKind-left vs xs ys h.1)

AreOfKind-right : (vs xs ys : List (Name × Kind)) → AreOfKind vs (xs ++ ys) → AreOfKind vs ys
AreOfKind-right vs [] ys h = h
AreOfKind-right vs (x ∷ xs) ys h = AreOfKind-right vs xs ys h.1

AreOfKind-drop : (vs : List (Name × Kind)) (pc : ℕ) (commands : List Command) → AreOfKind vs (flat_map bindings commands)
    → AreOfKind vs (flat_map bindings (drop pc commands))
AreOfKind-drop vs zero commands h = h
AreOfKind-drop vs (suc pc) [] h = h
AreOfKind-drop vs (suc pc) (c ∷ commands) h = AreOfKind-drop vs pc commands (AreOfKind-right vs (bindings c) (flat_map bindings commands) h)

of_command : (vs : List (Name × Kind)) (c : Command) → AreOfKind vs (bindings c) → AreOfKind vs (flat_map slot_bindings (slots_of_command (Some c)))
of_command vs (Ask operation) h = h
of_command vs (Set x y k) h = tt
of_command vs (Unless n) h = tt

-- what the command of this number may bind
AreOfKind-at : (vs : List (Name × Kind)) (commands : List Command) (n : ℕ) → AreOfKind vs (flat_map bindings commands)
    → AreOfKind vs (flat_map slot_bindings (slots_of_command (slice_get commands n)))
AreOfKind-at vs [] zero h = tt
AreOfKind-at vs [] (suc n) h = tt
AreOfKind-at vs (c ∷ cs) zero h = of_command vs c (AreOfKind-left vs (bindings c) (flat_map bindings cs) h)
AreOfKind-at vs (c ∷ cs) (suc n) h = AreOfKind-at vs cs n (AreOfKind-right vs (bindings c) (flat_map bindings cs) h)

AreOfKind-before : (script : List Command) (pc : ℕ) → IsScript script → AreOfKind (variables_of script) (flat_map slot_bindings (slots_before script pc))
AreOfKind-before script zero is = tt
AreOfKind-before script (suc pc) is = AreOfKind-at (variables_of script) script pc (AreOfKind-script script is)

-- ---- values keep their kinds

zero-kind : (k : Kind) → kind_eq k (kind_of (zero_of (Some k))) ≡ true
zero-kind kinds.Int = refl
zero-kind kinds.Str = refl
zero-kind kinds.Bool = refl

values-zeros : (vs : List (Name × Kind)) → are_values_of vs (zeros_of vs) ≡ true
values-zeros [] = refl
values-zeros (v ∷ vs) = and_from (kind_eq v.1 (kind_of (zero_of (Some v.1)))) (are_values_of vs (zeros_of vs)) (zero-kind v.1) (values-zeros vs)

plus-kind : (v : Value) (k : ℤ) → kind_of (plus v k) ≡ kinds.Int
plus-kind (Int n) k = refl
plus-kind (Str s) k = refl
plus-kind (Truth b) k = refl

values-with_held : (vs : List (Name × Kind)) (us : List Value) (x : Name) (w : Value) → are_values_of vs us ≡ true
    → ((k : Kind) → kind_in vs x ≡ Some k → kind_of w ≡ k) → are_values_of vs (with_held vs us x w) ≡ true
values-with_held [] us x w h suits = h
values-with_held (v ∷ vs) [] x w h suits = absurd (true≢false (sym h))
values-with_held (v ∷ vs) (u ∷ us) x w h suits =
    let both = and_parts (kind_eq v.1 (kind_of u)) (are_values_of vs us) h in
    by (same_name x v.0) both.0 both.1 suits (values-with_held vs us x w both.1)
  where
    by : (c : Bool) → kind_eq v.1 (kind_of u) ≡ true → are_values_of vs us ≡ true → ((k : Kind) → cond c (Some v.1) (kind_in vs x) ≡ Some k → kind_of w ≡ k)
        → (((k : Kind) → kind_in vs x ≡ Some k → kind_of w ≡ k) → are_values_of vs (with_held vs us x w) ≡ true)
        → are_values_of (v ∷ vs) (if c then w ∷ us else u ∷ with_held vs us x w) ≡ true
    by true first rest suits later = and_from (kind_eq v.1 (kind_of w)) (are_values_of vs us) ((kind_eq_decides v.1 (kind_of w)).1 (sym (suits v.1 refl))) rest
    by false first rest suits later = and_from (kind_eq v.1 (kind_of u)) (are_values_of vs (with_held vs us x w)) first (later suits)

module _ (vs : List (Name × Kind)) where
  -- the name has this kind, and no other
  suits_own : (x : Name) (k : Kind) (w : Value) → kind_in vs x ≡ Some k → kind_of w ≡ k → (j : Kind) → kind_in vs x ≡ Some j → kind_of w ≡ j
  suits_own x k w own e j other =
      let same : Some k ≡ Some j = sym own ∙ other in
      let is : k ≡ j = cc in e ∙ is

  values-assigned : (memory : Memory) (x y : Name) (k : ℤ) → AreOfKind vs (bindings (Set x y k)) → are_values_of vs memory.values ≡ true
      → are_values_of vs (assigned vs memory x y k).values ≡ true
  values-assigned memory x y k bound_so h =
      let w = plus (held vs memory.values y) k in
      values-with_held vs memory.values x w h (suits_own x kinds.Int w bound_so.0 (plus-kind (held vs memory.values y) k))

  values-slot : (m : Meaning) (us : List Value) (s : Slot) (w : Value) → AreOfKind vs (slot_bindings s)
      → kind_eq (kind_of_place (place_of_slot m s)) (kind_of w) ≡ true → are_values_of vs us ≡ true → are_values_of vs (with_slot_held vs us s w) ≡ true
  values-slot m us (slots.Actual a) w bound_so fits h = h
  values-slot m us (slots.Formal k None) w bound_so fits h = h
  values-slot m us (slots.Formal k (Some x)) w bound_so fits h =
      values-with_held vs us x w h (suits_own x k w bound_so.0 (sym ((kind_eq_decides k (kind_of w)).0 fits)))

  values-tuple : (m : Meaning) (us : List Value) (p : List Slot) (t : List Value) → AreOfKind vs (flat_map slot_bindings p) → has_kinds m p t ≡ true
      → are_values_of vs us ≡ true → are_values_of vs (with_tuple_held vs us p t) ≡ true
  values-tuple m us [] t bound_so fits h = h
  values-tuple m us (s ∷ p) [] bound_so fits h = h
  values-tuple m us (s ∷ p) (w ∷ t) bound_so fits h =
      let both = and_parts (kind_eq (kind_of_place (place_of_slot m s)) (kind_of w)) (has_kinds m p t) fits in
      values-tuple m (with_slot_held vs us s w) p t (AreOfKind-right vs (slot_bindings s) (flat_map slot_bindings p) bound_so) both.1
      (values-slot m us s w (AreOfKind-left vs (slot_bindings s) (flat_map slot_bindings p) bound_so) both.0 h)

  values-answer : (us : List Value) (p : List Slot) (a : Answer) → AreOfKind vs (flat_map slot_bindings p) → are_values_of vs us ≡ true
      → are_values_of vs (values_after vs us p a) ≡ true
  values-answer us p answers.Done bound_so h = h
  values-answer us p (answers.Got t) bound_so h = by (has_kinds (held vs us) p t) refl
    where
      by : (c : Bool) → has_kinds (held vs us) p t ≡ c → are_values_of vs (if c then with_tuple_held vs us p t else us) ≡ true
      by true e = values-tuple (held vs us) us p t bound_so e h
      by false e = h
  values-answer us p answers.None bound_so h = h

  -- behind the next operation the values have their kinds, and the position is not past the commands
  abbrev pub IsFine : ℕ → Option Next → Type 0
  IsFine end None = Unit {0}
  IsFine end (Some next) = (next.pc ≤ end) × (are_values_of vs next.env.values ≡ true)

  fine-next_from : (memory : Memory) (skipped pc end : ℕ) (commands : List Command) → AreOfKind vs (flat_map bindings commands) → pc + length commands ≤ end
      → are_values_of vs memory.values ≡ true → IsFine end (next_from vs memory skipped pc commands)
  fine-next_from memory skipped pc end [] bound_so room h = tt
  fine-next_from memory (suc skipped) pc end (c ∷ later) bound_so room h =
      fine-next_from memory skipped (pc + 1) end later (AreOfKind-right vs (bindings c) (flat_map bindings later) bound_so) (omega (arith, room)) h
  fine-next_from memory zero pc end (Set x y k ∷ later) bound_so room h =
      fine-next_from (assigned vs memory x y k) 0 (pc + 1) end later (AreOfKind-right vs (bindings (Set x y k)) (flat_map bindings later) bound_so)
      (omega (arith, room))
      (values-assigned memory x y k (AreOfKind-left vs (bindings (Set x y k)) (flat_map bindings later) bound_so) h)
  fine-next_from memory zero pc end (Unless n ∷ later) bound_so room h =
      fine-next_from memory (if memory.was_none then n else 0) (pc + 1) end later bound_so (omega (arith, room)) h
  fine-next_from memory zero pc end (Ask operation ∷ later) bound_so room h = (omega (arith, room), h)

-- ---- the laws

pub values-opening : (script : List Command) → are_values_of (variables_of script) (opening_memory script).values ≡ true
values-opening script = values-zeros (variables_of script)

pub values-bound : (script : List Command) → IsScript script → (pc : ℕ) (answer : Answer) (memory : Memory)
    → are_values_of (variables_of script) memory.values ≡ true → are_values_of (variables_of script) (bound script pc answer memory).values ≡ true
values-bound script is pc answer memory h =
    values-answer (variables_of script) memory.values (slots_before script pc) answer (AreOfKind-before script pc is) h

-- the next operation stands at or before any end that is not before the position and the script's end
fine-next_at : (script : List Command) → IsScript script → (position : Position) (end : ℕ) → position.pc + length (drop position.pc script) ≤ end
    → are_values_of (variables_of script) position.memory.values ≡ true → IsFine (variables_of script) end (next_at script position)
fine-next_at script is position end room h =
    fine-next_from (variables_of script) position.memory 0 position.pc end (drop position.pc script)
    (AreOfKind-drop (variables_of script) position.pc script (AreOfKind-script script is)) room h

pub values-next : (script : List Command) → IsScript script → (position : Position) (next : Next) → are_values_of (variables_of script) position.memory.values
    ≡ true → next_at script position ≡ Some next → are_values_of (variables_of script) next.env.values ≡ true
values-next script is position next h e =
    let end = position.pc + length (drop position.pc script) in
    let room : position.pc + length (drop position.pc script) ≤ end = omega arith in
    (subst (IsFine (variables_of script) end) e (fine-next_at script is position end room h)).1

pub memory-again : (script : List Command) (memory : Memory) → are_values_of (variables_of script) memory.values ≡ true
    → memory_of script memory.values memory.was_none ≡ Some memory
memory-again script memory h = ap (λ b. if b then Some memory else None) h

room-in : (script : List Command) (pc : ℕ) → pc ≤ length script → pc + length (drop pc script) ≤ length script
room-in script pc h = let e = length-drop pc script in omega (arith, e, h)

pub in_script-next : (script : List Command) → IsScript script → (position : Position) (next : Next) → IsInScript script position
    → next_at script position ≡ Some next → IsInScript script (record { pc = next.pc; memory = next.env })
in_script-next script is position next here e =
    let fine = subst (IsFine (variables_of script) (length script)) e
    (fine-next_at script is position (length script) (room-in script position.pc here.within) here.values) in
    record { within = fine.0; values = fine.1 }

in_script-answer : (script : List Command) → IsScript script → (position : Position) (answer : Answer) → IsInScript script position
    → IsInScript script (after_one script position answer)
in_script-answer script is position answer here = by (next_at script position) refl
  where
    by : (o : Option Next) → next_at script position ≡ o → IsInScript script (answered script answer position o)
    by None e = here
    by (Some next) e =
        let there = in_script-next script is position next here e in
        record { within = there.within; values = values-bound script is next.pc answer next.env there.values }

in_script-fold : (script : List Command) → IsScript script → (position : Position) (answers : List Answer) → IsInScript script position
    → IsInScript script (fold (after_one script) position answers)
in_script-fold script is position [] here = here
in_script-fold script is position (answer ∷ more) here =
    in_script-fold script is (after_one script position answer) more (in_script-answer script is position answer here)

pub in_script-after : (script : List Command) → IsScript script → (answers : List Answer) → IsInScript script (position_after script answers)
in_script-after script is answers =
    in_script-fold script is (opening_position script) answers (record { within = omega arith; values = values-opening script })
