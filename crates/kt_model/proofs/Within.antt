-- A worker stays within its script, and a shard's tuples grow by one at most.
-- Cited by GoodActs, Leaves.
use Rattle.std.proofs.Common.{◌≡◌, ℕ, zero, suc, ◌+◌, ◌<◌, ◌≤◌, Bool, true, false, if◌then◌else◌, List, [], ◌∷◌, length}
use Rattle.std.proofs.Common.{drop, Option, None, Some, refl, ◌∙◌, subst, arith, length-append}
use Rattle.std.proofs.lemmas.List.{length-drop}
use Rattle.kt_tuple.specs.declared.value.Value.{Value}
use Rattle.kt_tuple.specs.declared.value.Kind.{Kind}
use Rattle.kt_tuple.specs.declared.op.Op.{Op}
use Rattle.kt_tuple.specs.declared.op.Op.TheVariants.{Out, In, Rd, Inp, Rdp}
use Rattle.kt_tuple.specs.declared.op.Answer.{Answer}
use Rattle.kt_tuple.specs.declared.op.Answer.TheVariants as answers
use Rattle.kt_tuple.specs.declared.tuple.Tuple.{Tuple}
use Rattle.kt_tuple.specs.declared.template.Template.{Template}
use Rattle.kt_tuple.specs.Matching.{matches}
use Rattle.kt_script.specs.declared.name.Name.{Name}
use Rattle.kt_script.specs.declared.next.Next.{Next}
use Rattle.kt_script.specs.declared.command.Slot.{Slot}
use Rattle.kt_script.specs.declared.command.Slot.TheVariants as slots
use Rattle.kt_script.specs.declared.command.Command.{Command}
use Rattle.kt_script.specs.declared.command.Command.TheVariants.{Ask, Set, Unless}
use Rattle.kt_script.specs.Variables.{variables_of}
use Rattle.kt_script.specs.Meaning.{has_kinds, op_of}
use Rattle.kt_script.specs.Memory.{Memory, held, with_slot_held, with_tuple_held, values_after}
use Rattle.kt_script.specs.Next.{Position, next_from, next_at, assigned, slots_before}
use Rattle.kt_space.specs.Picking.{without_match}
use Rattle.kt_shard.specs.Service.{left_by}
use Rattle.kt_worker.specs.declared.worker.Worker.{Worker}
use Rattle.kt_worker.specs.WorkerModel.{unless_asked, asking, issued, heard}
use Rattle.kt_model.specs.auxiliary.Ready.{IsWithin}
use Rattle.kt_script.proofs.Shared.{length-with_held}

-- ---- as many values as before

length-slot : (vs : List (Name × Kind)) (us : List Value) (slot : Slot) (w : Value) → length (with_slot_held vs us slot w) ≡ length us
length-slot vs us (slots.Actual actual) w = refl
length-slot vs us (slots.Formal kind None) w = refl
length-slot vs us (slots.Formal kind (Some name)) w = length-with_held vs us name w

length-tuple : (vs : List (Name × Kind)) (us : List Value) (places : List Slot) (t : List Value) → length (with_tuple_held vs us places t) ≡ length us
length-tuple vs us [] t = refl
length-tuple vs us (slot ∷ later) [] = refl
length-tuple vs us (slot ∷ later) (w ∷ more) = length-tuple vs (with_slot_held vs us slot w) later more ∙ length-slot vs us slot w

length-after : (vs : List (Name × Kind)) (us : List Value) (places : List Slot) (answer : Answer) → length (values_after vs us places answer) ≡ length us
length-after vs us places answers.Done = refl
length-after vs us places answers.None = refl
length-after vs us places (answers.Got t) = by (has_kinds (held vs us) places t)
  where
    by : (b : Bool) → length (if b then with_tuple_held vs us places t else us) ≡ length us
    by true = length-tuple vs us places t
    by false = refl

-- ---- the next operation

record IsAhead (start end size : ℕ) (next : Next) : Type 0 where
  pc : next.pc ≤ end
  past : start < next.pc
  values : length next.env.values ≡ size

ahead-from : (vs : List (Name × Kind)) (memory : Memory) (skipped pc end : ℕ) (commands : List Command) (next : Next) → pc + length commands ≤ end
    → next_from vs memory skipped pc commands ≡ Some next → IsAhead pc end (length memory.values) next
ahead-from vs memory skipped pc end [] next room e = absurd cc
ahead-from vs memory (suc skipped) pc end (command ∷ later) next room e =
    let h = ahead-from vs memory skipped (pc + 1) end later next (omega (arith, room)) e in
    record { pc = h.pc; past = let far = h.past in omega (arith, far); values = h.values }
ahead-from vs memory zero pc end (Set x y k ∷ later) next room e =
    let h = ahead-from vs (assigned vs memory x y k) 0 (pc + 1) end later next (omega (arith, room)) e in
    record { pc = h.pc; past = let far = h.past in omega (arith, far); values = h.values ∙ length-with_held vs memory.values x _ }
ahead-from vs memory zero pc end (Unless count ∷ later) next room e =
    let h = ahead-from vs memory (if memory.was_none then count else 0) (pc + 1) end later next (omega (arith, room)) e in
    record { pc = h.pc; past = let far = h.past in omega (arith, far); values = h.values }
ahead-from vs memory zero pc end (Ask operation ∷ later) next room e =
    let is : Next = record { op = op_of (held vs memory.values) operation; pc = pc + 1; env = memory } in
    let same : is ≡ next = cc in
    let P : Next → Type 0 = IsAhead pc end (length memory.values) in
    subst P same (record { pc = omega (arith, room); past = omega arith; values = refl })

ahead : (script : List Command) (position : Position) (next : Next) → position.pc ≤ length script → next_at script position ≡ Some next
    → IsAhead position.pc (length script) (length position.memory.values) next
ahead script position next within e =
    let long = length-drop position.pc script in
    ahead-from (variables_of script) position.memory 0 position.pc (length script) (drop position.pc script) next (omega (arith, within, long)) e

pub issued-within : (script : List Command) (x : Worker) → IsWithin script x → IsWithin script (issued script x)
issued-within script x is = asks x.asked
  where
    goes : (o : Option Next) → next_at script x.position ≡ o → IsWithin script (asking x o)
    goes None e = is
    goes (Some next) e =
        let h = ahead script x.position next is.pc e in record {
          pc = h.pc;
          numbered = let far = h.past in let was = is.numbered in omega (arith, far, was);
          values = let same = h.values in let few = is.values in omega (arith, same, few);
        }

    asks : (o : Option Op) → IsWithin script (asking x (unless_asked o (next_at script x.position)))
    asks None = goes (next_at script x.position) refl
    asks (Some op) = is

pub heard-within : (script : List Command) (x : Worker) (answer : Answer) → IsWithin script x → IsWithin script (heard script x answer)
heard-within script x answer is =
    let same = length-after (variables_of script) x.position.memory.values (slots_before script x.position.pc) answer in
    let few = is.values in
    record { pc = is.pc; numbered = is.numbered; values = omega (arith, same, few) }

-- ---- what a shard is left with

length-without : (t : Template) (k : ℕ) (bag : List Tuple) → length (without_match t k bag) ≤ length bag
unfolding without_match
length-without t k [] = omega arith
length-without t zero (u ∷ later) = by (matches t u) (length-without t zero later)
  where
    by : (b : Bool) → length (without_match t zero later) ≤ length later → length (if b then later else u ∷ without_match t zero later) ≤ length (u ∷ later)
    by true rest = omega arith
    by false rest = omega (arith, rest)
length-without t (suc k) (u ∷ later) = let h = length-without t (if matches t u then k else suc k) later in omega (arith, h)

pub length-left : (bag : List Tuple) (op : Op) (place : ℕ) → length (left_by bag op place) ≤ length bag + 1
length-left bag (Out u) place = omega (arith, length-append bag (u ∷ []))
length-left bag (In t) place = let h = length-without t place bag in omega (arith, h)
length-left bag (Rd t) place = omega arith
length-left bag (Inp t) place = let h = length-without t place bag in omega (arith, h)
length-left bag (Rdp t) place = omega arith
