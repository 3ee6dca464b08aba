-- A worker that stands as after some answers asks what its script asks then, and stands as after one answer more
-- once it has heard it.
-- Cited by `Worker::has_next`, `Worker::hear`, `Worker::is_done`, `Worker::issue`; other crates.
use Rattle.std.proofs.Common.{rules, ◌≡◌, ℕ, suc, ◌+◌, Bool, true, false, List, [], ◌∷◌, ◌++◌, length, fold, Option}
use Rattle.std.proofs.Common.{None, Some, refl, sym, ap, ◌∙◌, subst, eqb-true, eq-eqb, length-append, arith}
use Rattle.std.specs.Prelude.{IfSome, ◌||◌, ◌↔◌, is_some, not, IsTrue, ◌==◌}
use Rattle.std.proofs.lemmas.Bool.{and_parts, and_from, false≢true}
use Rattle.kt_tuple.specs.declared.op.Op.{Op}
use Rattle.kt_tuple.specs.declared.op.Answer.{Answer}
use Rattle.kt_tuple.specs.Op.{op_eq, op_eq_decides}
use Rattle.kt_script.specs.declared.next.Next.{Next}
use Rattle.kt_script.specs.declared.command.Command.{Command}
use Rattle.kt_script.specs.Asks.{asks}
use Rattle.kt_script.specs.Next.{Position, next_at, bound, answered, after_one, opening_position, position_after, op_of_next}
use Rattle.kt_script.proofs.Shared.{reaches}
use Rattle.kt_worker.specs.WorkerModel.{WorkerModel, opening_model, unless_asked, next_of, next_request}
use Rattle.kt_worker.specs.WorkerModel.{numbered, behind, asking, issued, awaits_op, awaits, heard, is_left}
use Rattle.kt_worker.specs.After.{last_number, behind_next, position_when, IsAfter}

-- the next operation of a worker that waits for nothing
next_of-free : (script : List Command) (answers : List Answer) (w : WorkerModel) → IsAfter script answers w → w.asked ≡ None
    → next_of script w ≡ next_at script (position_after script answers)
next_of-free script answers w after free =
    ap (λ o. unless_asked o (next_at script w.position)) free
    ∙ ap (next_at script) (after.position ∙ ap (λ o. position_when o script answers) free)

number-free : (script : List Command) (answers : List Answer) (w : WorkerModel) → IsAfter script answers w → w.asked ≡ None → w.number ≡ length answers
number-free script answers w after free = after.number ∙ ap (λ o. last_number o (length answers)) free

-- the request is the operation that the script asks for, with the next number
pub request-asks : (script : List Command) (answers : List Answer) (w : WorkerModel) → IsAfter script answers w → w.asked ≡ None
    → next_request script w ≡ numbered (suc (length answers)) (asks script answers)
request-asks script answers w after free =
    ap (λ o. numbered (w.number + 1) (op_of_next o)) (next_of-free script answers w after free)
    ∙ ap (λ n. numbered n (op_of_next (next_at script (position_after script answers)))) more
    ∙ ap (numbered (suc (length answers))) (sym (reaches script answers))
  where
    more : w.number + 1 ≡ suc (length answers)
    more = let e = number-free script answers w after free in omega (arith, e)

-- a request leaves the worker as after the same answers
pub issued-after : (script : List Command) (answers : List Answer) (w : WorkerModel) → IsAfter script answers w → IsAfter script answers (issued script w)
issued-after script answers w after = by w.asked refl
  where
    stays : (o : Option Next) → o ≡ None → IsAfter script answers (asking w o)
    stays None e = after
    stays (Some next) e = absurd cc

    asks_on : (o : Option Next) → next_at script (position_after script answers) ≡ o → w.asked ≡ None → IsAfter script answers (asking w o)
    asks_on None e free = after
    asks_on (Some next) e free = record {
      number = let n = number-free script answers w after free in omega (arith, n);
      asked = reaches script answers ∙ ap op_of_next e;
      position = ap (behind_next (position_after script answers)) (sym e);
    }

    by : (o : Option Op) → w.asked ≡ o → IsAfter script answers (issued script w)
    by None e = subst (λ n. IsAfter script answers (asking w n)) (sym (next_of-free script answers w after e))
        (asks_on (next_at script (position_after script answers)) refl e)
    by (Some op) e = stays (next_of script w) (ap (λ o. unless_asked o (next_at script w.position)) e)

-- where an operation is asked for, it is the next one
is_next : (script : List Command) (answers : List Answer) (op : Op) → asks script answers ≡ Some op → (next : Next)
    × (next_at script (position_after script answers) ≡ Some next)
is_next script answers op e = by (next_at script (position_after script answers)) refl
  where
    by : (o : Option Next) → next_at script (position_after script answers) ≡ o → (next : Next) × (next_at script (position_after script answers) ≡ Some next)
    by None n = absurd (cc (e, reaches script answers, ap op_of_next n))
    by (Some next) n = (next, n)

-- one answer goes on from the position after those before it
position_after-push : (script : List Command) (answers : List Answer) (answer : Answer)
    → position_after script (answers ++ answer ∷ []) ≡ after_one script (position_after script answers) answer
position_after-push script answers answer = by (opening_position script) answers
  where
    by : (p : Position) (xs : List Answer) → fold (after_one script) p (xs ++ answer ∷ []) ≡ after_one script (fold (after_one script) p xs) answer
    by p [] = refl
    by p (x ∷ xs) = by (after_one script p x) xs

-- the answer to the unanswered request is the one after those so far
pub heard-after : (script : List Command) (answers : List Answer) (w : WorkerModel) (op : Op) (answer : Answer) → IsAfter script answers w → w.asked ≡ Some op
    → IsAfter script (answers ++ answer ∷ []) (heard script w answer)
heard-after script answers w op answer after e =
    let next = is_next script answers op (subst (λ o. IfSome o (λ asked. asks script answers ≡ Some asked)) e after.asked) in
    let at : w.position ≡ behind next.0 =
    after.position ∙ ap (λ o. position_when o script answers) e ∙ ap (behind_next (position_after script answers)) next.1 in
    let numbered : w.number ≡ suc (length answers) = after.number ∙ ap (λ o. last_number o (length answers)) e in record {
      number = let long = length-append answers (answer ∷ []) in omega (arith, numbered, long);
      asked = tt;
      position =
          ap (λ (p : Position). record { pc = p.pc; memory = bound script p.pc answer p.memory }) at
          ∙ ap (answered script answer (position_after script answers)) (sym next.1)
          ∙ sym (position_after-push script answers answer);
    }

-- an operation is left where the script asks for one
pub is_left-asks : (script : List Command) (answers : List Answer) (w : WorkerModel) → IsAfter script answers w
    → is_left script w ≡ is_some (asks script answers)
is_left-asks script answers w after = by w.asked refl
  where
    of_next : (o : Option Next) → is_some o ≡ is_some (op_of_next o)
    of_next None = refl
    of_next (Some next) = refl

    by : (o : Option Op) → w.asked ≡ o → is_left script w ≡ is_some (asks script answers)
    by None e =
        ap (λ o. is_some o || is_some (next_at script w.position)) e
        ∙ ap (λ p. is_some (next_at script p)) (after.position ∙ ap (λ o. position_when o script answers) e)
        ∙ of_next (next_at script (position_after script answers))
        ∙ ap is_some (sym (reaches script answers))
    by (Some op) e =
        ap (λ o. is_some o || is_some (next_at script w.position)) e
        ∙ ap is_some (sym (subst (λ o. IfSome o (λ asked. asks script answers ≡ Some asked)) e after.asked))

-- where none is left, the script asks for nothing
pub asks-none : (left : Bool) (asked : Option Op) → left ≡ is_some asked → IsTrue (not left) ↔ (asked ≡ None)
asks-none true None e = absurd cc
asks-none false None e = (λ _. refl, λ _. search rules)
asks-none true (Some op) e = (λ k. search rules, λ k. absurd cc)
asks-none false (Some op) e = absurd cc

awaits_op-is : (asked : Option Op) (last number : ℕ) (op : Op) → awaits_op asked last number op ≡ true → (last ≡ number) × (asked ≡ Some op)
awaits_op-is None last number op e = absurd (false≢true e)
awaits_op-is (Some other) last number op e =
    let both = and_parts (last == number) (op_eq other op) e in
    (eqb-true last number both.0, ap Some ((op_eq_decides other op).0 both.1))

awaits_op-from : (asked : Option Op) (last number : ℕ) (op : Op) → last ≡ number → asked ≡ Some op → awaits_op asked last number op ≡ true
awaits_op-from None last number op n e = absurd cc
awaits_op-from (Some other) last number op n e =
    let same : other ≡ op = cc in
    and_from (last == number) (op_eq other op) (eq-eqb last number n) ((op_eq_decides other op).1 same)

-- the test of the unanswered request
pub awaits-is : (w : WorkerModel) (number : ℕ) (op : Op) → awaits w number op ≡ true → (w.number ≡ number) × (w.asked ≡ Some op)
awaits-is w number op e = awaits_op-is w.asked w.number number op e

pub awaits-from : (w : WorkerModel) (number : ℕ) (op : Op) → w.number ≡ number → w.asked ≡ Some op → awaits w number op ≡ true
awaits-from w number op n e = awaits_op-from w.asked w.number number op n e

pub awaits-decides : (w : WorkerModel) (number : ℕ) (op : Op) (r : Bool) → awaits w number op ≡ r → IsTrue r ↔ ((w.number ≡ number) × (w.asked ≡ Some op))
awaits-decides w number op true e = (λ _. awaits-is w number op e, λ _. search rules)
awaits-decides w number op false e = (λ k. search rules, λ k. absurd (false≢true (sym e ∙ awaits-from w number op k.0 k.1)))

-- what a worker does that makes the request r after these answers
pub record Requests (script : List Command) (answers : List Answer) (w : WorkerModel) (r : ℕ × Op) : Type 0 where
  pub free : w.asked ≡ None
  pub number : r.0 ≡ suc (length answers)
  pub asks_for : asks script answers ≡ Some r.1
  pub asked : (issued script w).asked ≡ Some r.1
  pub after : IsAfter script answers (issued script w)

pub Requests-next : (script : List Command) (answers : List Answer) (w : WorkerModel) (r : ℕ × Op) → IsAfter script answers w → next_request script w ≡ Some r
    → Requests script answers w r
Requests-next script answers w r after e = record {
  free = free;
  number = (parts (asks script answers) (sym (request-asks script answers w after free) ∙ e)).0;
  asks_for = (parts (asks script answers) (sym (request-asks script answers w after free) ∙ e)).1;
  asked = asked_for (next_of script w) e;
  after = issued-after script answers w after;
}
  where
    free_of : (o : Option Op) (n : Option Next) → numbered (w.number + 1) (op_of_next (unless_asked o n)) ≡ Some r → o ≡ None
    free_of None n k = refl
    free_of (Some op) n k = absurd cc

    free : w.asked ≡ None
    free = free_of w.asked (next_at script w.position) e

    parts : (o : Option Op) → numbered (suc (length answers)) o ≡ Some r → (r.0 ≡ suc (length answers)) × (o ≡ Some r.1)
    parts None k = absurd cc
    parts (Some op) k =
        let same : (suc (length answers), op) ≡ r = cc in
        (ap (λ (z : ℕ × Op). z.0) (sym same), ap (λ (z : ℕ × Op). Some z.1) same)

    asked_for : (n : Option Next) → numbered (w.number + 1) (op_of_next n) ≡ Some r → (asking w n).asked ≡ Some r.1
    asked_for None k = absurd cc
    asked_for (Some next) k =
        let same : (w.number + 1, next.op) ≡ r = cc in ap (λ (z : ℕ × Op). Some z.1) same

-- before the first request there is no answer
pub opening-after : (script : List Command) → IsAfter script [] (opening_model script)
opening-after script = record { number = refl; asked = tt; position = refl }
