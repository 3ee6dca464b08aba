-- What was done by an act, in bytes.
-- Cited by ActFields.
use Rattle.std.proofs.Common.{◌≡◌, ℕ, Bool, true, false, cond, eqb, List, [], Result, Some, None}
use Rattle.std.proofs.Common.{refl, subst, arith}
use Rattle.std.specs.Prelude.{IfSome}
use Rattle.std.proofs.lemmas.Bool.{eqb-true, false≢true}
use Rattle.kt_tuple.specs.declared.node.NodeId.{NodeId}
use Rattle.kt_tuple.specs.declared.node.NodeId.TheVariants.{Worker, Shard}
use Rattle.kt_tuple.specs.declared.op.Answer.{Answer}
use Rattle.kt_history.specs.declared.note.What.{What}
use Rattle.kt_history.specs.declared.note.What.TheVariants as whats
use Rattle.kt_ckpt.specs.declared.error.CkptError.{CkptError}
use Rattle.kt_ckpt.specs.Limits.{issue_code, repeat_code, heard_code, served_code, again_code}
use Rattle.kt_ckpt.specs.Limits.{accepted_code, ignored_code}
use Rattle.kt_ckpt.specs.Reading.{made}
use Rattle.kt_ckpt.specs.Op.{IsAnswer, answer_at}
use Rattle.kt_ckpt.specs.Acts.{is_done_by, what_code, answer_of, told_bytes}
use Rattle.kt_ckpt.specs.Acts.{is_code_for}
use Rattle.kt_ckpt.specs.Acts.{ignored_by, what_behind}
use Rattle.kt_ckpt.proofs.Field.{IsField, Lasts, the_ok}
use Rattle.kt_ckpt.proofs.Combined.{known, known_lasts, same_field, either, either_lasts, made_field, made_lasts}
use Rattle.kt_ckpt.proofs.Ops.{answer_field, answer_lasts}

-- ---- what was done

abbrev pub IsWhat : NodeId → ℕ → What → Type 0
IsWhat p code what = ((is_done_by p what ≡ true) × IfSome (answer_of what) IsAnswer) × (code ≡ what_code what)

abbrev pub answered : What → List ℕ
answered what = told_bytes (answer_of what)

done-issue : (p : NodeId) (code : ℕ) → is_code_for p code ≡ true → code ≡ issue_code → is_done_by p whats.Issue ≡ true
done-issue (Worker i) code h e = refl
done-issue (Shard i) code h e = absurd (false≢true (subst (λ (c : ℕ). is_code_for (Shard i) c ≡ true) e h))

is-issue : (p : NodeId) (code : ℕ) (x : What) → IsWhat p code x → code ≡ issue_code → whats.Issue ≡ x
is-issue p code whats.Issue h e = refl
is-issue p code whats.Repeat h e = absurd (omega (arith, h.1, e))
is-issue p code whats.Heard h e = absurd (omega (arith, h.1, e))
is-issue p code (whats.Served b) h e = absurd (omega (arith, h.1, e))
is-issue p code (whats.Again b) h e = absurd (omega (arith, h.1, e))
is-issue p code (whats.Accepted b) h e = absurd (omega (arith, h.1, e))
is-issue p code (whats.Ignored o) h e = absurd (omega (arith, h.1, e))

done-repeat : (p : NodeId) (code : ℕ) → is_code_for p code ≡ true → code ≡ repeat_code → is_done_by p whats.Repeat ≡ true
done-repeat (Worker i) code h e = refl
done-repeat (Shard i) code h e = absurd (false≢true (subst (λ (c : ℕ). is_code_for (Shard i) c ≡ true) e h))

is-repeat : (p : NodeId) (code : ℕ) (x : What) → IsWhat p code x → code ≡ repeat_code → whats.Repeat ≡ x
is-repeat p code whats.Issue h e = absurd (omega (arith, h.1, e))
is-repeat p code whats.Repeat h e = refl
is-repeat p code whats.Heard h e = absurd (omega (arith, h.1, e))
is-repeat p code (whats.Served b) h e = absurd (omega (arith, h.1, e))
is-repeat p code (whats.Again b) h e = absurd (omega (arith, h.1, e))
is-repeat p code (whats.Accepted b) h e = absurd (omega (arith, h.1, e))
is-repeat p code (whats.Ignored o) h e = absurd (omega (arith, h.1, e))

done-heard : (p : NodeId) (code : ℕ) → is_code_for p code ≡ true → code ≡ heard_code → is_done_by p whats.Heard ≡ true
done-heard (Worker i) code h e = absurd (false≢true (subst (λ (c : ℕ). is_code_for (Worker i) c ≡ true) e h))
done-heard (Shard i) code h e = refl

is-heard : (p : NodeId) (code : ℕ) (x : What) → IsWhat p code x → code ≡ heard_code → whats.Heard ≡ x
is-heard p code whats.Issue h e = absurd (omega (arith, h.1, e))
is-heard p code whats.Repeat h e = absurd (omega (arith, h.1, e))
is-heard p code whats.Heard h e = refl
is-heard p code (whats.Served b) h e = absurd (omega (arith, h.1, e))
is-heard p code (whats.Again b) h e = absurd (omega (arith, h.1, e))
is-heard p code (whats.Accepted b) h e = absurd (omega (arith, h.1, e))
is-heard p code (whats.Ignored o) h e = absurd (omega (arith, h.1, e))

done-served : (p : NodeId) (code : ℕ) (a : Answer) → is_code_for p code ≡ true → code ≡ served_code → is_done_by p (whats.Served a) ≡ true
done-served (Worker i) code a h e = absurd (false≢true (subst (λ (c : ℕ). is_code_for (Worker i) c ≡ true) e h))
done-served (Shard i) code a h e = refl

from-served : (p : NodeId) (code : ℕ) (x : What) → IsWhat p code x → code ≡ served_code → (a : Answer) × (IsAnswer a × (whats.Served a ≡ x))
from-served p code whats.Issue h e = absurd (omega (arith, h.1, e))
from-served p code whats.Repeat h e = absurd (omega (arith, h.1, e))
from-served p code whats.Heard h e = absurd (omega (arith, h.1, e))
from-served p code (whats.Served b) h e = (b, (h.0.1, refl))
from-served p code (whats.Again b) h e = absurd (omega (arith, h.1, e))
from-served p code (whats.Accepted b) h e = absurd (omega (arith, h.1, e))
from-served p code (whats.Ignored o) h e = absurd (omega (arith, h.1, e))

done-again : (p : NodeId) (code : ℕ) (a : Answer) → is_code_for p code ≡ true → code ≡ again_code → is_done_by p (whats.Again a) ≡ true
done-again (Worker i) code a h e = absurd (false≢true (subst (λ (c : ℕ). is_code_for (Worker i) c ≡ true) e h))
done-again (Shard i) code a h e = refl

from-again : (p : NodeId) (code : ℕ) (x : What) → IsWhat p code x → code ≡ again_code → (a : Answer) × (IsAnswer a × (whats.Again a ≡ x))
from-again p code whats.Issue h e = absurd (omega (arith, h.1, e))
from-again p code whats.Repeat h e = absurd (omega (arith, h.1, e))
from-again p code whats.Heard h e = absurd (omega (arith, h.1, e))
from-again p code (whats.Served b) h e = absurd (omega (arith, h.1, e))
from-again p code (whats.Again b) h e = (b, (h.0.1, refl))
from-again p code (whats.Accepted b) h e = absurd (omega (arith, h.1, e))
from-again p code (whats.Ignored o) h e = absurd (omega (arith, h.1, e))

done-accepted : (p : NodeId) (code : ℕ) (a : Answer) → is_code_for p code ≡ true → code ≡ accepted_code → is_done_by p (whats.Accepted a) ≡ true
done-accepted (Worker i) code a h e = refl
done-accepted (Shard i) code a h e = absurd (false≢true (subst (λ (c : ℕ). is_code_for (Shard i) c ≡ true) e h))

from-accepted : (p : NodeId) (code : ℕ) (x : What) → IsWhat p code x → code ≡ accepted_code → (a : Answer) × (IsAnswer a × (whats.Accepted a ≡ x))
from-accepted p code whats.Issue h e = absurd (omega (arith, h.1, e))
from-accepted p code whats.Repeat h e = absurd (omega (arith, h.1, e))
from-accepted p code whats.Heard h e = absurd (omega (arith, h.1, e))
from-accepted p code (whats.Served b) h e = absurd (omega (arith, h.1, e))
from-accepted p code (whats.Again b) h e = absurd (omega (arith, h.1, e))
from-accepted p code (whats.Accepted b) h e = (b, (h.0.1, refl))
from-accepted p code (whats.Ignored o) h e = absurd (omega (arith, h.1, e))

-- past the others it is what is ignored
past : (b r : Bool) → b ≡ false → cond b true r ≡ true → r ≡ true
past b r e h = subst (λ (x : Bool). cond x true r ≡ true) e h

left-ignored : (p : NodeId) (code : ℕ) → is_code_for p code ≡ true → eqb code issue_code ≡ false → eqb code repeat_code ≡ false → eqb code heard_code ≡ false
    → eqb code served_code ≡ false → eqb code again_code ≡ false → eqb code accepted_code ≡ false → code ≡ ignored_code
left-ignored (Worker i) code h a b c d e f =
    eqb-true code ignored_code (past _ _ f (past _ _ b (past _ _ a h)))
left-ignored (Shard i) code h a b c d e f =
    eqb-true code ignored_code (past _ _ e (past _ _ d (past _ _ c h)))

ignored-field : (p : NodeId) (code : ℕ) → code ≡ ignored_code → IsField answered (IsWhat p code) (ignored_by p)
ignored-field (Worker i) code e =
    made_field answer_field (λ a. whats.Ignored (Some a)) answered (IsWhat (Worker i) code) (λ a h. refl) (λ a h. ((refl, h), e)) from
  where
    from : (x : What) → IsWhat (Worker i) code x → (a : Answer) × (IsAnswer a × (whats.Ignored (Some a) ≡ x))
    from whats.Issue h = absurd (omega (arith, h.1, e))
    from whats.Repeat h = absurd (omega (arith, h.1, e))
    from whats.Heard h = absurd (omega (arith, h.1, e))
    from (whats.Served b) h = absurd (omega (arith, h.1, e))
    from (whats.Again b) h = absurd (omega (arith, h.1, e))
    from (whats.Accepted b) h = absurd (omega (arith, h.1, e))
    from (whats.Ignored None) h = absurd (false≢true h.0.0)
    from (whats.Ignored (Some b)) h = (b, (h.0.1, refl))
ignored-field (Shard i) code e =
    same_field (known (whats.Ignored None)) answered (IsWhat (Shard i) code)
    (λ x same. subst (IsWhat (Shard i) code) same ((refl, tt), e)) from (λ x same. subst (λ (y : What). [] ≡ answered y) same refl)
  where
    from : (x : What) → IsWhat (Shard i) code x → whats.Ignored None ≡ x
    from whats.Issue h = absurd (omega (arith, h.1, e))
    from whats.Repeat h = absurd (omega (arith, h.1, e))
    from whats.Heard h = absurd (omega (arith, h.1, e))
    from (whats.Served b) h = absurd (omega (arith, h.1, e))
    from (whats.Again b) h = absurd (omega (arith, h.1, e))
    from (whats.Accepted b) h = absurd (omega (arith, h.1, e))
    from (whats.Ignored None) h = refl
    from (whats.Ignored (Some b)) h = absurd (false≢true h.0.0)

ignored-lasts : (p : NodeId) → Lasts (ignored_by p)
ignored-lasts (Worker i) = let l = made_lasts (λ a. whats.Ignored (Some a)) answer_lasts in record { goes_on = l.goes_on }
ignored-lasts (Shard i) = let l = known_lasts (whats.Ignored None) in record { goes_on = l.goes_on }

abbrev past_accepted : NodeId → ℕ → List ℕ → Result (What × List ℕ) CkptError
past_accepted p code bytes = ignored_by p bytes

abbrev past_again : NodeId → ℕ → List ℕ → Result (What × List ℕ) CkptError
past_again p code bytes = cond (eqb code accepted_code) (made whats.Accepted (answer_at bytes)) (past_accepted p code bytes)

abbrev past_served : NodeId → ℕ → List ℕ → Result (What × List ℕ) CkptError
past_served p code bytes = cond (eqb code again_code) (made whats.Again (answer_at bytes)) (past_again p code bytes)

abbrev past_heard : NodeId → ℕ → List ℕ → Result (What × List ℕ) CkptError
past_heard p code bytes = cond (eqb code served_code) (made whats.Served (answer_at bytes)) (past_served p code bytes)

abbrev past_repeat : NodeId → ℕ → List ℕ → Result (What × List ℕ) CkptError
past_repeat p code bytes = cond (eqb code heard_code) (the_ok (whats.Heard, bytes)) (past_heard p code bytes)

abbrev past_issue : NodeId → ℕ → List ℕ → Result (What × List ℕ) CkptError
past_issue p code bytes = cond (eqb code repeat_code) (the_ok (whats.Repeat, bytes)) (past_repeat p code bytes)

pub what_field : (p : NodeId) (code : ℕ) → is_code_for p code ≡ true → IsField answered (IsWhat p code) (what_behind p code)
unfolding what_behind
what_field p code h =
    let f = either (λ bytes. the_ok (whats.Issue, bytes)) (past_issue p code) (eqb code issue_code)
    (λ q. same_field (known whats.Issue) answered (IsWhat p code)
    (λ x same. subst (IsWhat p code) same ((done-issue p code h (eqb-true code issue_code q), tt), eqb-true code issue_code q))
    (λ x g. is-issue p code x g (eqb-true code issue_code q))
    (λ x same. subst (λ (y : What). [] ≡ answered y) same refl))
    (λ a. either (λ bytes. the_ok (whats.Repeat, bytes)) (past_repeat p code) (eqb code repeat_code)
    (λ q. same_field (known whats.Repeat) answered (IsWhat p code)
    (λ x same. subst (IsWhat p code) same ((done-repeat p code h (eqb-true code repeat_code q), tt), eqb-true code repeat_code q))
    (λ x g. is-repeat p code x g (eqb-true code repeat_code q))
    (λ x same. subst (λ (y : What). [] ≡ answered y) same refl))
    (λ b. either (λ bytes. the_ok (whats.Heard, bytes)) (past_heard p code) (eqb code heard_code)
    (λ q. same_field (known whats.Heard) answered (IsWhat p code)
    (λ x same. subst (IsWhat p code) same ((done-heard p code h (eqb-true code heard_code q), tt), eqb-true code heard_code q))
    (λ x g. is-heard p code x g (eqb-true code heard_code q))
    (λ x same. subst (λ (y : What). [] ≡ answered y) same refl))
    (λ c. either (λ bytes. made whats.Served (answer_at bytes)) (past_served p code) (eqb code served_code)
    (λ q. made_field answer_field whats.Served answered (IsWhat p code) (λ x g. refl)
    (λ x g. ((done-served p code x h (eqb-true code served_code q), g), eqb-true code served_code q))
    (λ x g. from-served p code x g (eqb-true code served_code q)))
    (λ d. either (λ bytes. made whats.Again (answer_at bytes)) (past_again p code) (eqb code again_code)
    (λ q. made_field answer_field whats.Again answered (IsWhat p code) (λ x g. refl)
    (λ x g. ((done-again p code x h (eqb-true code again_code q), g), eqb-true code again_code q))
    (λ x g. from-again p code x g (eqb-true code again_code q)))
    (λ e. either (λ bytes. made whats.Accepted (answer_at bytes)) (past_accepted p code) (eqb code accepted_code)
    (λ q. made_field answer_field whats.Accepted answered (IsWhat p code) (λ x g. refl)
    (λ x g. ((done-accepted p code x h (eqb-true code accepted_code q), g), eqb-true code accepted_code q))
    (λ x g. from-accepted p code x g (eqb-true code accepted_code q)))
    (λ f. ignored-field p code (left-ignored p code h a b c d e f))))))) in
    record { again = f.again; takes = f.takes }

pub what_lasts : (p : NodeId) (code : ℕ) → Lasts (what_behind p code)
unfolding what_behind
what_lasts p code =
    let l = either_lasts (λ bytes. the_ok (whats.Issue, bytes)) (past_issue p code) (eqb code issue_code) (known_lasts whats.Issue)
    (either_lasts (λ bytes. the_ok (whats.Repeat, bytes)) (past_repeat p code) (eqb code repeat_code) (known_lasts whats.Repeat)
    (either_lasts (λ bytes. the_ok (whats.Heard, bytes)) (past_heard p code) (eqb code heard_code) (known_lasts whats.Heard)
    (either_lasts (λ bytes. made whats.Served (answer_at bytes)) (past_served p code) (eqb code served_code) (made_lasts whats.Served answer_lasts)
    (either_lasts (λ bytes. made whats.Again (answer_at bytes)) (past_again p code) (eqb code again_code) (made_lasts whats.Again answer_lasts)
    (either_lasts (λ bytes. made whats.Accepted (answer_at bytes)) (past_accepted p code) (eqb code accepted_code) (made_lasts whats.Accepted answer_lasts)
    (ignored-lasts p)))))) in
    record { goes_on = l.goes_on }
