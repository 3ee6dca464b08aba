-- Operations and answers of format 1 are fields.
-- Cited by OldStates, OldWorkers.
use Rattle.std.proofs.Common.{◌≡◌, ℕ, ◌<◌, true, false, cond, eqb, List, [], Result, Ok, refl, sym, subst, arith}
use Rattle.std.proofs.lemmas.Bool.{eqb-true, eqb-false}
use Rattle.kt_tuple.specs.declared.value.Value.{Value}
use Rattle.kt_tuple.specs.declared.template.Place.{Place}
use Rattle.kt_tuple.specs.declared.op.Op.{Op}
use Rattle.kt_tuple.specs.declared.op.Op.TheVariants.{Out, In, Rd, Inp, Rdp}
use Rattle.kt_tuple.specs.declared.op.Answer.{Answer}
use Rattle.kt_tuple.specs.declared.op.Answer.TheVariants as answers
use Rattle.kt_ckpt.specs.declared.error.CkptError.{CkptError}
use Rattle.kt_ckpt.specs.declared.error.CkptError.TheVariants.{Field}
use Rattle.kt_ckpt.specs.Limits.{out_code, in_code, rd_code, inp_code, rdp_code, done_code, got_code, none_code}
use Rattle.kt_ckpt.specs.OldLimits.{is_old_op, is_old_answer}
use Rattle.kt_ckpt.specs.OldParts.{old_tuple_at, old_template_at, old_op_behind, old_op_at, old_answer_behind, old_answer_at}
use Rattle.kt_ckpt.specs.Reading.{made}
use Rattle.kt_ckpt.specs.Op.{IsOp, op_code, behind_op_code, op_bytes, IsAnswer, answer_code, behind_answer_code, answer_bytes}
use Rattle.kt_ckpt.proofs.Field.{IsField, Lasts}
use Rattle.kt_ckpt.proofs.Combined.{known, known_lasts, fault, refused, refused_lasts, same_field, either, either_lasts, behind, behind_lasts, made_field}
use Rattle.kt_ckpt.proofs.Combined.{made_lasts}
use Rattle.kt_ckpt.proofs.OldFields.{IsOldTuple, IsOldTemplate, old_tuple_field, old_tuple_lasts, old_template_field, old_template_lasts}
use Rattle.kt_ckpt.proofs.Ops.{coded}
use Rattle.kt_ckpt.proofs.Primitive.{byte_field, byte_lasts}

-- ---- operations

abbrev pub IsOldOp : Op → Type 0
IsOldOp op = IsOp op × (is_old_op op ≡ true)

abbrev IsOpBehind : ℕ → Op → Type 0
IsOpBehind code op = IsOldOp op × (code ≡ op_code op)

out_from : (op : Op) → IsOpBehind out_code op → (u : List Value) × (IsOldTuple u × (Out u ≡ op))
out_from (Out u) h = (u, (h.0, refl))
out_from (In t) h = absurd (omega (arith, h.1))
out_from (Rd t) h = absurd (omega (arith, h.1))
out_from (Inp t) h = absurd (omega (arith, h.1))
out_from (Rdp t) h = absurd (omega (arith, h.1))

in_from : (op : Op) → IsOpBehind in_code op → (t : List Place) × (IsOldTemplate t × (In t ≡ op))
in_from (Out u) h = absurd (omega (arith, h.1))
in_from (In t) h = (t, (h.0, refl))
in_from (Rd t) h = absurd (omega (arith, h.1))
in_from (Inp t) h = absurd (omega (arith, h.1))
in_from (Rdp t) h = absurd (omega (arith, h.1))

rd_from : (op : Op) → IsOpBehind rd_code op → (t : List Place) × (IsOldTemplate t × (Rd t ≡ op))
rd_from (Out u) h = absurd (omega (arith, h.1))
rd_from (In t) h = absurd (omega (arith, h.1))
rd_from (Rd t) h = (t, (h.0, refl))
rd_from (Inp t) h = absurd (omega (arith, h.1))
rd_from (Rdp t) h = absurd (omega (arith, h.1))

inp_from : (op : Op) → IsOpBehind inp_code op → (t : List Place) × (IsOldTemplate t × (Inp t ≡ op))
inp_from (Out u) h = absurd (omega (arith, h.1))
inp_from (In t) h = absurd (omega (arith, h.1))
inp_from (Rd t) h = absurd (omega (arith, h.1))
inp_from (Inp t) h = (t, (h.0, refl))
inp_from (Rdp t) h = absurd (omega (arith, h.1))

rdp_from : (op : Op) → IsOpBehind rdp_code op → (t : List Place) × (IsOldTemplate t × (Rdp t ≡ op))
rdp_from (Out u) h = absurd (omega (arith, h.1))
rdp_from (In t) h = absurd (omega (arith, h.1))
rdp_from (Rd t) h = absurd (omega (arith, h.1))
rdp_from (Inp t) h = absurd (omega (arith, h.1))
rdp_from (Rdp t) h = (t, (h.0, refl))

no_op : (code : ℕ) (op : Op) → eqb code out_code ≡ false → eqb code in_code ≡ false → eqb code rd_code ≡ false → eqb code inp_code ≡ false
    → eqb code rdp_code ≡ false → (IsOpBehind code op → ⊥)
no_op code (Out u) a b c d e h = eqb-false code out_code a h.1
no_op code (In t) a b c d e h = eqb-false code in_code b h.1
no_op code (Rd t) a b c d e h = eqb-false code rd_code c h.1
no_op code (Inp t) a b c d e h = eqb-false code inp_code d h.1
no_op code (Rdp t) a b c d e h = eqb-false code rdp_code e h.1

abbrev out_at : List ℕ → Result (Op × List ℕ) CkptError
out_at bytes = made Out (old_tuple_at bytes)

abbrev with_template : (List Place → Op) → List ℕ → Result (Op × List ℕ) CkptError
with_template make bytes = made make (old_template_at bytes)

abbrev from_rdp : ℕ → List ℕ → Result (Op × List ℕ) CkptError
from_rdp code bytes = cond (eqb code rdp_code) (with_template Rdp bytes) (fault Field bytes)

abbrev from_inp : ℕ → List ℕ → Result (Op × List ℕ) CkptError
from_inp code bytes = cond (eqb code inp_code) (with_template Inp bytes) (from_rdp code bytes)

abbrev from_rd : ℕ → List ℕ → Result (Op × List ℕ) CkptError
from_rd code bytes = cond (eqb code rd_code) (with_template Rd bytes) (from_inp code bytes)

abbrev from_in : ℕ → List ℕ → Result (Op × List ℕ) CkptError
from_in code bytes = cond (eqb code in_code) (with_template In bytes) (from_rd code bytes)

old_op_behind_field : (code : ℕ) → IsField behind_op_code (IsOpBehind code) (old_op_behind code)
unfolding old_op_behind
old_op_behind_field code =
    let f = coded IsOpBehind out_at (from_in code) code out_code (made_field old_tuple_field Out behind_op_code (IsOpBehind out_code) (λ u h. refl)
    (λ u h. (h, refl)) out_from)
    (λ a. coded IsOpBehind (with_template In) (from_rd code) code in_code
    (made_field old_template_field In behind_op_code (IsOpBehind in_code) (λ t h. refl) (λ t h. (h, refl)) in_from)
    (λ b. coded IsOpBehind (with_template Rd) (from_inp code) code rd_code
    (made_field old_template_field Rd behind_op_code (IsOpBehind rd_code) (λ t h. refl) (λ t h. (h, refl)) rd_from)
    (λ c. coded IsOpBehind (with_template Inp) (from_rdp code) code inp_code
    (made_field old_template_field Inp behind_op_code (IsOpBehind inp_code) (λ t h. refl) (λ t h. (h, refl)) inp_from)
    (λ d. coded IsOpBehind (with_template Rdp) (fault Field) code rdp_code
    (made_field old_template_field Rdp behind_op_code (IsOpBehind rdp_code) (λ t h. refl) (λ t h. (h, refl)) rdp_from)
    (λ e. refused behind_op_code (IsOpBehind code) Field (λ op. no_op code op a b c d e)))))) in
    record { again = f.again; takes = f.takes }

old_op_behind_lasts : (code : ℕ) → Lasts (old_op_behind code)
unfolding old_op_behind
old_op_behind_lasts code =
    let l = either_lasts out_at (from_in code) (eqb code out_code) (made_lasts Out old_tuple_lasts)
    (either_lasts (with_template In) (from_rd code) (eqb code in_code) (made_lasts In old_template_lasts)
    (either_lasts (with_template Rd) (from_inp code) (eqb code rd_code) (made_lasts Rd old_template_lasts)
    (either_lasts (with_template Inp) (from_rdp code) (eqb code inp_code) (made_lasts Inp old_template_lasts)
    (either_lasts (with_template Rdp) (fault Field) (eqb code rdp_code) (made_lasts Rdp old_template_lasts) (refused_lasts Field))))) in
    record { goes_on = l.goes_on }

op_code_is_byte : (op : Op) → op_code op < 256
op_code_is_byte (Out u) = omega arith
op_code_is_byte (In t) = omega arith
op_code_is_byte (Rd t) = omega arith
op_code_is_byte (Inp t) = omega arith
op_code_is_byte (Rdp t) = omega arith

pub old_op_field : IsField op_bytes IsOldOp old_op_at
unfolding old_op_at
old_op_field =
    let f = behind byte_field op_code behind_op_code IsOldOp old_op_behind (λ op h. op_code_is_byte op) (λ code lt. old_op_behind_field code) in
    record { again = f.again; takes = f.takes }

pub old_op_lasts : Lasts old_op_at
unfolding old_op_at
old_op_lasts = let l = behind_lasts old_op_behind byte_lasts old_op_behind_lasts in record { goes_on = l.goes_on }

-- ---- answers

abbrev pub IsOldAnswer : Answer → Type 0
IsOldAnswer answer = IsAnswer answer × (is_old_answer answer ≡ true)

abbrev IsAnswerBehind : ℕ → Answer → Type 0
IsAnswerBehind code answer = IsOldAnswer answer × (code ≡ answer_code answer)

done_is : (answer : Answer) → IsAnswerBehind done_code answer → answers.Done ≡ answer
done_is answers.Done h = refl
done_is (answers.Got u) h = absurd (omega (arith, h.1))
done_is answers.None h = absurd (omega (arith, h.1))

none_is : (answer : Answer) → IsAnswerBehind none_code answer → answers.None ≡ answer
none_is answers.Done h = absurd (omega (arith, h.1))
none_is (answers.Got u) h = absurd (omega (arith, h.1))
none_is answers.None h = refl

got_from : (answer : Answer) → IsAnswerBehind got_code answer → (u : List Value) × (IsOldTuple u × (answers.Got u ≡ answer))
got_from answers.Done h = absurd (omega (arith, h.1))
got_from (answers.Got u) h = (u, (h.0, refl))
got_from answers.None h = absurd (omega (arith, h.1))

no_answer : (code : ℕ) (answer : Answer) → eqb code done_code ≡ false → eqb code got_code ≡ false → eqb code none_code ≡ false
    → (IsAnswerBehind code answer → ⊥)
no_answer code answers.Done a b c h = eqb-false code done_code a h.1
no_answer code (answers.Got u) a b c h = eqb-false code got_code b h.1
no_answer code answers.None a b c h = eqb-false code none_code c h.1

abbrev bare_at : Answer → List ℕ → Result (Answer × List ℕ) CkptError
bare_at answer bytes = Ok (answer, bytes)

abbrev got_at : List ℕ → Result (Answer × List ℕ) CkptError
got_at bytes = made answers.Got (old_tuple_at bytes)

abbrev from_none : ℕ → List ℕ → Result (Answer × List ℕ) CkptError
from_none code bytes = cond (eqb code none_code) (bare_at answers.None bytes) (fault Field bytes)

abbrev from_got : ℕ → List ℕ → Result (Answer × List ℕ) CkptError
from_got code bytes = cond (eqb code got_code) (got_at bytes) (from_none code bytes)

done_field : IsField behind_answer_code (IsAnswerBehind done_code) (bare_at answers.Done)
done_field = same_field (known answers.Done) behind_answer_code (IsAnswerBehind done_code)
    (λ x e. subst (IsAnswerBehind done_code) e ((tt, refl), refl)) done_is
    (λ x e. subst (λ (x : Answer). [] ≡ behind_answer_code x) e refl)

none_field : IsField behind_answer_code (IsAnswerBehind none_code) (bare_at answers.None)
none_field = same_field (known answers.None) behind_answer_code (IsAnswerBehind none_code)
    (λ x e. subst (IsAnswerBehind none_code) e ((tt, refl), refl)) none_is
    (λ x e. subst (λ (x : Answer). [] ≡ behind_answer_code x) e refl)

old_answer_behind_field : (code : ℕ) → IsField behind_answer_code (IsAnswerBehind code) (old_answer_behind code)
unfolding old_answer_behind
old_answer_behind_field code =
    let f = coded IsAnswerBehind (bare_at answers.Done) (from_got code) code done_code done_field
    (λ a. coded IsAnswerBehind got_at (from_none code) code got_code
    (made_field old_tuple_field answers.Got behind_answer_code (IsAnswerBehind got_code) (λ u h. refl) (λ u h. (h, refl)) got_from)
    (λ b. coded IsAnswerBehind (bare_at answers.None) (fault Field) code none_code none_field
    (λ c. refused behind_answer_code (IsAnswerBehind code) Field (λ answer. no_answer code answer a b c)))) in
    record { again = f.again; takes = f.takes }

old_answer_behind_lasts : (code : ℕ) → Lasts (old_answer_behind code)
unfolding old_answer_behind
old_answer_behind_lasts code =
    let l = either_lasts (bare_at answers.Done) (from_got code) (eqb code done_code) (known_lasts answers.Done)
    (either_lasts got_at (from_none code) (eqb code got_code) (made_lasts answers.Got old_tuple_lasts)
    (either_lasts (bare_at answers.None) (fault Field) (eqb code none_code) (known_lasts answers.None) (refused_lasts Field))) in
    record { goes_on = l.goes_on }

answer_code_is_byte : (answer : Answer) → answer_code answer < 256
answer_code_is_byte answers.Done = omega arith
answer_code_is_byte (answers.Got u) = omega arith
answer_code_is_byte answers.None = omega arith

pub old_answer_field : IsField answer_bytes IsOldAnswer old_answer_at
unfolding old_answer_at
old_answer_field =
    let f = behind byte_field answer_code behind_answer_code IsOldAnswer old_answer_behind
    (λ x h. answer_code_is_byte x) (λ code lt. old_answer_behind_field code) in
    record { again = f.again; takes = f.takes }

pub old_answer_lasts : Lasts old_answer_at
unfolding old_answer_at
old_answer_lasts = let l = behind_lasts old_answer_behind byte_lasts old_answer_behind_lasts in record { goes_on = l.goes_on }
