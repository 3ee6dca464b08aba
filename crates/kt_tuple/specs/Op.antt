-- When two operations, answers or services are one, as tests that compute.
-- Cited by equality.rt, op.rt; other crates.
use Rattle.std.specs.Prelude.{◌≡◌, ℕ, Bool, true, false, refl, ◌&&◌, nat_eq}
use Rattle.std.specs.Cmp.{unsigned_Decides}
use Rattle.std.proofs.lemmas.Bool.{and_parts, and_from}
use Rattle.kt_tuple.specs.declared.service.Service.{Service}
use Rattle.std.specs.Bool.{Decides}
use Rattle.std.specs.Cmp.Lexicographic.{pointwise, pointwise_decides}
use Rattle.std.proofs.Common.{ap, ◌∙◌}
use Rattle.kt_tuple.specs.declared.tuple.Tuple.{Tuple}
use Rattle.kt_tuple.specs.declared.template.Template.{Template}
use Rattle.kt_tuple.specs.declared.op.Op.{Op}
use Rattle.kt_tuple.specs.declared.op.Op.TheVariants.{Out, In, Rd, Inp, Rdp}
use Rattle.kt_tuple.specs.declared.op.Answer.{Answer}
use Rattle.kt_tuple.specs.declared.op.Answer.TheVariants as answers
use Rattle.kt_tuple.specs.Equality.{value_eq, value_eq_decides}
use Rattle.kt_tuple.specs.Matching.{place_eq, place_eq_decides}

abbrev pub tuple_eq : Tuple → Tuple → Bool
tuple_eq u v = pointwise value_eq u v

abbrev pub template_eq : Template → Template → Bool
template_eq t s = pointwise place_eq t s

abbrev pub op_eq : Op → Op → Bool
op_eq (Out u) (Out v) = tuple_eq u v
op_eq (In t) (In s) = template_eq t s
op_eq (Rd t) (Rd s) = template_eq t s
op_eq (Inp t) (Inp s) = template_eq t s
op_eq (Rdp t) (Rdp s) = template_eq t s
op_eq _ _ = false

abbrev pub answer_eq : Answer → Answer → Bool
answer_eq answers.Done answers.Done = true
answer_eq (answers.Got u) (answers.Got v) = tuple_eq u v
answer_eq answers.None answers.None = true
answer_eq _ _ = false

pub tuple_eq_decides : (u v : Tuple) → Decides (tuple_eq u v) (u ≡ v)
tuple_eq_decides u v = pointwise_decides value_eq_decides u v

pub template_eq_decides : (t s : Template) → Decides (template_eq t s) (t ≡ s)
template_eq_decides t s = pointwise_decides place_eq_decides t s

pub op_eq_decides : (a b : Op) → Decides (op_eq a b) (a ≡ b)
op_eq_decides (Out u) (Out v) =
    (λ e. ap Out ((tuple_eq_decides u v).0 e), λ (e : Out u ≡ Out v). (tuple_eq_decides u v).1 cc)
op_eq_decides (In t) (In s) =
    (λ e. ap In ((template_eq_decides t s).0 e), λ (e : In t ≡ In s). (template_eq_decides t s).1 cc)
op_eq_decides (Rd t) (Rd s) =
    (λ e. ap Rd ((template_eq_decides t s).0 e), λ (e : Rd t ≡ Rd s). (template_eq_decides t s).1 cc)
op_eq_decides (Inp t) (Inp s) =
    (λ e. ap Inp ((template_eq_decides t s).0 e), λ (e : Inp t ≡ Inp s). (template_eq_decides t s).1 cc)
op_eq_decides (Rdp t) (Rdp s) =
    (λ e. ap Rdp ((template_eq_decides t s).0 e), λ (e : Rdp t ≡ Rdp s). (template_eq_decides t s).1 cc)
op_eq_decides _ _ = (λ e. absurd cc, λ e. absurd cc)

pub answer_eq_decides : (a b : Answer) → Decides (answer_eq a b) (a ≡ b)
answer_eq_decides answers.Done answers.Done = (λ _. refl, λ _. refl)
answer_eq_decides (answers.Got u) (answers.Got v) = (
  λ e. ap answers.Got ((tuple_eq_decides u v).0 e),
  λ (e : answers.Got u ≡ answers.Got v). (tuple_eq_decides u v).1 cc,
)
answer_eq_decides answers.None answers.None = (λ _. refl, λ _. refl)
answer_eq_decides _ _ = (λ e. absurd cc, λ e. absurd cc)

abbrev pub service_eq : Service → Service → Bool
service_eq a b =
    nat_eq a.worker b.worker && (nat_eq a.number b.number && (op_eq a.op b.op && answer_eq a.answer b.answer))

pub service_eq_decides : (a b : Service) → Decides (service_eq a b) (a ≡ b)
service_eq_decides a b = (
  λ e.
      let first = and_parts _ _ e in
      let second = and_parts _ _ first.1 in
      let third = and_parts _ _ second.1 in
      let worker = (unsigned_Decides a.worker b.worker).0 first.0 in
      let number = (unsigned_Decides a.number b.number).0 second.0 in
      let op = (op_eq_decides a.op b.op).0 third.0 in
      let answer = (answer_eq_decides a.answer b.answer).0 third.1 in
      let of : ℕ → ℕ → Op → Answer → Service = λ w n o x. record { worker = w; number = n; op = o; answer = x } in
      ap (λ w. of w a.number a.op a.answer) worker ∙ ap (λ n. of b.worker n a.op a.answer) number
      ∙ ap (λ o. of b.worker b.number o a.answer) op ∙ ap (of b.worker b.number b.op) answer,
  λ e.
      and_from _ _ ((unsigned_Decides a.worker b.worker).1 (ap (λ (s : Service). s.worker) e))
      (and_from _ _ ((unsigned_Decides a.number b.number).1 (ap (λ (s : Service). s.number) e))
      (and_from _ _ ((op_eq_decides a.op b.op).1 (ap (λ (s : Service). s.op) e))
      ((answer_eq_decides a.answer b.answer).1 (ap (λ (s : Service). s.answer) e)))),
)
