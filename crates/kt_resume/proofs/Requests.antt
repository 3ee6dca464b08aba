-- Requests that are one, and the answer that is kept of one.
-- Cited by `CachedReplyEntry::equals`, `RequestEntry::equals`, `Slot::answers_again`, `Slot::ignores`,
--   `Slot::waits_with`, `suits::are_same`.
use Rattle.std.proofs.Common.{◌≡◌, ℕ, ◌≤◌, Bool, true, false, not, Option, Some, None, Bor, is_some, refl, sym, ap, subst, ◌∙◌, eq-eqb, eqb-true, Decides}
use Rattle.std.specs.Prelude.{◌==◌, ◌↔◌, IsTrue}
use Rattle.std.specs.Option.{option_copied}
use Rattle.std.proofs.lemmas.Bool.{false≢true, and_from, and_parts}
use Rattle.std.proofs.lemmas.Option.{same_Some}
use Rattle.kt_tuple.specs.declared.op.Answer.{Answer}
use Rattle.kt_tuple.specs.declared.op.Op.{Op}
use Rattle.kt_tuple.specs.Op.{answer_eq, answer_eq_decides, op_eq, op_eq_decides}
use Rattle.kt_shard.specs.declared.request.Request.{Request}
use Rattle.kt_shard.specs.declared.request.CachedReply.{CachedReply}
use Rattle.kt_shard.specs.declared.session.Session.{Session}
use Rattle.kt_shard.specs.Session.{cached_answer, newest, same_request}
use Rattle.kt_logs.specs.ShardLog.{AnswersAgain, Ignores}
use Rattle.kt_model.proofs.ShardPlans.{cached_answer-is, cached_answer-none}

pub same_request_decides : (a b : Request) → Decides (same_request a b) (a ≡ b)
same_request_decides a b = (
  λ e.
      let both = and_parts (a.number == b.number) (op_eq a.op b.op) e in
      let n : a.number ≡ b.number = eqb-true a.number b.number both.0 in
      let o : a.op ≡ b.op = (op_eq_decides a.op b.op).0 both.1 in
      λ i. record { number = n i; op = o i },
  λ e.
      and_from (a.number == b.number) (op_eq a.op b.op) (eq-eqb a.number b.number (ap (λ (r : Request). r.number) e))
      ((op_eq_decides a.op b.op).1 (ap (λ (r : Request). r.op) e)),
)

-- two of one number are one where their operations are
pub request_eq : (a b : Request) (same : Bool) → a.number ≡ b.number → same ≡ op_eq a.op b.op → IsTrue same ↔ (a ≡ b)
request_eq a b same n e = (
  λ h. let o : a.op ≡ b.op = (op_eq_decides a.op b.op).0 (sym e ∙ h) in λ i. record { number = n i; op = o i },
  λ is. e ∙ (op_eq_decides a.op b.op).1 (ap (λ (r : Request). r.op) is),
)

-- two answers that are kept of one request
pub cached_eq : (a b : CachedReply) (same : Bool) → a.request ≡ b.request → same ≡ answer_eq a.answer b.answer → IsTrue same ↔ (a ≡ b)
cached_eq a b same n e = (
  λ h. let o : a.answer ≡ b.answer = (answer_eq_decides a.answer b.answer).0 (sym e ∙ h) in λ i. record { request = n i; answer = o i },
  λ is. e ∙ (answer_eq_decides a.answer b.answer).1 (ap (λ (k : CachedReply). k.answer) is),
)

-- two operations, where there are two
pub ops_same : (o p : Option Op) (a b : Op) (same : Bool) → o ≡ Some a → p ≡ Some b → same ≡ op_eq a b → IsTrue same ↔ (o ≡ p)
ops_same o p a b same one other e = (
  λ h. one ∙ ap (λ x. Some x) ((op_eq_decides a b).0 (sym e ∙ h)) ∙ sym other,
  λ is. e ∙ (op_eq_decides a b).1 (same_Some a b (sym one ∙ is ∙ other)),
)

-- a worker that waits with a request waits with this one just where both are one
pub waits_is : (waiting : Option Request) (request other : Request) (same : Bool) → waiting ≡ Some request → same ≡ same_request request other
    → IsTrue same ↔ (waiting ≡ Some other)
waits_is waiting request other same is e = (
  λ yes. is ∙ ap (λ r. Some r) ((same_request_decides request other).0 (sym e ∙ yes)),
  λ waits. e ∙ (same_request_decides request other).1 (same_Some request other (sym is ∙ waits)),
)

-- ---- the answer that is kept

cached_once : (d : Session) (request : Request) (x y : Answer) → AnswersAgain request x d → AnswersAgain request y d → x ≡ y
cached_once d request x y a b =
    let one = same_Some (record { request = request; answer = x }) (record { request = request; answer = y }) (sym a.1 ∙ b.1) in
    ap (λ (k : CachedReply). k.answer) one

pub again_some : (d : Session) (request : Request) (cached answer : Answer) (same : Bool) → Some cached ≡ cached_answer d request
    → same ≡ answer_eq cached answer
    → IsTrue same ↔ AnswersAgain request answer d
again_some d request cached answer same found is = (
  λ yes. cached_answer-is d request answer (sym found ∙ ap (λ a. Some a) ((answer_eq_decides cached answer).0 (sym is ∙ yes))),
  λ again. is ∙ (answer_eq_decides cached answer).1 (cached_once d request cached answer (cached_answer-is d request cached (sym found)) again),
)

pub again_none : (d : Session) (request : Request) (answer : Answer) → None ≡ cached_answer d request → IsTrue false ↔ AnswersAgain request answer d
again_none d request answer found = (λ h. absurd (false≢true h), λ again. absurd (cached_answer-none d request (sym found) answer again))

-- what is not new is ignored just where no answer to it is kept
pub ignored : (d : Session) (request : Request) (o : Option (Bor Answer)) (none : Bool) → option_copied o ≡ cached_answer d request → is_some o ≡ not none
    → request.number ≤ newest d → IsTrue none ↔ Ignores request d
ignored d request None true e s le = (λ _. (le, cached_answer-none d request (sym e)), λ _. refl)
ignored d request None false e s le = absurd (false≢true s)
ignored d request (Some x) none e s le = (
  λ h. let apart : true ≡ false = s ∙ ap not h in absurd (false≢true (sym apart)),
  λ h. absurd (h.1 x.now (cached_answer-is d request x.now (sym e))),
)
