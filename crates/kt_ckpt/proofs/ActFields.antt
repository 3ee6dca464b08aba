-- An act, in bytes.
-- Cited by Checkpoints, `act_bytes::acts_at`.
use Rattle.std.proofs.Common.{◌≡◌, ℕ, ◌<◌, ◌^◌, ◌&&◌, Bool, true, false, eqb, leb, List, ◌∷◌, ◌++◌, Result, Ok, Option, Some, None}
use Rattle.std.proofs.Common.{refl, sym, ap, ◌∙◌, arith}
use Rattle.std.specs.Prelude.{All, IfSome, not}
use Rattle.std.proofs.lemmas.List.Elements.{All-weaker}
use Rattle.std.specs.Int.{w64, to_be_bytes}
use Rattle.std.proofs.lemmas.Bool.{and_parts, and_from, eqb-true, leb-true, le-leb, false≢true}
use Rattle.kt_tuple.specs.declared.node.NodeId.{NodeId}
use Rattle.kt_tuple.specs.declared.node.NodeId.TheVariants.{Worker, Shard}
use Rattle.kt_tuple.specs.declared.op.Op.{Op}
use Rattle.kt_history.specs.declared.note.What.{What}
use Rattle.kt_history.specs.declared.note.What.TheVariants as whats
use Rattle.kt_ckpt.specs.declared.acts.LogAct.{LogAct}
use Rattle.kt_ckpt.specs.declared.error.CkptError.{CkptError}
use Rattle.kt_tuple.specs.declared.node.TheConstants.{MAX_WORKERS}
use Rattle.kt_ckpt.specs.Reading.{◌>>=◌, made, number_at, list_at}
use Rattle.kt_ckpt.specs.Node.{IsNode}
use Rattle.kt_ckpt.specs.Op.{op_bytes, op_at}
use Rattle.kt_ckpt.specs.Acts.{is_done_by, is_about, may_send, is_own_will, is_caused, IsActOf, what_code, answer_of, told_bytes, by_bytes}
use Rattle.kt_ckpt.specs.Acts.{act_bytes, IsSpelledAct, byte_such, is_code_for, is_own_code}
use Rattle.kt_ckpt.specs.Acts.{by_at, what_behind, act_at}
use Rattle.kt_ckpt.proofs.Field.{IsBytes, IsField, Lasts}
use Rattle.kt_ckpt.proofs.Combined.{behind, behind_lasts, made_field, made_lasts}
use Rattle.kt_ckpt.proofs.Primitive.{wide64, number_field, number_lasts, list_field}
use Rattle.kt_ckpt.proofs.Ops.{op_field, op_lasts}
use Rattle.kt_ckpt.proofs.ActCauses.{byte_such_field, byte_such_lasts, IsBy, by_field, by_lasts}
use Rattle.kt_ckpt.proofs.ActWhats.{what_field, what_lasts}

-- ---- an act

abbrev pub IsHeldAct : NodeId → LogAct → Type 0
IsHeldAct p a = IsActOf p a × IsSpelledAct a

abbrev act_of : ℕ → Option (NodeId × ℕ) → ℕ → Op → What → LogAct
act_of worker by number op what = record { by = by; worker = worker; number = number; op = op; what = what }

abbrev with_op : NodeId → ℕ → ℕ → Option (NodeId × ℕ) → ℕ → Op → List ℕ → Result (LogAct × List ℕ) CkptError
with_op p code worker by number op bytes = made (act_of worker by number op) (what_behind p code bytes)

abbrev with_number : NodeId → ℕ → ℕ → Option (NodeId × ℕ) → ℕ → List ℕ → Result (LogAct × List ℕ) CkptError
with_number p code worker by number bytes = op_at bytes >>= λ op. with_op p code worker by number op.0 op.1

abbrev with_by : NodeId → ℕ → ℕ → Option (NodeId × ℕ) → List ℕ → Result (LogAct × List ℕ) CkptError
with_by p code worker by bytes = number_at w64 bytes >>= λ number. with_number p code worker by number.0 number.1

abbrev with_worker : NodeId → ℕ → ℕ → List ℕ → Result (LogAct × List ℕ) CkptError
with_worker p code worker bytes = by_at p code worker bytes >>= λ by. with_by p code worker by.0 by.1

abbrev with_code : NodeId → ℕ → List ℕ → Result (LogAct × List ℕ) CkptError
with_code p code bytes = byte_such (is_about p) bytes >>= λ worker. with_worker p code worker.0 worker.1

abbrev from_op : LogAct → List ℕ
from_op a = op_bytes a.op ++ told_bytes (answer_of a.what)

abbrev from_number : LogAct → List ℕ
from_number a = to_be_bytes w64 a.number ++ from_op a

abbrev from_by : LogAct → List ℕ
from_by a = by_bytes a.by ++ from_number a

-- the code of what a node does is one of its kind
code-fits : (p : NodeId) (what : What) → is_done_by p what ≡ true → (what_code what < 256) × (is_code_for p (what_code what) ≡ true)
code-fits (Worker i) whats.Issue h = (omega arith, refl)
code-fits (Worker i) whats.Repeat h = (omega arith, refl)
code-fits (Worker i) whats.Heard h = absurd (false≢true h)
code-fits (Worker i) (whats.Served a) h = absurd (false≢true h)
code-fits (Worker i) (whats.Again a) h = absurd (false≢true h)
code-fits (Worker i) (whats.Accepted a) h = (omega arith, refl)
code-fits (Worker i) (whats.Ignored o) h = (omega arith, refl)
code-fits (Shard i) whats.Issue h = absurd (false≢true h)
code-fits (Shard i) whats.Repeat h = absurd (false≢true h)
code-fits (Shard i) whats.Heard h = (omega arith, refl)
code-fits (Shard i) (whats.Served a) h = (omega arith, refl)
code-fits (Shard i) (whats.Again a) h = (omega arith, refl)
code-fits (Shard i) (whats.Accepted a) h = absurd (false≢true h)
code-fits (Shard i) (whats.Ignored o) h = (omega arith, refl)

own-is : (what : What) → is_own_code (what_code what) ≡ is_own_will what
own-is whats.Issue = refl
own-is whats.Repeat = refl
own-is whats.Heard = refl
own-is (whats.Served a) = refl
own-is (whats.Again a) = refl
own-is (whats.Accepted a) = refl
own-is (whats.Ignored o) = refl

about-byte : (p : NodeId) → IsNode p → (worker : ℕ) → is_about p worker ≡ true → worker < 256
about-byte (Worker i) is worker h = let same = eqb-true worker i h in let few = is.1 in omega (arith, same, few)
about-byte (Shard i) is worker h =
    let le = leb-true worker MAX_WORKERS (and_parts (leb 1 worker) (leb worker MAX_WORKERS) h).1 in omega (arith, le)

not-true : (b : Bool) → not b ≡ true → b ≡ false
not-true true e = absurd (false≢true e)
not-true false e = refl

-- what is heard, by its code and by what was done
by-from : (p : NodeId) (code worker : ℕ) (what : What) (by : Option (NodeId × ℕ)) → code ≡ what_code what → IfSome by (λ x. x.1 < 2 ^ 64)
    → is_caused p worker what by ≡ true → IsBy p code worker by
by-from p code worker what None e low h = ap is_own_code e ∙ own-is what ∙ h
by-from p code worker what (Some by) e low h =
    let both = and_parts (not (is_own_will what)) (may_send p worker by.0 && leb 1 by.1) h in
    let two = and_parts (may_send p worker by.0) (leb 1 by.1) both.1 in
    (ap is_own_code e ∙ own-is what ∙ not-true (is_own_will what) both.0, (two.0, (leb-true 1 by.1 two.1, low)))

by-to : (p : NodeId) (code worker : ℕ) (what : What) (by : Option (NodeId × ℕ)) → code ≡ what_code what → IsBy p code worker by
    → (is_caused p worker what by ≡ true) × IfSome by (λ x. x.1 < 2 ^ 64)
by-to p code worker what None e h = (sym (own-is what) ∙ ap is_own_code (sym e) ∙ h, tt)
by-to p code worker what (Some by) e h =
    let will : is_own_will what ≡ false = sym (own-is what) ∙ ap is_own_code (sym e) ∙ h.0 in
    (and_from _ _ (ap (λ b. not b) will) (and_from _ _ h.1.0 (le-leb 1 by.1 h.1.1.0)), h.1.1.1)

-- the parts of the shape
shape : (p : NodeId) (a : LogAct) → IsActOf p a
    → (is_done_by p a.what ≡ true) × ((is_about p a.worker ≡ true) × (is_caused p a.worker a.what a.by ≡ true))
shape p a h =
    let one = and_parts (is_done_by p a.what) (is_about p a.worker && is_caused p a.worker a.what a.by) h in
    (one.0, and_parts (is_about p a.worker) (is_caused p a.worker a.what a.by) one.1)

act_is : (worker : ℕ) (by : Option (NodeId × ℕ)) (number : ℕ) (op : Op) (a : LogAct) → worker ≡ a.worker → by ≡ a.by → number ≡ a.number → op ≡ a.op
    → act_of worker by number op a.what ≡ a
act_is worker by number op a e f g h =
    ap (λ (w : ℕ). act_of w by number op a.what) e ∙ ap (λ (b : Option (NodeId × ℕ)). act_of a.worker b number op a.what) f
    ∙ ap (λ (n : ℕ). act_of a.worker a.by n op a.what) g ∙ ap (λ (o : Op). act_of a.worker a.by a.number o a.what) h

pub act_field : (p : NodeId) → IsNode p → IsField act_bytes (IsHeldAct p) (act_at p)
unfolding act_at
act_field p is =
    let f = behind (byte_such_field (is_code_for p)) (λ (a : LogAct). what_code a.what) (λ a. a.worker ∷ from_by a) (IsHeldAct p) (with_code p)
    (λ a h. code-fits p a.what (shape p a h.0).0)
    (λ code hc. behind (byte_such_field (is_about p)) (λ (a : LogAct). a.worker) from_by (λ a. IsHeldAct p a × (code ≡ what_code a.what)) (with_worker p code)
    (λ a h. let about = (shape p a h.0.0).1.0 in (about-byte p is a.worker about, about))
    (λ worker hw. behind (by_field p code worker hw.0) (λ (a : LogAct). a.by) from_number
    (λ a. (IsHeldAct p a × (code ≡ what_code a.what)) × (worker ≡ a.worker)) (with_by p code worker)
    (λ a h. by-from p code worker a.what a.by h.0.1 h.0.0.1.by
    (ap (λ (w : ℕ). is_caused p w a.what a.by) h.1 ∙ (shape p a h.0.0.0).1.1))
    (λ by hby. behind (number_field w64 (2 ^ 64) wide64) (λ (a : LogAct). a.number) from_op
    (λ a. ((IsHeldAct p a × (code ≡ what_code a.what)) × (worker ≡ a.worker)) × (by ≡ a.by)) (with_number p code worker by)
    (λ a h. h.0.0.0.1.number)
    (λ number hn. behind op_field (λ (a : LogAct). a.op) (λ a. told_bytes (answer_of a.what))
    (λ a. (((IsHeldAct p a × (code ≡ what_code a.what)) × (worker ≡ a.worker)) × (by ≡ a.by)) × (number ≡ a.number)) (with_op p code worker by number)
    (λ a h. h.0.0.0.0.1.op)
    (λ op ho. made_field (what_field p code hc.1) (act_of worker by number op) (λ a. told_bytes (answer_of a.what))
    (λ a. ((((IsHeldAct p a × (code ≡ what_code a.what)) × (worker ≡ a.worker)) × (by ≡ a.by)) × (number ≡ a.number)) × (op ≡ a.op))
    (λ what h. refl)
    (λ what h.
    let caused = by-to p code worker what by h.1 hby in (
      (
        (
          (
            (
              (and_from _ _ h.0.0 (and_from _ _ hw.1 caused.0), record { by = caused.1; number = hn; op = ho; answer = h.0.1 }),
              h.1,
            ),
            refl,
          ),
          refl,
        ),
        refl,
      ),
      refl,
    ))
    (λ a h. (
      a.what,
      (
        (((shape p a h.0.0.0.0.0.0).0, h.0.0.0.0.0.1.answer), h.0.0.0.0.1),
        act_is worker by number op a h.0.0.0.1 h.0.0.1 h.0.1 h.1,
      ),
    ))))))) in
    record { again = f.again; takes = f.takes }

pub act_lasts : (p : NodeId) → Lasts (act_at p)
unfolding act_at
act_lasts p =
    let l = behind_lasts (with_code p) (byte_such_lasts (is_code_for p))
    (λ code. behind_lasts (with_worker p code) (byte_such_lasts (is_about p))
    (λ worker. behind_lasts (with_by p code worker) (by_lasts p code worker)
    (λ by. behind_lasts (with_number p code worker by) (number_lasts w64)
    (λ number. behind_lasts (with_op p code worker by number) op_lasts
    (λ op. made_lasts (act_of worker by number op) (what_lasts p code)))))) in
    record { goes_on = l.goes_on }

-- so many acts that were read may stand in the log
pub shaped : (p : NodeId) → IsNode p → (n : ℕ) (bytes : List ℕ) → IsBytes bytes → (acts : List LogAct) (rest : List ℕ)
    → list_at (act_at p) n bytes ≡ Ok (acts, rest) → All (IsActOf p) acts
shaped p is n bytes fits acts rest e =
    All-weaker (IsHeldAct p) (IsActOf p) (λ a h. h.0) acts ((list_field (act_field p is) n).takes bytes acts rest fits e).1.1
