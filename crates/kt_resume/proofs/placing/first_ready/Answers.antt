use Rattle.std.proofs.Common.{◌≡◌, ℕ, suc, ◌+◌, ◌<◌, ◌≤◌, Option, Some, None, true, refl, sym, ap, ◌∙◌, arith, drop, length, slice_get}
use Rattle.std.specs.Prelude.{is_some, IsTrue}
use Rattle.std.proofs.lemmas.Option.{slice_get_read}
use Rattle.kt_history.specs.declared.note.Note.{Note}
use Rattle.kt_resume.specs.Unplaced.{Left}
use Rattle.kt_resume.specs.auxiliary.Next.{first_in, next_in, next_at}
use Rattle.kt_resume.proofs.Turned.{first-found, first-none, first-skips, none-found}
use Rattle.kt_resume.proofs.placing.first_ready.Goals as goal

pub returns-then-is_ready-clause-first : goal.returns-then-is_ready-clause-first
returns-then-is_ready-clause-first c =
    let logs = c.args.logs.now in
    let h = c.args.history.now.notes in
    let at_is : slice_get logs c.loop-at.at ≡ Some c.index-logs-at.result =
    slice_get_read logs (length logs) c.loop-at.at c.index-logs-at.result refl c.loop-at-test.true c.index-logs-at.is in
    let some : IsTrue (is_some (next_in h c.index-logs-at.result)) = sym c.is_ready.ensures ∙ c.if-is_ready.true in
    sym c.loop-at.invariant ∙ first-found h logs c.loop-at.at c.index-logs-at.result at_is some ∙ ap (next_at h) (sym at_is)

pub returns-then-is_ready-clause-ready : goal.returns-then-is_ready-clause-ready
returns-then-is_ready-clause-ready c =
    let logs = c.args.logs.now in
    let h = c.args.history.now.notes in
    let at_is : slice_get logs c.loop-at.at ≡ Some c.index-logs-at.result =
    slice_get_read logs (length logs) c.loop-at.at c.index-logs-at.result refl c.loop-at-test.true c.index-logs-at.is in
    let some : IsTrue (is_some (next_in h c.index-logs-at.result)) = sym c.is_ready.ensures ∙ c.if-is_ready.true in
    ap (λ (o : Option Left). is_some (next_at h o)) at_is ∙ some

pub loop-at-preserved : goal.loop-at-preserved
loop-at-preserved c =
    let logs = c.args.logs.now in
    let h = c.args.history.now.notes in
    let at_is : slice_get logs c.loop-at.at ≡ Some c.index-logs-at.result =
    slice_get_read logs (length logs) c.loop-at.at c.index-logs-at.result refl c.loop-at-test.true c.index-logs-at.is in
    let none : next_in h c.index-logs-at.result ≡ None = none-found (next_in h c.index-logs-at.result) (sym c.is_ready.ensures ∙ c.if-is_ready.false) in
    let one : c.loop-at.at + 1 ≡ suc c.loop-at.at = omega arith in
    ap (λ n. first_in h (drop n logs)) one ∙ sym (first-skips h logs c.loop-at.at c.index-logs-at.result at_is none) ∙ c.loop-at.invariant

pub returns-clause-none : goal.returns-clause-none
returns-clause-none c = λ e.
    sym c.loop-at.invariant
    ∙ first-none c.args.history.now.notes c.args.logs.now c.loop-at.at (let past = c.loop-at-test.false in omega (arith, past))
