use Rattle.std.proofs.Common.{◌≡◌, ◌<◌, ◌≤◌, ◌∙◌, refl, List, ℕ, Some, None, false, true, sym, ap, subst, get_or, length, arith}
use Rattle.std.specs.Option.{option_copied}
use Rattle.std.proofs.lemmas.List.{take_all}
use Rattle.kt_history.specs.declared.note.Act.{Act}
use Rattle.kt_history.specs.Closed.{act_of}
use Rattle.kt_history.specs.Log.{log, note_at}
use Rattle.kt_resume.proofs.Senses.{AreCaused, caused-more, caused-none, caused-sense, not-sense}
use Rattle.kt_resume.specs.auxiliary.Sense.{CauseFits}
use Rattle.kt_resume.proofs.sense.makes_sense.Goals as goal
use Rattle.kt_resume.proofs.sense.makes_sense.Goals.{in-Some+else-not-has_cause, in_default}

pub loop-number-init : goal.loop-number-init
loop-number-init c = caused-none c.args.history.now.notes

pub loop-number-preserved : goal.loop-number-preserved
loop-number-preserved c =
    let h = c.args.history.now.notes in
    let xs = log h c.args.node in
    let i = c.loop-number.number-index in
    let items : c.line-number-items.result.now ≡ xs = c.line-number-items.ensures in
    let lt : i < length xs = let below = c.loop-number-test.true in let long = ap (λ (l : List ℕ). length l) items in omega (arith, below, long) in
    let found = ap (λ (l : List ℕ). act_of (note_at h (get_or l i 0))) (sym items) ∙ sym c.act.ensures in
    elim c.match-act.branch [
      | in-Some+else-not-has_cause w ↦
          let is : act_of (note_at h (get_or xs i 0)) ≡ Some w.in-Some.act.now = found ∙ ap option_copied w.in-Some.is in
          let fits : CauseFits h w.in-Some.act.now w.in-Some.act.now.what = w.has_cause.ensures.0 w.if-not-has_cause.false in
          caused-more h xs i lt c.loop-number.invariant (λ a same.
          let both : Some w.in-Some.act.now ≡ Some a = sym is ∙ same in
          let one : w.in-Some.act.now ≡ a = cc (both) in
          subst (λ (b : Act). CauseFits h b b.what) one fits)
      | in_default w ↦
          let is : act_of (note_at h (get_or xs i 0)) ≡ None = ap (λ (l : List ℕ). act_of (note_at h (get_or l i 0))) (sym items) ∙ sym w.in_default.ensures in
          caused-more h xs i lt c.loop-number.invariant (λ a same. let both : None ≡ Some a = sym is ∙ same in absurd (cc (both)))
    ]

pub returns-then-not-has_cause : goal.returns-then-not-has_cause
returns-then-not-has_cause c = λ setting first legal.
    let h = c.args.history.now.notes in
    let xs = log h c.args.node in
    let i = c.loop-number.number-index in
    let items : c.line-number-items.result.now ≡ xs = c.line-number-items.ensures in
    let lt : i < length xs = let below = c.loop-number-test.true in let long = ap (λ (l : List ℕ). length l) items in omega (arith, below, long) in
    let is : act_of (note_at h (get_or xs i 0)) ≡ Some c.in-Some.act.now =
    ap (λ (l : List ℕ). act_of (note_at h (get_or l i 0))) (sym items) ∙ sym c.act.ensures ∙ ap option_copied c.in-Some.is in (
      λ t. absurd (cc (t)),
      λ sense. absurd (not-sense h c.args.node i c.in-Some.act.now first lt is
          (λ fits. let t = c.has_cause.ensures.1 fits in let apart : false ≡ true = sym c.if-not-has_cause.true ∙ t in absurd (cc (apart))) sense),
    )

pub returns : goal.returns
returns c = λ setting first legal.
    let h = c.args.history.now.notes in
    let xs = log h c.args.node in
    let i = c.loop-number.number-index in
    let items : c.line-number-items.result.now ≡ xs = c.line-number-items.ensures in
    let past : length xs ≤ i = let over = c.loop-number-test.false in let long = ap (λ (l : List ℕ). length l) items in omega (arith, over, long) in
    (λ t. caused-sense setting h c.args.node first legal (subst (AreCaused h) (take_all i xs past) c.loop-number.invariant), λ sense. refl)
