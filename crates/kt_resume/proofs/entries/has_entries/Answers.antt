use Rattle.std.proofs.Common.{◌≡◌, ◌∙◌, ◌+◌, ◌++◌, ◌<◌, ◌≤◌, ℕ, List, ap, sym, arith}
use Rattle.std.proofs.lemmas.Bool.{false≢true}
use Rattle.kt_state.proofs.Numbers.{flat_none}
use Rattle.kt_state.specs.State.{entry}
use Rattle.kt_shard.specs.Table.{at}
use Rattle.kt_tuple.specs.declared.node.TheConstants.{MAX_WORKERS}
use Rattle.kt_resume.specs.Remade.{empty_slot}
use Rattle.kt_resume.proofs.Listed.{empty_is, listed-apart, listed-end, listed-more}
use Rattle.kt_resume.proofs.entries.has_entries.Goals as goal

pub returns-in-None : goal.returns-in-None
returns-in-None g c =
    let f = λ (worker : ℕ). entry worker (g.E.Entry.entry_on (at empty_slot c.args.slots.now worker).session) in
    let n = c.loop-before.before in
    let rest = c.loop-before.rest.now in (
      λ h. absurd (false≢true h),
      λ e. absurd (listed-apart f n MAX_WORKERS c.args.listed.now rest c.loop-before-test.true c.loop-before.invariant
          (λ behind is. c.behind_entry.ensures.none c.in-None.is behind (is ∙ ap (λ o. entry (n + 1) o ++ behind) (sym c.entry_on_session.ensures))) e),
    )

pub loop-before-preserved : goal.loop-before-preserved
loop-before-preserved g c =
    let f = λ (worker : ℕ). entry worker (g.E.Entry.entry_on (at empty_slot c.args.slots.now worker).session) in
    let n = c.loop-before.before in
    let behind = c.in-Some.behind.now in
    listed-more f n c.args.listed.now c.loop-before.rest.now behind c.loop-before.invariant
    (c.in-Some.ensures.some ∙ ap (λ o. entry (n + 1) o ++ behind) c.entry_on_session.ensures)

pub returns : goal.returns
returns g c =
    let f = λ (worker : ℕ). entry worker (g.E.Entry.entry_on (at empty_slot c.args.slots.now worker).session) in
    let past = c.loop-before-test.false in
    let within = c.loop-before.auto.before-end in
    listed-end f c.loop-before.before MAX_WORKERS c.args.listed.now c.loop-before.rest.now c.is_empty.result (omega (arith, within)) (omega (arith, past))
    c.loop-before.invariant (empty_is c.loop-before.rest.now c.is_empty.result c.is_empty.ensures)

pub loop-before-init : goal.loop-before-init
loop-before-init g c =
    let f = λ (worker : ℕ). entry worker (g.E.Entry.entry_on (at empty_slot c.args.slots.now worker).session) in
    ap (λ l. l ++ c.args.listed.now) (sym (flat_none f 1))
