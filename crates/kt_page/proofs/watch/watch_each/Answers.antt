use Rattle.std.proofs.Common.{◌≡◌, ◌<◌, ◌≤◌, ◌+◌, ◌++◌, List, [], ℕ, false, true, drop, get_or, length, sym, ap, ◌∙◌, arith}
use Rattle.std.proofs.lemmas.List.{get_or_default}
use Rattle.kt_tuple.specs.declared.node.NodeId.TheVariants.{Worker}
use Rattle.kt_scenario.specs.declared.step.Step.{Step}
use Rattle.kt_scenario.specs.declared.step.Step.TheVariants.{Issue}
use Rattle.kt_trace.specs.declared.traced.Traced.{Traced}
use Rattle.kt_trace.specs.Rows.{trace_from}
use Rattle.kt_trace.specs.auxiliary.Entries.{is_end}
use Rattle.kt_page.proofs.Watching.{no_line}
use Rattle.kt_trace.proofs.Going.{behind_all, behind_last, behind_more, traced_all, traced_last, traced_more}
use Rattle.kt_page.proofs.watch.watch_each.Goals as goal

pub loop-place-preserved : goal.loop-place-preserved
loop-place-preserved c =
    let steps = c.args.steps.now in
    let lines : List ℕ = [] in
    let i = c.loop-place.place in
    let s = c.loop-place.world.state in
    let new = c.trace_step.new.world.state in
    let entry = c.in_ok-entry.entry in
    let step : Step = get_or steps i (Issue (Worker 0)) in
    let within : i < length steps = omega arith in
    let at : step ≡ get_or steps i step = get_or_default steps i (Issue (Worker 0)) step within in
    let more : is_end entry ≡ false = sym c.ends-is_end.ensures ∙ c.if-is_end.false in
    record {
      honest = c.in_ok-entry.ensures.honest;
      so_far = ap (λ (xs : List Traced). xs ++ trace_from lines (i + 1 + 1) new (drop (i + 1) steps)) c.in_ok-push.ensures.items
          ∙ traced_more lines i 0 s new steps step entry c.loop-place.entries.items _ within at (no_line i)
          c.in_ok-entry.ensures.entry more c.in_ok-entry.ensures.next c.loop-place.invariant.so_far;
      leads = behind_more i 0 s new steps step entry _ within at c.in_ok-entry.ensures.entry more c.in_ok-entry.ensures.next
          c.loop-place.invariant.leads;
    }

pub returns-then-is_end : goal.returns-then-is_end
returns-then-is_end c =
    let steps = c.args.steps.now in
    let lines : List ℕ = [] in
    let i = c.loop-place.place in
    let s = c.loop-place.world.state in
    let new = c.trace_step.new.world.state in
    let entry = c.in_ok-entry.entry in
    let step : Step = get_or steps i (Issue (Worker 0)) in
    let within : i < length steps = omega arith in
    let at : step ≡ get_or steps i step = get_or_default steps i (Issue (Worker 0)) step within in
    let end : is_end entry ≡ true = sym c.ends-is_end.ensures ∙ c.if-is_end.true in
    record {
      entries = c.in_ok-push.ensures.items
          ∙ traced_last lines i 0 s steps step entry c.loop-place.entries.items _ within at (no_line i)
          c.in_ok-entry.ensures.entry end c.loop-place.invariant.so_far;
      world = behind_last i 0 s new steps step entry _ within at c.in_ok-entry.ensures.entry end c.in_ok-entry.ensures.next
          c.loop-place.invariant.leads;
    }

pub returns-in_ok-note-3 : goal.returns-in_ok-note-3
returns-in_ok-note-3 c =
    let steps = c.args.steps.now in
    let past : length steps ≤ c.loop-place.place = omega arith in
    record {
      entries = traced_all [] c.loop-place.place c.loop-place.world.state steps c.loop-place.entries.items _ past
          c.loop-place.invariant.so_far;
      world = behind_all c.loop-place.place c.loop-place.world.state steps _ past c.loop-place.invariant.leads;
    }

pub returns-else-first-saturating_add : goal.returns-else-first-saturating_add
returns-else-first-saturating_add c =
    let steps = c.args.steps.now in
    let past : length steps ≤ c.loop-place.place = omega arith in
    record {
      entries = traced_all [] c.loop-place.place c.loop-place.world.state steps c.loop-place.entries.items _ past
          c.loop-place.invariant.so_far;
      world = behind_all c.loop-place.place c.loop-place.world.state steps _ past c.loop-place.invariant.leads;
    }
