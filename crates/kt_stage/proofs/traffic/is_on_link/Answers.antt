use Rattle.std.proofs.Common.{sym, ◌∙◌, arith}
use Rattle.kt_model.specs.State.{link}
use Rattle.kt_stage.specs.Traffic.{is_sought}
use Rattle.kt_stage.proofs.Finding.{found_here, none_at_all, none_so_far}
use Rattle.kt_stage.proofs.traffic.is_on_link.Goals as goal

pub returns-then-is_met_at : goal.returns-then-is_met_at
returns-then-is_met_at g c =
    let here = sym c.is_met_at.ensures ∙ c.if-is_met_at.true in
    sym (found_here (is_sought c.args.sought) (link c.args.world.now.state c.args.from c.args.to) c.loop-index.index here)

pub loop-index-preserved : goal.loop-index-preserved
loop-index-preserved g c =
    none_so_far (is_sought c.args.sought) (link c.args.world.now.state c.args.from c.args.to) c.loop-index.index c.loop-index.invariant
    (sym c.is_met_at.ensures ∙ c.if-is_met_at.false)

pub returns : goal.returns
returns g c =
    let le = c.loop-index-test.false in
    let n = c.link_len-index-end.ensures in
    sym (none_at_all (is_sought c.args.sought) (link c.args.world.now.state c.args.from c.args.to) c.loop-index.index c.loop-index.invariant
    (omega (arith, le, n)))
