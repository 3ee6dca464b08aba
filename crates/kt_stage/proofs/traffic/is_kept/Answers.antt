use Rattle.std.proofs.Common.{sym, ◌∙◌, arith}
use Rattle.kt_core.specs.Lent.{kept}
use Rattle.kt_stage.specs.Traffic.{is_kept_of}
use Rattle.kt_stage.proofs.Finding.{found_here, none_at_all, none_so_far}
use Rattle.kt_stage.proofs.traffic.is_kept.Goals as goal

pub returns-then-is_kept_at : goal.returns-then-is_kept_at
returns-then-is_kept_at g c =
    let here = sym c.is_kept_at.ensures ∙ c.if-is_kept_at.true in
    sym (found_here (is_kept_of c.args.from c.args.number) (kept c.args.world.now.state c.args.node) c.loop-index.index here)

pub loop-index-preserved : goal.loop-index-preserved
loop-index-preserved g c =
    none_so_far (is_kept_of c.args.from c.args.number) (kept c.args.world.now.state c.args.node) c.loop-index.index c.loop-index.invariant
    (sym c.is_kept_at.ensures ∙ c.if-is_kept_at.false)

pub returns : goal.returns
returns g c =
    let le = c.loop-index-test.false in
    let n = c.kept_len-index-end.ensures in
    sym (none_at_all (is_kept_of c.args.from c.args.number) (kept c.args.world.now.state c.args.node) c.loop-index.index c.loop-index.invariant
    (omega (arith, le, n)))
