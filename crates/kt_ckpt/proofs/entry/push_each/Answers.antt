use Rattle.std.proofs.Common.{subst, ◌∷◌, []}
use Rattle.std.proofs.lemmas.List.Elements.{All-more}
use Rattle.kt_ckpt.specs.State.{entry_bytes}
use Rattle.kt_ckpt.proofs.Loop.{both_appended, appended}
use Rattle.kt_ckpt.proofs.entry.push_each.Goals as goal

pub loop-entry-preserved : goal.loop-entry-preserved
loop-entry-preserved g c =
    let x = c.entry-item.result in
    record {
      written = appended (entry_bytes g.E.Entry.spelled) c.args.entries.now c.loop-entry.entry-index x _ _ _ c.loop-entry-test.true c.entry-item.is
          c.loop-entry.invariant.written
          (both_appended _ _ _ (x.0 ∷ []) (g.E.Entry.spelled x.1) c.in_ok-push.ensures.items c.in_ok-push_to.ensures.ok);
      held = All-more (λ x. g.E.Entry.is_spelled x.1) c.args.entries.now c.loop-entry.entry-index x c.loop-entry-test.true c.loop-entry.invariant.held
          (subst (λ x. g.E.Entry.is_spelled x.1) c.entry-item.is c.in_ok-push_to.ensures.held);
    }
