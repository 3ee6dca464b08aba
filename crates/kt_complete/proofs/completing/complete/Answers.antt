use Rattle.kt_complete.proofs.Answered.{same_store}
use Rattle.kt_complete.proofs.completing.complete.Goals as goal

pub returns-in-Err-clause-stopped : goal.returns-in-Err-clause-stopped
returns-in-Err-clause-stopped g c = record {
  new = c.go_on.new.world;
  steps = c.go_on.new.steps.items;
  store = same_store _ _ _ _ _ _ c.into_store.ensures.content c.into_store.ensures.honest c.into_store.ensures.counts;
  went = c.go_on.ensures.went;
  why = c.in-Err.ensures.ended;
}
