use Rattle.kt_story.proofs.Splitting.{last_more, rows_more}
use Rattle.kt_story.proofs.story.split.Goals as goal

pub loop-entry-preserved : goal.loop-entry-preserved
loop-entry-preserved c = record {
  rows = rows_more c.args.rows.now.items c.loop-entry.rows.items c.put.new.rows.items c.loop-entry.yielded c.in-Some.entry
      c.loop-entry.invariant.rows c.in_ok-refused.ensures.rows;
  refused = last_more c.loop-entry.refused c.in_ok-refused.refused c.loop-entry.yielded c.in-Some.entry
      c.loop-entry.invariant.refused c.in_ok-refused.ensures.refused;
}
