use Rattle.std.proofs.Common.{[]}
use Rattle.kt_sql_tables.proofs.StateLemmas.{query_leaves, query_stays, query_refused_stays, query_open}
use Rattle.kt_sql_tables.proofs.opened.ask.Goals as goal

pub returns-in-Ok-clause-looks : goal.returns-in-Ok-clause-looks
returns-in-Ok-clause-looks g c = record {
  clean = c.query_all.ensures.survives.clean;
  mode = c.query_all.ensures.mode;
  stays = λ clean _. query_stays c.args.sql.now [] _ _ c.in-Ok.rows.items c.requires (c.in-Ok.ensures.ok clean);
  leaves = query_leaves c.args.sql.now [] _ _ c.requires c.query_all.ensures.survives;
}

pub returns-in-Ok-clause-is_open : goal.returns-in-Ok-clause-is_open
returns-in-Ok-clause-is_open g c clean = query_open c.args.sql.now [] _ _ c.in-Ok.rows.items (c.in-Ok.ensures.ok clean)

pub returns-in-Err-clause-looks : goal.returns-in-Err-clause-looks
returns-in-Err-clause-looks g c = record {
  clean = c.query_all.ensures.survives.clean;
  mode = c.query_all.ensures.mode;
  stays = λ clean is_open. query_refused_stays c.args.sql.now [] _ _ c.in-Err.error (c.in-Err.ensures.err clean) is_open;
  leaves = query_leaves c.args.sql.now [] _ _ c.requires c.query_all.ensures.survives;
}
