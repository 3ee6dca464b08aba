use Rattle.kt_shard.specs.Session.{empty_session}
use Rattle.kt_shard.proofs.Tables.{at-put_other}
use Rattle.kt_shard.proofs.Again.{heard-others, heard-tuples}
use Rattle.kt_shard.proofs.laws.other_sessions_stay.Goals as goal

pub returns : goal.returns
returns c = record {
  heard = heard-others;
  served = λ y worker v s other. at-put_other empty_session y.sessions worker v _ other;
  tuples = heard-tuples;
}
