use Rattle.kt_shard.proofs.Again.{served-session, served-again, served-heard, served-never_waits, heard-waits_once}
use Rattle.kt_shard.proofs.laws.a_served_request_is_answered_again.Goals as goal

pub returns : goal.returns
returns c = record {
  cached = served-session;
  again = served-again;
  same = served-heard;
  never_waits = served-never_waits;
  waits_once = heard-waits_once;
}
