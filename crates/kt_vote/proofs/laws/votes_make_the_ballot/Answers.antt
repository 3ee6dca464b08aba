use Rattle.std.proofs.Common.{[]}
use Rattle.kt_vote.proofs.After.{all_told, after_complete, after_refused}
use Rattle.kt_vote.proofs.laws.votes_make_the_ballot.Goals as goal

pub returns : goal.returns
returns c = record {
  counted = λ b votes h. all_told b [] votes h;
  complete = after_complete;
  refused = after_refused;
}
