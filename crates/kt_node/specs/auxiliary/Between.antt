-- What the code has in hand between two parts of a plan.
-- Cited by joining.rt.
use Rattle.std.specs.Prelude.{List, ◌++◌}
use Rattle.kt_tuple.specs.declared.node.NodeId.{NodeId}
use Rattle.kt_vote.specs.Poll.{Poll}
use Rattle.kt_state.specs.declared.message.Message.{Message}
use Rattle.kt_state.specs.Node.{Live}
use Rattle.kt_state.specs.Voting.{casting, poll_after, votes}
use Rattle.kt_state.specs.Asking.{check_asks}

-- the ballot behind the vote that its node has to cast now, if it has to, and what a node sends that is held with it
abbrev pub held_ballot : Live → Poll → Poll × List (NodeId × Message)
held_ballot n b = (poll_after b (casting b), check_asks b.instance n b.asked ++ votes (casting b))
