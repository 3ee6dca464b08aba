-- Votes: what a node has to vote by what it knows, and to whom.
-- Cited by voting.rt; other crates.
use Rattle.std.specs.Prelude.{ℕ, Bool, true, false, List, [], ◌∷◌, Option, None, Some}
use Rattle.kt_tuple.specs.declared.node.NodeId.{NodeId}
use Rattle.kt_vote.specs.declared.asker.Asker.{Asker}
use Rattle.kt_vote.specs.declared.vote.Vote.{Vote}
use Rattle.kt_vote.specs.Poll.{Poll, outcome_of}
use Rattle.kt_state.specs.declared.message.Message.{Message}
use Rattle.kt_state.specs.declared.message.Message.TheVariants as messages

-- the vote that answers an ask: it repeats the incarnation in which the asker asked
abbrev pub vote_for : ℕ → Asker → Bool → NodeId × Vote
vote_for instance asker agreed =
    (asker.node, record { instance = instance; incarnation = asker.incarnation; yes = agreed })

-- a participant that has not voted votes no as soon as one refused, and yes when nothing is awaited; who began the
-- instance never does
abbrev pub casting_to : Poll → Asker → Option Bool → Option (NodeId × Vote)
casting_to b parent None = None
casting_to b parent (Some agreed) = Some (vote_for b.instance parent agreed)

abbrev pub casting_unless : Bool → Poll → Asker → Option (NodeId × Vote)
casting_unless true b parent = None
casting_unless false b parent = casting_to b parent (outcome_of b)

abbrev pub casting_of : Poll → Option Asker → Option (NodeId × Vote)
casting_of b None = None
casting_of b (Some parent) = casting_unless b.voted b parent

abbrev pub casting : Poll → Option (NodeId × Vote)
casting b = casting_of b b.parent

-- the node has voted
abbrev pub voted : Poll → Poll
voted b = record b { voted = true }

-- its ballot behind the vote that it had to cast, if it had to, and the message
abbrev pub poll_after : Poll → Option (NodeId × Vote) → Poll
poll_after b None = b
poll_after b (Some vote) = voted b

abbrev pub votes : Option (NodeId × Vote) → List (NodeId × Message)
votes None = []
votes (Some vote) = (vote.0, messages.Vote vote.1) ∷ []
