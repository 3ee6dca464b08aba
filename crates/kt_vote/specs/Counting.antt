-- What a ballot has counted of all votes that came, told from these votes alone.
-- Cited by After, Asked, Told, ballot.rt, laws.rt.
use Rattle.std.specs.Prelude.{◌≡◌, Bool, false, not, ◌&&◌, List, [], ◌∷◌, filter, Option, Some, None}
use Rattle.std.specs.List.{find, list_any}
use Rattle.std.specs.Option.{option_map, is_none}
use Rattle.kt_tuple.specs.declared.node.NodeId.{NodeId}
use Rattle.kt_tuple.specs.Node.{node_eq}
use Rattle.kt_vote.specs.declared.vote.Vote.{Vote}
use Rattle.kt_vote.specs.Poll.{Poll, heard, is_on}

-- the vote is the node's, of the ballot's instance and incarnation
abbrev pub is_for : Poll → NodeId → NodeId × Vote → Bool
is_for b node v = is_on b v.1 && node_eq node v.0

-- what the node said to this ballot: its first vote for it, if one came
abbrev pub said : Poll → List (NodeId × Vote) → NodeId → Option Bool
said b votes node = option_map (λ v. v.1.yes) (find (is_for b node) votes)

abbrev pub is_no : Option Bool → Bool
is_no None = false
is_no (Some agrees) = not agrees

-- these votes came, whichever they are, and the ballot has counted of them the first for it of each node that it
-- asked: it awaits those that said nothing, and is refused where one of them said no
pub record IsAfter (votes : List (NodeId × Vote)) (b : Poll) : Type 0 where
  pub awaited : b.awaited ≡ filter (λ x. is_none (said b votes x)) b.asked
  pub refused : b.refused ≡ list_any (λ x. is_no (said b votes x)) b.asked

-- what votes that come one after the other make of a ballot
unfoldable pub after : Poll → List (NodeId × Vote) → Poll
after b [] = b
after b (v ∷ later) = after (heard b v.0 v.1) later
