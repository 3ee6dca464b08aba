-- The order of nodes: first the workers, then the shards, each by their numbers.
-- Cited by Asked, Before, ballot.rt, laws.rt, specs/auxiliary/Asked, `Ballot::ask`; other crates.
use Rattle.std.specs.Prelude.{List, AllPairs, IsTrue}
use Rattle.kt_tuple.specs.declared.node.NodeId.{NodeId}
use Rattle.kt_tuple.specs.Node.{is_before}

-- a comes before b
abbrev pub IsBefore : NodeId → NodeId → Type 0
IsBefore a b = IsTrue (is_before a b)

-- each comes before all later ones, so none stands twice
abbrev pub IsInOrder : List NodeId → Type 0
IsInOrder nodes = AllPairs IsBefore nodes
