-- What was found of one node.
-- Cited by Founds, found.rt.
use Rattle.std.specs.Prelude.{List, Option}
use Rattle.std.specs.List.{find}
use Rattle.kt_tuple.specs.declared.node.NodeId.{NodeId}
use Rattle.kt_tuple.specs.Node.{node_eq}
use Rattle.kt_resume.specs.declared.found.Found.{Found}

-- what was found of the node, if anything was
abbrev pub found_of : List Found → NodeId → Option Found
found_of found p = find (λ (f : Found). node_eq f.node p) found
