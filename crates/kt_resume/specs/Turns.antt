-- Lists of acts that are left: whose they are, how many, and that they are what these nodes did next.
-- Cited by Founds, Turned, placing.rt, `placing::place_all`.
use Rattle.std.specs.Prelude.{◌≡◌, ◌≢◌, ℕ, ◌+◌, List, [], ◌∷◌, length, map, drop}
use Rattle.std.specs.List.{AllByRecursion}
use Rattle.kt_tuple.specs.declared.node.NodeId.{NodeId}
use Rattle.kt_history.specs.declared.note.Note.{Note}
use Rattle.kt_history.specs.Log.{log}
use Rattle.kt_model.specs.Placing.{Acts}
use Rattle.kt_resume.specs.Unplaced.{Left}

-- the nodes whose acts these are
abbrev pub nodes_in : List Left → List NodeId
nodes_in logs = map (λ (x : Left). x.node) logs

-- how many acts are left
unfoldable pub count_left : List Left → ℕ
count_left [] = 0
count_left (x ∷ later) = length x.acts + count_left later

-- each list is what the node did behind its log
abbrev pub AreLeft : Acts → List Note → List Left → Type 0
AreLeft acts h [] = Unit {0}
AreLeft acts h (x ∷ later) = (x.acts ≡ drop (length (log h x.node)) (acts x.node)) × AreLeft acts h later

-- no node stands twice
abbrev pub AreApart : List NodeId → Type 0
AreApart [] = Unit {0}
AreApart (p ∷ later) = AllByRecursion (λ q. q ≢ p) later × AreApart later
