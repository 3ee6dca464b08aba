-- What a stage is closed with: a seat for each node, which keeps the receipts of just the node's steps.
-- Cited by Seats, Unmatched, closing.rt, specs/auxiliary/Midway, `closing::first_unmatched`, `closing::is_matched`.
use Rattle.std.specs.Prelude.{◌≡◌, ◌≢◌, ℕ, ◌+◌, Bool, not, IsTrue, List, [], ◌∷◌, All, filter, find, flat_map}
use Rattle.std.specs.Prelude.{Option, None, Some}
use Rattle.std.specs.List.{list_any}
use Rattle.kt_tuple.specs.declared.node.NodeId.{NodeId}
use Rattle.kt_tuple.specs.Node.{node_eq, is_before}
use Rattle.kt_scenario.specs.declared.step.Step.{Step}
use Rattle.kt_stage.specs.declared.closing.CloseError.{CloseError}
use Rattle.kt_stage.specs.declared.closing.CloseError.TheVariants as refusals
use Rattle.kt_stage.specs.declared.seat.Receipt.{Receipt}
use Rattle.kt_stage.specs.Journal.{Held, receipt, receipts_of}

-- the seats of one node
abbrev pub seats_of : NodeId → List Held → List Held
seats_of p seats = filter (λ seat. node_eq p seat.node) seats

abbrev pub has_seat : List Held → NodeId → Bool
has_seat seats p = list_any (λ seat. node_eq p seat.node) seats

-- the seat of a node that keeps the receipts of just the node's steps, each with its place in the journal
abbrev pub full_seat : List Step → NodeId → Held
full_seat steps p = record { node = p; receipts = receipts_of p 1 steps }

-- the node has one seat, and that keeps the receipts of just the node's steps
abbrev pub IsMatched : List Step → List Held → NodeId → Type 0
IsMatched steps seats p = seats_of p seats ≡ full_seat steps p ∷ []

-- each of these seats is of a node that is matched; or this is the first of their nodes, in node order, that is not
abbrev pub IsFirstUnmatched : List Step → List Held → List Held → Option NodeId → Type 0
IsFirstUnmatched steps seats some None = All (λ seat. IsMatched steps seats seat.node) some
IsFirstUnmatched steps seats some (Some p) =
    IsTrue (has_seat some p) × (seats_of p seats ≢ full_seat steps p ∷ [])
    × All (λ seat. IsTrue (is_before seat.node p) → IsMatched steps seats seat.node) some

-- the first node of the scene, in node order, that has no seat
abbrev pub first_missing : List NodeId → List Held → Option NodeId
first_missing nodes seats = find (λ p. not (has_seat seats p)) nodes

-- a seat is of a node that is not matched, and this is the first such node; or there is none, and this is the first
-- node that has no seat
abbrev pub IsCloseCause : List NodeId → List Step → List Held → CloseError → Type 0
IsCloseCause nodes steps seats (refusals.Unmatched p) = IsFirstUnmatched steps seats seats (Some p)
IsCloseCause nodes steps seats (refusals.SeatMissing p) =
    IsFirstUnmatched steps seats seats None × (first_missing nodes seats ≡ Some p)

-- the steps with their places, of which the first has this one
abbrev pub numbered : ℕ → List Step → List Receipt
numbered number [] = []
numbered number (step ∷ later) = receipt number step ∷ numbered (number + 1) later

-- all receipts of the seats
abbrev pub receipts_in : List Held → List Receipt
receipts_in seats = flat_map (λ seat. seat.receipts) seats
