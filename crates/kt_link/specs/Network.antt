-- What the links between workers and shards hold, and where the queue of a pair of nodes stands.
-- Cited by Changed, Others, Places, laws.rt, links.rt, specs/auxiliary/Queues; other crates.
use Rattle.std.specs.Prelude.{◌≡◌, ℕ, suc, ◌+◌, ◌-◌, ◌*◌, ◌≤◌, ◌&&◌, nat_le, if◌then◌else◌, Bool}
use Rattle.std.specs.Prelude.{List, [], Option, None, Some, slice_index_or, set}
use Rattle.std.specs.Option.{option_map}
use Rattle.kt_tuple.specs.declared.node.NodeId.{NodeId}
use Rattle.kt_tuple.specs.declared.node.NodeId.TheVariants.{Worker, Shard}

-- how many workers and shards there are; of each ordered pair of neighbours what is on its way, first sent
-- first, and how many more messages take no memory
pub record Network (M : Type 0) : Type 0 where
  pub workers : ℕ
  pub shards : ℕ
  pub queues : List (List M)
  pub rooms : List ℕ

-- a worker and a shard that are there
abbrev pub AreNeighbours : ℕ → ℕ → NodeId → NodeId → Type 0
AreNeighbours workers shards (Worker w) (Worker v) = ⊥
AreNeighbours workers shards (Worker w) (Shard s) = ((1 ≤ w) × (w ≤ workers)) × ((1 ≤ s) × (s ≤ shards))
AreNeighbours workers shards (Shard s) (Worker w) = ((1 ≤ w) × (w ≤ workers)) × ((1 ≤ s) × (s ≤ shards))
AreNeighbours workers shards (Shard s) (Shard r) = ⊥

-- a number from 1 to so many
abbrev pub is_among : ℕ → ℕ → Bool
is_among count n = nat_le 1 n && nat_le n count

-- the place of the queue from a worker to a shard, if they are there; the way back has the next place
abbrev pub place_between : ℕ → ℕ → ℕ → ℕ → Option ℕ
place_between workers shards w s =
    if is_among workers w && is_among shards s then Some (2 * ((w - 1) * shards + (s - 1))) else None

-- the place of the queue from p to q, if they are neighbours
abbrev pub place : ℕ → ℕ → NodeId → NodeId → Option ℕ
place workers shards (Worker w) (Worker v) = None
place workers shards (Worker w) (Shard s) = place_between workers shards w s
place workers shards (Shard s) (Worker w) = option_map suc (place_between workers shards w s)
place workers shards (Shard s) (Shard r) = None

abbrev pub place_in : {M : Type 0} → Network M → NodeId → NodeId → Option ℕ
place_in net p q = place net.workers net.shards p q

-- the entry at a place, or d where there is no place
abbrev pub entry_at : {A : Type 0} → A → List A → Option ℕ → A
entry_at d entries None = d
entry_at d entries (Some k) = slice_index_or entries k d

-- the entries with another at the place, or the same where there is no place
abbrev pub with_entry : {A : Type 0} → List A → Option ℕ → A → List A
with_entry entries None new = entries
with_entry entries (Some k) new = set entries k new

-- what is on its way from p to q: nothing, where they are no neighbours
abbrev pub queue : {M : Type 0} → Network M → NodeId → NodeId → List M
queue net p q = entry_at [] net.queues (place_in net p q)

-- how many more messages from p to q take no memory
abbrev pub room : {M : Type 0} → Network M → NodeId → NodeId → ℕ
room net p q = entry_at 0 net.rooms (place_in net p q)

-- the network with this queue and this room from p to q, and all else as it was
abbrev pub with_link : {M : Type 0} → Network M → NodeId → NodeId → List M → ℕ → Network M
with_link net p q messages more = record {
  workers = net.workers;
  shards = net.shards;
  queues = with_entry net.queues (place_in net p q) messages;
  rooms = with_entry net.rooms (place_in net p q) more;
}

-- all but the link from p to q is as it was
abbrev pub ChangesOnly : {M : Type 0} → Network M → Network M → NodeId → NodeId → Type 0
ChangesOnly old new p q = new ≡ with_link old p q (queue new p q) (room new p q)
