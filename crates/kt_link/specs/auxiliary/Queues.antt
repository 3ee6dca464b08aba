-- The network that a list of queues is.
-- Cited by Changed, links.rt.
use Rattle.std.specs.Prelude.{ℕ, ◌-◌, List, map}
use Rattle.std.specs.VecDeque.{deque_len, deque_capacity}
use Rattle.std.specs.declared.collections.VecDeque.{VecDeque}
use Rattle.std.specs.declared.alloc.Global.{Global}
use Rattle.kt_link.specs.Network.{Network}

-- how many more a queue takes
abbrev pub spare : {M : Type 0} → VecDeque M Global → ℕ
spare q = deque_capacity q - deque_len q

abbrev pub network_of : {M : Type 0} → ℕ → ℕ → List (VecDeque M Global) → Network M
network_of workers shards queues = record {
  workers = workers;
  shards = shards;
  queues = map (λ q. q.items) queues;
  rooms = map (λ q. spare q) queues;
}
