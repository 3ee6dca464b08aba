-- A shard that was made again, as plain data, and when it is what acts make of a shard.
-- Cited by Fits, Remakes, Suited, entries.rt, shard.rt, slot.rt, specs/auxiliary/Slots, specs/auxiliary/Suits,
--   suits.rt, `Remade::ignores`, `Remade::makes_all`, `Remade::makes`, `Slot::waits_with`, `entries::has_entries`,
--   `leads::shard_leads_to`, `shard::empty_slots`, `suits::are_empty_outside`, `suits::suits_shard`.
use Rattle.std.specs.Prelude.{◌≡◌, ℕ, List, IsPermutation}
use Rattle.kt_tuple.specs.declared.tuple.Tuple.{Tuple}
use Rattle.kt_shard.specs.declared.session.Session.{Session}
use Rattle.kt_shard.specs.Session.{empty_session}
use Rattle.kt_shard.specs.Table.{at}
use Rattle.kt_logs.specs.ShardLog.{MadeShard}

-- what is known of a worker: its session, and the cause of its last hearing
pub record Slot : Type 0 where
  pub session : Session
  pub cause : ℕ

abbrev pub empty_slot : Slot
empty_slot = record { session = empty_session; cause = 0 }

-- the tuples in order of arrival, and a slot for each worker, by the worker's number
pub record RemadeShard : Type 0 where
  pub bag : List Tuple
  pub slots : List Slot

-- it is what acts make of a shard: the same tuples in some order, and of each worker the same
pub record IsRemade (made : MadeShard) (r : RemadeShard) : Type 0 where
  pub bag : IsPermutation made.bag r.bag
  pub sessions : (w : ℕ) → (at empty_slot r.slots w).session ≡ made.session w
  pub causes : (w : ℕ) → (at empty_slot r.slots w).cause ≡ made.cause w
