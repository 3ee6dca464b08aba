-- What is on its way, as the links hold it.
-- Cited by Traffics, traffic.rt, `traffic::make_room_on_links`.
use Rattle.std.specs.Prelude.{◌≡◌}
use Rattle.kt_link.specs.Network.{Network}
use Rattle.kt_state.specs.declared.message.Message.{Message}

-- the same messages are on their way between the same nodes
pub record IsSameTraffic (old new : Network Message) : Type 0 where
  pub workers : new.workers ≡ old.workers
  pub shards : new.shards ≡ old.shards
  pub queues : new.queues ≡ old.queues
