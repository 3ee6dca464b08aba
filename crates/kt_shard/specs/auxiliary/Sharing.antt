-- What a shard has, alone or with others.
-- Cited by parts.rt, shard.rt, `Parts::carry_out`, `Parts::wait`.
use Rattle.std.specs.Prelude.{List, false}
use Rattle.std.specs.Arc.{arc_value}
use Rattle.kt_shard.specs.declared.session.Session.{Session}
use Rattle.kt_shard.specs.declared.parts.Parts.{Parts}
use Rattle.kt_shard.specs.declared.shard.Held.{Held}
use Rattle.kt_shard.specs.declared.shard.Held.TheVariants.{Own, Shared}
use Rattle.kt_shard.specs.Shard.{Shard}
use Rattle.kt_shard.specs.ShardModel.{ShardModel}

abbrev pub state_in : Parts → Shard
state_in parts = record { bag = parts.bag.tuples; sessions = parts.sessions.items }

-- parts that others may have too may not be changed, and so there is no room
abbrev pub model_of : Held → ShardModel
model_of (Own parts) = record { state = state_in parts; has_room = parts.bag.has_room }
model_of (Shared parts) = record { state = state_in (arc_value parts); has_room = false }

abbrev pub sessions_in : Held → List Session
sessions_in held = (model_of held).state.sessions
