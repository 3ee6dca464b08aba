-- When a change can be made.
-- Cited by live.rt, short_update.rt, updating.rt; other crates.
use Rattle.std.specs.Prelude.{◌<◌, ◌+◌, ◌^◌, IfSome}
use Rattle.kt_tuple.specs.declared.node.NodeId.{NodeId}
use Rattle.kt_shard.specs.Limits.{sessions}
use Rattle.kt_state.specs.declared.change.BodyChange.{BodyChange}
use Rattle.kt_state.specs.declared.change.BodyChange.TheVariants as bodies
use Rattle.kt_state.specs.declared.change.Update.{Update}
use Rattle.kt_state.specs.declared.change.Change.{Change}
use Rattle.kt_state.specs.declared.change.Change.TheVariants as changes
use Rattle.kt_state.specs.Labels.{table_size}
use Rattle.kt_state.specs.Node.{Body, IsShard, Live, Node, Alive, node_number}

-- a shard has a session for the worker
abbrev pub CanChangeBody : Body → BodyChange → Type 0
CanChangeBody (IsShard y) (bodies.Wait worker request) = worker < sessions
CanChangeBody (IsShard y) (bodies.Serve worker s) = worker < sessions
CanChangeBody _ _ = Unit {0}

-- one message more can be counted
abbrev pub CanCount : Live → Type 0
CanCount n = n.count + 1 < 2 ^ 64

-- one message more can be counted, and its receiver has a place in the tables
pub record CanSay (n : Live) (to : NodeId) : Type 0 where
  pub count : CanCount n
  pub place : node_number to < table_size

pub record CanUpdate (n : Live) (t : Update) : Type 0 where
  pub body : CanChangeBody n.body t.body
  pub heard : IfSome t.heard (λ x. node_number x.0 < table_size)
  pub said : IfSome t.said (CanSay n)

-- a shard has a session for the worker that it hears or serves, senders and receivers have their places in the tables
-- of
-- labels, and one message more can be counted
abbrev pub CanChange : Node → Change → Type 0
CanChange (Alive n) (changes.Update t) = CanUpdate n t
CanChange _ _ = Unit {0}
