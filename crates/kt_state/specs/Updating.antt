-- What becomes of a node, part by part.
-- Cited by Sieving, Tables, change.rt, short_update.rt, specs/ShortUpdate, specs/auxiliary/Between, updating.rt;
--   other crates.
use Rattle.std.specs.Prelude.{ℕ, ◌+◌, Bool, false, not, ◌&&◌, if◌then◌else◌, Option, None, Some}
use Rattle.std.specs.Prelude.{List, [], ◌∷◌, ◌++◌, drop, filter}
use Rattle.kt_tuple.specs.declared.node.NodeId.{NodeId}
use Rattle.kt_tuple.specs.Node.{node_eq}
use Rattle.kt_link.specs.declared.label.Label.{Label}
use Rattle.kt_shard.specs.Table.{put}
use Rattle.kt_shard.specs.Arrival.{waiting_shard}
use Rattle.kt_shard.specs.Service.{served}
use Rattle.kt_state.specs.declared.message.AppMessage.{AppMessage}
use Rattle.kt_state.specs.declared.live.Phase.{Phase}
use Rattle.kt_state.specs.declared.change.BodyChange.{BodyChange}
use Rattle.kt_state.specs.declared.change.BodyChange.TheVariants as bodies
use Rattle.kt_state.specs.declared.change.KeptChange.{KeptChange}
use Rattle.kt_state.specs.declared.change.KeptChange.TheVariants as keeps
use Rattle.kt_state.specs.declared.change.Update.{Update as Updating}
use Rattle.kt_state.specs.Labels.{no_label, no_firsts, up_to, first_at}
use Rattle.kt_state.specs.Node.{Body, IsWorker, IsShard, Live, Node, Down, Alive, node_number, next_label}
use Rattle.kt_state.specs.declared.change.Change.{Change}
use Rattle.kt_state.specs.declared.change.Change.TheVariants as changes

abbrev pub changed_body : Body → BodyChange → Body
changed_body (IsWorker x) (bodies.Work becomes) = IsWorker becomes
changed_body (IsShard y) (bodies.Wait worker request) = IsShard (waiting_shard y worker request)
changed_body (IsShard y) (bodies.Serve worker s) = IsShard (served y worker s)
changed_body body _ = body

-- a kept message that comes from the node and has a label above this one
abbrev pub is_above : NodeId → Label → NodeId × AppMessage → Bool
is_above from l x = node_eq x.0 from && not (up_to x.1.label l)

abbrev pub changed_kept : List (NodeId × AppMessage) → KeptChange → List (NodeId × AppMessage)
changed_kept kept keeps.Stay = kept
changed_kept kept (keeps.Append from app) = kept ++ (from, app) ∷ []
changed_kept kept keeps.TakeFirst = drop 1 kept
changed_kept kept (keeps.Sieve from l) = filter (λ x. not (is_above from l x)) kept

-- the last label received from each
abbrev pub heard_in : List Label → Option (NodeId × Label) → List Label
heard_in received None = received
heard_in received (Some x) = put no_label received (node_number x.0) x.1

-- one more message is counted where one is sent
abbrev pub said_count : ℕ → Option NodeId → ℕ
said_count count None = count
said_count count (Some q) = count + 1

-- the last label sent to each, where the next message has the label l
abbrev pub said_in : Label → List Label → Option NodeId → List Label
said_in l sent None = sent
said_in l sent (Some q) = put no_label sent (node_number q) l

-- the first label sent since the permanent checkpoint stays once it is there
abbrev pub first_or : Label → Option Label → Option Label
first_or l None = Some l
first_or l (Some first) = Some first

abbrev pub first_said : Label → List (Option Label) → Option NodeId → List (Option Label)
first_said l first None = first
first_said l first (Some q) = put None first (node_number q) (first_or l (first_at first (node_number q)))

-- a promoted checkpoint has nothing sent since
abbrev pub first_in : Label → List (Option Label) → Option NodeId → Bool → List (Option Label)
first_in l first said promoted = if promoted then no_firsts else first_said l first said

abbrev pub phase_in : Phase → Option Phase → Phase
phase_in phase None = phase
phase_in phase (Some new) = new

-- the node has sent its next message to q
abbrev pub said : Live → NodeId → Live
said n q = record n {
  count = n.count + 1;
  sent = put no_label n.sent (node_number q) (next_label n);
  first = put None n.first (node_number q) (first_or (next_label n) (first_at n.first (node_number q)));
}

-- the node with these parts changed
abbrev pub updated : Updating → Live → Live
updated t n = record {
  phase = phase_in n.phase t.phase;
  body = changed_body n.body t.body;
  incarnation = n.incarnation;
  count = said_count n.count t.said;
  sent = said_in (next_label n) n.sent t.said;
  received = heard_in n.received t.heard;
  first = first_in (next_label n) n.first t.said t.promoted;
  kept = changed_kept n.kept t.kept;
}

-- a node that is down has no parts
abbrev pub updated_node : Updating → Node → Node
updated_node t Down = Down
updated_node t (Alive n) = Alive (updated t n)

-- what becomes of the node
abbrev pub changed : Change → Node → Node
changed changes.Stay node = node
changed (changes.Update t) node = updated_node t node
changed changes.Fall node = Down
changed (changes.Load n) node = Alive n

-- nothing of the node is changed: a record to begin with
abbrev pub no_update : Updating
no_update = record { body = bodies.Stay; kept = keeps.Stay; heard = None; said = None; promoted = false; phase = None }

-- the node goes on, and does this from now on
abbrev pub updating_to : Phase → Change
updating_to phase = changes.Update record no_update { phase = Some phase }
