-- What holds of every state that steps lead to. Read `Headline` first, at the end of this file: each of its five fields
-- has its line of English. Of the words in them `HasOneRun` and `IsSteadyRun` stand here, with `is_steady` and the
-- tuples of all shards between them. `IsCausallyClosed` and `permanent_length` stand in `Cut`, `IsPermanentRun` in
-- `PermanentRun`, `StoresFollowLogs` in `Like`. Of kt_history are `services` and `Survives`, in `Survival`; of
-- kt_tuple is `IsSpaceRun`, in `Space`. What a state is says `State`, and what a step makes of it `Effect`.
-- The rest of the file is for other clauses of a step: what becomes of what a node remembers, and failures.
-- Cited by FirstCut, Headlines, Lasting, LogsAfter, laws.rt; other crates.
use Rattle.std.specs.Prelude.{◌≡◌, ℕ, ◌+◌, Bool, true, false, List, [], ◌∷◌, map}
use Rattle.std.specs.Prelude.{◌++◌, take, length, ◌≤◌, Option, None, Some, IsTrue, IsPermutation}
use Rattle.std.specs.List.{flat_map, list_all, range_with_len}
use Rattle.kt_tuple.specs.declared.node.NodeId.{NodeId}
use Rattle.kt_tuple.specs.declared.node.NodeId.TheVariants as ids
use Rattle.kt_tuple.specs.declared.tuple.Tuple.{Tuple}
use Rattle.kt_tuple.specs.Space.{IsSpaceRun}
use Rattle.kt_history.specs.declared.note.Note.{Note}
use Rattle.kt_history.specs.declared.note.Note.TheVariants as notes
use Rattle.kt_history.specs.Log.{note_at, log, IsAct}
use Rattle.kt_history.specs.Chronicle.{node_of}
use Rattle.kt_history.specs.Survival.{Stands, Survives, services}
use Rattle.kt_history.specs.WellFormed.{HasNoCut, IsWellFormed}
use Rattle.kt_logs.specs.Order.{FollowsScripts}
use Rattle.kt_state.specs.declared.message.Message.{Message}
use Rattle.kt_state.specs.declared.message.Message.TheVariants as messages
use Rattle.kt_state.specs.declared.node.Mode.{Mode}
use Rattle.kt_state.specs.declared.node.Mode.TheVariants as modes
use Rattle.kt_state.specs.Node.{Body, IsWorker, IsShard, Node, Down, Alive, mode_of}
use Rattle.kt_tuple.specs.declared.node.TheConstants.{MAX_SHARDS}
use Rattle.kt_scenario.specs.declared.step.Step.{Step}
use Rattle.kt_scenario.specs.declared.step.Step.TheVariants.{Deliver, Learn, Fail}
use Rattle.kt_scenario.specs.Step.{owner}
use Rattle.kt_model.specs.State.{State, node, link}
use Rattle.kt_model.specs.Asks.{setting_of}
use Rattle.kt_model.specs.Cut.{IsCausallyClosed, permanent_length}
use Rattle.kt_model.specs.Like.{StoresFollowLogs}
use Rattle.kt_model.specs.PermanentRun.{IsPermanentRun}

-- the survivors are one run
pub record HasOneRun (s : State) : Type 0 where
  -- each act is of a kind that its cause allows, and causes come first
  pub well_formed : IsWellFormed s.history
  -- the tuples that the surviving services lead to, as one run of a sequential space
  pub tuples : List Tuple
  pub one_run : IsSpaceRun (services s.history) tuples
  -- each worker's requests are its script's, in order
  pub in_order : FollowsScripts (setting_of s.scene) (services s.history)

-- every act is still remembered
abbrev pub IsNothingLost : List Note → Type 0
IsNothingLost h = (n : ℕ) → IsAct h n → Stands h n

-- ---- tuples

abbrev pub bag_in : Body → List Tuple
bag_in (IsWorker x) = []
bag_in (IsShard y) = y.bag

-- what the node holds, where it is a shard that is not down
abbrev pub bag_of : Option Node → List Tuple
bag_of None = []
bag_of (Some Down) = []
bag_of (Some (Alive n)) = bag_in n.body

-- the tuples of all shards
abbrev pub all_bags : State → List Tuple
all_bags s = flat_map (λ r. bag_of (node s (ids.Shard r))) (range_with_len 1 s.scene.shards)

-- nothing is lost: every act is remembered and survives, and the shards hold just the tuples of the surviving run
pub record IsWhole (s : State) : Type 0 where
  pub all_stand : IsNothingLost s.history
  pub all_survive : (n : ℕ) → IsAct s.history n → Survives s.history n
  pub tuples : List Tuple
  pub one_run : IsSpaceRun (services s.history) tuples
  pub are_held : IsPermutation tuples (all_bags s)

-- the bag that a shard lends, unless it is down
abbrev pub lent_in : Body → Option (List Tuple)
lent_in (IsWorker x) = None
lent_in (IsShard y) = Some y.bag

abbrev pub lent_by : Option Node → Option (List Tuple)
lent_by None = None
lent_by (Some Down) = None
lent_by (Some (Alive n)) = lent_in n.body

-- of each number that a shard can have: none past the last shard
abbrev pub lent_bags : State → List (Option (List Tuple))
lent_bags s = map (λ r. lent_by (node s (ids.Shard r))) (range_with_len 1 MAX_SHARDS)

-- ---- steady states

abbrev pub is_steady_mode : Mode → Bool
is_steady_mode modes.Up = true
is_steady_mode modes.Held = true
is_steady_mode modes.Rolling = false
is_steady_mode modes.Down = false

abbrev pub is_steady_row : Option Node → Bool
is_steady_row None = true
is_steady_row (Some n) = is_steady_mode (mode_of n)

-- no node is down or rolls back
abbrev pub IsSteady : State → Type 0
IsSteady s = (p : NodeId) → IsTrue (is_steady_row (node s p))

-- the same as a test that computes
abbrev pub is_steady : State → Bool
is_steady s = list_all is_steady_row s.nodes

-- each act that is remembered has lost nothing of its past, and the shards hold just the tuples of the surviving run
pub record IsSteadyRun (s : State) : Type 0 where
  pub all_survive : (n : ℕ) → Stands s.history n → Survives s.history n
  pub tuples : List Tuple
  pub one_run : IsSpaceRun (services s.history) tuples
  pub are_held : IsPermutation tuples (all_bags s)

-- ---- what a step notes

-- the history has one note more at most, which is of the node p
pub data NotesOneAtMost (p : NodeId) (old : List Note) : List Note → Type 0 where
  nothing : NotesOneAtMost p old old
  one : (note : Note) → node_of note ≡ p → NotesOneAtMost p old (old ++ note ∷ [])

abbrev pub is_verdict : Message → Bool
is_verdict (messages.Verdict instance agreed) = true
is_verdict message = false

abbrev pub is_verdict_first : List Message → Bool
is_verdict_first [] = false
is_verdict_first (message ∷ later) = is_verdict message

-- a step by which its node may forget: it fails, or it learns a verdict, from the board or by a message
abbrev pub may_forget : State → Step → Bool
may_forget s (Deliver p q) = is_verdict_first (link s p q)
may_forget s (Learn p) = true
may_forget s (Fail p) = true
may_forget s step = false

-- what the step that leads to this history makes of what q remembers
pub data LogAfter (s : State) (step : Step) (h : List Note) (q : NodeId) : Type 0 where
  -- nothing
  stays : log h q ≡ log s.history q → LogAfter s step h q
  -- one act of its own stands at its end
  grows : owner step ≡ q → log h q ≡ log s.history q ++ (length s.history + 1) ∷ [] → LogAfter s step h q
  -- only the first so many are left, in a step of its own by which a node may forget
  is_cut : owner step ≡ q → IsTrue (may_forget s step) → (keep : ℕ) → keep ≤ length (log s.history q)
      → log h q ≡ take keep (log s.history q) → LogAfter s step h q

-- ---- failures

-- a note of the history is a cut
pub record HasCut (h : List Note) : Type 0 where
  pub number : ℕ
  pub node : NodeId
  pub keep : ℕ
  pub is_cut : note_at h number ≡ Some (notes.Cut node keep)

-- the step is the failure of a node
abbrev pub IsFailure : Step → Type 0
IsFailure (Fail p) = Unit {0}
IsFailure step = ⊥

-- what a step that is made does to the history: one note more at most, of its owner; no log but its owner's becomes
-- shorter, and that only where the owner may forget; and only a failure makes the first cut of a world that was opened
pub record IsNoted (s : State) (step : Step) (new : State) : Type 0 where
  pub one_note : NotesOneAtMost (owner step) s.history new.history
  pub own_log : (q : NodeId) → LogAfter s step new.history q
  pub first_cut : s.found ≡ None → HasNoCut s.history → HasCut new.history → IsFailure step

-- ---- all of it

pub record Headline (s : State) : Type 0 where
  -- the surviving services are one run of a sequential tuple space, in the scripts' order
  pub survivors : HasOneRun s
  -- while no node is down or rolls back, nothing remembered is lost, and the shards hold that run's tuples
  pub steady : IsTrue (is_steady s) → IsSteadyRun s
  -- each stored checkpoint that may count holds the first acts of its node's log, and the state behind these
  pub stored : StoresFollowLogs s
  -- with each act that the permanent checkpoints hold they hold all of its past
  pub closed : IsCausallyClosed s.history (permanent_length s.content)
  -- what they hold is one run, in the scripts' order, and their tuples are that run's
  pub permanent : IsPermanentRun s
