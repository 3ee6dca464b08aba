-- Why a node that is up takes a checkpoint, or rolls back (Koo and Toueg, "Checkpointing and Rollback-Recovery for
-- Distributed Systems": a checkpoint or a rollback makes no more processes take part than it must).
-- Cited by other crates.
use Rattle.std.specs.Prelude.{◌≡◌, ℕ, List, take, Some, Contains}
use Rattle.std.specs.Option.{option_map}
use Rattle.kt_tuple.specs.declared.node.NodeId.{NodeId}
use Rattle.kt_history.specs.declared.note.Act.{Act}
use Rattle.kt_history.specs.declared.note.Note.{Note}
use Rattle.kt_history.specs.declared.note.Note.TheVariants as notes
use Rattle.kt_history.specs.Log.{note_at, log}
use Rattle.kt_history.specs.Past.{IsCauseOf}
use Rattle.kt_state.specs.declared.node.Mode.{Mode}
use Rattle.kt_state.specs.declared.node.Mode.TheVariants as modes
use Rattle.kt_state.specs.Node.{mode_of}
use Rattle.kt_scenario.specs.declared.step.Step.{Step}
use Rattle.kt_scenario.specs.declared.step.Step.TheVariants.{Deliver, Check}
use Rattle.kt_model.specs.State.{State, node}
use Rattle.kt_model.specs.Cut.{permanent_length}

-- this number names an act of the node
pub record IsActOf (h : List Note) (p : NodeId) (n : ℕ) : Type 0 where
  pub act : Act
  pub is_act : note_at h n ≡ Some (notes.Act act)
  pub own : act.node ≡ p

-- an act in the hearer's log heard what an act of the sender sent that is not among the first k of the sender's log
pub record HasHeardBeyond (h : List Note) (hearer sender : NodeId) (k : ℕ) : Type 0 where
  pub act : ℕ
  pub stands : Contains (log h hearer) act
  pub cause : ℕ
  pub heard : IsCauseOf h cause act
  pub sent : IsActOf h sender cause
  pub beyond : ¬ Contains (take k (log h sender)) cause

-- and the sender remembers its act
pub record HasHeardAhead (h : List Note) (hearer sender : NodeId) (k : ℕ) : Type 0 where
  pub beyond : HasHeardBeyond h hearer sender k
  pub remembered : Contains (log h sender) beyond.cause

-- what the node does
abbrev pub IsIn : State → NodeId → Mode → Type 0
IsIn s p mode = option_map mode_of (node s p) ≡ Some mode

-- a message came to p from a node of which p has heard what that node's permanent checkpoint lacks
pub record MustRoll (s : State) (step : Step) (p : NodeId) : Type 0 where
  pub asker : NodeId
  pub came : step ≡ Deliver asker p
  pub heard : HasHeardBeyond s.history p asker (permanent_length s.content asker)

-- a message came to p from a node that has heard of p what p remembers and the permanent checkpoint of p lacks
pub record MustHold (s : State) (step : Step) (p : NodeId) : Type 0 where
  pub asker : NodeId
  pub came : step ≡ Deliver asker p
  pub heard : HasHeardAhead s.history asker p (permanent_length s.content p)

-- why p is held: it began a check, or it had to
pub data WhyHeld (s : State) (step : Step) (p : NodeId) : Type 0 where
  began : step ≡ Check p → WhyHeld s step p
  forced : MustHold s step p → WhyHeld s step p

-- a node that was up rolls back only where it has to, and is held only where it has to or began a check
pub record IsForced (s : State) (step : Step) (new : State) : Type 0 where
  pub rolls : (p : NodeId) → IsIn s p modes.Up → IsIn new p modes.Rolling → MustRoll s step p
  pub holds : (p : NodeId) → IsIn s p modes.Up → IsIn new p modes.Held → WhyHeld s step p
