-- What a store that is honest keeps of the nodes of a world, so that each write of a step is one that the store allows.
-- Cited by Backs, Boards, CheckLeaves, Fit, HeldActs, Holding, Kept, Lasting, Opened, Resuming, RollLeaves, Settle,
--   Settling, StaysBacked, StepPlans, StepSound, Writes; other crates.
use Rattle.std.specs.Prelude.{◌≡◌, ℕ, ◌+◌, ◌≤◌, true, nat_lt, List, [], AllPairs, Option, None, Some, Contains, IfSome}
use Rattle.kt_tuple.specs.declared.node.NodeId.{NodeId}
use Rattle.kt_shard.specs.Table.{at}
use Rattle.kt_store.specs.declared.rows.Tentative.{Tentative}
use Rattle.kt_store.specs.Verdict.{verdict_from}
use Rattle.kt_store.specs.declared.rows.Verdict.TheVariants as verdicts
use Rattle.kt_store.specs.declared.rows.InstanceRow.{InstanceRow}
use Rattle.kt_store.specs.Content.{Content, HasVerdict, next_instance, row_of, verdict_of}
use Rattle.kt_state.specs.declared.message.Message.{Message}
use Rattle.kt_state.specs.declared.message.Message.TheVariants as messages
use Rattle.kt_state.specs.declared.plan.Write.{Write}
use Rattle.kt_state.specs.declared.plan.Write.TheVariants as writes
use Rattle.kt_state.specs.declared.live.Phase.{Phase}
use Rattle.kt_state.specs.declared.live.Phase.TheVariants as phases
use Rattle.kt_state.specs.Node.{Node, Down, Alive}
use Rattle.kt_model.specs.State.{State, node}

-- the tentative checkpoint is one of the instance
pub record IsTakenIn (instance : ℕ) (stored : Option Tentative) : Type 0 where
  pub tentative : Tentative
  pub is_stored : stored ≡ Some tentative
  pub is_of : tentative.instance ≡ instance

-- a held node has a tentative checkpoint in its ballot's instance, one that is up or rolls back has none
abbrev pub IsPhaseBacked : Phase → Option Tentative → Type 0
IsPhaseBacked phases.Up stored = stored ≡ None
IsPhaseBacked (phases.Held b) stored = IsTakenIn b.instance stored
IsPhaseBacked (phases.Rolling b) stored = stored ≡ None

abbrev pub IsNodeBacked : Node → Option Tentative → Type 0
IsNodeBacked Down stored = Unit {0}
IsNodeBacked (Alive n) stored = IsPhaseBacked n.phase stored

-- a verdict that is on its way is the board's
abbrev pub IsBoards : Content → Message → Type 0
IsBoards c (messages.Verdict instance agreed) = verdict_of c instance ≡ Some (verdict_from agreed)
IsBoards c message = Unit {0}

-- the numbers of instances rise
abbrev pub AreRising : List InstanceRow → Type 0
AreRising board = AllPairs (λ a b. nat_lt a.instance b.instance ≡ true) board

pub record IsBacked (s : State) : Type 0 where
  pub nodes : (p : NodeId) → IfSome (node s p) (λ n. IsNodeBacked n (row_of s.content p).tentative)
  pub messages : (k : ℕ) (m : Message) → Contains (at [] s.links k) m → IsBoards s.content m
  pub board : AreRising s.content.board
  -- each step uses up one number at most, so where a world was opened few are used up
  pub few_instances : s.found ≡ None → next_instance s.content ≤ s.made + 1
  pub few_incarnations : s.found ≡ None → (p : NodeId) → (row_of s.content p).incarnation ≤ s.made + 1

-- the store allows the write of p: a tentative checkpoint is taken where there is none, and made permanent or given up
-- by the verdict of its instance, and only an open instance is decided
abbrev pub IsAllowed : Content → NodeId → Write → Type 0
IsAllowed c p (writes.BeginCheck checkpoint) = (row_of c p).tentative ≡ None
IsAllowed c p (writes.PutTentative instance checkpoint) = (row_of c p).tentative ≡ None
IsAllowed c p writes.Promote = HasVerdict c p verdicts.Yes
IsAllowed c p writes.Discard = HasVerdict c p verdicts.No
IsAllowed c p writes.BeginRestart = Unit {0}
IsAllowed c p writes.Bump = Unit {0}
IsAllowed c p (writes.Decide instance agreed) = verdict_of c instance ≡ Some verdicts.Open
