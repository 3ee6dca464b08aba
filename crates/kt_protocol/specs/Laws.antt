-- What the theorem says of the states that are reached. Nothing here names a ballot or a vote.
-- Cited by Consequences, Examples, Main, laws.rt; other crates.
use Rattle.std.specs.Prelude.{◌≡◌, ℕ, Bool, true, false, List, [], ◌∷◌, ⊤}
use Rattle.kt_protocol.specs.Labels.{Label}
use Rattle.kt_protocol.specs.Logs.{IsIn, Act, Sends, Hears}
use Rattle.kt_protocol.specs.Machine.{Check, Rollback, Yes, Mode, Up, Within, Down, Message, Ask, State}
use Rattle.kt_protocol.specs.Runs.{AreNeighbours, IsBeginning, Run}

-- the node takes a checkpoint and waits for the verdict
abbrev pub IsHeld : Mode → Type 0
IsHeld (Within (Check k) _) = ⊤
IsHeld _ = ⊥

-- the node rolls back
abbrev pub IsRolling : Mode → Type 0
IsRolling (Within (Rollback k) _) = ⊤
IsRolling _ = ⊥

-- the node is up or held; kt_model says the same of the world's modes (`is_steady_mode` of its Headline), and
-- `standing-phase` of kt_refinement joins the two
abbrev pub IsStanding : Mode → Type 0
IsStanding Up = ⊤
IsStanding (Within (Check k) _) = ⊤
IsStanding (Within (Rollback k) _) = ⊥
IsStanding Down = ⊥

-- no node is down or rolling
abbrev pub IsSteady : State → Type 0
IsSteady s = (x : ℕ) → IsStanding (s.node x).mode

-- t is reached by a list of steps from some beginning
pub record IsReached (peer : ℕ → ℕ → Bool) (t : State) : Type 0 where
  pub near : AreNeighbours peer
  pub start : State
  pub begins : IsBeginning peer start
  pub run : Run peer start t

-- the step from s to t takes an ask of a rollback off a link to o, and o heard from the asker what the asker's
-- permanent checkpoint has not sent
pub record MustRoll (s t : State) (o : ℕ) : Type 0 where
  pub asker : ℕ
  pub number : ℕ
  pub label : Label
  pub life : ℕ
  pub rest : List Message
  pub ask : s.link asker o ≡ Ask (Rollback number) label life ∷ rest
  pub taken : t.link asker o ≡ rest
  pub by : ℕ
  pub under : Label
  pub heard : IsIn (Hears by asker under) (s.node o).log
  pub lacks : IsIn (Sends by o under) (s.node asker).perm → ⊥

-- the step from s to t takes an ask of a check off a link to o, and the asker heard what o sent and remembers, and
-- o's permanent checkpoint lacks
pub record MustHold (s t : State) (o : ℕ) : Type 0 where
  pub asker : ℕ
  pub number : ℕ
  pub label : Label
  pub life : ℕ
  pub rest : List Message
  pub ask : s.link asker o ≡ Ask (Check number) label life ∷ rest
  pub taken : t.link asker o ≡ rest
  pub by : ℕ
  pub under : Label
  pub heard : IsIn (Hears by o under) (s.node asker).log
  pub sent : IsIn (Sends by asker under) (s.node o).log
  pub lacks : IsIn (Sends by asker under) (s.node o).perm → ⊥

-- why o, which was up, is held: it began a check of its own, or an ask made it
pub data WhyHeld (s t : State) (o : ℕ) : Type 0 where
  began : (k : ℕ) → s.board.begun (Check k) ≡ false → t.board.begun (Check k) ≡ true → WhyHeld s t o
  forced : MustHold s t o → WhyHeld s t o

-- a run in which a rollback gets Yes and cuts a log: a node remembers an act, and at the end of the run it is up and
-- remembers nothing
pub record CutsALog (peer : ℕ → ℕ → Bool) : Type 0 where
  pub before : State
  pub after : State
  pub reached : IsReached peer before
  pub run : Run peer before after
  pub node : ℕ
  pub act : Act
  pub remembered : IsIn act (before.node node).log
  pub forgotten : (after.node node).log ≡ []
  pub up : (after.node node).mode ≡ Up
  pub number : ℕ
  pub decided : after.board.verdict (Rollback number) ≡ Yes

-- a state in which a check has Yes, one of its two nodes is down, and both permanent checkpoints hold their act
pub record ChecksWhileDown (peer : ℕ → ℕ → Bool) : Type 0 where
  pub state : State
  pub reached : IsReached peer state
  pub sender : ℕ
  pub receiver : ℕ
  pub by : ℕ
  pub label : Label
  pub down : (state.node sender).mode ≡ Down
  pub sent : (state.node sender).perm ≡ Sends by receiver label ∷ []
  pub heard : (state.node receiver).perm ≡ Hears by sender label ∷ []
  pub number : ℕ
  pub decided : state.board.verdict (Check number) ≡ Yes
