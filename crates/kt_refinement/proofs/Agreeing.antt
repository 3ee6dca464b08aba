-- What the machine's theorem says of a state of the world that stands for one of the machine: its permanent checkpoints
-- hold with each act all of its past, and where no node is down or rolls back, so do the logs.
-- Cited by Whole.
use Rattle.std.proofs.Common.{◌≡◌, ℕ, ◌≤◌, Bool, true, IsTrue, List, take, take_all, length, Contains, Option, Some, None, refl, sym, subst, arith}
use Rattle.std.specs.Prelude.{is_some}
use Rattle.kt_tuple.specs.declared.node.NodeId.{NodeId}
use Rattle.kt_tuple.specs.declared.node.NodeId.TheVariants as ids
use Rattle.kt_tuple.specs.Node.{node_index}
use Rattle.kt_history.specs.Log.{log, IsAct}
use Rattle.kt_history.specs.WellFormed.{CausesComeFirst}
use Rattle.kt_history.specs.Survival.{Stands, Survives}
use Rattle.kt_logs.proofs.Shared.{surviving_tuples, survivors_run}
use Rattle.kt_history.proofs.Shared.{CausesComeFirst-from_well_formed}
use Rattle.kt_state.specs.declared.live.Phase.{Phase}
use Rattle.kt_state.specs.declared.live.Phase.TheVariants as phases
use Rattle.kt_state.specs.Node.{Node as RealNode, Live, Alive, Down as IsDownNode, mode_in}
use Rattle.kt_model.specs.Asks.{setting_of}
use Rattle.kt_scenario.specs.Scene.{SceneModel, is_shard}
use Rattle.kt_model.specs.Cut.{IsInCut, IsCausallyClosed, permanent_length}
use Rattle.kt_model.specs.Headline.{IsSteady, is_steady_row, is_steady_mode}
use Rattle.kt_model.specs.State.{State as World, node}
use Rattle.kt_model.proofs.Shared.{IsAlive, bags_held, Holds}
use Rattle.kt_scenario.proofs.Shared.{shard-node}
use Rattle.kt_protocol.specs.Machine.{Mode, Node, State}
use Rattle.kt_protocol.specs.Laws.{IsStanding, IsSteady as IsMachineSteady}
use Rattle.kt_protocol.specs.Logs.{Act}
use Rattle.kt_protocol.proofs.Shared.{Invariant, HasGround, OnGround, agree, remembered, tail-in}
use Rattle.kt_model.specs.Headline.{IsSteadyRun}
use Rattle.kt_refinement.proofs.Numbers.{named, index-named, peers}
use Rattle.kt_refinement.proofs.Letters.{Lettered}
use Rattle.kt_refinement.proofs.Reading.{Reads, IsFound}
use Rattle.kt_refinement.proofs.Represents.{StateIs, PhaseIs, Represents}
use Rattle.kt_refinement.proofs.Closing.{closed-by, before-stands}

-- ---- the permanent checkpoints

-- an act that came before its hearer was resumed came before its own node was, whose permanent checkpoint has it
early-act : (s : World) (c : State) → (letters : Lettered s.history c) → (acts : List Act) (q : NodeId) → OnGround letters.first (node_index q) acts
    → (g : ℕ) → IsFound g acts → (is : IsAct s.history g)
    → HasGround letters.first (node_index is.0.node) (c.node (node_index is.0.node)).perm × (g ≤ letters.first)
early-act s c letters acts q on g early is =
    let ground = on early.node early.first early.sent early.heard early.among in
    let below : g ≤ letters.first = let le = early.below in let e = ground.1 in omega (arith, le, e) in
    (letters.has g is.0 below is.1, below)

pub permanent-closed : (s : World) (c : State) → Invariant (peers s.scene) c → Represents s c → Lettered s.history c → CausesComeFirst s.history
    → IsCausallyClosed s.history (permanent_length s.content)
permanent-closed s c inv is letters causes =
    closed-by s.history (permanent_length s.content) (λ k. (c.node k).perm) (λ p. (is.nodes p).perm.reads) (λ p q by l heard. agree inv p q by l heard)
    early causes
  where
    early : (q : NodeId) (g : ℕ) → IsFound g (c.node (node_index q)).perm → IsAct s.history g → IsInCut s.history (permanent_length s.content) g
    early q g found act =
        let has = early-act s c letters (c.node (node_index q)).perm q (letters.grounds (node_index q)).perm g found act in
        let p = act.0.node in
        (p, before-stands (is.nodes p).perm.reads p letters.first has.0.sent has.0.heard has.0.among g act.0 has.1 act.1 refl)

-- ---- steady states

standing-phase : (f : Phase) (life : ℕ) (mode : Mode) → PhaseIs f life mode → IsTrue (is_steady_mode (mode_in f)) → IsStanding mode
standing-phase phases.Up life mode is steady = subst IsStanding (sym is) tt
standing-phase (phases.Held b) life mode is steady = subst IsStanding (sym is.within) tt
standing-phase (phases.Rolling b) life mode is steady = absurd (cc (steady))

standing-row : (scene : SceneModel) (p : NodeId) (real : Option RealNode) (x : Node) → StateIs scene p real x → IsTrue (is_steady_row real) → IsStanding x.mode
standing-row scene p None x is steady = subst IsStanding (sym is) tt
standing-row scene p (Some IsDownNode) x is steady = absurd (cc (steady))
standing-row scene p (Some (Alive n)) x is steady = standing-phase n.phase x.life x.mode is.phase steady

pub steady-is : (s : World) (c : State) → Represents s c → IsSteady s → IsMachineSteady c
steady-is s c is steady k =
    let P : ℕ → Type 0 = λ j. IsStanding (c.node j).mode in
    subst P (index-named k) (standing-row s.scene (named k) (node s (named k)) (c.node (node_index (named k))) (is.nodes (named k)).state (steady (named k)))

pub steady-closed : (s : World) (c : State) → Invariant (peers s.scene) c → Represents s c → Lettered s.history c → CausesComeFirst s.history → IsSteady s
    → IsCausallyClosed s.history (λ p. length (log s.history p))
steady-closed s c inv is letters causes steady =
    closed-by s.history (λ p. length (log s.history p)) (λ k. (c.node k).log) reads
    (λ p q by l heard. remembered inv (steady-is s c is steady) p q by l heard) early causes
  where
    whole : (p : NodeId) → take (length (log s.history p)) (log s.history p) ≡ log s.history p
    whole p = take_all (length (log s.history p)) (log s.history p) (omega arith)

    reads : (p : NodeId) → Reads s.history (take (length (log s.history p)) (log s.history p)) (c.node (node_index p)).log
    reads p = subst (λ (l : List ℕ). Reads s.history l (c.node (node_index p)).log) (sym (whole p)) (is.nodes p).log

    early : (q : NodeId) (g : ℕ) → IsFound g (c.node (node_index q)).log → IsAct s.history g → IsInCut s.history (λ p. length (log s.history p)) g
    early q g found act =
        let has = early-act s c letters (c.node (node_index q)).log q (letters.grounds (node_index q)).log g found act in
        let p = act.0.node in
        (p, before-stands (reads p) p letters.first has.0.sent has.0.heard (tail-in (inv.local (node_index p)).tail has.0.among) g act.0 has.1 act.1 refl)

-- each act that is remembered survives
pub steady-survives : (s : World) (c : State) → Invariant (peers s.scene) c → Represents s c → Lettered s.history c → CausesComeFirst s.history → IsSteady s
    → (n : ℕ) → Stands s.history n → Survives s.history n
steady-survives s c inv is letters causes steady n stands e past lost =
    let whole : (p : NodeId) → take (length (log s.history p)) (log s.history p) ≡ log s.history p =
    λ p. take_all (length (log s.history p)) (log s.history p) (omega arith) in
    let C : ℕ → List ℕ → Type 0 = λ k l. Contains l k in
    let among = steady-closed s c inv is letters causes steady e n past (stands.0, subst (C n) (sym (whole stands.0)) stands.1) in
    lost (among.0, subst (C e) (whole among.0) among.1)

-- and no shard is down
steady-alive : (s : World) → Holds s → IsSteady s → (r : ℕ) → is_shard s.scene (ids.Shard r) ≡ true → (n : Live) × IsAlive s (ids.Shard r) n
steady-alive s h steady r there =
    by (node s (ids.Shard r)) refl (subst (λ (b : Bool). b ≡ true) (sym (h.ready.there (ids.Shard r))) (shard-node s.scene (ids.Shard r) there))
    (steady (ids.Shard r))
  where
    by : (row : Option RealNode) → node s (ids.Shard r) ≡ row → is_some row ≡ true → IsTrue (is_steady_row row) → (n : Live) × IsAlive s (ids.Shard r) n
    by None e some steady = absurd (cc (some))
    by (Some IsDownNode) e some steady = absurd (cc (steady))
    by (Some (Alive n)) e some steady = (n, e)

pub steady-run : (s : World) (c : State) → Invariant (peers s.scene) c → Represents s c → Lettered s.history c → Holds s → IsSteady s → IsSteadyRun s
steady-run s c inv is letters h steady =
    let all = steady-survives s c inv is letters (CausesComeFirst-from_well_formed s.history h.sound.well_formed) steady in record {
      all_survive = all;
      tuples = surviving_tuples s.history;
      one_run = survivors_run (setting_of s.scene) s.history (CausesComeFirst-from_well_formed s.history h.sound.well_formed) h.sound.legal;
      are_held = bags_held s h.sound h.ready.scene.some_shards all (steady-alive s h steady);
    }
