-- A world that was just opened is sound.
-- Cited by Fitting, Holding, Resuming; other crates.
use Rattle.std.proofs.Common.{Option, None, Some, if◌then◌else◌, ℕ, ◌+◌, ◌*◌, Bool, true, false, List}
use Rattle.std.proofs.Common.{[], replicate, Contains, inl, inr, refl, sym, subst, arith}
use Rattle.std.proofs.lemmas.Bool.{cases_lt}
use Rattle.std.proofs.lemmas.List.Sorted.{IsPermutation-refl}
use Rattle.kt_tuple.specs.declared.node.NodeId.{NodeId}
use Rattle.kt_tuple.specs.declared.node.NodeId.TheVariants as ids
use Rattle.kt_history.specs.declared.note.Act.{Act}
use Rattle.kt_history.proofs.Shared.{Contains-none}
use Rattle.kt_link.specs.Network.{entry_at}
use Rattle.kt_worker.proofs.Shared.{opening-after}
use Rattle.kt_shard.specs.Limits.{sessions}
use Rattle.kt_shard.specs.Session.{empty_session}
use Rattle.kt_logs.proofs.Shared.{AreLegal-empty, acts_in_log-empty}
use Rattle.kt_history.proofs.Shared.{IsWellFormed-empty}
use Rattle.kt_state.specs.declared.message.Message.{Message}
use Rattle.kt_state.specs.Node.{Node, opening_body, opening_node}
use Rattle.kt_scenario.specs.Scene.{SceneModel, is_node}
use Rattle.kt_model.specs.Asks.{script_numbered, setting_of}
use Rattle.kt_model.specs.State.{node, link_place, role_of}
use Rattle.kt_model.specs.Like.{IsBodyLike, HoldsFront}
use Rattle.kt_model.proofs.Sound.{IsNodeSound, IsSound}
use Rattle.kt_model.specs.Reached.{opening_row, opening}
use Rattle.kt_model.proofs.Opened.{at-replicate, worker_row, shard_row, past_rows, no_messages}

-- ---- rows

-- what holds of each node's row as it opens, and of an empty row, holds of each row
pub opening-rows-hold : (scene : SceneModel) (P : NodeId → Option Node → Type 0) → ((p : NodeId) → P p (opening_row scene p)) → ((p : NodeId) → P p None)
    → (p : NodeId) → P p (node (opening scene) p)
opening-rows-hold scene P opens none (ids.Worker w) = elim (cases_lt w sessions) [
  | inl below ↦ subst (P (ids.Worker w)) (sym (worker_row scene sessions w below)) (opens (ids.Worker w))
  | inr past ↦ subst (P (ids.Worker w)) (sym (past_rows scene (2 * w) (omega (arith, past)))) (none (ids.Worker w))
]
opening-rows-hold scene P opens none (ids.Shard r) = elim (cases_lt r sessions) [
  | inl below ↦ subst (P (ids.Shard r)) (sym (shard_row scene sessions r below)) (opens (ids.Shard r))
  | inr past ↦ subst (P (ids.Shard r)) (sym (past_rows scene (2 * r + 1) (omega (arith, past)))) (none (ids.Shard r))
]

-- ---- nodes

-- a worker that asked nothing, and a shard with no tuples and empty sessions, are like their empty logs
opening_like : (scene : SceneModel) (p : NodeId) → IsBodyLike scene.scripts p [] (opening_body (role_of scene p) (role_of scene p).id)
opening_like scene (ids.Worker w) = record { asked = refl; after = opening-after (script_numbered scene.scripts w) }
opening_like scene (ids.Shard r) =
    record { bag = IsPermutation-refl []; sessions = λ w. at-replicate empty_session sessions w; others = λ w none. at-replicate empty_session sessions w }

pub nothing_stored : (scene : SceneModel) (p : NodeId) → HoldsFront scene p [] None
nothing_stored scene p =
    record { short = omega arith; body = opening_body (role_of scene p) (role_of scene p).id; saved = refl; like = opening_like scene p }

node_sound : (scene : SceneModel) (p : NodeId) (there : Bool) → IsNodeSound scene [] p [] (if there then Some (opening_node (role_of scene p)) else None) None
    None None
node_sound scene p true =
    record {
      like = opening_like scene p;
      kept = λ x c. absurd (Contains-none x c);
      stored = record { permanent = nothing_stored scene p; tentative = λ fine. tt };
      ends = tt;
    }
node_sound scene p false = record { like = tt; kept = tt; stored = record { permanent = nothing_stored scene p; tentative = λ fine. tt }; ends = tt }

no_node_sound : (scene : SceneModel) (p : NodeId) → IsNodeSound scene [] p [] None None None None
no_node_sound scene p = node_sound scene p false

-- ---- the opening

-- nothing is on its way in a new world
pub nothing_sent : (n : ℕ) (k : Option ℕ) (m : Message) → Contains (entry_at [] (replicate n []) k) m → ⊥
nothing_sent n None m c = Contains-none m c
nothing_sent n (Some k) m c = no_messages n k m c

pub opening_sound : (scene : SceneModel) → IsSound (opening scene)
opening_sound scene = record {
  legal = AreLegal-empty (setting_of scene);
  well_formed = IsWellFormed-empty;
  nodes = λ p.
      let Acts : List Act → Type 0 = λ acts. IsNodeSound scene [] p acts (node (opening scene) p) None None None in
      subst Acts (sym (acts_in_log-empty p))
      (opening-rows-hold scene (λ q row. IsNodeSound scene [] q [] row None None None) (λ q. node_sound scene q (is_node scene q)) (λ q. no_node_sound scene q)
      p);
  carries = λ p q m on. absurd (nothing_sent _ (link_place scene p q) m on);
}
