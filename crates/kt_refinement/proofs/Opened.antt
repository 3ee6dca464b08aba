-- The opening of a scene stands for a beginning of the machine.
-- Cited by Refined.
use Rattle.std.proofs.Common.{◌≡◌, ℕ, Bool, true, false, List, [], replicate, Option, Some, None, refl, sym, ap, subst}
use Rattle.std.specs.Prelude.{if◌then◌else◌}
use Rattle.kt_tuple.specs.declared.node.NodeId.{NodeId}
use Rattle.kt_history.proofs.Shared.{log-empty, Contains-none}
use Rattle.kt_link.specs.Network.{entry_at}
use Rattle.kt_state.specs.declared.message.Message.{Message as RealMessage}
use Rattle.kt_state.specs.declared.message.Message.TheVariants as messages
use Rattle.kt_state.specs.Labels.{no_label, table_size}
use Rattle.kt_state.specs.Node.{Node as RealNode, opening_node, node_number}
use Rattle.kt_scenario.specs.Scene.{SceneModel, IsScene, is_node}
use Rattle.kt_model.specs.State.{role_of, node, link_place}
use Rattle.kt_model.specs.Reached.{opening, opening_row}
use Rattle.kt_model.proofs.Shared.{at-replicate, length-replicate, opening-node}
use Rattle.kt_protocol.specs.Logs.{top_sent, top_heard}
use Rattle.kt_protocol.specs.Machine.{Up, Open, Node, State}
use Rattle.kt_protocol.specs.Runs.{new, IsBeginning}
use Rattle.kt_protocol.proofs.Shared.{UpTo-refl}
use Rattle.kt_refinement.proofs.Numbers.{label_of}
use Rattle.kt_refinement.proofs.Reading.{nothing}
use Rattle.kt_refinement.proofs.Represents.{carried, LinkIs, kept_from, StateIs, NodeIs, Represents}

-- nodes are in their first incarnation
abbrev pub new_node : Node
new_node = record {
  mode = Up;
  life = 1;
  count = 0;
  log = [];
  perm = [];
  tent = None;
  kept = λ x. [];
  votes = [];
  joined = [];
  said = [];
}

abbrev pub beginning : State
beginning = record {
  node = λ p. new_node;
  link = λ p q. [];
  board = record { verdict = λ i. Open; begun = λ i. false };
}

pub beginning-begins : (peer : ℕ → ℕ → Bool) → IsBeginning peer beginning
unfolding top_sent top_heard
beginning-begins peer = record {
  first = 0;
  nodes = λ p. new (record { mode = refl; log = refl; perm = refl; tent = refl; kept = λ x. refl; votes = refl; joined = refl; said = refl });
  empty = λ p q. refl;
  fresh = λ i e. refl;
  agree = λ p q near. UpTo-refl _;
}

no-labels : (k : ℕ) → label_of (Rattle.kt_state.specs.Labels.label_at (replicate table_size no_label) k) ≡ record { life = 0; count = 0 }
no-labels k = ap label_of (at-replicate no_label table_size k)

opened-state : (scene : SceneModel) (p : NodeId) → StateIs scene p (opening_row scene p) new_node
unfolding top_sent top_heard kept_from
opened-state scene p = by (is_node scene p) where
  by : (b : Bool) → StateIs scene p (if b then Some (opening_node (role_of scene p)) else None) new_node
  by false = refl
  by true = record {
    phase = refl;
    life = refl;
    count = refl;
    sent = λ q near. no-labels (node_number q);
    received = λ q near. no-labels (node_number q);
    kept = λ q. refl;
  }

opened-node : (scene : SceneModel) (p : NodeId)
    → NodeIs scene [] p [] (opening_row scene p) record { node = p; incarnation = 1; permanent = None; tentative = None } None new_node
unfolding top_sent top_heard
opened-node scene p = record {
  log = nothing;
  life = refl;
  state = opened-state scene p;
  perm = record { reads = nothing; sent = λ q near. refl; received = λ q near. refl };
  tent = refl;
  lower = λ q near. UpTo-refl _;
}

no-link : (n : ℕ) (o : Option ℕ) → entry_at {A = List RealMessage} [] (replicate n []) o ≡ []
no-link n None = refl
no-link n (Some k) = at-replicate {A = List RealMessage} [] n k

opened-link : (q : NodeId) → LinkIs [] q [] []
unfolding carried
opened-link q = record { carries = refl; cast = λ v c. absurd (Contains-none (messages.Vote v) c) }

pub opening-represents : (scene : SceneModel) → IsScene scene → Represents (opening scene) beginning
opening-represents scene is = record {
  nodes = λ p.
      let L : List ℕ → Type 0 =
      λ l. NodeIs scene [] p l (node (opening scene) p) record { node = p; incarnation = 1; permanent = None; tentative = None } None new_node in
      let N : Option RealNode → Type 0 =
      λ n. NodeIs scene [] p [] n record { node = p; incarnation = 1; permanent = None; tentative = None } None new_node in
      subst L (sym (log-empty p)) (subst N (sym (opening-node scene is p)) (opened-node scene p));
  links = λ p q near. subst (λ l. LinkIs l q [] []) (sym (no-link _ (link_place scene p q))) (opened-link q);
  board = λ i. record { check = refl; rollback = refl; check_begun = refl; rollback_begun = refl };
  wide = length-replicate {A = List RealMessage} _ [];
}
