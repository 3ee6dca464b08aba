-- The machine's first state where a world goes on from what a store holds.
-- Cited by Resumed.
use Rattle.std.proofs.Common.{◌≡◌, ℕ, zero, suc, ◌+◌, ◌≤◌, Bool, true, false, if◌then◌else◌, List, [], ◌∷◌, Option, Some, None, IsTrue, refl, sym, subst}
use Rattle.std.proofs.Common.{arith}
use Rattle.std.specs.Option.{option_map}
use Rattle.kt_tuple.specs.declared.node.NodeId.{NodeId}
use Rattle.kt_tuple.specs.Node.{node_index}
use Rattle.kt_link.specs.declared.label.Label.{Label as RealLabel}
use Rattle.kt_ckpt.specs.declared.ckpt.Ckpt.{Ckpt}
use Rattle.kt_ckpt.specs.Header.{header_of}
use Rattle.kt_store.specs.declared.rows.InstanceRow.{InstanceRow}
use Rattle.kt_store.specs.declared.rows.Purpose.{Purpose}
use Rattle.kt_store.specs.declared.rows.Purpose.TheVariants as purposes
use Rattle.kt_store.specs.Content.{Content, instance_row, row_of}
use Rattle.kt_state.specs.Labels.{no_label as no_real_label, label_at}
use Rattle.kt_state.specs.Node.{node_number}
use Rattle.kt_state.specs.Stored.{sent_in}
use Rattle.kt_scenario.specs.Scene.{SceneModel, is_node, are_neighbours}
use Rattle.kt_model.specs.Cut.{permanent_of}
use Rattle.kt_model.specs.Resumed.{AllFit, heard_from, sent_to}
use Rattle.kt_model.specs.auxiliary.Ready.{AreNeighbours}
use Rattle.kt_model.proofs.Shared.{neighbours-turned, neighbour-node}
use Rattle.kt_protocol.specs.Labels.{Label, Under, UpTo, no_label}
use Rattle.kt_protocol.specs.Logs.{Act, Resumes, top_sent, top_heard}
use Rattle.kt_protocol.specs.Machine.{Instance, Check, Rollback, Verdict, Open, Up, Down, Node, State}
use Rattle.kt_protocol.specs.Runs.{IsFirst, new, resumed as is_resumed, IsBeginning}
use Rattle.kt_protocol.proofs.Shared.{up_to-true}
use Rattle.kt_refinement.proofs.Numbers.{named, index-named, peers, label_of}
use Rattle.kt_refinement.proofs.Represents.{verdict_as, begun_as}

-- ---- the machine's nodes

-- counts of all labels together: no label's is above
unfoldable pub all_counts : List RealLabel → ℕ
all_counts [] = 0
all_counts (l ∷ later) = l.count + all_counts later

unfoldable pub counts-of : Option Ckpt → ℕ
counts-of None = 0
counts-of (Some c) = all_counts c.sent

abbrev pub sent_by : SceneModel → Content → NodeId → ℕ → Label
sent_by scene c p j = if are_neighbours scene p (named j) then label_of (sent_to c p (named j)) else no_label

abbrev pub heard_by : SceneModel → Content → NodeId → ℕ → Label
heard_by scene c p j = if are_neighbours scene p (named j) then label_of (heard_from c p (named j)) else no_label

-- what the node has of its acts, which all have numbers up to this one
abbrev pub ground : SceneModel → Content → ℕ → NodeId → Act
ground scene c first p = Resumes (node_index p) first (sent_by scene c p) (heard_by scene c p)

abbrev pub resumed_as : SceneModel → Content → ℕ → NodeId → Node
resumed_as scene c first p = record {
  mode = Down;
  life = (row_of c p).incarnation;
  count = counts-of (permanent_of c p);
  log = ground scene c first p ∷ [];
  perm = ground scene c first p ∷ [];
  tent = None;
  kept = λ x. [];
  votes = [];
  joined = [];
  said = [];
}

-- who is not in the scene
abbrev pub other_as : ℕ → Node
other_as life = record { mode = Up; life = life; count = 0; log = []; perm = []; tent = None; kept = λ x. []; votes = []; joined = []; said = [] }

abbrev pub node_as : SceneModel → Content → ℕ → NodeId → Node
node_as scene c first p = if is_node scene p then resumed_as scene c first p else other_as (row_of c p).incarnation

abbrev check_or : Content → Instance → Verdict
check_or c (Check i) = verdict_as purposes.Check (instance_row c i)
check_or c (Rollback i) = verdict_as purposes.Rollback (instance_row c i)

abbrev begun_or : Content → Instance → Bool
begun_or c (Check i) = begun_as purposes.Check (instance_row c i)
begun_or c (Rollback i) = begun_as purposes.Rollback (instance_row c i)

abbrev pub machine_of : SceneModel → Content → ℕ → State
machine_of scene c first = record {
  node = λ k. node_as scene c first (named k);
  link = λ p q. [];
  board = record { verdict = check_or c; begun = begun_or c };
}

-- ---- it is a beginning

counts-above : (labels : List RealLabel) (k : ℕ) → (label_at labels k).count ≤ all_counts labels
unfolding all_counts
counts-above [] k = omega arith
counts-above (l ∷ later) zero = omega arith
counts-above (l ∷ later) (suc k) = let h = counts-above later k in omega (arith, h)

listed-above : (labels : List RealLabel) (k : ℕ) → (label_at (no_real_label ∷ labels) k).count ≤ all_counts labels
listed-above labels zero = omega arith
listed-above labels (suc k) = counts-above labels k

sent-above : (o : Option Ckpt) (k : ℕ) → (sent_in (option_map header_of o) k).count ≤ counts-of o
unfolding counts-of
sent-above None k = omega arith
sent-above (Some c) k = listed-above c.sent k

fresh-as : (purpose : Purpose) (o : Option InstanceRow) → begun_as purpose o ≡ false → verdict_as purpose o ≡ Open
fresh-as purpose None e = refl
fresh-as purpose (Some row) e = rw e refl

is-first : (scene : SceneModel) (c : Content) → AllFit scene c → (first : ℕ) (p : NodeId) → IsFirst first (node_index p) (node_as scene c first p)
is-first scene c fit first p = by (is_node scene p) where
  room : (q : ℕ) → Under (sent_by scene c p q) record { life = (row_of c p).incarnation; count = suc (counts-of (permanent_of c p)) }
  room q = pick (are_neighbours scene p (named q)) refl where
    pick : (b : Bool) → are_neighbours scene p (named q) ≡ b
        → Under (if b then label_of (sent_to c p (named q)) else no_label) record
        { life = (row_of c p).incarnation; count = suc (counts-of (permanent_of c p)) }
    pick true near =
        let low = fit.lives p (named q) near in
        let few = sent-above (permanent_of c p) (node_number (named q)) in
        record { lives = low; counts = λ e. omega (arith, few) }
    pick false apart = record { lives = omega arith; counts = λ e. omega arith }

  by : (b : Bool) → IsFirst first (node_index p) (if b then resumed_as scene c first p else other_as (row_of c p).incarnation)
  by true = is_resumed (record {
    mode = refl;
    sent = sent_by scene c p;
    heard = heard_by scene c p;
    log = refl;
    perm = refl;
    room = room;
    tent = refl;
    kept = λ x. refl;
    votes = refl;
    joined = refl;
    said = refl;
  })
  by false = new (record { mode = refl; log = refl; perm = refl; tent = refl; kept = λ x. refl; votes = refl; joined = refl; said = refl })

top-sent-as : (scene : SceneModel) (c : Content) (first : ℕ) (p : NodeId) (j : ℕ) → IsTrue (is_node scene p) → AreNeighbours scene p (named j)
    → top_sent (node_as scene c first p).perm j ≡ label_of (sent_to c p (named j))
unfolding top_sent
top-sent-as scene c first p j own near = rw own (rw near refl)

top-heard-as : (scene : SceneModel) (c : Content) (first : ℕ) (p : NodeId) (j : ℕ) → IsTrue (is_node scene p) → AreNeighbours scene p (named j)
    → top_heard (node_as scene c first p).perm j ≡ label_of (heard_from c p (named j))
unfolding top_heard
top-heard-as scene c first p j own near = rw own (rw near refl)

pub machine-begins : (scene : SceneModel) (c : Content) → AllFit scene c → (first : ℕ) → IsBeginning (peers scene) (machine_of scene c first)
unfolding top_sent top_heard
machine-begins scene c fit first = record {
  first = first;
  nodes = λ k. subst (λ j. IsFirst first j (node_as scene c first (named k))) (index-named k) (is-first scene c fit first (named k));
  empty = λ p q. refl;
  fresh = λ i e. fresh i e;
  agree = agree;
} where
  fresh : (i : Instance) → begun_or c i ≡ false → check_or c i ≡ Open
  fresh (Check i) e = fresh-as purposes.Check (instance_row c i) e
  fresh (Rollback i) e = fresh-as purposes.Rollback (instance_row c i) e

  agree : (p q : ℕ) → IsTrue (peers scene p q) → UpTo (top_heard (node_as scene c first (named q)).perm p) (top_sent (node_as scene c first (named p)).perm q)
  agree p q near =
      let back : AreNeighbours scene (named q) (named p) = neighbours-turned scene (named p) (named q) near in
      let Low : Label → Type 0 = λ l. UpTo l (top_sent (node_as scene c first (named p)).perm q) in
      let High : Label → Type 0 = λ l. UpTo (label_of (heard_from c (named q) (named p))) l in
      subst Low (sym (top-heard-as scene c first (named q) p (neighbour-node scene (named p) (named q) near) back))
      (subst High (sym (top-sent-as scene c first (named p) q (neighbour-node scene (named q) (named p) back) near))
      (up_to-true _ _ (fit.agree (named q) (named p) back)))
