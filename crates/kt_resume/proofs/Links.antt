-- The labels of a node fit with each neighbour where they fit with each node of the other kind in the scene.
-- Cited by `labels::labels_fit`.
use Rattle.std.proofs.Common.{◌≡◌, ◌⊎◌, ℕ, ◌+◌, ◌<◌, ◌≤◌, Bool, true, false, List, [], ◌∷◌, ◌++◌, length, map, inl, inr, refl, sym, ap, ◌∙◌, subst, arith}
use Rattle.std.proofs.Common.{Contains, zero, suc}
use Rattle.std.specs.Prelude.{◌&&◌, ◌||◌, IsTrue, nat_le, not}
use Rattle.std.specs.List.{list_all, range_with_len}
use Rattle.std.proofs.lemmas.Bool.{and_from, and_parts, le-leb, leb-true}
use Rattle.std.proofs.lemmas.List.Elements.{Contains-append_cases}
use Rattle.kt_tuple.specs.declared.node.NodeId.{NodeId}
use Rattle.kt_tuple.specs.declared.node.NodeId.TheVariants as ids
use Rattle.kt_history.proofs.Lists.{Contains-cons_cases, Contains-none, list_all-at, list_all-from}
use Rattle.kt_store.specs.Content.{Content, row_of}
use Rattle.kt_state.specs.Labels.{up_to}
use Rattle.kt_scenario.specs.Scene.{SceneModel, are_neighbours, is_node}
use Rattle.kt_model.specs.Resumed.{heard_from, nodes_of, sent_to}
use Rattle.kt_model.proofs.Scene.{Ends, ends, from_ends, neighbour-node, to_shard, to_worker}
use Rattle.kt_scenario.proofs.Shared.{IsNode, a_shard, a_worker, of_node}
use Rattle.kt_model.proofs.Together.{among-nodes}
use Rattle.kt_resume.specs.auxiliary.Labels.{LabelsFit, are_across, link_fits}

-- ---- the nodes of the scene

in-workers : (scene : SceneModel) (from n : ℕ) (q : NodeId) → 1 ≤ from → from + n ≤ length scene.scripts + 1
    → Contains (map (λ i. ids.Worker i) (range_with_len from n)) q → IsNode scene q
in-workers scene from zero q some few on = absurd (Contains-none q on)
in-workers scene from (suc n) q some few on = elim (Contains-cons_cases (ids.Worker from) (map (λ i. ids.Worker i) (range_with_len (from + 1) n)) q on) [
  | inl e ↦ subst (IsNode scene) e (a_worker some (omega (arith, few)))
  | inr later ↦ in-workers scene (from + 1) n q (omega (arith, some)) (omega (arith, few)) later
]

in-shards : (scene : SceneModel) (from n : ℕ) (q : NodeId) → 1 ≤ from → from + n ≤ scene.shards + 1
    → Contains (map (λ i. ids.Shard i) (range_with_len from n)) q → IsNode scene q
in-shards scene from zero q some few on = absurd (Contains-none q on)
in-shards scene from (suc n) q some few on = elim (Contains-cons_cases (ids.Shard from) (map (λ i. ids.Shard i) (range_with_len (from + 1) n)) q on) [
  | inl e ↦ subst (IsNode scene) e (a_shard some (omega (arith, few)))
  | inr later ↦ in-shards scene (from + 1) n q (omega (arith, some)) (omega (arith, few)) later
]

pub in-scene : (scene : SceneModel) (q : NodeId) → Contains (nodes_of scene) q → IsNode scene q
in-scene scene q on =
    elim (Contains-append_cases (map (λ i. ids.Worker i) (range_with_len 1 (length scene.scripts))) (map (λ i. ids.Shard i) (range_with_len 1 scene.shards)) q
    on) [
      | inl w ↦ in-workers scene 1 (length scene.scripts) q (omega arith) (omega arith) w
      | inr s ↦ in-shards scene 1 scene.shards q (omega arith) (omega arith) s
    ]

-- neighbours are of two kinds, and nodes of two kinds are neighbours
ends-across : (scene : SceneModel) (p q : NodeId) → Ends scene p q → are_across p q ≡ true
ends-across scene p q (to_shard a b c d) = refl
ends-across scene p q (to_worker a b c d) = refl

across-ends : (scene : SceneModel) (p q : NodeId) → IsNode scene p → IsNode scene q → are_across p q ≡ true → Ends scene p q
across-ends scene p q (a_worker a b) (a_shard c d) across = to_shard a b c d
across-ends scene p q (a_shard c d) (a_worker a b) across = to_worker a b c d
across-ends scene p q (a_worker a b) (a_worker c d) across = absurd (cc (across))
across-ends scene p q (a_shard a b) (a_shard c d) across = absurd (cc (across))

-- ---- labels

of-test : (a b : Bool) → a ≡ true → IsTrue (not a || b) → IsTrue b
of-test true b e t = t
of-test false b e t = absurd (cc (e))

to-test : (a b : Bool) → (a ≡ true → IsTrue b) → (not a || b) ≡ true
to-test true b t = t refl
to-test false b t = refl

pub labels-from : (scene : SceneModel) (c : Content) (p : NodeId) (nodes : List NodeId) → nodes ≡ nodes_of scene
    → list_all (λ q. not (are_across p q) || link_fits c p q) nodes ≡ true → LabelsFit scene c p
labels-from scene c p nodes same all = record {
  agree = λ q near. (parts q near).0;
  lives = λ q near. leb-true (sent_to c p q).incarnation (row_of c p).incarnation (parts q near).1;
} where
  parts : (q : NodeId) → IsTrue (are_neighbours scene p q)
      → (up_to (heard_from c p q) (sent_to c q p) ≡ true) × (nat_le (sent_to c p q).incarnation (row_of c p).incarnation ≡ true)
  parts q near =
      let on : Contains nodes q = subst (λ (l : List NodeId). Contains l q) (sym same) (among-nodes scene q (neighbour-node scene p q near)) in
      let t = list_all-at (λ r. not (are_across p r) || link_fits c p r) nodes q all on in
      and_parts (up_to (heard_from c p q) (sent_to c q p)) (nat_le (sent_to c p q).incarnation (row_of c p).incarnation)
      (of-test (are_across p q) (link_fits c p q) (ends-across scene p q (ends scene p q near)) t)

pub labels-to : (scene : SceneModel) (c : Content) (p : NodeId) (nodes : List NodeId) → nodes ≡ nodes_of scene → IsTrue (is_node scene p)
    → LabelsFit scene c p → list_all (λ q. not (are_across p q) || link_fits c p q) nodes ≡ true
labels-to scene c p nodes same there fit =
    list_all-from (λ r. not (are_across p r) || link_fits c p r) nodes (λ q on.
    to-test (are_across p q) (link_fits c p q) (λ across.
    let near = from_ends scene p q (across-ends scene p q (of_node scene p there) (in-scene scene q (subst (λ (l : List NodeId). Contains l q) same on))
    across) in
    and_from (up_to (heard_from c p q) (sent_to c q p)) (nat_le (sent_to c p q).incarnation (row_of c p).incarnation) (fit.agree q near)
    (le-leb (sent_to c p q).incarnation (row_of c p).incarnation (fit.lives q near))))
