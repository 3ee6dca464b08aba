-- Whom a node asks: each neighbour of a kind gets one ask, all others none; and what an ask drops of what is kept.
-- Cited by Acting, Answering, BeginsCheck, Checking, JoinsCheck, JoinsRollback, Restarts.
use Rattle.std.proofs.Common.{◌≡◌, ◌≢◌, ℕ, zero, suc, ◌+◌, ◌<◌, ◌≤◌, Bool, true, false, not, ◌&&◌, ◌||◌, cond, eqb}
use Rattle.std.proofs.Common.{IsTrue, List, [], ◌∷◌, ◌++◌, map, filter, Contains, inl, inr, refl, sym, ap, subst, ◌∙◌, arith}
use Rattle.std.specs.Prelude.{if◌then◌else◌}
use Rattle.std.specs.List.{list_any}
use Rattle.std.proofs.lemmas.Bool.{cases_eq, eq-eqb, ne_eqb}
use Rattle.kt_tuple.specs.declared.node.NodeId.{NodeId}
use Rattle.kt_tuple.specs.declared.node.NodeId.TheVariants as ids
use Rattle.kt_tuple.specs.Node.{node_index, node_eq, node_eq_decides}
use Rattle.kt_history.proofs.Shared.{Contains-here, Contains-there}
use Rattle.kt_logs.proofs.Shared.{all-at}
use Rattle.kt_link.specs.declared.label.Label.{Label as RealLabel}
use Rattle.kt_state.specs.declared.message.Message.{Message as RealMessage}
use Rattle.kt_state.specs.declared.message.AppMessage.{AppMessage as RealAppMessage}
use Rattle.kt_state.specs.Labels.{numbers, up_to}
use Rattle.kt_state.specs.Node.{across, neighbours, node_number}
use Rattle.kt_state.specs.Updating.{is_above}
use Rattle.kt_scenario.specs.Scene.{SceneModel, are_neighbours, is_node}
use Rattle.kt_model.specs.State.{role_of}
use Rattle.kt_model.specs.auxiliary.Ready.{AreNeighbours}
use Rattle.kt_model.proofs.Shared.{all-map, all-filter, all-numbers, Ends, to_shard, to_worker, ends, across-neighbour, role-id}
use Rattle.kt_protocol.specs.Steps.{sieve}
use Rattle.kt_refinement.proofs.Numbers.{named, peers, peers-of, named-index, label_of}
use Rattle.kt_refinement.proofs.Represents.{kept_one, kept_from, app_of}
use Rattle.kt_refinement.proofs.Links.{to}

-- ---- the neighbours of a node by their numbers

abbrev Across : NodeId → (NodeId → Bool) → ℕ → ℕ → List NodeId
Across p g from n = filter g (map (across p) (numbers from n))

across-eq : (p : NodeId) (j k : ℕ) → node_eq (across p j) (across p k) ≡ eqb j k
across-eq (ids.Worker n) j k = refl
across-eq (ids.Shard n) j k = refl

abbrev pub addressed : (NodeId → RealMessage) → NodeId → NodeId × RealMessage
addressed f x = (x, f x)

to-none : (p : NodeId) (g : NodeId → Bool) (f : NodeId → RealMessage) (from n k : ℕ) → k < from → to (across p k) (map (addressed f) (Across p g from n)) ≡ []
unfolding numbers to
to-none p g f from zero k lt = refl
to-none p g f from (suc n) k lt = by (g (across p from)) (to-none p g f (suc from) n k (omega (arith, lt))) where
  by : (b : Bool) → to (across p k) (map (addressed f) (Across p g (suc from) n)) ≡ []
      → to (across p k) (map (addressed f) (cond b (across p from ∷ Across p g (suc from) n) (Across p g (suc from) n))) ≡ []
  by false rest = rest
  by true rest = rw (across-eq p from k ∙ ne_eqb from k (λ e. omega (arith, e, lt))) rest

to-one : (p : NodeId) (g : NodeId → Bool) (f : NodeId → RealMessage) (from n k : ℕ) → from ≤ k → k < from + n
    → to (across p k) (map (addressed f) (Across p g from n)) ≡ (if g (across p k) then f (across p k) ∷ [] else [])
unfolding numbers to
to-one p g f from zero k low high = absurd (omega (arith, low, high))
to-one p g f from (suc n) k low high = elim (cases_eq from k) [
  | inl e ↦ subst (λ j. to (across p j) (map (addressed f) (Across p g from (suc n))) ≡ (if g (across p j) then f (across p j) ∷ [] else [])) e
      (here (g (across p from)) refl)
  | inr d ↦ there d (g (across p from)) (to-one p g f (suc from) n k (omega (arith, low, d)) (omega (arith, high)))
] where
  here : (b : Bool) → g (across p from) ≡ b
      → to (across p from) (map (addressed f) (cond b (across p from ∷ Across p g (suc from) n) (Across p g (suc from) n)))
      ≡ (if b then f (across p from) ∷ [] else [])
  here true e = rw (across-eq p from from ∙ eq-eqb from from refl) (ap (λ l. f (across p from) ∷ l) (to-none p g f (suc from) n from (omega arith)))
  here false e = to-none p g f (suc from) n from (omega arith)

  there : from ≢ k → (b : Bool) → to (across p k) (map (addressed f) (Across p g (suc from) n)) ≡ (if g (across p k) then f (across p k) ∷ [] else [])
      → to (across p k) (map (addressed f) (cond b (across p from ∷ Across p g (suc from) n) (Across p g (suc from) n)))
      ≡ (if g (across p k) then f (across p k) ∷ [] else [])
  there d false rest = rest
  there d true rest = rw (across-eq p from k ∙ ne_eqb from k d) rest

any-none : (p : NodeId) (g : NodeId → Bool) (from n k : ℕ) → k < from → list_any (λ x. node_eq x (across p k)) (Across p g from n) ≡ false
unfolding numbers
any-none p g from zero k lt = refl
any-none p g from (suc n) k lt = by (g (across p from)) (any-none p g (suc from) n k (omega (arith, lt))) where
  by : (b : Bool) → list_any (λ x. node_eq x (across p k)) (Across p g (suc from) n) ≡ false
      → list_any (λ x. node_eq x (across p k)) (cond b (across p from ∷ Across p g (suc from) n) (Across p g (suc from) n)) ≡ false
  by false rest = rest
  by true rest = rw (across-eq p from k ∙ ne_eqb from k (λ e. omega (arith, e, lt))) rest

any-one : (p : NodeId) (g : NodeId → Bool) (from n k : ℕ) → from ≤ k → k < from + n
    → list_any (λ x. node_eq x (across p k)) (Across p g from n) ≡ g (across p k)
unfolding numbers
any-one p g from zero k low high = absurd (omega (arith, low, high))
any-one p g from (suc n) k low high = elim (cases_eq from k) [
  | inl e ↦ subst (λ j. list_any (λ x. node_eq x (across p j)) (Across p g from (suc n)) ≡ g (across p j)) e (here (g (across p from)) refl)
  | inr d ↦ there d (g (across p from)) (any-one p g (suc from) n k (omega (arith, low, d)) (omega (arith, high)))
] where
  here : (b : Bool) → g (across p from) ≡ b
      → list_any (λ x. node_eq x (across p from)) (cond b (across p from ∷ Across p g (suc from) n) (Across p g (suc from) n)) ≡ b
  here true e = rw (across-eq p from from ∙ eq-eqb from from refl) refl
  here false e = any-none p g (suc from) n from (omega arith)

  there : from ≢ k → (b : Bool) → list_any (λ x. node_eq x (across p k)) (Across p g (suc from) n) ≡ g (across p k)
      → list_any (λ x. node_eq x (across p k)) (cond b (across p from ∷ Across p g (suc from) n) (Across p g (suc from) n)) ≡ g (across p k)
  there d false rest = rest
  there d true rest = rw (across-eq p from k ∙ ne_eqb from k d) rest

-- a neighbour is across
pub record IsAcross (scene : SceneModel) (p q : NodeId) : Type 0 where
  pub is : q ≡ across p (node_number q)
  pub low : 1 ≤ node_number q
  pub high : node_number q ≤ (role_of scene p).peers

pub is_across : (scene : SceneModel) (p q : NodeId) → AreNeighbours scene p q → IsAcross scene p q
is_across scene p q near = by p q (ends scene p q near) where
  by : (p q : NodeId) → Ends scene p q → IsAcross scene p q
  by p q (to_shard a b c d) = record { is = refl; low = c; high = d }
  by p q (to_worker a b c d) = record { is = refl; low = a; high = b }

-- those neighbours that pass
abbrev pub chosen : SceneModel → NodeId → (NodeId → Bool) → List NodeId
chosen scene p g = filter g (neighbours (role_of scene p))

abbrev pub cohort : SceneModel → NodeId → (NodeId → Bool) → ℕ → Bool
cohort scene p g m = peers scene (node_index p) m && g (named m)

-- each of these gets its ask
pub asked-once : (scene : SceneModel) (p : NodeId) (g : NodeId → Bool) (f : NodeId → RealMessage) (q : NodeId) → AreNeighbours scene p q
    → to q (map (addressed f) (chosen scene p g)) ≡ (if g q then f q ∷ [] else [])
asked-once scene p g f q near =
    let a = is_across scene p q near in
    let P : NodeId → Type 0 = λ x. to x (map (addressed f) (chosen scene p g)) ≡ (if g x then f x ∷ [] else []) in
    let R : NodeId → Type 0 = λ i. to (across p (node_number q)) (map (addressed f) (filter g (map (across i) (numbers 1 (role_of scene p).peers))))
    ≡ (if g (across p (node_number q)) then f (across p (node_number q)) ∷ [] else []) in
    let low = a.low in
    let high = a.high in
    subst P (sym a.is) (subst R (sym (role-id scene p)) (to-one p g f 1 (role_of scene p).peers (node_number q) low (omega (arith, high))))

any-found : (q : NodeId) (xs : List NodeId) → list_any (λ x. node_eq x q) xs ≡ true → Contains xs q
any-found q [] e = absurd (cc (e))
any-found q (x ∷ xs) e = by (node_eq x q) refl e (any-found q xs) where
  by : (b : Bool) → node_eq x q ≡ b → (b || list_any (λ x. node_eq x q) xs) ≡ true → (list_any (λ x. node_eq x q) xs ≡ true → Contains xs q)
      → Contains (x ∷ xs) q
  by true same e rest = subst (λ y. Contains (x ∷ xs) y) ((node_eq_decides x q).0 same) (Contains-here x xs)
  by false other e rest = Contains-there x xs q (rest e)

chosen-near : (scene : SceneModel) (p : NodeId) (g : NodeId → Bool) (q : NodeId) → IsTrue (is_node scene p) → Contains (chosen scene p g) q
    → AreNeighbours scene p q
chosen-near scene p g q is on =
    let R : NodeId → Type 0 = λ i. Rattle.std.specs.List.AllByRecursion (AreNeighbours scene p)
    (filter g (map (across i) (numbers 1 (role_of scene p).peers))) in
    all-at (AreNeighbours scene p) (chosen scene p g) q
    (subst R (sym (role-id scene p)) (all-filter (AreNeighbours scene p) g (map (across p) (numbers 1 (role_of scene p).peers))
    (all-map (AreNeighbours scene p) (across p) (numbers 1 (role_of scene p).peers)
    (all-numbers (λ k. AreNeighbours scene p (across p k)) 1 (role_of scene p).peers
    (λ k low high. across-neighbour scene p k is low (omega (arith, high))))))) on

-- these are the machine's cohort
pub chosen-cohort : (scene : SceneModel) (p : NodeId) (g : NodeId → Bool) (q : NodeId) → IsTrue (is_node scene p)
    → cohort scene p g (node_index q) ≡ list_any (λ x. node_eq x q) (chosen scene p g)
chosen-cohort scene p g q is =
    ap (λ b. b && g (named (node_index q))) (peers-of scene p q) ∙ ap (λ x. are_neighbours scene p q && g x) (named-index q)
    ∙ by (are_neighbours scene p q) refl where
      no : (b : Bool) → list_any (λ x. node_eq x q) (chosen scene p g) ≡ b → are_neighbours scene p q ≡ false → false ≡ b
      no true e f = absurd (cc (f, chosen-near scene p g q is (any-found q (chosen scene p g) e)))
      no false e f = refl

      by : (b : Bool) → are_neighbours scene p q ≡ b → (b && g q) ≡ list_any (λ x. node_eq x q) (chosen scene p g)
      by true e =
          let a = is_across scene p q e in
          let low = a.low in
          let high = a.high in
          let P : NodeId → Type 0 = λ x. g x ≡ list_any (λ y. node_eq y x) (chosen scene p g) in
          let R : NodeId → Type 0 = λ i. g (across p (node_number q))
          ≡ list_any (λ y. node_eq y (across p (node_number q))) (filter g (map (across i) (numbers 1 (role_of scene p).peers))) in
          subst P (sym a.is) (subst R (sym (role-id scene p)) (sym (any-one p g 1 (role_of scene p).peers (node_number q) low (omega (arith, high)))))
      by false e = no (list_any (λ x. node_eq x q) (chosen scene p g)) refl e

-- ---- what an ask drops

pub kept-sieved : (p : NodeId) (l : RealLabel) (kept : List (NodeId × RealAppMessage))
    → kept_from p (filter (λ x. not (is_above p l x)) kept) ≡ sieve (label_of l) (kept_from p kept)
unfolding kept_from sieve
kept-sieved p l [] = refl
kept-sieved p l (x ∷ kept) = by (node_eq x.0 p) refl (up_to x.1.label l) refl (kept-sieved p l kept) where
  by : (b : Bool) → node_eq x.0 p ≡ b → (u : Bool) → up_to x.1.label l ≡ u
      → kept_from p (filter (λ y. not (is_above p l y)) kept) ≡ sieve (label_of l) (kept_from p kept)
      → kept_from p (cond (not (b && not u)) (x ∷ filter (λ y. not (is_above p l y)) kept) (filter (λ y. not (is_above p l y)) kept))
      ≡ sieve (label_of l) ((if b then app_of x.1 ∷ [] else []) ++ kept_from p kept)
  by true e true f rest = rw e (rw f (ap (λ k. app_of x.1 ∷ k) rest))
  by true e false f rest = rw f rest
  by false e u f rest = rw e rest

pub kept-others : (p q : NodeId) (l : RealLabel) (kept : List (NodeId × RealAppMessage)) → p ≢ q
    → kept_from q (filter (λ x. not (is_above p l x)) kept) ≡ kept_from q kept
unfolding kept_from
kept-others p q l [] d = refl
kept-others p q l (x ∷ kept) d = by (node_eq x.0 p) refl (up_to x.1.label l) (kept-others p q l kept d) where
  none : node_eq x.0 p ≡ true → node_eq x.0 q ≡ false
  none e = so (node_eq x.0 q) refl where
    so : (b : Bool) → node_eq x.0 q ≡ b → b ≡ false
    so true f = absurd (d (sym ((node_eq_decides x.0 p).0 e) ∙ (node_eq_decides x.0 q).0 f))
    so false f = refl

  by : (b : Bool) → node_eq x.0 p ≡ b → (u : Bool)
      → kept_from q (filter (λ y. not (is_above p l y)) kept) ≡ kept_from q kept
      → kept_from q (cond (not (b && not u)) (x ∷ filter (λ y. not (is_above p l y)) kept) (filter (λ y. not (is_above p l y)) kept))
      ≡ kept_one q x ++ kept_from q kept
  by true e true rest = ap (λ k. kept_one q x ++ k) rest
  by true e false rest = rw (none e) rest
  by false e u rest = ap (λ k. kept_one q x ++ k) rest
