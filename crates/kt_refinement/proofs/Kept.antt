-- What is kept of each node, where one more is kept or the first is taken off.
-- Cited by Hears, PutsBy, Sending.
use Rattle.std.proofs.Common.{◌≡◌, ◌≢◌, Bool, true, false, List, [], ◌∷◌, ◌++◌, refl, sym, ap, subst, ◌∙◌, append_assoc, append-nil, inl, inr, ℕ}
use Rattle.kt_tuple.specs.declared.node.NodeId.{NodeId}
use Rattle.kt_tuple.specs.Node.{node_index, node_eq, node_eq_decides}
use Rattle.kt_tuple.proofs.Shared.{node_eq-refl}
use Rattle.kt_state.specs.declared.message.AppMessage.{AppMessage as RealAppMessage}
use Rattle.kt_protocol.specs.Labels.{at}
use Rattle.kt_protocol.specs.Machine.{AppMessage}
use Rattle.kt_protocol.proofs.Shared.{at-here, at-else}
use Rattle.kt_refinement.proofs.Represents.{app_of, kept_one, kept_from}
use Rattle.kt_refinement.proofs.Frames.{cases-node, apart-index}

pub node-else : (p q : NodeId) → p ≢ q → node_eq p q ≡ false
node-else p q d = by (node_eq p q) refl where
  by : (b : Bool) → node_eq p q ≡ b → b ≡ false
  by true e = absurd (d ((node_eq_decides p q).0 e))
  by false e = refl

one-own : (p : NodeId) (app : RealAppMessage) → kept_one p (p, app) ≡ app_of app ∷ []
one-own p app = rw (node_eq-refl p) refl

one-other : (p q : NodeId) (app : RealAppMessage) → p ≢ q → kept_one q (p, app) ≡ []
one-other p q app d = rw (node-else p q d) refl

from-append : (q : NodeId) (xs ys : List (NodeId × RealAppMessage)) → kept_from q (xs ++ ys) ≡ kept_from q xs ++ kept_from q ys
unfolding kept_from
from-append q [] ys = refl
from-append q (x ∷ xs) ys =
    ap (λ l. kept_one q x ++ l) (from-append q xs ys) ∙ sym (append_assoc (kept_one q x) (kept_from q xs) (kept_from q ys))

from-one : (q : NodeId) (x : NodeId × RealAppMessage) → kept_from q (x ∷ []) ≡ kept_one q x
unfolding kept_from
from-one q x = append-nil (kept_one q x)

pub nothing-kept : (q : NodeId) (kept : List (NodeId × RealAppMessage)) → kept ≡ [] → kept_from q kept ≡ []
unfolding kept_from
nothing-kept q kept e = ap (kept_from q) e

-- a message of p is put behind what is kept
pub kept-more : (p : NodeId) (app : RealAppMessage) (kept : List (NodeId × RealAppMessage)) (was : ℕ → List AppMessage)
    → ((q : NodeId) → was (node_index q) ≡ kept_from q kept)
    → (q : NodeId) → at (node_index p) (was (node_index p) ++ app_of app ∷ []) was (node_index q) ≡ kept_from q (kept ++ (p, app) ∷ [])
kept-more p app kept was so q = elim (cases-node p q) [
  | inl e ↦
      let P : NodeId → Type 0 =
      λ z. at (node_index p) (was (node_index p) ++ app_of app ∷ []) was (node_index z) ≡ kept_from z (kept ++ (p, app) ∷ []) in
      subst P e (at-here (node_index p) _ was ∙ ap (λ l. l ++ app_of app ∷ []) (so p)
      ∙ ap (λ l. kept_from p kept ++ l) (sym (one-own p app)) ∙ sym (grown p))
  | inr d ↦
      at-else (node_index p) _ was (node_index q) (apart-index q p (λ e. d (sym e))) ∙ so q ∙ sym (append-nil (kept_from q kept))
      ∙ ap (λ l. kept_from q kept ++ l) (sym (one-other p q app d)) ∙ sym (grown q)
] where
  grown : (z : NodeId) → kept_from z (kept ++ (p, app) ∷ []) ≡ kept_from z kept ++ kept_one z (p, app)
  grown z = from-append z kept ((p, app) ∷ []) ∙ ap (λ l. kept_from z kept ++ l) (from-one z (p, app))

-- the first that is kept is of p
pub first-kept : (p : NodeId) (app : RealAppMessage) (later : List (NodeId × RealAppMessage)) → kept_from p ((p, app) ∷ later) ≡ app_of app ∷ kept_from p later
unfolding kept_from
first-kept p app later = ap (λ l. l ++ kept_from p later) (one-own p app)

-- and is taken off
pub kept-fewer : (p : NodeId) (app : RealAppMessage) (later : List (NodeId × RealAppMessage)) (was : ℕ → List AppMessage)
    → ((q : NodeId) → was (node_index q) ≡ kept_from q ((p, app) ∷ later))
    → (q : NodeId) → at (node_index p) (kept_from p later) was (node_index q) ≡ kept_from q later
unfolding kept_from
kept-fewer p app later was so q = elim (cases-node p q) [
  | inl e ↦
      let P : NodeId → Type 0 = λ z. at (node_index p) (kept_from p later) was (node_index z) ≡ kept_from z later in
      subst P e (at-here (node_index p) (kept_from p later) was)
  | inr d ↦
      at-else (node_index p) (kept_from p later) was (node_index q) (apart-index q p (λ e. d (sym e))) ∙ so q
      ∙ ap (λ l. l ++ kept_from q later) (one-other p q app d)
]
