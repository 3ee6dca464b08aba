-- Neighbours stand in node order.
-- Cited by joining.rt, `joining::neighbours`.
use Rattle.std.proofs.Common.{◌≡◌, ℕ, zero, suc, ◌+◌, ◌<◌, [], ◌∷◌, ◌++◌, map, All, sym, ap, subst, ◌∙◌, arith}
use Rattle.std.proofs.lemmas.Bool.{lt-ltb}
use Rattle.std.proofs.lemmas.List.{map-append}
use Rattle.std.proofs.lemmas.List.Elements.{All-nil, All-push, All-get_or}
use Rattle.std.proofs.lemmas.List.Quantifiers.{all_pairs_push}
use Rattle.kt_tuple.specs.declared.node.NodeId.{NodeId}
use Rattle.kt_tuple.specs.declared.node.NodeId.TheVariants as ids
use Rattle.kt_vote.specs.Order.{IsBefore, IsInOrder}
use Rattle.kt_state.specs.Labels.{numbers}
use Rattle.kt_state.specs.Node.{across}
use Rattle.kt_state.proofs.Shared.{one_more, mapped_from_one, mapped_none}

-- as the loop over all neighbours begins and goes on
pub none_yet : {A : Type 0} (f : ℕ → A) (from : ℕ) → map f (numbers from 0) ≡ []
none_yet f from = mapped_none f from

pub one_more_yet : {A : Type 0} (f : ℕ → A) (n : ℕ) → map f (numbers 1 (n + 1)) ≡ map f (numbers 1 n) ++ f (n + 1) ∷ []
one_more_yet f n = mapped_from_one f n

before : (id : NodeId) (m n : ℕ) → m < n → IsBefore (across id m) (across id n)
before (ids.Worker k) m n lt = lt-ltb m n lt
before (ids.Shard k) m n lt = lt-ltb m n lt

more : (id : NodeId) (n : ℕ) → map (across id) (numbers 1 (suc n)) ≡ map (across id) (numbers 1 n) ++ across id (1 + n) ∷ []
more id n = ap (map (across id)) (one_more 1 n) ∙ map-append (across id) (numbers 1 n) ((1 + n) ∷ [])

all_before : (id : NodeId) (n m : ℕ) → n < m → All (λ x. IsBefore x (across id m)) (map (across id) (numbers 1 n))
all_before id zero m lt = subst (All (λ x. IsBefore x (across id m))) (sym (mapped_none (across id) 1)) (All-nil (λ x. IsBefore x (across id m)))
all_before id (suc n) m lt =
    subst (All (λ x. IsBefore x (across id m))) (sym (more id n))
    (All-push (λ x. IsBefore x (across id m)) (map (across id) (numbers 1 n)) (across id (1 + n)) (all_before id n m (omega (arith, lt)))
    (before id (1 + n) m (omega (arith, lt))))

pub in_order : (id : NodeId) (n : ℕ) → IsInOrder (map (across id) (numbers 1 n))
in_order id zero = subst IsInOrder (sym (mapped_none (across id) 1)) (λ i j d lt within. let none : ⊥ = omega (arith, within) in absurd none)
in_order id (suc n) =
    subst IsInOrder (sym (more id n))
    (all_pairs_push IsBefore (map (across id) (numbers 1 n)) (across id (1 + n)) (in_order id n)
    (λ k d within. All-get_or (λ x. IsBefore x (across id (1 + n))) (map (across id) (numbers 1 n)) k d within (all_before id n (1 + n) (omega arith))))
