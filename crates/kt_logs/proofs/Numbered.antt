-- Tables with a row for each number, and names of nodes: what holds of a row that was put, and of the others.
-- Cited by Follows, Merge, OneRun, Traces; other crates.
use Rattle.std.proofs.Common.{◌≡◌, ◌≢◌, ℕ, false, eq-eqb, ne_eqb, inl, inr, sym, refl, ap, subst}
use Rattle.std.proofs.lemmas.Bool.{cases_eq, eqb-false}
use Rattle.kt_tuple.specs.declared.node.NodeId.{NodeId}
use Rattle.kt_tuple.specs.Node.{node_index}
use Rattle.kt_history.specs.Log.{same_node}
use Rattle.kt_logs.specs.ShardLog.{put_row}

pub put_row-same : {X : Type 0} (k : ℕ) (x : X) (rows : ℕ → X) → put_row k x rows k ≡ x
put_row-same k x rows = rw (eq-eqb k k refl) refl

pub put_row-other : {X : Type 0} (k i : ℕ) (x : X) (rows : ℕ → X) → k ≢ i → put_row k x rows i ≡ rows i
put_row-other k i x rows d = rw (ne_eqb k i d) refl

-- what holds at k of the new row, and elsewhere of the old ones
pub put_row_holds : {X : Type 0} (P : ℕ → X → Type 0) (k : ℕ) (x : X) (rows : ℕ → X) → P k x → ((i : ℕ) → k ≢ i → P i (rows i)) → (i : ℕ)
    → P i (put_row k x rows i)
put_row_holds P k x rows new old i =
    elim (cases_eq k i) [
      | inl e ↦ subst (λ j. P j (put_row k x rows j)) e (subst (λ y. P k y) (sym (put_row-same k x rows)) new)
      | inr d ↦ subst (λ y. P i y)
          (sym (put_row-other k i x rows d)) (old i d)
    ]

pub same_node-false : (p q : NodeId) → same_node p q ≡ false → p ≢ q
same_node-false p q e d = eqb-false (node_index p) (node_index q) e (ap node_index d)
