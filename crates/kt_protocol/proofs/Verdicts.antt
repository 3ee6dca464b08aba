-- A verdict is written: what it changes of the board.
-- Cited by Checks, Main, Rises, Starts.
use Rattle.std.proofs.Common.{◌≡◌, ◌≢◌, ◌⊎◌, ℕ, Bool, true, false, inl, inr, refl, sym, ap, subst, ◌∙◌, if◌then◌else◌}
use Rattle.std.proofs.lemmas.Bool.{eq-eqb, eqb-true}
use Rattle.kt_protocol.specs.Machine.{Instance, Check, Rollback, Verdict, Open, Yes, No, State, same_instance}
use Rattle.kt_protocol.specs.Steps.{decide}
use Rattle.kt_protocol.proofs.Invariant.{Invariant}
use Rattle.kt_protocol.proofs.Frames.{Later, Pair-later, Local-later, Trees-later}
use Rattle.kt_protocol.proofs.Cases.{check-rollback, open-yes, open-no, yes-no, true-false}

same_instance-true : (j i : Instance) → same_instance j i ≡ true → j ≡ i
same_instance-true (Check m) (Check n) e = ap Check (eqb-true m n e)
same_instance-true (Rollback m) (Rollback n) e = ap Rollback (eqb-true m n e)
same_instance-true (Check m) (Rollback n) e = true-false e refl
same_instance-true (Rollback m) (Check n) e = true-false e refl

-- the verdict on an instance after one was written
pub decide-cases : (i : Instance) (v : Verdict) (s : State) (j : Instance)
    → ((j ≡ i) × ((decide i v s).board.verdict j ≡ v)) ⊎ ((decide i v s).board.verdict j ≡ s.board.verdict j)
decide-cases i v s j = go (same_instance j i) refl where
  go : (t : Bool) → same_instance j i ≡ t
      → ((j ≡ i) × ((if t then v else s.board.verdict j) ≡ v)) ⊎ ((if t then v else s.board.verdict j) ≡ s.board.verdict j)
  go true e = inl (same_instance-true j i e, refl)
  go false e = inr refl

pub same_instance-refl : (i : Instance) → same_instance i i ≡ true
same_instance-refl (Check k) = eq-eqb k k refl
same_instance-refl (Rollback k) = eq-eqb k k refl

pub decide-at : (i : Instance) (v : Verdict) (s : State) → (decide i v s).board.verdict i ≡ v
decide-at i v s = rw (same_instance-refl i) refl

pub decide-opened : (i : Instance) (v : Verdict) (s : State) → v ≢ Open → (j : Instance) → (decide i v s).board.verdict j ≡ Open → s.board.verdict j ≡ Open
decide-opened i v s ne j e = elim (decide-cases i v s j) [ inl f ↦ absurd (ne (sym f.1 ∙ e)) | inr f ↦ sym f ∙ e ]

pub decide-decided : (i : Instance) (v : Verdict) (s : State) → s.board.verdict i ≡ Open → (j : Instance) → s.board.verdict j ≡ Yes
    → (decide i v s).board.verdict j ≡ Yes
decide-decided i v s opened j e = elim (decide-cases i v s j) [
  | inl f ↦ open-yes opened (subst (λ k. s.board.verdict k ≡ Yes) f.0 e)
  | inr f ↦ f ∙ e
]

pub decide-live : (i : Instance) (v : Verdict) (s : State) → s.board.verdict i ≡ Open → (j : Instance) → (decide i v s).board.verdict j ≢ No
    → s.board.verdict j ≢ No
decide-live i v s opened j ne e = go (decide-cases i v s j) where
  go : ((j ≡ i) × ((decide i v s).board.verdict j ≡ v)) ⊎ ((decide i v s).board.verdict j ≡ s.board.verdict j) → ⊥
  go (inl f) = open-no opened (subst (λ k. s.board.verdict k ≡ No) f.0 e)
  go (inr f) = ne (f ∙ e)

pub decide-check : (i : Instance) (v : Verdict) (s : State) (k : ℕ) → Check k ≢ i → s.board.verdict (Check k) ≡ Open
    → (decide i v s).board.verdict (Check k) ≡ Open
decide-check i v s k ne e = elim (decide-cases i v s (Check k)) [ inl f ↦ absurd (ne f.0) | inr f ↦ f ∙ e ]

pub Later-decide : (k : ℕ) (v : Verdict) (s : State) → v ≢ Open → s.board.verdict (Rollback k) ≡ Open → Later s.board (decide (Rollback k) v s).board
Later-decide k v s ne opened = record {
  opened = decide-opened (Rollback k) v s ne;
  decided = decide-decided (Rollback k) v s opened;
  live = decide-live (Rollback k) v s opened;
  begun = λ j e. e;
}

pub decide-fresh : (i : Instance) (v : Verdict) (s : State) → ((j : Instance) → s.board.begun j ≡ false → s.board.verdict j ≡ Open)
    → s.board.begun i ≡ true → (j : Instance) → s.board.begun j ≡ false → (decide i v s).board.verdict j ≡ Open
decide-fresh i v s fresh begun j e = elim (decide-cases i v s j) [
  | inl f ↦ true-false begun (subst (λ k. s.board.begun k ≡ false) f.0 e)
  | inr f ↦ f ∙ fresh j e
]

pub no-open : No ≢ Open
no-open e = open-no e refl

pub yes-open : Yes ≢ Open
yes-open e = open-yes e refl

pub no-back : (i : Instance) (s : State) (j : Instance) → (decide i No s).board.verdict j ≡ Yes → s.board.verdict j ≡ Yes
no-back i s j e = elim (decide-cases i No s j) [ inl f ↦ yes-no e f.1 | inr f ↦ sym f ∙ e ]

pub step_gives_up_rollback : (peer : ℕ → ℕ → Bool) (s : State) (k : ℕ) → s.board.begun (Rollback k) ≡ true → s.board.verdict (Rollback k) ≡ Open
    → Invariant peer s → Invariant peer (decide (Rollback k) No s)
step_gives_up_rollback peer s k begun opened w = record {
  fresh = decide-fresh (Rollback k) No s w.fresh begun;
  local = λ o. Local-later later (λ m e. decide-check (Rollback k) No s m (λ f. check-rollback f) e) (w.local o);
  pair = λ p q t. Pair-later later (w.pair p q t);
  trees = Trees-later later (no-back (Rollback k) s) w.trees;
} where
  later : Later s.board (decide (Rollback k) No s).board
  later = Later-decide k No s no-open opened
