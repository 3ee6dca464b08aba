-- An instance is begun: the next number of the board, whatever it is for.
-- Cited by BeginsCheck, Restarts.
use Rattle.std.proofs.Common.{◌≡◌, ◌≢◌, ℕ, true, false, Option, Some, None, inl, inr, refl, sym, ap, subst, ◌∙◌}
use Rattle.std.specs.Option.{option_map}
use Rattle.std.proofs.lemmas.Bool.{cases_eq, eq-eqb, ne_eqb}
use Rattle.kt_tuple.specs.declared.node.NodeId.{NodeId}
use Rattle.kt_tuple.specs.Node.{node_index}
use Rattle.kt_history.specs.Log.{log}
use Rattle.kt_store.specs.declared.rows.InstanceRow.{InstanceRow}
use Rattle.kt_store.specs.declared.rows.Purpose.{Purpose}
use Rattle.kt_store.specs.declared.rows.Purpose.TheVariants as purposes
use Rattle.kt_store.specs.declared.rows.Tentative.{Tentative}
use Rattle.kt_store.specs.declared.rows.Verdict.{Verdict as RealVerdict}
use Rattle.kt_store.specs.declared.rows.Verdict.TheVariants as verdicts
use Rattle.kt_store.specs.Content.{Content, instance_row, next_instance, row_of, verdict_of, verdict_on}
use Rattle.kt_store.specs.Changes.{opening}
use Rattle.kt_store.proofs.Shared.{others_begun, begun_is_read}
use Rattle.kt_model.specs.State.{State as World}
use Rattle.kt_model.proofs.Shared.{next_free}
use Rattle.kt_protocol.specs.Machine.{Instance, Check, Rollback, Board, State, at_instance}
use Rattle.kt_protocol.proofs.Shared.{Invariant}
use Rattle.kt_refinement.proofs.Numbers.{peers}
use Rattle.kt_refinement.proofs.Represents.{TentativeIs, undecided, begun_as, InstanceIs, Represents}

-- the next number is free
pub next-none : (c : Content) → instance_row c (next_instance c) ≡ None
next-none c = by (instance_row c (next_instance c)) refl where
  by : (o : Option InstanceRow) → instance_row c (next_instance c) ≡ o → o ≡ None
  by None e = refl
  by (Some row) e = absurd (next_free c row e)

pub next-unbegun-check : (s : World) (c : State) → Represents s c → c.board.begun (Check (next_instance s.content)) ≡ false
next-unbegun-check s c is = (is.board (next_instance s.content)).check_begun ∙ ap (begun_as purposes.Check) (next-none s.content)

pub next-unbegun-rollback : (s : World) (c : State) → Represents s c → c.board.begun (Rollback (next_instance s.content)) ≡ false
next-unbegun-rollback s c is = (is.board (next_instance s.content)).rollback_begun ∙ ap (begun_as purposes.Rollback) (next-none s.content)

-- the machine's name of an instance of this purpose
abbrev pub instance_for : Purpose → ℕ → Instance
instance_for purposes.Check i = Check i
instance_for purposes.Rollback i = Rollback i

begun-row : (purpose : Purpose) (p : NodeId) (i : ℕ) (B : Board) → InstanceIs None i B
    → InstanceIs (Some record { instance = i; initiator = p; purpose = purpose; verdict = verdicts.Open }) i
    record B { begun = at_instance (instance_for purpose i) true B.begun }
begun-row purposes.Check p i B old =
    record { check = old.check; rollback = old.rollback; check_begun = rw (eq-eqb i i refl) refl; rollback_begun = old.rollback_begun }
begun-row purposes.Rollback p i B old =
    record { check = old.check; rollback = old.rollback; check_begun = old.check_begun; rollback_begun = rw (eq-eqb i i refl) refl }

else-row : (purpose : Purpose) (o : Option InstanceRow) (i j : ℕ) (B : Board) → j ≢ i → InstanceIs o j B
    → InstanceIs o j record B { begun = at_instance (instance_for purpose i) true B.begun }
else-row purposes.Check o i j B d old =
    record { check = old.check; rollback = old.rollback; check_begun = rw (ne_eqb j i d) old.check_begun; rollback_begun = old.rollback_begun }
else-row purposes.Rollback o i j B d old =
    record { check = old.check; rollback = old.rollback; check_begun = old.check_begun; rollback_begun = rw (ne_eqb j i d) old.rollback_begun }

pub board-begun : (p : NodeId) (purpose : Purpose) (c : Content) (B : Board) → ((j : ℕ) → InstanceIs (instance_row c j) j B)
    → (j : ℕ) → InstanceIs (instance_row (opening p purpose c) j) j record B { begun = at_instance (instance_for purpose (next_instance c)) true B.begun }
board-begun p purpose c B is j = elim (cases_eq j (next_instance c)) [
  | inl same ↦ subst Own (sym same) own
  | inr d ↦ subst Row (sym (others_begun p purpose c j d)) (else-row purpose (instance_row c j) (next_instance c) j B d (is j))
] where
  new : Board
  new = record B { begun = at_instance (instance_for purpose (next_instance c)) true B.begun }

  Own : ℕ → Type 0
  Own k = InstanceIs (instance_row (opening p purpose c) k) k new

  Row : Option InstanceRow → Type 0
  Row o = InstanceIs o j new

  own : InstanceIs (instance_row (opening p purpose c) (next_instance c)) (next_instance c) new
  own =
      subst (λ o. InstanceIs o (next_instance c) new) (sym (begun_is_read p purpose c))
      (begun-row purpose p (next_instance c) B (subst (λ o. InstanceIs o (next_instance c) B) (next-none c) (is (next_instance c))))

-- no tentative checkpoint is of the next number, so the verdicts on all stay
pub verdicts-stay : (s : World) (c : State) → Invariant (peers s.scene) c → Represents s c → (p q : NodeId) (purpose : Purpose)
    → verdict_on (opening p purpose s.content) (row_of s.content q).tentative ≡ verdict_on s.content (row_of s.content q).tentative
verdicts-stay s c inv is p q purpose = by (row_of s.content q).tentative (is.nodes q).tent where
  by : (t : Option Tentative)
      → TentativeIs s.scene s.history q (log s.history q) (undecided (verdict_on s.content t) t) (c.node (node_index q)).tent (c.node (node_index q)).log
      → verdict_on (opening p purpose s.content) t ≡ verdict_on s.content t
  by None is_tent = refl
  by (Some t) is_tent = elim (cases_eq t.instance (next_instance s.content)) [
    | inl same ↦
        let none : verdict_of s.content t.instance ≡ None =
        ap (verdict_of s.content) same ∙ ap (option_map (λ (row : InstanceRow). row.verdict)) (next-none s.content) in
        let P : Option RealVerdict → Type 0 =
        λ v. TentativeIs s.scene s.history q (log s.history q) (undecided v (Some t)) (c.node (node_index q)).tent (c.node (node_index q)).log in
        let held = subst P none is_tent in
        let begun : c.board.begun (Check t.instance) ≡ true =
        ((inv.local (node_index q)).members (Check t.instance) (c.node (node_index q)).life
        ((inv.local (node_index q)).holding t.instance held.instance).1).1 in
        let unbegun : c.board.begun (Check t.instance) ≡ false = ap (λ i. c.board.begun (Check i)) same ∙ next-unbegun-check s c is in
        absurd (cc (begun, unbegun))
    | inr d ↦ ap (option_map (λ (row : InstanceRow). row.verdict)) (others_begun p purpose s.content t.instance d)
  ]
