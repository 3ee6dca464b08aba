-- A write takes no No off the board.
-- Cited by Cutting, FailLeaves, QuietLeaves, RollLeaves, Updates.
use Rattle.std.proofs.Common.{◌≡◌, ℕ, ◌+◌, Bool, true, false, Option, Some, None, inl, inr, refl, sym, ap, ◌∙◌}
use Rattle.std.specs.Option.{option_map}
use Rattle.std.proofs.lemmas.Bool.{cases_eq}
use Rattle.kt_tuple.specs.declared.node.NodeId.{NodeId}
use Rattle.kt_store.specs.declared.rows.InstanceRow.{InstanceRow}
use Rattle.kt_store.specs.declared.rows.Purpose.{Purpose}
use Rattle.kt_store.specs.declared.rows.Purpose.TheVariants as purposes
use Rattle.kt_store.specs.declared.rows.Verdict.TheVariants as verdicts
use Rattle.kt_store.specs.Verdict.{verdict_from}
use Rattle.kt_store.specs.Content.{Content, next_instance, instance_row, row_of, verdict_of}
use Rattle.kt_store.specs.Changes.{storing, opening, taken, decided}
use Rattle.kt_store.proofs.Shared.{others_decided, decided_is_read}
use Rattle.kt_state.specs.declared.plan.Write.{Write}
use Rattle.kt_state.specs.declared.plan.Write.TheVariants as writes
use Rattle.kt_model.specs.Writing.{content_after}
use Rattle.kt_model.proofs.Boards.{begun-says}
use Rattle.kt_model.proofs.Sound.{NoesStay}

-- an instance is begun
begun-noes : (p : NodeId) (purpose : Purpose) (c : Content) → NoesStay c (opening p purpose c)
begun-noes p purpose c i was = begun-says p purpose c i false was

-- an instance that has no No gets its verdict
decided-noes : (i : ℕ) (agreed : Bool) (c : Content) → ¬ (verdict_of c i ≡ Some verdicts.No) → NoesStay c (decided i agreed c)
decided-noes i agreed c free j was = elim (cases_eq j i) [
  | inl same ↦ absurd (free (ap (verdict_of c) (sym same) ∙ was))
  | inr other ↦ ap (option_map (λ (row : InstanceRow). row.verdict)) (others_decided i agreed c j other) ∙ was
]

no-noes : (i : ℕ) (c : Content) → NoesStay c (decided i false c)
no-noes i c j was = elim (cases_eq j i) [
  | inl same ↦
      ap (verdict_of (decided i false c)) same ∙ ap (option_map (λ (row : InstanceRow). row.verdict)) (decided_is_read i false c)
      ∙ given (instance_row c i) (ap (verdict_of c) (sym same) ∙ was)
  | inr other ↦ ap (option_map (λ (row : InstanceRow). row.verdict)) (others_decided i false c j other) ∙ was
]
  where
    given : (o : Option InstanceRow) → option_map (λ (row : InstanceRow). row.verdict) o ≡ Some verdicts.No
        → option_map (λ (row : InstanceRow). row.verdict) (option_map (λ (row : InstanceRow). record row { verdict = verdict_from false }) o) ≡ Some verdicts.No
    given None e = absurd cc
    given (Some row) e = refl

-- a write that says Yes of no instance that has No
abbrev pub SaysNoYes : Content → Option Write → Type 0
SaysNoYes c (Some (writes.Decide instance true)) = ¬ (verdict_of c instance ≡ Some verdicts.No)
SaysNoYes c _ = Unit {0}

pub noes-stay : (p : NodeId) (write : Option Write) (c : Content) → SaysNoYes c write → NoesStay c (content_after p write c)
noes-stay p None c says = λ i was. was
noes-stay p (Some (writes.BeginCheck checkpoint)) c says =
    begun-noes p purposes.Check (storing record (row_of c p) { tentative = taken (next_instance c) checkpoint } c)
noes-stay p (Some (writes.PutTentative instance checkpoint)) c says = λ i was. was
noes-stay p (Some writes.Promote) c says = λ i was. was
noes-stay p (Some writes.Discard) c says = λ i was. was
noes-stay p (Some writes.BeginRestart) c says = begun-noes p purposes.Rollback (storing record (row_of c p) { incarnation = (row_of c p).incarnation + 1 } c)
noes-stay p (Some writes.Bump) c says = λ i was. was
noes-stay p (Some (writes.Decide instance true)) c says = decided-noes instance true c says
noes-stay p (Some (writes.Decide instance false)) c says = no-noes instance c
