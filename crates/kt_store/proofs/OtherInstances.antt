-- A row of the board that is written: the instance's own, and every other instance's.
-- Cited by `laws::other_instances_stay`, `laws::other_nodes_stay`, `laws::what_is_written_is_read`; other crates.
use Rattle.std.proofs.Common.{◌≡◌, ℕ, ◌==◌, Bool, true, false, cond, List, [], ◌∷◌, Option, None, Some, refl, ◌∙◌, arith}
use Rattle.std.specs.Prelude.{nat_lt}
use Rattle.std.specs.List.{find}
use Rattle.std.specs.Option.{option_map}
use Rattle.kt_tuple.specs.declared.node.NodeId.{NodeId}
use Rattle.kt_store.specs.declared.rows.InstanceRow.{InstanceRow}
use Rattle.kt_store.specs.declared.rows.Purpose.{Purpose}
use Rattle.kt_store.specs.declared.rows.Verdict.TheVariants as verdicts
use Rattle.kt_store.specs.Verdict.{verdict_from}
use Rattle.kt_store.specs.Content.{Content, next_instance, instance_row}
use Rattle.kt_store.specs.Changes.{decided, deciding, opening, with_instance_row}
use Rattle.kt_store.specs.Others.{OtherInstancesStay}
use Rattle.kt_store.proofs.Others.{placed_above, placed_below, placed_own}

other_instance_row : (new : InstanceRow) (rows : List InstanceRow) (j : ℕ) → ¬ (j ≡ new.instance)
    → find (λ (row : InstanceRow). row.instance == j) (with_instance_row new rows) ≡ find (λ (row : InstanceRow). row.instance == j) rows
other_instance_row new rows j other = by (nat_lt j new.instance) refl
  where
    p : InstanceRow → Bool
    p row = row.instance == j

    low : InstanceRow → Bool
    low row = nat_lt row.instance new.instance

    high : InstanceRow → Bool
    high row = nat_lt new.instance row.instance

    differs : (new.instance == j) ≡ false
    differs = grind (arith, other)

    by : (b : Bool) → nat_lt j new.instance ≡ b → find p (with_instance_row new rows) ≡ find p rows
    by true is = placed_below p low high new rows differs (λ row at. grind (arith, at, is)) (λ row at. grind (arith, at, is))
    by false is = placed_above p low high new rows differs (λ row at. grind (arith, at, is)) (λ row at. grind (arith, at, is, other))

own_instance_row : (new : InstanceRow) (rows : List InstanceRow) (i : ℕ) → new.instance ≡ i
    → find (λ (row : InstanceRow). row.instance == i) (with_instance_row new rows) ≡ Some new
own_instance_row new rows i is =
    placed_own (λ (row : InstanceRow). row.instance == i) (λ (row : InstanceRow). nat_lt row.instance new.instance)
    (λ (row : InstanceRow). nat_lt new.instance row.instance)
    new rows (grind (arith, is)) (λ row at. grind (arith, at, is))

-- what the board has of an instance has its number
found_number : (i : ℕ) (rows : List InstanceRow) (row : InstanceRow) → find (λ (r : InstanceRow). r.instance == i) rows ≡ Some row → row.instance ≡ i
found_number i [] row e = absurd cc
found_number i (x ∷ rows) row e = by (x.instance == i) refl e (found_number i rows row)
  where
    by : (b : Bool) → (x.instance == i) ≡ b → cond b (Some x) (find (λ (r : InstanceRow). r.instance == i) rows) ≡ Some row
        → (find (λ (r : InstanceRow). r.instance == i) rows ≡ Some row → row.instance ≡ i) → row.instance ≡ i
    by true is at rest = grind (arith, is, at)
    by false is at rest = rest at

-- an instance is begun
pub others_begun : (p : NodeId) (purpose : Purpose) (c : Content) → OtherInstancesStay (next_instance c) c (opening p purpose c)
others_begun p purpose c j other =
    other_instance_row record { instance = next_instance c; initiator = p; purpose = purpose; verdict = verdicts.Open } c.board j other

pub begun_is_read : (p : NodeId) (purpose : Purpose) (c : Content)
    → instance_row (opening p purpose c) (next_instance c) ≡ Some record
    { instance = next_instance c; initiator = p; purpose = purpose; verdict = verdicts.Open }
begun_is_read p purpose c =
    own_instance_row record { instance = next_instance c; initiator = p; purpose = purpose; verdict = verdicts.Open } c.board (next_instance c) refl

-- it gets its verdict
pub others_decided : (i : ℕ) (agreed : Bool) (c : Content) → OtherInstancesStay i c (decided i agreed c)
others_decided i agreed c j other = by (instance_row c i) refl
  where
    by : (o : Option InstanceRow) → instance_row c i ≡ o → instance_row (deciding agreed o c) j ≡ instance_row c j
    by None is = refl
    by (Some row) is = other_instance_row record row { verdict = verdict_from agreed } c.board j (λ e. other (e ∙ found_number i c.board row is))

pub decided_is_read : (i : ℕ) (agreed : Bool) (c : Content)
    → instance_row (decided i agreed c) i ≡ option_map (λ (row : InstanceRow). record row { verdict = verdict_from agreed }) (instance_row c i)
decided_is_read i agreed c = by (instance_row c i) refl
  where
    by : (o : Option InstanceRow) → instance_row c i ≡ o
        → instance_row (deciding agreed o c) i ≡ option_map (λ (row : InstanceRow). record row { verdict = verdict_from agreed }) o
    by None is = is
    by (Some row) is = own_instance_row record row { verdict = verdict_from agreed } c.board i (found_number i c.board row is)

-- and the nodes stay
pub nodes_stay : (i : ℕ) (agreed : Bool) (c : Content) → (decided i agreed c).nodes ≡ c.nodes
nodes_stay i agreed c = by (instance_row c i)
  where
    by : (o : Option InstanceRow) → (deciding agreed o c).nodes ≡ c.nodes
    by None = refl
    by (Some row) = refl
