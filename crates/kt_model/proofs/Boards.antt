-- The board: the next instance is free, an open instance is found by its number, and a board stays one.
-- Cited by Backs, Newer, Noes, Resuming, StaysBacked, Writes; other crates.
use Rattle.std.proofs.Common.{◌≡◌, ℕ, suc, ◌+◌, ◌≤◌, ◌==◌, Bool, true, false, ◌&&◌, cond, List, [], ◌∷◌, map, All}
use Rattle.std.proofs.Common.{AllPairs, get_or, Option, None, Some, refl, sym, ap, ◌∙◌, subst, inl, inr, arith}
use Rattle.std.specs.Prelude.{fold, max, nat_lt}
use Rattle.std.specs.List.{find}
use Rattle.std.specs.Option.{option_map}
use Rattle.std.proofs.lemmas.Bool.{cases_eq, and_parts, eq-eqb}
use Rattle.kt_tuple.specs.declared.node.NodeId.{NodeId}
use Rattle.kt_tuple.specs.Node.{node_eq}
use Rattle.kt_store.specs.declared.rows.InstanceRow.{InstanceRow}
use Rattle.kt_store.specs.declared.rows.Purpose.{Purpose}
use Rattle.kt_store.specs.declared.rows.Verdict.{Verdict}
use Rattle.kt_store.specs.declared.rows.Verdict.TheVariants as verdicts
use Rattle.kt_store.specs.Verdict.{is_open, verdict_from}
use Rattle.kt_store.specs.Content.{Content, next_instance, open_of, instance_row, verdict_of}
use Rattle.kt_model.specs.auxiliary.Backed.{AreRising}
use Rattle.kt_store.specs.Changes.{opening, decided, deciding, with_instance_row}
use Rattle.kt_store.proofs.Shared.{above_all, others_begun, others_decided, decided_is_read, greatest_within}
use Rattle.kt_store.proofs.Shared.{by_number_order, placed_rising, placed_all}

-- ---- what is found

-- what is found passes, and is one of the rows
pub found-holds : {A : Type 0} (P : A → Type 0) (q : A → Bool) (rows : List A) (row : A) → All P rows → find q rows ≡ Some row → P row × (q row ≡ true)
found-holds P q [] row all e = absurd cc
found-holds P q (x ∷ rows) row all e = by (q x) refl e (found-holds P q rows row (λ k d lt. all (suc k) d (omega (arith, lt))))
  where
    by : (b : Bool) → q x ≡ b → cond b (Some x) (find q rows) ≡ Some row → (find q rows ≡ Some row → P row × (q row ≡ true)) → P row × (q row ≡ true)
    by true is e rest = let same : x ≡ row = cc in (subst P same (all 0 x (omega arith)), ap q (sym same) ∙ is)
    by false is e rest = rest e

-- of rows whose numbers rise, each is found by its number
found-own : (q : InstanceRow → Bool) (rows : List InstanceRow) (row : InstanceRow) → AllPairs (λ (a b : InstanceRow). nat_lt a.instance b.instance ≡ true) rows
    → find q rows ≡ Some row
    → find (λ (x : InstanceRow). x.instance == row.instance) rows ≡ Some row
found-own q [] row rising e = absurd cc
found-own q (x ∷ rows) row rising e =
    by (q x) e (found-own q rows row (λ i j d lt within. rising (suc i) (suc j) d (omega (arith, lt)) (omega (arith, within))))
  where
    later : All (λ (y : InstanceRow). nat_lt x.instance y.instance ≡ true) rows
    later = λ k d lt. rising 0 (suc k) d (omega arith) (omega (arith, lt))

    by : (b : Bool) → cond b (Some x) (find q rows) ≡ Some row → (find q rows ≡ Some row
        → find (λ (y : InstanceRow). y.instance == row.instance) rows ≡ Some row)
        → find (λ (y : InstanceRow). y.instance == row.instance) (x ∷ rows) ≡ Some row
    by true e rest =
        let same : x ≡ row = cc in
        let here : (x.instance == row.instance) ≡ true = eq-eqb x.instance row.instance (ap (λ (y : InstanceRow). y.instance) same) in
        rw here (ap (λ (y : InstanceRow). Some y) same)
    by false e rest =
        let behind = (found-holds (λ (y : InstanceRow). nat_lt x.instance y.instance ≡ true) q rows row later e).0 in
        let other : (x.instance == row.instance) ≡ false = grind (arith, behind) in
        rw other (rest e)

open-is : (v : Verdict) → is_open v ≡ true → v ≡ verdicts.Open
open-is verdicts.Open e = refl
open-is verdicts.Yes e = absurd cc
open-is verdicts.No e = absurd cc

-- an instance that is found open is open
pub open-verdict : (c : Content) (p : NodeId) (i : ℕ) → AreRising c.board → open_of c p ≡ Some i → verdict_of c i ≡ Some verdicts.Open
open-verdict c p i board e = by (find q c.board) refl e
  where
    q : InstanceRow → Bool
    q row = node_eq row.initiator p && is_open row.verdict

    by : (o : Option InstanceRow) → find q c.board ≡ o → option_map (λ (row : InstanceRow). row.instance) o ≡ Some i → verdict_of c i ≡ Some verdicts.Open
    by None is e = absurd cc
    by (Some row) is e =
        let same : row.instance ≡ i = cc in
        let passes = (found-holds (λ (x : InstanceRow). Unit {0}) q c.board row (λ k d lt. tt) is).1 in
        let open_yet = open-is row.verdict (and_parts (node_eq row.initiator p) (is_open row.verdict) passes).1 in
        ap (verdict_of c) (sym same) ∙ ap (option_map (λ (x : InstanceRow). x.verdict)) (found-own q c.board row board is)
        ∙ ap (λ (v : Verdict). Some v) open_yet

-- ---- the next instance

-- every instance on the board comes before the next
below-next : (c : Content) → All (λ (row : InstanceRow). row.instance ≤ next_instance c) c.board
below-next c =
    λ k d lt. let h : (get_or c.board k d).instance ≤ fold max 0 (map (λ (row : InstanceRow). row.instance) c.board) = above_all c.board 0 k d lt in omega
    (arith, h)

-- of the next instance the board has nothing
pub next_free : (c : Content) (row : InstanceRow) → instance_row c (next_instance c) ≡ Some row → ⊥
next_free c row e =
    let both = found-holds (λ (x : InstanceRow). x.instance ≤ fold max 0 (map (λ (x : InstanceRow). x.instance) c.board))
    (λ (x : InstanceRow). x.instance == next_instance c) c.board row (above_all c.board 0) e in
    let low = both.0 in
    let same = both.1 in
    grind (arith, low, same)

-- ---- a verdict that there is stays

abbrev pub Says : Content → ℕ → Bool → Type 0
Says c i agreed = verdict_of c i ≡ Some (verdict_from agreed)

says-instance_row : (o : Option InstanceRow) (v : Verdict) → option_map (λ (row : InstanceRow). row.verdict) o ≡ Some v → (row : InstanceRow) × (o ≡ Some row)
says-instance_row None v e = absurd cc
says-instance_row (Some row) v e = (row, refl)

pub begun-says : (p : NodeId) (purpose : Purpose) (c : Content) (i : ℕ) (agreed : Bool) → Says c i agreed → Says (opening p purpose c) i agreed
begun-says p purpose c i agreed says = elim (cases_eq i (next_instance c)) [
  | inl same ↦
      let row = says-instance_row (instance_row c i) (verdict_from agreed) says in
      absurd (next_free c row.0 (ap (instance_row c) (sym same) ∙ row.1))
  | inr other ↦ ap (option_map (λ (row : InstanceRow). row.verdict)) (others_begun p purpose c i other) ∙ says
]

open-not : (agreed : Bool) → Some verdicts.Open ≡ Some (verdict_from agreed) → ⊥
open-not true e = cc (e)
open-not false e = cc (e)

pub decided-says : (j : ℕ) (said : Bool) (c : Content) → verdict_of c j ≡ Some verdicts.Open → (i : ℕ) (agreed : Bool) → Says c i agreed
    → Says (decided j said c) i agreed
decided-says j said c undecided i agreed says = elim (cases_eq i j) [
  | inl same ↦ absurd (open-not agreed (sym undecided ∙ ap (verdict_of c) (sym same) ∙ says))
  | inr other ↦ ap (option_map (λ (row : InstanceRow). row.verdict)) (others_decided j said c i other) ∙ says
]

-- an instance on the board has the verdict that it gets
pub decided-own : (i : ℕ) (agreed : Bool) (c : Content) (v : Verdict) → verdict_of c i ≡ Some v → Says (decided i agreed c) i agreed
decided-own i agreed c v e =
    let row = says-instance_row (instance_row c i) v e in
    ap (option_map (λ (x : InstanceRow). x.verdict)) (decided_is_read i agreed c)
    ∙ ap (λ (o : Option InstanceRow). option_map (λ (x : InstanceRow). x.verdict)
    (option_map (λ (x : InstanceRow). record x { verdict = verdict_from agreed }) o)) row.1

-- ---- a board stays one

pub begun-board : (p : NodeId) (purpose : Purpose) (c : Content) → AreRising c.board → AreRising (opening p purpose c).board
begun-board p purpose c is =
    let new : InstanceRow = record { instance = next_instance c; initiator = p; purpose = purpose; verdict = verdicts.Open } in
    placed_rising (λ (a b : InstanceRow). nat_lt a.instance b.instance) new c.board by_number_order is

pub decided-board : (i : ℕ) (agreed : Bool) (c : Content) → AreRising c.board → AreRising (decided i agreed c).board
decided-board i agreed c is = by (instance_row c i)
  where
    by : (o : Option InstanceRow) → AreRising (deciding agreed o c).board
    by None = is
    by (Some row) =
        let new : InstanceRow = record row { verdict = verdict_from agreed } in
        placed_rising (λ (a b : InstanceRow). nat_lt a.instance b.instance) new c.board by_number_order is

-- ---- one instance more at most

pub begun-next : (p : NodeId) (purpose : Purpose) (c : Content) → next_instance (opening p purpose c) ≤ next_instance c + 1
begun-next p purpose c =
    let new : InstanceRow = record { instance = next_instance c; initiator = p; purpose = purpose; verdict = verdicts.Open } in
    let low = greatest_within (with_instance_row new c.board) 0 (next_instance c) (omega arith)
    (placed_all (λ (x : InstanceRow). x.instance ≤ next_instance c) (λ (a b : InstanceRow). nat_lt a.instance b.instance) new c.board (omega arith)
    (below-next c)) in
    omega (arith, low)

pub decided-next : (i : ℕ) (agreed : Bool) (c : Content) → next_instance (decided i agreed c) ≤ next_instance c + 1
decided-next i agreed c = by (instance_row c i) refl
  where
    by : (o : Option InstanceRow) → instance_row c i ≡ o → next_instance (deciding agreed o c) ≤ next_instance c + 1
    by None e = omega arith
    by (Some row) e =
        let new : InstanceRow = record row { verdict = verdict_from agreed } in
        let here = (found-holds (λ (x : InstanceRow). x.instance ≤ next_instance c) (λ (x : InstanceRow). x.instance == i) c.board row (below-next c) e).0 in
        let low = greatest_within (with_instance_row new c.board) 0 (next_instance c) (omega arith)
        (placed_all (λ (x : InstanceRow). x.instance ≤ next_instance c) (λ (a b : InstanceRow). nat_lt a.instance b.instance) new c.board here
        (below-next c)) in
        omega (arith, low)
