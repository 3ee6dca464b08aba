-- How the loop that puts rows goes on, and what a stop leaves.
-- Cited by CarryLemmas, `carrying::put_in_one`, `carrying::put_rows`, `opened::put_version`,
--   `statements::execute_both`, `tables::create_tables`.
use Rattle.std.proofs.Common.{◌≡◌, ◌≢◌, ◌⊎◌, inl, inr, ℕ, List, [], ◌∷◌, ◌++◌, Ok, Err, Result, OnOk, refl, sym, ap, subst, ◌∙◌, arith, ◌+◌, ◌<◌, length}
use Rattle.std.proofs.Common.{false, take, get_or, add-one}
use Rattle.std.proofs.Math.Seq.{take-suc}
use Rattle.std.specs.Prelude.{IsTrue}
use Rattle.std.specs.List.{AllByRecursion}
use Rattle.sqlite.specs.Effect.{Database}
use Rattle.sqlite.specs.Tree.{Trees}
use Rattle.sqlite.specs.State.{State, HasCleanDisk, KeepsCommit, Survives, Executes, ExecutesInside}
use Rattle.sqlite.proofs.StateLemmas.{survives_then}
use Rattle.sqlite.proofs.InsideLemmas.{inside_keeps, keeps_then}
use Rattle.kt_sql_tables.specs.Schema.{kt_schema}
use Rattle.sqlite.specs.Order.{Row}
use Rattle.kt_sql_tables.specs.declared.cells.NodeCells.{NodeCells}
use Rattle.kt_sql_tables.specs.auxiliary.Carrying.{HasTable, AllPut, ArePut, AreNewTrees}
use Rattle.kt_sql_tables.proofs.CarriedRows.{HasKey, put_over, put_all_more, all_keyed}

-- what one statement did to the row of a node
abbrev pub DidRow : NodeCells → Database → Database → Type 0
DidRow c b d = (d.schema ≡ kt_schema) × (d.trees 0 ≡ put_over c (b.trees 0)) × ((m : ℕ) → m ≢ 0 → d.trees m ≡ b.trees m)

-- these rows were put, one after the other, and the transaction is still open
pub record HavePut (Before : Database → Type 0) (cells : List NodeCells) (old new : State) : Type 0 where
  pub survives : Survives old new (λ _. ⊥)
  pub inside : HasCleanDisk new → IsTrue old.in_transaction → IsTrue new.in_transaction
  pub kept : HasCleanDisk new → IsTrue old.in_transaction → KeepsCommit old new
  pub put : HasCleanDisk new → IsTrue old.in_transaction → Before old.now → AllPut cells old.now new.now

-- a call that does nothing
pub nothing_survives : (s : State) (P : Trees → Type 0) → Survives s s P
nothing_survives s P = record {
  clean = omega arith;
  shield = λ h. h;
  counts = omega arith;
  limit = refl;
  closes = λ clean on. inl on;
  crash = λ clean db may. inl may;
}

-- none at first
pub none_put : (Before : Database → Type 0) (s : State) → (Before s.now → s.now.schema ≡ kt_schema) → HavePut Before [] s s
none_put Before s has = record {
  survives = nothing_survives s (λ _. ⊥);
  inside = λ clean on. on;
  kept = λ clean on. record { was_open = λ h. h; committed = λ h. refl };
  put = λ clean on before. record { schema = has before; nodes = refl; others = λ m apart. refl };
}

-- one more
pub one_more : (Before : Database → Type 0) (cells : List NodeCells) (c : NodeCells) (a b d : State) (text : List ℕ) (params : Row) (count : ℕ)
    → HavePut Before cells a b → Survives b d (λ _. ⊥)
    → (HasCleanDisk d → IsTrue b.in_transaction → ExecutesInside 0 text params b d (Ok count))
    → (Before a.now → AllPut cells a.now b.now → Executes text params b d (Ok count) → DidRow c b.now d.now)
    → HavePut Before (cells ++ c ∷ []) a d
one_more Before cells c a b d text params count so_far survives ran does =
    let early = λ (clean : HasCleanDisk d). let was : HasCleanDisk b = omega (arith, survives.clean, clean) in was in
    record {
      survives = survives_then a b d _ _ (λ _. ⊥) (λ _ db none. none) (λ _ db none. none) so_far.survives survives;
      inside = λ clean on. (ran clean (so_far.inside (early clean) on)).1.mode;
      kept = λ clean on. keeps_then a b d (so_far.kept (early clean) on)
          (inside_keeps b d 0 false text params (Ok count) (ran clean (so_far.inside (early clean) on)));
      put = λ clean on before.
          let was = so_far.put (early clean) on before in
          let did = does before was (ran clean (so_far.inside (early clean) on)).0 in
          record {
            schema = did.0;
            nodes = did.1 ∙ ap (put_over c) was.nodes ∙ sym (put_all_more cells c (a.now.trees 0));
            others = λ m apart. did.2 m apart ∙ was.others m apart;
          };
    }

-- the table is still one of rows that have keys
pub still_table : (cells : List NodeCells) (a b : Database) → HasTable a → AllPut cells a b → HasTable b
still_table cells a b has put = record {
  schema = put.schema;
  numbered = subst (AllByRecursion HasKey) (sym put.nodes) (all_keyed cells (a.trees 0) has.numbered);
}

-- the first of a list and the next one
pub one_longer : {X : Type 0} (xs : List X) (i : ℕ) (x : X) → x ≡ get_or xs i x → i < length xs → take i xs ++ x ∷ [] ≡ take (i + 1) xs
one_longer xs i x is within = rw add-one (ap (λ y. take i xs ++ y ∷ []) is ∙ sym (take-suc xs i x within))

-- two steps inside a transaction commit nothing
pub inside_survives : (begun mid last : State) → Survives begun mid (λ _. ⊥) → Survives mid last (λ _. ⊥) → Survives begun last (λ _. ⊥)
inside_survives begun mid last one two = survives_then begun mid last _ _ (λ _. ⊥) (λ _ db none. none) (λ _ db none. none) one two

-- all was done in one transaction: a stop leaves what it could leave before, or what was committed
pub once_survives : (begun last end : State) (P : Trees → Type 0) → Survives begun last (λ _. ⊥)
    → Survives last end (λ db. db ≡ last.now.trees) → (HasCleanDisk last → P last.now.trees) → Survives begun end P
once_survives begun last end P inside three made =
    survives_then begun last end _ _ P (λ _ db none. absurd none)
    (λ clean db is. subst P (sym is) (made (omega (arith, three.clean, clean)))) inside three

pub whole_survives : (begun mid last end : State) (P : Trees → Type 0) → Survives begun mid (λ _. ⊥) → Survives mid last (λ _. ⊥)
    → Survives last end (λ db. db ≡ last.now.trees) → (HasCleanDisk last → P last.now.trees) → Survives begun end P
whole_survives begun mid last end P one two three made = once_survives begun last end P (inside_survives begun mid last one two) three made

-- ---- what a stop leaves

-- where before the call only what was committed could be left
pub leaves_either : (old new : State) (P : Trees → Type 0) → ((db : Trees) → old.may_leave db → db ≡ old.committed.trees) → Survives old new P
    → HasCleanDisk new → (db : Trees) → new.may_leave db → (db ≡ old.committed.trees) ⊎ P db
leaves_either old new P first survives clean db may = elim (survives.crash clean db may) [ inl before ↦ inl (first db before) | inr made ↦ inr made ]

-- where what was committed is what is left
pub leaves_new : {T E : Type 0} (r : Result T E) (old new : State) (cells : List NodeCells)
    → ((db : Trees) → IsTrue new.is_open → new.may_leave db → db ≡ new.committed.trees) → OnOk r (ArePut cells old.now new)
    → OnOk r ((db : Trees) → new.may_leave db → AreNewTrees cells old.now.trees db)
leaves_new (Ok t) old new cells last made = λ db may.
    let is = last db made.is_open may ∙ sym (ap (λ (d : Database). d.trees) made.settled.same) in
    subst (AreNewTrees cells old.now.trees) (sym is) made.trees
leaves_new (Err e) old new cells last made = tt
