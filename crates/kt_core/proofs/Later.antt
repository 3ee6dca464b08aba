-- One reading after another.
-- Cited by `World::is_steady`, `resuming::find_all`, `space::permanent_tuples`.
use Rattle.std.proofs.Common.{◌≡◌, ℕ, zero, suc, ◌+◌, List, [], ◌∷◌, ◌++◌, refl}
use Rattle.std.proofs.Common.{append-nil, append_assoc, add-one, Ok, Err, sym, ap, ◌∙◌, subst, arith}
use Rattle.std.specs.Prelude.{Option, map, ◌&&◌}
use Rattle.std.specs.List.{flat_map, list_all, range_with_len}
use Rattle.kt_state.specs.declared.node.Node.{Node}
use Rattle.kt_model.specs.Headline.{is_steady_row}
use Rattle.kt_core.specs.auxiliary.Rows.{is_steady_code, row_view}
use Rattle.std.specs.Prelude.{IsTrue}
use Rattle.kt_store.specs.declared.error.StoreError.{StoreError}
use Rattle.kt_store.specs.declared.store.CkptStore.{Ghosts}
use Rattle.kt_store.specs.Calls.{Counts, NeverFails}
use Rattle.kt_store.specs.Content.{Content}
use Rattle.kt_store.specs.declared.error.StoreError.TheVariants.{Memory, Device, Damaged, Full}
use Rattle.kt_core.specs.Store.{IsCountedBeside}
use Rattle.kt_core.specs.auxiliary.Calls.{IsGathered}

-- where nothing was counted before, what is counted of the last of several calls is counted of all of them
counted-later : (T U : Type 0) (before between now : Counts) (e : StoreError) → between ≡ before
    → IsCountedBeside {T = T} (Err e) between now → IsCountedBeside {T = U} (Err e) before now
counted-later T U before between now Memory is c = subst (λ (x : Counts). IsCountedBeside {T = T} (Err Memory) x now) is c
counted-later T U before between now Device is c = subst (λ (x : Counts). IsCountedBeside {T = T} (Err Device) x now) is c
counted-later T U before between now Damaged is c = subst (λ (x : Counts). IsCountedBeside {T = T} (Err Damaged) x now) is c
counted-later T U before between now Full is c = subst (λ (x : Counts). IsCountedBeside {T = T} (Err Full) x now) is c

-- what has been read so far of a store, which stays as it was
pub record Follows {S : Type 0} (kind : Ghosts S) (old new : S) : Type 0 where
  pub same : IsTrue (kind.is_honest new) → kind.content new ≡ kind.content old
  pub honest : IsTrue (kind.is_honest new) → IsTrue (kind.is_honest old)
  pub lasts : NeverFails kind.failures → IsTrue (kind.is_honest old) → IsTrue (kind.is_honest new)
  pub counts : kind.counts new ≡ kind.counts old

pub read-later : {S T : Type 0} (kind : Ghosts S) (old between new : S) (Says : Content → T → Type 0) (x : T)
    → Follows kind old between → IsGathered kind between new Says (Ok x) → Follows kind old new
read-later kind old between new Says x f r = record {
  same = λ h. r.same h ∙ f.same (r.honest h);
  honest = λ h. f.honest (r.honest h);
  lasts = λ never h. r.lasts never (f.lasts never h);
  counts = r.counts ∙ f.counts;
}

-- one number more
pub flat-more : {A : Type 0} (f : ℕ → List A) (a n j : ℕ) → a + n ≡ j → flat_map f (range_with_len a (suc n)) ≡ flat_map f (range_with_len a n) ++ f j
flat-more f a zero j e = append-nil (f a) ∙ ap f (sym (plus-nil a) ∙ e)
  where
    plus-nil : (k : ℕ) → k + 0 ≡ k
    plus-nil k = omega arith
flat-more f a (suc n) j e = ap (λ l. f a ++ l) (flat-more f (a + 1) n j (omega (arith, e)))
    ∙ sym (append_assoc (f a) (flat_map f (range_with_len (a + 1) n)) (f j))

-- what one more reading adds
pub added : {S A T : Type 0} (kind : Ghosts S) (old between new : S)
    (f : Content → ℕ → List A) (so_far all : List A) (k : ℕ) (x : T)
    → Follows kind old between → (IsTrue (kind.is_honest between) → so_far ≡ flat_map (f (kind.content old)) (range_with_len 1 k))
    → IsGathered kind between new (λ c y. all ≡ so_far ++ f c (k + 1)) (Ok x)
    → Follows kind old new × (IsTrue (kind.is_honest new) → all ≡ flat_map (f (kind.content old)) (range_with_len 1 (k + 1)))
added {A = A} kind old between new f so_far all k x follows before r = (
  read-later kind old between new (λ c y. all ≡ so_far ++ f c (k + 1)) x follows r,
  λ h.
      let held = r.honest h in
      let there : kind.content between ≡ kind.content old = follows.same held in
      let one : all ≡ so_far ++ f (kind.content old) (k + 1) = r.value h ∙ ap (λ (c : Content). so_far ++ f c (k + 1)) there in
      let more : flat_map (f (kind.content old)) (range_with_len 1 (suc k))
      ≡ flat_map (f (kind.content old)) (range_with_len 1 k) ++ f (kind.content old) (k + 1)
      = flat-more (f (kind.content old)) 1 k (k + 1) (omega arith) in
      one ∙ ap (λ (l : List A). l ++ f (kind.content old) (k + 1)) (before held) ∙ sym more
      ∙ ap (λ (n : ℕ). flat_map (f (kind.content old)) (range_with_len 1 n)) (sym (add-one k)),
)

-- what each row of the code says, the table says
pub all-rows : (nodes : List (Option Node)) → list_all is_steady_code nodes ≡ list_all is_steady_row (map row_view nodes)
all-rows [] = refl
all-rows (row ∷ later) = ap (λ b. is_steady_code row && b) (all-rows later)
