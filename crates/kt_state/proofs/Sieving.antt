-- A queue that is turned over once is sieved.
-- Cited by `updating::sieve`.
use Rattle.std.proofs.Common.{◌≡◌, ℕ, zero, suc, ◌<◌, Bool, true, false, not, cond, List, [], ◌∷◌, ◌++◌, length, take, drop, filter}
use Rattle.std.proofs.Common.{refl, sym, ap, ◌∙◌, append_assoc, arith}
use Rattle.std.proofs.lemmas.List.{append-nil}
use Rattle.std.proofs.lemmas.List.Elements.{filter-append}
use Rattle.kt_tuple.specs.declared.node.NodeId.{NodeId}
use Rattle.kt_link.specs.declared.label.Label.{Label}
use Rattle.kt_state.specs.declared.message.AppMessage.{AppMessage}
use Rattle.kt_state.specs.Updating.{is_above}
use Rattle.kt_state.specs.auxiliary.Between.{turned_over}

abbrev pub Kept : Type 0
Kept = NodeId × AppMessage

abbrev pub sifted : NodeId → Label → List Kept → List Kept
sifted from l xs = filter (λ x. not (is_above from l x)) xs

placed : (drops : Bool) (rest : List Kept) (x : Kept) → cond drops rest (rest ++ x ∷ []) ≡ rest ++ cond (not drops) (x ∷ []) []
placed true rest x = sym (append-nil rest)
placed false rest x = refl

turned_first : (from : NodeId) (l : Label) (x : Kept) (later done : List Kept)
    → turned_over from l (x ∷ (later ++ sifted from l done)) ≡ later ++ sifted from l (done ++ x ∷ [])
turned_first from l x later done =
    placed (is_above from l x) (later ++ sifted from l done) x ∙ append_assoc later (sifted from l done) _
    ∙ ap (λ (s : List Kept). later ++ s) (sym (filter-append (λ y. not (is_above from l y)) done (x ∷ [])))

record Parted (xs : List Kept) (k : ℕ) : Type 0 where
  first : Kept
  left : drop k xs ≡ first ∷ drop (suc k) xs
  gone : take (suc k) xs ≡ take k xs ++ first ∷ []

parted : (xs : List Kept) (k : ℕ) → k < length xs → Parted xs k
parted [] k lt = absurd (omega arith)
parted (x ∷ xs) zero lt = record { first = x; left = refl; gone = refl }
parted (x ∷ xs) (suc k) lt =
    let p = parted xs k (omega arith) in
    record { first = p.first; left = p.left; gone = ap (λ (ys : List Kept). x ∷ ys) p.gone }

-- so many of the messages were turned over
abbrev pub turning : NodeId → Label → List Kept → ℕ → List Kept
turning from l xs k = drop k xs ++ sifted from l (take k xs)

pub turning-next : (from : NodeId) (l : Label) (xs : List Kept) (k : ℕ) → k < length xs
    → turned_over from l (turning from l xs k) ≡ turning from l xs (suc k)
turning-next from l xs k lt =
    let p = parted xs k lt in
    ap (λ (left : List Kept). turned_over from l (left ++ sifted from l (take k xs))) p.left
    ∙ turned_first from l p.first (drop (suc k) xs) (take k xs)
    ∙ ap (λ (gone : List Kept). drop (suc k) xs ++ sifted from l gone) (sym p.gone)
