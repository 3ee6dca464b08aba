-- Lists that are put together from behind, block by block.
-- Cited by `Acts::listed`.
use Rattle.std.proofs.Common.{◌≡◌, ℕ, zero, suc, ◌-◌, ◌≤◌, List, [], ◌∷◌, ◌++◌, length, map, take, reverse, refl, sym, ap, subst, ◌∙◌, arith, Global}
use Rattle.kt_ckpt.specs.declared.chain.Link.{Link}
use Rattle.kt_ckpt.specs.declared.chain.Link.TheVariants.{End, Last}
use Rattle.kt_ckpt.specs.auxiliary.Chain.{IsChain, in_blocks}
use Rattle.std.specs.declared.sync.Arc.{Arc}
use Rattle.kt_ckpt.specs.declared.chain.Block.{Block}
use Rattle.std.proofs.lemmas.List.{append_assoc, reverse-append, reverse-reverse}
use mathlib.Core.List.{reverse_aux}

-- of two lists more than the first has
pub take_past : {A : Type 0} → (n : ℕ) (xs ys : List A) → length xs ≤ n → take n (xs ++ ys) ≡ xs ++ take (n - length xs) ys
take_past {A = A} n [] ys le =
    let e : n - length {A = A} [] ≡ n = omega arith in
    sym (ap (λ (k : ℕ). take k ys) e)
take_past zero (x ∷ xs) ys le = absurd (omega (arith, le))
take_past (suc n) (x ∷ xs) ys le =
    let e : suc n - length (x ∷ xs) ≡ n - length xs = omega arith in
    ap (λ l. x ∷ l) (take_past n xs ys (omega (arith, le)) ∙ sym (ap (λ (k : ℕ). xs ++ take k ys) e))

map_reverse_aux : {A B : Type 0} → (f : A → B) (xs acc : List A) → map f (reverse_aux xs acc) ≡ reverse_aux (map f xs) (map f acc)
map_reverse_aux f [] acc = refl
map_reverse_aux f (x ∷ xs) acc = map_reverse_aux f xs (x ∷ acc)

pub map_reverse : {A B : Type 0} → (f : A → B) (xs : List A) → map f (reverse xs) ≡ reverse (map f xs)
map_reverse f xs = map_reverse_aux f xs []

-- what was found so far stands behind the rest in the other order; then comes a block
pub block_found : {A : Type 0} → (older own found new all : List A) → new ≡ found ++ reverse own
    → (older ++ own) ++ reverse found ≡ all → older ++ reverse new ≡ all
block_found older own found new all is before =
    ap (λ l. older ++ reverse l) is
    ∙ ap (λ l. older ++ l) (reverse-append found (reverse own))
    ∙ ap (λ l. older ++ (l ++ reverse found)) (reverse-reverse own)
    ∙ sym (append_assoc older own (reverse found))
    ∙ before

-- where there is no block, nothing is shown
pub none_shown : (last : Link) (len : ℕ) → ((block : Arc Block Global) → last ≡ Last block → ⊥) → take len (in_blocks last) ≡ []
none_shown End zero none = refl
none_shown End (suc len) none = refl
none_shown (Last block) len none = absurd (none block refl)

-- what is shown of a block and those before it
pub block_shown : (last : Link) (len : ℕ) (block : Arc Block Global) → last ≡ Last block → IsChain len last
    → take len (in_blocks last) ≡ block.value.older ++ take (len - length block.value.older) block.value.acts.items
block_shown last len block is chain =
    let told : IsChain len (Last block) = subst (IsChain len) is chain in
    ap (λ l. take len (in_blocks l)) is ∙ take_past len block.value.older block.value.acts.items (omega (arith, told.0))
