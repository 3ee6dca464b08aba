-- Lists of kinds with one signature are one list.
-- Cited by `laws::numbers_tell_apart`.
use Rattle.std.proofs.Common.{◌≡◌, ℕ, ◌+◌, ◌*◌, List, [], ◌∷◌, ◌++◌, reverse, refl, sym, ap, ◌∙◌, arith}
use Rattle.std.proofs.lemmas.List.{reverse-append, reverse-reverse}
use Rattle.std.proofs.lemmas.List.Sums.{fold-append}
use Rattle.kt_tuple.specs.declared.value.Kind.{Kind}
use Rattle.kt_tuple.specs.declared.value.Kind.TheVariants as kinds
use Rattle.kt_tuple.specs.Signature.{code_of, signature_of}

-- the signature of the kinds told from last to first
abbrev pub signature_back : List Kind → ℕ
signature_back [] = 0
signature_back (k ∷ ks) = 5 * signature_back ks + code_of k

pub signature_of-snoc : (ks : List Kind) (k : Kind) → signature_of (ks ++ k ∷ []) ≡ 5 * signature_of ks + code_of k
signature_of-snoc ks k = fold-append (λ number kind. 5 * number + code_of kind) 0 ks (k ∷ [])

pub signature_of-reverse : (ks : List Kind) → signature_of (reverse ks) ≡ signature_back ks
signature_of-reverse [] = refl
signature_of-reverse (k ∷ ks) =
    ap signature_of (reverse-append (k ∷ []) ks)
    ∙ signature_of-snoc (reverse ks) k
    ∙ ap (λ number. 5 * number + code_of k) (signature_of-reverse ks)

pub signature_back-injective : (a b : List Kind) → signature_back a ≡ signature_back b → a ≡ b
signature_back-injective [] [] e = refl
signature_back-injective [] (kinds.Int ∷ b) e = absurd (omega arith)
signature_back-injective [] (kinds.Str ∷ b) e = absurd (omega arith)
signature_back-injective [] (kinds.Bool ∷ b) e = absurd (omega arith)
signature_back-injective (kinds.Int ∷ a) [] e = absurd (omega arith)
signature_back-injective (kinds.Str ∷ a) [] e = absurd (omega arith)
signature_back-injective (kinds.Bool ∷ a) [] e = absurd (omega arith)
signature_back-injective (kinds.Int ∷ a) (kinds.Int ∷ b) e =
    let same : signature_back a ≡ signature_back b = omega arith in
    ap (λ (ks : List Kind). kinds.Int ∷ ks) (signature_back-injective a b same)
signature_back-injective (kinds.Int ∷ a) (kinds.Str ∷ b) e = absurd (omega arith)
signature_back-injective (kinds.Int ∷ a) (kinds.Bool ∷ b) e = absurd (omega arith)
signature_back-injective (kinds.Str ∷ a) (kinds.Int ∷ b) e = absurd (omega arith)
signature_back-injective (kinds.Str ∷ a) (kinds.Str ∷ b) e =
    let same : signature_back a ≡ signature_back b = omega arith in
    ap (λ (ks : List Kind). kinds.Str ∷ ks) (signature_back-injective a b same)
signature_back-injective (kinds.Str ∷ a) (kinds.Bool ∷ b) e = absurd (omega arith)
signature_back-injective (kinds.Bool ∷ a) (kinds.Int ∷ b) e = absurd (omega arith)
signature_back-injective (kinds.Bool ∷ a) (kinds.Str ∷ b) e = absurd (omega arith)
signature_back-injective (kinds.Bool ∷ a) (kinds.Bool ∷ b) e =
    let same : signature_back a ≡ signature_back b = omega arith in
    ap (λ (ks : List Kind). kinds.Bool ∷ ks) (signature_back-injective a b same)

pub signature_of-back : (ks : List Kind) → signature_of ks ≡ signature_back (reverse ks)
signature_of-back ks = ap signature_of (sym (reverse-reverse ks)) ∙ signature_of-reverse (reverse ks)

pub signature_of-injective : (a b : List Kind) → signature_of a ≡ signature_of b → a ≡ b
signature_of-injective a b e =
    sym (reverse-reverse a)
    ∙ ap reverse (signature_back-injective (reverse a) (reverse b) (sym (signature_of-back a) ∙ e ∙ signature_of-back b))
    ∙ reverse-reverse b
