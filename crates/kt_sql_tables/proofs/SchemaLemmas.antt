-- The columns of a table, one after the other.
-- Cited by `schema::are_board_columns`, `schema::are_node_columns`.
use Rattle.std.proofs.Common.{◌≡◌, ◌<◌, ◌≤◌, List, [], ◌∷◌, length, get_or, Bool, sym, ◌∙◌, arith}
use Rattle.std.specs.Prelude.{◌↔◌, IsTrue}

-- the element in front, and the rest
first_two : {X : Type 0} (a b : X) (xs ys : List X) → a ≡ b → xs ≡ ys → a ∷ xs ≡ b ∷ ys
first_two a b xs ys h g = cc

pub four_are : {X : Type 0} (xs : List X) (a b c d w x y z : X) (last : Bool) → 4 ≤ length xs → length xs < 5
    → a ≡ get_or xs 0 a → b ≡ get_or xs 1 b → c ≡ get_or xs 2 c → d ≡ get_or xs 3 d → a ≡ w → b ≡ x → c ≡ y → IsTrue last ↔ (d ≡ z)
    → IsTrue last ↔ (xs ≡ w ∷ x ∷ y ∷ z ∷ [])
four_are [] a b c d w x y z last many few at bt ct dt p q r s = absurd (omega arith)
four_are (e ∷ []) a b c d w x y z last many few at bt ct dt p q r s = absurd (omega arith)
four_are (e ∷ f ∷ []) a b c d w x y z last many few at bt ct dt p q r s = absurd (omega arith)
four_are (e ∷ f ∷ g ∷ []) a b c d w x y z last many few at bt ct dt p q r s = absurd (omega arith)
four_are (e ∷ f ∷ g ∷ h ∷ []) a b c d w x y z last many few at bt ct dt p q r s = (
  λ is. let t = s.0 is in cc,
  λ same. s.1 (let t : h ≡ z = cc in dt ∙ t),
)
four_are (e ∷ f ∷ g ∷ h ∷ i ∷ more) a b c d w x y z last many few at bt ct dt p q r s = absurd (omega arith)

pub five_are : {X : Type 0} (xs : List X) (a b c d e v w x y z : X) (last : Bool) → 5 ≤ length xs → length xs < 6
    → a ≡ get_or xs 0 a → b ≡ get_or xs 1 b → c ≡ get_or xs 2 c → d ≡ get_or xs 3 d → e ≡ get_or xs 4 e
    → a ≡ v → b ≡ w → c ≡ x → d ≡ y → IsTrue last ↔ (e ≡ z)
    → IsTrue last ↔ (xs ≡ v ∷ w ∷ x ∷ y ∷ z ∷ [])
five_are [] a b c d e v w x y z last many few at bt ct dt et p q r s t = absurd (omega arith)
five_are (f ∷ xs) a b c d e v w x y z last many few at bt ct dt et p q r s t =
    let rest = four_are xs b c d e w x y z last (omega arith) (omega arith) bt ct dt et q r s t in (
      λ is. first_two f v xs _ (sym at ∙ p) (rest.0 is),
      λ same. rest.1 (let tail : xs ≡ w ∷ x ∷ y ∷ z ∷ [] = cc in tail),
    )
