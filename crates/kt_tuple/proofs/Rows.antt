-- The places of a text, by the tests of the readers.
-- Cited by ByShape, Exact, TextFaults.
use Rattle.std.proofs.Common.{◌≡◌, ℕ, ◌<◌, ◌≤◌, ◌⊎◌, true, false, List, ◌∷◌, ◌++◌, length}
use Rattle.std.specs.List.{flat_map, list_all}
use Rattle.kt_tuple.specs.declared.tuple.TheConstants.{MAX_PLACES}
use Rattle.kt_tuple.specs.Grammar.{Consists, followed}
use Rattle.kt_tuple.specs.Reading.{has_range, is_short}

-- the text is places of the shape in parentheses, and the first of them that is out of range begins at this byte
pub record HasOutside (IsOne : List ℕ → Type 0) (text : List ℕ) (at : ℕ) : Type 0 where
  pub before : List (List ℕ)
  pub number : List ℕ
  pub others : List (List ℕ)
  pub rest : List ℕ
  pub places : Consists IsOne (before ++ number ∷ others) text
  pub parts : text ≡ (40 ∷ flat_map followed before) ++ (number ++ rest)
  pub begins : length (40 ∷ flat_map followed before) ≡ at
  pub inside : list_all has_range before ≡ true
  pub outside : has_range number ≡ false

-- the text is places of the shape in parentheses, all in range, and more than `MAX_PLACES` or not all short
pub record HasTooLong (IsOne : List ℕ → Type 0) (text : List ℕ) : Type 0 where
  pub places : List (List ℕ)
  pub are : Consists IsOne places text
  pub inside : list_all has_range places ≡ true
  pub long : (MAX_PLACES < length places) ⊎ (list_all is_short places ≡ false)

-- the text is 1 to `MAX_PLACES` places of the shape in parentheses, all in range and short
pub record HasFine (IsOne : List ℕ → Type 0) (text : List ℕ) : Type 0 where
  pub places : List (List ℕ)
  pub are : Consists IsOne places text
  pub inside : list_all has_range places ≡ true
  pub few : length places ≤ MAX_PLACES
  pub short : list_all is_short places ≡ true
