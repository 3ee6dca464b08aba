-- Lines and cells that are put behind others.
-- Cited by adding.rt, `ballot_cells::ballot_lines`, `cells::way_lines`, `node_cells::kept_lines`,
--   `request_cells::bag_lines`.
use Rattle.std.proofs.Common.{◌≡◌, ℕ, zero, suc, ◌+◌, ◌<◌, ◌≤◌, List, [], ◌∷◌, ◌++◌, length, get_or, map, take, refl, sym, ap, ◌∙◌, arith}
use Rattle.std.specs.Prelude.{Option, slice_get}
use Rattle.std.specs.List.{flat_map}
use Rattle.std.specs.Global.{Vec}
use Rattle.std.proofs.lemmas.List.{flat_map_more, take_all, take_more}
use Rattle.kt_cells.specs.Cells.{Lines}
use Rattle.kt_cells.specs.Texts.{cells_text, text_of}
use Rattle.kt_cells.specs.auxiliary.Found.{line_if}

text-append : (lines : List (Vec ℕ)) (line : Vec ℕ) → text_of (lines ++ line ∷ []) ≡ text_of lines ++ line.items ∷ []
text-append [] line = refl
text-append (first ∷ lines) line = ap (λ (ls : Lines). first.items ∷ ls) (text-append lines line)

cells-append : (cells : List (Vec (Vec ℕ))) (cell : Vec (Vec ℕ)) → cells_text (cells ++ cell ∷ []) ≡ cells_text cells ++ text_of cell.items ∷ []
cells-append [] cell = refl
cells-append (first ∷ cells) cell = ap (λ (cs : List Lines). text_of first.items ∷ cs) (cells-append cells cell)

-- one line more
pub line_more : (old new : List (Vec ℕ)) (line : Vec ℕ) → new ≡ old ++ line ∷ [] → text_of new ≡ text_of old ++ line.items ∷ []
line_more old new line more = ap text_of more ∙ text-append old line

-- one cell more
pub cell_more : (old new : List (Vec (Vec ℕ))) (cell : Vec (Vec ℕ)) → new ≡ old ++ cell ∷ [] → cells_text new ≡ cells_text old ++ text_of cell.items ∷ []
cell_more old new cell more = ap cells_text more ∙ cells-append old cell

-- what one thing more adds
pub one_more : {A X : Type 0} (f : X → List A) (start before after : List A) (xs : List X) (i : ℕ) (d : X) → i < length xs
    → before ≡ start ++ flat_map f (take i xs) → after ≡ before ++ f (get_or xs i d)
    → after ≡ start ++ flat_map f (take (i + 1) xs)
one_more f start before after xs i d within so_far more =
    more ∙ ap (λ l. l ++ f (get_or xs i d)) so_far ∙ flat_map_more f start (take i xs) (get_or xs i d)
    ∙ ap (λ l. start ++ flat_map f l) (sym (take_more xs i d within))

-- the lines of the first so many, and the one of the next if there is one
taken-more : {X : Type 0} (line : X → List ℕ) (xs : List X) (i : ℕ) → map line (take i xs) ++ line_if line (slice_get xs i) ≡ map line (take (suc i) xs)
taken-more line [] zero = refl
taken-more line [] (suc i) = refl
taken-more line (x ∷ xs) zero = refl
taken-more line (x ∷ xs) (suc i) = ap (λ (ls : Lines). line x ∷ ls) (taken-more line xs i)

pub taken_more : {X : Type 0} (line : X → List ℕ) (xs : List X) (i : ℕ) (so_far new : Lines) (found : Option X) → so_far ≡ map line (take i xs)
    → new ≡ so_far ++ line_if line found → found ≡ slice_get xs i → new ≡ map line (take (i + 1) xs)
taken_more line xs i so_far new found before more at =
    let places : suc i ≡ i + 1 = omega arith in
    more ∙ ap (λ (ls : Lines). ls ++ line_if line found) before ∙ ap (λ (o : Option _). map line (take i xs) ++ line_if line o) at
    ∙ taken-more line xs i ∙ ap (λ (k : ℕ). map line (take k xs)) places

-- all lines
pub taken_all : {X : Type 0} (line : X → List ℕ) (xs : List X) (i : ℕ) (lines : Lines) → length xs ≤ i → lines ≡ map line (take i xs) → lines ≡ map line xs
taken_all line xs i lines end are = are ∙ ap (map line) (take_all i xs end)

-- the lines of what a node takes part in
pub part_is : (line : List ℕ) (awaited refused voted l0 l1 l2 l3 l4 : Lines) → l0 ≡ [] → l1 ≡ l0 ++ line ∷ [] → l2 ≡ l1 ++ awaited → l3 ≡ l2 ++ refused
    → l4 ≡ l3 ++ voted → l4 ≡ line ∷ awaited ++ refused ++ voted
part_is line awaited refused voted l0 l1 l2 l3 l4 e0 e1 e2 e3 e4 =
    e4 ∙ ap (λ (ls : Lines). ls ++ voted) (e3 ∙ ap (λ (ls : Lines). ls ++ refused) (e2 ∙ ap (λ (ls : Lines). ls ++ awaited)
    (e1 ∙ ap (λ (ls : Lines). ls ++ line ∷ []) e0)))
