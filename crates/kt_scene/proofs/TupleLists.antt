-- The texts of tuples, sorted, are the list that the report has of them.
-- Cited by `report::push_sorted`, `report::push_tuples`.
use Rattle.std.proofs.Common.{◌≡◌, ℕ, zero, suc, ◌+◌, ◌<◌, List, [], ◌∷◌, ◌++◌, length, map, get_or, refl, sym, ap, subst, ◌∙◌, append_assoc}
use Rattle.std.proofs.Common.{arith}
use Rattle.std.specs.Prelude.{IsPermutation, OnOk, Result, Ok, Err}
use Rattle.std.specs.List.{flat_map}
use Rattle.std.specs.List.Sorted.{IsSorted}
use Rattle.std.specs.Ordering.{nat_cmp, is_lt}
use Rattle.std.specs.Cmp.Lexicographic.{slice_cmp}
use Rattle.std.specs.Global.{Vec}
use Rattle.std.proofs.lemmas.List.{length-map}
use Rattle.std.proofs.lemmas.List.Sorted.{IsPermutation-map}
use Rattle.kt_tuple.specs.declared.tuple.Tuple.{Tuple}
use Rattle.kt_tuple.specs.Spelling.{tuple_text}
use Rattle.kt_scene.specs.Report.{count_line}
use Rattle.kt_text.specs.Text.{text_line}
use Rattle.kt_scene.specs.auxiliary.Texts.{AppendsTexts, items_of}

get_or-items : (texts : List (Vec ℕ)) (k : ℕ) (v : Vec ℕ) (d : List ℕ) → k < length texts → get_or (items_of texts) k d ≡ (get_or texts k v).items
get_or-items [] k v d h = absurd (omega arith)
get_or-items (t ∷ ts) zero v d h = refl
get_or-items (t ∷ ts) (suc k) v d h = get_or-items ts k v d (omega arith)

-- texts that rise by their items rise
rising : (texts : List (Vec ℕ)) → IsSorted (λ (a b : Vec ℕ). slice_cmp nat_cmp a.items b.items) texts → IsSorted (slice_cmp nat_cmp) (items_of texts)
rising [] sorted = λ k d low high. absurd (omega arith)
rising (t ∷ ts) sorted = λ k d low high.
    let within : k + 1 < length (t ∷ ts) = omega (arith, length-map (t ∷ ts) (λ (v : Vec ℕ). v.items)) in
    let before : k < length (t ∷ ts) = omega (arith, within) in
    ap (λ (x : List ℕ). is_lt (slice_cmp nat_cmp x (get_or (items_of (t ∷ ts)) k d))) (get_or-items (t ∷ ts) (k + 1) t d within)
    ∙ ap (λ (x : List ℕ). is_lt (slice_cmp nat_cmp (get_or (t ∷ ts) (k + 1) t).items x)) (get_or-items (t ∷ ts) k t d before)
    ∙ sorted k t low within

pub texts_listed : (word old once new : List ℕ) (texts sorted : List (Vec ℕ)) (count : ℕ) → IsPermutation texts sorted
    → IsSorted (λ (a b : Vec ℕ). slice_cmp nat_cmp a.items b.items) sorted → count ≡ length sorted → once ≡ old ++ count_line word count
    → new ≡ once ++ flat_map text_line (items_of sorted)
    → AppendsTexts word (items_of texts) old new
texts_listed word old once new texts sorted count same rise many first second = record {
  text = count_line word (length (items_of sorted)) ++ flat_map text_line (items_of sorted);
  listed = record {
    texts = items_of sorted;
    same = IsPermutation-map (λ (v : Vec ℕ). v.items) texts sorted same;
    rising = rising sorted rise;
    is = refl;
  };
  appended =
      second ∙ ap (λ (l : List ℕ). l ++ flat_map text_line (items_of sorted))
      (first ∙ ap (λ (n : ℕ). old ++ count_line word n) (many ∙ sym (length-map sorted (λ (v : Vec ℕ). v.items))))
      ∙ append_assoc old (count_line word (length (items_of sorted))) (flat_map text_line (items_of sorted));
}

-- the same of the tuples whose texts they are
pub as_tuples : {X E : Type 0} (r : Result X E) (word old new : List ℕ) (texts : List (Vec ℕ)) (tuples : List Tuple) → items_of texts ≡ map tuple_text tuples
    → OnOk r (AppendsTexts word (items_of texts) old new)
    → OnOk r (AppendsTexts word (map tuple_text tuples) old new)
as_tuples (Ok x) word old new texts tuples are held =
    let P : List (List ℕ) → Type 0 = λ l. AppendsTexts word l old new in
    subst P are held
as_tuples (Err e) word old new texts tuples are held = tt

-- what follows at Ok
pub ok_then : {X E : Type 0} {P Q : Type 0} (r : Result X E) → (P → Q) → OnOk r P → OnOk r Q
ok_then (Ok x) f p = f p
ok_then (Err e) f p = tt
