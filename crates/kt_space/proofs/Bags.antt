-- The slots of a bag and its index, after a tuple more, without one, and moved together.
-- Cited by `Bag::count_matches`, `Bag::get`, `Bag::nth_match_counted`, `Bag::put_reserved`, `Bag::take_nth`,
--   `Bag::tidy`.
use Rattle.std.proofs.Common.{◌≡◌, ℕ, suc, ◌+◌, ◌-◌, ◌≤◌, List, [], ◌∷◌, ◌++◌, length, map, filter, set, is_some, Option, None, Some}
use Rattle.std.proofs.Common.{refl, sym, ap, subst, ◌∙◌, arith}
use Rattle.std.specs.List.{slice_get}
use Rattle.std.specs.Option.{option_and_then, option_map, IfSome, IfNone}
use Rattle.std.proofs.lemmas.Option.{slice_get-map, slice_get_past, slice_get_within}
use Rattle.kt_tuple.specs.declared.tuple.Tuple.{Tuple}
use Rattle.kt_tuple.specs.declared.template.Template.{Template}
use Rattle.kt_tuple.specs.Matching.{matches}
use Rattle.kt_space.specs.declared.key.Key.{Key}
use Rattle.kt_space.specs.auxiliary.Grouping.{kinds_key, first_key}
use Rattle.kt_space.specs.Picking.{could_match, matching, without_match, up_to_match}
use Rattle.kt_space.specs.auxiliary.Slots.{IsFound, IsIndexed, filled, keyed, passing, through_place}
use Rattle.kt_space.proofs.Beside.{length-more}
use Rattle.kt_space.proofs.Filled.{filled_pushed, keyed_pushed, keyed_without, length_without, found_match, found_up_to}
use Rattle.kt_space.proofs.Filled.{filled_filled, keyed_filled, all_filled}
use Rattle.kt_space.proofs.Passing.{at_most, mono, whole}
use Rattle.kt_space.proofs.Picked.{without_none, up_to_all}

pub indexed_pushed : (slots slots' : List (Option Tuple)) (len : ℕ) (kinds firsts kinds' firsts' : List (Option Key)) (u : Tuple)
    → IsIndexed slots len kinds firsts
    → slots' ≡ slots ++ Some u ∷ [] → kinds' ≡ kinds ++ Some (kinds_key u) ∷ [] → firsts' ≡ firsts ++ Some (first_key u) ∷ []
    → IsIndexed slots' (len + 1) kinds' firsts'
indexed_pushed slots slots' len kinds firsts kinds' firsts' u h e k f = record {
  counted = (let size : length (filled slots') ≡ suc (length (filled slots)) = ap (λ l. length (filled l)) e ∙ ap length (filled_pushed slots u)
      ∙ length-more (filled slots) u in
      let was = h.counted in omega (arith, size, was));
  by_kinds = k ∙ ap (λ l. l ++ Some (kinds_key u) ∷ []) h.by_kinds ∙ sym (keyed_pushed kinds_key slots u) ∙ ap (keyed kinds_key) (sym e);
  by_first = f ∙ ap (λ l. l ++ Some (first_key u) ∷ []) h.by_first ∙ sym (keyed_pushed first_key slots u) ∙ ap (keyed first_key) (sym e);
}

pub indexed_without : (slots : List (Option Tuple)) (len p : ℕ) (kinds firsts kinds' firsts' : List (Option Key)) (u : Tuple) → IsIndexed slots len kinds firsts
    → slice_get slots p ≡ Some (Some u) → kinds' ≡ set kinds p None → firsts' ≡ set firsts p None
    → IsIndexed (set slots p None) (len - 1) kinds' firsts'
indexed_without slots len p kinds firsts kinds' firsts' u h at k f = record {
  counted = (let one = length_without slots p u at in let was = h.counted in omega (arith, one, was));
  by_kinds = k ∙ ap (λ l. set l p None) h.by_kinds ∙ sym (keyed_without kinds_key slots p);
  by_first = f ∙ ap (λ l. set l p None) h.by_first ∙ sym (keyed_without first_key slots p);
}

pub some_tuple : (slots : List (Option Tuple)) (len p : ℕ) (kinds firsts : List (Option Key)) (u : Tuple) → IsIndexed slots len kinds firsts
    → slice_get slots p ≡ Some (Some u) → 1 ≤ len
some_tuple slots len p kinds firsts u h at = let one = length_without slots p u at in let was = h.counted in omega (arith, one, was)

tidied : (slots : List (Option Tuple)) → filter (λ s. is_some s) slots ≡ map (λ u. Some u) (filled slots)
tidied [] = refl
tidied (None ∷ slots) = tidied slots
tidied (Some u ∷ slots) = ap (λ l. Some u ∷ l) (tidied slots)

pub tidied_filled : (slots slots' : List (Option Tuple)) → slots' ≡ filter (λ s. is_some s) slots → filled slots' ≡ filled slots
tidied_filled slots slots' e = ap filled (e ∙ tidied slots) ∙ filled_filled (filled slots)

pub indexed_tidied : (slots slots' : List (Option Tuple)) (len : ℕ) (kinds firsts kinds' firsts' : List (Option Key)) → IsIndexed slots len kinds firsts
    → slots' ≡ filter (λ s. is_some s) slots → kinds' ≡ map (λ u. Some (kinds_key u)) (filled slots) → firsts' ≡ map (λ u. Some (first_key u)) (filled slots)
    → IsIndexed slots' len kinds' firsts'
indexed_tidied slots slots' len kinds firsts kinds' firsts' h e k f = record {
  counted = ap length (tidied_filled slots slots' e) ∙ h.counted;
  by_kinds = k ∙ sym (keyed_filled kinds_key (filled slots)) ∙ ap (keyed kinds_key) (sym (e ∙ tidied slots));
  by_first = f ∙ sym (keyed_filled first_key (filled slots)) ∙ ap (keyed first_key) (sym (e ∙ tidied slots));
}

-- with no slot empty
pub read_full : (slots : List (Option Tuple)) (p : ℕ) → length (filled slots) ≡ length slots
    → option_and_then (λ s. s) (slice_get slots p) ≡ slice_get (filled slots) p
read_full slots p e =
    ap (λ l. option_and_then (λ s. s) (slice_get l p)) (all_filled slots e) ∙ ap (option_and_then (λ s. s)) (slice_get-map (λ u. Some u) (filled slots) p)
    ∙ join (slice_get (filled slots) p)
  where
    join : (o : Option Tuple) → option_and_then (λ s. s) (option_map (λ u. Some u) o) ≡ o
    join None = refl
    join (Some u) = refl

-- what a search came to is the match of the number
pub match_found : (slots : List (Option Tuple)) (t : Template) (k left : ℕ) (o : Option ℕ) → IfSome o (λ p. IsFound slots t k p)
    → IfNone o (length (matching t (filled slots)) + left ≡ k)
    → option_and_then (λ p. option_and_then (λ s. s) (slice_get slots p)) o ≡ slice_get (matching t (filled slots)) k
match_found slots t k left None f n = sym (slice_get_past (matching t (filled slots)) k (omega (arith, n)))
match_found slots t k left (Some p) f n = ap (option_and_then (λ s. s)) f.there ∙ sym (found_match slots t k p f)

pub nothing_found : (slots : List (Option Tuple)) (t : Template) (k left : ℕ) (o : Option ℕ) → o ≡ None
    → IfNone o (length (matching t (filled slots)) + left ≡ k) → filled slots ≡ without_match t k (filled slots)
nothing_found slots t k left o e n =
    let is : length (matching t (filled slots)) + left ≡ k = subst (λ o. IfNone o (length (matching t (filled slots)) + left ≡ k)) e n in
    sym (without_none t (filled slots) k (omega (arith, is)))

-- a search goes through the tuples up to the match
pub searched : (slots : List (Option Tuple)) (t : Template) (k left : ℕ) (o : Option ℕ) → IfSome o (λ p. IsFound slots t k p)
    → IfNone o (length (matching t (filled slots)) + left ≡ k)
    → passing (could_match t) slots (through_place slots o) ≡ length (filter (could_match t) (up_to_match t k (filled slots)))
searched slots t k left None f n =
    whole (could_match t) slots (length slots) (omega arith)
    ∙ ap (λ l. length (filter (could_match t) l)) (sym (up_to_all t (filled slots) k (omega (arith, n))))
searched slots t k left (Some p) f n = ap (λ l. length (filter (could_match t) l)) (found_up_to slots t k p f)

pub searched_at_most : (slots : List (Option Tuple)) (t : Template) (k : ℕ) (o : Option ℕ) → IfSome o (λ p. IsFound slots t k p)
    → passing (could_match t) slots (through_place slots o) ≤ length (filter (could_match t) (filled slots))
searched_at_most slots t k None f = let all = whole (could_match t) slots (length slots) (omega arith) in omega (arith, all)
searched_at_most slots t k (Some p) f =
    let lt = slice_get_within slots p (Some f.tuple) f.there in
    let up = mono (could_match t) slots (suc p) (length slots) (omega (arith, lt)) in
    let all = whole (could_match t) slots (length slots) (omega arith) in
    omega (arith, up, all)

-- how many match, from a search for more than there are
pub counted : (slots : List (Option Tuple)) (t : Template) (k left : ℕ) (o : Option ℕ) → k ≡ length slots → IfSome o (λ p. IsFound slots t k p)
    → IfNone o (length (matching t (filled slots)) + left ≡ k) → k - left ≡ length (matching t (filled slots))
counted slots t k left None e f n = omega (arith, n)
counted slots t k left (Some p) e f n =
    let lt = slice_get_within slots p (Some f.tuple) f.there in
    let few = few_before slots t p in
    let was = f.before in
    absurd (omega (arith, e, lt, few, was))
  where
    few_before : (slots : List (Option Tuple)) (t : Template) (p : ℕ) → passing (matches t) slots p ≤ p
    few_before slots t p = at_most (matches t) slots p
