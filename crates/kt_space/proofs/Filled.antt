-- The tuples of slots, from the place of one of them.
-- Cited by Bags, `Bag::put_reserved`, `Bag::take_nth`, `Index::of`, `bag::copy_of`, `bag::nth_tuple`,
--   `bag::tuples_of`.
use Rattle.std.proofs.Common.{◌≡◌, ℕ, zero, suc, ◌≤◌, List, [], ◌∷◌, ◌++◌, length, map, take, remove, set, Option, None, Some}
use Rattle.std.proofs.Common.{refl, sym, ap, ◌∙◌, arith}
use Rattle.std.specs.List.{slice_get}
use Rattle.std.proofs.lemmas.Option.{none-some, same_Some}
use Rattle.kt_tuple.specs.declared.tuple.Tuple.{Tuple}
use Rattle.kt_tuple.specs.declared.template.Template.{Template}
use Rattle.kt_space.specs.declared.key.Key.{Key}
use Rattle.kt_space.specs.Picking.{matching, without_match, up_to_match}
use Rattle.kt_space.specs.auxiliary.Slots.{IsFound, filled, keyed}
use Rattle.kt_space.proofs.Picked.{match_here, without_here, up_to_here}

pub filled_some : (slots : List (Option Tuple)) (i : ℕ) (u : Tuple) → slice_get slots i ≡ Some (Some u)
    → filled (take (suc i) slots) ≡ filled (take i slots) ++ u ∷ []
filled_some [] i u at = absurd (none-some (Some u) at)
filled_some (s ∷ slots) zero u at = ap (λ (o : Option Tuple). filled (o ∷ [])) (same_Some s (Some u) at)
filled_some (None ∷ slots) (suc i) u at = filled_some slots i u at
filled_some (Some x ∷ slots) (suc i) u at = ap (λ l. x ∷ l) (filled_some slots i u at)

pub filled_none : (slots : List (Option Tuple)) (i : ℕ) → slice_get slots i ≡ Some None → filled (take (suc i) slots) ≡ filled (take i slots)
filled_none [] i at = absurd (none-some None at)
filled_none (s ∷ slots) zero at = ap (λ (o : Option Tuple). filled (o ∷ [])) (same_Some s None at)
filled_none (None ∷ slots) (suc i) at = filled_none slots i at
filled_none (Some x ∷ slots) (suc i) at = ap (λ l. x ∷ l) (filled_none slots i at)

pub filled_pushed : (slots : List (Option Tuple)) (u : Tuple) → filled (slots ++ Some u ∷ []) ≡ filled slots ++ u ∷ []
filled_pushed [] u = refl
filled_pushed (None ∷ slots) u = filled_pushed slots u
filled_pushed (Some x ∷ slots) u = ap (λ l. x ∷ l) (filled_pushed slots u)

pub keyed_pushed : (key : Tuple → Key) (slots : List (Option Tuple)) (u : Tuple)
    → keyed key (slots ++ Some u ∷ []) ≡ keyed key slots ++ Some (key u) ∷ []
keyed_pushed key [] u = refl
keyed_pushed key (None ∷ slots) u = ap (λ l. None ∷ l) (keyed_pushed key slots u)
keyed_pushed key (Some x ∷ slots) u = ap (λ l. Some (key x) ∷ l) (keyed_pushed key slots u)

pub keyed_without : (key : Tuple → Key) (slots : List (Option Tuple)) (i : ℕ) → keyed key (set slots i None) ≡ set (keyed key slots) i None
keyed_without key [] i = refl
keyed_without key (None ∷ slots) zero = refl
keyed_without key (Some x ∷ slots) zero = refl
keyed_without key (None ∷ slots) (suc i) = ap (λ l. None ∷ l) (keyed_without key slots i)
keyed_without key (Some x ∷ slots) (suc i) = ap (λ l. Some (key x) ∷ l) (keyed_without key slots i)

pub tuple_at : (slots : List (Option Tuple)) (p : ℕ) (u : Tuple) → slice_get slots p ≡ Some (Some u)
    → slice_get (filled slots) (length (filled (take p slots))) ≡ Some u
tuple_at [] p u at = absurd (none-some (Some u) at)
tuple_at (s ∷ slots) zero u at = ap (λ (o : Option Tuple). slice_get (filled (o ∷ slots)) 0) (same_Some s (Some u) at)
tuple_at (None ∷ slots) (suc p) u at = tuple_at slots p u at
tuple_at (Some x ∷ slots) (suc p) u at = tuple_at slots p u at

tuples_before : (slots : List (Option Tuple)) (p : ℕ) → take (length (filled (take p slots))) (filled slots) ≡ filled (take p slots)
tuples_before [] zero = refl
tuples_before [] (suc p) = refl
tuples_before (s ∷ slots) zero = refl
tuples_before (None ∷ slots) (suc p) = tuples_before slots p
tuples_before (Some x ∷ slots) (suc p) = ap (λ l. x ∷ l) (tuples_before slots p)

tuples_without : (slots : List (Option Tuple)) (p : ℕ) (u : Tuple) → slice_get slots p ≡ Some (Some u)
    → remove (filled slots) (length (filled (take p slots))) ≡ filled (set slots p None)
tuples_without [] p u at = absurd (none-some (Some u) at)
tuples_without (s ∷ slots) zero u at = ap (λ (o : Option Tuple). remove (filled (o ∷ slots)) 0) (same_Some s (Some u) at)
tuples_without (None ∷ slots) (suc p) u at = tuples_without slots p u at
tuples_without (Some x ∷ slots) (suc p) u at = ap (λ l. x ∷ l) (tuples_without slots p u at)

pub length_without : (slots : List (Option Tuple)) (p : ℕ) (u : Tuple) → slice_get slots p ≡ Some (Some u)
    → length (filled slots) ≡ suc (length (filled (set slots p None)))
length_without [] p u at = absurd (none-some (Some u) at)
length_without (s ∷ slots) zero u at = ap (λ (o : Option Tuple). length (filled (o ∷ slots))) (same_Some s (Some u) at)
length_without (None ∷ slots) (suc p) u at = length_without slots p u at
length_without (Some x ∷ slots) (suc p) u at = ap suc (length_without slots p u at)

-- what is found is the match of the number, and without it are the others
abbrev matching_before : List (Option Tuple) → Template → ℕ → ℕ
matching_before slots t p = length (matching t (take (length (filled (take p slots))) (filled slots)))

as_many_before : (slots : List (Option Tuple)) (t : Template) (k p : ℕ) → IsFound slots t k p → matching_before slots t p ≡ k
as_many_before slots t k p h = ap (λ l. length (matching t l)) (tuples_before slots p) ∙ h.before

pub found_match : (slots : List (Option Tuple)) (t : Template) (k p : ℕ) (h : IsFound slots t k p)
    → slice_get (matching t (filled slots)) k ≡ Some h.tuple
found_match slots t k p h =
    let before : matching_before slots t p ≡ k = as_many_before slots t k p h in
    ap (slice_get (matching t (filled slots))) (sym before)
    ∙ match_here t (filled slots) (length (filled (take p slots))) h.tuple (tuple_at slots p h.tuple h.there) h.fits

pub found_others : (slots : List (Option Tuple)) (t : Template) (k p : ℕ) → IsFound slots t k p
    → filled (set slots p None) ≡ without_match t k (filled slots)
found_others slots t k p h =
    let before : matching_before slots t p ≡ k = as_many_before slots t k p h in
    sym (tuples_without slots p h.tuple h.there)
    ∙ without_here t (filled slots) (length (filled (take p slots))) h.tuple (tuple_at slots p h.tuple h.there) h.fits
    ∙ ap (λ n. without_match t n (filled slots)) before

-- up to it stand the tuples of the slots through its own
pub found_up_to : (slots : List (Option Tuple)) (t : Template) (k p : ℕ) → IsFound slots t k p
    → filled (take (suc p) slots) ≡ up_to_match t k (filled slots)
found_up_to slots t k p h =
    filled_some slots p h.tuple h.there
    ∙ ap (λ l. l ++ h.tuple ∷ []) (sym (tuples_before slots p))
    ∙ up_to_here t (filled slots) (length (filled (take p slots))) h.tuple (tuple_at slots p h.tuple h.there) h.fits
    ∙ ap (λ n. up_to_match t n (filled slots)) (as_many_before slots t k p h)

-- the tuples alone
pub filled_filled : (us : List Tuple) → filled (map (λ u. Some u) us) ≡ us
filled_filled [] = refl
filled_filled (u ∷ us) = ap (λ l. u ∷ l) (filled_filled us)

pub keyed_filled : (key : Tuple → Key) (us : List Tuple) → keyed key (map (λ u. Some u) us) ≡ map (λ u. Some (key u)) us
keyed_filled key [] = refl
keyed_filled key (u ∷ us) = ap (λ l. Some (key u) ∷ l) (keyed_filled key us)

pub filled_at_most : (slots : List (Option Tuple)) → length (filled slots) ≤ length slots
filled_at_most [] = omega arith
filled_at_most (None ∷ slots) = let rest = filled_at_most slots in omega (arith, rest)
filled_at_most (Some x ∷ slots) = let rest = filled_at_most slots in omega (arith, rest)

-- with no slot empty the tuple of a number stands in the slot of that number
pub all_filled : (slots : List (Option Tuple)) → length (filled slots) ≡ length slots → slots ≡ map (λ u. Some u) (filled slots)
all_filled [] e = refl
all_filled (None ∷ slots) e = let few = filled_at_most slots in absurd (omega (arith, few, e))
all_filled (Some x ∷ slots) e = ap (λ l. Some x ∷ l) (all_filled slots (omega (arith, e)))
