-- What tuples are grouped by, and which of them a template is compared with.
-- Cited by Asked, Bags, Numbered, groups.rt, index.rt, key.rt, search.rt, specs/auxiliary/Slots, `Bag::tidy`,
--   `Groups::first`, `Groups::next`, `Groups::push`, `Groups::remove`, `Index::of`.
use Rattle.std.specs.Prelude.{◌≡◌, ℕ, ◌<◌, Bool, true, false, nat_eq, ◌&&◌, List}
use Rattle.std.specs.Prelude.{[], ◌∷◌, length, map, Option, Some, None, refl}
use Rattle.std.specs.Bool.{Decides}
use Rattle.std.specs.Cmp.{unsigned_Decides}
use Rattle.std.specs.List.{slice_get}
use Rattle.std.specs.Option.{option_and_then}
use Rattle.std.proofs.Common.{ap}
use Rattle.std.proofs.lemmas.Bool.{and_parts, and_from}
use Rattle.kt_tuple.specs.declared.value.Value.{Value}
use Rattle.kt_tuple.specs.declared.tuple.Tuple.{Tuple}
use Rattle.kt_tuple.specs.declared.template.Place.TheVariants.{Actual, Formal}
use Rattle.kt_tuple.specs.declared.template.Template.{Template}
use Rattle.kt_tuple.specs.Equality.{value_eq, value_eq_decides}
use Rattle.kt_tuple.specs.Signature.{kinds_of, kinds_of_places, signature_of}
use Rattle.kt_space.specs.declared.key.Key.{Key}
use Rattle.kt_space.specs.auxiliary.Chaining.{Has}

-- the kinds of a tuple; the same and its first value
abbrev pub kinds_key : Tuple → Key
kinds_key u = record { signature = signature_of (kinds_of u); first = None }

abbrev pub first_key : Tuple → Key
first_key u = record { signature = signature_of (kinds_of u); first = slice_get u 0 }

-- the value that the first place asks for, where it is an actual
abbrev pub first_actual : Template → Option Value
first_actual [] = None
first_actual (Actual v ∷ places) = Some v
first_actual (Formal k ∷ places) = None

abbrev pub template_key : Template → Key
template_key t = record { signature = signature_of (kinds_of_places t); first = first_actual t }

-- two keys are one
abbrev pub first_eq : Option Value → Option Value → Bool
first_eq None None = true
first_eq None (Some w) = false
first_eq (Some v) None = false
first_eq (Some v) (Some w) = value_eq v w

abbrev pub key_eq : Key → Key → Bool
key_eq a b = nat_eq a.signature b.signature && first_eq a.first b.first

pub first_eq_decides : (a b : Option Value) → Decides (first_eq a b) (a ≡ b)
first_eq_decides None None = (λ _. refl, λ _. refl)
first_eq_decides None (Some w) = (λ e. absurd cc, λ e. absurd cc)
first_eq_decides (Some v) None = (λ e. absurd cc, λ e. absurd cc)
first_eq_decides (Some v) (Some w) = (
  λ e. ap Some ((value_eq_decides v w).0 e),
  λ (e : Some v ≡ Some w).
      (value_eq_decides v w).1 cc,
)

pub key_eq_decides : (a b : Key) → Decides (key_eq a b) (a ≡ b)
key_eq_decides a b = (
  λ e. let h = and_parts (nat_eq a.signature b.signature) (first_eq a.first b.first) e in
      same ((unsigned_Decides a.signature b.signature).0 h.0) ((first_eq_decides a.first b.first).0 h.1),
  λ e. and_from (nat_eq a.signature b.signature) (first_eq a.first b.first)
      ((unsigned_Decides a.signature b.signature).1 (ap (λ (k : Key). k.signature) e)) ((first_eq_decides a.first
      b.first).1 (ap (λ (k : Key). k.first) e)),
)
  where
    same : a.signature ≡ b.signature → a.first ≡ b.first → a ≡ b
    same e f = λ i. record { signature = e i; first = f i }

-- what groups are to their callers: the key of each place, and whether there is room for one place more, of
-- whatever key
pub record Grouped : Type 0 where
  pub keys : List (Option Key)
  pub has_room : Bool

-- the keys of the groups' places, the groups being numbered
abbrev pub keys_at : {A : Type 0} → List A → List (Option ℕ) → List (Option A)
keys_at keys groups = map (option_and_then (slice_get keys)) groups

-- no key has two numbers, and each number has a key
pub record AreNumbers {A : Type 0} (keys : List A) (groups : List (Option ℕ)) (count : ℕ) : Type 0 where
  pub counted : length keys ≡ count
  pub known : (place g : ℕ) → Has groups place g → g < count
  pub unique : (i j : ℕ) (k : A) → slice_get keys i ≡ Some k → slice_get keys j ≡ Some k → i ≡ j
