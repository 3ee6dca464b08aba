-- Places in a row, each in a group or in none, and which two places of a group stand beside each other.
-- Cited by Asked, Beside, Linked, Numbered, Rechained, Searched, Stays, Tables, chains.rt, groups.rt,
--   specs/auxiliary/Grouping, specs/auxiliary/Slots, `Chains::first`, `Chains::next`, `Chains::push`, `Chains::remove`,
--   `Groups::first`, `Groups::next`.
use Rattle.std.specs.Prelude.{◌≡◌, ℕ, ◌<◌, Bool, List, Option, Some, None}
use Rattle.std.specs.Prelude.{[], ◌∷◌, ◌++◌, nat_eq, if◌then◌else◌, length, set, map}
use Rattle.std.specs.List.{slice_get}
use Rattle.std.specs.Option.{option_map_or, option_and_then}
use Rattle.kt_space.specs.declared.chains.Ends.{Ends}
use Rattle.kt_space.specs.declared.chains.Link.{Link}

-- the place is of the group
abbrev pub Has : {A : Type 0} → List (Option A) → ℕ → A → Type 0
Has groups place g = slice_get groups place ≡ Some (Some g)

-- a place of the group, or the group's end
abbrev pub Fits : {A : Type 0} → List (Option A) → A → Option ℕ → Type 0
Fits groups g None = Unit {0}
Fits groups g (Some place) = Has groups place g

abbrev pub IsAfter : ℕ → Option ℕ → Type 0
IsAfter place None = Unit {0}
IsAfter place (Some before) = before < place

abbrev pub IsBefore : ℕ → Option ℕ → Type 0
IsBefore place None = Unit {0}
IsBefore place (Some after) = place < after

abbrev pub IsApart : Option ℕ → Option ℕ → Type 0
IsApart None to = Unit {0}
IsApart (Some from) to = IsBefore from to

-- two places of the group, or its front, or its end, in this order, with no place of the group between them
pub record Beside {A : Type 0} (groups : List (Option A)) (g : A) (from to : Option ℕ) : Type 0 where
  pub starts : Fits groups g from
  pub ends : Fits groups g to
  pub apart : IsApart from to
  pub between : (place : ℕ) → Has groups place g → IsAfter place from → IsBefore place to → ⊥

-- what chains are to their callers: the group of each place, how many groups there are, and whether there is
-- room for one place more, in a new group too
pub record Chained : Type 0 where
  pub groups : List (Option ℕ)
  pub count : ℕ
  pub has_room : Bool

-- what a group's chain has behind a place, or at its front; and before a place, or at its end
abbrev pub after_of : List Ends → List Link → ℕ → Option ℕ → Option ℕ
after_of ends links g None = option_and_then (λ (e : Ends). e.first) (slice_get ends g)
after_of ends links g (Some place) = option_and_then (λ (l : Link). l.after) (slice_get links place)

abbrev pub before_of : List Ends → List Link → ℕ → Option ℕ → Option ℕ
before_of ends links g None = option_and_then (λ (e : Ends). e.last) (slice_get ends g)
before_of ends links g (Some place) = option_and_then (λ (l : Link). l.before) (slice_get links place)

-- the list with one item changed
abbrev pub changed : {A : Type 0} → (A → A) → List A → ℕ → List A
changed change xs place = option_map_or (λ x. set xs place (change x)) (slice_get xs place) xs

abbrev pub groups_of : List Link → List (Option ℕ)
groups_of links = map (λ (l : Link). l.group) links

-- the group is there, and the place is one of it
abbrev pub IsIn : List (Option ℕ) → ℕ → ℕ → Option ℕ → Type 0
IsIn groups count g None = g < count
IsIn groups count g (Some place) = Has groups place g

-- each chain goes through the places of its group in order
pub record AreChains (groups : List (Option ℕ)) (count : ℕ) (after before : ℕ → Option ℕ → Option ℕ) : Type 0 where
  pub known : (place g : ℕ) → Has groups place g → g < count
  pub forth : (g : ℕ) (at : Option ℕ) → IsIn groups count g at → Beside groups g at (after g at)
  pub back : (g : ℕ) (at : Option ℕ) → IsIn groups count g at → Beside groups g (before g at) at

-- another place behind this one, or at the group's front; and another place before it, or at the group's end
abbrev pub after_changed : List Link → Option ℕ → Option ℕ → List Link
after_changed links None to = links
after_changed links (Some place) to = changed (λ (l : Link). record l { after = to }) links place

abbrev pub first_changed : List Ends → ℕ → Option ℕ → Option ℕ → List Ends
first_changed ends g None to = changed (λ (e : Ends). record e { first = to }) ends g
first_changed ends g (Some place) to = ends

abbrev pub before_changed : List Link → Option ℕ → Option ℕ → List Link
before_changed links None to = links
before_changed links (Some place) to = changed (λ (l : Link). record l { before = to }) links place

abbrev pub last_changed : List Ends → ℕ → Option ℕ → Option ℕ → List Ends
last_changed ends g None to = changed (λ (e : Ends). record e { last = to }) ends g
last_changed ends g (Some place) to = ends

-- with one group more, of no places, where the group is the next new one
abbrev pub opened : List Ends → ℕ → List Ends
opened ends g = if nat_eq g (length ends) then ends ++ record { first = None; last = None } ∷ [] else ends
