-- A search goes from one place of the key to the next and passes no match.
-- Cited by `search::among`.
use Rattle.std.proofs.Common.{◌≡◌, ◌≢◌, ℕ, suc, ◌+◌, ◌-◌, ◌<◌, ◌≤◌, Bool, true, false, List, length, Option, None, Some}
use Rattle.std.proofs.Common.{refl, sym, ap, ◌∙◌, arith}
use Rattle.std.specs.List.{slice_get}
use Rattle.std.proofs.lemmas.Bool.{false≢true}
use Rattle.std.proofs.lemmas.Option.{slice_get_within}
use Rattle.kt_tuple.specs.declared.tuple.Tuple.{Tuple}
use Rattle.kt_tuple.specs.declared.template.Template.{Template}
use Rattle.kt_tuple.specs.Matching.{matches}
use Rattle.kt_space.specs.declared.key.Key.{Key}
use Rattle.kt_space.specs.auxiliary.Chaining.{Has, Fits, Beside, IsAfter, IsBefore, IsApart}
use Rattle.kt_space.specs.Picking.{could_match}
use Rattle.kt_space.specs.auxiliary.Slots.{IsAsked, IsFound, IsPassed, before_place, passing, slot_matches}
use Rattle.kt_space.proofs.Asked.{could_from_match}
use Rattle.kt_space.proofs.Passing.{step, gap, at_most, hit_true, hit_false}

abbrev pub to_come : ℕ → Option ℕ → ℕ
to_come size None = 0
to_come size (Some place) = size - place

-- no tuple from here to the next place passes the test
abbrev NonePass : List (Option Tuple) → (Tuple → Bool) → ℕ → Option ℕ → Type 0
NonePass slots test i next =
    (m : ℕ) (u : Tuple) → i ≤ m → m < before_place slots next → slice_get slots m ≡ Some (Some u) → test u ≡ false

module _ (slots : List (Option Tuple)) (keys : List (Option Key)) (key : Key) (t : Template) (asked : IsAsked slots keys key t) where
  before_next : (m : ℕ) (next : Option ℕ) → m < length slots → m < before_place slots next → IsBefore m next
  before_next m None lt h = tt
  before_next m (Some q) lt h = h

  not_true : (b : Bool) → (b ≡ true → ⊥) → b ≡ false
  not_true true f = absurd (f refl)
  not_true false f = refl

  pub within : (p : ℕ) → Has keys p key → p < length slots
  within p has = let h = asked.only p has in slice_get_within slots p (Some h.0) h.1

  -- from here to the next place nothing may match, and so nothing matches
  none_from : (from : Option ℕ) (i : ℕ) (next : Option ℕ) → Beside keys key from next → ((m : ℕ) → i ≤ m → IsAfter m from)
      → NonePass slots (could_match t) i next
  none_from from i next x after m u le lt at =
      not_true (could_match t u) (λ fits. x.between m (asked.all m u at fits) (after m le)
      (before_next m next (slice_get_within slots m (Some u) at) lt))

  no_match_from : (i : ℕ) (next : Option ℕ) → NonePass slots (could_match t) i next → NonePass slots (matches t) i next
  no_match_from i next none m u le lt at =
      not_true (matches t u) (λ fits. false≢true (sym (none m u le lt at) ∙ could_from_match t u fits))

  -- at the front
  pub started : (number : ℕ) (next : Option ℕ) → Beside keys key None next → IsPassed slots keys key t number next number 0
  started number next x =
      let none : NonePass slots (could_match t) 0 next = none_from None 0 next x (λ m _. tt) in
      let most = before_place slots next in
      let few : passing (matches t) slots most ≡ 0 = gap (matches t) slots 0 most (omega arith) (no_match_from 0 next none) in
      record {
        stands = x.ends;
        passed = omega (arith, few);
        counted = sym (gap (could_match t) slots 0 most (omega arith) none);
      }

  after_this : (p : ℕ) (next : Option ℕ) → Has keys p key → IsApart (Some p) next → suc p ≤ before_place slots next
  after_this p None has h = let lt = within p has in omega (arith, lt)
  after_this p (Some q) has h = omega (arith, h)

  -- from a place to the next
  none_between : (p : ℕ) (next : Option ℕ) → Beside keys key (Some p) next → NonePass slots (could_match t) (suc p) next
  none_between p next x = none_from (Some p) (suc p) next x (λ m le. omega (arith, le))

  onward : (p : ℕ) (next : Option ℕ) → Beside keys key (Some p) next
      → passing (matches t) slots (before_place slots next) ≡ passing (matches t) slots (suc p)
  onward p next x =
      gap (matches t) slots (suc p) (before_place slots next) (after_this p next x.starts x.apart)
      (no_match_from (suc p) next (none_between p next x))

  -- the tuple at a place of the key may match
  pub one_more : (p : ℕ) → Has keys p key → passing (could_match t) slots (suc p) ≡ 1 + passing (could_match t) slots p
  one_more p has =
      let h = asked.only p has in
      let one = step (could_match t) slots p (Some h.0) h.1 in
      let is = hit_true (could_match t) h.0 h.2 in
      omega (arith, one, is)

  more : (p : ℕ) (next : Option ℕ) → Beside keys key (Some p) next
      → passing (could_match t) slots (before_place slots next) ≡ 1 + passing (could_match t) slots p
  more p next x =
      gap (could_match t) slots (suc p) (before_place slots next) (after_this p next x.starts x.apart) (none_between p next x)
      ∙ one_more p x.starts

  pub matched : (p : ℕ) → Has keys p key → slot_matches t (slice_get slots p) ≡ true
      → (u : Tuple) × (slice_get slots p ≡ Some (Some u)) × (matches t u ≡ true)
  matched p has e = let h = asked.only p has in (h.0, h.1, sym (ap (slot_matches t) h.1) ∙ e)

  pub passed_match : (number p left compared compared' : ℕ) (next : Option ℕ) → compared' ≡ compared + 1
      → IsPassed slots keys key t number (Some p) left compared → Beside keys key (Some p) next
      → slot_matches t (slice_get slots p) ≡ true → left ≢ 0 → IsPassed slots keys key t number next (left - 1) compared'
  passed_match number p left compared compared' next one_up h x e n =
      let m = matched p h.stands e in
      let one = step (matches t) slots p (Some m.0) m.1 in
      let is = hit_true (matches t) m.0 m.2 in
      let on = onward p next x in
      let up = more p next x in
      let was = h.passed in
      let count = h.counted in
      record { stands = x.ends; passed = omega (arith, one, is, on, was, n); counted = omega (arith, up, count, one_up) }

  pub passed_other : (number p left compared compared' : ℕ) (next : Option ℕ) → compared' ≡ compared + 1
      → IsPassed slots keys key t number (Some p) left compared → Beside keys key (Some p) next
      → slot_matches t (slice_get slots p) ≡ false → IsPassed slots keys key t number next left compared'
  passed_other number p left compared compared' next one_up h x e =
      let m = asked.only p h.stands in
      let one = step (matches t) slots p (Some m.0) m.1 in
      let is = hit_false (matches t) m.0 (sym (ap (slot_matches t) m.1) ∙ e) in
      let on = onward p next x in
      let up = more p next x in
      let was = h.passed in
      let count = h.counted in
      record { stands = x.ends; passed = omega (arith, one, is, on, was); counted = omega (arith, up, count, one_up) }

  pub found_here : (number p left compared : ℕ) → IsPassed slots keys key t number (Some p) left compared
      → slot_matches t (slice_get slots p) ≡ true → left ≡ 0 → IsFound slots t number p
  found_here number p left compared h e n =
      let m = matched p h.stands e in
      let was = h.passed in
      record { tuple = m.0; there = m.1; fits = m.2; before = omega (arith, was, n) }

  pub counted_here : (number p left compared compared' : ℕ) → compared' ≡ compared + 1
      → IsPassed slots keys key t number (Some p) left compared → compared' ≡ passing (could_match t) slots (suc p)
  counted_here number p left compared compared' one_up h =
      let more = one_more p h.stands in
      let count = h.counted in
      omega (arith, more, count, one_up)

  -- no more tuples are compared than there are slots
  pub counts_slots : (number p left compared : ℕ) → IsPassed slots keys key t number (Some p) left compared → compared + 1 ≤ length slots
  counts_slots number p left compared h =
      let few = at_most (could_match t) slots p in
      let lt = within p h.stands in
      let count = h.counted in
      omega (arith, few, lt, count)

  -- there is less to come
  pub falls : (p : ℕ) (next : Option ℕ) → Beside keys key (Some p) next → to_come (length slots) next < to_come (length slots) (Some p)
  falls p next x = at next (within p x.starts) x.ends x.apart
    where
      at : (next : Option ℕ) → p < length slots → Fits keys key next → IsApart (Some p) next
          → to_come (length slots) next < length slots - p
      at None lt f h = omega (arith, lt)
      at (Some q) lt f h = let lt' = within q f in omega (arith, lt, lt', h)
