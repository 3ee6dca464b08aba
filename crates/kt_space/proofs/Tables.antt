-- The tables of chains stay so, whatever is written.
-- Cited by `Chains::push`, `Chains::remove`.
use Rattle.std.proofs.Common.{◌≡◌, ◌≢◌, ℕ, zero, suc, ◌+◌, ◌<◌, ◌≤◌, max, Bool, true, false, cond, nat_eq, List}
use Rattle.std.proofs.Common.{[], ◌∷◌, ◌++◌, length, set, Option, None, Some, refl, sym, ap, subst, ◌∙◌, arith, eqb-true}
use Rattle.std.proofs.lemmas.Bool.{eqb-false}
use Rattle.std.specs.List.{slice_get}
use Rattle.std.specs.Option.{option_and_then}
use Rattle.std.proofs.lemmas.Option.{none-some}
use Rattle.kt_space.specs.declared.chains.Ends.{Ends}
use Rattle.kt_space.specs.declared.chains.Link.{Link}
use Rattle.kt_space.specs.auxiliary.Chaining.{Has, Fits, IsIn, AreChains, after_of, before_of, changed, groups_of, opened}
use Rattle.kt_space.specs.auxiliary.Chaining.{after_changed, first_changed, before_changed, last_changed}
use Rattle.kt_space.proofs.Beside.{length-more, read_before, read_pushed}
use Rattle.kt_space.proofs.Rechained.{unlinked, pushed, grown}
use Rattle.kt_space.proofs.Linked.{size_of_groups, next_hit, next_miss, next_back, next_groups, next_count}
use Rattle.kt_space.proofs.Linked.{previous_hit, previous_miss, previous_forth, previous_groups, previous_count}
use Rattle.kt_space.proofs.Linked.{left_forth, left_back, left_groups, more_forth, more_back, more_groups}

abbrev pub AreTables : List Ends → List Link → Type 0
AreTables ends links = AreChains (groups_of links) (length ends) (after_of ends links) (before_of ends links)

pub table_unlinked : (ends : List Ends) (links : List Link) (r g : ℕ) → AreTables ends links → Has (groups_of links) r g
    → (a b : Option ℕ) → a ≡ before_of ends links g (Some r) → b ≡ after_of ends links g (Some r)
    → AreTables (last_changed (first_changed ends g a b) g b a)
    (changed (λ (l : Link). record l { group = None }) (before_changed (after_changed links a b) b a) r)
table_unlinked ends links r g chains has a b isa isb =
    let e2 : List Ends = first_changed ends g a b in
    let l2 : List Link = after_changed links a b in
    let e3 : List Ends = last_changed e2 g b a in
    let l3 : List Link = before_changed l2 b a in
    let l4 : List Link = changed (λ (l : Link). record l { group = None }) l3 r in
    let groups : groups_of l4 ≡ set (groups_of links) r None = left_groups l3 r ∙ ap (λ gs. set gs r None) (previous_groups l2 b a ∙ next_groups links a b) in
    let count : length e3 ≡ length ends = previous_count e2 g b a ∙ next_count ends g a b in
    let fits_a : Fits (groups_of links) g a = subst (λ c. Fits (groups_of links) g c) (sym isa) (chains.back g (Some r) has).starts in
    let fits_b : Fits (groups_of links) g b = subst (λ c. Fits (groups_of links) g c) (sym isb) (chains.forth g (Some r) has).ends in
    let forth : (h : ℕ) (c : Option ℕ) → after_of e3 l4 h c ≡ after_of e2 l2 h c = λ h c. left_forth e3 l3 r h c ∙ previous_forth e2 l2 g b a h c in
    let there : (h : ℕ) (c : Option ℕ) → IsIn (groups_of links) (length ends) h c → IsIn (groups_of l2) (length e2) h c =
    λ h c in_. subst (λ gs. IsIn gs (length e2) h c) (sym (next_groups links a b)) (subst (λ n. IsIn (groups_of links) n h c) (sym (next_count ends g a b))
    in_) in
    let fits_b2 : Fits (groups_of l2) g b = subst (λ gs. Fits gs g b) (sym (next_groups links a b)) fits_b in
    let done : AreChains (set (groups_of links) r None) (length ends) (after_of e3 l4) (before_of e3 l4) =
    unlinked (groups_of links) (length ends) r g (after_of ends links) (before_of ends links) (after_of e3 l4) (before_of e3 l4) chains has
    (λ in_. subst (λ c. after_of e3 l4 g c ≡ after_of ends links g (Some r)) isa
    (forth g a ∙ next_hit ends links g a b (subst (λ c. IsIn (groups_of links) (length ends) g c) (sym isa) in_) ∙ isb))
    (λ h c in_ n. forth h c ∙ next_miss ends links g a b fits_a h c in_ (λ e i. n e (i ∙ isa)))
    (λ in_. subst (λ c. before_of e3 l4 g c ≡ before_of ends links g (Some r)) isb
    (left_back e3 l3 r g b ∙ previous_hit e2 l2 g b a (there g b (subst (λ c. IsIn (groups_of links) (length ends) g c) (sym isb) in_)) ∙ isa))
    (λ h c in_ n. left_back e3 l3 r h c ∙ previous_miss e2 l2 g b a fits_b2 h c (there h c in_) (λ e i. n e (i ∙ isb)) ∙ next_back ends links g a b h c) in
    subst (λ gs. AreChains gs (length e3) (after_of e3 l4) (before_of e3 l4)) (sym groups)
    (subst (λ n. AreChains (set (groups_of links) r None) n (after_of e3 l4) (before_of e3 l4)) (sym count) done)

pub unlinked_groups : (links : List Link) (r : ℕ) (a b : Option ℕ)
    → groups_of (changed (λ (l : Link). record l { group = None }) (before_changed (after_changed links a b) b a) r) ≡ set (groups_of links) r None
unlinked_groups links r a b =
    left_groups (before_changed (after_changed links a b) b a) r
    ∙ ap (λ gs. set gs r None) (previous_groups (after_changed links a b) b a ∙ next_groups links a b)

pub table_pushed : (ends : List Ends) (links : List Link) (g : ℕ) → AreTables ends links → g < length ends
    → (a : Option ℕ) → a ≡ before_of ends links g None
    → AreTables (last_changed (first_changed ends g a (Some (length links))) g None (Some (length links)))
    (after_changed links a (Some (length links)) ++ record { group = Some g; before = a; after = None } ∷ [])
table_pushed ends links g chains lt a isa =
    let n : Option ℕ = Some (length links) in
    let l : Link = record { group = Some g; before = a; after = None } in
    let e2 : List Ends = first_changed ends g a n in
    let l2 : List Link = after_changed links a n in
    let e3 : List Ends = last_changed e2 g None n in
    let l3 : List Link = l2 ++ l ∷ [] in
    let gs2 : groups_of l2 ≡ groups_of links = next_groups links a n in
    let groups : groups_of l3 ≡ groups_of links ++ Some g ∷ [] = more_groups l2 l ∙ ap (λ gs. gs ++ Some g ∷ []) gs2 in
    let count2 : length e2 ≡ length ends = next_count ends g a n in
    let count : length e3 ≡ length ends = previous_count e2 g None n ∙ count2 in
    let size : length (groups_of links) ≡ length links = size_of_groups links in
    let size2 : length (groups_of links) ≡ length l2 = sym (ap length gs2) ∙ size_of_groups l2 in
    let fits_a : Fits (groups_of links) g a = subst (λ c. Fits (groups_of links) g c) (sym isa) (chains.back g None lt).starts in
    let there : (k : ℕ) (h : ℕ) (c : Option ℕ) → IsIn (groups_of links) k h c → IsIn (groups_of l2) k h c =
    λ k h c in_. subst (λ gs. IsIn gs k h c) (sym gs2) in_ in
    let forth : (h : ℕ) (c : Option ℕ) → IsIn (groups_of links) (length ends) h c → after_of e3 l3 h c ≡ after_of e2 l2 h c =
    λ h c in_. more_forth e3 l2 l (length ends) h c (there (length ends) h c in_) ∙ previous_forth e2 l2 g None n h c in
    let back : (h : ℕ) (c : Option ℕ) → IsIn (groups_of links) (length ends) h c → before_of e3 l3 h c ≡ before_of e3 l2 h c =
    λ h c in_. more_back e3 l2 l (length ends) h c (there (length ends) h c in_) in
    let in2 : (h : ℕ) (c : Option ℕ) → IsIn (groups_of links) (length ends) h c → IsIn (groups_of l2) (length e2) h c =
    λ h c in_. subst (λ k. IsIn (groups_of l2) k h c) (sym count2) (there (length ends) h c in_) in
    let done : AreChains (groups_of links ++ Some g ∷ []) (length ends) (after_of e3 l3) (before_of e3 l3) =
    pushed (groups_of links) (length ends) g (after_of ends links) (before_of ends links) (after_of e3 l3) (before_of e3 l3) chains lt
    (λ in_. subst (λ c. after_of e3 l3 g c ≡ Some (length (groups_of links))) isa
    (let here : IsIn (groups_of links) (length ends) g a = subst (λ c. IsIn (groups_of links) (length ends) g c) (sym isa) in_ in
    forth g a here ∙ next_hit ends links g a n here ∙ ap Some (sym size)))
    (λ h c in_ m. forth h c in_ ∙ next_miss ends links g a n fits_a h c in_ (λ e i. m e (i ∙ isa)))
    (new e3 l2 l size2 (λ (k : Link). k.after))
    (back g None lt ∙ previous_hit e2 l2 g None n (in2 g None lt) ∙ ap Some (sym size))
    (λ h c in_ m. back h c in_ ∙ previous_miss e2 l2 g None n tt h c (in2 h c in_) m ∙ next_back ends links g a n h c)
    (new e3 l2 l size2 (λ (k : Link). k.before) ∙ isa) in
    subst (λ gs. AreChains gs (length e3) (after_of e3 l3) (before_of e3 l3)) (sym groups)
    (subst (λ k. AreChains (groups_of links ++ Some g ∷ []) k (after_of e3 l3) (before_of e3 l3)) (sym count) done)
  where
    new : (e : List Ends) (ls : List Link) (l : Link) → length (groups_of links) ≡ length ls → (v : Link → Option ℕ)
        → option_and_then v (slice_get (ls ++ l ∷ []) (length (groups_of links))) ≡ v l
    new e ls l is v = ap (λ k. option_and_then v (slice_get (ls ++ l ∷ []) k)) is ∙ ap (λ (o : Option Link). option_and_then v o) (read_pushed ls l)

pub pushed_groups : (links : List Link) (g : ℕ) (a to : Option ℕ)
    → groups_of (after_changed links a to ++ record { group = Some g; before = a; after = None } ∷ []) ≡ groups_of links ++ Some g ∷ []
pushed_groups links g a to =
    more_groups (after_changed links a to) (record { group = Some g; before = a; after = None }) ∙ ap (λ gs. gs ++ Some g ∷ []) (next_groups links a to)

-- a new group is opened
pub table_opened : (ends : List Ends) (links : List Link) (g : ℕ) → AreTables ends links → g ≤ length ends
    → AreTables (opened ends g) links × (g < length (opened ends g)) × (length (opened ends g) ≡ max (length ends) (g + 1))
table_opened ends links g chains le = by (nat_eq g (length ends)) refl
  where
    none : Ends
    none = record { first = None; last = None }

    same : (v : Ends → Option ℕ) (h : ℕ) → h < length ends
        → option_and_then v (slice_get (ends ++ record { first = None; last = None } ∷ []) h) ≡ option_and_then v (slice_get ends h)
    same v h lt = ap (λ (o : Option Ends). option_and_then v o) (read_before ends (record { first = None; last = None }) h lt)

    new : (v : Ends → Option ℕ) → option_and_then v (slice_get (ends ++ record { first = None; last = None } ∷ []) (length ends)) ≡ v (record {
      first = None;
      last = None;
    })
    new v = ap (λ (o : Option Ends). option_and_then v o) (read_pushed ends (record { first = None; last = None }))

    forth : (h : ℕ) (c : Option ℕ) → IsIn (groups_of links) (length ends) h c
        → after_of (ends ++ record { first = None; last = None } ∷ []) links h c ≡ after_of ends links h c
    forth h None in_ = same (λ (e : Ends). e.first) h in_
    forth h (Some i) in_ = refl

    back : (h : ℕ) (c : Option ℕ) → IsIn (groups_of links) (length ends) h c
        → before_of (ends ++ record { first = None; last = None } ∷ []) links h c ≡ before_of ends links h c
    back h None in_ = same (λ (e : Ends). e.last) h in_
    back h (Some i) in_ = refl

    by : (r : Bool) → nat_eq g (length ends) ≡ r
        → AreTables (cond r (ends ++ record { first = None; last = None } ∷ []) ends) links
        × (g < length (cond r (ends ++ record { first = None; last = None } ∷ []) ends))
        × (length (cond r (ends ++ record { first = None; last = None } ∷ []) ends) ≡ max (length ends) (g + 1))
    by true e =
        let is : g ≡ length ends = eqb-true g (length ends) e in
        let size : length (ends ++ record { first = None; last = None } ∷ []) ≡ suc (length ends) = length-more ends (record { first = None; last = None }) in (
          subst (λ n. AreChains (groups_of links) n (after_of (ends ++ record { first = None; last = None } ∷ []) links) (before_of (ends ++ record {
            first =
                None;
            last = None;
          } ∷ []) links)) (sym size)
              (grown (groups_of links) (length ends) (after_of ends links) (before_of ends links)
              (after_of (ends ++ record { first = None; last = None } ∷ []) links) (before_of (ends ++ record { first = None; last = None } ∷ []) links)
              chains forth back (new (λ (e : Ends). e.first)) (new (λ (e : Ends). e.last))),
          omega (arith, is, size),
          omega (arith, is, size),
        )
    by false e =
        let n : g ≢ length ends = eqb-false g (length ends) e in
        (chains, omega (arith, n, le), omega (arith, n, le))

-- the group of a place, as it is read
pub group_at : (links : List Link) (i g : ℕ) → option_and_then (λ (l : Link). l.group) (slice_get links i) ≡ Some g → Has (groups_of links) i g
group_at [] i g e = absurd (none-some g e)
group_at (l ∷ links) zero g e = ap Some e
group_at (l ∷ links) (suc i) g e = group_at links i g e

pub no_group : (links : List Link) (i : ℕ) → option_and_then (λ (l : Link). l.group) (slice_get links i) ≡ None → set (groups_of links) i None ≡ groups_of links
no_group [] i e = refl
no_group (l ∷ links) zero e = ap (λ g. g ∷ groups_of links) (sym e)
no_group (l ∷ links) (suc i) e = ap (λ gs. l.group ∷ gs) (no_group links i e)

-- tables that are equal to such
pub tables_as : (ends ends' : List Ends) (links links' : List Link) → ends' ≡ ends → links' ≡ links → AreTables ends links → AreTables ends' links'
tables_as ends ends' links links' e l h = subst (λ es. AreTables es links') (sym e) (subst (λ ls. AreTables ends ls) (sym l) h)
