-- What is read of chains after a write.
-- Cited by Tables.
use Rattle.std.proofs.Common.{◌≡◌, ◌≢◌, ℕ, zero, suc, ◌<◌, List, [], ◌∷◌, ◌++◌, length, set, map, Option, None, Some, refl, sym, ap, subst, ◌∙◌, arith}
use Rattle.std.specs.List.{slice_get}
use Rattle.std.specs.Option.{option_map_or, option_and_then}
use Rattle.std.proofs.lemmas.Option.{slice_get_within}
use Rattle.kt_space.specs.declared.chains.Ends.{Ends}
use Rattle.kt_space.specs.declared.chains.Link.{Link}
use Rattle.kt_space.specs.auxiliary.Chaining.{Has, Fits, IsIn, after_of, before_of, changed, groups_of, after_changed, first_changed, before_changed}
use Rattle.kt_space.specs.auxiliary.Chaining.{last_changed}
use Rattle.kt_space.proofs.Beside.{read_before, one_group}

changed_later : {A : Type 0} (f : A → A) (x : A) (xs : List A) (i : ℕ) → changed f (x ∷ xs) (suc i) ≡ x ∷ changed f xs i
changed_later f x xs i = by (slice_get xs i)
  where
    by : (o : Option _) → option_map_or (λ y. x ∷ set xs i (f y)) o (x ∷ xs) ≡ x ∷ option_map_or (λ y. set xs i (f y)) o xs
    by None = refl
    by (Some y) = refl

pub length-changed : {A : Type 0} (f : A → A) (xs : List A) (i : ℕ) → length (changed f xs i) ≡ length xs
length-changed f [] i = refl
length-changed f (x ∷ xs) zero = refl
length-changed f (x ∷ xs) (suc i) = ap length (changed_later f x xs i) ∙ ap suc (length-changed f xs i)

pub map-changed : {A B : Type 0} (v : A → B) (f : A → A) → ((x : A) → v (f x) ≡ v x) → (xs : List A) (i : ℕ) → map v (changed f xs i) ≡ map v xs
map-changed v f same [] i = refl
map-changed v f same (x ∷ xs) zero = ap (λ y. y ∷ map v xs) (same x)
map-changed v f same (x ∷ xs) (suc i) = ap (map v) (changed_later f x xs i) ∙ ap (λ ys. v x ∷ ys) (map-changed v f same xs i)

pub map-changed_to : {A B : Type 0} (v : A → B) (f : A → A) (b : B) → ((x : A) → v (f x) ≡ b) → (xs : List A) (i : ℕ)
    → map v (changed f xs i) ≡ set (map v xs) i b
map-changed_to v f b is [] i = refl
map-changed_to v f b is (x ∷ xs) zero = ap (λ y. y ∷ map v xs) (is x)
map-changed_to v f b is (x ∷ xs) (suc i) = ap (map v) (changed_later f x xs i) ∙ ap (λ ys. v x ∷ ys) (map-changed_to v f b is xs i)

pub unread : {A B : Type 0} (v : A → Option B) (f : A → A) → ((x : A) → v (f x) ≡ v x) → (xs : List A) (i j : ℕ)
    → option_and_then v (slice_get (changed f xs i) j) ≡ option_and_then v (slice_get xs j)
unread v f same [] i j = refl
unread v f same (x ∷ xs) zero zero = same x
unread v f same (x ∷ xs) zero (suc j) = refl
unread v f same (x ∷ xs) (suc i) zero = ap (λ ys. option_and_then v (slice_get ys zero)) (changed_later f x xs i)
unread v f same (x ∷ xs) (suc i) (suc j) = ap (λ ys. option_and_then v (slice_get ys (suc j))) (changed_later f x xs i) ∙ unread v f same xs i j

pub wrote : {A B : Type 0} (v : A → Option B) (f : A → A) (b : Option B) → ((x : A) → v (f x) ≡ b) → (xs : List A) (i : ℕ) → i < length xs
    → option_and_then v (slice_get (changed f xs i) i) ≡ b
wrote v f b is [] i lt = absurd (omega arith)
wrote v f b is (x ∷ xs) zero lt = is x
wrote v f b is (x ∷ xs) (suc i) lt = ap (λ ys. option_and_then v (slice_get ys (suc i))) (changed_later f x xs i) ∙ wrote v f b is xs i (omega arith)

pub elsewhere : {A B : Type 0} (v : A → Option B) (f : A → A) (xs : List A) (i j : ℕ) → j ≢ i
    → option_and_then v (slice_get (changed f xs i) j) ≡ option_and_then v (slice_get xs j)
elsewhere v f [] i j n = refl
elsewhere v f (x ∷ xs) zero zero n = absurd (n refl)
elsewhere v f (x ∷ xs) zero (suc j) n = refl
elsewhere v f (x ∷ xs) (suc i) zero n = ap (λ ys. option_and_then v (slice_get ys zero)) (changed_later f x xs i)
elsewhere v f (x ∷ xs) (suc i) (suc j) n = ap (λ ys. option_and_then v (slice_get ys (suc j))) (changed_later f x xs i)
    ∙ elsewhere v f xs i j (λ e. n (ap suc e))

pub size_of_groups : (links : List Link) → length (groups_of links) ≡ length links
size_of_groups [] = refl
size_of_groups (l ∷ links) = ap suc (size_of_groups links)

pub in_links : (links : List Link) (i g : ℕ) → Has (groups_of links) i g → i < length links
in_links links i g has = subst (λ n. i < n) (size_of_groups links) (slice_get_within (groups_of links) i (Some g) has)

-- a write of what stands behind a place is read there
pub next_hit : (ends : List Ends) (links : List Link) (g : ℕ) (at to : Option ℕ) → IsIn (groups_of links) (length ends) g at
    → after_of (first_changed ends g at to) (after_changed links at to) g at ≡ to
next_hit ends links g None to in_ = wrote (λ (e : Ends). e.first) (λ (e : Ends). record e { first = to }) to (λ _. refl) ends g in_
next_hit ends links g (Some i) to in_ = wrote (λ (l : Link). l.after) (λ (l : Link). record l { after = to }) to (λ _. refl) links i (in_links links i g in_)

-- and nowhere else
pub next_miss : (ends : List Ends) (links : List Link) (g : ℕ) (at to : Option ℕ) → Fits (groups_of links) g at → (h : ℕ) (c : Option ℕ)
    → IsIn (groups_of links) (length ends) h c → (h ≡ g → c ≡ at → ⊥)
    → after_of (first_changed ends g at to) (after_changed links at to) h c ≡ after_of ends links h c
next_miss ends links g None to f h None in_ n =
    elsewhere (λ (e : Ends). e.first) (λ (e : Ends). record e { first = to }) ends g h (λ e. n e refl)
next_miss ends links g None to f h (Some j) in_ n = refl
next_miss ends links g (Some i) to f h None in_ n = refl
next_miss ends links g (Some i) to f h (Some j) in_ n =
    elsewhere (λ (l : Link). l.after) (λ (l : Link). record l { after = to }) links i j
    (λ e. n (one_group (groups_of links) j h g in_ (subst (λ k. Has (groups_of links) k g) (sym e) f)) (ap Some e))

-- and nothing is before another place for it
pub next_back : (ends : List Ends) (links : List Link) (g : ℕ) (at to : Option ℕ) (h : ℕ) (c : Option ℕ)
    → before_of (first_changed ends g at to) (after_changed links at to) h c ≡ before_of ends links h c
next_back ends links g None to h None = unread (λ (e : Ends). e.last) (λ (e : Ends). record e { first = to }) (λ _. refl) ends g h
next_back ends links g None to h (Some j) = refl
next_back ends links g (Some i) to h None = refl
next_back ends links g (Some i) to h (Some j) = unread (λ (l : Link). l.before) (λ (l : Link). record l { after = to }) (λ _. refl) links i j

pub next_groups : (links : List Link) (at to : Option ℕ) → groups_of (after_changed links at to) ≡ groups_of links
next_groups links None to = refl
next_groups links (Some i) to = map-changed (λ (l : Link). l.group) (λ (l : Link). record l { after = to }) (λ _. refl) links i

pub next_count : (ends : List Ends) (g : ℕ) (at to : Option ℕ) → length (first_changed ends g at to) ≡ length ends
next_count ends g None to = length-changed (λ (e : Ends). record e { first = to }) ends g
next_count ends g (Some i) to = refl

-- the same of a write of what stands before a place
pub previous_hit : (ends : List Ends) (links : List Link) (g : ℕ) (at to : Option ℕ) → IsIn (groups_of links) (length ends) g at
    → before_of (last_changed ends g at to) (before_changed links at to) g at ≡ to
previous_hit ends links g None to in_ = wrote (λ (e : Ends). e.last) (λ (e : Ends). record e { last = to }) to (λ _. refl) ends g in_
previous_hit ends links g (Some i) to in_ = wrote (λ (l : Link). l.before) (λ (l : Link). record l { before = to }) to (λ _. refl) links i (in_links links i
    g in_)

pub previous_miss : (ends : List Ends) (links : List Link) (g : ℕ) (at to : Option ℕ) → Fits (groups_of links) g at → (h : ℕ) (c : Option ℕ)
    → IsIn (groups_of links) (length ends) h c → (h ≡ g → c ≡ at → ⊥)
    → before_of (last_changed ends g at to) (before_changed links at to) h c ≡ before_of ends links h c
previous_miss ends links g None to f h None in_ n =
    elsewhere (λ (e : Ends). e.last) (λ (e : Ends). record e { last = to }) ends g h (λ e. n e refl)
previous_miss ends links g None to f h (Some j) in_ n = refl
previous_miss ends links g (Some i) to f h None in_ n = refl
previous_miss ends links g (Some i) to f h (Some j) in_ n =
    elsewhere (λ (l : Link). l.before) (λ (l : Link). record l { before = to }) links i j
    (λ e. n (one_group (groups_of links) j h g in_ (subst (λ k. Has (groups_of links) k g) (sym e) f)) (ap Some e))

pub previous_forth : (ends : List Ends) (links : List Link) (g : ℕ) (at to : Option ℕ) (h : ℕ) (c : Option ℕ)
    → after_of (last_changed ends g at to) (before_changed links at to) h c ≡ after_of ends links h c
previous_forth ends links g None to h None = unread (λ (e : Ends). e.first) (λ (e : Ends). record e { last = to }) (λ _. refl) ends g h
previous_forth ends links g None to h (Some j) = refl
previous_forth ends links g (Some i) to h None = refl
previous_forth ends links g (Some i) to h (Some j) = unread (λ (l : Link). l.after) (λ (l : Link). record l { before = to }) (λ _. refl) links i j

pub previous_groups : (links : List Link) (at to : Option ℕ) → groups_of (before_changed links at to) ≡ groups_of links
previous_groups links None to = refl
previous_groups links (Some i) to = map-changed (λ (l : Link). l.group) (λ (l : Link). record l { before = to }) (λ _. refl) links i

pub previous_count : (ends : List Ends) (g : ℕ) (at to : Option ℕ) → length (last_changed ends g at to) ≡ length ends
previous_count ends g None to = length-changed (λ (e : Ends). record e { last = to }) ends g
previous_count ends g (Some i) to = refl

-- a place that leaves its group stands where it stood
pub left_forth : (ends : List Ends) (links : List Link) (r h : ℕ) (c : Option ℕ)
    → after_of ends (changed (λ (l : Link). record l { group = None }) links r) h c ≡ after_of ends links h c
left_forth ends links r h None = refl
left_forth ends links r h (Some j) = unread (λ (l : Link). l.after) (λ (l : Link). record l { group = None }) (λ _. refl) links r j

pub left_back : (ends : List Ends) (links : List Link) (r h : ℕ) (c : Option ℕ)
    → before_of ends (changed (λ (l : Link). record l { group = None }) links r) h c ≡ before_of ends links h c
left_back ends links r h None = refl
left_back ends links r h (Some j) = unread (λ (l : Link). l.before) (λ (l : Link). record l { group = None }) (λ _. refl) links r j

pub left_groups : (links : List Link) (r : ℕ) → groups_of (changed (λ (l : Link). record l { group = None }) links r) ≡ set (groups_of links) r None
left_groups links r = map-changed_to (λ (l : Link). l.group) (λ (l : Link). record l { group = None }) None (λ _. refl) links r

-- one link more
pub more_forth : (ends : List Ends) (links : List Link) (l : Link) (n h : ℕ) (c : Option ℕ) → IsIn (groups_of links) n h c
    → after_of ends (links ++ l ∷ []) h c ≡ after_of ends links h c
more_forth ends links l n h None in_ = refl
more_forth ends links l n h (Some j) in_ = ap (λ (o : Option Link). option_and_then (λ (l : Link). l.after) o) (read_before links l j (in_links links j h in_))

pub more_back : (ends : List Ends) (links : List Link) (l : Link) (n h : ℕ) (c : Option ℕ) → IsIn (groups_of links) n h c
    → before_of ends (links ++ l ∷ []) h c ≡ before_of ends links h c
more_back ends links l n h None in_ = refl
more_back ends links l n h (Some j) in_ = ap (λ (o : Option Link). option_and_then (λ (l : Link). l.before) o) (read_before links l j (in_links links j h in_))

pub more_groups : (links : List Link) (l : Link) → groups_of (links ++ l ∷ []) ≡ groups_of links ++ l.group ∷ []
more_groups [] l = refl
more_groups (k ∷ links) l = ap (λ gs. k.group ∷ gs) (more_groups links l)
