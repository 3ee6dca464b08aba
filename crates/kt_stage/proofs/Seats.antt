-- What the seats of a closed stage keep.
-- Cited by `Stage::close`, `closing::fits`, `closing::is_matched`.
use Rattle.std.proofs.Common.{◌≡◌, ℕ, zero, suc, ◌+◌, ◌<◌, ◌≤◌, Bool, true, false, cond, not, ◌||◌, ◌&&◌, ◌↔◌, List, [], ◌∷◌, ◌++◌, take, drop, length, get_or}
use Rattle.std.proofs.Common.{refl, sym, ap, subst, ◌∙◌, arith}
use Rattle.std.proofs.Common.{None, Some, All, IsTrue, IsPermutation, filter, flat_map, if◌then◌else◌}
use Rattle.std.specs.List.{list_any}
use Rattle.std.proofs.lemmas.List.{append_assoc, append-nil, append_cancel_left, length-take-le, take_all, take_more, take-append-drop}
use Rattle.std.proofs.lemmas.List.Elements.{All-nil, All-cons, All-head, All-tail}
use Rattle.std.proofs.lemmas.List.Sorted.{IsPermutation-refl, IsPermutation-sym, IsPermutation-trans, IsPermutation-cons, IsPermutation-to_front}
use Rattle.std.proofs.lemmas.List.Sorted.{IsPermutation-append_left, IsPermutation-append_right}
use Rattle.std.proofs.lemmas.Bool.{and_parts}
use Rattle.kt_tuple.specs.declared.node.NodeId.{NodeId}
use Rattle.kt_tuple.specs.Node.{node_eq, node_eq_decides}
use Rattle.kt_tuple.proofs.Shared.{node_eq-refl}
use Rattle.kt_scenario.specs.declared.step.Step.{Step}
use Rattle.kt_scenario.specs.Scene.{SceneModel}
use Rattle.kt_scenario.specs.Step.{owner}
use Rattle.kt_stage.specs.declared.seat.Receipt.{Receipt}
use Rattle.kt_stage.specs.Closing.{IsMatched, first_missing, full_seat, has_seat, numbered, receipts_in, seats_of}
use Rattle.kt_stage.specs.auxiliary.Midway.{IsClosed}
use Rattle.kt_stage.specs.Journal.{Held, kept_of, receipt, receipts_of}
use Rattle.kt_stage.specs.auxiliary.Midway.{are_owned}
use Rattle.kt_stage.specs.Order.{has_node, nodes_of}

-- ---- the seats of one node

none-found : {A : Type 0} (test : A → Bool) (xs : List A) → list_any test xs ≡ false → filter test xs ≡ []
none-found test [] e = refl
none-found {A} test (x ∷ xs) e = by (test x) (none-found test xs) e
  where
    by : (b : Bool) → (list_any test xs ≡ false → filter test xs ≡ []) → (b || list_any test xs) ≡ false → cond b (x ∷ filter test xs) (filter test xs) ≡ []
    by true f e = absurd cc
    by false f e = f e

some-found : {A : Type 0} (test : A → Bool) (xs : List A) → list_any test xs ≡ true → filter test xs ≡ [] → ⊥
some-found test [] e none = absurd cc
some-found {A} test (x ∷ xs) e none = by (test x) (some-found test xs) e none
  where
    by : (b : Bool) → (list_any test xs ≡ true → filter test xs ≡ [] → ⊥) → (b || list_any test xs) ≡ true → cond b (x ∷ filter test xs) (filter test xs) ≡ []
        → ⊥
    by true f e none = absurd cc
    by false f e none = f e none

none-at : {A : Type 0} (test : A → Bool) (xs : List A) (k : ℕ) (d : A) → k < length xs → test (get_or xs k d) ≡ true → filter test xs ≡ [] → ⊥
none-at test [] k d lt is none = omega (arith, lt)
none-at {A} test (x ∷ xs) zero d lt is none =
    absurd (let e : x ∷ filter test xs ≡ [] = sym (ap (λ (b : Bool). cond b (x ∷ filter test xs) (filter test xs)) is) ∙ none in cc)
none-at {A} test (x ∷ xs) (suc k) d lt is none = by (test x) (none-at test xs k d (omega (arith, lt)) is) none
  where
    by : (b : Bool) → (filter test xs ≡ [] → ⊥) → cond b (x ∷ filter test xs) (filter test xs) ≡ [] → ⊥
    by true f none = absurd cc
    by false f none = f none

-- the only one that is found
only-at : {A : Type 0} (test : A → Bool) (xs : List A) (y : A) (k : ℕ) (d : A) → k < length xs → test (get_or xs k d) ≡ true → filter test xs ≡ y ∷ []
    → get_or xs k d ≡ y
only-at test [] y k d lt is one = absurd (omega (arith, lt))
only-at {A} test (x ∷ xs) y zero d lt is one =
    let e : x ∷ filter test xs ≡ y ∷ [] = sym (ap (λ (b : Bool). cond b (x ∷ filter test xs) (filter test xs)) is) ∙ one in cc
only-at {A} test (x ∷ xs) y (suc k) d lt is one = by (test x) (only-at test xs y k d (omega (arith, lt)) is) (none-at test xs k d (omega (arith, lt)) is) one
  where
    by : (b : Bool) → (filter test xs ≡ y ∷ [] → get_or xs k d ≡ y) → (filter test xs ≡ [] → ⊥) → cond b (x ∷ filter test xs) (filter test xs) ≡ y ∷ []
        → get_or xs k d ≡ y
    by true f g one = absurd (g (let e : x ∷ filter test xs ≡ y ∷ [] = one in cc))
    by false f g one = f one

-- whether the node's seat is matched: this one is its own, and fits or does not; and there is another or none
pub matched-here : (p : NodeId) (steps : List Step) (seats : List Held) (seat : Held) (later : List Held) (fits has : Bool) → seats ≡ seat ∷ later
    → seat.node ≡ p
    → (IsTrue fits ↔ (seat.receipts ≡ receipts_of p 1 steps)) → has ≡ has_seat later p → IsTrue (fits && not has) ↔ IsMatched steps seats p
matched-here p steps seats seat later fits has split own are is = (λ e. to (and_parts fits (not has) e), λ one. from fits has are is (front one))
  where
    found : seats_of p seats ≡ seat ∷ seats_of p later
    found =
        ap (seats_of p) split
        ∙ ap (λ (b : Bool). cond b (seat ∷ seats_of p later) (seats_of p later)) (ap (node_eq p) own ∙ node_eq-refl p)

    to : (fits ≡ true) × (not has ≡ true) → IsMatched steps seats p
    to e =
        let none : has_seat later p ≡ false = sym is ∙ (let h : not has ≡ true = e.1 in nothing has h) in
        let whole : seat ≡ full_seat steps p = made seat own (are.0 e.0) in
        found ∙ ap (λ xs. seat ∷ xs) (none-found (λ s. node_eq p s.node) later none) ∙ ap (λ s. s ∷ []) whole
      where
        nothing : (b : Bool) → not b ≡ true → b ≡ false
        nothing true h = absurd cc
        nothing false h = refl

        made : (s : Held) → s.node ≡ p → s.receipts ≡ receipts_of p 1 steps → s ≡ full_seat steps p
        made s n r = ap (λ q. record { node = q; receipts = s.receipts }) n ∙ ap (λ xs. record { node = p; receipts = xs }) r

    front : IsMatched steps seats p → seat ∷ seats_of p later ≡ full_seat steps p ∷ []
    front one = sym found ∙ one

    from : (fits has : Bool) → (IsTrue fits ↔ (seat.receipts ≡ receipts_of p 1 steps)) → has ≡ has_seat later p
        → seat ∷ seats_of p later ≡ full_seat steps p ∷ [] → (fits && not has) ≡ true
    from fits true are is one = absurd (some-found (λ s. node_eq p s.node) later (sym is) (let e : seats_of p later ≡ [] = cc in e))
    from fits false are is one = let same : seat ≡ full_seat steps p = cc in rw (are.1 (ap (λ (s : Held). s.receipts) same)) refl

-- this one is another node's
pub matched-later : (p : NodeId) (steps : List Step) (seats : List Held) (seat : Held) (later : List Held) (r : Bool) → seats ≡ seat ∷ later
    → (seat.node ≡ p → ⊥)
    → IsTrue r ↔ IsMatched steps later p → IsTrue r ↔ IsMatched steps seats p
matched-later p steps seats seat later r split other is = (λ e. passed ∙ is.0 e, λ one. is.1 (sym passed ∙ one))
  where
    apart : (b : Bool) → node_eq p seat.node ≡ b → b ≡ false
    apart true e = absurd (other (sym ((node_eq_decides p seat.node).0 e)))
    apart false e = refl

    passed : seats_of p seats ≡ seats_of p later
    passed =
        ap (seats_of p) split
        ∙ ap (λ (b : Bool). cond b (seat ∷ seats_of p later) (seats_of p later)) (apart (node_eq p seat.node) refl)

-- ---- what a closed stage's seats keep

-- what holds of all nodes of a list holds of each that is found in it
pub of-found : {A : Type 0} (node : A → NodeId) (P : NodeId → Type 0) (p : NodeId) (xs : List A) → list_any (λ x. node_eq p (node x)) xs ≡ true
    → All (λ x. P (node x)) xs → P p
of-found node P p [] e all = absurd cc
of-found {A} node P p (x ∷ xs) e all = by (node_eq p (node x)) refl (λ f. of-found node P p xs f (All-tail (λ y. P (node y)) x xs all)) e
  where
    by : (b : Bool) → node_eq p (node x) ≡ b → (list_any (λ y. node_eq p (node y)) xs ≡ true → P p) → (b || list_any (λ y. node_eq p (node y)) xs) ≡ true → P p
    by true is later e = subst P (sym ((node_eq_decides p (node x)).0 is)) (All-head (λ y. P (node y)) x xs all)
    by false is later e = later e

pub one-each : (steps : List Step) (seats : List Held) (nodes : List NodeId) → All (λ seat. IsMatched steps seats seat.node) seats
    → first_missing nodes seats ≡ None → All (IsMatched steps seats) nodes
one-each steps seats [] are none = All-nil (IsMatched steps seats)
one-each steps seats (p ∷ later) are none = by (has_seat seats p) refl (λ f. one-each steps seats later are f) none
  where
    by : (b : Bool) → has_seat seats p ≡ b → (first_missing later seats ≡ None → All (IsMatched steps seats) later)
        → cond (not b) (Some p) (first_missing later seats) ≡ None → All (IsMatched steps seats) (p ∷ later)
    by true is rest none = All-cons (IsMatched steps seats) p later (of-found (λ (s : Held). s.node) (IsMatched steps seats) p seats is are) (rest none)
    by false is rest none = absurd cc

pub kept : (steps : List Step) (seats : List Held) → All (λ seat. IsMatched steps seats seat.node) seats
    → All (λ seat. seat.receipts ≡ receipts_of seat.node 1 steps) seats
kept steps seats are k d lt =
    let seat = get_or seats k d in
    ap (λ (s : Held). s.receipts) (only-at (λ s. node_eq seat.node s.node) seats (full_seat steps seat.node) k d lt (node_eq-refl seat.node) (are k d lt))

-- ---- each step stands in one receipt

flat-same : {A B : Type 0} (f g : A → List B) (xs : List A) → All (λ x. f x ≡ g x) xs → flat_map f xs ≡ flat_map g xs
flat-same f g [] are = refl
flat-same f g (x ∷ xs) are =
    ap (λ ys. ys ++ flat_map f xs) (All-head (λ y. f y ≡ g y) x xs are) ∙ ap (λ ys. g x ++ ys) (flat-same f g xs (All-tail (λ y. f y ≡ g y) x xs are))

flat-none : {A B : Type 0} (f : A → List B) (xs : List A) → ((x : A) → f x ≡ []) → flat_map f xs ≡ []
flat-none f [] none = refl
flat-none f (x ∷ xs) none = ap (λ ys. ys ++ flat_map f xs) (none x) ∙ flat-none f xs none

middle : {A : Type 0} (x : A) (xs ys : List A) → IsPermutation (x ∷ (xs ++ ys)) (xs ++ x ∷ ys)
middle x xs ys =
    IsPermutation-sym (xs ++ x ∷ ys) (x ∷ (xs ++ ys))
    (subst (λ zs. IsPermutation zs (x ∷ (xs ++ ys))) (append_assoc xs (x ∷ []) ys)
    (IsPermutation-append_left ys (xs ++ x ∷ []) (x ∷ xs) (IsPermutation-to_front xs x)))

-- a list more for the only one that is found
module _ {A B : Type 0} (test : A → Bool) (r : B) (f g : A → List B) (is : (x : A) → f x ≡ (if test x then r ∷ [] else []) ++ g x) where
  as-before : (xs : List A) → filter test xs ≡ [] → flat_map f xs ≡ flat_map g xs
  as-before [] none = refl
  as-before (x ∷ xs) none = by (test x) (is x) (as-before xs) none
    where
      by : (b : Bool) → f x ≡ (if b then r ∷ [] else []) ++ g x → (filter test xs ≡ [] → flat_map f xs ≡ flat_map g xs)
          → cond b (x ∷ filter test xs) (filter test xs) ≡ []
          → f x ++ flat_map f xs ≡ g x ++ flat_map g xs
      by true here more none = absurd cc
      by false here more none = ap (λ ys. ys ++ flat_map f xs) here ∙ ap (λ ys. g x ++ ys) (more none)

  one-more : (xs : List A) (one : A) → filter test xs ≡ one ∷ [] → IsPermutation (r ∷ flat_map g xs) (flat_map f xs)
  one-more [] one found = absurd cc
  one-more (x ∷ xs) one found = by (test x) (is x) (λ f. one-more xs one f) found
    where
      by : (b : Bool) → f x ≡ (if b then r ∷ [] else []) ++ g x → (filter test xs ≡ one ∷ [] → IsPermutation (r ∷ flat_map g xs) (flat_map f xs))
          → cond b (x ∷ filter test xs) (filter test xs) ≡ one ∷ []
          → IsPermutation (r ∷ (g x ++ flat_map g xs)) (f x ++ flat_map f xs)
      by true here more found =
          let none : filter test xs ≡ [] = cc in
          subst (IsPermutation (r ∷ (g x ++ flat_map g xs)))
          (sym (ap (λ ys. ys ++ flat_map f xs) here ∙ ap (λ ys. (r ∷ g x) ++ ys) (as-before xs none)))
          (IsPermutation-refl (r ∷ (g x ++ flat_map g xs)))
      by false here more found =
          subst (IsPermutation (r ∷ (g x ++ flat_map g xs))) (sym (ap (λ ys. ys ++ flat_map f xs) here))
          (IsPermutation-trans (r ∷ (g x ++ flat_map g xs)) (g x ++ r ∷ flat_map g xs) (g x ++ flat_map f xs) (middle r (g x) (flat_map g xs))
          (IsPermutation-append_right (g x) (r ∷ flat_map g xs) (flat_map f xs) (more found)))

spread : (scene : SceneModel) (seats : List Held) → ((p : NodeId) → has_node scene p ≡ true → (one : Held) × (seats_of p seats ≡ one ∷ []))
    → (number : ℕ) (steps : List Step) → are_owned scene steps ≡ true
    → IsPermutation (numbered number steps) (flat_map (λ seat. receipts_of seat.node number steps) seats)
unfolding receipts_of
spread scene seats have number [] owned =
    subst (IsPermutation []) (sym (flat-none (λ seat. receipts_of seat.node number []) seats (λ seat. refl))) (IsPermutation-refl [])
spread scene seats have number (step ∷ later) owned =
    let both = and_parts (has_node scene (owner step)) (are_owned scene later) owned in
    let one = have (owner step) both.0 in
    let r = receipt number step in
    let rest = λ (seat : Held). receipts_of seat.node (number + 1) later in
    IsPermutation-trans (r ∷ numbered (number + 1) later) (r ∷ flat_map rest seats) (flat_map (λ seat. receipts_of seat.node number (step ∷ later)) seats)
    (IsPermutation-cons r (numbered (number + 1) later) (flat_map rest seats) (spread scene seats have (number + 1) later both.1))
    (one-more (λ seat. node_eq (owner step) seat.node) r (λ seat. receipts_of seat.node number (step ∷ later)) rest (λ seat. refl) seats one.0 one.1)

pub each-step : (scene : SceneModel) (steps : List Step) (seats : List Held) → are_owned scene steps ≡ true → IsClosed (nodes_of scene) steps seats
    → IsPermutation (numbered 1 steps) (receipts_in seats)
each-step scene steps seats owned closed =
    subst (IsPermutation (numbered 1 steps)) (sym (flat-same (λ (s : Held). s.receipts) (λ s. receipts_of s.node 1 steps) seats (kept steps seats closed.0)))
    (spread scene seats have 1 steps owned)
  where
    are : All (IsMatched steps seats) (nodes_of scene)
    are = one-each steps seats (nodes_of scene) closed.0 closed.1

    have : (p : NodeId) → has_node scene p ≡ true → (one : Held) × (seats_of p seats ≡ one ∷ [])
    have p e = (full_seat steps p, of-found (λ (q : NodeId). q) (IsMatched steps seats) p (nodes_of scene) e are)

-- the same of equal lists
pub closed-of : (nodes : List NodeId) (steps : List Step) (seats : List Held) (others : List NodeId) (more : List Step) (held : List Held) → nodes ≡ others
    → steps ≡ more → seats ≡ held
    → IsClosed nodes steps seats → IsClosed others more held
closed-of nodes steps seats others more held n s h closed =
    subst (λ (xs : List NodeId). IsClosed xs more held) n
    (subst (λ (xs : List Step). IsClosed nodes xs held) s (subst (λ (xs : List Held). IsClosed nodes steps xs) h closed))

-- an equation with the same side
pub same-side : {A : Type 0} (b : Bool) (x y z : A) → x ≡ y → IsTrue b ↔ (x ≡ z) → IsTrue b ↔ (y ≡ z)
same-side b x y z is f = (λ e. sym is ∙ f.0 e, λ e. f.1 (is ∙ e))

-- ---- the receipts of one node, step by step

pub nothing-passed : (p : NodeId) (receipts : List Receipt) → receipts ≡ receipts_of p 1 [] ++ receipts
unfolding receipts_of
nothing-passed p receipts = refl

receipts-one : (p : NodeId) (number : ℕ) (step : Step) → receipts_of p number (step ∷ []) ≡ kept_of p number step
unfolding receipts_of
receipts-one p number step = append-nil (kept_of p number step)

receipts-append : (p : NodeId) (number : ℕ) (front back : List Step)
    → receipts_of p number (front ++ back) ≡ receipts_of p number front ++ receipts_of p (number + length front) back
unfolding receipts_of
receipts-append p number [] back = ap (λ (n : ℕ). receipts_of p n back) (let e : number ≡ number + 0 = omega arith in e)
receipts-append p number (step ∷ front) back =
    let place : number + 1 + length front ≡ number + suc (length front) = omega arith in
    ap (λ (xs : List Receipt). kept_of p number step ++ xs) (
    receipts-append p (number + 1) front back
    ∙ ap (λ (n : ℕ). receipts_of p (number + 1) front ++ receipts_of p n back) place
    )
    ∙ sym (append_assoc (kept_of p number step) (receipts_of p (number + 1) front) (receipts_of p (number + suc (length front)) back))

receipts-more : (p : NodeId) (steps : List Step) (i : ℕ) (d : Step) → i < length steps
    → receipts_of p 1 (take (i + 1) steps) ≡ receipts_of p 1 (take i steps) ++ kept_of p (i + 1) (get_or steps i d)
receipts-more p steps i d lt =
    let x = get_or steps i d in
    let place : 1 + length (take i steps) ≡ i + 1 = omega (arith, length-take-le i steps (omega (arith, lt))) in
    ap (receipts_of p 1) (take_more steps i d lt)
    ∙ receipts-append p 1 (take i steps) (x ∷ [])
    ∙ ap (λ (n : ℕ). receipts_of p 1 (take i steps) ++ receipts_of p n (x ∷ [])) place
    ∙ ap (λ (xs : List Receipt). receipts_of p 1 (take i steps) ++ xs) (receipts-one p (i + 1) x)

-- the receipts so far, with those of one step more
pub kept-more : (p : NodeId) (steps : List Step) (i : ℕ) (d : Step) (receipts rest later : List Receipt) → i < length steps
    → receipts ≡ receipts_of p 1 (take i steps) ++ rest → rest ≡ kept_of p (i + 1) (get_or steps i d) ++ later
    → receipts ≡ receipts_of p 1 (take (i + 1) steps) ++ later
kept-more p steps i d receipts rest later lt so-far one =
    so-far ∙ ap (λ (xs : List Receipt). receipts_of p 1 (take i steps) ++ xs) one
    ∙ sym (append_assoc (receipts_of p 1 (take i steps)) (kept_of p (i + 1) (get_or steps i d)) later)
    ∙ ap (λ (xs : List Receipt). xs ++ later) (sym (receipts-more p steps i d lt))

-- the next receipt is another than that of the step
pub not-kept : (p : NodeId) (steps : List Step) (i : ℕ) (d : Step) (receipts rest : List Receipt) → i < length steps
    → receipts ≡ receipts_of p 1 (take i steps) ++ rest → ((later : List Receipt) → rest ≡ kept_of p (i + 1) (get_or steps i d) ++ later → ⊥)
    → receipts ≡ receipts_of p 1 steps → ⊥
not-kept p steps i d receipts rest lt so-far other same =
    other back (append_cancel_left (receipts_of p 1 (take i steps)) rest (kept_of p (i + 1) (get_or steps i d) ++ back) (sym so-far ∙ same ∙ whole))
  where
    back : List Receipt
    back = receipts_of p (1 + length (take (i + 1) steps)) (drop (i + 1) steps)

    whole : receipts_of p 1 steps ≡ receipts_of p 1 (take i steps) ++ (kept_of p (i + 1) (get_or steps i d) ++ back)
    whole =
        ap (receipts_of p 1) (sym (take-append-drop (i + 1) steps))
        ∙ receipts-append p 1 (take (i + 1) steps) (drop (i + 1) steps)
        ∙ ap (λ (xs : List Receipt). xs ++ back) (receipts-more p steps i d lt)
        ∙ append_assoc (receipts_of p 1 (take i steps)) (kept_of p (i + 1) (get_or steps i d)) back

-- nothing is left, so they are all
pub all-kept : (p : NodeId) (steps : List Step) (i : ℕ) (receipts rest : List Receipt) (none : Bool) → length steps ≤ i
    → receipts ≡ receipts_of p 1 (take i steps) ++ rest
    → IsTrue none ↔ (rest ≡ []) → IsTrue none ↔ (receipts ≡ receipts_of p 1 steps)
all-kept p steps i receipts rest none le so-far empty = (
  (λ e. whole ∙ ap (λ (xs : List Receipt). receipts_of p 1 steps ++ xs) (empty.0 e) ∙ append-nil (receipts_of p 1 steps)),
  (λ same. empty.1 (append_cancel_left (receipts_of p 1 steps) rest [] (sym whole ∙ same ∙ sym (append-nil (receipts_of p 1 steps))))),
)
  where
    whole : receipts ≡ receipts_of p 1 steps ++ rest
    whole = so-far ∙ ap (λ (xs : List Step). receipts_of p 1 xs ++ rest) (take_all i steps le)
