-- A closed choice of acts is, of each node's acts, a front of its log.
-- Cited by Counts, `laws::closed_choices_are_fronts`, `laws::survivors_are_fronts`; other crates.
use Rattle.std.proofs.Common.{◌≡◌, ℕ, zero, suc, ◌+◌, ◌<◌, ◌≤◌, Bool, true, false, cond, List, [], ◌∷◌, ◌++◌}
use Rattle.std.proofs.Common.{take, length, Some, refl, sym, ap, ◌∙◌, subst, inl, inr, arith, Contains, add-zero}
use Rattle.std.specs.List.{slice_get, cons_option}
use Rattle.std.proofs.lemmas.List.{append-nil, length_push}
use Rattle.std.proofs.lemmas.List.Elements.{filter_map-append, filter-append, Contains-append_right, Contains-append_cases, Contains-push_cases}
use Rattle.std.proofs.lemmas.Bool.{cases_Bool, cases_eq, false≢true}
use Rattle.std.proofs.lemmas.Option.{none-some, same_Some}
use Rattle.std.proofs.Math.Seq.{append_snoc}
use Rattle.kt_tuple.specs.declared.node.NodeId.{NodeId}
use Rattle.kt_history.specs.declared.note.Act.{Act}
use Rattle.kt_history.specs.declared.note.Note.{Note}
use Rattle.kt_history.specs.declared.note.Note.TheVariants as notes
use Rattle.kt_history.specs.Log.{note_at, before, IsAct, same_node, log}
use Rattle.kt_history.specs.Past.{StoodBefore}
use Rattle.kt_history.specs.Survival.{marked_from, marked_acts}
use Rattle.kt_history.specs.Closed.{IsClosed, IsFront, act_of, acts_at, acts_in_log, own}
use Rattle.kt_history.proofs.Lists.{snoc_ind, slice_get-append_right, slice_get-from_Contains}
use Rattle.kt_history.proofs.Lists.{Contains-from_slice_get, Contains-none, Contains-here, Contains-there}
use Rattle.kt_history.proofs.Logs.{same_node-true, same_node-refl, log-own, log-stack, log-rises, log-own_act}
use Rattle.kt_history.proofs.Logs.{log-own_cut, log-other_act, log-other_cut, note_at-old, note_at-new, note_at-within}
use Rattle.kt_history.proofs.Survivors.{Stands-own}
use Rattle.kt_history.proofs.Lists.{slice_get-take_below}

-- the marked acts of two histories one after the other
pub marked_from-append : (m : ℕ → Bool) (n : ℕ) (h g : List Note) → marked_from m n (h ++ g) ≡ marked_from m n h ++ marked_from m (n + length h) g
unfolding marked_from
marked_from-append m n [] g = ap (λ k. marked_from m k g) (sym (add-zero n))
marked_from-append m n (notes.Cut p keep ∷ h) g =
    let same : suc n + length h ≡ n + suc (length h) = omega arith in
    marked_from-append m (suc n) h g ∙ ap (λ k. marked_from m (suc n) h ++ marked_from m k g) same
marked_from-append m n (notes.Act a ∷ h) g =
    let same : suc n + length h ≡ n + suc (length h) = omega arith in
    let rest = marked_from-append m (suc n) h g ∙ ap (λ k. marked_from m (suc n) h ++ marked_from m k g) same in
    go (m n) rest where
      go : (b : Bool) → marked_from m (suc n) (h ++ g) ≡ marked_from m (suc n) h ++ marked_from m (n + suc (length h)) g
          → cond b (a ∷ marked_from m (suc n) (h ++ g)) (marked_from m (suc n) (h ++ g)) ≡ cond b (a ∷ marked_from m (suc n) h) (marked_from m (suc n) h)
          ++ marked_from m (n + suc (length h)) g
      go true e = ap (λ xs. a ∷ xs) e
      go false e = e

-- marks that agree on the numbers of the notes choose the same acts
pub marked_from-agree : (m k : ℕ → Bool) (n : ℕ) (h : List Note) → ((i : ℕ) → n ≤ i → i < n + length h → m i ≡ k i) → marked_from m n h ≡ marked_from k n h
unfolding marked_from
marked_from-agree m k n [] same = refl
marked_from-agree m k n (notes.Cut p keep ∷ h) same =
    marked_from-agree m k (suc n) h (λ i low high. same i (omega (arith, low)) (omega (arith, high)))
marked_from-agree m k n (notes.Act a ∷ h) same =
    ap (λ b. cond b (a ∷ marked_from m (suc n) h) (marked_from m (suc n) h)) (same n (omega arith) (omega arith))
    ∙ ap (λ xs. cond (k n) (a ∷ xs) xs) (marked_from-agree m k (suc n) h (λ i low high. same i (omega (arith, low)) (omega (arith, high))))

pub marked_acts-cut : (m : ℕ → Bool) (h : List Note) (p : NodeId) (keep : ℕ) → marked_acts m (h ++ notes.Cut p keep ∷ []) ≡ marked_acts m h
unfolding marked_from
marked_acts-cut m h p keep = marked_from-append m 1 h (notes.Cut p keep ∷ []) ∙ append-nil (marked_acts m h)

pub marked_acts-marked : (m : ℕ → Bool) (h : List Note) (a : Act) → m (suc (length h)) ≡ true
    → marked_acts m (h ++ notes.Act a ∷ []) ≡ marked_acts m h ++ a ∷ []
unfolding marked_from
marked_acts-marked m h a e =
    let same : 1 + length h ≡ suc (length h) = omega arith in
    marked_from-append m 1 h (notes.Act a ∷ [])
    ∙ ap (λ n. marked_acts m h ++ marked_from m n (notes.Act a ∷ [])) same
    ∙ ap (λ b. marked_acts m h ++ cond b (a ∷ []) []) e

pub marked_acts-unmarked : (m : ℕ → Bool) (h : List Note) (a : Act) → m (suc (length h)) ≡ false → marked_acts m (h ++ notes.Act a ∷ []) ≡ marked_acts m h
unfolding marked_from
marked_acts-unmarked m h a e =
    let same : 1 + length h ≡ suc (length h) = omega arith in
    marked_from-append m 1 h (notes.Act a ∷ [])
    ∙ ap (λ n. marked_acts m h ++ marked_from m n (notes.Act a ∷ [])) same
    ∙ ap (λ b. marked_acts m h ++ cond b (a ∷ []) []) e
    ∙ append-nil (marked_acts m h)

-- of two acts in one log, the first stood before the second
pub StoodBefore-from_log : (h : List Note) (p : NodeId) (i j e g : ℕ) → i < j → slice_get (log h p) i ≡ Some e → slice_get (log h p) j ≡ Some g
    → StoodBefore h e g
StoodBefore-from_log h p i j e g lt at_i at_j =
    let its = log-own h p g (Contains-from_slice_get (log h p) j g at_j) in
    let at : slice_get (log (before h g) p) i ≡ Some e = ap (λ xs. slice_get xs i) (log-stack h p j g at_j) ∙ slice_get-take_below j (log h p) i lt ∙ at_i in
    let P : NodeId → Type 0 = λ q. Contains (log (before h g) q) e in
    record { act = its.act; is_act = its.is_act; stood = subst P (sym its.own) (Contains-from_slice_get (log (before h g) p) i e at) }

-- the acts at the numbers of two lists
pub acts_at-append : (h : List Note) (xs ys : List ℕ) → acts_at h (xs ++ ys) ≡ acts_at h xs ++ acts_at h ys
acts_at-append h xs ys = filter_map-append (λ n. act_of (note_at h n)) xs ys

-- the acts at numbers of h are the same in a longer history
pub acts_at-old : (h g : List Note) (xs : List ℕ) → ((n : ℕ) → Contains xs n → n ≤ length h) → acts_at (h ++ g) xs ≡ acts_at h xs
acts_at-old h g [] low = refl
acts_at-old h g (x ∷ xs) low =
    ap (λ o. cons_option (act_of o) (acts_at (h ++ g) xs)) (note_at-old h g x (low x (Contains-here x xs)))
    ∙ ap (cons_option (act_of (note_at h x))) (acts_at-old h g xs (λ n c. low n (Contains-there x xs n c)))

-- the acts at a front of numbers that name acts
pub acts_at-take : (h : List Note) (k : ℕ) (xs : List ℕ) → ((n : ℕ) → Contains xs n → IsAct h n) → acts_at h (take k xs) ≡ take k (acts_at h xs)
acts_at-take h zero xs acts = refl
acts_at-take h (suc k) [] acts = refl
acts_at-take h (suc k) (x ∷ xs) acts =
    let a = acts x (Contains-here x xs) in
    ap (λ o. cons_option (act_of o) (acts_at h (take k xs))) a.1
    ∙ ap (λ ys. a.0 ∷ ys) (acts_at-take h k xs (λ n c. acts n (Contains-there x xs n c)))
    ∙ ap (λ o. take (suc k) (cons_option (act_of o) (acts_at h xs))) (sym a.1)

log_within : (h : List Note) (p : NodeId) (n : ℕ) → Contains (log h p) n → n ≤ length h
log_within h p n c = let its = log-own h p n c in (note_at-within h n (notes.Act its.act) its.is_act).1

-- an act moves its node's log and no other; a cut takes a front of its node's log, and no other
pub acts_in_log-own_act : (h : List Note) (a : Act) → acts_in_log (h ++ notes.Act a ∷ []) a.node ≡ acts_in_log h a.node ++ a ∷ []
acts_in_log-own_act h a =
    let g = h ++ notes.Act a ∷ [] in
    ap (acts_at g) (log-own_act h a)
    ∙ acts_at-append g (log h a.node) (suc (length h) ∷ [])
    ∙ ap (λ xs. xs ++ acts_at g (suc (length h) ∷ [])) (acts_at-old h (notes.Act a ∷ []) (log h a.node) (log_within h a.node))
    ∙ ap (λ o. acts_in_log h a.node ++ cons_option (act_of o) []) (note_at-new h (notes.Act a))

pub acts_in_log-other_act : (h : List Note) (a : Act) (p : NodeId) → same_node a.node p ≡ false → acts_in_log (h ++ notes.Act a ∷ []) p ≡ acts_in_log h p
acts_in_log-other_act h a p other =
    ap (acts_at (h ++ notes.Act a ∷ [])) (log-other_act h a p other) ∙ acts_at-old h (notes.Act a ∷ []) (log h p) (log_within h p)

pub acts_in_log-own_cut : (h : List Note) (p : NodeId) (keep : ℕ) → acts_in_log (h ++ notes.Cut p keep ∷ []) p ≡ take keep (acts_in_log h p)
acts_in_log-own_cut h p keep =
    let g = h ++ notes.Cut p keep ∷ [] in
    ap (acts_at g) (log-own_cut h p keep)
    ∙ acts_at-take g keep (log h p) (λ n c. let its = log-own h p n c in
    (its.act, note_at-old h (notes.Cut p keep ∷ []) n (log_within h p n c) ∙ its.is_act))
    ∙ ap (take keep) (acts_at-old h (notes.Cut p keep ∷ []) (log h p) (log_within h p))

pub acts_in_log-other_cut : (h : List Note) (q : NodeId) (keep : ℕ) (p : NodeId) → same_node q p ≡ false
    → acts_in_log (h ++ notes.Cut q keep ∷ []) p ≡ acts_in_log h p
acts_in_log-other_cut h q keep p other =
    ap (acts_at (h ++ notes.Cut q keep ∷ [])) (log-other_cut h q keep p other) ∙ acts_at-old h (notes.Cut q keep ∷ []) (log h p) (log_within h p)

-- how far the choice has come with the notes g, the first of h: the marked acts of p among them are the
-- acts of a front of p's log in h
record IsPart (h : List Note) (marks : ℕ → Bool) (p : NodeId) (g : List Note) : Type 0 where
  front : List ℕ
  rest : List ℕ
  split : log h p ≡ front ++ rest
  low : (n : ℕ) → Contains front n → n ≤ length g
  high : (n : ℕ) → Contains rest n → marks n ≡ true → length g < n
  marked : (n : ℕ) → Contains front n → marks n ≡ true
  acts : own p (marked_acts marks g) ≡ acts_at h front

module _ (h : List Note) (marks : ℕ → Bool) (closed : IsClosed h marks) (p : NodeId) where
  in_rest : (g : List Note) (s : IsPart h marks p g) (n : ℕ) → Contains s.rest n → Contains (log h p) n
  in_rest g s n c = let P : List ℕ → Type 0 = λ xs. Contains xs n in subst P (sym s.split) (Contains-append_right s.front s.rest n c)

  -- the next note is none that is chosen for p
  passes : (g : List Note) (x : Note) (s : IsPart h marks p g) → (Contains (log h p) (suc (length g)) → marks (suc (length g)) ≡ true → ⊥)
      → own p (marked_acts marks (g ++ x ∷ [])) ≡ own p (marked_acts marks g) → IsPart h marks p (g ++ x ∷ [])
  passes g x s none same = record {
    front = s.front;
    rest = s.rest;
    split = s.split;
    low = λ n c. omega (arith, s.low n c, length_push g x);
    high = λ n c m. elim (cases_eq n (suc (length g))) [
      | inl here ↦
          let P : ℕ → Type 0 = λ k. Contains (log h p) k → marks k ≡ true → ⊥ in
          absurd (subst P (sym here) none (in_rest g s n c) m)
      | inr later ↦ omega (arith, s.high n c m, later, length_push g x)
    ];
    marked = s.marked;
    acts = same ∙ s.acts;
  }

  -- the next note is an act of p that is chosen: it stands just behind the front
  record StandsNext (g : List Note) (s : IsPart h marks p g) : Type 0 where
    later : List ℕ
    is : s.rest ≡ suc (length g) ∷ later

  next_stands : (g : List Note) (s : IsPart h marks p g) → Contains (log h p) (suc (length g)) → marks (suc (length g)) ≡ true → StandsNext g s
  next_stands g s c m =
      let P : List ℕ → Type 0 = λ xs. Contains xs (suc (length g)) in
      elim (Contains-append_cases s.front s.rest (suc (length g)) (subst P s.split c)) [
        | inl low ↦ absurd (omega (arith, s.low (suc (length g)) low))
        | inr in' ↦ go s.rest refl (slice_get-from_Contains s.rest (suc (length g)) in')
      ] where
        go : (xs : List ℕ) → s.rest ≡ xs → (at : (k : ℕ) × (slice_get s.rest k ≡ Some (suc (length g)))) → StandsNext g s
        go [] e at = let P : List ℕ → Type 0 = λ ys. slice_get ys at.0 ≡ Some (suc (length g)) in absurd (none-some (suc (length g)) (subst P e at.1))
        go (x ∷ xs) e at = elim (cases_eq at.0 0) [
          | inl first ↦
              let P : List ℕ → Type 0 = λ ys. slice_get ys at.0 ≡ Some (suc (length g)) in
              let Q : ℕ → Type 0 = λ k. slice_get (x ∷ xs) k ≡ Some (suc (length g)) in
              record { later = xs; is = e ∙ ap (λ n. n ∷ xs) (same_Some x (suc (length g)) (subst Q first (subst P e at.1))) }
          | inr later ↦
              let R : List ℕ → Type 0 = λ ys. slice_get ys 0 ≡ Some x in
              let head : slice_get s.rest 0 ≡ Some x = subst R (sym e) refl in
              let at_head : slice_get (log h p) (length s.front + 0) ≡ Some x =
              ap (λ ys. slice_get ys (length s.front + 0)) s.split ∙ slice_get-append_right s.front s.rest 0 ∙ head in
              let at_next : slice_get (log h p) (length s.front + at.0) ≡ Some (suc (length g)) =
              ap (λ ys. slice_get ys (length s.front + at.0)) s.split ∙ slice_get-append_right s.front s.rest at.0 ∙ at.1 in
              let lt : length s.front + 0 < length s.front + at.0 = omega (arith, later) in
              let below = StoodBefore-from_log h p (length s.front + 0) (length s.front + at.0) x (suc (length g)) lt at_head at_next in
              let smaller : x < suc (length g) = log-rises h p (length s.front + 0) (length s.front + at.0) x (suc (length g)) lt at_head at_next in
              let larger : length g < x = s.high x (Contains-from_slice_get s.rest 0 x head) (closed.below x (suc (length g)) m below) in
              absurd (omega (arith, smaller, larger))
        ]

  takes : (g : List Note) (a : Act) (s : IsPart h marks p g) → StandsNext g s → note_at h (suc (length g)) ≡ Some (notes.Act a) → marks (suc (length g)) ≡ true
      → same_node a.node p ≡ true → IsPart h marks p (g ++ notes.Act a ∷ [])
  takes g a s next at m same =
      let n = suc (length g) in
      record {
        front = s.front ++ n ∷ [];
        rest = next.later;
        split = s.split ∙ ap (λ xs. s.front ++ xs) next.is ∙ sym (append_snoc s.front n next.later);
        low = λ k c. elim (Contains-push_cases s.front n k c) [
          | inl old ↦ omega (arith, s.low k old, length_push g (notes.Act a))
          | inr new ↦ omega (arith, new, length_push g (notes.Act a))
        ];
        high = λ k c _. behind k c;
        marked = λ k c. elim (Contains-push_cases s.front n k c) [
          | inl old ↦ s.marked k old
          | inr new ↦ let P : ℕ → Type 0 = λ i. marks i ≡ true in subst P new m
        ];
        acts =
            ap (own p) (marked_acts-marked marks g a m)
            ∙ filter-append (λ (b : Act). same_node b.node p) (marked_acts marks g) (a ∷ [])
            ∙ ap (λ b. own p (marked_acts marks g) ++ cond b (a ∷ []) []) same
            ∙ ap (λ xs. xs ++ a ∷ []) s.acts
            ∙ ap (λ o. acts_at h s.front ++ cons_option (act_of o) []) (sym at)
            ∙ sym (acts_at-append h s.front (n ∷ []));
      } where
        behind : (k : ℕ) → Contains next.later k → length (g ++ notes.Act a ∷ []) < k
        behind k c =
            let far = slice_get-from_Contains next.later k c in
            let P : List ℕ → ℕ → ℕ → Type 0 = λ xs i v. slice_get xs i ≡ Some v in
            let Q : List ℕ → Type 0 = λ xs. slice_get xs 0 ≡ Some (suc (length g)) in
            let R : List ℕ → Type 0 = λ xs. slice_get xs (suc far.0) ≡ Some k in
            let at_n : slice_get (log h p) (length s.front + 0) ≡ Some (suc (length g)) =
            ap (λ ys. slice_get ys (length s.front + 0)) s.split ∙ slice_get-append_right s.front s.rest 0 ∙ subst Q (sym next.is) refl in
            let at_k : slice_get (log h p) (length s.front + suc far.0) ≡ Some k = ap (λ ys. slice_get ys (length s.front + suc far.0)) s.split
            ∙ slice_get-append_right s.front s.rest (suc far.0) ∙ subst R (sym next.is) far.1 in
            omega (
              arith,
              length_push g (notes.Act a),
              log-rises h p (length s.front + 0) (length s.front + suc far.0) (suc
                  (length g)) k (omega arith) at_n at_k,
            )

  part_step : (g : List Note) (x : Note) → note_at h (suc (length g)) ≡ Some x → IsPart h marks p g → IsPart h marks p (g ++ x ∷ [])
  part_step g (notes.Cut q keep) at s =
      passes g (notes.Cut q keep) s
      (λ c m. let its = log-own h p (suc (length g)) c in let both : Some (notes.Act its.act) ≡ Some (notes.Cut q keep) = sym its.is_act ∙ at in cc)
      (ap (own p) (marked_acts-cut marks g q keep))
  part_step g (notes.Act a) at s = elim (cases_Bool (marks (suc (length g)))) [
    | inr unmarked ↦
        passes g (notes.Act a) s (λ c m. false≢true (sym unmarked ∙ m)) (ap (own p) (marked_acts-unmarked marks g a unmarked))
    | inl m ↦ elim (cases_Bool (same_node a.node p)) [
      | inr other ↦
          passes g (notes.Act a) s
          (λ c _.
          let its = log-own h p (suc (length g)) c in
          let both : Some (notes.Act its.act) ≡ Some (notes.Act a) = sym its.is_act ∙ at in
          let same : its.act ≡ a = cc in
          let P : NodeId → Type 0 = λ q. same_node a.node q ≡ true in
          false≢true (sym other ∙ subst P (ap (λ (b : Act). b.node) (sym same) ∙ its.own) (same_node-refl a.node)))
          (ap (own p) (marked_acts-marked marks g a m)
          ∙ filter-append (λ (b : Act). same_node b.node p) (marked_acts marks g) (a ∷ [])
          ∙ ap (λ b. own p (marked_acts marks g) ++ cond b (a ∷ []) []) other
          ∙ append-nil (own p (marked_acts marks g)))
      | inl same ↦
          let stands = Stands-own h (suc (length g)) a at (closed.stands (suc (length g)) m) in
          let P : NodeId → Type 0 = λ q. Contains (log h q) (suc (length g)) in
          takes g a s (next_stands g s (subst P (same_node-true a.node p same) stands) m) at m same
    ]
  ]

-- the marked acts of p are the acts of a front of p's log
pub record MarkedFront (h : List Note) (marks : ℕ → Bool) (p : NodeId) : Type 0 where
  pub is_front : IsFront h marks p
  pub acts : own p (marked_acts marks h) ≡ acts_at h is_front.front

pub marked_front : (h : List Note) (marks : ℕ → Bool) → IsClosed h marks → (p : NodeId) → MarkedFront h marks p
unfolding marked_from
marked_front h marks closed p =
    let s = snoc_ind (λ g. (later : List Note) → g ++ later ≡ h → IsPart h marks p g) empty more h [] (append-nil h) in
    record {
      is_front = record {
        front = s.front;
        rest = s.rest;
        split = s.split;
        marked = s.marked;
        unmarked = λ n c m. let P : List ℕ → Type 0 = λ xs. Contains xs n in
            let le = log_within h p n (subst P (sym s.split) (Contains-append_right s.front s.rest n c)) in
            omega (arith, le, s.high n c m);
      };
      acts = s.acts;
    } where
      empty : (later : List Note) → [] ++ later ≡ h → IsPart h marks p []
      empty later e = record {
        front = [];
        rest = log h p;
        split = refl;
        low = λ n c. absurd (Contains-none n c);
        high = λ n c m. let its = log-own h p n c in omega (arith, note_at-within h n (notes.Act its.act) its.is_act);
        marked = λ n c. absurd (Contains-none n c);
        acts = refl;
      }

      more : (g : List Note) (x : Note) → ((later : List Note) → g ++ later ≡ h → IsPart h marks p g) → (later : List Note) → g ++ x ∷ [] ++ later ≡ h
          → IsPart h marks p (g ++ x ∷ [])
      more g x ih later e =
          let at : note_at h (suc (length g)) ≡ Some x =
          ap (λ f. note_at f (suc (length g))) (sym e) ∙ note_at-old (g ++ x ∷ []) later (suc (length g)) (omega (arith, length_push g x)) ∙ note_at-new g x in
          part_step h marks closed p g x at (ih (x ∷ later) (sym (append_snoc g x later) ∙ e))
