-- What was read of a store fits a scene just where what the store holds does.
-- Cited by Resumes.
use Rattle.std.proofs.Common.{◌≡◌, ◌⊎◌, ℕ, suc, Bool, true, false, List, [], ◌∷◌, ◌++◌, map, Contains, cond, Option, None, Some, inl, inr, refl, sym, ap, ◌∙◌}
use Rattle.std.proofs.Common.{subst, arith}
use Rattle.std.specs.Prelude.{All, AllPairs, IfSome, IsTrue, is_some, slice_index_or, length, ◌<◌}
use Rattle.std.specs.List.{find}
use Rattle.std.specs.Option.{option_map}
use Rattle.kt_tuple.specs.declared.node.NodeId.{NodeId}
use Rattle.kt_tuple.specs.Node.{is_before, node_eq, node_eq_decides}
use Rattle.kt_store.specs.declared.rows.NodeRow.{NodeRow}
use Rattle.kt_store.specs.declared.rows.Tentative.{Tentative}
use Rattle.kt_store.specs.Proper.{IsProper}
use Rattle.kt_store.specs.Content.{Content, nodes_in, opening_row, instance_row, row_of, row_or, verdict_on}
use Rattle.kt_resume.specs.declared.found.Found.{Found}
use Rattle.kt_resume.specs.Found.{content_of, row_from}
use Rattle.kt_scenario.specs.Scene.{SceneModel}
use Rattle.kt_model.specs.Cut.{permanent_by, permanent_of}
use Rattle.kt_model.specs.Resumed.{AreFit, IsFit, IsHeld}
use Rattle.kt_core.specs.Resuming.{IsFirstUnfit}
use Rattle.kt_resume.specs.Judging.{IsFirstMisfit, IsGood}
use Rattle.kt_core.specs.auxiliary.Gathering.{found_in, stands_on}
use Rattle.kt_history.proofs.Shared.{Contains-cons_cases, Contains-here, Contains-none, Contains-there}
use Rattle.kt_model.proofs.Shared.{before_one_way, not_before_itself}
use Rattle.kt_core.proofs.Alike.{AreAlike, fit-alike, turned}

-- what was found of all nodes of which the store holds something
abbrev pub all_found : Content → List Found
all_found c = map (found_in c) (nodes_in c)

-- ---- its rows

find-found : (c : Content) (p : NodeId) (rows : List NodeRow)
    → find (λ (r : NodeRow). node_eq r.node p) (map row_from (map (found_in c) (map (λ (r : NodeRow). r.node) rows)))
    ≡ option_map (λ (r : NodeRow). row_from (found_in c r.node)) (find (λ (r : NodeRow). node_eq r.node p) rows)
find-found c p [] = refl
find-found c p (r ∷ rows) = by (node_eq r.node p) (find-found c p rows) where
  by : (b : Bool)
      → find (λ (r : NodeRow). node_eq r.node p) (map row_from (map (found_in c) (map (λ (r : NodeRow). r.node) rows)))
      ≡ option_map (λ (r : NodeRow). row_from (found_in c r.node)) (find (λ (r : NodeRow). node_eq r.node p) rows)
      → cond b (Some (row_from (found_in c r.node)))
      (find (λ (r : NodeRow). node_eq r.node p) (map row_from (map (found_in c) (map (λ (r : NodeRow). r.node) rows))))
      ≡ option_map (λ (r : NodeRow). row_from (found_in c r.node)) (cond b (Some r) (find (λ (r : NodeRow). node_eq r.node p) rows))
  by true later = refl
  by false later = later

find-node : (p : NodeId) (rows : List NodeRow) (row : NodeRow) → find (λ (r : NodeRow). node_eq r.node p) rows ≡ Some row → row.node ≡ p
find-node p [] row e = absurd (cc (e))
find-node p (r ∷ rows) row e = by (node_eq r.node p) refl e (find-node p rows row) where
  by : (b : Bool) → node_eq r.node p ≡ b → cond b (Some r) (find (λ (r : NodeRow). node_eq r.node p) rows) ≡ Some row
      → (find (λ (r : NodeRow). node_eq r.node p) rows ≡ Some row → row.node ≡ p) → row.node ≡ p
  by true is here next = let same : r ≡ row = cc (here) in ap (λ (x : NodeRow). x.node) (sym same) ∙ (node_eq_decides r.node p).0 is
  by false is later next = next later

-- the row of p: what was found of it, or that of the beginning
found-row : (c : Content) (p : NodeId) → (row_of (content_of (all_found c)) p ≡ row_from (found_in c p))
    ⊎ ((row_of (content_of (all_found c)) p ≡ opening_row p) × (row_of c p ≡ opening_row p))
found-row c p = by (find (λ (r : NodeRow). node_eq r.node p) c.nodes) refl where
  by : (o : Option NodeRow) → find (λ (r : NodeRow). node_eq r.node p) c.nodes ≡ o
      → (row_of (content_of (all_found c)) p ≡ row_from (found_in c p))
      ⊎ ((row_of (content_of (all_found c)) p ≡ opening_row p) × (row_of c p ≡ opening_row p))
  by None e = inr (ap (row_or p) (find-found c p c.nodes ∙ ap (option_map (λ (r : NodeRow). row_from (found_in c r.node))) e), ap (row_or p) e)
  by (Some row) e = inl (
      ap (row_or p) (find-found c p c.nodes ∙ ap (option_map (λ (r : NodeRow). row_from (found_in c r.node))) e)
      ∙ ap (λ (q : NodeId). row_from (found_in c q)) (find-node p c.nodes row e))

permanent-by : (d : Content) (p : NodeId) (row : NodeRow) → row_of d p ≡ row
    → permanent_of d p ≡ permanent_by (verdict_on d row.tentative) row.tentative row.permanent
permanent-by d p row e = ap (λ (r : NodeRow). permanent_by (verdict_on d r.tentative) r.tentative r.permanent) e

pub found-alike : (c : Content) → AreAlike c (content_of (all_found c))
found-alike c = record {
  permanent = λ p. elim (found-row c p) [
    | inl e ↦ permanent-by (content_of (all_found c)) p (row_from (found_in c p)) e
    | inr e ↦ permanent-by (content_of (all_found c)) p (opening_row p) e.0 ∙ sym (permanent-by c p (opening_row p) e.1)
  ];
  incarnation = λ p. elim (found-row c p) [
    | inl e ↦ ap (λ (r : NodeRow). r.incarnation) e
    | inr e ↦ ap (λ (r : NodeRow). r.incarnation) e.0 ∙ sym (ap (λ (r : NodeRow). r.incarnation) e.1)
  ];
}

-- nothing tentative is among it
found-settled : (c : Content) (p : NodeId) → (row_of (content_of (all_found c)) p).tentative ≡ None
found-settled c p = elim (found-row c p) [ inl e ↦ ap (λ (r : NodeRow). r.tentative) e | inr e ↦ ap (λ (r : NodeRow). r.tentative) e.0 ]

-- ---- what fits

begun-instance_row : (c : Content) (o : Option Tentative) → IsTrue (stands_on c (option_map (λ (t : Tentative). t.instance) o))
    → IfSome o (λ t. IsTrue (is_some (instance_row c t.instance)))
begun-instance_row c None is = tt
begun-instance_row c (Some t) is = is

instance_row-begun : (c : Content) (o : Option Tentative) → IfSome o (λ t. IsTrue (is_some (instance_row c t.instance)))
    → IsTrue (stands_on c (option_map (λ (t : Tentative). t.instance) o))
instance_row-begun c None is = refl
instance_row-begun c (Some t) is = is

pub found-fit : (scene : SceneModel) (c : Content) (p : NodeId) → IsGood scene (content_of (all_found c)) (found_in c p) → IsFit scene c p
found-fit scene c p fits = fit-alike scene c (content_of (all_found c)) (found-alike c) p (begun-instance_row c (row_of c p).tentative fits.1) fits.0

pub fit-found : (scene : SceneModel) (c : Content) (p : NodeId) → IsFit scene c p → IsGood scene (content_of (all_found c)) (found_in c p)
fit-found scene c p fit = (
  fit-alike scene (content_of (all_found c)) c (turned c (content_of (all_found c)) (found-alike c)) p
      (subst (λ o. IfSome o (λ t. IsTrue (is_some (instance_row (content_of (all_found c)) t.instance)))) (sym (found-settled c p)) tt) fit,
  instance_row-begun c (row_of c p).tentative fit.instance_row,
)

-- ---- lists of them

append-there : {A : Type 0} (xs : List A) (m : A) (ys : List A) → Contains (xs ++ m ∷ ys) m
append-there [] m ys = Contains-here m ys
append-there (y ∷ xs) m ys = Contains-there y (xs ++ m ∷ ys) m (append-there xs m ys)

append-cases : {A : Type 0} (xs : List A) (m : A) (ys : List A) (x : A) → Contains (xs ++ m ∷ ys) x → Contains xs x ⊎ ((m ≡ x) ⊎ Contains ys x)
append-cases [] m ys x on = inr (Contains-cons_cases m ys x on)
append-cases (y ∷ xs) m ys x on = elim (Contains-cons_cases y (xs ++ m ∷ ys) x on) [
  | inl e ↦ inl (subst (Contains (y ∷ xs)) e (Contains-here y xs))
  | inr more ↦ elim (append-cases xs m ys x more) [ inl early ↦ inl (Contains-there y xs x early) | inr late ↦ inr late ]
]

-- what is among the mapped is of one of the list
pub record IsMapOf {A B : Type 0} (f : A → B) (xs : List A) (y : B) : Type 0 where
  pub of : A
  pub among : Contains xs of
  pub is : f of ≡ y

pub map-cases : {A B : Type 0} (f : A → B) (xs : List A) (y : B) → Contains (map f xs) y → IsMapOf f xs y
map-cases f [] y on = absurd (Contains-none y on)
map-cases f (x ∷ xs) y on = elim (Contains-cons_cases (f x) (map f xs) y on) [
  | inl e ↦ record { of = x; among = Contains-here x xs; is = e }
  | inr later ↦ let m = map-cases f xs y later in record { of = m.of; among = Contains-there x xs m.of m.among; is = m.is }
]

-- what was found later is of later nodes
later-after : (c : Content) (rows : List NodeRow) → AllPairs (λ (a b : NodeRow). is_before a.node b.node ≡ true) rows
    → (earlier : List Found) (m : Found) (later : List Found) → map (found_in c) (map (λ (r : NodeRow). r.node) rows) ≡ earlier ++ m ∷ later
    → (x : Found) → Contains later x → is_before m.node x.node ≡ true
later-after c [] pairs [] m later e x on = absurd (cc (e))
later-after c [] pairs (y ∷ earlier) m later e x on = absurd (cc (e))
later-after c (r ∷ rows) pairs [] m later e x on =
    let first : found_in c r.node ≡ m = cc (e) in
    let rest : map (found_in c) (map (λ (r : NodeRow). r.node) rows) ≡ later = cc (e) in
    let of = map-cases (found_in c) (map (λ (r : NodeRow). r.node) rows) x (subst (λ l. Contains l x) (sym rest) on) in
    let row = map-cases (λ (r : NodeRow). r.node) rows of.of of.among in
    let k = row.among.0 in
    let rises : is_before r.node (slice_index_or rows k row.of).node ≡ true =
    pairs 0 (suc k) row.of (omega arith) (let lt = row.among.1 in omega (arith, lt)) in
    let after : is_before r.node row.of.node ≡ true = subst (λ (q : NodeRow). is_before r.node q.node ≡ true) row.among.2 rises in
    let here : is_before m.node row.of.node ≡ true = subst (λ (f : Found). is_before f.node row.of.node ≡ true) first after in
    let there : is_before m.node of.of ≡ true = subst (λ (q : NodeId). is_before m.node q ≡ true) row.is here in
    subst (λ (f : Found). is_before m.node f.node ≡ true) of.is there
later-after c (r ∷ rows) pairs (y ∷ earlier) m later e x on =
    let rest : map (found_in c) (map (λ (r : NodeRow). r.node) rows) ≡ earlier ++ m ∷ later = cc (e) in
    later-after c rows (λ i j d lt within. pairs (suc i) (suc j) d (omega (arith, lt)) (omega (arith, within))) earlier m later rest x on

-- ---- all of them

contains-map : {A B : Type 0} (f : A → B) (xs : List A) (x : A) → Contains xs x → Contains (map f xs) (f x)
contains-map f [] x on = absurd (Contains-none x on)
contains-map f (y ∷ xs) x on = elim (Contains-cons_cases y xs x on) [
  | inl e ↦ subst (λ z. Contains (f y ∷ map f xs) (f z)) e (Contains-here (f y) (map f xs))
  | inr later ↦ Contains-there (f y) (map f xs) (f x) (contains-map f xs x later)
]

-- what holds of each holds of one of them
pub all-at : {A : Type 0} (P : A → Type 0) (xs : List A) (x : A) → All P xs → Contains xs x → P x
all-at P xs x all on = subst P on.2 (all on.0 x on.1)

pub all-fit : (scene : SceneModel) (c : Content) → All (IsGood scene (content_of (all_found c))) (all_found c) → AreFit scene c
all-fit scene c fits p held =
    let among : Contains (all_found c) (found_in c p) =
    subst (λ (q : NodeId). Contains (all_found c) (found_in c q)) held.2
    (contains-map (found_in c) (nodes_in c) held.0.node (contains-map (λ (r : NodeRow). r.node) c.nodes held.0 held.1)) in
    found-fit scene c p (all-at (IsGood scene (content_of (all_found c))) (all_found c) (found_in c p) fits among)

-- the first of what was found that does not fit is of the first node that does not
pub first-unfit : (scene : SceneModel) (c : Content) → IsProper c → (p : NodeId) → IsFirstMisfit scene (content_of (all_found c)) (all_found c) p
    → IsFirstUnfit scene c p
first-unfit scene c proper p m = record {
  held = (row.of, row.among, row.is ∙ own);
  unfit = λ fit. m.unfit (subst (IsGood scene (content_of (all_found c))) is (fit-found scene c p fit));
  before = λ q held first. elim (append-cases m.before m.first m.later (found_in c q) (subst (λ l. Contains l (found_in c q)) m.split (among q held))) [
    | inl early ↦ found-fit scene c q (all-at (IsGood scene (content_of (all_found c))) m.before (found_in c q) m.good early)
    | inr other ↦ elim other [
      | inl e ↦
          let same : p ≡ q = sym m.node ∙ ap (λ (f : Found). f.node) e in
          absurd (apart (sym (subst (λ (r : NodeId). is_before q r ≡ true) same first) ∙ not_before_itself q))
      | inr late ↦
          let after : is_before m.first.node q ≡ true = later-after c c.nodes proper.nodes.rising m.before m.first m.later m.split (found_in c q) late in
          let behind : is_before p q ≡ true = subst (λ (r : NodeId). is_before r q ≡ true) m.node after in
          absurd (apart (sym first ∙ before_one_way p q behind))
    ]
  ];
} where
  apart : true ≡ false → ⊥
  apart e = cc (e)

  of : IsMapOf (found_in c) (nodes_in c) m.first
  of = map-cases (found_in c) (nodes_in c) m.first (subst (λ l. Contains l m.first) (sym m.split) (append-there m.before m.first m.later))

  row : IsMapOf (λ (r : NodeRow). r.node) c.nodes of.of
  row = map-cases (λ (r : NodeRow). r.node) c.nodes of.of of.among

  own : of.of ≡ p
  own = ap (λ (f : Found). f.node) of.is ∙ m.node

  is : found_in c p ≡ m.first
  is = ap (found_in c) (sym own) ∙ of.is

  among : (q : NodeId) → IsHeld c q → Contains (all_found c) (found_in c q)
  among q held =
      subst (λ (r : NodeId). Contains (all_found c) (found_in c r)) held.2
      (contains-map (found_in c) (nodes_in c) held.0.node (contains-map (λ (r : NodeRow). r.node) c.nodes held.0 held.1))
