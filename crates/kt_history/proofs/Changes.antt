-- What one more note changes of survival.
-- Cited by Keeping, KeepingActs, KeepingCuts, Sense, `History::add_act`; other crates.
use Rattle.std.proofs.Common.{◌≡◌, ◌≢◌, ℕ, suc, ◌+◌, ◌-◌, ◌<◌, ◌≤◌, ◌==◌, ◌&&◌, ◌||◌, not, Bool, true, false, List, [], ◌∷◌}
use Rattle.std.proofs.Common.{◌++◌, take, drop, length, Option, Some, refl, sym, ap, ◌∙◌, subst, ◌⊎◌, inl, inr, arith, Contains}
use Rattle.std.specs.List.{slice_get, list_any}
use Rattle.std.proofs.lemmas.List.{take-append-drop}
use Rattle.std.proofs.lemmas.List.Elements.{Contains-append_left, Contains-append_cases, Contains-push, Contains-push_cases}
use Rattle.std.proofs.lemmas.Bool.{and_parts, and_from, or_cases, or_left, or_right, cases_Bool, cases_eq}
use Rattle.std.proofs.lemmas.Bool.{cases_lt, eqb-true, eq-eqb, false≢true, not-true, not_from_false}
use Rattle.std.proofs.lemmas.Option.{slice_get_within, slice_get-get_or, same_Some}
use Rattle.kt_tuple.specs.declared.node.NodeId.{NodeId}
use Rattle.kt_history.specs.declared.note.Act.{Act}
use Rattle.kt_history.specs.declared.note.Note.{Note}
use Rattle.kt_history.specs.declared.note.Note.TheVariants as notes
use Rattle.kt_history.specs.Log.{note_at, before, IsAct, same_node, log, last_of}
use Rattle.kt_history.specs.Past.{StoodBefore, itself, in_log, by_cause}
use Rattle.kt_history.specs.WellFormed.{MayFollow, CausesComeFirst}
use Rattle.kt_history.specs.Survival.{Stands, Survives, note_stands, survives}
use Rattle.kt_history.specs.auxiliary.Marks.{lasts}
use Rattle.kt_history.proofs.Lists.{slice_get-take, slice_get-take_below, slice_get-drop, slice_get-from_Contains}
use Rattle.kt_history.proofs.Lists.{Contains-from_slice_get, Contains-from_take, list_any-from_Contains, Contains-from_list_any}
use Rattle.kt_history.proofs.Logs.{same_node-true, log-own, log-stack, log-rises, log-own_act, log-own_cut, log-other_act, log-other_cut}
use Rattle.kt_history.proofs.Logs.{note_at-old, note_at-new, note_at-within, note_before, before-old, before-new, before-before}
use Rattle.kt_history.proofs.Pasts.{StoodBefore-act, InPast-back, InPast-old, InPast-was}
use Rattle.kt_history.proofs.Survivors.{Stands-own, note_stands-true, Stands-from_test, survives-decides}
use Rattle.kt_history.proofs.Survivors.{Survives-stands, Survives-past, Survives-step, Survives-act}

-- two tests that are true together are one
pub same_tests : (a b : Bool) → (a ≡ true → b ≡ true) → (b ≡ true → a ≡ true) → a ≡ b
same_tests true b f g = sym (f refl)
same_tests false true f g = g refl
same_tests false false f g = refl

-- the last of a log that has something in it
pub last_of-is : (xs : List ℕ) (n : ℕ) → Contains xs n → slice_get xs (length xs - 1) ≡ Some (last_of xs)
last_of-is xs n c = slice_get-get_or xs (length xs - 1) 0 (omega (arith, c.1))

-- what stood before an act is the last of its log then, or stood before that
pub StoodBefore-last : (h : List Note) (g f : ℕ) (a : Act) → note_at h f ≡ Some (notes.Act a) → Contains (log (before h f) a.node) g
    → (g ≡ last_of (log (before h f) a.node)) ⊎ StoodBefore h g (last_of (log (before h f) a.node))
StoodBefore-last h g f a e c =
    let xs = log (before h f) a.node in
    let at = slice_get-from_Contains xs g c in
    let at_last = last_of-is xs g c in
    elim (cases_lt at.0 (length xs - 1)) [
      | inr late ↦
          let same : at.0 ≡ length xs - 1 = omega (arith, late, slice_get_within xs at.0 g at.1) in
          let P : ℕ → Type 0 = λ i. slice_get xs i ≡ Some g in
          inl (same_Some g (last_of xs) (sym (subst P same at.1) ∙ at_last))
      | inl early ↦
          let own = log-own (before h f) a.node (last_of xs) (Contains-from_slice_get xs (length xs - 1) (last_of xs) at_last) in
          let was = note_before h f (notes.Act a) (last_of xs) (notes.Act own.act) e own.is_act in
          let stack = ap (λ past. log past a.node) (sym (before-before h f (last_of xs) (omega (arith, was.0))))
          ∙ log-stack (before h f) a.node (length xs - 1) (last_of xs) at_last in
          let stood = Contains-from_slice_get (take (length xs - 1) xs) at.0 g (slice_get-take_below (length xs - 1) xs at.0 early ∙ at.1) in
          let P : List ℕ → Type 0 = λ ys. Contains ys g in
          let Q : NodeId → Type 0 = λ p. Contains (log (before h (last_of xs)) p) g in
          inr (record { act = own.act; is_act = was.1; stood = subst Q (sym own.own) (subst P (sym stack) stood) })
    ]

-- the last of its log then stood before an act
pub StoodBefore-from_last : (h : List Note) (f : ℕ) (a : Act) → note_at h f ≡ Some (notes.Act a) → last_of (log (before h f) a.node) ≢ 0
    → StoodBefore h (last_of (log (before h f) a.node)) f
StoodBefore-from_last h f a e some = record { act = a; is_act = e; stood = go (log (before h f) a.node) some } where
  go : (xs : List ℕ) → last_of xs ≢ 0 → Contains xs (last_of xs)
  go [] none = absurd (none refl)
  go (x ∷ xs) _ = Contains-from_slice_get (x ∷ xs) (length (x ∷ xs) - 1) (last_of (x ∷ xs)) (slice_get-get_or (x ∷ xs) (length (x ∷ xs) - 1) 0 (omega arith))

pub lasts-from : (h : List Note) → CausesComeFirst h → (n : ℕ) → (n ≢ 0 → Survives h n) → lasts h n ≡ true
lasts-from h w n s = elim (cases_eq n 0) [
  | inl none ↦ or_left _ _ (eq-eqb n 0 none)
  | inr some ↦ or_right _ _ ((survives-decides h w n).1 (s some))
]

pub Survives-from_lasts : (h : List Note) → CausesComeFirst h → (n : ℕ) → n ≢ 0 → lasts h n ≡ true → Survives h n
Survives-from_lasts h w n some t = elim (or_cases _ _ t) [
  | inl none ↦ absurd (some (eqb-true n 0 none))
  | inr lives ↦ (survives-decides h w n).0 lives
]

nonzero : (g n : ℕ) → g < n → n ≢ 0
nonzero g n lt z = omega (arith, lt, z)

log-positive : (h : List Note) (p : NodeId) (e : ℕ) → Contains (log h p) e → e ≢ 0
log-positive h p e c z =
    let own = log-own h p e c in
    let within = note_at-within h e (notes.Act own.act) own.is_act in
    omega (arith, z, within.0)

-- an act survives just where it stands, and the act before it in its log and its cause survive
pub survives-by_previous : (h : List Note) → CausesComeFirst h → (n : ℕ) (a : Act) → note_at h n ≡ Some (notes.Act a)
    → survives h n ≡ (note_stands h n (Some (notes.Act a)) && (lasts h (last_of (log (before h n) a.node)) && lasts h a.by))
survives-by_previous h w n a e = same_tests _ _ there back where
  previous : ℕ
  previous = last_of (log (before h n) a.node)

  there : survives h n ≡ true → (note_stands h n (Some (notes.Act a)) && (lasts h (last_of (log (before h n) a.node)) && lasts h a.by)) ≡ true
  there t =
      let s = (survives-decides h w n).0 t in
      let P : Option Note → Type 0 = λ o. note_stands h n o ≡ true in
      and_from _ _ (subst P e (note_stands-true h n (Survives-stands h w n n s itself)))
      (and_from _ _
      (lasts-from h w _ (λ some. Survives-past h _ n s (in_log (StoodBefore-from_last h n a e some) itself)))
      (lasts-from h w a.by (λ some. Survives-past h a.by n s (by_cause (record { act = a; is_act = e; names = refl; some = some }) itself))))

  same_act : (b : Act) → note_at h n ≡ Some (notes.Act b) → b ≡ a
  same_act b f = let both : Some (notes.Act b) ≡ Some (notes.Act a) = sym f ∙ e in cc

  back : (note_stands h n (Some (notes.Act a)) && (lasts h (last_of (log (before h n) a.node)) && lasts h a.by)) ≡ true → survives h n ≡ true
  back t =
      let parts = and_parts _ _ t in
      let rest = and_parts _ _ parts.1 in
      let P : Option Note → Type 0 = λ o. note_stands h n o ≡ true in
      let stands = Stands-from_test h n (subst P (sym e) parts.0) in
      (survives-decides h w n).1 (Survives-step h n stands
      (λ g s.
      let Q : Act → Type 0 = λ b. Contains (log (before h n) b.node) g in
      let stood = subst Q (same_act s.act s.is_act) s.stood in
      let positive = log-positive (before h n) a.node g stood in
      elim (StoodBefore-last h g n a e stood) [
        | inl last ↦
            let R : ℕ → Type 0 = λ m. (m ≢ 0) × (lasts h m ≡ true) in
            let at : R g = subst R (sym last) ((λ z. positive (last ∙ z)), rest.0) in
            Survives-from_lasts h w g at.0 at.1
        | inr below ↦
            let last = last_of (log (before h n) a.node) in
            Survives-past h g last (Survives-from_lasts h w last (nonzero g last (StoodBefore-act h g last below).0) rest.0) (in_log below itself)
      ])
      (λ g c.
      let names : a.by ≡ g = ap (λ (b : Act). b.by) (sym (same_act c.act c.is_act)) ∙ c.names in
      let R : ℕ → Type 0 = λ m. (m ≢ 0) × (lasts h m ≡ true) in
      let at : R g = subst R names ((λ z. c.some (sym names ∙ z)), rest.1) in
      Survives-from_lasts h w g at.0 at.1))

-- where the acts up to n stand as before, n survives as before
pub survives-kept : (h : List Note) (x : Note) → CausesComeFirst h → CausesComeFirst (h ++ x ∷ []) → (n : ℕ) → n ≤ length h
    → ((e : ℕ) → e ≤ n → Stands h e → Stands (h ++ x ∷ []) e) → ((e : ℕ) → e ≤ n → Stands (h ++ x ∷ []) e → Stands h e)
    → survives (h ++ x ∷ []) n ≡ survives h n
survives-kept h x w w' n le stays was = same_tests _ _
    (λ t.
    let s = (survives-decides (h ++ x ∷ []) w' n).0 t in
    let a = Survives-act (h ++ x ∷ []) w' n s in
    let act : IsAct h n = (a.0, sym (note_at-old h (x ∷ []) n le) ∙ a.1) in
    (survives-decides h w n).1 (λ e p lost. s e (InPast-old h (x ∷ []) w e le p) (λ stands. lost (was e (InPast-back h w e act p).0 stands))))
    (λ t.
    let s = (survives-decides h w n).0 t in
    let act = Survives-act h w n s in
    (survives-decides (h ++ x ∷ []) w' n).1 (λ e p lost.
    let old = InPast-was h (x ∷ []) w e le p in
    s e old (λ stands. lost (stays e (InPast-back h w e act old).0 stands))))

-- where what stands stood before, what survives survived before
pub survives-fewer : (h : List Note) (x : Note) → CausesComeFirst h → CausesComeFirst (h ++ x ∷ []) → (n : ℕ) → n ≤ length h
    → ((e : ℕ) → e ≤ n → Stands (h ++ x ∷ []) e → Stands h e) → survives (h ++ x ∷ []) n ≡ true → survives h n ≡ true
survives-fewer h x w w' n le was t =
    let s = (survives-decides (h ++ x ∷ []) w' n).0 t in
    let a = Survives-act (h ++ x ∷ []) w' n s in
    let act : IsAct h n = (a.0, sym (note_at-old h (x ∷ []) n le) ∙ a.1) in
    (survives-decides h w n).1 (λ e p lost. s e (InPast-old h (x ∷ []) w e le p) (λ stands. lost (was e (InPast-back h w e act p).0 stands)))

-- an act more: what stood stands, and of the old ones nothing else
pub Stands-act_old : (h : List Note) (a : Act) (e : ℕ) → Stands h e → Stands (h ++ notes.Act a ∷ []) e
Stands-act_old h a e s = (s.0, go (cases_Bool (same_node a.node s.0))) where
  go : ((same_node a.node s.0 ≡ true) ⊎ (same_node a.node s.0 ≡ false)) → Contains (log (h ++ notes.Act a ∷ []) s.0) e
  go (inl own) =
      let P : NodeId → Type 0 = λ q. Contains (log h q) e → Contains (log (h ++ notes.Act a ∷ []) q) e in
      let Q : List ℕ → Type 0 = λ xs. Contains xs e in
      subst P (same_node-true a.node s.0 own) (λ c. subst Q (sym (log-own_act h a)) (Contains-append_left (log h a.node) (suc (length h) ∷ []) e c)) s.1
  go (inr other) = let Q : List ℕ → Type 0 = λ xs. Contains xs e in subst Q (sym (log-other_act h a s.0 other)) s.1

pub Stands-act_was : (h : List Note) (a : Act) (e : ℕ) → e ≤ length h → Stands (h ++ notes.Act a ∷ []) e → Stands h e
Stands-act_was h a e le s = (s.0, go (cases_Bool (same_node a.node s.0))) where
  go : ((same_node a.node s.0 ≡ true) ⊎ (same_node a.node s.0 ≡ false)) → Contains (log h s.0) e
  go (inl own) =
      let P : NodeId → Type 0 = λ q. Contains (log (h ++ notes.Act a ∷ []) q) e → Contains (log h q) e in
      let Q : List ℕ → Type 0 = λ xs. Contains xs e in
      subst P (same_node-true a.node s.0 own) (λ c. elim (Contains-push_cases (log h a.node) (suc (length h)) e (subst Q (log-own_act h a) c)) [
        | inl old ↦ old
        | inr new ↦ absurd (omega (arith, new, le))
      ]) s.1
  go (inr other) = let Q : List ℕ → Type 0 = λ xs. Contains xs e in subst Q (log-other_act h a s.0 other) s.1

-- an act more changes nothing of the survival of those before it
pub survives-act_old : (h : List Note) (a : Act) → CausesComeFirst h → CausesComeFirst (h ++ notes.Act a ∷ []) → (n : ℕ) → n ≤ length h
    → survives (h ++ notes.Act a ∷ []) n ≡ survives h n
survives-act_old h a w w' n le =
    survives-kept h (notes.Act a) w w' n le (λ e below s. Stands-act_old h a e s) (λ e below s. Stands-act_was h a e (omega (arith, below, le)) s)

pub lasts-act_old : (h : List Note) (a : Act) → CausesComeFirst h → CausesComeFirst (h ++ notes.Act a ∷ []) → (n : ℕ) → n ≤ length h
    → lasts (h ++ notes.Act a ∷ []) n ≡ lasts h n
lasts-act_old h a w w' n le = ap (λ b. n == 0 || b) (survives-act_old h a w w' n le)

-- a log's last number is a note's, or 0
pub last_of-within : (h : List Note) (p : NodeId) → last_of (log h p) ≤ length h
last_of-within h p = elim (cases_eq (last_of (log h p)) 0) [
  | inl none ↦ omega (arith, none)
  | inr some ↦
      let own = log-own h p (last_of (log h p)) (go (log h p) some) in
      omega (arith, note_at-within h (last_of (log h p)) (notes.Act own.act) own.is_act)
] where
  go : (xs : List ℕ) → last_of xs ≢ 0 → Contains xs (last_of xs)
  go [] none = absurd (none refl)
  go (x ∷ xs) _ = Contains-from_slice_get (x ∷ xs) (length (x ∷ xs) - 1) (last_of (x ∷ xs)) (slice_get-get_or (x ∷ xs) (length (x ∷ xs) - 1) 0 (omega arith))

pub cause_within : (h : List Note) (a : Act) → MayFollow h (notes.Act a) → a.by ≤ length h
cause_within h a m = elim (cases_eq a.by 0) [
  | inl none ↦ omega (arith, none)
  | inr some ↦ let act = m some in omega (arith, note_at-within h a.by (notes.Act act.0) act.1)
]

-- a new act survives just where the last of its log and its cause do
pub survives-act_new : (h : List Note) (a : Act) → CausesComeFirst h → CausesComeFirst (h ++ notes.Act a ∷ []) → MayFollow h (notes.Act a)
    → survives (h ++ notes.Act a ∷ []) (suc (length h)) ≡ (lasts h (last_of (log h a.node)) && lasts h a.by)
survives-act_new h a w w' m =
    let g = h ++ notes.Act a ∷ [] in
    let n = suc (length h) in
    let Q : List ℕ → Type 0 = λ xs. Contains xs n in
    let P : Option Note → Type 0 = λ o. note_stands g n o ≡ true in
    let stands : note_stands g n (Some (notes.Act a)) ≡ true =
    subst P (note_at-new h (notes.Act a)) (note_stands-true g n (a.node, subst Q (sym (log-own_act h a)) (Contains-push (log h a.node) n))) in
    survives-by_previous g w' n a (note_at-new h (notes.Act a))
    ∙ ap (λ b. b && (lasts g (last_of (log (before g n) a.node)) && lasts g a.by)) stands
    ∙ ap (λ past. lasts g (last_of (log past a.node)) && lasts g a.by) (before-new h (notes.Act a))
    ∙ ap (λ b. b && lasts g a.by) (lasts-act_old h a w w' (last_of (log h a.node)) (last_of-within h a.node))
    ∙ ap (λ b. lasts h (last_of (log h a.node)) && b) (lasts-act_old h a w w' a.by (cause_within h a m))

-- a cut takes out of the logs just what stood behind its keep
pub Stands-cut_was : (h : List Note) (p : NodeId) (keep e : ℕ) → Stands (h ++ notes.Cut p keep ∷ []) e → Stands h e
Stands-cut_was h p keep e s = (s.0, go (cases_Bool (same_node p s.0))) where
  go : ((same_node p s.0 ≡ true) ⊎ (same_node p s.0 ≡ false)) → Contains (log h s.0) e
  go (inl own) =
      let P : NodeId → Type 0 = λ q. Contains (log (h ++ notes.Cut p keep ∷ []) q) e → Contains (log h q) e in
      let Q : List ℕ → Type 0 = λ xs. Contains xs e in
      subst P (same_node-true p s.0 own) (λ c. Contains-from_take keep (log h p) e (subst Q (log-own_cut h p keep) c)) s.1
  go (inr other) = let Q : List ℕ → Type 0 = λ xs. Contains xs e in subst Q (log-other_cut h p keep s.0 other) s.1

pub Stands-cut_stays : (h : List Note) (p : NodeId) (keep e : ℕ) → Stands h e → (Contains (drop keep (log h p)) e → ⊥) → Stands (h ++ notes.Cut p keep ∷ []) e
Stands-cut_stays h p keep e s kept = (s.0, go (cases_Bool (same_node p s.0))) where
  go : ((same_node p s.0 ≡ true) ⊎ (same_node p s.0 ≡ false)) → Contains (log (h ++ notes.Cut p keep ∷ []) s.0) e
  go (inl own) =
      let P : NodeId → Type 0 = λ q. Contains (log h q) e → Contains (log (h ++ notes.Cut p keep ∷ []) q) e in
      let Q : List ℕ → Type 0 = λ xs. Contains xs e in
      subst P (same_node-true p s.0 own)
      (λ c. elim (Contains-append_cases (take keep (log h p)) (drop keep (log h p)) e (subst Q (sym (take-append-drop keep (log h p))) c)) [
        | inl front ↦ subst Q (sym (log-own_cut h p keep)) front
        | inr gone ↦ absurd (kept gone)
      ]) s.1
  go (inr other) = let Q : List ℕ → Type 0 = λ xs. Contains xs e in subst Q (sym (log-other_cut h p keep s.0 other)) s.1

-- what a cut takes out of a log stands in none
pub Stands-cut_gone : (h : List Note) (p : NodeId) (keep e : ℕ) → Contains (drop keep (log h p)) e → Stands (h ++ notes.Cut p keep ∷ []) e → ⊥
Stands-cut_gone h p keep e gone s =
    let cut = notes.Cut p keep in
    let far = slice_get-from_Contains (drop keep (log h p)) e gone in
    let at_far = sym (slice_get-drop keep (log h p) far.0) ∙ far.1 in
    let own = log-own h p e (Contains-from_slice_get (log h p) (keep + far.0) e at_far) in
    let le = (note_at-within h e (notes.Act own.act) own.is_act).1 in
    let stands = Stands-own (h ++ cut ∷ []) e own.act (note_at-old h (cut ∷ []) e le ∙ own.is_act) s in
    let P : NodeId → Type 0 = λ q. Contains (log (h ++ cut ∷ []) q) e in
    let Q : List ℕ → Type 0 = λ xs. Contains xs e in
    let near = slice_get-from_Contains (take keep (log h p)) e (subst Q (log-own_cut h p keep) (subst P own.own stands)) in
    let at_near = slice_get-take keep (log h p) near.0 e near.1 in
    let lt : e < e = log-rises h p near.0 (keep + far.0) e e (omega (arith, at_near.0)) at_near.1 at_far in
    omega (arith, lt)

-- after a cut an act survives just where it did, was not cut off, and the act before it and its cause survive
pub survives-cut : (h : List Note) (p : NodeId) (keep : ℕ) → CausesComeFirst h → CausesComeFirst (h ++ notes.Cut p keep ∷ []) → (n : ℕ) (a : Act)
    → note_at h n ≡ Some (notes.Act a) → survives (h ++ notes.Cut p keep ∷ []) n
    ≡ ((survives h n && not (list_any (λ m. m == n) (drop keep (log h p))))
    && (lasts (h ++ notes.Cut p keep ∷ []) (last_of (log (before h n) a.node)) && lasts (h ++ notes.Cut p keep ∷ []) a.by))
survives-cut h p keep w w' n a e = same_tests _ _ there back where
  le : n ≤ length h
  le = (note_at-within h n (notes.Act a) e).1

  at : note_at (h ++ notes.Cut p keep ∷ []) n ≡ Some (notes.Act a)
  at = note_at-old h (notes.Cut p keep ∷ []) n le ∙ e

  by_parts : survives (h ++ notes.Cut p keep ∷ []) n
      ≡ (note_stands (h ++ notes.Cut p keep ∷ []) n (Some (notes.Act a))
      && (lasts (h ++ notes.Cut p keep ∷ []) (last_of (log (before h n) a.node)) && lasts (h ++ notes.Cut p keep ∷ []) a.by))
  by_parts =
      survives-by_previous (h ++ notes.Cut p keep ∷ []) w' n a at
      ∙ ap (λ past. note_stands (h ++ notes.Cut p keep ∷ []) n (Some (notes.Act a))
      && (lasts (h ++ notes.Cut p keep ∷ []) (last_of (log past a.node)) && lasts (h ++ notes.Cut p keep ∷ []) a.by))
      (before-old h (notes.Cut p keep ∷ []) n (omega (arith, le)))

  there : survives (h ++ notes.Cut p keep ∷ []) n ≡ true
      → ((survives h n && not (list_any (λ m. m == n) (drop keep (log h p))))
      && (lasts (h ++ notes.Cut p keep ∷ []) (last_of (log (before h n) a.node)) && lasts (h ++ notes.Cut p keep ∷ []) a.by)) ≡ true
  there t =
      let stands = Survives-stands (h ++ notes.Cut p keep ∷ []) w' n n ((survives-decides (h ++ notes.Cut p keep ∷ []) w' n).0 t) itself in
      let here : not (list_any (λ m. m == n) (drop keep (log h p))) ≡ true = elim (cases_Bool (list_any (λ m. m == n) (drop keep (log h p)))) [
        | inl gone ↦ absurd (Stands-cut_gone h p keep n (Contains-from_list_any (drop keep (log h p)) n gone) stands)
        | inr kept ↦ not_from_false _ kept
      ] in
      and_from _ _
      (and_from _ _ (survives-fewer h (notes.Cut p keep) w w' n le (λ d below s. Stands-cut_was h p keep d s) t) here)
      (and_parts (note_stands (h ++ notes.Cut p keep ∷ []) n (Some (notes.Act a)))
      (lasts (h ++ notes.Cut p keep ∷ []) (last_of (log (before h n) a.node)) && lasts (h ++ notes.Cut p keep ∷ []) a.by) (sym by_parts ∙ t)).1

  back : ((survives h n && not (list_any (λ m. m == n) (drop keep (log h p))))
      && (lasts (h ++ notes.Cut p keep ∷ []) (last_of (log (before h n) a.node)) && lasts (h ++ notes.Cut p keep ∷ []) a.by)) ≡ true
      → survives (h ++ notes.Cut p keep ∷ []) n ≡ true
  back t =
      let parts = and_parts _ _ t in
      let lives = and_parts _ _ parts.0 in
      let was = Survives-stands h w n n ((survives-decides h w n).0 lives.0) itself in
      let stands = Stands-cut_stays h p keep n was (λ c. false≢true (sym (not-true _ lives.1) ∙ list_any-from_Contains (drop keep (log h p)) n c)) in
      let P : Option Note → Type 0 = λ o. note_stands (h ++ notes.Cut p keep ∷ []) n o ≡ true in
      by_parts ∙ and_from _ _ (subst P at (note_stands-true (h ++ notes.Cut p keep ∷ []) n stands)) parts.1

-- a cut changes nothing of what came before all that it takes out
pub survives-cut_before : (h : List Note) (p : NodeId) (keep : ℕ) → CausesComeFirst h → CausesComeFirst (h ++ notes.Cut p keep ∷ []) → (n : ℕ) → n ≤ length h
    → ((e : ℕ) → Contains (drop keep (log h p)) e → n < e) → survives (h ++ notes.Cut p keep ∷ []) n ≡ survives h n
survives-cut_before h p keep w w' n le behind =
    survives-kept h (notes.Cut p keep) w w' n le
    (λ e below s. Stands-cut_stays h p keep e s (λ c. let far : n < e = behind e c in omega (arith, far, below)))
    (λ e below s. Stands-cut_was h p keep e s)

-- behind the keep of a cut stand numbers from the first of them on
pub drop-log-from_first : (h : List Note) (p : NodeId) (keep first e : ℕ) → slice_get (log h p) keep ≡ Some first → Contains (drop keep (log h p)) e
    → first ≤ e
drop-log-from_first h p keep first e at gone =
    let far = slice_get-from_Contains (drop keep (log h p)) e gone in
    let at_far = sym (slice_get-drop keep (log h p) far.0) ∙ far.1 in
    elim (cases_eq far.0 0) [
      | inl here ↦
          let same : keep + far.0 ≡ keep = omega (arith, here) in
          let P : ℕ → Type 0 = λ i. slice_get (log h p) i ≡ Some e in
          omega (arith, same_Some first e (sym at ∙ subst P same at_far))
      | inr later ↦
          let lt : first < e = log-rises h p keep (keep + far.0) first e (omega (arith, later)) at at_far in
          omega (arith, lt)
    ]
