-- The test of survival is survival, and what survives has its whole past surviving.
-- Cited by Changes, Fronts, Keeping, KeepingCuts, `History::lost_count`, `History::survivors`,
--   `laws::survival_is_decided`, `laws::survivors_are_fronts`, `laws::survivors_keep_their_past`; other crates.
use Rattle.std.proofs.Common.{◌≡◌, ℕ, zero, suc, ◌<◌, true, List, ◌∷◌, Option, None, Some, refl, sym, ap, ◌∙◌, subst, ◌⊎◌, inl, inr, arith, Contains, Decides}
use Rattle.std.proofs.lemmas.Bool.{and_parts, and_from, cases_Bool, eq-eqb, false≢true, cases_eq, cond-true, cond-false, ne_eqb}
use Rattle.kt_tuple.specs.declared.node.NodeId.{NodeId}
use Rattle.kt_tuple.specs.declared.service.Service.{Service}
use Rattle.kt_history.specs.declared.note.Act.{Act}
use Rattle.kt_history.specs.declared.note.Note.{Note}
use Rattle.kt_history.specs.declared.note.Note.TheVariants as notes
use Rattle.kt_history.specs.Log.{note_at, before, IsAct, log}
use Rattle.kt_history.specs.Past.{StoodBefore, IsCauseOf, InPast, itself, in_log, by_cause}
use Rattle.kt_history.specs.WellFormed.{CausesComeFirst}
use Rattle.kt_history.specs.Survival.{Stands, IsLost, Survives, note_stands, note_causes, stands_back}
use Rattle.kt_history.specs.Survival.{survives, services, lost_count, AreSurvivors, IsLostCount}
use Rattle.kt_history.specs.Closed.{IsClosed}
use Rattle.kt_history.proofs.Lists.{Contains-none, Contains-here, Contains-there, Contains-cons_cases}
use Rattle.kt_history.proofs.Lists.{list_all-at, list_all-from, list_any-from_Contains, Contains-from_list_any}
use Rattle.kt_history.proofs.Logs.{log-own}
use Rattle.kt_history.proofs.Pasts.{InPast-trans, StoodBefore-act, IsCauseOf-act}

-- what stands is an act that stands in the log of its own node
pub Stands-own : (h : List Note) (n : ℕ) (a : Act) → note_at h n ≡ Some (notes.Act a) → Stands h n → Contains (log h a.node) n
Stands-own h n a e s =
    let own = log-own h s.0 n s.1 in
    let same : own.act ≡ a = let both : Some (notes.Act own.act) ≡ Some (notes.Act a) = sym own.is_act ∙ e in cc in
    let P : NodeId → Type 0 = λ p. Contains (log h p) n in
    subst P (sym own.own ∙ ap (λ (b : Act). b.node) same) s.1

pub Stands-act : (h : List Note) (n : ℕ) → Stands h n → IsAct h n
Stands-act h n s = let own = log-own h s.0 n s.1 in (own.act, own.is_act)

-- the test of standing is standing
pub note_stands-true : (h : List Note) (n : ℕ) → Stands h n → note_stands h n (note_at h n) ≡ true
note_stands-true h n s =
    let a = Stands-act h n s in
    let P : Option Note → Type 0 = λ o. note_stands h n o ≡ true in
    subst P (sym a.1) (list_any-from_Contains (log h a.0.node) n (Stands-own h n a.0 a.1 s))

pub Stands-from_test : (h : List Note) (n : ℕ) → note_stands h n (note_at h n) ≡ true → Stands h n
Stands-from_test h n e = go (note_at h n) e where
  go : (o : Option Note) → note_stands h n o ≡ true → Stands h n
  go None t = absurd (false≢true t)
  go (Some (notes.Act a)) t = (a.node, Contains-from_list_any (log h a.node) n t)
  go (Some (notes.Cut p keep)) t = absurd (false≢true t)

-- the numbers one step back are those that stood before and the cause
pub note_causes-cases : (h : List Note) (n g : ℕ) → Contains (note_causes h n (note_at h n)) g → StoodBefore h g n ⊎ IsCauseOf h g n
note_causes-cases h n g c = go (note_at h n) refl c where
  go : (o : Option Note) → note_at h n ≡ o → Contains (note_causes h n o) g → StoodBefore h g n ⊎ IsCauseOf h g n
  go None e k = absurd (Contains-none g k)
  go (Some (notes.Cut p keep)) e k = absurd (Contains-none g k)
  go (Some (notes.Act a)) e k = elim (cases_eq a.by 0) [
    | inl none ↦
        let P : List ℕ → Type 0 = λ xs. Contains xs g in
        inl (record { act = a; is_act = e; stood = subst P (cond-true _ _ _ (eq-eqb a.by 0 none)) k })
    | inr some ↦
        let P : List ℕ → Type 0 = λ xs. Contains xs g in
        elim (Contains-cons_cases a.by (log (before h n) a.node) g (subst P (cond-false _ _ _ (ne_eqb a.by 0 some)) k)) [
          | inl here ↦ inr (record { act = a; is_act = e; names = here; some = λ z. some (here ∙ z) })
          | inr there ↦ inl (record { act = a; is_act = e; stood = there })
        ]
  ]

pub note_causes-from_stood : (h : List Note) (n g : ℕ) → StoodBefore h g n → Contains (note_causes h n (note_at h n)) g
note_causes-from_stood h n g s =
    let P : Option Note → Type 0 = λ o. Contains (note_causes h n o) g in
    let Q : List ℕ → Type 0 = λ xs. Contains xs g in
    let at : P (Some (notes.Act s.act)) = elim (cases_eq s.act.by 0) [
      | inl none ↦ subst Q (sym (cond-true _ _ _ (eq-eqb s.act.by 0 none))) s.stood
      | inr some ↦ subst Q (sym (cond-false _ _ _ (ne_eqb s.act.by 0 some))) (Contains-there s.act.by (log (before h n) s.act.node) g s.stood)
    ] in
    subst P (sym s.is_act) at

pub note_causes-from_cause : (h : List Note) (n g : ℕ) → IsCauseOf h g n → Contains (note_causes h n (note_at h n)) g
note_causes-from_cause h n g s =
    let P : Option Note → Type 0 = λ o. Contains (note_causes h n o) g in
    let Q : List ℕ → Type 0 = λ xs. Contains xs g in
    let R : ℕ → Type 0 = λ m. Contains (s.act.by ∷ log (before h n) s.act.node) m in
    let at : P (Some (notes.Act s.act)) =
    subst Q (sym (cond-false _ _ _ (ne_eqb s.act.by 0 (λ z. s.some (sym s.names ∙ z)))))
    (subst R s.names (Contains-here s.act.by (log (before h n) s.act.node))) in
    subst P (sym s.is_act) at

stands_back-past : (h : List Note) → CausesComeFirst h → (k n : ℕ) → n < k → stands_back h k n ≡ true → (e : ℕ) → InPast h e n → Stands h e
unfolding stands_back
stands_back-past h w zero n lt t e p = absurd (omega (arith, lt))
stands_back-past h w (suc k) n lt t e p = go n lt t p (λ g below u q. stands_back-past h w k g below u e q) where
  go : (n : ℕ) → n < suc k → stands_back h (suc k) n ≡ true → InPast h e n → ((g : ℕ) → g < k → stands_back h k g ≡ true → InPast h e g → Stands h e)
      → Stands h e
  go n lt t itself again = Stands-from_test h n (and_parts _ _ t).0
  go n lt t (in_log {g} s q) again =
      again g (omega (arith, lt, (StoodBefore-act h g n s).0)) (list_all-at (stands_back h k) _ g (and_parts _ _ t).1 (note_causes-from_stood h n g s)) q
  go n lt t (by_cause {g} s q) again =
      again g (omega (arith, lt, (IsCauseOf-act h w g n s).0)) (list_all-at (stands_back h k) _ g (and_parts _ _ t).1 (note_causes-from_cause h n g s)) q

stands_back-from : (h : List Note) → CausesComeFirst h → (k n : ℕ) → n < k → Survives h n → stands_back h k n ≡ true
unfolding stands_back
stands_back-from h w zero n lt s = absurd (omega (arith, lt))
stands_back-from h w (suc k) n lt s =
    and_from _ _ here (list_all-from (stands_back h k) _ (λ g c. elim (note_causes-cases h n g c) [
      | inl stood ↦ stands_back-from h w k g (omega (arith, lt, (StoodBefore-act h g n stood).0)) (λ e q. s e (in_log stood q))
      | inr cause ↦ stands_back-from h w k g (omega (arith, lt, (IsCauseOf-act h w g n cause).0)) (λ e q. s e (by_cause cause q))
    ])) where
      here : note_stands h n (note_at h n) ≡ true
      here = elim (cases_Bool (note_stands h n (note_at h n))) [
        | inl stands ↦ stands
        | inr not_so ↦ absurd (s n itself (λ stands. false≢true (sym not_so ∙ note_stands-true h n stands)))
      ]

-- the test is true just of what survives
pub survives-decides : (h : List Note) → CausesComeFirst h → (n : ℕ) → Decides (survives h n) (Survives h n)
unfolding survives
survives-decides h w n =
    (λ t e p lost. lost (stands_back-past h w (suc n) n (omega arith) t e p), λ s. stands_back-from h w (suc n) n (omega arith) s)

-- all of the past of what survives stands
pub Survives-stands : (h : List Note) → CausesComeFirst h → (e f : ℕ) → Survives h f → InPast h e f → Stands h e
unfolding survives
Survives-stands h w e f s p = stands_back-past h w (suc f) f (omega arith) ((survives-decides h w f).1 s) e p

-- what survives has its whole past surviving
pub Survives-past : (h : List Note) (e f : ℕ) → Survives h f → InPast h e f → Survives h e
Survives-past h e f s p = λ d q. s d (InPast-trans h d q p)

-- an act survives where it stands and all that is one step back survives
pub Survives-step : (h : List Note) (f : ℕ) → Stands h f → ((g : ℕ) → StoodBefore h g f → Survives h g) → ((g : ℕ) → IsCauseOf h g f → Survives h g)
    → Survives h f
Survives-step h f stands stood cause = λ e p. go e stands stood cause p where
  go : (e : ℕ) {f : ℕ} → Stands h f → ((g : ℕ) → StoodBefore h g f → Survives h g) → ((g : ℕ) → IsCauseOf h g f → Survives h g) → InPast h e f → ¬ IsLost h e
  go e here by_log by_act itself = λ lost. lost here
  go e here by_log by_act (in_log {g} s q) = by_log g s e q
  go e here by_log by_act (by_cause {g} s q) = by_act g s e q

-- what survives names an act
pub Survives-act : (h : List Note) → CausesComeFirst h → (n : ℕ) → Survives h n → IsAct h n
Survives-act h w n s = Stands-act h n (Survives-stands h w n n s itself)

-- the survivors are a closed choice
pub survives-closed : (h : List Note) → CausesComeFirst h → IsClosed h (survives h)
survives-closed h w = record {
  stands = λ n t. Survives-stands h w n n ((survives-decides h w n).0 t) itself;
  below = λ g n t s. (survives-decides h w g).1 (Survives-past h g n ((survives-decides h w n).0 t) (in_log s itself));
  cause = λ g n t s. (survives-decides h w g).1 (Survives-past h g n ((survives-decides h w n).0 t) (by_cause s itself));
}

-- what the test picks are the services of what survives
pub AreSurvivors-from : (h k : List Note) (found : List Service) → h ≡ k → CausesComeFirst h → found ≡ services k → AreSurvivors k found
unfolding services
AreSurvivors-from h k found same w is =
    let P : List Note → Type 0 = λ g. CausesComeFirst g in
    record { marks = survives k; marked = λ n. survives-decides k (subst P same w) n; are = is }

-- what the test leaves is what does not survive
pub IsLostCount-from : (h k : List Note) (count : ℕ) → h ≡ k → CausesComeFirst h → count ≡ lost_count k → IsLostCount k count
unfolding lost_count
IsLostCount-from h k count same w is =
    let P : List Note → Type 0 = λ g. CausesComeFirst g in
    record { marks = survives k; marked = λ n. survives-decides k (subst P same w) n; is = is }
