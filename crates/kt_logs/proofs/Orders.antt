-- Services in a worker's order: what stands where, and one more at the end.
-- Cited by Follows.
use Rattle.std.proofs.Common.{◌≡◌, ℕ, suc, ◌+◌, true, cond, Option, Some, List, [], ◌∷◌, ◌++◌, map, length, Contains, inl, inr, sym}
use Rattle.std.proofs.Common.{refl, ap, ◌∙◌, subst, append_assoc, append-nil, length-append, eqb, eq-eqb, ne_eqb, eqb-true, arith}
use Rattle.std.proofs.lemmas.Bool.{cases_eq}
use Rattle.std.proofs.lemmas.List.Elements.{filter-append, filter_passes, All-contains}
use Rattle.kt_tuple.specs.declared.op.Op.{Op}
use Rattle.kt_tuple.specs.declared.op.Answer.{Answer}
use Rattle.kt_tuple.specs.declared.service.Service.{Service}
use Rattle.kt_logs.specs.Order.{of_worker, OrderFrom}
use Rattle.kt_history.proofs.Shared.{Contains-here, Contains-none}
use Rattle.kt_logs.proofs.Bags.{Contains-there, Contains-cases, Contains-filter}

abbrev pub answers_in : List Service → List Answer
answers_in services = map (λ (s : Service). s.answer) services

-- one list split twice at one place
pub split_same : {X : Type 0} (xs ys us vs : List X) → xs ++ ys ≡ us ++ vs → length xs ≡ length us → (xs ≡ us) × (ys ≡ vs)
split_same [] ys [] vs e l = (refl, e)
split_same [] ys (u ∷ us) vs e l = absurd (omega arith)
split_same (x ∷ xs) ys [] vs e l = absurd (omega arith)
split_same (x ∷ xs) ys (u ∷ us) vs e l =
    let head : x ≡ u = cc in
    let tail : xs ++ ys ≡ us ++ vs = cc in
    let rest : (xs ≡ us) × (ys ≡ vs) = split_same xs ys us vs tail (omega arith) in
    (cc (rest.0), rest.1)

-- the service after so many answers: its number, and what it asked
pub service_after : (asks : List Answer → Option Op) (before : List Answer) (services : List Service) (front : List Answer) (b : Answer) (more : List Answer) →
    OrderFrom asks before services → answers_in services ≡ front ++ b ∷ more →
    (s : Service) × Contains services s × (s.number ≡ suc (length (before ++ front))) × (asks (before ++ front) ≡ Some s.op)
service_after asks before [] [] b more h e = absurd cc
service_after asks before [] (c ∷ front) b more h e = absurd cc
service_after asks before (s ∷ later) [] b more h e =
    (s, Contains-here s later, h.0 ∙ ap (λ l. suc (length l)) (sym (append-nil before)), ap asks (append-nil before) ∙ h.1)
service_after asks before (s ∷ later) (c ∷ front) b more h e =
    let first : s.answer ≡ c = cc in
    let tail : answers_in later ≡ front ++ b ∷ more = cc in
    let r = service_after asks (before ++ s.answer ∷ []) later front b more h.2 tail in
    let same : (before ++ s.answer ∷ []) ++ front ≡ before ++ c ∷ front = append_assoc before (s.answer ∷ []) front ∙ ap (λ z. before ++ z ∷ front) first in
    (r.0, Contains-there s r.0 later r.1, r.2 ∙ ap (λ l. suc (length l)) same, ap asks (sym same) ∙ r.3)

-- where a service stands among the answers
pub place_of : (asks : List Answer → Option Op) (before : List Answer) (services : List Service) (s : Service) → OrderFrom asks before services
    → Contains services s →
    (front : List Answer) × (more : List Answer) × (answers_in services ≡ front ++ s.answer ∷ more) × (s.number ≡ suc (length before + length front))
place_of asks before [] s h c = absurd (Contains-none s c)
place_of asks before (r ∷ later) s h c = elim (Contains-cases r s later c) [
  | inl e ↦ ([], answers_in later, ap (λ (z : Service). z.answer ∷ answers_in later) e, sym (ap (λ (z : Service). z.number) e) ∙ h.0 ∙ omega arith)
  | inr there ↦
      let p = place_of asks (before ++ r.answer ∷ []) later s h.2 there in
      (r.answer ∷ p.0, p.1, ap (λ l. r.answer ∷ l) p.2, omega (arith, p.3, length-append before (r.answer ∷ [])))
]

-- one more service at the end
pub OrderFrom-push : (asks : List Answer → Option Op) (before : List Answer) (services : List Service) (s : Service) → OrderFrom asks before services →
    s.number ≡ suc (length (before ++ answers_in services)) → asks (before ++ answers_in services) ≡ Some s.op → OrderFrom asks before (services ++ s ∷ [])
OrderFrom-push asks before [] s h number asked =
    (number ∙ ap (λ l. suc (length l)) (append-nil before), ap asks (sym (append-nil before)) ∙ asked, tt)
OrderFrom-push asks before (r ∷ later) s h number asked =
    let same : (before ++ r.answer ∷ []) ++ answers_in later ≡ before ++ r.answer ∷ answers_in later = append_assoc before (r.answer ∷ []) (answers_in later) in
    (h.0, h.1, OrderFrom-push asks (before ++ r.answer ∷ []) later s h.2 (number ∙ ap (λ l. suc (length l)) (sym same)) (ap asks same ∙ asked))

-- a worker's services when one more is made
pub of_worker-push_same : (w : ℕ) (services : List Service) (s : Service) → s.worker ≡ w → of_worker w (services ++ s ∷ []) ≡ of_worker w services ++ s ∷ []
of_worker-push_same w services s e =
    filter-append (λ (r : Service). eqb r.worker w) services (s ∷ []) ∙ ap (λ b. of_worker w services ++ cond b (s ∷ []) []) (eq-eqb s.worker w e)

pub of_worker-push_other : (w : ℕ) (services : List Service) (s : Service) → ¬ (s.worker ≡ w) → of_worker w (services ++ s ∷ []) ≡ of_worker w services
of_worker-push_other w services s d =
    filter-append (λ (r : Service). eqb r.worker w) services (s ∷ []) ∙ ap (λ b. of_worker w services ++ cond b (s ∷ []) []) (ne_eqb s.worker w d)
    ∙ append-nil (of_worker w services)

-- what holds of the worker's services with one more, and of those of the others, holds of each
pub of_worker_holds : (P : ℕ → List Service → Type 0) (services : List Service) (s : Service) → P s.worker (of_worker s.worker services ++ s ∷ []) →
    ((w : ℕ) → P w (of_worker w services)) → (w : ℕ) → P w (of_worker w (services ++ s ∷ []))
of_worker_holds P services s new old w = elim (cases_eq s.worker w) [
  | inl e ↦ subst (λ v. P v (of_worker v (services ++ s ∷ []))) e (subst (P s.worker) (sym (of_worker-push_same s.worker services s refl)) new)
  | inr d ↦ subst (P w) (sym (of_worker-push_other w services s d)) (old w)
]

pub Contains-of_worker : (w : ℕ) (services : List Service) (s : Service) → s.worker ≡ w → Contains services s → Contains (of_worker w services) s
Contains-of_worker w services s e c = Contains-filter (λ (r : Service). eqb r.worker w) s services (eq-eqb s.worker w e) c

pub of_worker_own : (w : ℕ) (services : List Service) (s : Service) → Contains (of_worker w services) s → s.worker ≡ w
of_worker_own w services s c =
    eqb-true s.worker w (All-contains (λ (r : Service). eqb r.worker w ≡ true) (of_worker w services) s
    (filter_passes (λ (r : Service). eqb r.worker w) services) c)
