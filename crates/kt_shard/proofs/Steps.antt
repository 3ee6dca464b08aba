-- A service is a step of the sequential space on the shard's own tuples.
-- Cited by Written, `laws::services_are_steps_of_the_space`; other crates.
use Rattle.std.proofs.Common.{◌≡◌, if◌then◌else◌, ℕ, ◌==◌, Bool, true, false, List, [], ◌∷◌, ◌++◌, Option, None, Some, Ok, refl, subst, sym, eqb-true}
use Rattle.std.specs.List.{slice_get}
use Rattle.std.specs.Option.{option_map}
use Rattle.std.proofs.lemmas.List.Sorted.{IsPermutation-refl, IsPermutation-sym, IsPermutation-to_front}
use Rattle.kt_tuple.specs.declared.tuple.Tuple.{Tuple}
use Rattle.kt_tuple.specs.declared.template.Template.{Template}
use Rattle.kt_tuple.specs.declared.op.Op.{Op}
use Rattle.kt_tuple.specs.declared.op.Op.TheVariants.{Out, In, Rd, Inp, Rdp}
use Rattle.kt_tuple.specs.declared.op.Answer.{Answer}
use Rattle.kt_tuple.specs.declared.op.Answer.TheVariants as answers
use Rattle.kt_tuple.specs.Space.{SpaceStep, Withdraws, Reads, FindsNone}
use Rattle.kt_space.specs.Picking.{matching, without_match}
use Rattle.kt_space.proofs.Shared.{without_none, takes_out, match_contained, match_permutes, fewer, nothing_matches}
use Rattle.kt_shard.specs.declared.request.Request.{Request}
use Rattle.kt_shard.specs.Shard.{Shard, session_of}
use Rattle.kt_shard.specs.Service.{Service, at_first, got_or_none, answer_at, left_by, service_if, service_of, service}

-- the operation is served with the match of a place, and answered so
abbrev IsStepTo : List Tuple → Op → ℕ → Answer → Type 0
IsStepTo bag op place answer = SpaceStep bag op answer (left_by bag op place)

-- only place 0 gives the one answer that there is
only_first : (place : ℕ) (made answer : Answer) → at_first place made ≡ Some answer → (place ≡ 0) × (made ≡ answer)
only_first place made answer e = by (place == 0) refl e
  where
    by : (r : Bool) → (place == 0) ≡ r → (if r then Some made else None) ≡ Some answer → (place ≡ 0) × (made ≡ answer)
    by true z e = (eqb-true place 0 z, cc)
    by false z e = absurd cc

-- the tuple that is answered is the match
got : (o : Option Tuple) (answer : Answer) → option_map answers.Got o ≡ Some answer → (u : Tuple) × (o ≡ Some u) × (answers.Got u ≡ answer)
got None answer e = absurd cc
got (Some u) answer e = (u, refl, cc)

withdrawn : (t : Template) (place : ℕ) (bag : List Tuple) (u : Tuple) → slice_get (matching t bag) place ≡ Some u
    → Withdraws t bag u (without_match t place bag)
withdrawn t place bag u e = ((takes_out t place bag u e).fits, match_permutes t place bag u e)

read : (t : Template) (place : ℕ) (bag : List Tuple) (u : Tuple) → slice_get (matching t bag) place ≡ Some u → Reads t bag u bag
read t place bag u e = ((takes_out t place bag u e).fits, match_contained t place bag u e, IsPermutation-refl bag)

none_found : (t : Template) (place : ℕ) (bag : List Tuple) → slice_get (matching t bag) place ≡ None → place ≡ 0 → FindsNone t bag bag
none_found t place bag e z = (nothing_matches t bag (subst (λ n. slice_get (matching t bag) n ≡ None) z e), IsPermutation-refl bag)

-- where nothing matches, nothing is taken
none_taken : (t : Template) (place : ℕ) (bag : List Tuple) → slice_get (matching t bag) place ≡ None → place ≡ 0 → FindsNone t bag (without_match t place bag)
none_taken t place bag e z = subst (FindsNone t bag) (sym (without_none t bag place (fewer t place bag e))) (none_found t place bag e z)

-- what is answered to an operation is a step of the space
pub answer-step : (bag : List Tuple) (op : Op) (place : ℕ) (answer : Answer) → answer_at bag op place ≡ Some answer
    → SpaceStep bag op answer (left_by bag op place)
answer-step bag (Out u) place answer e =
    subst (IsStepTo bag (Out u) place) (only_first place answers.Done answer e).1 (IsPermutation-sym (bag ++ u ∷ []) (u ∷ bag) (IsPermutation-to_front bag u))
answer-step bag (In t) place answer e =
    let g = got (slice_get (matching t bag) place) answer e in subst (IsStepTo bag (In t) place) g.2 (withdrawn t place bag g.0 g.1)
answer-step bag (Rd t) place answer e =
    let g = got (slice_get (matching t bag) place) answer e in subst (IsStepTo bag (Rd t) place) g.2 (read t place bag g.0 g.1)
answer-step bag (Inp t) place answer e = by (slice_get (matching t bag) place) refl e
  where
    by : (o : Option Tuple) → slice_get (matching t bag) place ≡ o → got_or_none place o ≡ Some answer → IsStepTo bag (Inp t) place answer
    by None at e = let first = only_first place answers.None answer e in subst (IsStepTo bag (Inp t) place) first.1 (none_taken t place bag at first.0)
    by (Some u) at e = let same : answers.Got u ≡ answer = cc in subst (IsStepTo bag (Inp t) place) same (withdrawn t place bag u at)
answer-step bag (Rdp t) place answer e = by (slice_get (matching t bag) place) refl e
  where
    by : (o : Option Tuple) → slice_get (matching t bag) place ≡ o → got_or_none place o ≡ Some answer → IsStepTo bag (Rdp t) place answer
    by None at e = let first = only_first place answers.None answer e in subst (IsStepTo bag (Rdp t) place) first.1 (none_found t place bag at first.0)
    by (Some u) at e = let same : answers.Got u ≡ answer = cc in subst (IsStepTo bag (Rdp t) place) same (read t place bag u at)

-- how a service came to be: the worker waited with the request, and the match of the place answers it
pub record IsDue (y : Shard) (worker place : ℕ) (s : Service) : Type 0 where
  pub waited : (session_of y worker).waiting ≡ Some s.request
  pub asked_for : s.place ≡ place
  pub answer : answer_at y.bag s.request.op s.place ≡ Some s.answer

pub service-due : (y : Shard) (worker place : ℕ) (s : Service) → service y worker place ≡ Ok s → IsDue y worker place s
service-due y worker place s e = by (session_of y worker).waiting refl e
  where
    with_answer : (request : Request) (o : Option Answer) → (session_of y worker).waiting ≡ Some request → answer_at y.bag request.op place ≡ o
        → service_if request place o ≡ Ok s → IsDue y worker place s
    with_answer request None was at e = absurd cc
    with_answer request (Some answer) was at e =
        let same : record { request = request; place = place; answer = answer } ≡ s = cc in
        subst (IsDue y worker place) same (record { waited = was; asked_for = refl; answer = at })

    by : (o : Option Request) → (session_of y worker).waiting ≡ o → service_of y.bag o place ≡ Ok s → IsDue y worker place s
    by None was e = absurd cc
    by (Some request) was e = with_answer request (answer_at y.bag request.op place) was refl e

pub service-step : (y : Shard) (worker place : ℕ) (s : Service) → service y worker place ≡ Ok s
    → SpaceStep y.bag s.request.op s.answer (left_by y.bag s.request.op s.place)
service-step y worker place s e = answer-step y.bag s.request.op s.place s.answer (service-due y worker place s e).answer
