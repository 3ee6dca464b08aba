-- Steps made once more, one after the other.
-- Cited by `remaking::make_all`.
use Rattle.std.proofs.Common.{◌≡◌, ◌≢◌, ℕ, ◌+◌, ◌-◌, ◌≤◌, ◌<◌, false, List, [], ◌∷◌, ◌++◌, take, drop, length, get_or, slice_get}
use Rattle.std.proofs.Common.{Result, Ok, Err, Some, refl, sym, ap, subst, ◌∙◌, inl, inr, arith, take-append-drop}
use Rattle.std.proofs.lemmas.Bool.{false≢true}
use Rattle.std.proofs.lemmas.List.{length_push, take_more}
use Rattle.std.proofs.lemmas.Option.{none-some}
use Rattle.kt_history.specs.declared.note.Note.{Note}
use Rattle.kt_history.proofs.Lists.{slice_get-push_cases}
use Rattle.kt_tuple.specs.declared.node.NodeId.{NodeId}
use Rattle.kt_scenario.specs.declared.step.Step.{Step}
use Rattle.kt_scenario.specs.Step.{owner}
use Rattle.kt_model.specs.declared.error.StepError.{StepError}
use Rattle.kt_model.specs.declared.error.StepError.TheVariants as refusals
use Rattle.kt_model.specs.Effect.{applied_if, step_result}
use Rattle.kt_model.specs.Headline.{NotesOneAtMost, nothing, one}
use Rattle.kt_model.specs.State.{State}
use Rattle.kt_model.specs.StepPlan.{step_plan}
use Rattle.kt_core.specs.Stepping.{Refuses}
use Rattle.kt_stage.specs.Journal.{all_made, made_from, then_made}
use Rattle.kt_summary.specs.Remade.{AreMakers, IsMadeBy}
use Rattle.kt_summary.specs.auxiliary.Wants.{is_want}

-- the first so many steps were made
pub record MadeUpTo (first : State) (steps : List Step) (i : ℕ) (s : State) (makers : List ℕ) : Type 0 where
  pub leads : all_made first (take i steps) ≡ Ok s
  pub lengths : length makers ≡ length s.history
  pub each : (place number : ℕ) → slice_get makers place ≡ Some number → IsMadeBy first steps place number

made-append : (so_far : Result State StepError) (xs ys : List Step) → made_from so_far (xs ++ ys) ≡ made_from (made_from so_far xs) ys
unfolding made_from
made-append so_far [] ys = refl
made-append so_far (x ∷ xs) ys = made-append (then_made so_far x) xs ys

made-one : (so_far : Result State StepError) (step : Step) → made_from so_far (step ∷ []) ≡ then_made so_far step
unfolding made_from
made-one so_far step = refl

made-refused : (e : StepError) (steps : List Step) → made_from (Err e) steps ≡ Err e
unfolding made_from
made-refused e [] = refl
made-refused e (step ∷ later) = made-refused e later

pub made_none : (first : State) (steps : List Step) → first.history ≡ [] → MadeUpTo first steps 0 first []
unfolding made_from
made_none first steps none = record {
  leads = refl;
  lengths = ap (λ (h : List Note). length h) (sym none);
  each = λ place number e. absurd (none-some number e);
}

at-most : (p : NodeId) (old : List Note) {new : List Note} → NotesOneAtMost p old new → (length old ≤ length new) × (length new ≤ length old + 1)
at-most p old nothing = (omega arith, omega arith)
at-most p old (one note is) = let long = length_push old note in (omega (arith, long), omega (arith, long))

leads-more : (first : State) (steps : List Step) (i : ℕ) (s : State) (step : Step) → i < length steps → step ≡ get_or steps i step
    → all_made first (take i steps) ≡ Ok s → all_made first (take (i + 1) steps) ≡ step_result s step
leads-more first steps i s step lt at leads =
    let more : take (i + 1) steps ≡ take i steps ++ step ∷ [] =
    take_more steps i step lt ∙ ap (λ (x : Step). take i steps ++ x ∷ []) (sym at) in
    ap (λ (xs : List Step). all_made first xs) more
    ∙ made-append (Ok first) (take i steps) (step ∷ [])
    ∙ made-one (made_from (Ok first) (take i steps)) step
    ∙ ap (λ (r : Result State StepError). then_made r step) leads

-- one step more was made, and wrote a note
pub made_noted : (first : State) (steps : List Step) (i number : ℕ) (s new : State) (step : Step) (makers : List ℕ) → i < length steps
    → step ≡ get_or steps i step → number ≡ i + 1 → step_result s step ≡ Ok new → NotesOneAtMost (owner step) s.history new.history
    → length makers < length new.history → MadeUpTo first steps i s makers → MadeUpTo first steps (i + 1) new (makers ++ number ∷ [])
made_noted first steps i number s new step makers lt at is made notes longer m =
    let leads : all_made first (take (i + 1) steps) ≡ Ok new = leads-more first steps i s step lt at m.leads ∙ made in
    let few = at-most (owner step) s.history notes in
    let long = length_push makers number in
    record {
      leads = leads;
      lengths = omega (arith, few.0, few.1, longer, long, m.lengths);
      each = λ place k e. elim (slice_get-push_cases makers number place k e) [
        | inl old ↦ m.each place k old.1
        | inr last ↦
            let same : k ≡ i + 1 = sym last.1 ∙ is in
            let P : ℕ → Type 0 = λ j. IsMadeBy first steps place j in
            let Q : ℕ → Type 0 = λ j. all_made first (take j steps) ≡ Ok s in
            let before : i ≡ i + 1 - 1 = omega arith in
            subst P (sym same) (record {
              before = s;
              leads_before = subst Q before m.leads;
              not_yet = omega (arith, last.0, m.lengths);
              after = new;
              leads_after = leads;
              by_then = omega (arith, last.0, longer);
            })
      ];
    }

-- one step more was made, and wrote none
pub made_silent : (first : State) (steps : List Step) (i : ℕ) (s new : State) (step : Step) (makers : List ℕ) → i < length steps
    → step ≡ get_or steps i step → step_result s step ≡ Ok new → NotesOneAtMost (owner step) s.history new.history
    → (length makers < length new.history → ⊥) → MadeUpTo first steps i s makers → MadeUpTo first steps (i + 1) new makers
made_silent first steps i s new step makers lt at made notes short m =
    let few = at-most (owner step) s.history notes in
    record {
      leads = leads-more first steps i s step lt at m.leads ∙ made;
      lengths = omega (arith, few.0, few.1, short, m.lengths);
      each = m.each;
    }

-- all were made
pub made_all : (first : State) (steps : List Step) (i : ℕ) (s : State) (makers : List ℕ) → take i steps ≡ steps → MadeUpTo first steps i s makers
    → AreMakers first steps s makers
made_all first steps i s makers whole m = record {
  leads = ap (λ (xs : List Step). all_made first xs) (sym whole) ∙ m.leads;
  lengths = m.lengths;
  each = m.each;
}

refused-plan : (s : State) (step : Step) (e : StepError) → is_want e ≡ false → Refuses e (step_plan s step) → step_plan s step ≡ Err e
refused-plan s step (refusals.Store refusal) other due = absurd (false≢true (sym other))
refused-plan s step refusals.OutOfMemory other due = absurd (false≢true (sym other))
refused-plan s step refusals.NoNode other due = due
refused-plan s step refusals.WrongMode other due = due
refused-plan s step refusals.NothingThere other due = due
refused-plan s step refusals.NoSuchMatch other due = due
refused-plan s step refusals.NotDecided other due = due
refused-plan s step refusals.Unresolved other due = due
refused-plan s step refusals.StepLimit other due = due

never : (r : Result State StepError) (e : StepError) (t : State) → r ≡ Err e → r ≡ Ok t → ⊥
never r e t refused led = absurd cc

-- a step was refused: the steps do not lead anywhere
pub none_made : (first : State) (steps : List Step) (i : ℕ) (s : State) (step : Step) (e : StepError) (makers : List ℕ) → i < length steps
    → step ≡ get_or steps i step → is_want e ≡ false → Refuses e (step_plan s step) → MadeUpTo first steps i s makers
    → (t : State) → all_made first steps ≢ Ok t
none_made first steps i s step e makers lt at other due m t led =
    let refused : step_result s step ≡ Err e = ap (applied_if s step) (refused-plan s step e other due) in
    let rest = drop (i + 1) steps in
    let whole : all_made first steps ≡ Err e =
    ap (λ (xs : List Step). all_made first xs) (sym (take-append-drop (i + 1) steps))
    ∙ made-append (Ok first) (take (i + 1) steps) rest
    ∙ ap (λ (r : Result State StepError). made_from r rest) (leads-more first steps i s step lt at m.leads ∙ refused)
    ∙ made-refused e rest in
    never (all_made first steps) e t whole led
