-- What is kept of each fault line, step after step.
-- Cited by `strikes::note`, `strikes::struck`.
use Rattle.std.proofs.Common.{◌≡◌, ◌≢◌, ℕ, zero, suc, ◌+◌, ◌-◌, ◌≤◌, ◌<◌, Bool, true, false, Option, Some, None, List, [], ◌∷◌, ◌++◌}
use Rattle.std.proofs.Common.{set, take, map, length, get_or, slice_get, refl, sym, ap, subst, ◌∙◌, inl, inr, arith}
use Rattle.std.proofs.lemmas.Bool.{cases_eq, false≢true}
use Rattle.std.proofs.lemmas.List.{length-map, length-set, take_more}
use Rattle.std.proofs.lemmas.List.Sums.{fold-append}
use Rattle.std.proofs.lemmas.Option.{none-some, same_Some, slice_get_read, slice_get_within}
use Rattle.kt_scenario.specs.declared.step.Step.{Step}
use Rattle.kt_scenario.specs.declared.step.Step.TheVariants.{Fail, Check}
use Rattle.kt_scenario.specs.declared.faults.Fault.{Fault}
use Rattle.kt_scenario.specs.declared.faults.FaultLine.{FaultLine}
use Rattle.kt_scenario.specs.declared.faults.FaultKind.TheVariants as kinds
use Rattle.kt_scenario.specs.Faults.{mark_at, marked, place_spent, set_marked, spent}
use Rattle.kt_stage.specs.Policy.{spent_by}
use Rattle.kt_summary.specs.declared.strikes.FaultEnd.{FaultEnd}
use Rattle.kt_summary.specs.Strikes.{IsOutcome, IsStruckBy, faults_asked, faults_told, is_marked_line, is_spent}
use Rattle.kt_summary.specs.auxiliary.Marking.{AreNoted, IsNotedAt, first_by, is_kind_of_fault, noted_one, unstruck}
use Rattle.kt_summary.proofs.Lists.{slice_get-set_other, slice_get-set_same}
use Rattle.kt_summary.proofs.Marks.{more-keeps}

-- ---- one step noted, place after place

-- it is noted at the first so many places
pub record NotedUpTo (lines : List FaultLine) (number : ℕ) (old now : List FaultEnd) (place : ℕ) : Type 0 where
  pub lengths : length now ≡ length old
  pub done : (k : ℕ) (x : FaultEnd) → k < place → slice_get now k ≡ Some x → IsNotedAt lines number old k x
  pub rest : (k : ℕ) → place ≤ k → slice_get now k ≡ slice_get old k

pub noted_none : (lines : List FaultLine) (number : ℕ) (old : List FaultEnd) → NotedUpTo lines number old old 0
noted_none lines number old = record {
  lengths = refl;
  done = λ k x below e. absurd (omega (arith, below));
  rest = λ k above. refl;
}

pub noted_more : (lines : List FaultLine) (number : ℕ) (old now : List FaultEnd) (place : ℕ) (x value : FaultEnd) (line : FaultLine) → place < length old
    → length lines ≡ length old → x ≡ get_or now place x → line ≡ get_or lines place line → value ≡ noted_one line number x
    → NotedUpTo lines number old now place → NotedUpTo lines number old (set now place value) (place + 1)
noted_more lines number old now place x value line lt long was at is u = let within : place < length now = omega (arith, lt, u.lengths) in record {
  lengths = length-set now place value ∙ u.lengths;
  done = λ k y below e. elim (cases_eq k place) [
    | inl here ↦
        let P : ℕ → Type 0 = λ i. slice_get (set now place value) i ≡ Some y in
        let Q : ℕ → Type 0 = λ i. IsNotedAt lines number old i y in
        let same : value ≡ y = same_Some value y (sym (slice_get-set_same now place value within) ∙ subst P here e) in
        subst Q (sym here) (record {
          line = line;
          is_line = slice_get_read lines (length lines) place line refl (omega (arith, lt, long)) at;
          was = x;
          is_was = sym (u.rest place (omega arith)) ∙ slice_get_read now (length now) place x refl within was;
          is = sym same ∙ is;
        })
    | inr other ↦ u.done k y (omega (arith, below, other)) (sym (slice_get-set_other now place k value other) ∙ e)
  ];
  rest = λ k above.
      let other : k ≢ place = λ e. omega (arith, e, above) in
      slice_get-set_other now place k value other ∙ u.rest k (omega (arith, above));
}

pub noted_all : (lines : List FaultLine) (number : ℕ) (old now : List FaultEnd) (n : ℕ) → length old ≤ n → NotedUpTo lines number old now n
    → AreNoted lines number old now
noted_all lines number old now n le u = record {
  lengths = u.lengths;
  each = λ place x e. let within = slice_get_within now place x e in u.done place x (omega (arith, within, le, u.lengths)) e;
}

-- ---- step after step

-- what is known of the line at this place once the first n steps were made
abbrev pub IsKnown : List FaultLine → List Step → ℕ → ℕ → Option ℕ → Type 0
IsKnown lines steps n place (Some number) = IsStruckBy lines steps place number
IsKnown lines steps n place None = is_spent lines place (take n steps) ≡ false

mark-length : (lines : List FaultLine) (o : Option ℕ) → length (mark_at lines o) ≡ length lines
mark-length lines None = refl
mark-length lines (Some i) = go (slice_get lines i) where
  go : (o : Option FaultLine) → length (set_marked lines i o) ≡ length lines
  go None = refl
  go (Some line) = length-set lines i (marked line)

-- a step leaves as many lines
pub spent_length : (lines : List FaultLine) (step : Step) → length (spent lines step) ≡ length lines
spent_length lines (Fail p) = mark-length lines (place_spent kinds.Fail p lines)
spent_length lines (Check p) = mark-length lines (place_spent kinds.Check p lines)
spent_length lines step = refl

-- and of all lines
pub record SoFar (lines : List FaultLine) (steps : List Step) (n : ℕ) (left : List FaultLine) (found : List FaultEnd) : Type 0 where
  pub is_left : left ≡ spent_by lines (take n steps)
  pub lengths : length left ≡ length found
  pub told : faults_told found ≡ faults_asked lines
  pub each : (place : ℕ) (x : FaultEnd) → slice_get found place ≡ Some x → IsKnown lines steps n place x.by

start-told : (lines : List FaultLine) → faults_told (map unstruck lines) ≡ faults_asked lines
start-told [] = refl
start-told (l ∷ ls) = ap (λ (fs : List Fault). l.fault ∷ fs) (start-told ls)

start-by : (lines : List FaultLine) (place : ℕ) (x : FaultEnd) → slice_get (map unstruck lines) place ≡ Some x
    → x.by ≡ first_by None (is_marked_line (slice_get lines place)) 0
start-by [] place x e = absurd (none-some x e)
start-by (l ∷ ls) zero x e = ap (λ (y : FaultEnd). y.by) (sym (same_Some (unstruck l) x e))
start-by (l ∷ ls) (suc place) x e = start-by ls place x e

known-start : (lines : List FaultLine) (steps : List Step) (place : ℕ) (b : Bool) → is_marked_line (slice_get lines place) ≡ b
    → IsKnown lines steps 0 place (first_by None b 0)
known-start lines steps place true e = record { within = omega arith; before = λ le. absurd (omega (arith, le)); after = e }
known-start lines steps place false e = e

-- before the first step
pub so_far_none : (lines left : List FaultLine) (steps : List Step) (found : List FaultEnd) → left ≡ lines → found ≡ map unstruck lines
    → SoFar lines steps 0 left found
so_far_none lines left steps found same is = record {
  is_left = same;
  lengths = ap (λ (ls : List FaultLine). length ls) same ∙ sym (ap (λ (xs : List FaultEnd). length xs) is ∙ length-map lines unstruck);
  told = ap faults_told is ∙ start-told lines;
  each = λ place x e.
      let P : List FaultEnd → Type 0 = λ xs. slice_get xs place ≡ Some x in
      let Q : Option ℕ → Type 0 = λ o. IsKnown lines steps 0 place o in
      subst Q (sym (start-by lines place x (subst P is e))) (known-start lines steps place (is_marked_line (slice_get lines place)) refl);
}

-- the lines that one step more leaves
left-more : (lines left : List FaultLine) (steps : List Step) (n : ℕ) (step : Step) → n < length steps → step ≡ get_or steps n step
    → left ≡ spent_by lines (take n steps) → spent left step ≡ spent_by lines (take (n + 1) steps)
left-more lines left steps n step lt at is =
    let more : take (n + 1) steps ≡ take n steps ++ step ∷ [] =
    take_more steps n step lt ∙ ap (λ (s : Step). take n steps ++ s ∷ []) (sym at) in
    ap (λ (ls : List FaultLine). spent ls step) is
    ∙ sym (fold-append spent lines (take n steps) (step ∷ []))
    ∙ ap (λ (xs : List Step). spent_by lines xs) (sym more)

told-same : (xs ys : List FaultEnd) → length ys ≡ length xs
    → ((place : ℕ) (y : FaultEnd) → slice_get ys place ≡ Some y → (x : FaultEnd) × (slice_get xs place ≡ Some x) × (y.fault ≡ x.fault))
    → faults_told ys ≡ faults_told xs
told-same [] [] long each = refl
told-same [] (y ∷ ys) long each = absurd (omega (arith, long))
told-same (x ∷ xs) [] long each = absurd (omega (arith, long))
told-same (x ∷ xs) (y ∷ ys) long each =
    let first = each zero y refl in
    let same : y.fault ≡ x.fault = first.2 ∙ ap (λ (s : FaultEnd). s.fault) (sym (same_Some x first.0 first.1)) in
    ap (λ (f : Fault). f ∷ faults_told ys) same
    ∙ ap (λ (fs : List Fault). x.fault ∷ fs) (told-same xs ys (omega (arith, long)) (λ place z e. each (suc place) z e))

known-more : (lines : List FaultLine) (steps : List Step) (n place : ℕ) (o : Option ℕ) (b : Bool) → n < length steps
    → is_spent lines place (take (n + 1) steps) ≡ b → IsKnown lines steps n place o → IsKnown lines steps (n + 1) place (first_by o b (n + 1))
known-more lines steps n place (Some number) b lt e known = known
known-more lines steps n place None true lt e known = record {
  within = omega (arith, lt);
  before = λ le.
      let P : ℕ → Type 0 = λ k. is_spent lines place (take k steps) ≡ false in
      let one : n ≡ n + 1 - 1 = omega arith in
      subst P one known;
  after = e;
}
known-more lines steps n place None false lt e known = e

-- a step by which a line may be spent, and its number is noted
pub so_far_noted : (lines left after : List FaultLine) (steps : List Step) (n number : ℕ) (step : Step) (found new : List FaultEnd) → n < length steps
    → step ≡ get_or steps n step → number ≡ n + 1 → after ≡ spent left step → SoFar lines steps n left found → AreNoted after number found new
    → SoFar lines steps (n + 1) after new
so_far_noted lines left after steps n number step found new lt at one is s a =
    let now : after ≡ spent_by lines (take (n + 1) steps) = is ∙ left-more lines left steps n step lt at s.is_left in
    record {
      is_left = now;
      lengths = ap (λ (ls : List FaultLine). length ls) is ∙ spent_length left step ∙ s.lengths ∙ sym a.lengths;
      told = told-same found new a.lengths (λ place y e.
          let noted = a.each place y e in
          (noted.was, noted.is_was, ap (λ (x : FaultEnd). x.fault) noted.is)) ∙ s.told;
      each = λ place x e.
          let noted = a.each place x e in
          let P : Option ℕ → Type 0 = λ o. IsKnown lines steps (n + 1) place o in
          let Q : ℕ → Type 0 = λ k. IsKnown lines steps (n + 1) place (first_by noted.was.by noted.line.is_marked k) in
          let marks : is_spent lines place (take (n + 1) steps) ≡ noted.line.is_marked =
          ap is_marked_line (ap (λ (ls : List FaultLine). slice_get ls place) (sym now) ∙ noted.is_line) in
          subst P (sym (ap (λ (y : FaultEnd). y.by) noted.is))
          (subst Q (sym one) (known-more lines steps n place noted.was.by noted.line.is_marked lt marks (s.each place noted.was noted.is_was)));
    }

spent-other : (lines : List FaultLine) (step : Step) → is_kind_of_fault step ≡ false → spent lines step ≡ lines
spent-other lines (Fail p) e = absurd (false≢true (sym e))
spent-other lines (Check p) e = absurd (false≢true (sym e))
spent-other lines step e = refl

known-same : (lines : List FaultLine) (steps : List Step) (n place : ℕ) (o : Option ℕ)
    → spent_by lines (take (n + 1) steps) ≡ spent_by lines (take n steps) → IsKnown lines steps n place o → IsKnown lines steps (n + 1) place o
known-same lines steps n place (Some number) same known = known
known-same lines steps n place None same known = ap (λ (ls : List FaultLine). is_marked_line (slice_get ls place)) same ∙ known

-- any other step
pub so_far_other : (lines left after : List FaultLine) (steps : List Step) (n : ℕ) (step : Step) (found : List FaultEnd) → n < length steps
    → step ≡ get_or steps n step → after ≡ spent left step → is_kind_of_fault step ≡ false → SoFar lines steps n left found
    → SoFar lines steps (n + 1) after found
so_far_other lines left after steps n step found lt at is other s =
    let more = left-more lines left steps n step lt at s.is_left in
    let same : spent_by lines (take (n + 1) steps) ≡ spent_by lines (take n steps) = sym more ∙ spent-other left step other ∙ s.is_left in
    record {
      is_left = is ∙ more;
      lengths = ap (λ (ls : List FaultLine). length ls) is ∙ spent_length left step ∙ s.lengths;
      told = s.told;
      each = λ place x e. known-same lines steps n place x.by same (s.each place x e);
    }

-- once all steps were made
pub known_end : (lines : List FaultLine) (steps : List Step) (n place : ℕ) (o : Option ℕ) → length steps ≤ n → IsKnown lines steps n place o
    → IsOutcome lines steps place o
known_end lines steps n place (Some number) le known = known
known_end lines steps n place None le known = λ number s.
    let within = s.within in
    false≢true (sym known ∙ more-keeps lines steps place number n (omega (arith, within, le)) s.after)
