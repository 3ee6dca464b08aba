-- When what a checkpoint has of its node is what the acts of its log made again.
-- Cited by `suits::are_empty_outside`, `suits::is_stored_as`, `suits::suits_shard`, `suits::suits_worker`,
--   `suits::takes_just`.
use Rattle.std.proofs.Common.{◌≡◌, ℕ, Bool, IsTrue, zero, suc, ◌+◌, ◌<◌, ◌≤◌, List, [], ◌∷◌, ◌++◌, length, map, take, get_or, Contains, IsPermutation, Option}
use Rattle.std.proofs.Common.{Some, None, refl, sym, ap, subst, ◌∙◌, arith, inl, inr}
use Rattle.std.specs.Prelude.{◌↔◌}
use Rattle.std.specs.List.{slice_get}
use Rattle.std.proofs.lemmas.List.{append-nil, get_or_past}
use Rattle.std.proofs.lemmas.Bool.{cases_lt}
use Rattle.std.proofs.lemmas.List.Sorted.{IsPermutation-sym, IsPermutation-trans, length_permutation}
use Rattle.std.proofs.lemmas.Option.{none-some, slice_get_cases, slice_get_past}
use Rattle.std.specs.Cmp.Lexicographic.{pointwise, pointwise_decides}
use Rattle.kt_tuple.specs.Equality.{value_eq, value_eq_decides}
use Rattle.kt_tuple.specs.declared.value.Value.{Value}
use Rattle.kt_tuple.specs.declared.tuple.Tuple.{Tuple}
use Rattle.kt_tuple.specs.declared.op.Answer.{Answer}
use Rattle.kt_script.specs.declared.command.Command.{Command}
use Rattle.kt_history.proofs.Shared.{IsPermutation-uncons}
use Rattle.kt_shard.specs.declared.session.Session.{Session}
use Rattle.kt_shard.specs.Session.{empty_session}
use Rattle.kt_shard.specs.Shard.{Shard}
use Rattle.kt_shard.specs.Table.{at}
use Rattle.kt_worker.specs.WorkerModel.{WorkerModel}
use Rattle.kt_worker.specs.After.{last_number, position_when}
use Rattle.kt_ckpt.specs.Fields.{ShardFields, WorkerFields}
use Rattle.kt_logs.specs.ShardLog.{MadeShard}
use Rattle.kt_logs.specs.WorkerLog.{MadeWorker}
use Rattle.kt_state.specs.State.{entries, shard_fields, worker_fields}
use Rattle.kt_scenario.specs.Scene.{script_at}
use Rattle.kt_model.specs.Like.{IsShardLike, IsWorkerLike}
use Rattle.kt_resume.specs.Remade.{IsRemade, RemadeShard, Slot, empty_slot}
use Rattle.kt_resume.specs.Suits.{SuitsShard, SuitsWorker}
use Rattle.kt_resume.specs.auxiliary.Suits.{HasSessions}
use Rattle.kt_resume.proofs.EqualTuples.{taken_there}
use Rattle.kt_resume.proofs.Remakes.{slot_at}

-- ---- a worker

-- acts leave one way alone for a worker to stand
pub one_model : (script : List Command) (made : MadeWorker) (x y : WorkerModel) → IsWorkerLike script made x → IsWorkerLike script made y → x ≡ y
one_model script made x y a b =
    let asked : x.asked ≡ y.asked = a.asked ∙ sym b.asked in
    let number : x.number ≡ y.number = a.after.number ∙ ap (λ o. last_number o (length made.answers)) asked ∙ sym b.after.number in
    let position : x.position ≡ y.position = a.after.position ∙ ap (λ o. position_when o script made.answers) asked ∙ sym b.after.position in
    λ i. record { number = number i; asked = asked i; position = position i }

pub worker_suits : (script : List Command) (made : MadeWorker) (x : WorkerModel) (stored : WorkerFields) → IsWorkerLike script made x
    → (stored ≡ worker_fields x) ↔ SuitsWorker script made stored
worker_suits script made x stored like = (λ e. (x, e, like), λ (y, e, other). e ∙ ap worker_fields (one_model script made y x other like))

-- a worker stands so where each field is the same
pub fields_same : (s : WorkerFields) (x : WorkerModel) (xs ys : List Value) (same : Bool) → s.pc ≡ x.position.pc → s.number ≡ x.number
    → s.was_none ≡ x.position.memory.was_none → s.asked ≡ x.asked → xs ≡ s.variables → ys ≡ x.position.memory.values → same ≡ pointwise value_eq xs ys
    → IsTrue same ↔ (s ≡ worker_fields x)
fields_same s x xs ys same pc number was_none asked mine its is = (
  λ h.
      let values : s.variables ≡ x.position.memory.values = sym mine ∙ (pointwise_decides value_eq_decides xs ys).0 (sym is ∙ h) ∙ its in
      λ i. record { pc = pc i; number = number i; was_none = was_none i; asked = asked i; variables = values i },
  λ e. is ∙ (pointwise_decides value_eq_decides xs ys).1 (mine ∙ ap (λ (f : WorkerFields). f.variables) e ∙ sym its),
)

-- ---- the bag

-- what both begin with can be taken off
rest-permutes : (front xs ys : List Tuple) → IsPermutation (front ++ xs) (front ++ ys) → IsPermutation xs ys
rest-permutes [] xs ys h = h
rest-permutes (u ∷ front) xs ys h = rest-permutes front xs ys (IsPermutation-uncons u (front ++ xs) (front ++ ys) h)

-- a tuple that is not left was not in the bag so often
pub bag-apart : (bag tuples front left later : List Tuple) (u : Tuple) → IsPermutation bag (front ++ left) → tuples ≡ front ++ (u ∷ later) → ¬ Contains left u
    → ¬ IsPermutation bag tuples
bag-apart bag tuples front left later u so_far is gone whole =
    let both : IsPermutation (front ++ left) (front ++ (u ∷ later)) =
    IsPermutation-trans (front ++ left) bag (front ++ (u ∷ later)) (IsPermutation-sym bag (front ++ left) so_far)
    (subst (λ (l : List Tuple). IsPermutation bag l) is whole) in
    gone (taken_there u left later (rest-permutes front left (u ∷ later) both))

nothing-left : (left : List Tuple) → IsPermutation left [] → left ≡ []
nothing-left [] h = refl
nothing-left (u ∷ left) h = let long = length_permutation (u ∷ left) [] h in absurd (omega (arith, long))

-- where all were taken out, nothing is left just where there was nothing else
pub bag-end : (bag tuples left : List Tuple) → IsPermutation bag (tuples ++ left) → (left ≡ []) ↔ IsPermutation bag tuples
bag-end bag tuples left so_far = (
  λ e. subst (λ (l : List Tuple). IsPermutation bag l) (ap (λ l. tuples ++ l) e ∙ append-nil tuples) so_far,
  λ whole.
      let both : IsPermutation (tuples ++ left) tuples =
      IsPermutation-trans (tuples ++ left) bag tuples (IsPermutation-sym bag (tuples ++ left) so_far) whole in
      nothing-left left (rest-permutes tuples left [] (subst (λ (l : List Tuple). IsPermutation (tuples ++ left) l) (sym (append-nil tuples)) both)),
)

-- ---- a shard

at-sessions : (slots : List Slot) (w : ℕ) → at empty_session (map (λ (s : Slot). s.session) slots) w ≡ (at empty_slot slots w).session
at-sessions [] w = refl
at-sessions (s ∷ slots) zero = refl
at-sessions (s ∷ slots) (suc w) = at-sessions slots w

-- a number that is not among the scripts' has none
no_script : (scripts : List (List Command)) (n : ℕ) → ¬ ((1 ≤ n) × (n ≤ length scripts)) → script_at scripts n ≡ None
no_script scripts zero out = refl
no_script scripts (suc n) out = elim (slice_get_cases scripts n).1 [
  | inl there ↦ let lt = there.1 in absurd (out (omega arith, omega (arith, lt)))
  | inr past ↦ past.1
]

outside : (scripts : List (List Command)) (n : ℕ) → script_at scripts n ≡ None → ¬ ((1 ≤ n) × (n ≤ length scripts))
outside scripts zero none within = let one = within.0 in absurd (omega (arith, one))
outside scripts (suc n) none within = elim (slice_get_cases scripts n).1 [
  | inl there ↦ none-some there.0 (sym none ∙ there.2)
  | inr past ↦ let long = past.0 in let short = within.1 in absurd (omega (arith, long, short))
]

-- the sessions that may not be used are empty
abbrev pub AreEmptyOutside : ℕ → List Slot → ℕ → Type 0
AreEmptyOutside workers slots n = (k : ℕ) → k < n → ¬ ((1 ≤ k) × (k ≤ workers)) → (at empty_slot slots k).session ≡ empty_session

pub empty-more : (workers : ℕ) (slots : List Slot) (n : ℕ) (slot : Slot) → AreEmptyOutside workers slots n → n < length slots → slot ≡ get_or slots n slot
    → (¬ ((1 ≤ n) × (n ≤ workers)) → slot.session ≡ empty_session) → AreEmptyOutside workers slots (n + 1)
empty-more workers slots n slot before lt is here k below out = elim (cases_lt k n) [
  | inl less ↦ before k less out
  | inr above ↦
      let same : k ≡ n = omega (arith, below, above) in
      let found : slot ≡ at empty_slot slots n = slot_at slots n slot lt is in
      ap (λ m. (at empty_slot slots m).session) same ∙ ap (λ (s : Slot). s.session) (sym found) ∙ here (subst (λ m. ¬ ((1 ≤ m) × (m ≤ workers))) same out)
]

pub empty-all : (workers : ℕ) (slots : List Slot) (n : ℕ) → AreEmptyOutside workers slots n → length slots ≤ n → (k : ℕ) → ¬ ((1 ≤ k) × (k ≤ workers))
    → (at empty_slot slots k).session ≡ empty_session
empty-all workers slots n before past k out = elim (cases_lt k n) [
  | inl less ↦ before k less out
  | inr above ↦ ap (λ (s : Slot). s.session) (get_or_past slots k empty_slot (omega (arith, past, above)))
]

-- the checkpoint has the tuples and the sessions that were made again, and those of no worker of the scene are empty
pub record IsSuited (workers : ℕ) (r : RemadeShard) (stored : ShardFields) : Type 0 where
  pub bag : IsPermutation r.bag stored.bag
  pub sessions : HasSessions workers r.slots stored

pub suited-suits : (workers : ℕ) (scripts : List (List Command)) (made : MadeShard) (r : RemadeShard) (stored : ShardFields) → length scripts ≡ workers
    → IsRemade made r → IsSuited workers r stored → SuitsShard scripts made stored
suited-suits workers scripts made r stored many like is =
    let sessions = map (λ (s : Slot). s.session) r.slots in
    let y : Shard = record { bag = stored.bag; sessions = sessions } in
    let same : (λ (w : ℕ). (at empty_slot r.slots w).session) ≡ (λ (w : ℕ). at empty_session sessions w) = λ i w. sym (at-sessions r.slots w) i in
    let waiting = is.sessions.waiting ∙ ap (λ (of : ℕ → Session). entries (λ w. (of w).waiting)) same in
    let cached = is.sessions.cached ∙ ap (λ (of : ℕ → Session). entries (λ w. (of w).cached)) same in (
      y,
      λ i. record { bag = stored.bag; waiting = waiting i; cached = cached i },
      record {
        bag = IsPermutation-trans made.bag r.bag stored.bag like.bag is.bag;
        sessions = λ w. at-sessions r.slots w ∙ like.sessions w;
        others = λ w none. at-sessions r.slots w ∙ is.sessions.others w
            (λ within. outside scripts w none (within.0, subst (λ n. w ≤ n) (sym many) within.1));
      },
    )

pub suits-suited : (workers : ℕ) (scripts : List (List Command)) (made : MadeShard) (r : RemadeShard) (stored : ShardFields) → length scripts ≡ workers
    → IsRemade made r → SuitsShard scripts made stored → IsSuited workers r stored
suits-suited workers scripts made r stored many like (y, saved, other) =
    let same : (λ (w : ℕ). at empty_session y.sessions w) ≡ (λ (w : ℕ). (at empty_slot r.slots w).session) = λ i w. (other.sessions w ∙ sym (like.sessions w))
    i in
    record {
      bag = subst (λ (l : List Tuple). IsPermutation r.bag l) (sym (ap (λ (s : ShardFields). s.bag) saved))
          (IsPermutation-trans r.bag made.bag y.bag (IsPermutation-sym made.bag r.bag like.bag) other.bag);
      sessions = record {
        waiting = ap (λ (s : ShardFields). s.waiting) saved ∙ ap (λ (of : ℕ → Session). entries (λ w. (of w).waiting)) same;
        cached = ap (λ (s : ShardFields). s.cached) saved ∙ ap (λ (of : ℕ → Session). entries (λ w. (of w).cached)) same;
        others = λ n out.
            sym (ap (λ (of : ℕ → Session). of n) same)
            ∙ other.others n (no_script scripts n (λ within. out (within.0, subst (λ k. n ≤ k) many within.1)));
      };
    }
