-- Runs of the space, whose tuples are known up to their order.
-- Cited by `laws::a_run_has_one_space`, `space::serve`, `space::space_of`, `space::withdraw`; other crates.
use Rattle.std.proofs.Common.{◌≡◌, ℕ, ◌+◌, ◌<◌, ◌≤◌, Bool, true, false, cond, List, [], ◌∷◌, ◌++◌, take, drop, length, get_or}
use Rattle.std.proofs.Common.{sum_by, Contains, IsPermutation, Option, Some, None, Result, Ok, Err, sym, refl, ap, ◌∙◌, subst, arith}
use Rattle.std.specs.Prelude.{OnOk}
use Rattle.std.specs.List.{slice_get}
use Rattle.std.proofs.lemmas.List.{take_more, drop_more}
use Rattle.std.proofs.lemmas.List.Sums.{sum_by-cons}
use Rattle.std.proofs.lemmas.List.Sorted.{IsPermutation-refl, IsPermutation-sym, IsPermutation-trans, IsPermutation-cons}
use Rattle.std.proofs.lemmas.List.Sorted.{IsPermutation-remove, Contains-permutation, sum_by-IsPermutation}
use Rattle.kt_tuple.specs.declared.tuple.Tuple.{Tuple}
use Rattle.kt_tuple.specs.declared.template.Template.{Template}
use Rattle.kt_tuple.specs.declared.op.Op.{Op}
use Rattle.kt_tuple.specs.declared.op.Op.TheVariants.{Out, In, Rd, Inp, Rdp}
use Rattle.kt_tuple.specs.declared.op.Answer.{Answer}
use Rattle.kt_tuple.specs.declared.op.Answer.TheVariants as answers
use Rattle.kt_tuple.specs.declared.service.Service.{Service}
use Rattle.kt_tuple.specs.Op.{tuple_eq, tuple_eq_decides}
use Rattle.kt_tuple.specs.Matching.{Matches, MatchesOnly}
use Rattle.kt_tuple.specs.Space.{SpaceStep, RunsFrom}
use Rattle.kt_space.specs.Picking.{matching, without_match}
use Rattle.kt_space.proofs.Shared.{takes_out, match_permutes, nothing_matches}
use Rattle.kt_history.specs.auxiliary.Taking.{CanStep, IsThere, TakesOut}
use Rattle.kt_history.proofs.Lists.{Contains-here, Contains-there}

-- how often a tuple is among tuples
abbrev one : Tuple → Tuple → ℕ
one v u = cond (tuple_eq u v) 1 0

abbrev times : Tuple → List Tuple → ℕ
times v tuples = sum_by (one v) tuples

times-cons : (v u : Tuple) (xs : List Tuple) → times v (u ∷ xs) ≡ one v u + times v xs
times-cons v u xs = sum_by-cons (one v) u xs

one-same : (u : Tuple) → one u u ≡ 1
one-same u = ap (λ b. let n : ℕ = cond b 1 0 in n) ((tuple_eq_decides u u).1 refl)

-- what is among tuples can be put first
record Found (u : Tuple) (xs : List Tuple) : Type 0 where
  rest : List Tuple
  is : IsPermutation xs (u ∷ rest)

found_at : (u : Tuple) (xs : List Tuple) (k : ℕ) → k < length xs → get_or xs k u ≡ u → Found u xs
found_at u xs k lt e = record { rest = _; is = IsPermutation-remove xs k u lt (sym e) }

Found-from_times : (u : Tuple) (xs : List Tuple) → 1 ≤ times u xs → Contains xs u
Found-from_times u [] h = absurd (omega (arith, h))
Found-from_times u (v ∷ xs) h = go (tuple_eq v u) refl (Found-from_times u xs) where
  go : (b : Bool) → tuple_eq v u ≡ b → (1 ≤ times u xs → Contains xs u) → Contains (v ∷ xs) u
  go true e again = let P : Tuple → Type 0 = λ w. Contains (w ∷ xs) u in subst P (sym ((tuple_eq_decides v u).0 e)) (Contains-here u xs)
  go false e again =
      let none : one u v ≡ 0 = ap (λ b. let n : ℕ = cond b 1 0 in n) e in
      Contains-there v xs u (again (omega (arith, h, times-cons u v xs, none)))

-- lists that hold each tuple equally often differ in order alone
pub same_times : (xs ys : List Tuple) → ((v : Tuple) → times v xs ≡ times v ys) → IsPermutation xs ys
same_times [] [] h = IsPermutation-refl []
same_times [] (y ∷ ys) h = absurd (omega (arith, h y, times-cons y y ys, one-same y))
same_times (x ∷ xs) ys h =
    let there : Contains ys x = Found-from_times x ys (omega (arith, h x, times-cons x x xs, one-same x)) in
    let out = found_at x ys there.0 there.1 there.2 in
    let rest : IsPermutation xs out.rest =
    same_times xs out.rest (λ v. omega (arith, h v, times-cons v x xs, sum_by-IsPermutation (one v) ys (x ∷ out.rest) out.is, times-cons v x out.rest)) in
    IsPermutation-trans (x ∷ xs) (x ∷ out.rest) ys (IsPermutation-cons x xs out.rest rest) (IsPermutation-sym ys (x ∷ out.rest) out.is)

-- what was added to both is taken from both
pub IsPermutation-uncons : (u : Tuple) (xs ys : List Tuple) → IsPermutation (u ∷ xs) (u ∷ ys) → IsPermutation xs ys
IsPermutation-uncons u xs ys h = same_times xs ys (λ v. omega (arith, sum_by-IsPermutation (one v) (u ∷ xs) (u ∷ ys) h, times-cons v u xs, times-cons v u ys))

pub like_none : (t : Template) (x y : List Tuple) → IsPermutation x y → ((u : Tuple) → Contains y u → ¬ Matches t u)
    → (u : Tuple) → Contains x u → ¬ Matches t u
like_none t x y like h u c = h u (Contains-permutation x y u like c)

-- a step from tuples is a step from the same in another order
pub SpaceStep-like : (x y : List Tuple) (op : Op) (answer : Answer) (new : List Tuple) → IsPermutation x y → SpaceStep y op answer new
    → SpaceStep x op answer new
SpaceStep-like x y (Out u) answers.Done new like s = IsPermutation-trans (u ∷ x) (u ∷ y) new (IsPermutation-cons u x y like) s
SpaceStep-like x y (In t) (answers.Got u) new like s = (s.0, IsPermutation-trans x y (u ∷ new) like s.1)
SpaceStep-like x y (Inp t) (answers.Got u) new like s = (s.0, IsPermutation-trans x y (u ∷ new) like s.1)
SpaceStep-like x y (Rd t) (answers.Got u) new like s = (s.0, Contains-permutation y x u (IsPermutation-sym x y like) s.1, IsPermutation-trans x y new like s.2)
SpaceStep-like x y (Rdp t) (answers.Got u) new like s = (s.0, Contains-permutation y x u (IsPermutation-sym x y like) s.1, IsPermutation-trans x y new like s.2)
SpaceStep-like x y (Inp t) answers.None new like s = (like_none t x y like s.0, IsPermutation-trans x y new like s.1)
SpaceStep-like x y (Rdp t) answers.None new like s = (like_none t x y like s.0, IsPermutation-trans x y new like s.1)
SpaceStep-like x y _ _ new like s = absurd s

both_from : (x a b : List Tuple) → IsPermutation x a → IsPermutation x b → IsPermutation a b
both_from x a b p q = IsPermutation-trans a x b (IsPermutation-sym x a p) q

-- what a step leaves is known up to its order
pub SpaceStep-one : (x : List Tuple) (op : Op) (answer : Answer) (a b : List Tuple) → SpaceStep x op answer a → SpaceStep x op answer b → IsPermutation a b
SpaceStep-one x (Out u) answers.Done a b s t = both_from (u ∷ x) a b s t
SpaceStep-one x (In t') (answers.Got u) a b s t = IsPermutation-uncons u a b (both_from x (u ∷ a) (u ∷ b) s.1 t.1)
SpaceStep-one x (Inp t') (answers.Got u) a b s t = IsPermutation-uncons u a b (both_from x (u ∷ a) (u ∷ b) s.1 t.1)
SpaceStep-one x (Rd t') (answers.Got u) a b s t = both_from x a b s.2 t.2
SpaceStep-one x (Rdp t') (answers.Got u) a b s t = both_from x a b s.2 t.2
SpaceStep-one x (Inp t') answers.None a b s t = both_from x a b s.1 t.1
SpaceStep-one x (Rdp t') answers.None a b s t = both_from x a b s.1 t.1
SpaceStep-one x _ _ a b s t = absurd s

pub RunsFrom-like : (x y : List Tuple) (services : List Service) (new : List Tuple) → IsPermutation x y → RunsFrom y services new → RunsFrom x services new
RunsFrom-like x y [] new like r = IsPermutation-trans x y new like r
RunsFrom-like x y (s ∷ later) new like r = (r.0, SpaceStep-like x y s.op s.answer r.0 like r.1, r.2)

-- the tuples of a run are known up to their order
pub RunsFrom-one : (x y : List Tuple) (services : List Service) (a b : List Tuple) → IsPermutation x y → RunsFrom x services a → RunsFrom y services b
    → IsPermutation a b
RunsFrom-one x y [] a b like r q = IsPermutation-trans a x b (IsPermutation-sym x a r) (IsPermutation-trans x y b like q)
RunsFrom-one x y (s ∷ later) a b like r q =
    RunsFrom-one r.0 q.0 later a b (SpaceStep-one x s.op s.answer r.0 q.0 r.1 (SpaceStep-like x y s.op s.answer q.0 like q.1)) r.2 q.2

-- one service more
pub RunsFrom-push : (x : List Tuple) (services : List Service) (mid : List Tuple) (s : Service) (new : List Tuple) → RunsFrom x services mid
    → SpaceStep mid s.op s.answer new → RunsFrom x (services ++ s ∷ []) new
RunsFrom-push x [] mid s new r step = (new, SpaceStep-like x mid s.op s.answer new r step, IsPermutation-refl new)
RunsFrom-push x (first ∷ later) mid s new r step = (r.0, r.1, RunsFrom-push r.0 later mid s new r.2 step)

pub SpaceStep-in : (old : List Tuple) (t : Template) (answer : Answer) (new : List Tuple) → CanStep old (In t) answer → TakesOut old answer new
    → SpaceStep old (In t) answer new
SpaceStep-in old t answers.Done new can p = can.1
SpaceStep-in old t (answers.Got u) new can p = (can.1.0, p)
SpaceStep-in old t answers.None new can p = can.1

pub SpaceStep-inp : (old : List Tuple) (t : Template) (answer : Answer) (new : List Tuple) → CanStep old (Inp t) answer → TakesOut old answer new
    → SpaceStep old (Inp t) answer new
SpaceStep-inp old t answers.Done new can p = can.1
SpaceStep-inp old t (answers.Got u) new can p = (can.1.0, p)
SpaceStep-inp old t answers.None new can p = let P : List Tuple → Type 0 = λ x. IsPermutation old x in (can.1.0, subst P (sym p) (IsPermutation-refl old))

-- the first match of a template that fits one tuple alone is that tuple
pub first_match-only : (t : Template) (u : Tuple) (old : List Tuple) → MatchesOnly t u → Contains old u → IsPermutation old (u ∷ without_match t 0 old)
first_match-only t u old only there = go (slice_get (matching t old) 0) refl where
  go : (first : Option Tuple) → slice_get (matching t old) 0 ≡ first → IsPermutation old (u ∷ without_match t 0 old)
  go (Some v) e =
      let P : Tuple → Type 0 = λ w. IsPermutation old (w ∷ without_match t 0 old) in
      subst P ((only v).0 (takes_out t 0 old v e).fits) (match_permutes t 0 old v e)
  go None e = absurd (nothing_matches t old e u there ((only u).1 refl))

withdrawn_there : (old : List Tuple) (u : Tuple) (new : List Tuple) → IsPermutation old (u ∷ new) → Contains old u
withdrawn_there old u new p = Contains-permutation (u ∷ new) old u (IsPermutation-sym old (u ∷ new) p) (Contains-here u new)

pub IsThere-in : (old : List Tuple) (t : Template) (answer : Answer) → CanStep old (In t) answer → IsThere old answer
IsThere-in old t answers.Done can = tt
IsThere-in old t (answers.Got u) can = withdrawn_there old u can.0 can.1.1
IsThere-in old t answers.None can = tt

pub IsThere-inp : (old : List Tuple) (t : Template) (answer : Answer) → CanStep old (Inp t) answer → IsThere old answer
IsThere-inp old t answers.Done can = tt
IsThere-inp old t (answers.Got u) can = withdrawn_there old u can.0 can.1.1
IsThere-inp old t answers.None can = tt

-- the step of an operation that withdraws, once its tuple is out
pub taken_in : {X E : Type 0} (r : Result X E) (old : List Tuple) (op : Op) (t : Template) (answer : Answer) (new : List Tuple) → op ≡ In t
    → (IsThere old answer → OnOk r (TakesOut old answer new))
    → CanStep old op answer → OnOk r (SpaceStep old op answer new)
taken_in (Err e) old op t answer new is taken can = tt
taken_in (Ok x) old op t answer new is taken can =
    let P : Op → Type 0 = λ o. CanStep old o answer → SpaceStep old o answer new in
    subst P (sym is) (λ can. SpaceStep-in old t answer new can (taken (IsThere-in old t answer can))) can

pub taken_inp : {X E : Type 0} (r : Result X E) (old : List Tuple) (op : Op) (t : Template) (answer : Answer) (new : List Tuple) → op ≡ Inp t
    → (IsThere old answer → OnOk r (TakesOut old answer new))
    → CanStep old op answer → OnOk r (SpaceStep old op answer new)
taken_inp (Err e) old op t answer new is taken can = tt
taken_inp (Ok x) old op t answer new is taken can =
    let P : Op → Type 0 = λ o. CanStep old o answer → SpaceStep old o answer new in
    subst P (sym is) (λ can. SpaceStep-inp old t answer new can (taken (IsThere-inp old t answer can))) can

-- a run so far, one service further
pub RunsFrom-more : (services : List Service) (i : ℕ) (s : Service) (old new : List Tuple) → i < length services → s ≡ get_or services i s
    → RunsFrom [] (take i services) old → SpaceStep old s.op s.answer new → RunsFrom [] (take (i + 1) services) new
RunsFrom-more services i s old new lt e done step =
    let P : List Service → Type 0 = λ xs. RunsFrom [] xs new in
    subst P (sym (take_more services i s lt ∙ ap (λ x. take i services ++ x ∷ []) (sym e))) (RunsFrom-push [] (take i services) old s new done step)

pub RunsFrom-left : (services : List Service) (i : ℕ) (s : Service) (old new : List Tuple) → i < length services → s ≡ get_or services i s
    → (left : (tuples : List Tuple) × RunsFrom old (drop i services) tuples) → SpaceStep old s.op s.answer new → (tuples : List Tuple)
    × RunsFrom new (drop (i + 1) services) tuples
RunsFrom-left services i s old new lt e left step =
    let P : List Service → Type 0 = λ xs. RunsFrom old xs left.0 in
    let rest : RunsFrom old (s ∷ drop (i + 1) services) left.0 = subst P (drop_more services i s lt ∙ ap (λ x. x ∷ drop (i + 1) services) (sym e)) left.1 in
    (left.0, RunsFrom-like new rest.0 (drop (i + 1) services) left.0 (SpaceStep-one old s.op s.answer new rest.0 step rest.1) rest.2)

pub CanStep-from_left : (services : List Service) (i : ℕ) (s : Service) (old : List Tuple) → i < length services → s ≡ get_or services i s
    → (left : (tuples : List Tuple) × RunsFrom old (drop i services) tuples) → CanStep old s.op s.answer
CanStep-from_left services i s old lt e left =
    let P : List Service → Type 0 = λ xs. RunsFrom old xs left.0 in
    let rest : RunsFrom old (s ∷ drop (i + 1) services) left.0 = subst P (drop_more services i s lt ∙ ap (λ x. x ∷ drop (i + 1) services) (sym e)) left.1 in
    (rest.0, rest.1)
