-- What a node works with, saved in a checkpoint and loaded again, is like what it was like.
-- Cited by FitBodies, StoredFronts.
use Rattle.std.proofs.Common.{◌≡◌, ◌≢◌, ℕ, zero, suc, ◌+◌, ◌<◌, ◌≤◌, ◌==◌, Bool, true, false, List, [], ◌∷◌, ◌++◌, length}
use Rattle.std.proofs.Common.{map, Option, Some, None, Ok, inl, inr, refl, sym, ap, ◌∙◌, subst, ◌⊎◌, eq-eqb, ne_eqb, arith}
use Rattle.std.specs.Prelude.{slice_get}
use Rattle.std.specs.List.{find, flat_map}
use Rattle.std.specs.Option.{option_map}
use Rattle.std.proofs.lemmas.Bool.{cases_eq, cases_lt}
use Rattle.kt_tuple.specs.declared.node.TheConstants.{MAX_WORKERS}
use Rattle.kt_tuple.specs.declared.node.NodeId.{NodeId}
use Rattle.kt_tuple.specs.declared.node.NodeId.TheVariants as ids
use Rattle.kt_history.specs.declared.note.Act.{Act}
use Rattle.kt_script.specs.declared.command.Command.{Command}
use Rattle.kt_shard.specs.declared.request.Request.{Request}
use Rattle.kt_shard.specs.declared.request.CachedReply.{CachedReply}
use Rattle.kt_shard.specs.declared.session.Session.{Session}
use Rattle.kt_shard.specs.Shard.{Shard, session_of}
use Rattle.kt_shard.specs.Limits.{sessions as session_count}
use Rattle.kt_shard.specs.Table.{at}
use Rattle.kt_shard.specs.Session.{empty_session}
use Rattle.kt_state.specs.Labels.{numbers}
use Rattle.kt_state.specs.Node.{Body, IsWorker, IsShard}
use Rattle.kt_state.specs.State.{entry, entries, entry_of, session_with, shard_fields, shard_from, shard_fits}
use Rattle.kt_state.specs.State.{worker_fields, worker_fits, model_from, body_fields, body_from, if_fits}
use Rattle.kt_scenario.specs.Scene.{SceneModel, IsScene, script_at}
use Rattle.kt_model.specs.State.{role_of}
use Rattle.kt_logs.specs.ShardLog.{MadeShard, shard_of_acts, new_shard}
use Rattle.kt_model.specs.Like.{IsBodyLike, IsShardLike}

-- ---- tables of numbers

-- a table by rising numbers has at a number what was made of it
at-numbers : {A : Type 0} (d : A) (f : ℕ → A) (from n k : ℕ) → k < n → at d (map f (numbers from n)) k ≡ f (from + k)
unfolding numbers
at-numbers d f from zero k below = absurd (omega (arith, below))
at-numbers d f from (suc n) zero below = let same : from ≡ from + 0 = omega arith in ap f same
at-numbers d f from (suc n) (suc k) below =
    let same : suc from + k ≡ from + suc k = omega arith in
    at-numbers d f (suc from) n k (omega (arith, below)) ∙ ap f same

at-row : {A : Type 0} (d : A) (f : ℕ → A) (n k : ℕ) → k < n → at d (map f (numbers 0 n)) k ≡ f k
at-row d f n k below = let same : 0 + k ≡ k = omega arith in at-numbers d f 0 n k below ∙ ap f same

past-numbers : {A : Type 0} (d : A) (f : ℕ → A) (from n k : ℕ) → n ≤ k → at d (map f (numbers from n)) k ≡ d
unfolding numbers
past-numbers d f from zero k past = refl
past-numbers d f from (suc n) zero past = absurd (omega (arith, past))
past-numbers d f from (suc n) (suc k) past = past-numbers d f (suc from) n k (omega (arith, past))

-- ---- entries

-- the worker's entry stands behind one of another
found-past : {A : Type 0} (w k : ℕ) (o : Option A) (later : List (ℕ × A)) → k ≢ w → find (λ x. x.0 == w) (entry k o ++ later) ≡ find (λ x. x.0 == w) later
found-past w k None later d = refl
found-past w k (Some x) later d = rw (ne_eqb k w d) refl

found-here : {A : Type 0} (w : ℕ) (o : Option A) (later : List (ℕ × A)) → find (λ x. x.0 == w) later ≡ None → entry_of w (entry w o ++ later) ≡ o
found-here w None later none = ap (option_map (λ x. x.1)) none
found-here w (Some x) later none = rw (eq-eqb w w refl) refl

-- a number that is not among these has no entry
no-entry : {A : Type 0} (of : ℕ → Option A) (w from n : ℕ) → (w < from) ⊎ (from + n ≤ w)
    → find (λ x. x.0 == w) (flat_map (λ k. entry k (of k)) (numbers from n)) ≡ None
unfolding numbers
no-entry of w from zero out = refl
no-entry of w from (suc n) out = elim out [
  | inl low ↦
      let d : from ≢ w = λ e. absurd (omega (arith, e, low)) in
      found-past w from (of from) (flat_map (λ k. entry k (of k)) (numbers (suc from) n)) d ∙ no-entry of w (suc from) n (inl (omega (arith, low)))
  | inr high ↦
      let d : from ≢ w = λ e. absurd (omega (arith, e, high)) in
      found-past w from (of from) (flat_map (λ k. entry k (of k)) (numbers (suc from) n)) d ∙ no-entry of w (suc from) n (inr (omega (arith, high)))
]

one-entry : {A : Type 0} (of : ℕ → Option A) (w from n : ℕ) → from ≤ w → w < from + n → entry_of w (flat_map (λ k. entry k (of k)) (numbers from n)) ≡ of w
unfolding numbers
one-entry of w from zero low high = absurd (omega (arith, low, high))
one-entry of w from (suc n) low high = elim (cases_eq from w) [
  | inl same ↦
      let later = flat_map (λ k. entry k (of k)) (numbers (suc from) n) in
      let none : find (λ x. x.0 == w) later ≡ None = no-entry of w (suc from) n (inl (omega (arith, same))) in
      ap (λ k. entry_of w (entry k (of k) ++ later)) same ∙ found-here w (of w) later none
  | inr d ↦
      ap (option_map (λ x. x.1)) (found-past w from (of from) (flat_map (λ k. entry k (of k)) (numbers (suc from) n)) d)
      ∙ one-entry of w (suc from) n (omega (arith, low, d)) (omega (arith, high))
]

-- the entry of a worker among those of all, and of what is none
pub entry-found : {A : Type 0} (of : ℕ → Option A) (w : ℕ) → 1 ≤ w → w ≤ MAX_WORKERS → entry_of w (entries of) ≡ of w
entry-found of w low high = one-entry of w 1 MAX_WORKERS low (omega (arith, high))

pub entry-none : {A : Type 0} (of : ℕ → Option A) (w : ℕ) → (w < 1) ⊎ (session_count ≤ w) → entry_of w (entries of) ≡ None
entry-none of w out = ap (option_map (λ x. x.1)) (no-entry of w 1 MAX_WORKERS out)

-- ---- sessions

same_session : (waiting : Option Request) (cached : Option CachedReply) (d : Session) → waiting ≡ d.waiting → cached ≡ d.cached
    → (let e : Session = record { waiting = waiting; cached = cached } in e) ≡ d
same_session waiting cached d w k = λ i. record { waiting = w i; cached = k i }

-- the session of a shard that was saved and loaded: the same, and empty where no worker has such a number
loaded_session : (y : Shard) (w : ℕ) → 1 ≤ w → w ≤ MAX_WORKERS → at empty_session (shard_from (shard_fields y)).sessions w ≡ session_of y w
loaded_session y w low high =
    at-row empty_session (session_with (shard_fields y).waiting (shard_fields y).cached) session_count w (omega (arith, high))
    ∙ same_session (entry_of w (shard_fields y).waiting) (entry_of w (shard_fields y).cached) (session_of y w)
    (entry-found (λ worker. (session_of y worker).waiting) w low high) (entry-found (λ worker. (session_of y worker).cached) w low high)

no_session : (y : Shard) (w : ℕ) → (w < 1) ⊎ (session_count ≤ w) → at empty_session (shard_from (shard_fields y)).sessions w ≡ empty_session
no_session y w (inl low) =
    at-row empty_session (session_with (shard_fields y).waiting (shard_fields y).cached) session_count w (omega (arith, low))
    ∙ same_session (entry_of w (shard_fields y).waiting) (entry_of w (shard_fields y).cached) empty_session
    (entry-none (λ worker. (session_of y worker).waiting) w (inl low)) (entry-none (λ worker. (session_of y worker).cached) w (inl low))
no_session y w (inr high) = past-numbers empty_session (session_with (shard_fields y).waiting (shard_fields y).cached) 0 session_count w high

-- a script stands at 1 to the number of scripts alone
pub no_script-past : (scripts : List (List Command)) (k : ℕ) → length scripts ≤ k → slice_get scripts k ≡ None
no_script-past [] k past = refl
no_script-past (x ∷ scripts) zero past = absurd (omega (arith, past))
no_script-past (x ∷ scripts) (suc k) past = no_script-past scripts k (omega (arith, past))

no_script : (scripts : List (List Command)) (w : ℕ) → length scripts ≤ MAX_WORKERS → (w < 1) ⊎ (session_count ≤ w) → script_at scripts w ≡ None
no_script scripts zero few out = refl
no_script scripts (suc k) few (inl low) = absurd (omega (arith, low))
no_script scripts (suc k) few (inr high) = no_script-past scripts k (omega (arith, few, high))

shard_loaded : (scripts : List (List Command)) (made : MadeShard) (y : Shard) → length scripts ≤ MAX_WORKERS → IsShardLike scripts made y
    → IsShardLike scripts made (shard_from (shard_fields y))
shard_loaded scripts made y few like = record {
  bag = like.bag;
  sessions = λ w. elim (cases_lt w 1) [
    | inl low ↦ outside w (inl low)
    | inr from ↦ elim (cases_lt w session_count) [
      | inl below ↦ loaded_session y w from (omega (arith, below)) ∙ like.sessions w
      | inr past ↦ outside w (inr past)
    ]
  ];
  others = λ w none. elim (cases_lt w 1) [
    | inl low ↦ no_session y w (inl low)
    | inr from ↦ elim (cases_lt w session_count) [
      | inl below ↦ loaded_session y w from (omega (arith, below)) ∙ like.others w none
      | inr past ↦ no_session y w (inr past)
    ]
  ];
}
  where
    outside : (w : ℕ) → (w < 1) ⊎ (session_count ≤ w) → at empty_session (shard_from (shard_fields y)).sessions w ≡ made.session w
    outside w out = no_session y w out ∙ sym (like.others w (no_script scripts w few out)) ∙ like.sessions w

-- ---- all

fitting : (fits : Bool) (body b : Body) → if_fits fits body ≡ Ok b → body ≡ b
fitting true body b e = cc
fitting false body b e = absurd cc

-- whatever is made of what was saved is like what the saved one was like
pub loaded_like : (scene : SceneModel) → IsScene scene → (p : NodeId) (acts : List Act) (long : ℕ) (body b : Body) → IsBodyLike scene.scripts p acts body
    → body_from (role_of scene p) long p (body_fields body) ≡ Ok b → IsBodyLike scene.scripts p acts b
loaded_like scene is (ids.Worker w) acts long (IsWorker x) b like e =
    let same : IsWorker x ≡ b = fitting (worker_fits (role_of scene (ids.Worker w)) (worker_fields x)) (IsWorker (model_from (worker_fields x))) b e in
    subst (IsBodyLike scene.scripts (ids.Worker w) acts) same like
loaded_like scene is (ids.Worker w) acts long (IsShard y) b like e = absurd like
loaded_like scene is (ids.Shard s) acts long (IsWorker x) b like e = absurd like
loaded_like scene is (ids.Shard s) acts long (IsShard y) b like e =
    let same : IsShard (shard_from (shard_fields y)) ≡ b =
    fitting (shard_fits (role_of scene (ids.Shard s)) long (shard_fields y)) (IsShard (shard_from (shard_fields y))) b e in
    subst (IsBodyLike scene.scripts (ids.Shard s) acts) same (shard_loaded scene.scripts (shard_of_acts new_shard acts) y is.few_workers like)
