-- What a node works with, saved in a checkpoint, fits the node again: it is like what the acts of its log make of it.
-- Cited by DownUndamaged, Fit, Gives, NeverUnfit, Resuming, Undamaged.
use Rattle.std.proofs.Common.{◌≡◌, ℕ, zero, suc, ◌+◌, ◌<◌, ◌≤◌, ◌&&◌, Bool, true, false, List, [], ◌∷◌, length, Option, None, Some, refl, sym, ap, ◌∙◌}
use Rattle.std.proofs.Common.{◌≢◌, Result, Err, subst, take, arith, inl, inr}
use Rattle.std.specs.Prelude.{IfSome, cond, is_none, nat_le, unwrap_or}
use Rattle.std.specs.List.{flat_map}
use Rattle.std.proofs.lemmas.Bool.{cases_lt, le-leb}
use Rattle.std.proofs.lemmas.List.{length-take-le}
use Rattle.std.proofs.lemmas.List.Folds.{list_all-append}
use Rattle.std.proofs.lemmas.List.Sorted.{length_permutation}
use Rattle.kt_tuple.specs.declared.node.NodeId.{NodeId}
use Rattle.kt_tuple.specs.declared.node.NodeId.TheVariants as ids
use Rattle.kt_tuple.specs.declared.tuple.Tuple.{Tuple}
use Rattle.kt_tuple.specs.declared.op.Op.{Op}
use Rattle.kt_tuple.specs.declared.op.Op.TheVariants.{Out, In, Rd, Inp, Rdp}
use Rattle.kt_tuple.specs.declared.op.Answer.{Answer}
use Rattle.kt_tuple.specs.declared.op.Answer.TheVariants as answers
use Rattle.kt_tuple.specs.Op.{tuple_eq}
use Rattle.kt_history.specs.declared.note.Act.{Act}
use Rattle.kt_history.specs.declared.note.What.{What}
use Rattle.kt_history.specs.declared.note.What.TheVariants as whats
use Rattle.kt_script.specs.declared.command.Command.{Command}
use Rattle.kt_shard.specs.Shard.{Shard, session_of}
use Rattle.kt_shard.specs.Session.{empty_session}
use Rattle.kt_logs.specs.Bag.{without, served_bag}
use Rattle.kt_logs.specs.ShardLog.{MadeShard, bag_after, shard_after, shard_of_acts, new_shard}
use Rattle.kt_state.specs.Labels.{numbers}
use Rattle.kt_state.specs.State.{entry, is_of_scene, are_of_scene, shard_fields, shard_from, shard_fits, worker_fields, worker_fits, model_from}
use Rattle.kt_state.specs.State.{body_fields, body_from, body_at, if_fits}
use Rattle.kt_state.specs.Node.{Body, IsWorker, IsShard}
use Rattle.kt_state.specs.declared.refusal.Refusal.{Refusal}
use Rattle.kt_state.specs.declared.refusal.Refusal.TheVariants as refusals
use Rattle.kt_shard.specs.declared.session.Session.{Session}
use Rattle.kt_tuple.specs.declared.node.TheConstants.{MAX_WORKERS}
use Rattle.kt_ckpt.specs.declared.ckpt.Ckpt.{Ckpt}
use Rattle.kt_ckpt.specs.declared.state.State.{State as Held}
use Rattle.kt_ckpt.specs.declared.state.State.TheVariants as states
use Rattle.kt_worker.proofs.Shared.{fits-after}
use Rattle.kt_logs.specs.WorkerLog.{worker_of_acts, new_worker}
use Rattle.kt_scenario.specs.Scene.{SceneModel, script_at}
use Rattle.kt_model.specs.Short.{AreShort}
use Rattle.kt_model.specs.State.{role_of}
use Rattle.kt_model.specs.Like.{IsBodyLike, IsShardLike, HoldsFront}
use Rattle.kt_model.proofs.Loads.{short-script}
use Rattle.kt_model.proofs.Saved.{no_script-past}
use Rattle.kt_model.proofs.Scene.{role-id}

-- ---- a shard has no more tuples than acts

length-without : (u : Tuple) (bag : List Tuple) → length (without u bag) ≤ length bag
length-without u [] = omega arith
length-without u (v ∷ bag) = by (tuple_eq v u) (length-without u bag)
  where
    by : (b : Bool) → length (without u bag) ≤ length bag → length (cond b bag (v ∷ without u bag)) ≤ length (v ∷ bag)
    by true le = omega arith
    by false le = omega (arith, le)

length-served : (bag : List Tuple) (op : Op) (answer : Answer) → length (served_bag bag op answer) ≤ length bag + 1
length-served bag (Out u) answer = omega arith
length-served bag (In t) answers.Done = omega arith
length-served bag (In t) (answers.Got u) = let le = length-without u bag in omega (arith, le)
length-served bag (In t) answers.None = omega arith
length-served bag (Rd t) answer = omega arith
length-served bag (Inp t) answers.Done = omega arith
length-served bag (Inp t) (answers.Got u) = let le = length-without u bag in omega (arith, le)
length-served bag (Inp t) answers.None = omega arith
length-served bag (Rdp t) answer = omega arith

length-bag_after : (bag : List Tuple) (a : Act) (what : What) → length (bag_after bag a what) ≤ length bag + 1
length-bag_after bag a (whats.Served answer) = length-served bag a.op answer
length-bag_after bag a whats.Issue = omega arith
length-bag_after bag a whats.Repeat = omega arith
length-bag_after bag a whats.Heard = omega arith
length-bag_after bag a (whats.Again answer) = omega arith
length-bag_after bag a (whats.Accepted answer) = omega arith
length-bag_after bag a (whats.Ignored answer) = omega arith

length-made : (x : MadeShard) (acts : List Act) → length (shard_of_acts x acts).bag ≤ length x.bag + length acts
length-made x [] = omega arith
length-made x (a ∷ later) =
    let one = length-bag_after x.bag a a.what in
    let rest = length-made (shard_after x a) later in
    omega (arith, one, rest)

-- ---- who waits, or was answered, is a worker of the scene

entry-of_scene : {A : Type 0} (workers k : ℕ) (o : Option A) → 1 ≤ k → (workers < k → o ≡ None) → are_of_scene workers (entry k o) ≡ true
entry-of_scene workers k None low none = refl
entry-of_scene workers k (Some x) low none = elim (cases_lt workers k) [
  | inl past ↦ absurd (let e = none past in cc)
  | inr within ↦ both (nat_le 1 k) (nat_le k workers) (le-leb 1 k low) (le-leb k workers within)
]
  where
    both : (a b : Bool) → a ≡ true → b ≡ true → ((a && b) && true) ≡ true
    both true true e f = refl
    both true false e f = absurd cc
    both false b e f = absurd cc

entries-of_scene : {A : Type 0} (workers from n : ℕ) (of : ℕ → Option A) → 1 ≤ from → ((k : ℕ) → workers < k → of k ≡ None)
    → are_of_scene workers (flat_map (λ k. entry k (of k)) (numbers from n)) ≡ true
unfolding numbers
entries-of_scene workers from zero of low none = refl
entries-of_scene workers from (suc n) of low none =
    list_all-append (λ x. is_of_scene workers x.0) (entry from (of from)) (flat_map (λ k. entry k (of k)) (numbers (suc from) n))
    ∙ both _ _ (entry-of_scene workers from (of from) low (none from)) (entries-of_scene workers (suc from) n of (omega (arith, low)) none)
  where
    both : (a b : Bool) → a ≡ true → b ≡ true → (a && b) ≡ true
    both true true e f = refl
    both true false e f = absurd cc
    both false b e f = absurd cc

shard-fits : (scripts : List (List Command)) (made : MadeShard) (y : Shard) (long : ℕ) → IsShardLike scripts made y → length made.bag ≤ long
    → (are_of_scene (length scripts) (shard_fields y).waiting && are_of_scene (length scripts) (shard_fields y).cached && nat_le (length y.bag) long) ≡ true
shard-fits scripts made y long like few =
    both _ _ _
    (entries-of_scene (length scripts) 1 MAX_WORKERS (λ w. (session_of y w).waiting) (omega arith) (λ w past. ap (λ (d : Session). d.waiting) (nobody w past)))
    (entries-of_scene (length scripts) 1 MAX_WORKERS (λ w. (session_of y w).cached) (omega arith) (λ w past. ap (λ (d : Session). d.cached) (nobody w past)))
    (le-leb (length y.bag) long (let same = length_permutation made.bag y.bag like.bag in omega (arith, same, few)))
  where
    nobody : (w : ℕ) → length scripts < w → session_of y w ≡ empty_session
    nobody zero past = absurd (omega (arith, past))
    nobody (suc k) past = like.others (suc k) (no_script-past scripts k (omega (arith, past)))

    both : (a b c : Bool) → a ≡ true → b ≡ true → c ≡ true → (a && b && c) ≡ true
    both true true true e f g = refl
    both true true false e f g = absurd cc
    both true false c e f g = absurd cc
    both false b c e f g = absurd cc

-- ---- all

-- what is made of it is not refused for damage
abbrev pub Fine : {X : Type 0} → Result X Refusal → Type 0
Fine r = r ≢ Err refusals.Damaged

fits-fine : (fits : Bool) (body : Body) → fits ≡ true → Fine (if_fits fits body)
fits-fine true body e = λ f. cc
fits-fine false body e = absurd cc

-- a worker asked no more than it passed commands
abbrev pub IsNumbered : Held → Type 0
IsNumbered (states.Worker w) = w.number ≤ w.pc
IsNumbered (states.Shard y) = Unit {0}

body-fine : (scene : SceneModel) → AreShort scene → (p : NodeId) (acts : List Act) (long : ℕ) (body : Body) → IsBodyLike scene.scripts p acts body
    → IsNumbered (body_fields body) → length acts ≤ long → Fine (body_from (role_of scene p) long p (body_fields body))
body-fine scene short (ids.Worker w) acts long (IsWorker x) like numbered few =
    let script : List Command = unwrap_or (script_at scene.scripts w) [] in
    fits-fine (worker_fits (role_of scene (ids.Worker w)) (worker_fields x)) (IsWorker (model_from (worker_fields x)))
    (ap is_none (fits-after script (worker_of_acts new_worker acts).answers x (short-script scene short w).is_script like.after numbered))
body-fine scene short (ids.Worker w) acts long (IsShard y) like numbered few = absurd like
body-fine scene short (ids.Shard s) acts long (IsWorker x) like numbered few = absurd like
body-fine scene short (ids.Shard s) acts long (IsShard y) like numbered few =
    let made = length-made new_shard acts in
    fits-fine (shard_fits (role_of scene (ids.Shard s)) long (shard_fields y)) (IsShard (shard_from (shard_fields y)))
    (shard-fits scene.scripts (shard_of_acts new_shard acts) y long like (omega (arith, made, few)))

-- what a node goes on with from its permanent checkpoint
pub body_at-fine : (scene : SceneModel) → AreShort scene → (p : NodeId) (acts : List Act) (stored : Option Ckpt) → HoldsFront scene p acts stored
    → IfSome stored (λ c. IsNumbered c.state) → Fine (body_at (role_of scene p) stored)
body_at-fine scene short p acts None front numbered = λ f. cc
body_at-fine scene short p acts (Some c) front numbered =
    let Id : NodeId → Type 0 = λ q. Fine (body_from (role_of scene p) c.line_len q c.state) in
    let Saved : Held → Type 0 = λ state. Fine (body_from (role_of scene p) c.line_len p state) in
    let held = length-take-le c.line_len acts front.short in
    subst Id (sym (role-id scene p)) (subst Saved (sym front.saved)
    (body-fine scene short p (take c.line_len acts) c.line_len front.body front.like (subst IsNumbered front.saved numbered) (omega (arith, held))))
