-- A node that is loaded from what is stored is ready, whatever is stored: a checkpoint that does not fit is refused.
-- Cited by FitBodies, GoodAsks, Newer, Opened, Saves; other crates.
use Rattle.std.proofs.Common.{◌≡◌, ℕ, zero, suc, ◌+◌, ◌==◌, ◌≤◌, Bool, true, false, not, ◌&&◌, if◌then◌else◌, List, []}
use Rattle.std.proofs.Common.{◌∷◌, ◌++◌, length, take, Option, None, Some, Result, Ok, Err, refl, ap, subst, arith, length-append}
use Rattle.std.specs.Prelude.{IsTrue, IfSome, is_none, nat_lt, nat_le, unwrap_or}
use Rattle.std.proofs.lemmas.Bool.{and_parts, ltb-false, leb-true}
use Rattle.std.proofs.lemmas.List.{length-map}
use Rattle.kt_tuple.specs.declared.node.NodeId.{NodeId}
use Rattle.kt_tuple.specs.declared.node.NodeId.TheVariants as ids
use Rattle.kt_tuple.specs.Node.{node_eq}
use Rattle.kt_tuple.specs.Equality.{kind_eq}
use Rattle.kt_tuple.specs.Value.{kind_of}
use Rattle.kt_tuple.specs.declared.value.Value.{Value}
use Rattle.kt_tuple.specs.declared.value.Kind.{Kind}
use Rattle.kt_history.specs.declared.note.Note.{Note}
use Rattle.kt_history.specs.declared.note.Note.TheVariants as notes
use Rattle.kt_history.specs.Log.{same_node, log_step, log_from, log}
use Rattle.kt_history.proofs.Shared.{Contains-none}
use Rattle.kt_script.specs.declared.name.Name.{Name}
use Rattle.kt_script.specs.declared.command.Command.{Command}
use Rattle.kt_script.specs.Variables.{variables_of}
use Rattle.kt_script.specs.Meaning.{zero_of}
use Rattle.kt_script.specs.Memory.{zeros_of, are_values_of}
use Rattle.kt_worker.specs.declared.worker.Worker.{Worker}
use Rattle.kt_worker.specs.declared.misfit.Misfit.TheVariants as misfits
use Rattle.kt_worker.specs.Parts.{misfit_of}
use Rattle.kt_ckpt.specs.declared.ckpt.Ckpt.{Ckpt}
use Rattle.kt_ckpt.specs.declared.header.CkptHeader.{CkptHeader}
use Rattle.kt_ckpt.specs.declared.state.State.{State as Held}
use Rattle.kt_ckpt.specs.declared.state.State.TheVariants as states
use Rattle.kt_ckpt.specs.Header.{header_of}
use Rattle.kt_link.specs.declared.label.Label.{Label}
use Rattle.std.specs.Option.{option_map}
use Rattle.kt_state.specs.declared.live.Phase.TheVariants as phases
use Rattle.kt_state.specs.declared.stored.Stored.{Stored}
use Rattle.kt_state.specs.declared.refusal.Refusal.{Refusal}
use Rattle.kt_state.specs.declared.refusal.Refusal.TheVariants as refusals
use Rattle.kt_state.specs.Node.{Role, Body, IsWorker, IsShard, Live, opening_body, fresh_live}
use Rattle.kt_state.specs.Stored.{acts_in, fits}
use Rattle.kt_state.specs.State.{model_from, are_of_scene, shard_fits, worker_fits, if_fits, shard_from, body_from, body_at}
use Rattle.kt_state.specs.Loading.{header_in, loaded_from, loaded_by}
use Rattle.kt_node.specs.Loading.{load}
use Rattle.kt_scenario.specs.Scene.{SceneModel, script_at}
use Rattle.kt_model.specs.State.{State, role_of, view}
use Rattle.kt_model.specs.auxiliary.Ready.{IsWithin, IsBodyReady, IsLiveReady, IsReady}
use Rattle.kt_model.specs.Short.{IsShort, AreShort}

-- ---- logs are no longer than the history

take-short : {A : Type 0} (k : ℕ) (xs : List A) → length (take k xs) ≤ length xs
take-short zero xs = omega arith
take-short (suc k) [] = omega arith
take-short (suc k) (x ∷ xs) = let h = take-short k xs in omega (arith, h)

length-step : (p : NodeId) (xs : List ℕ) (n : ℕ) (note : Note) → length (log_step p xs n note) ≤ length xs + 1
length-step p xs n (notes.Act a) = by (same_node a.node p)
  where
    by : (b : Bool) → length (if b then xs ++ n ∷ [] else xs) ≤ length xs + 1
    by true = omega (arith, length-append xs (n ∷ []))
    by false = omega arith
length-step p xs n (notes.Cut q keep) = by (same_node q p)
  where
    by : (b : Bool) → length (if b then take keep xs else xs) ≤ length xs + 1
    by true = let h = take-short keep xs in omega (arith, h)
    by false = omega arith

length-from : (p : NodeId) (xs : List ℕ) (n : ℕ) (h : List Note) → length (log_from p xs n h) ≤ length xs + length h
unfolding log_from
length-from p xs n [] = omega arith
length-from p xs n (note ∷ later) =
    let step = length-step p xs n note in
    let rest = length-from p (log_step p xs n note) (suc n) later in
    omega (arith, step, rest)

pub length-log : (h : List Note) (p : NodeId) → length (log h p) ≤ length h
unfolding log
length-log h p = let h = length-from p [] 1 h in omega (arith, h)

-- ---- what fits

-- a checkpoint that fits holds no more acts than the log
pub acts-fit : (role : Role) (long : ℕ) (header : Option CkptHeader) → IsTrue (fits role long header) → acts_in header ≤ long
acts-fit role long None e = omega arith
acts-fit role long (Some m) e =
    let front : Bool = node_eq m.node role.id && (length m.sent == role.peers) && (length m.received == role.peers) in
    leb-true m.line_len long (and_parts front (nat_le m.line_len long) e).1

-- as many values as variables
length-values : (vs : List (Name × Kind)) (us : List Value) → are_values_of vs us ≡ true → length us ≡ length vs
length-values [] [] e = refl
length-values [] (u ∷ us) e = absurd cc
length-values (v ∷ vs) [] e = absurd cc
length-values (v ∷ vs) (u ∷ us) e = ap suc (length-values vs us (and_parts (kind_eq v.1 (kind_of u)) (are_values_of vs us) e).1)

within-misfit : (script : List Command) (x : Worker) → IsShort script → is_none (misfit_of script x) ≡ true → IsWithin script x
within-misfit script x short e =
    by (nat_lt (length script) x.position.pc) (nat_lt x.position.pc x.number) (are_values_of (variables_of script) x.position.memory.values) refl refl refl e
  where
    by : (a b c : Bool) → nat_lt (length script) x.position.pc ≡ a → nat_lt x.position.pc x.number ≡ b
        → are_values_of (variables_of script) x.position.memory.values ≡ c
        → is_none (if a then Some misfits.Position else if b then Some misfits.Number else if not c then Some misfits.Values else None) ≡ true
        → IsWithin script x
    by true b c f n g e = absurd cc
    by false true c f n g e = absurd cc
    by false false false f n g e = absurd cc
    by false false true f n g e =
        let few = short.variables in
        let same = length-values (variables_of script) x.position.memory.values g in
        record { pc = ltb-false (length script) x.position.pc f; numbered = ltb-false x.position.pc x.number n; values = omega (arith, few, same) }

if_fits-passed : (b : Bool) (body got : Body) → if_fits b body ≡ Ok got → IsTrue b × (body ≡ got)
if_fits-passed true body got e = (refl, cc)
if_fits-passed false body got e = absurd cc

-- ---- scripts

-- every script of the scene is short, and so is none
pub short-script : (scene : SceneModel) → AreShort scene → (n : ℕ) → IsShort (unwrap_or (script_at scene.scripts n) [])
short-script scene short n = by (script_at scene.scripts n) (short n)
  where
    by : (o : Option (List Command)) → IfSome o IsShort → IsShort (unwrap_or o [])
    by None is = record { is_script = tt; commands = omega arith; variables = omega arith }
    by (Some script) is = is

pub script-short : (s : State) → IsReady s → (n : ℕ) → IsShort (unwrap_or (script_at s.scene.scripts n) [])
script-short s ready n = short-script s.scene ready.scripts n

-- ---- the body

within-opening : (script : List Command) → IsShort script → length (zeros_of (variables_of script)) ≤ length (variables_of script)
within-opening script short = let same = length-map (variables_of script) (λ v. zero_of (Some v.1)) in omega (arith, same)

body-from : (s : State) → IsReady s → (p : NodeId) (long : ℕ) (held : Held) (body : Body) → long ≤ length s.history
    → body_from (role_of s.scene p) long (role_of s.scene p).id held ≡ Ok body → IsBodyReady (role_of s.scene p).script (length s.history) p body
body-from s ready (ids.Worker n) long (states.Worker w) body le e =
    let script : List Command = unwrap_or (script_at s.scene.scripts n) [] in
    let passed = if_fits-passed (worker_fits (role_of s.scene (ids.Worker n)) w) (IsWorker (model_from w)) body e in
    subst (IsBodyReady script (length s.history) (ids.Worker n)) passed.1 (within-misfit script (model_from w) (script-short s ready n) passed.0)
body-from s ready (ids.Worker n) long (states.Shard y) body le e = absurd cc
body-from s ready (ids.Shard n) long (states.Worker w) body le e = absurd cc
body-from s ready (ids.Shard n) long (states.Shard y) body le e =
    let passed = if_fits-passed (shard_fits (role_of s.scene (ids.Shard n)) long y) (IsShard (shard_from y)) body e in
    let front : Bool = are_of_scene (length s.scene.scripts) y.waiting && are_of_scene (length s.scene.scripts) y.cached in
    let few : length y.bag ≤ long = leb-true (length y.bag) long (and_parts front (nat_le (length y.bag) long) passed.0).1 in
    subst (IsBodyReady [] (length s.history) (ids.Shard n)) passed.1 (omega (arith, few, le))

-- what a node works with at first
pub opening-body : (scene : SceneModel) → AreShort scene → (made : ℕ) (p : NodeId)
    → IsBodyReady (role_of scene p).script made p (opening_body (role_of scene p) (role_of scene p).id)
opening-body scene short made (ids.Worker n) =
    let script : List Command = unwrap_or (script_at scene.scripts n) [] in
    let few = (short-script scene short n).variables in
    let same = within-opening script (short-script scene short n) in
    record { pc = omega arith; numbered = omega arith; values = omega (arith, same, few) }
opening-body scene short made (ids.Shard n) = omega arith

body-at : (s : State) → IsReady s → (p : NodeId) (stored : Option Ckpt) (body : Body)
    → IsTrue (fits (role_of s.scene p) (view s p).line_len (option_map header_of stored))
    → body_at (role_of s.scene p) stored ≡ Ok body → IsBodyReady (role_of s.scene p).script (length s.history) p body
body-at s ready p None body fit e =
    let same : opening_body (role_of s.scene p) (role_of s.scene p).id ≡ body = cc in
    subst (IsBodyReady (role_of s.scene p).script (length s.history) p) same (opening-body s.scene ready.scripts (length s.history) p)
body-at s ready p (Some c) body fit e =
    let acts = acts-fit (role_of s.scene p) (view s p).line_len (Some (header_of c)) fit in
    let long = length-log s.history p in
    body-from s ready p c.line_len c.state body (omega (arith, acts, long)) e

-- ---- the node

pub load-passed : (b : Bool) (r : Result Live Refusal) (live : Live) → (if b then r else Err refusals.Damaged) ≡ Ok live → IsTrue b × (r ≡ Ok live)
load-passed true r live e = (refl, e)
load-passed false r live e = absurd cc

-- what is loaded fits
pub load-fits : (s : State) (p : NodeId) (stored : Stored) (live : Live) → load (view s p) stored ≡ Ok live
    → IsTrue (fits (role_of s.scene p) (view s p).line_len (header_in stored))
load-fits s p stored live e = (load-passed (fits (role_of s.scene p) (view s p).line_len (header_in stored)) _ live e).0

-- a live node in its first moments
pub fresh-ready : (scene : SceneModel) (h : List Note) (made : ℕ) (p : NodeId) (incarnation : ℕ) (body : Body) (sent received : List Label)
    → IsBodyReady (role_of scene p).script (length h) p body → IsLiveReady scene h made p (fresh_live phases.Up incarnation body sent received)
fresh-ready scene h made p incarnation body sent received is = record { body = is; count = omega arith; phase = tt; kept = λ x c. absurd (Contains-none x c) }

loaded-ready : (s : State) (p : NodeId) (stored : Option Ckpt) (incarnation : ℕ) (body : Body)
    → IsBodyReady (role_of s.scene p).script (length s.history) p body
    → IsLiveReady s.scene s.history s.made p (loaded_from stored incarnation body)
loaded-ready s p None incarnation body is = fresh-ready s.scene s.history s.made p incarnation body _ _ is
loaded-ready s p (Some c) incarnation body is = fresh-ready s.scene s.history s.made p incarnation body _ _ is

pub load-ready : (s : State) → IsReady s → (p : NodeId) (stored : Stored) (live : Live) → load (view s p) stored ≡ Ok live
    → IsLiveReady s.scene s.history s.made p live
load-ready s ready p stored live e =
    let passed = load-passed (fits (role_of s.scene p) (view s p).line_len (header_in stored)) _ live e in
    by (body_at (role_of s.scene p) stored.permanent) (λ body is. body-at s ready p stored.permanent body passed.0 is) passed.1
  where
    by : (r : Result Body Refusal) → ((body : Body) → r ≡ Ok body → IsBodyReady (role_of s.scene p).script (length s.history) p body)
        → loaded_by stored.permanent (stored.incarnation + 1) r ≡ Ok live → IsLiveReady s.scene s.history s.made p live
    by (Err refusal) body e = absurd cc
    by (Ok b) body e =
        let same : loaded_from stored.permanent (stored.incarnation + 1) b ≡ live = cc in
        subst (IsLiveReady s.scene s.history s.made p) same (loaded-ready s p stored.permanent (stored.incarnation + 1) b (body b refl))
