-- What a checkpoint holds fits where each of its parts does, and only there.
-- Cited by `judging::fits_in`, `leads::leads_to`, `leads::shard_leads_to`, `leads::worker_leads_to`.
use Rattle.std.proofs.Common.{◌≡◌, ℕ, ◌+◌, ◌<◌, ◌≤◌, Bool, true, false, List, [], ◌∷◌, length, map, take, Option, None, Some, inl, inr, refl, sym, ap, ◌∙◌}
use Rattle.std.proofs.Common.{subst, arith, Contains}
use Rattle.std.specs.Prelude.{All, Err, IfOk, IfSome, IsTrue, Ok, Result, nat_le, ◌&&◌, ◌||◌, ◌↔◌, unwrap_or}
use Rattle.std.specs.declared.alloc.AllocError.{AllocError}
use Rattle.std.specs.List.{list_all}
use Rattle.std.proofs.lemmas.Bool.{and_parts, eqb-true, leb-true}
use Rattle.std.proofs.lemmas.List.{take_all}
use Rattle.std.proofs.lemmas.List.Elements.{All-contains_itself, All-weaker}
use Rattle.kt_tuple.specs.declared.node.NodeId.{NodeId}
use Rattle.kt_tuple.specs.declared.node.NodeId.TheVariants as ids
use Rattle.kt_tuple.specs.declared.node.TheConstants.{MAX_WORKERS}
use Rattle.kt_history.specs.declared.note.Act.{Act}
use Rattle.kt_history.specs.declared.note.Note.{Note}
use Rattle.kt_history.specs.Log.{log}
use Rattle.kt_history.specs.Closed.{acts_at, acts_in_log}
use Rattle.kt_history.specs.WellFormed.{CausesComeFirst}
use Rattle.kt_history.proofs.Lists.{Contains-cons_cases, Contains-from_take, Contains-here, Contains-none, Contains-there, list_all-at}
use Rattle.kt_ckpt.specs.declared.acts.LogAct.{LogAct}
use Rattle.kt_ckpt.specs.declared.ckpt.Ckpt.{Ckpt}
use Rattle.kt_ckpt.specs.declared.state.State.{State as Saved}
use Rattle.kt_ckpt.specs.declared.state.State.TheVariants as saved
use Rattle.kt_ckpt.specs.Fields.{ShardFields, WorkerFields}
use Rattle.kt_ckpt.specs.Acts.{is_about, is_act_of, is_caused, is_done_by}
use Rattle.kt_ckpt.specs.Checkpoint.{HasCounts}
use Rattle.kt_ckpt.specs.LogActs.{log_act, log_acts}
use Rattle.kt_ckpt.proofs.Shared.{acts-long, log-long}
use Rattle.kt_script.specs.declared.command.Command.{Command}
use Rattle.kt_script.specs.Asks.{asks}
use Rattle.kt_worker.specs.WorkerModel.{WorkerModel}
use Rattle.kt_shard.specs.Limits.{sessions}
use Rattle.kt_shard.specs.Shard.{Shard}
use Rattle.kt_store.specs.Content.{Content}
use Rattle.kt_logs.specs.Legal.{IsLog}
use Rattle.kt_logs.specs.ShardLog.{MadeShard, ShardLog, new_shard, shard_of_acts}
use Rattle.kt_logs.specs.WorkerLog.{MadeWorker, WorkerLog, new_worker, worker_of_acts}
use Rattle.kt_state.specs.Node.{Body, IsShard, IsWorker}
use Rattle.kt_state.specs.State.{body_fields, shard_fields, worker_fields}
use Rattle.kt_model.specs.Asks.{script_numbered, setting_of}
use Rattle.kt_scenario.specs.Scene.{SceneModel, is_node, is_worker, script_at}
use Rattle.kt_model.specs.Cut.{acts_held, permanent_length, permanent_of}
use Rattle.kt_model.specs.Like.{HoldsFront, IsBodyLike, IsShardLike, IsWorkerLike, acts_stored}
use Rattle.kt_model.specs.Resumed.{FitsIn, IsOf, MakesSense, acts_of, history_of}
use Rattle.kt_model.proofs.OpenedSound.{nothing_stored}
use Rattle.kt_model.proofs.PlacedActs.{placed-acts}
use Rattle.kt_scenario.proofs.Shared.{IsNode, a_shard, a_worker, of_node}
use Rattle.kt_resume.specs.auxiliary.Leading.{LeadsTo}
use Rattle.kt_resume.specs.Remade.{IsRemade, RemadeShard}
use Rattle.kt_resume.specs.Suits.{SuitsShard, SuitsWorker}

-- ---- what is stored of a node, and what its acts lead to

pub worker-leads : (scene : SceneModel) (name : ℕ) (acts : List Act) (script : List Command) (stored : WorkerFields)
    → script_at scene.scripts name ≡ Some script
    → WorkerLog (asks script) name new_worker acts → SuitsWorker script (worker_of_acts new_worker acts) stored
    → LeadsTo scene (ids.Worker name) acts (saved.Worker stored)
worker-leads scene name acts script stored is legal suits =
    let same : script_numbered scene.scripts name ≡ script = ap (λ o. unwrap_or o []) is in record {
      allowed = subst (λ (s : List Command). WorkerLog (asks s) name new_worker acts) (sym same) legal;
      body = IsWorker suits.0;
      saved = ap saved.Worker suits.1;
      like = subst (λ (s : List Command). IsWorkerLike s (worker_of_acts new_worker acts) suits.0) (sym same) suits.2;
    }

pub leads-worker : (scene : SceneModel) (name : ℕ) (acts : List Act) (script : List Command) (stored : WorkerFields)
    → script_at scene.scripts name ≡ Some script
    → LeadsTo scene (ids.Worker name) acts (saved.Worker stored)
    → WorkerLog (asks script) name new_worker acts × SuitsWorker script (worker_of_acts new_worker acts) stored
leads-worker scene name acts script stored is leads =
    let same : script_numbered scene.scripts name ≡ script = ap (λ o. unwrap_or o []) is in
    (subst (λ (s : List Command). WorkerLog (asks s) name new_worker acts) same leads.allowed, by same leads.body leads.saved leads.like) where
      by : script_numbered scene.scripts name ≡ script → (body : Body) → saved.Worker stored ≡ body_fields body
          → IsBodyLike scene.scripts (ids.Worker name) acts body
          → SuitsWorker script (worker_of_acts new_worker acts) stored
      by same (IsWorker x) e like =
          (x, cc (e), subst (λ (s : List Command). IsWorkerLike s (worker_of_acts new_worker acts) x) same like)
      by same (IsShard y) e like = absurd like

pub shard-leads : (scene : SceneModel) (name : ℕ) (acts : List Act) (stored : ShardFields) → ShardLog scene.shards name new_shard acts
    → SuitsShard scene.scripts (shard_of_acts new_shard acts) stored → LeadsTo scene (ids.Shard name) acts (saved.Shard stored)
shard-leads scene name acts stored legal suits =
    record { allowed = legal; body = IsShard suits.0; saved = ap saved.Shard suits.1; like = suits.2 }

pub leads-shard : (scene : SceneModel) (name : ℕ) (acts : List Act) (stored : ShardFields) → LeadsTo scene (ids.Shard name) acts (saved.Shard stored)
    → ShardLog scene.shards name new_shard acts × SuitsShard scene.scripts (shard_of_acts new_shard acts) stored
leads-shard scene name acts stored leads = (leads.allowed, by leads.body leads.saved leads.like) where
  by : (body : Body) → saved.Shard stored ≡ body_fields body → IsBodyLike scene.scripts (ids.Shard name) acts body
      → SuitsShard scene.scripts (shard_of_acts new_shard acts) stored
  by (IsWorker x) e like = absurd like
  by (IsShard y) e like = (y, cc (e), like)

-- ---- the acts of a log that is placed

few-about : (scene : SceneModel) (p : NodeId) → IsNode scene p → length scene.scripts ≤ MAX_WORKERS → (worker : ℕ) → is_about p worker ≡ true
    → worker < sessions
few-about scene p (a_worker {n = n} low high) few worker about = let same = eqb-true worker n about in omega (arith, same, high, few)
few-about scene p (a_shard low high) few worker about =
    let parts = and_parts (nat_le 1 worker) (nat_le worker MAX_WORKERS) about in
    let le = leb-true worker MAX_WORKERS parts.1 in
    omega (arith, le)

module _ (scene : SceneModel) (c : Content) (h : List Note) (p : NodeId) (is : h ≡ history_of scene c) where
  pub log-first : log_acts h p ≡ take (length (log h p)) (acts_of c p)
  log-first = subst (λ (g : List Note). log_acts g p ≡ take (length (log g p)) (acts_of c p)) (sym is) ((placed-acts scene c).first p)

  pub causes-first : CausesComeFirst h
  causes-first = subst CausesComeFirst (sym is) (placed-acts scene c).causes

  pub acts-many : length (acts_in_log h p) ≡ length (log h p)
  acts-many = log-long h p

  in-map : (acts : List Act) (a : Act) → Contains acts a → Contains (map (log_act h) acts) (log_act h a)
  in-map [] a on = absurd (Contains-none a on)
  in-map (b ∷ acts) a on = elim (Contains-cons_cases b acts a on) [
    | inl e ↦ subst (λ (x : Act). Contains (log_act h b ∷ map (log_act h) acts) (log_act h x)) e (Contains-here (log_act h b) (map (log_act h) acts))
    | inr later ↦ Contains-there (log_act h b) (map (log_act h) acts) (log_act h a) (in-map acts a later)
  ]

  -- each act is about a worker that there may be
  pub acts-few : IsTrue (is_node scene p) → length scene.scripts ≤ MAX_WORKERS → list_all (is_act_of p) (acts_of c p) ≡ true
      → All (λ (a : Act). a.worker < sessions) (acts_in_log h p)
  acts-few there few shaped =
      All-weaker (Contains (acts_in_log h p)) (λ (a : Act). a.worker < sessions)
      (λ a on.
      let held : Contains (acts_of c p) (log_act h a) =
      Contains-from_take (length (log h p)) (acts_of c p) (log_act h a)
      (subst (λ (l : List LogAct). Contains l (log_act h a)) log-first (in-map (acts_in_log h p) a on)) in
      let may = list_all-at (is_act_of p) (acts_of c p) (log_act h a) shaped held in
      let about = (and_parts (is_about p a.worker) (is_caused p a.worker a.what (log_act h a).by)
      (and_parts (is_done_by p a.what) (is_about p a.worker && is_caused p a.worker a.what (log_act h a).by) may).1).0 in
      few-about scene p (of_node scene p there) few a.worker about)
      (acts_in_log h p) (All-contains_itself (acts_in_log h p))

  -- ---- nothing stored

  no-log : (xs : List ℕ) → length xs ≡ 0 → xs ≡ []
  no-log [] e = refl
  no-log (x ∷ xs) e = absurd (omega (arith, e))

  empty-log : (q : NodeId) → IsLog (setting_of scene) q []
  empty-log (ids.Worker n) = tt
  empty-log (ids.Shard n) = tt

  pub fits-none : permanent_of c p ≡ None → length (log h p) ≡ 0 → FitsIn scene c h p
  fits-none none bare =
      let log_none : log h p ≡ [] = no-log (log h p) bare in
      let acts_none : acts_in_log h p ≡ [] = ap (acts_at h) log_none in
      let held : permanent_length c p ≡ 0 = ap acts_held none in record {
        of = subst (λ (o : Option Ckpt). IfSome o (IsOf scene p)) (sym none) tt;
        whole = ap (λ (o : Option Ckpt). length (acts_stored o)) none ∙ sym held;
        shaped = ap (λ (o : Option Ckpt). list_all (is_act_of p) (acts_stored o)) none;
        placed = bare ∙ sym held;
        sense = λ n a on at. absurd (Contains-none n (subst (λ (l : List ℕ). Contains l n) log_none on));
        allowed = subst (IsLog (setting_of scene) p) (sym acts_none) (empty-log p);
        leads = subst (λ (o : Option Ckpt). HoldsFront scene p (acts_in_log h p) o) (sym none)
            (subst (λ (l : List Act). HoldsFront scene p l None) (sym acts_none) (nothing_stored scene p));
      }

  pub none-placed : permanent_of c p ≡ None → FitsIn scene c h p → length (log h p) ≡ 0
  none-placed none fits = fits.placed ∙ ap acts_held none

  -- ---- a checkpoint

  module _ (checkpoint : Ckpt) (some : permanent_of c p ≡ Some checkpoint) where
    pub of-some : FitsIn scene c h p → IsOf scene p checkpoint
    of-some fits = subst (λ (o : Option Ckpt). IfSome o (IsOf scene p)) some fits.of

    pub shaped-some : FitsIn scene c h p → list_all (is_act_of checkpoint.node) checkpoint.acts ≡ true
    shaped-some fits =
        subst (λ (q : NodeId). list_all (is_act_of q) checkpoint.acts ≡ true) (sym (of-some fits).own)
        (subst (λ (o : Option Ckpt). list_all (is_act_of p) (acts_stored o) ≡ true) some fits.shaped)

    pub placed-some : FitsIn scene c h p → length (log h p) ≡ checkpoint.line_len
    placed-some fits = fits.placed ∙ ap acts_held some

    pub shaped-of : IsOf scene p checkpoint → list_all (is_act_of checkpoint.node) checkpoint.acts ≡ true → list_all (is_act_of p) (acts_of c p) ≡ true
    shaped-of of shaped =
        subst (λ (o : Option Ckpt). list_all (is_act_of p) (acts_stored o) ≡ true) (sym some)
        (subst (λ (q : NodeId). list_all (is_act_of q) checkpoint.acts ≡ true) of.own shaped)

    front-whole : length (log h p) ≡ checkpoint.line_len → take checkpoint.line_len (acts_in_log h p) ≡ acts_in_log h p
    front-whole placed = let many = acts-many in take_all checkpoint.line_len (acts_in_log h p) (omega (arith, many, placed))

    pub leads-some : FitsIn scene c h p → LeadsTo scene p (acts_in_log h p) checkpoint.state
    leads-some fits =
        let front : HoldsFront scene p (acts_in_log h p) (Some checkpoint) = subst (HoldsFront scene p (acts_in_log h p)) some fits.leads in record {
          allowed = fits.allowed;
          body = front.body;
          saved = front.saved;
          like = subst (λ (l : List Act). IsBodyLike scene.scripts p l front.body) (front-whole (placed-some fits)) front.like;
        }

    pub fits-some : HasCounts checkpoint → IsOf scene p checkpoint → list_all (is_act_of checkpoint.node) checkpoint.acts ≡ true
        → length (log h p) ≡ checkpoint.line_len → LeadsTo scene p (acts_in_log h p) checkpoint.state → MakesSense h p → FitsIn scene c h p
    fits-some counts of shaped placed leads sense = record {
      of = subst (λ (o : Option Ckpt). IfSome o (IsOf scene p)) (sym some) of;
      whole = ap (λ (o : Option Ckpt). length (acts_stored o)) some ∙ counts.long ∙ sym (ap acts_held some);
      shaped = shaped-of of shaped;
      placed = placed ∙ sym (ap acts_held some);
      sense = sense;
      allowed = leads.allowed;
      leads = subst (HoldsFront scene p (acts_in_log h p)) (sym some) (record {
        short = let many = acts-many in omega (arith, many, placed);
        body = leads.body;
        saved = leads.saved;
        like = subst (λ (l : List Act). IsBodyLike scene.scripts p l leads.body) (sym (front-whole placed)) leads.like;
      });
    }

-- ---- what the parts told

or-none : (b : Bool) → IsTrue (b || false) → IsTrue b
or-none true t = t
or-none false t = t

-- of a worker
pub worker-told : (scene : SceneModel) (node : NodeId) (name : ℕ) (stored : Saved) (x : WorkerFields) (h : List Note) (r : Result Bool AllocError)
    → node ≡ ids.Worker name
    → stored ≡ saved.Worker x → IsTrue (is_node scene node)
    → IfOk r (λ (leads : Bool). (c : SceneModel) → c.scripts ≡ scene.scripts → IsTrue (is_worker c (ids.Worker name))
    → (IsTrue leads ↔ LeadsTo c (ids.Worker name) (acts_in_log h (ids.Worker name)) (saved.Worker x)))
    → IfOk r (λ (leads : Bool). All (λ (a : Act). a.worker < sessions) (acts_in_log h node) → (IsTrue leads ↔ LeadsTo scene node (acts_in_log h node) stored))
worker-told scene node name stored x h (Err e) is same there told = told
worker-told scene node name stored x h (Ok leads) is same there told = λ few.
    let own : IsTrue (is_worker scene (ids.Worker name)) =
    or-none (is_worker scene (ids.Worker name)) (subst (λ (p : NodeId). IsTrue (is_node scene p)) is there) in
    let P : NodeId → Type 0 = λ p. IsTrue leads ↔ LeadsTo scene p (acts_in_log h p) (saved.Worker x) in
    let Q : Saved → Type 0 = λ s. IsTrue leads ↔ LeadsTo scene node (acts_in_log h node) s in
    subst Q (sym same) (subst P (sym is) (told scene refl own))

-- of a shard
pub shard-told : (scene : SceneModel) (node : NodeId) (name : ℕ) (stored : Saved) (x : ShardFields) (h : List Note) (r : Result Bool AllocError)
    → node ≡ ids.Shard name
    → stored ≡ saved.Shard x
    → IfOk r (λ (leads : Bool). (c : SceneModel) → c.shards ≡ scene.shards → length c.scripts ≡ length scene.scripts
    → All (λ (a : Act). a.worker < sessions) (acts_in_log h (ids.Shard name))
    → (IsTrue leads ↔ LeadsTo c (ids.Shard name) (acts_in_log h (ids.Shard name)) (saved.Shard x)))
    → IfOk r (λ (leads : Bool). All (λ (a : Act). a.worker < sessions) (acts_in_log h node) → (IsTrue leads ↔ LeadsTo scene node (acts_in_log h node) stored))
shard-told scene node name stored x h (Err e) is same told = told
shard-told scene node name stored x h (Ok leads) is same told = λ few.
    let P : NodeId → Type 0 = λ p. IsTrue leads ↔ LeadsTo scene p (acts_in_log h p) (saved.Shard x) in
    let Q : Saved → Type 0 = λ s. IsTrue leads ↔ LeadsTo scene node (acts_in_log h node) s in
    let own = subst (λ (p : NodeId). All (λ (a : Act). a.worker < sessions) (acts_in_log h p)) is few in
    subst Q (sym same) (subst P (sym is) (told scene refl refl own))

-- a shard that was made again, and was compared with what is stored
pub shard-suited : (shards workers name : ℕ) (acts : List Act) (stored : ShardFields) (remade : RemadeShard) (r : Result Bool AllocError)
    → ShardLog shards name new_shard acts → IsRemade (shard_of_acts new_shard acts) remade
    → ((scripts : List (List Command)) (made : MadeShard) → length scripts ≡ workers → IsRemade made remade
    → IfOk r (λ (suits : Bool). IsTrue suits ↔ SuitsShard scripts made stored))
    → IfOk r (λ (leads : Bool). (scene : SceneModel) → scene.shards ≡ shards → length scene.scripts ≡ workers → All (λ (a : Act). a.worker < sessions) acts
    → (IsTrue leads ↔ LeadsTo scene (ids.Shard name) acts (saved.Shard stored)))
shard-suited shards workers name acts stored remade (Err e) legal is told = tt
shard-suited shards workers name acts stored remade (Ok suits) legal is told = λ scene same many few.
    let both = told scene.scripts (shard_of_acts new_shard acts) many is in
    let own : ShardLog scene.shards name new_shard acts = subst (λ n. ShardLog n name new_shard acts) (sym same) legal in
    (λ t. shard-leads scene name acts stored own (both.0 t), λ leads. both.1 (leads-shard scene name acts stored leads).1)
