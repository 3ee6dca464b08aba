-- Each act that a node remembers may stand in the node's checkpoint: it is one that such a node does, about a worker of the
-- scene, and what it heard was sent by a neighbour.
-- Cited by Gives, Holding, Kept, NeverUnfit, Resuming, Undamaged.
use Rattle.std.proofs.Common.{◌≡◌, ℕ, zero, suc, ◌+◌, ◌≤◌, ◌==◌, ◌&&◌, true, false, List, [], ◌∷◌, length, map, Contains}
use Rattle.std.proofs.Common.{Option, Some, None, inl, inr, refl, sym, ap, ◌∙◌, subst, arith, eq-eqb}
use Rattle.std.specs.List.{cons_option, list_all}
use Rattle.std.specs.Prelude.{IsTrue, nat_le}
use Rattle.std.proofs.lemmas.Bool.{and_from, le-leb}
use Rattle.kt_tuple.specs.declared.node.NodeId.{NodeId}
use Rattle.kt_tuple.specs.declared.node.NodeId.TheVariants as ids
use Rattle.kt_tuple.specs.declared.op.Answer.{Answer}
use Rattle.kt_history.specs.declared.note.What.{What}
use Rattle.kt_history.specs.declared.note.What.TheVariants as whats
use Rattle.kt_history.specs.declared.note.Act.{Act}
use Rattle.kt_history.specs.declared.note.Note.{Note}
use Rattle.kt_history.specs.declared.note.Note.TheVariants as notes
use Rattle.kt_history.specs.Log.{note_at, before, log}
use Rattle.kt_history.specs.Place.{place_of}
use Rattle.kt_history.specs.Closed.{act_of, acts_at, acts_in_log}
use Rattle.kt_history.specs.WellFormed.{ActFits, HeardReply, HeardRequest, IsAsking, IsShard as IsShardNamed, IsWellFormed}
use Rattle.kt_history.proofs.Shared.{log-own, note_at-push_cases, note_before, Contains-here, Contains-there}
use Rattle.kt_ckpt.specs.Acts.{is_about, is_act_of, is_caused, is_done_by}
use Rattle.kt_ckpt.specs.LogActs.{log_act, log_acts, node_placed, placed}
use Rattle.kt_logs.specs.Order.{Setting}
use Rattle.kt_logs.specs.ShardLog.{ShardMay, new_shard, shard_of_acts, MadeShard}
use Rattle.kt_logs.specs.WorkerLog.{WorkerMay, new_worker, worker_of_acts, MadeWorker}
use Rattle.kt_logs.proofs.Shared.{MayMake}
use Rattle.kt_tuple.specs.declared.tuple.Tuple.{Tuple}
use Rattle.kt_tuple.specs.declared.op.Op.{Op}
use Rattle.kt_shard.specs.declared.session.Session.{Session}
use Rattle.kt_model.specs.Asks.{setting_of}
use Rattle.kt_scenario.specs.Scene.{SceneModel, IsScene, is_node}
use Rattle.kt_model.specs.Effect.{noted}
use Rattle.kt_scenario.proofs.Shared.{IsNode, a_shard, a_worker, of_node}
use Rattle.kt_model.proofs.Sound.{MayNote}

-- a worker's acts are about its own requests
abbrev pub IsAboutOwn : NodeId → ℕ → Type 0
IsAboutOwn (ids.Worker i) worker = worker ≡ i
IsAboutOwn (ids.Shard i) worker = Unit {0}

pub record IsMadeBy (scene : SceneModel) (a : Act) : Type 0 where
  pub there : IsTrue (is_node scene a.node)
  pub done : is_done_by a.node a.what ≡ true
  pub about : IsAboutOwn a.node a.worker

-- each act of the history, those that were cut off among them
unfoldable pub AreMade : SceneModel → List Note → Type 0
AreMade scene h = (n : ℕ) (a : Act) → note_at h n ≡ Some (notes.Act a) → IsMadeBy scene a

-- ---- one act more

worker-done : (i : ℕ) (asks : List Answer → Option Op) (x : MadeWorker) (a : Act) (what : What) → WorkerMay asks x a what
    → is_done_by (ids.Worker i) what ≡ true
worker-done i asks x a whats.Issue may = refl
worker-done i asks x a whats.Repeat may = refl
worker-done i asks x a whats.Heard may = absurd may
worker-done i asks x a (whats.Served answer) may = absurd may
worker-done i asks x a (whats.Again answer) may = absurd may
worker-done i asks x a (whats.Accepted answer) may = refl
worker-done i asks x a (whats.Ignored None) may = absurd may
worker-done i asks x a (whats.Ignored (Some answer)) may = refl

shard-done : (i : ℕ) (bag : List Tuple) (d : Session) (cause : ℕ) (a : Act) (what : What) → ShardMay bag d cause a what
    → is_done_by (ids.Shard i) what ≡ true
shard-done i bag d cause a whats.Issue may = absurd may
shard-done i bag d cause a whats.Repeat may = absurd may
shard-done i bag d cause a whats.Heard may = refl
shard-done i bag d cause a (whats.Served answer) may = refl
shard-done i bag d cause a (whats.Again answer) may = refl
shard-done i bag d cause a (whats.Accepted answer) may = absurd may
shard-done i bag d cause a (whats.Ignored None) may = refl
shard-done i bag d cause a (whats.Ignored (Some answer)) may = absurd may

may-made : (setting : Setting) (p : NodeId) (acts : List Act) (a : Act) → MayMake setting p acts a
    → (is_done_by p a.what ≡ true) × IsAboutOwn p a.worker
may-made setting (ids.Worker w) acts a may = (worker-done w (setting.asks w) (worker_of_acts new_worker acts) a a.what may.1, may.0)
may-made setting (ids.Shard s) acts a may =
    let x : MadeShard = shard_of_acts new_shard acts in
    (shard-done s x.bag (x.session a.worker) (x.cause a.worker) a a.what may.1, tt)

pub made-noted : (scene : SceneModel) (h : List Note) (p : NodeId) (note : Option Note) → IsTrue (is_node scene p) → MayNote scene h p note → AreMade scene h
    → AreMade scene (noted h note)
unfolding AreMade
made-noted scene h p None there may made n a is = made n a is
made-noted scene h p (Some (notes.Cut q keep)) there may made n a is = elim (note_at-push_cases h (notes.Cut q keep) n (notes.Act a) is) [
  | inl old ↦ made n a old.1
  | inr new ↦ absurd (cc (new.1))
]
made-noted scene h p (Some (notes.Act b)) there may made n a is = elim (note_at-push_cases h (notes.Act b) n (notes.Act a) is) [
  | inl old ↦ made n a old.1
  | inr new ↦
      let same : b ≡ a = cc (new.1) in
      let how = may-made (setting_of scene) p (acts_in_log h p) b may.1 in
      let one : IsMadeBy scene b = record {
        there = subst (λ q. IsTrue (is_node scene q)) (sym may.0) there;
        done = subst (λ q. is_done_by q b.what ≡ true) (sym may.0) how.0;
        about = subst (λ q. IsAboutOwn q b.worker) (sym may.0) how.1;
      } in
      subst (IsMadeBy scene) same one
]

pub made-none : (scene : SceneModel) → AreMade scene []
unfolding AreMade
made-none scene zero a is = absurd cc
made-none scene (suc n) a is = absurd cc

-- ---- what was heard

placed-act : (h : List Note) (n : ℕ) (a : Act) → note_at h n ≡ Some (notes.Act a)
    → placed h n ≡ Some (a.node, length (log (before h n) a.node) + 1)
placed-act h n a is = ap (λ o. node_placed (act_of o) (place_of h n o)) is

-- a request was sent by the worker that it is of
record SentBy (scene : SceneModel) (h : List Note) (a : Act) : Type 0 where
  from : NodeId
  at : ℕ
  named : placed h a.by ≡ Some (from, at + 1)
  there : IsNode scene from

asker : (i : ℕ) (what : What) → IsAsking what → is_done_by (ids.Shard i) what ≡ true → ⊥
asker i whats.Issue asks e = absurd cc
asker i whats.Repeat asks e = absurd cc
asker i whats.Heard asks e = asks
asker i (whats.Served answer) asks e = asks
asker i (whats.Again answer) asks e = asks
asker i (whats.Accepted answer) asks e = asks
asker i (whats.Ignored answer) asks e = asks

record FromWorker (scene : SceneModel) (h : List Note) (a : Act) : Type 0 where
  at : ℕ
  named : placed h a.by ≡ Some (ids.Worker a.worker, at + 1)
  low : 1 ≤ a.worker
  high : a.worker ≤ length scene.scripts

request-from : (scene : SceneModel) (h : List Note) → AreMade scene h → (n : ℕ) (a : Act) → note_at h n ≡ Some (notes.Act a) → HeardRequest (before h n) a
    → FromWorker scene h a
unfolding AreMade
request-from scene h made n a is heard = by heard.cause.node refl (of_node scene heard.cause.node one.there)
  where
    here : note_at h a.by ≡ Some (notes.Act heard.cause)
    here = (note_before h n (notes.Act a) a.by (notes.Act heard.cause) is heard.is_cause).1

    one : IsMadeBy scene heard.cause
    one = made a.by heard.cause here

    by : (p : NodeId) → heard.cause.node ≡ p → IsNode scene p → FromWorker scene h a
    by (ids.Shard r) e there =
        absurd (asker r heard.cause.what heard.asking (subst (λ q. is_done_by q heard.cause.what ≡ true) e one.done))
    by (ids.Worker w) e (a_worker low high) =
        let own : heard.cause.worker ≡ w = subst (λ q. IsAboutOwn q heard.cause.worker) e one.about in
        let same : w ≡ a.worker = sym own ∙ heard.same.worker in
        record {
          at = length (log (before h a.by) heard.cause.node);
          named = placed-act h a.by heard.cause here ∙ ap (λ q. Some (q, length (log (before h a.by) heard.cause.node) + 1)) (e ∙ ap ids.Worker same);
          low = subst (λ k. 1 ≤ k) same low;
          high = subst (λ k. k ≤ length scene.scripts) same high;
        }

record FromShard (scene : SceneModel) (h : List Note) (a : Act) : Type 0 where
  shard : ℕ
  at : ℕ
  named : placed h a.by ≡ Some (ids.Shard shard, at + 1)
  low : 1 ≤ shard
  high : shard ≤ scene.shards

reply-from : (scene : SceneModel) (h : List Note) → AreMade scene h → (n : ℕ) (a : Act) (answer : Answer) → note_at h n ≡ Some (notes.Act a)
    → HeardReply (before h n) a answer → FromShard scene h a
unfolding AreMade
reply-from scene h made n a answer is heard = by heard.cause.node refl (of_node scene heard.cause.node one.there)
  where
    here : note_at h a.by ≡ Some (notes.Act heard.cause)
    here = (note_before h n (notes.Act a) a.by (notes.Act heard.cause) is heard.is_cause).1

    one : IsMadeBy scene heard.cause
    one = made a.by heard.cause here

    by : (p : NodeId) → heard.cause.node ≡ p → IsNode scene p → FromShard scene h a
    by (ids.Worker w) e there = absurd (subst IsShardNamed e heard.at_shard)
    by (ids.Shard r) e (a_shard low high) = record {
      shard = r;
      at = length (log (before h a.by) heard.cause.node);
      named = placed-act h a.by heard.cause here ∙ ap (λ q. Some (q, length (log (before h a.by) heard.cause.node) + 1)) e;
      low = low;
      high = high;
    }

-- ---- the shape of one act

not-placed : (h : List Note) (by : ℕ) → by ≡ 0 → placed h by ≡ None
not-placed h by e = ap (placed h) e

shard-shape : (scene : SceneModel) → IsScene scene → (h : List Note) (s : ℕ) (a : Act) (what : What) → is_done_by (ids.Shard s) what ≡ true
    → Rattle.kt_ckpt.specs.Acts.is_own_will what ≡ false → FromWorker scene h a
    → (is_done_by (ids.Shard s) what && (is_about (ids.Shard s) a.worker && is_caused (ids.Shard s) a.worker what (placed h a.by))) ≡ true
shard-shape scene is h s a what done heard from =
    let few = is.few_workers in
    let high = from.high in
    let about : is_about (ids.Shard s) a.worker ≡ true =
    and_from (nat_le 1 a.worker) (nat_le a.worker 16) (le-leb 1 a.worker from.low) (le-leb a.worker 16 (omega (arith, few, high))) in
    let caused : is_caused (ids.Shard s) a.worker what (Some (ids.Worker a.worker, from.at + 1)) ≡ true =
    and_from _ _ (ap (λ b. Rattle.std.specs.Prelude.not b) heard)
    (and_from (a.worker == a.worker) (nat_le 1 (from.at + 1)) (eq-eqb a.worker a.worker refl) (le-leb 1 (from.at + 1) (omega arith))) in
    and_from _ _ done (and_from _ _ about (ap (is_caused (ids.Shard s) a.worker what) from.named ∙ caused))

worker-shape : (scene : SceneModel) → IsScene scene → (h : List Note) (w : ℕ) (a : Act) (what : What) → a.worker ≡ w → is_done_by (ids.Worker w) what ≡ true
    → Rattle.kt_ckpt.specs.Acts.is_own_will what ≡ false → FromShard scene h a
    → (is_done_by (ids.Worker w) what && (is_about (ids.Worker w) a.worker && is_caused (ids.Worker w) a.worker what (placed h a.by))) ≡ true
worker-shape scene is h w a what own done heard from =
    let few = is.few_shards in
    let high = from.high in
    let caused : is_caused (ids.Worker w) a.worker what (Some (ids.Shard from.shard, from.at + 1)) ≡ true =
    and_from _ _ (ap (λ b. Rattle.std.specs.Prelude.not b) heard)
    (and_from _ (nat_le 1 (from.at + 1)) (and_from (nat_le 1 from.shard) (nat_le from.shard 8) (le-leb 1 from.shard from.low)
    (le-leb from.shard 8 (omega (arith, few, high)))) (le-leb 1 (from.at + 1) (omega arith))) in
    and_from _ _ done (and_from _ _ (eq-eqb a.worker w own) (ap (is_caused (ids.Worker w) a.worker what) from.named ∙ caused))

-- of an act that hears nothing
will-shape : (h : List Note) (w : ℕ) (a : Act) (what : What) → a.worker ≡ w → is_done_by (ids.Worker w) what ≡ true
    → Rattle.kt_ckpt.specs.Acts.is_own_will what ≡ true → a.by ≡ 0
    → (is_done_by (ids.Worker w) what && (is_about (ids.Worker w) a.worker && is_caused (ids.Worker w) a.worker what (placed h a.by))) ≡ true
will-shape h w a what own done will none =
    and_from _ _ done (and_from _ _ (eq-eqb a.worker w own) (ap (is_caused (ids.Worker w) a.worker what) (not-placed h a.by none) ∙ will))

shape : (scene : SceneModel) → IsScene scene → (h : List Note) → IsWellFormed h → AreMade scene h → (n : ℕ) (a : Act) → note_at h n ≡ Some (notes.Act a)
    → is_act_of a.node (log_act h a) ≡ true
unfolding AreMade
shape scene is h wf made n a at = by a.node a.what refl refl one.done one.about (wf.fits n (notes.Act a) at)
  where
    one : IsMadeBy scene a
    one = made n a at

    by : (p : NodeId) (what : What) → a.node ≡ p → a.what ≡ what → is_done_by p what ≡ true → IsAboutOwn p a.worker → ActFits (before h n) a what
        → (is_done_by p what && (is_about p a.worker && is_caused p a.worker what (placed h a.by))) ≡ true
    by (ids.Worker w) whats.Issue e f done about fits = will-shape h w a whats.Issue about done refl fits
    by (ids.Worker w) whats.Repeat e f done about fits = will-shape h w a whats.Repeat about done refl fits
    by (ids.Worker w) whats.Heard e f done about fits = absurd cc
    by (ids.Worker w) (whats.Served answer) e f done about fits = absurd cc
    by (ids.Worker w) (whats.Again answer) e f done about fits = absurd cc
    by (ids.Worker w) (whats.Accepted answer) e f done about fits =
        worker-shape scene is h w a (whats.Accepted answer) about done refl (reply-from scene h made n a answer at fits)
    by (ids.Worker w) (whats.Ignored None) e f done about fits = absurd cc
    by (ids.Worker w) (whats.Ignored (Some answer)) e f done about fits =
        let Of : NodeId → Type 0 = λ q. Rattle.kt_history.specs.WellFormed.IgnoredFits (before h n) a q (Some answer) in
        worker-shape scene is h w a (whats.Ignored (Some answer)) about done refl (reply-from scene h made n a answer at (subst Of e fits))
    by (ids.Shard s) whats.Issue e f done about fits = absurd cc
    by (ids.Shard s) whats.Repeat e f done about fits = absurd cc
    by (ids.Shard s) whats.Heard e f done about fits = shard-shape scene is h s a whats.Heard done refl (request-from scene h made n a at fits)
    by (ids.Shard s) (whats.Served answer) e f done about fits =
        shard-shape scene is h s a (whats.Served answer) done refl (request-from scene h made n a at fits)
    by (ids.Shard s) (whats.Again answer) e f done about fits =
        shard-shape scene is h s a (whats.Again answer) done refl (request-from scene h made n a at fits.0)
    by (ids.Shard s) (whats.Accepted answer) e f done about fits = absurd cc
    by (ids.Shard s) (whats.Ignored None) e f done about fits =
        let Of : NodeId → Type 0 = λ q. Rattle.kt_history.specs.WellFormed.IgnoredFits (before h n) a q None in
        shard-shape scene is h s a (whats.Ignored None) done refl (request-from scene h made n a at (subst Of e fits))
    by (ids.Shard s) (whats.Ignored (Some answer)) e f done about fits = absurd cc

-- ---- a log

pub acts-shaped : (scene : SceneModel) → IsScene scene → (h : List Note) → IsWellFormed h → AreMade scene h → (p : NodeId)
    → list_all (is_act_of p) (log_acts h p) ≡ true
acts-shaped scene is h wf made p = all (log h p) (λ n c. c)
  where
    all : (xs : List ℕ) → ((n : ℕ) → Contains xs n → Contains (log h p) n) → list_all (is_act_of p) (map (log_act h) (acts_at h xs)) ≡ true
    all [] among = refl
    all (k ∷ xs) among =
        let own = log-own h p k (among k (Contains-here k xs)) in
        let one : is_act_of p (log_act h own.act) ≡ true =
        subst (λ q. is_act_of q (log_act h own.act) ≡ true) own.own (shape scene is h wf made k own.act own.is_act) in
        ap (λ o. list_all (is_act_of p) (map (log_act h) (cons_option (act_of o) (acts_at h xs)))) own.is_act
        ∙ and_from _ _ one (all xs (λ n c. among n (Contains-there k xs n c)))
