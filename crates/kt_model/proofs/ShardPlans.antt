-- The acts of a shard: it hears what is new, answers again what it keeps, ignores the rest, and serves what waits.
-- Cited by ActLeaves; other crates.
use Rattle.std.proofs.Common.{if◌then◌else◌, ◌≡◌, ◌≢◌, ℕ, ◌<◌, ◌==◌, Bool, true, false, List, [], ◌∷◌, ◌++◌}
use Rattle.std.proofs.Common.{Contains, Option, Some, None, Ok, refl, sym, ap, ◌∙◌, subst, eq-eqb, eqb-true}
use Rattle.std.proofs.lemmas.Bool.{and_parts, and_from}
use Rattle.kt_tuple.specs.declared.node.NodeId.TheVariants as ids
use Rattle.kt_tuple.specs.declared.op.Answer.{Answer}
use Rattle.kt_tuple.specs.Op.{op_eq, op_eq_decides}
use Rattle.kt_tuple.specs.Signature.{kinds_of_op, shard_of}
use Rattle.kt_history.specs.declared.note.What.TheVariants as whats
use Rattle.kt_history.specs.declared.note.Act.{Act}
use Rattle.kt_history.specs.declared.note.Note.{Note}
use Rattle.kt_history.specs.declared.note.Note.TheVariants as notes
use Rattle.kt_history.specs.Log.{note_at, before, log}
use Rattle.kt_history.specs.Closed.{acts_in_log}
use Rattle.kt_history.specs.WellFormed.{HeardRequest, WasServed, ActFits, IsWellFormed}
use Rattle.kt_shard.specs.declared.request.Request.{Request}
use Rattle.kt_shard.specs.declared.request.CachedReply.{CachedReply}
use Rattle.kt_shard.specs.declared.session.Session.{Session}
use Rattle.kt_link.specs.declared.label.Label.{Label}
use Rattle.kt_script.specs.declared.command.Command.{Command}
use Rattle.kt_state.specs.declared.message.Talk.TheVariants as talks
use Rattle.kt_shard.specs.Service.{Service, service, left_by, cached_of, served}
use Rattle.kt_state.specs.Node.{IsShard}
use Rattle.kt_shard.specs.Shard.{Shard}
use Rattle.kt_shard.specs.Table.{at, put}
use Rattle.kt_shard.specs.Session.{empty_session, newest, same_request, answer_if_cached, answer_unless_waiting, cached_answer}
use Rattle.kt_node.specs.Talking.{act_of}
use Rattle.kt_shard.specs.Arrival.{waiting_shard}
use Rattle.kt_logs.specs.Cause.{cause_of_waiting}
use Rattle.kt_scenario.specs.Scene.{SceneModel, script_at}
use Rattle.kt_model.specs.Asks.{setting_of}
use Rattle.kt_logs.specs.Legal.{AreLegal}
use Rattle.kt_logs.specs.ShardLog.{MadeShard, Hears, AnswersAgain, Ignores, shard_after, shard_of_acts, new_shard, put_row}
use Rattle.kt_logs.proofs.Shared.{put_row_holds, step_like}
use Rattle.kt_shard.proofs.Shared.{at-put_same, at-put_other}
use Rattle.kt_shard.proofs.Shared.{service-due, service-step}
use Rattle.kt_logs.proofs.Shared.{WasHeard, waits_heard, ServedIn, keeps_served, ShardLog-home, Contains-acts_at, cause_found, before_at}
use Rattle.kt_logs.proofs.Shared.{shard_of_acts-push}
use Rattle.kt_model.specs.Like.{IsShardLike}
use Rattle.kt_model.proofs.Sound.{IsRequestOf}
use Rattle.kt_model.proofs.NoteSound.{note_at-next}
use Rattle.kt_model.proofs.ActKeeps.{ActWell}
use Rattle.kt_model.proofs.WorkerPlans.{posting}

-- what the shard's acts make of it
abbrev made_of : List Note → ℕ → MadeShard
made_of h s = shard_of_acts new_shard (acts_in_log h (ids.Shard s))

like-push : (scripts : List (List Command)) (acts : List Act) (a : Act) (y : Shard) → IsShardLike scripts (shard_after (shard_of_acts new_shard acts) a) y
    → IsShardLike scripts (shard_of_acts new_shard (acts ++ a ∷ [])) y
like-push scripts acts a y like = subst (λ m. IsShardLike scripts m y) (sym (shard_of_acts-push new_shard acts a)) like

-- a session put into both tables leaves them alike
sessions_like : (sessions : List Session) (made : ℕ → Session) (w : ℕ) (session new : Session) → ((v : ℕ) → at empty_session sessions v ≡ made v)
    → session ≡ new →
    (v : ℕ) → at empty_session (put empty_session sessions w session) v ≡ put_row w new made v
sessions_like sessions made w session new like same =
    put_row_holds (λ v z. at empty_session (put empty_session sessions w session) v ≡ z) w new made (at-put_same empty_session sessions w session ∙ same)
    (λ v d. at-put_other empty_session sessions w v session (λ e. d (sym e)) ∙ like v)

-- a session that stays leaves the table as it was
sessions_stay : (sessions : List Session) (made : ℕ → Session) (w : ℕ) → ((v : ℕ) → at empty_session sessions v ≡ made v) → (v : ℕ)
    → at empty_session sessions v ≡ put_row w (made w) made v
sessions_stay sessions made w like = put_row_holds (λ v z. at empty_session sessions v ≡ z) w (made w) made (like w) (λ v d. like v)

-- a session that is put where the scene has a worker leaves those empty where it has none
others_empty : (scripts : List (List Command)) (sessions : List Session) (w : ℕ) (session : Session) → script_at scripts w ≢ None
    → ((v : ℕ) → script_at scripts v ≡ None → at empty_session sessions v ≡ empty_session)
    → (v : ℕ) → script_at scripts v ≡ None → at empty_session (put empty_session sessions w session) v ≡ empty_session
others_empty scripts sessions w session there none v out = at-put_other empty_session sessions w v session (λ e. there (ap (script_at scripts) (sym e) ∙ out))
    ∙ none v out

-- the test of answering again
pub cached_answer-is : (d : Session) (request : Request) (answer : Answer) → cached_answer d request ≡ Some answer → AnswersAgain request answer d
cached_answer-is d request answer = by d.waiting d.cached
  where
    same : (cached : CachedReply) → (if same_request cached.request request then Some cached.answer else None) ≡ Some answer
        → Some cached ≡ Some (record { request = request; answer = answer })
    same cached = at' (same_request cached.request request) refl
      where
        at' : (r : Bool) → same_request cached.request request ≡ r → (if r then Some cached.answer else None) ≡ Some answer
            → Some cached ≡ Some (record { request = request; answer = answer })
        at' true e given =
            let both = and_parts (cached.request.number == request.number) (op_eq cached.request.op request.op) e in
            let n : cached.request.number ≡ request.number = eqb-true cached.request.number request.number both.0 in
            let o : cached.request.op ≡ request.op = (op_eq_decides cached.request.op request.op).0 both.1 in
            let a : cached.answer ≡ answer = cc (given) in
            λ i. Some (record { request = record { number = n i; op = o i }; answer = a i })
        at' false e given = absurd cc

    by : (waiting : Option Request) (cached : Option CachedReply) → answer_unless_waiting waiting cached request ≡ Some answer
        → (waiting ≡ None) × (cached ≡ Some (record { request = request; answer = answer }))
    by None None e = absurd cc
    by None (Some cached) e = (refl, same cached e)
    by (Some other) cached e = absurd cc

pub cached_answer-none : (d : Session) (request : Request) → cached_answer d request ≡ None → (answer : Answer) → ¬ AnswersAgain request answer d
cached_answer-none d request none answer h = absurd (by d.waiting d.cached h.0 h.1 none)
  where
    itself : same_request request request ≡ true
    itself =
        and_from (request.number == request.number) (op_eq request.op request.op) (eq-eqb request.number request.number refl)
        ((op_eq_decides request.op request.op).1 refl)

    by : (waiting : Option Request) (cached : Option CachedReply) → waiting ≡ None → cached ≡ Some (record { request = request; answer = answer })
        → answer_unless_waiting waiting cached request ≡ None → ⊥
    by None None w k e = cc (k)
    by None (Some cached) w k e =
        let same : cached ≡ record { request = request; answer = answer } = cc (k) in
        let found : answer_if_cached (Some cached) request ≡ Some answer =
        ap (λ (z : CachedReply). answer_if_cached (Some z) request) same ∙ ap (λ b. if b then Some answer else None) itself in
        cc (found, e)
    by (Some other) cached w k e = cc (w)

-- what was heard was asked for
heard_request : (shards : ℕ) (h : List Note) (w s : ℕ) (request : Request) (by : ℕ) (a : Act) → IsRequestOf shards h w s request by → a.by ≡ by → a.worker ≡ w
    → a.number ≡ request.number → a.op ≡ request.op → HeardRequest h a
heard_request shards h w s request by a m cause worker number op = record {
  cause = m.act;
  is_cause = subst (λ n. note_at h n ≡ Some (notes.Act m.act)) (sym cause) m.is_act;
  asking = m.asking;
  same = record { worker = m.worker ∙ sym worker; number = m.number ∙ sym number; op = m.op ∙ sym op };
}

pub heard_well : (scene : SceneModel) (h : List Note) (w s : ℕ) (y : Shard) (request : Request) (by : ℕ) → IsShardLike scene.scripts (made_of h s) y
    → IsRequestOf scene.shards h w s request by
    → script_at scene.scripts w ≢ None → newest (at empty_session y.sessions w) < request.number
    → ActWell scene h (ids.Shard s) (IsShard (waiting_shard y w request)) [] (act_of (ids.Shard s) by w request whats.Heard)
heard_well scene h w s y request by like m there new =
    let made : MadeShard = made_of h s in
    let a : Act = act_of (ids.Shard s) by w request whats.Heard in record {
      own = refl;
      may = (m.home, subst (Hears request.number) (like.sessions w) new);
      fits = heard_request scene.shards h w s request by a m refl refl refl refl;
      like = like-push scene.scripts (acts_in_log h (ids.Shard s)) a (waiting_shard y w request) (record {
        bag = like.bag;
        sessions =
            sessions_like y.sessions made.session w (record { waiting = Some request; cached = (at empty_session y.sessions w).cached })
            (record { waiting = Some request; cached = (made.session w).cached }) like.sessions
            (ap (λ (d : Session). record { waiting = Some request; cached = d.cached }) (like.sessions w));
        others = others_empty scene.scripts y.sessions w (record { waiting = Some request; cached = (at empty_session y.sessions w).cached }) there like.others;
      });
      sends = tt;
    }

-- what is kept was served, and that stands in the log
was_served : (h : List Note) (w s : ℕ) (request : Request) (answer : Answer) (a : Act) → AnswersAgain request answer ((made_of h s).session w)
    → a.node ≡ ids.Shard s → a.worker ≡ w → a.number ≡ request.number → a.op ≡ request.op → WasServed h a answer
was_served h w s request answer a again node worker number op =
    let cached : ServedIn (acts_in_log h (ids.Shard s)) w (record { request = request; answer = answer }) =
    keeps_served (acts_in_log h (ids.Shard s)) w (record { request = request; answer = answer }) again.1 in
    let n = Contains-acts_at h (log h (ids.Shard s)) cached.act cached.among in record {
      service = n.0;
      stands = subst (λ p. Contains (log h p) n.0) (sym node) n.1;
      act = cached.act;
      is_act = n.2;
      served = cached.serves;
      same =
          record {
            worker = cached.worker ∙ sym worker;
            number = ap (λ (r : Request). r.number) cached.about ∙ sym number;
            op = ap (λ (r : Request). r.op) cached.about ∙ sym op;
          };
    }

pub again_well : (scene : SceneModel) (h : List Note) (w s : ℕ) (y : Shard) (request : Request) (answer : Answer) (by : ℕ) (l : Label)
    → IsShardLike scene.scripts (made_of h s) y
    → IsRequestOf scene.shards h w s request by → AnswersAgain request answer (at empty_session y.sessions w)
    → ActWell scene h (ids.Shard s) (IsShard y) (posting h (ids.Worker w) l (talks.Reply request answer))
    (act_of (ids.Shard s) by w request (whats.Again answer))
again_well scene h w s y request answer by l like m again =
    let made : MadeShard = made_of h s in
    let known : AnswersAgain request answer (made.session w) = subst (AnswersAgain request answer) (like.sessions w) again in
    let a : Act = act_of (ids.Shard s) by w request (whats.Again answer) in record {
      own = refl;
      may = (m.home, known);
      fits = (heard_request scene.shards h w s request by a m refl refl refl refl, was_served h w s request answer a known refl refl refl refl);
      like =
          like-push scene.scripts (acts_in_log h (ids.Shard s)) a y
          (record { bag = like.bag; sessions = sessions_stay y.sessions made.session w like.sessions; others = like.others });
      sends = (record { act = a; is_act = note_at-next h (notes.Act a); own = refl; answering = refl; worker = refl; number = refl; op = refl }, tt);
    }

pub ignored_well : (scene : SceneModel) (h : List Note) (w s : ℕ) (y : Shard) (request : Request) (by : ℕ) → IsShardLike scene.scripts (made_of h s) y
    → IsRequestOf scene.shards h w s request by
    → Ignores request (at empty_session y.sessions w) → ActWell scene h (ids.Shard s) (IsShard y) [] (act_of (ids.Shard s) by w request (whats.Ignored None))
ignored_well scene h w s y request by like m ignores =
    let made : MadeShard = made_of h s in
    let a : Act = act_of (ids.Shard s) by w request (whats.Ignored None) in record {
      own = refl;
      may = (m.home, subst (Ignores request) (like.sessions w) ignores);
      fits = heard_request scene.shards h w s request by a m refl refl refl refl;
      like =
          like-push scene.scripts (acts_in_log h (ids.Shard s)) a y
          (record { bag = like.bag; sessions = sessions_stay y.sessions made.session w like.sessions; others = like.others });
      sends = tt;
    }

-- what waits at a shard was asked for, by the act that its last hearing names
waiting_request : (scene : SceneModel) (h : List Note) (w s : ℕ) (request : Request) (a : Act) → IsWellFormed h
    → ((made_of h s).session w).waiting ≡ Some request
    → a.by ≡ (made_of h s).cause w → a.worker ≡ w → a.number ≡ request.number → a.op ≡ request.op → HeardRequest h a
waiting_request scene h w s request a wf waits cause worker number op =
    let heard : WasHeard (acts_in_log h (ids.Shard s)) w request ((made_of h s).cause w) = waits_heard (acts_in_log h (ids.Shard s)) w request waits in
    let n = Contains-acts_at h (log h (ids.Shard s)) heard.act heard.among in
    let fits : HeardRequest (before h n.0) heard.act = subst (ActFits (before h n.0) heard.act) heard.hears (wf.fits n.0 (notes.Act heard.act) n.2) in record {
      cause = fits.cause;
      is_cause = ap (note_at h) (cause ∙ sym heard.by) ∙ (before_at h n.0 heard.act.by (notes.Act fits.cause) fits.is_cause).1;
      asking = fits.asking;
      same = record {
        worker = fits.same.worker ∙ heard.worker ∙ sym worker;
        number = fits.same.number ∙ ap (λ (r : Request). r.number) heard.about ∙ sym number;
        op = fits.same.op ∙ ap (λ (r : Request). r.op) heard.about ∙ sym op;
      };
    }

-- and is at home there
waiting_home : (scene : SceneModel) (h : List Note) (w s : ℕ) (request : Request) → AreLegal (setting_of scene) h
    → ((made_of h s).session w).waiting ≡ Some request
    → shard_of scene.shards (kinds_of_op request.op) ≡ s
waiting_home scene h w s request legal waits =
    let heard : WasHeard (acts_in_log h (ids.Shard s)) w request ((made_of h s).cause w) = waits_heard (acts_in_log h (ids.Shard s)) w request waits in
    ap (λ (r : Request). shard_of scene.shards (kinds_of_op r.op)) (sym heard.about)
    ∙ ShardLog-home scene.shards s new_shard (acts_in_log h (ids.Shard s)) heard.act (legal (ids.Shard s)) heard.among

pub served_well : (scene : SceneModel) (h : List Note) (w s : ℕ) (y : Shard) (place : ℕ) (v : Service) (l : Label) → AreLegal (setting_of scene) h
    → IsWellFormed h
    → IsShardLike scene.scripts (made_of h s) y
    → script_at scene.scripts w ≢ None → service y w place ≡ Ok v
    → ActWell scene h (ids.Shard s) (IsShard (served y w v)) (posting h (ids.Worker w) l (talks.Reply v.request v.answer))
    (act_of (ids.Shard s) (cause_of_waiting h (ids.Shard s) w) w v.request (whats.Served v.answer))
served_well scene h w s y place v l legal wf like there chosen =
    let made : MadeShard = made_of h s in
    let waits : (made.session w).waiting ≡ Some v.request = ap (λ (d : Session). d.waiting) (sym (like.sessions w)) ∙ (service-due y w place v chosen).waited in
    let cause : cause_of_waiting h (ids.Shard s) w ≡ made.cause w = cause_found (acts_in_log h (ids.Shard s)) w in
    let step = step_like made.bag y.bag v.request.op v.answer (left_by y.bag v.request.op v.place) like.bag (service-step y w place v chosen) in
    let a : Act = act_of (ids.Shard s) (cause_of_waiting h (ids.Shard s) w) w v.request (whats.Served v.answer) in record {
      own = refl;
      may = (waiting_home scene h w s v.request legal waits, (waits, cause, step.0));
      fits = waiting_request scene h w s v.request a wf waits cause refl refl refl;
      like = like-push scene.scripts (acts_in_log h (ids.Shard s)) a (served y w v) (record {
        bag = step.1;
        sessions =
            sessions_like y.sessions made.session w (record { waiting = None; cached = Some (cached_of v) })
            (record { waiting = None; cached = Some (cached_of v) }) like.sessions refl;
        others = others_empty scene.scripts y.sessions w (record { waiting = None; cached = Some (cached_of v) }) there like.others;
      });
      sends = (record { act = a; is_act = note_at-next h (notes.Act a); own = refl; answering = refl; worker = refl; number = refl; op = refl }, tt);
    }
