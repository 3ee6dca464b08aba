-- The acts of a worker: it issues what its script asks, repeats what is unanswered, accepts what it waits for, and
-- ignores the rest.
-- Cited by ActLeaves, ShardPlans.
use Rattle.std.proofs.Common.{◌≡◌, ℕ, ◌+◌, true, false, List, [], ◌∷◌, ◌++◌, length, Option, Some, None, refl, sym, ap, ◌∙◌, subst}
use Rattle.std.specs.Option.{option_map}
use Rattle.std.proofs.lemmas.Bool.{false≢true}
use Rattle.kt_tuple.specs.declared.node.NodeId.TheVariants as ids
use Rattle.kt_tuple.specs.declared.op.Op.{Op}
use Rattle.kt_tuple.specs.declared.op.Answer.{Answer}
use Rattle.kt_history.specs.declared.note.What.TheVariants as whats
use Rattle.kt_history.specs.declared.note.Act.{Act}
use Rattle.kt_history.specs.declared.note.Note.{Note}
use Rattle.kt_history.specs.declared.note.Note.TheVariants as notes
use Rattle.kt_history.specs.Log.{note_at}
use Rattle.kt_history.specs.Closed.{acts_in_log}
use Rattle.kt_history.specs.WellFormed.{IsShard, HeardReply}
use Rattle.kt_script.specs.declared.command.Command.{Command}
use Rattle.kt_worker.specs.declared.worker.Worker.{Worker}
use Rattle.kt_worker.specs.WorkerModel.{next_request, again_request, issued, awaits, heard}
use Rattle.kt_worker.specs.After.{last_number}
use Rattle.kt_worker.proofs.Shared.{Requests-next, heard-after, awaits-is, awaits-from}
use Rattle.kt_shard.specs.declared.request.Request.{Request}
use Rattle.kt_link.specs.declared.label.Label.{Label}
use Rattle.kt_state.specs.declared.message.Talk.{Talk}
use Rattle.kt_state.specs.declared.message.Talk.TheVariants as talks
use Rattle.kt_state.specs.declared.message.Message.{Message}
use Rattle.kt_state.specs.declared.message.Message.TheVariants as messages
use Rattle.kt_tuple.specs.declared.node.NodeId.{NodeId}
use Rattle.kt_state.specs.Node.{IsWorker}
use Rattle.kt_scenario.specs.Scene.{SceneModel}
use Rattle.kt_node.specs.Talking.{act_of, home, request_for}
use Rattle.kt_model.specs.Asks.{script_numbered}
use Rattle.kt_logs.specs.WorkerLog.{MadeWorker, Awaits, worker_after, worker_of_acts, new_worker}
use Rattle.kt_logs.proofs.Shared.{worker_of_acts-push}
use Rattle.kt_model.specs.Like.{IsWorkerLike}
use Rattle.kt_model.proofs.Sound.{IsReplyOf}
use Rattle.kt_model.proofs.NoteSound.{note_at-next}
use Rattle.kt_model.proofs.ActKeeps.{ActWell}

-- what the worker's acts make of it
abbrev made_of : List Note → ℕ → MadeWorker
made_of h w = worker_of_acts new_worker (acts_in_log h (ids.Worker w))

like-push : (script : List Command) (acts : List Act) (a : Act) (x : Worker) → IsWorkerLike script (worker_after (worker_of_acts new_worker acts) a) x
    → IsWorkerLike script (worker_of_acts new_worker (acts ++ a ∷ [])) x
like-push script acts a x like = subst (λ m. IsWorkerLike script m x) (sym (worker_of_acts-push new_worker acts a)) like

-- the next note's act says this
abbrev pub posting : List Note → NodeId → Label → Talk → List (NodeId × Message)
posting h to l talk = (to, messages.App record { talk = talk; label = l; by = length h + 1 }) ∷ []

pub issued_well : (scene : SceneModel) (h : List Note) (w : ℕ) (x : Worker) (r : ℕ × Op) (l : Label)
    → IsWorkerLike (script_numbered scene.scripts w) (made_of h w) x
    → next_request (script_numbered scene.scripts w) x ≡ Some r
    → ActWell scene h (ids.Worker w) (IsWorker (issued (script_numbered scene.scripts w) x))
    (posting h (home scene.shards r.1) l (talks.Request (request_for r)))
    (act_of (ids.Worker w) 0 w (request_for r) whats.Issue)
issued_well scene h w x r l like next =
    let script : List Command = script_numbered scene.scripts w in
    let made : MadeWorker = made_of h w in
    let q = Requests-next script made.answers x r like.after next in
    let free : made.asked ≡ None = sym like.asked ∙ q.free in
    let a : Act = act_of (ids.Worker w) 0 w (request_for r) whats.Issue in record {
      own = refl;
      may = (refl, (free, q.number, q.asks_for));
      fits = refl;
      like = like-push script (acts_in_log h (ids.Worker w)) a (issued script x) (record { asked = q.asked; after = q.after });
      sends = (record { act = a; is_act = note_at-next h (notes.Act a); own = refl; asking = tt; worker = refl; number = refl; op = refl; home = refl }, tt);
    }

-- what is asked again is unanswered
again-is : (x : Worker) (r : ℕ × Op) → again_request x ≡ Some r → (x.number ≡ r.0) × (x.asked ≡ Some r.1)
again-is x r e = by x.asked refl e
  where
    by : (o : Option Op) → x.asked ≡ o → option_map (λ (op : Op). (x.number, op)) o ≡ Some r → (x.number ≡ r.0) × (x.asked ≡ Some r.1)
    by None is e = absurd cc
    by (Some op) is e = let same : (x.number, op) ≡ r = cc (e) in (ap (λ (z : ℕ × Op). z.0) same, is ∙ ap (λ (z : ℕ × Op). Some z.1) same)

pub repeated_well : (scene : SceneModel) (h : List Note) (w : ℕ) (x : Worker) (r : ℕ × Op) (l : Label)
    → IsWorkerLike (script_numbered scene.scripts w) (made_of h w) x
    → again_request x ≡ Some r
    → ActWell scene h (ids.Worker w) (IsWorker x) (posting h (home scene.shards r.1) l (talks.Request (request_for r)))
    (act_of (ids.Worker w) 0 w (request_for r) whats.Repeat)
repeated_well scene h w x r l like e =
    let script : List Command = script_numbered scene.scripts w in
    let made : MadeWorker = made_of h w in
    let i = again-is x r e in
    let a : Act = act_of (ids.Worker w) 0 w (request_for r) whats.Repeat in record {
      own = refl;
      may = (refl, (sym i.0 ∙ like.after.number ∙ ap (λ o. last_number o (length made.answers)) i.1, sym like.asked ∙ i.1));
      fits = refl;
      like = like-push script (acts_in_log h (ids.Worker w)) a x like;
      sends = (record { act = a; is_act = note_at-next h (notes.Act a); own = refl; asking = tt; worker = refl; number = refl; op = refl; home = refl }, tt);
    }

-- what the worker waits for is what its acts say
Awaits-like : (script : List Command) (made : MadeWorker) (x : Worker) (request : Request) → IsWorkerLike script made x
    → awaits x request.number request.op ≡ true → Awaits request.number request.op made
Awaits-like script made x request like e =
    let i = awaits-is x request.number request.op e in
    (sym i.0 ∙ like.after.number ∙ ap (λ o. last_number o (length made.answers)) i.1, sym like.asked ∙ i.1)

awaits-from_Awaits : (script : List Command) (made : MadeWorker) (x : Worker) (request : Request) → IsWorkerLike script made x
    → Awaits request.number request.op made → awaits x request.number request.op ≡ true
awaits-from_Awaits script made x request like h =
    let asked : x.asked ≡ Some request.op = like.asked ∙ h.1 in
    awaits-from x request.number request.op (like.after.number ∙ ap (λ o. last_number o (length made.answers)) asked ∙ sym h.0) asked

-- what was heard was answered by a shard
heard_reply : (h : List Note) (s w : ℕ) (request : Request) (answer : Answer) (by : ℕ) (a : Act) → IsReplyOf h s w request answer by → a.by ≡ by → a.worker ≡ w
    → a.number ≡ request.number → a.op ≡ request.op → HeardReply h a answer
heard_reply h s w request answer by a m cause worker number op = record {
  cause = m.act;
  is_cause = subst (λ n. note_at h n ≡ Some (notes.Act m.act)) (sym cause) m.is_act;
  at_shard = subst IsShard (sym m.own) tt;
  answering = m.answering;
  same = record { worker = m.worker ∙ sym worker; number = m.number ∙ sym number; op = m.op ∙ sym op };
}

pub accepted_well : (scene : SceneModel) (h : List Note) (s w : ℕ) (x : Worker) (request : Request) (answer : Answer) (by : ℕ)
    → IsWorkerLike (script_numbered scene.scripts w) (made_of h w) x
    → IsReplyOf h s w request answer by → awaits x request.number request.op ≡ true
    → ActWell scene h (ids.Worker w) (IsWorker (heard (script_numbered scene.scripts w) x answer)) []
    (act_of (ids.Worker w) by w request (whats.Accepted answer))
accepted_well scene h s w x request answer by like m e =
    let script : List Command = script_numbered scene.scripts w in
    let made : MadeWorker = made_of h w in
    let a : Act = act_of (ids.Worker w) by w request (whats.Accepted answer) in record {
      own = refl;
      may = (refl, Awaits-like script made x request like e);
      fits = heard_reply h s w request answer by a m refl refl refl refl;
      like = like-push script (acts_in_log h (ids.Worker w)) a (heard script x answer)
          (record { asked = refl; after = heard-after script made.answers x request.op answer like.after (awaits-is x request.number request.op e).1 });
      sends = tt;
    }

pub ignored_well : (scene : SceneModel) (h : List Note) (s w : ℕ) (x : Worker) (request : Request) (answer : Answer) (by : ℕ)
    → IsWorkerLike (script_numbered scene.scripts w) (made_of h w) x
    → IsReplyOf h s w request answer by → awaits x request.number request.op ≡ false
    → ActWell scene h (ids.Worker w) (IsWorker x) [] (act_of (ids.Worker w) by w request (whats.Ignored (Some answer)))
ignored_well scene h s w x request answer by like m e =
    let script : List Command = script_numbered scene.scripts w in
    let a : Act = act_of (ids.Worker w) by w request (whats.Ignored (Some answer)) in record {
      own = refl;
      may = (refl, λ k. false≢true (sym e ∙ awaits-from_Awaits script (made_of h w) x request like k));
      fits = heard_reply h s w request answer by a m refl refl refl refl;
      like = like-push script (acts_in_log h (ids.Worker w)) a x like;
      sends = tt;
    }
