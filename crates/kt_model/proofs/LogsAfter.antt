-- What a step notes, and what it makes of what each node remembers: at most one note, of its owner; an act at the end of
-- the owner's log, or a cut, which only a failure or a verdict that is learnt or told can bring.
-- Cited by Lasting.
use Rattle.std.proofs.Common.{◌≡◌, ℕ, suc, ◌+◌, ◌≤◌, Bool, true, false, cond, List, [], ◌∷◌, ◌++◌}
use Rattle.std.proofs.Common.{take, length, Option, Some, None, inl, inr, refl, sym, ap, ◌∙◌, subst, add-one, length-append, ◌<◌, arith}
use Rattle.std.specs.Prelude.{IsTrue}
use Rattle.std.proofs.lemmas.Bool.{cases_eq}
use Rattle.kt_tuple.specs.declared.node.NodeId.{NodeId}
use Rattle.kt_tuple.specs.Node.{node_index}
use Rattle.kt_tuple.proofs.Shared.{node_index-injective}
use Rattle.kt_history.specs.declared.note.Act.{Act}
use Rattle.kt_history.specs.declared.note.Note.{Note}
use Rattle.kt_history.specs.declared.note.Note.TheVariants as notes
use Rattle.kt_history.specs.Log.{log}
use Rattle.kt_history.proofs.Shared.{log-own_act, log-own_cut, log-other_act, log-other_cut}
use Rattle.kt_worker.specs.WorkerModel.{awaits}
use Rattle.kt_shard.specs.declared.request.Request.{Request}
use Rattle.kt_shard.specs.Arrival.{Arrival, Waits, Again, Ignored, arrival}
use Rattle.kt_state.specs.declared.message.Talk.{Talk}
use Rattle.kt_state.specs.declared.message.Talk.TheVariants as talks
use Rattle.kt_state.specs.declared.message.AppMessage.{AppMessage}
use Rattle.kt_state.specs.declared.message.Message.{Message}
use Rattle.kt_state.specs.declared.change.KeptChange.{KeptChange}
use Rattle.kt_state.specs.declared.change.KeptChange.TheVariants as keeps
use Rattle.kt_state.specs.declared.plan.Plan.{Plan}
use Rattle.kt_state.specs.Node.{Body, IsWorker, IsShard, Live}
use Rattle.kt_node.specs.View.{View}
use Rattle.kt_node.specs.Talking.{request_plan, talk_plan, heard_plan}
use Rattle.kt_scenario.specs.declared.step.Step.{Step}
use Rattle.kt_scenario.specs.declared.step.Step.TheVariants.{Issue, Repeat, Deliver, Take, Serve, Check, Decide, Abandon, Learn, Fail, Restart}
use Rattle.kt_model.specs.declared.store_reads.StoreReads.{StoreReads}
use Rattle.kt_scenario.specs.Step.{owner}
use Rattle.kt_scenario.specs.Scene.{SceneModel}
use Rattle.kt_model.specs.State.{State, view}
use Rattle.kt_model.specs.Effect.{noted, applied}
use Rattle.kt_model.specs.Headline.{NotesOneAtMost, nothing, one, is_verdict, is_verdict_first, may_forget, LogAfter, stays, grows, is_cut}
use Rattle.kt_model.proofs.Plans as plans
use Rattle.kt_model.proofs.Plans.{Comes, PlanOf}
use Rattle.kt_model.proofs.Sound.{MayNote}
use Rattle.kt_model.proofs.Applying.{Keeps}
use Rattle.kt_model.proofs.NoteSound.{apart}

-- ---- who cuts

-- no plan of hearing notes a cut
abbrev NotesAct : Plan → Type 0
NotesAct plan = (a : Act) × (plan.note ≡ Some (notes.Act a))

request_notes : (v : View) (n : Live) (kept : KeptChange) (from : NodeId) (app : AppMessage) (request : Request) (a : Arrival)
    → NotesAct (request_plan v n kept from app request a)
request_notes v n kept from app request Waits = (_, refl)
request_notes v n kept from app request (Again answer) = (_, refl)
request_notes v n kept from app request Ignored = (_, refl)

reply_notes : (b : Bool) (p q : Plan) → NotesAct p → NotesAct q → NotesAct (cond b p q)
reply_notes true p q first second = first
reply_notes false p q first second = second

talk_notes : (v : View) (n : Live) (kept : KeptChange) (from : NodeId) (app : AppMessage) (body : Body) (talk : Talk)
    → NotesAct (talk_plan v n kept from app body talk)
talk_notes v n kept from app (IsWorker x) (talks.Reply request answer) = reply_notes (awaits x request.number request.op) _ _ (_, refl) (_, refl)
talk_notes v n kept from app (IsWorker x) (talks.Request request) = (_, refl)
talk_notes v n kept from app (IsShard y) (talks.Request request) = request_notes v n kept from app request (arrival y _ request)
talk_notes v n kept from app (IsShard y) (talks.Reply request answer) = (_, refl)

abbrev Cuts : Plan → Type 0
Cuts plan = (q : NodeId) × (keep : ℕ) × (plan.note ≡ Some (notes.Cut q keep))

hearing_cuts : (v : View) (n : Live) (kept : KeptChange) (from : NodeId) (app : AppMessage) → Cuts (heard_plan v n kept from app) → ⊥
hearing_cuts v n kept from app cuts = let act = talk_notes v n kept from app n.body app.talk in cc (act.1, cuts.2)

-- a verdict that comes stands first on its link
told_forgets : (s : State) (p q : NodeId) (m : Message) → Comes s p q m → is_verdict m ≡ true → IsTrue (may_forget s (Deliver p q))
told_forgets s p q m comes verdict = subst (λ l. is_verdict_first l ≡ true) (sym comes.on) verdict

-- only a failure and a verdict bring a cut
pub cut_forgets : (s : State) (t : StoreReads) (step : Step) (plan : Plan) → PlanOf s t step plan → Cuts plan → IsTrue (may_forget s step)
cut_forgets s t (Issue p) plan (plans.issues is alive up works kept next) cuts = absurd (cc (cuts.2))
cut_forgets s t (Repeat p) plan (plans.repeats is alive up works again) cuts = absurd (cc (cuts.2))
cut_forgets s t (Serve p w place) plan (plans.serves is there alive up works chosen) cuts = absurd (cc (cuts.2))
cut_forgets s t (Take p) plan (plans.takes {from = from} {n = n} {app = app} is alive up first) cuts =
    absurd (hearing_cuts (view s p) n keeps.TakeFirst from app cuts)
cut_forgets s t (Deliver p q) plan (plans.hears {n = n} {app = app} comes alive up empty) cuts = absurd (hearing_cuts (view s q) n keeps.Stay p app cuts)
cut_forgets s t (Deliver p q) plan (plans.puts_by comes alive not_rolling) cuts = absurd (cc (cuts.2))
cut_forgets s t (Deliver p q) plan (plans.drops comes may) cuts = absurd (cc (cuts.2))
cut_forgets s t (Deliver p q) plan (plans.answers_check comes alive says) cuts = absurd (cc (cuts.2))
cut_forgets s t (Deliver p q) plan (plans.joins_check comes alive up undecided joins fit fits shaped) cuts = absurd (cc (cuts.2))
cut_forgets s t (Deliver p q) plan (plans.answers_rollback comes alive says) cuts = absurd (cc (cuts.2))
cut_forgets s t (Deliver p q) plan (plans.joins_rollback comes alive up undecided above fit) cuts = absurd (cc (cuts.2))
cut_forgets s t (Deliver p q) plan (plans.counts_vote comes alive votes_so counts_it) cuts = absurd (cc (cuts.2))
cut_forgets s t (Deliver p q) plan (plans.told_when_held comes alive holds same) cuts = told_forgets s p q _ comes refl
cut_forgets s t (Deliver p q) plan (plans.told_to_roll comes alive rolling joined same from_store) cuts = told_forgets s p q _ comes refl
cut_forgets s t (Deliver p q) plan (plans.told_to_go_on comes alive rolling joined same) cuts = told_forgets s p q _ comes refl
cut_forgets s t (Check p) plan (plans.begins_check is alive up fit shaped) cuts = absurd (cc (cuts.2))
cut_forgets s t (Decide p) plan (plans.decides is alive votes_so began undecided outcome) cuts = absurd (cc (cuts.2))
cut_forgets s t (Abandon p) plan (plans.gives_up is alive votes_so began undecided) cuts = absurd (cc (cuts.2))
cut_forgets s t (Abandon p) plan (plans.gives_up_down is down undecided) cuts = absurd (cc (cuts.2))
cut_forgets s t (Abandon p) plan (plans.declines is alive votes_so joined unvoted) cuts = absurd (cc (cuts.2))
cut_forgets s t (Learn p) plan of cuts = refl
cut_forgets s t (Fail p) plan of cuts = refl
cut_forgets s t (Restart p) plan (plans.restarts is down none undecided from_store) cuts = absurd (cc (cuts.2))
cut_forgets s t (Restart p) plan (plans.restarts_anew is alive rolling began verdict from_store) cuts = absurd (cc (cuts.2))

-- ---- what is noted

pub noted_one : (scene : SceneModel) (h : List Note) (p : NodeId) (note : Option Note) → MayNote scene h p note → NotesOneAtMost p h (noted h note)
noted_one scene h p None may = nothing
noted_one scene h p (Some (notes.Act a)) may = one (notes.Act a) may.0
noted_one scene h p (Some (notes.Cut q keep)) may = one (notes.Cut q keep) may.0

pub notes_one : (s : State) (step : Step) (plan : Plan) → Keeps s (owner step) plan → NotesOneAtMost (owner step) s.history (applied s step plan).history
notes_one s step plan keeps = noted_one s.scene s.history (owner step) plan.note keeps.may

-- ---- what is remembered

pub log_noted : (s : State) (step : Step) (note : Option Note) → MayNote s.scene s.history (owner step) note
    → ((q : NodeId) (keep : ℕ) → note ≡ Some (notes.Cut q keep) → IsTrue (may_forget s step))
    → (q : NodeId) → LogAfter s step (noted s.history note) q
log_noted s step None may forgets q = stays refl
log_noted s step (Some (notes.Act a)) may forgets q = elim (cases_eq (node_index (owner step)) (node_index q)) [
  | inr other ↦ stays (log-other_act s.history a q (apart (owner step) q a.node may.0 (λ e. other (ap node_index e))))
  | inl same ↦
      let is : owner step ≡ q = node_index-injective (owner step) q same in
      let here : a.node ≡ q = may.0 ∙ is in
      let last : suc (length s.history) ≡ length s.history + 1 = sym (add-one (length s.history)) in
      let Grown : NodeId → Type 0 = λ r. log (s.history ++ notes.Act a ∷ []) r ≡ log s.history r ++ suc (length s.history) ∷ [] in
      grows is (subst Grown here (log-own_act s.history a) ∙ ap (λ k. log s.history q ++ k ∷ []) last)
]
log_noted s step (Some (notes.Cut r keep)) may forgets q = elim (cases_eq (node_index (owner step)) (node_index q)) [
  | inr other ↦ stays (log-other_cut s.history r keep q (apart (owner step) q r may.0 (λ e. other (ap node_index e))))
  | inl same ↦
      let is : owner step ≡ q = node_index-injective (owner step) q same in
      let here : r ≡ q = may.0 ∙ is in
      let Cut : NodeId → Type 0 = λ x. log (s.history ++ notes.Cut r keep ∷ []) x ≡ take keep (log s.history x) in
      let Short : NodeId → Type 0 = λ x. keep ≤ length (log s.history x) in
      is_cut is (forgets r keep refl) keep (subst Short here may.1) (subst Cut here (log-own_cut s.history r keep))
]

pub log_after : (s : State) (t : StoreReads) (step : Step) (plan : Plan) → PlanOf s t step plan → Keeps s (owner step) plan → (q : NodeId)
    → LogAfter s step (applied s step plan).history q
log_after s t step plan of keeps q = log_noted s step plan.note keeps.may (λ r keep e. cut_forgets s t step plan of (r, keep, e)) q

-- so a log is shorter only behind a step of its own by which a node may forget
pub shorter_forgets : (s : State) (step : Step) (h : List Note) (q : NodeId) → LogAfter s step h q → length (log h q) < length (log s.history q)
    → (owner step ≡ q) × IsTrue (may_forget s step)
shorter_forgets s step h q (stays same) short = absurd (omega (arith, ap (λ (l : List ℕ). length l) same, short))
shorter_forgets s step h q (grows own more) short =
    absurd (omega (arith, ap (λ (l : List ℕ). length l) more, length-append (log s.history q) ((length s.history + 1) ∷ []), short))
shorter_forgets s step h q (is_cut own forgets keep within cut) short = (own, forgets)
