-- What one more note makes of logs: an act, a cut, or none. What a message carries stays.
-- Cited by ActKeeps, Applying, CheckLeaves, Cutting, Fit, Gives, HeldActs, LogsAfter, PermanentPart, Resuming, Saves,
--   ShardPlans, WorkerPlans; other crates.
use Rattle.std.proofs.Common.{◌≡◌, ◌≢◌, ℕ, suc, ◌+◌, false, List, [], ◌∷◌, ◌++◌, length}
use Rattle.std.proofs.Common.{Contains, Option, Some, None, refl, sym, ap, ◌∙◌, subst, ne_eqb, add-one}
use Rattle.std.specs.List.{cons_option}
use Rattle.kt_tuple.specs.declared.node.NodeId.{NodeId}
use Rattle.kt_tuple.specs.declared.node.NodeId.TheVariants as ids
use Rattle.kt_tuple.specs.declared.op.Answer.{Answer}
use Rattle.kt_tuple.specs.Node.{node_index}
use Rattle.kt_tuple.proofs.Shared.{node_index-injective}
use Rattle.kt_history.specs.declared.note.Note.{Note}
use Rattle.kt_history.specs.declared.note.Note.TheVariants as notes
use Rattle.kt_history.specs.Log.{note_at, log, same_node, IsAct}
use Rattle.kt_history.specs.Closed.{act_of, acts_at, acts_in_log}
use Rattle.kt_history.specs.WellFormed.{IsWellFormed}
use Rattle.kt_history.proofs.Shared.{acts_in_log-other_act, acts_in_log-other_cut, log-own, note_at-old, note_at-new, note_at-within}
use Rattle.kt_history.proofs.Shared.{Contains-here, Contains-there}
use Rattle.kt_shard.specs.declared.request.Request.{Request}
use Rattle.kt_logs.specs.Legal.{AreLegal}
use Rattle.kt_logs.proofs.Shared.{MayMake, AreLegal-act, AreLegal-cut}
use Rattle.kt_history.proofs.Shared.{IsWellFormed-push}
use Rattle.kt_state.specs.declared.message.Talk.{Talk}
use Rattle.kt_state.specs.declared.message.Talk.TheVariants as talks
use Rattle.kt_state.specs.declared.message.Message.{Message}
use Rattle.kt_state.specs.declared.message.Message.TheVariants as messages
use Rattle.kt_state.specs.Node.{Node, Down, Alive}
use Rattle.kt_scenario.specs.Scene.{SceneModel}
use Rattle.kt_model.specs.Asks.{setting_of}
use Rattle.kt_model.specs.Effect.{noted}
use Rattle.kt_model.proofs.Sound.{MayNote, IsRequestOf, IsReplyOf, SaysSo, Carries, AreKept}

pub noted-legal : (scene : SceneModel) (h : List Note) (p : NodeId) (note : Option Note) → AreLegal (setting_of scene) h → MayNote scene h p note
    → AreLegal (setting_of scene) (noted h note)
noted-legal scene h p None legal may = legal
noted-legal scene h p (Some (notes.Act a)) legal may =
    AreLegal-act (setting_of scene) h a legal (subst (λ q. MayMake (setting_of scene) q (acts_in_log h q) a) (sym may.0) may.1)
noted-legal scene h p (Some (notes.Cut q keep)) legal may = AreLegal-cut (setting_of scene) h q keep legal

pub noted-well_formed : (scene : SceneModel) (h : List Note) (p : NodeId) (note : Option Note) → IsWellFormed h → MayNote scene h p note
    → IsWellFormed (noted h note)
noted-well_formed scene h p None wf may = wf
noted-well_formed scene h p (Some (notes.Act a)) wf may = IsWellFormed-push h (notes.Act a) wf may.2
noted-well_formed scene h p (Some (notes.Cut q keep)) wf may = IsWellFormed-push h (notes.Cut q keep) wf may.1

-- an act or a cut of one node is not of another
pub apart : (p q r : NodeId) → r ≡ p → p ≢ q → same_node r q ≡ false
apart p q r own d = ne_eqb (node_index r) (node_index q) (λ e. d (sym own ∙ node_index-injective r q e))

-- the logs of other nodes stay
pub noted-others : (scene : SceneModel) (h : List Note) (p : NodeId) (note : Option Note) → MayNote scene h p note → (q : NodeId) → p ≢ q
    → acts_in_log (noted h note) q ≡ acts_in_log h q
noted-others scene h p None may q d = refl
noted-others scene h p (Some (notes.Act a)) may q d = acts_in_log-other_act h a q (apart p q a.node may.0 d)
noted-others scene h p (Some (notes.Cut r keep)) may q d = acts_in_log-other_cut h r keep q (apart p q r may.0 d)

-- ---- what a message carries stays as the history grows

IsRequestOf-old : (shards : ℕ) (h g : List Note) (w s : ℕ) (request : Request) (by : ℕ) → IsRequestOf shards h w s request by
    → IsRequestOf shards (h ++ g) w s request by
IsRequestOf-old shards h g w s request by m = record {
  act = m.act;
  is_act = note_at-old h g by (note_at-within h by (notes.Act m.act) m.is_act).1 ∙ m.is_act;
  own = m.own;
  asking = m.asking;
  worker = m.worker;
  number = m.number;
  op = m.op;
  home = m.home;
}

IsReplyOf-old : (h g : List Note) (s w : ℕ) (request : Request) (answer : Answer) (by : ℕ) → IsReplyOf h s w request answer by
    → IsReplyOf (h ++ g) s w request answer by
IsReplyOf-old h g s w request answer by m = record {
  act = m.act;
  is_act = note_at-old h g by (note_at-within h by (notes.Act m.act) m.is_act).1 ∙ m.is_act;
  own = m.own;
  answering = m.answering;
  worker = m.worker;
  number = m.number;
  op = m.op;
}

says-old : (shards : ℕ) (h g : List Note) (p q : NodeId) (talk : Talk) (by : ℕ) → SaysSo shards h p q talk by → SaysSo shards (h ++ g) p q talk by
says-old shards h g (ids.Worker w) (ids.Shard s) (talks.Request request) by c = IsRequestOf-old shards h g w s request by c
says-old shards h g (ids.Worker w) (ids.Shard s) (talks.Reply request answer) by c = c
says-old shards h g (ids.Shard s) (ids.Worker w) (talks.Request request) by c = c
says-old shards h g (ids.Shard s) (ids.Worker w) (talks.Reply request answer) by c = IsReplyOf-old h g s w request answer by c
says-old shards h g (ids.Worker w) (ids.Worker v) talk by c = c
says-old shards h g (ids.Shard s) (ids.Shard r) talk by c = c

pub noted-says : (shards : ℕ) (h : List Note) (note : Option Note) (p q : NodeId) (talk : Talk) (by : ℕ) → SaysSo shards h p q talk by
    → SaysSo shards (noted h note) p q talk by
noted-says shards h None p q talk by c = c
noted-says shards h (Some note) p q talk by c = says-old shards h (note ∷ []) p q talk by c

pub noted-carries : (shards : ℕ) (h : List Note) (note : Option Note) (p q : NodeId) (m : Message) → Carries shards h p q m
    → Carries shards (noted h note) p q m
noted-carries shards h next p q (messages.App app) c = noted-says shards h next p q app.talk app.by c
noted-carries shards h next p q (messages.CheckAsk ask) c = tt
noted-carries shards h next p q (messages.RollAsk ask) c = tt
noted-carries shards h next p q (messages.Vote vote) c = tt
noted-carries shards h next p q (messages.Verdict instance agreed) c = tt

pub noted-kept : (shards : ℕ) (h : List Note) (note : Option Note) (p : NodeId) (node : Option Node) → AreKept shards h p node
    → AreKept shards (noted h note) p node
noted-kept shards h next p None kept = tt
noted-kept shards h next p (Some Down) kept = tt
noted-kept shards h next p (Some (Alive n)) kept = λ x c. noted-says shards h next x.0 p x.1.talk x.1.by (kept x c)

-- the note that comes next
pub note_at-next : (h : List Note) (note : Note) → note_at (h ++ note ∷ []) (length h + 1) ≡ Some note
note_at-next h note = ap (note_at (h ++ note ∷ [])) (add-one (length h)) ∙ note_at-new h note

-- ---- a log has as many acts as numbers

acts_at-long : (h : List Note) (xs : List ℕ) → ((n : ℕ) → Contains xs n → IsAct h n) → length (acts_at h xs) ≡ length xs
acts_at-long h [] acts = refl
acts_at-long h (k ∷ xs) acts =
    let a = acts k (Contains-here k xs) in
    ap (λ o. length (cons_option (act_of o) (acts_at h xs))) a.1 ∙ ap suc (acts_at-long h xs (λ n c. acts n (Contains-there k xs n c)))

pub log-long : (h : List Note) (p : NodeId) → length (acts_in_log h p) ≡ length (log h p)
log-long h p = acts_at-long h (log h p) (λ n c. let own = log-own h p n c in (own.act, own.is_act))
