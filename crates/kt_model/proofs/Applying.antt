-- To carry out a plan changes its owner, the links of the owner, what is stored of the owner, the board and the history
-- alone; so a plan that keeps its owner sound keeps the state sound.
-- Cited by ActKeeps, ActLeaves, CheckLeaves, Cutting, FailLeaves, Kept, LogsAfter, QuietLeaves, RollLeaves,
--   StepSound, Updates.
use Rattle.std.proofs.Common.{◌≡◌, ◌≢◌, ℕ, List, Contains, length, Option, Some, None, inl, inr, sym, subst}
use Rattle.std.specs.Option.{option_map}
use Rattle.kt_tuple.specs.declared.node.NodeId.{NodeId}
use Rattle.kt_history.specs.declared.note.Act.{Act}
use Rattle.kt_history.specs.declared.note.Note.{Note}
use Rattle.kt_history.specs.Closed.{acts_in_log}
use Rattle.kt_ckpt.specs.declared.ckpt.Ckpt.{Ckpt}
use Rattle.kt_store.specs.declared.rows.NodeRow.{NodeRow}
use Rattle.kt_store.specs.declared.rows.Tentative.{Tentative}
use Rattle.kt_store.specs.declared.rows.Verdict.{Verdict}
use Rattle.kt_store.specs.declared.rows.Verdict.TheVariants as verdicts
use Rattle.kt_store.specs.Content.{Content, row_of, verdict_on}
use Rattle.kt_state.specs.declared.message.Message.{Message}
use Rattle.kt_state.specs.declared.plan.Plan.{Plan}
use Rattle.kt_state.specs.Node.{Node, Down, Alive}
use Rattle.kt_state.specs.Updating.{changed}
use Rattle.kt_scenario.specs.declared.step.Step.{Step}
use Rattle.kt_scenario.specs.Step.{owner}
use Rattle.kt_scenario.specs.Scene.{SceneModel}
use Rattle.kt_model.specs.State.{State, node, link, link_place}
use Rattle.kt_model.specs.Writing.{content_after}
use Rattle.kt_model.specs.Effect.{taken_off, noted, applied}
use Rattle.kt_logs.proofs.Shared.{all-at}
use Rattle.kt_model.proofs.OnLinks.{taken_off-was, sent-cases, sent_between}
use Rattle.kt_model.proofs.Frames.{applied-rows}
use Rattle.kt_model.proofs.NoteSound.{noted-legal, noted-well_formed, noted-others, noted-carries, noted-kept}
use Rattle.kt_model.proofs.Writes.{other-rows}
use Rattle.kt_model.proofs.Sound.{Carries, EndsDown, EndsAs, IsStored, IsNodeSound, NodeSoundIn, IsSound, MayNote, SendWell, NoesStay}

-- ---- what a plan keeps

-- a plan of the node p that keeps the state sound: all of it speaks of what p works with, of what is stored of it, of
-- the history and of what is sent
pub record Keeps (s : State) (p : NodeId) (plan : Plan) : Type 0 where
  pub may : MayNote s.scene s.history p plan.note
  pub sends : SendWell s.scene.shards (noted s.history plan.note) p plan.send
  pub noes : NoesStay s.content (content_after p plan.write s.content)
  pub sound : NodeSoundIn s.scene (noted s.history plan.note) (content_after p plan.write s.content) p (option_map (changed plan.change) (node s p))

-- a No that comes takes nothing away
stored-later : (scene : SceneModel) (p : NodeId) (acts : List Act) (old : Option Ckpt) (taken : Option Tentative) (before after : Option Verdict)
    → (before ≡ Some verdicts.No → after ≡ Some verdicts.No) → IsStored scene p acts old taken before → IsStored scene p acts old taken after
stored-later scene p acts old taken before after stays stored =
    record { permanent = stored.permanent; tentative = λ fine. stored.tentative (λ e. fine (stays e)) }

ends_down-later : (long permanent : ℕ) (tentative : Option Tentative) (before after : Option Verdict) → (before ≡ Some verdicts.No → after ≡ Some verdicts.No)
    → EndsDown long permanent before tentative → EndsDown long permanent after tentative
ends_down-later long permanent None before after stays ends = ends
ends_down-later long permanent (Some t) before after stays ends = λ fine. ends (λ e. fine (stays e))

ends-later : (long permanent : ℕ) (tentative : Option Tentative) (before after : Option Verdict) (node : Option Node)
    → (before ≡ Some verdicts.No → after ≡ Some verdicts.No) → EndsAs long permanent tentative before node → EndsAs long permanent tentative after node
ends-later long permanent tentative before after None stays ends = tt
ends-later long permanent tentative before after (Some Down) stays ends = ends_down-later long permanent tentative before after stays ends
ends-later long permanent tentative before after (Some (Alive n)) stays ends = ends

-- the verdict on what is tentative
verdict-later : (c d : Content) (tentative : Option Tentative) → NoesStay c d → verdict_on c tentative ≡ Some verdicts.No
    → verdict_on d tentative ≡ Some verdicts.No
verdict-later c d None stays e = absurd cc
verdict-later c d (Some t) stays e = stays t.instance e

-- a node stays sound as the history grows, and as verdicts come
pub sound-later : (scene : SceneModel) (h : List Note) (c d : Content) (note : Option Note) (p : NodeId) (acts : List Act) (node : Option Node) (row : NodeRow)
    → NoesStay c d → IsNodeSound scene h p acts node row.permanent row.tentative (verdict_on c row.tentative)
    → IsNodeSound scene (noted h note) p acts node row.permanent row.tentative (verdict_on d row.tentative)
sound-later scene h c d note p acts node row stays sound =
    let later = verdict-later c d row.tentative stays in record {
      like = sound.like;
      kept = noted-kept scene.shards h note p node sound.kept;
      stored = stored-later scene p acts row.permanent row.tentative (verdict_on c row.tentative) (verdict_on d row.tentative) later sound.stored;
      ends = ends-later (length acts) _ row.tentative (verdict_on c row.tentative) (verdict_on d row.tentative) node later sound.ends;
    }

-- ---- all

applied-nodes : (s : State) (step : Step) (plan : Plan) → IsSound s → Keeps s (owner step) plan → (q : NodeId)
    → NodeSoundIn s.scene (noted s.history plan.note) (content_after (owner step) plan.write s.content) q (node (applied s step plan) q)
applied-nodes s step plan sound keeps = applied-rows s step plan (NodeSoundIn s.scene h c) keeps.sound others
  where
    h : List Note
    h = noted s.history plan.note

    c : Content
    c = content_after (owner step) plan.write s.content

    others : (q : NodeId) → owner step ≢ q → NodeSoundIn s.scene h c q (node s q)
    others q other =
        let Acts : List Act → Type 0 =
        λ acts. IsNodeSound s.scene h q acts (node s q) (row_of c q).permanent (row_of c q).tentative (verdict_on c (row_of c q).tentative) in
        let Row : NodeRow → Type 0 =
        λ row. IsNodeSound s.scene h q (acts_in_log s.history q) (node s q) row.permanent row.tentative (verdict_on c row.tentative) in
        let stays : row_of c q ≡ row_of s.content q = other-rows (owner step) plan.write s.content q (λ e. other (sym e)) in
        subst Acts (sym (noted-others s.scene s.history (owner step) plan.note keeps.may q other))
        (subst Row (sym stays)
        (sound-later s.scene s.history s.content c plan.note q (acts_in_log s.history q) (node s q) (row_of s.content q) keeps.noes (sound.nodes q)))

applied-carries : (s : State) (step : Step) (plan : Plan) → IsSound s → Keeps s (owner step) plan → (p q : NodeId) (m : Message)
    → Contains (link (applied s step plan) p q) m
    → Carries s.scene.shards (noted s.history plan.note) p q m
applied-carries s step plan sound keeps p q m c =
    elim (sent-cases (link_place s.scene) (taken_off (link_place s.scene) s.links step) (owner step) plan.send (link_place s.scene p q) m c) [
      | inl old ↦
          noted-carries s.scene.shards s.history plan.note p q m
          (sound.carries p q m (taken_off-was (link_place s.scene) s.links step (link_place s.scene p q) m old))
      | inr new ↦
          let ends = sent_between s.scene (owner step) plan.send p q m new in
          let well : Carries s.scene.shards (noted s.history plan.note) (owner step) new.to m =
          all-at (λ (x : NodeId × Message). Carries s.scene.shards (noted s.history plan.note) (owner step) x.0 x.1) plan.send
          (new.to, m) keeps.sends new.among in
          subst (λ x. Carries s.scene.shards (noted s.history plan.note) p x m) ends.1
          (subst (λ x. Carries s.scene.shards (noted s.history plan.note) x new.to m) ends.0 well)
    ]

pub applied-sound : (s : State) (step : Step) (plan : Plan) → IsSound s → Keeps s (owner step) plan → IsSound (applied s step plan)
applied-sound s step plan sound keeps = record {
  legal = noted-legal s.scene s.history (owner step) plan.note sound.legal keeps.may;
  well_formed = noted-well_formed s.scene s.history (owner step) plan.note sound.well_formed keeps.may;
  nodes = applied-nodes s step plan sound keeps;
  carries = applied-carries s step plan sound keeps;
}
