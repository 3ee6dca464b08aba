-- A plan that notes an act of a node that is up keeps the state sound where the act does.
-- Cited by ActLeaves, ShardPlans, WorkerPlans.
use Rattle.std.proofs.Common.{◌≡◌, ◌≢◌, List, [], ◌∷◌, ◌++◌, length, Contains, Option, Some, None, sym, ap, ◌∙◌, subst}
use Rattle.std.specs.Option.{option_map}
use Rattle.kt_tuple.specs.declared.node.NodeId.{NodeId}
use Rattle.kt_tuple.specs.declared.node.NodeId.TheVariants as ids
use Rattle.kt_history.specs.declared.note.Act.{Act}
use Rattle.kt_history.specs.declared.note.Note.{Note}
use Rattle.kt_history.specs.declared.note.Note.TheVariants as notes
use Rattle.kt_history.specs.Closed.{acts_in_log}
use Rattle.kt_history.specs.WellFormed.{Fits}
use Rattle.kt_history.proofs.Shared.{acts_in_log-own_act}
use Rattle.kt_store.specs.Content.{row_of, verdict_on}
use Rattle.kt_state.specs.declared.message.Message.{Message}
use Rattle.kt_state.specs.declared.message.AppMessage.{AppMessage}
use Rattle.kt_state.specs.declared.live.Phase.TheVariants as phases
use Rattle.kt_state.specs.declared.change.Update.{Update}
use Rattle.kt_state.specs.declared.change.KeptChange.{KeptChange}
use Rattle.kt_state.specs.declared.change.Change.TheVariants as changes
use Rattle.kt_state.specs.Node.{Body, Live, Node, Alive}
use Rattle.kt_state.specs.Updating.{changed, changed_body, changed_kept, phase_in, updated}
use Rattle.kt_scenario.specs.Scene.{SceneModel, script_at}
use Rattle.kt_model.specs.State.{State}
use Rattle.kt_model.specs.Asks.{setting_of}
use Rattle.kt_logs.proofs.Shared.{MayMake}
use Rattle.kt_model.proofs.Plans.{IsAlive}
use Rattle.kt_model.specs.Cut.{acts_held}
use Rattle.kt_model.specs.Like.{IsBodyLike}
use Rattle.kt_model.proofs.Sound.{EndsRolling, IsNodeSound, NodeSoundIn, IsSound, SendWell}
use Rattle.kt_model.proofs.NoteSound.{noted-says}
use Rattle.kt_model.proofs.Applying.{Keeps}
use Rattle.kt_model.proofs.StoredFronts.{stored-push}

-- the node p may make the act, which makes this of what it works with, and this is sent
pub record ActWell (scene : SceneModel) (h : List Note) (p : NodeId) (becomes : Body) (send : List (NodeId × Message)) (a : Act) : Type 0 where
  pub own : a.node ≡ p
  pub may : MayMake (setting_of scene) p (acts_in_log h p) a
  pub fits : Fits h (notes.Act a)
  pub like : IsBodyLike scene.scripts p (acts_in_log h p ++ a ∷ []) becomes
  pub sends : SendWell scene.shards (h ++ notes.Act a ∷ []) p send

-- nothing is kept that was not
abbrev pub KeepsNoMore : Live → KeptChange → Type 0
KeepsNoMore n change = (x : NodeId × AppMessage) → Contains (changed_kept n.kept change) x → Contains n.kept x

-- of a worker the scene says that it is there
abbrev pub IsThere : SceneModel → NodeId → Type 0
IsThere scene (ids.Worker w) = script_at scene.scripts w ≢ None
IsThere scene (ids.Shard r) = Unit {0}

pub act_keeps : (s : State) (p : NodeId) (n : Live) (old : Body) (t : Update) (send : List (NodeId × Message)) (a : Act) → IsSound s → IsAlive s p n
    → n.phase ≡ phases.Up
    → n.body ≡ old → t.phase ≡ None → KeepsNoMore n t.kept → ActWell s.scene s.history p (changed_body old t.body) send a
    → Keeps s p (record { change = changes.Update t; send = send; note = Some (notes.Act a); write = None })
act_keeps s p n old t send a sound alive up works same fewer well = record {
  may = (well.own, well.may, well.fits);
  sends = well.sends;
  noes = λ i was. was;
  sound = subst Of (sym alive) (subst Acts (sym log) now);
}
  where
    Of : Option Node → Type 0
    Of row = NodeSoundIn s.scene (s.history ++ notes.Act a ∷ []) s.content p (option_map (changed (changes.Update t)) row)

    Acts : List Act → Type 0
    Acts l = IsNodeSound s.scene (s.history ++ notes.Act a ∷ []) p l (Some (Alive (updated t n))) (row_of s.content p).permanent (row_of s.content p).tentative
        (verdict_on s.content (row_of s.content p).tentative)

    log : acts_in_log (s.history ++ notes.Act a ∷ []) p ≡ acts_in_log s.history p ++ a ∷ []
    log = subst (λ r. acts_in_log (s.history ++ notes.Act a ∷ []) r ≡ acts_in_log s.history r ++ a ∷ []) well.own (acts_in_log-own_act s.history a)

    was : NodeSoundIn s.scene s.history s.content p (Some (Alive n))
    was = subst (NodeSoundIn s.scene s.history s.content p) alive (sound.nodes p)

    phase : phase_in n.phase t.phase ≡ phases.Up
    phase = ap (phase_in n.phase) same ∙ up

    now : Acts (acts_in_log s.history p ++ a ∷ [])
    now = record {
      like = subst (λ b. IsBodyLike s.scene.scripts p (acts_in_log s.history p ++ a ∷ []) (changed_body b t.body)) (sym works) well.like;
      kept = λ x c. noted-says s.scene.shards s.history (Some (notes.Act a)) x.0 p x.1.talk x.1.by (was.kept x (fewer x c));
      stored = stored-push s.scene p (acts_in_log s.history p) a (row_of s.content p).permanent (row_of s.content p).tentative
          (verdict_on s.content (row_of s.content p).tentative) was.stored;
      ends = subst (EndsRolling (length (acts_in_log s.history p ++ a ∷ [])) (acts_held (row_of s.content p).permanent)) (sym phase) tt;
    }
