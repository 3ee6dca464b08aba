-- An act of a node that is up stands at the end of its log, and on the machine's stack.
-- Cited by Acted, Closing, Forcing, Hearing, Sending, Serving.
use Rattle.std.proofs.Common.{◌≡◌, ◌≢◌, ℕ, ◌+◌, ◌≤◌, List, [], ◌∷◌, ◌++◌, length, Contains, Option, Some, inl, inr, sym, ap, subst, ◌∙◌, add-one}
use Rattle.std.proofs.lemmas.List.{take-append-le}
use Rattle.kt_tuple.specs.declared.node.NodeId.{NodeId}
use Rattle.kt_tuple.specs.Node.{node_index}
use Rattle.kt_history.specs.declared.note.Act.{Act as Done}
use Rattle.kt_history.specs.declared.note.Note.{Note}
use Rattle.kt_history.specs.declared.note.Note.TheVariants as notes
use Rattle.kt_history.specs.Log.{note_at, log}
use Rattle.kt_history.proofs.Shared.{Contains-none}
use Rattle.std.proofs.lemmas.List.Elements.{Contains-push_cases}
use Rattle.kt_history.proofs.Shared.{log-own_act}
use Rattle.kt_link.specs.declared.label.Label.{Label as RealLabel}
use Rattle.kt_shard.proofs.Shared.{at-put_same, at-put_other}
use Rattle.kt_shard.specs.Table.{put}
use Rattle.kt_ckpt.specs.declared.ckpt.Ckpt.{Ckpt}
use Rattle.kt_state.specs.Labels.{no_label, label_at}
use Rattle.kt_state.specs.Node.{node_number, across}
use Rattle.kt_scenario.specs.Scene.{SceneModel}
use Rattle.kt_model.specs.Cut.{acts_held}
use Rattle.kt_model.specs.Effect.{noted}
use Rattle.kt_model.specs.auxiliary.Ready.{AreNeighbours}
use Rattle.kt_model.proofs.Shared.{note_at-next}
use Rattle.kt_protocol.specs.Labels.{Label}
use Rattle.kt_protocol.specs.Logs.{IsIn, here, there, Act, Sends, Hears, Resumes, top_sent, top_heard}
use Rattle.kt_protocol.proofs.Shared.{sent-here, sent-else, sent-heard, heard-here, heard-else, heard-sent}
use Rattle.kt_refinement.proofs.Numbers.{label_of}
use Rattle.kt_refinement.proofs.Reading.{IsSaying, Says, Reads, nothing, found, one, IsKnown, was_heard, was_before, AllTalk, reads-later}
use Rattle.kt_refinement.proofs.Represents.{LabelsAre, Stands}
use Rattle.kt_refinement.proofs.Cohorts.{is_across}
use Rattle.kt_refinement.proofs.Frames.{cases-node, apart-index}

-- ---- logs

-- the log of the act's node
pub log-more : (h : List Note) (a : Done) (p : NodeId) → a.node ≡ p → log (h ++ notes.Act a ∷ []) p ≡ log h p ++ (length h + 1) ∷ []
log-more h a p own =
    let P : NodeId → Type 0 = λ q. log (h ++ notes.Act a ∷ []) q ≡ log h q ++ (length h + 1) ∷ [] in
    subst P own (log-own_act h a ∙ ap (λ n. log h a.node ++ n ∷ []) (sym (add-one (length h))))

-- a checkpoint of acts before this one
pub stands-more : (scene : SceneModel) (h : List Note) (next : Option Note) (p : NodeId) (numbers : List ℕ) (n : ℕ) (stored : Option Ckpt) (acts : List Act)
    → acts_held stored ≤ length numbers → Stands scene h p numbers stored acts → Stands scene (noted h next) p (numbers ++ n ∷ []) stored acts
stands-more scene h next p numbers n stored acts short s = record {
  reads =
      let R : List ℕ → Type 0 = λ l. Reads (noted h next) l acts in
      subst R (sym (take-append-le (acts_held stored) numbers (n ∷ []) short)) (reads-later next s.reads);
  sent = s.sent;
  received = s.received;
}

-- the stack with the acts of the next note on it
pub reads-more : (h : List Note) (a : Done) (numbers : List ℕ) (acts new : List Act) → Reads h numbers acts
    → ((by y : ℕ) (l : Label) → IsIn (Sends by y l) new → by ≡ length h + 1) → (IsSaying a.what → Says (length h + 1) new)
    → ((by x : ℕ) (l : Label) → IsIn (Hears by x l) new → a.by ≡ by) → (a.by ≢ 0 → IsKnown a.by (new ++ acts)) → AllTalk new
    → Reads (h ++ notes.Act a ∷ []) (numbers ++ (length h + 1) ∷ []) (new ++ acts)
reads-more h a numbers acts new reads sends says hears cause talks =
    one (length h + 1) new (reads-later (Some (notes.Act a)) reads)
    (record { act = a; is_act = note_at-next h (notes.Act a); sends = sends; says = says; hears = hears; cause = cause; talks = talks })

-- ---- tables

-- two neighbours of one node have two numbers
numbers-apart : (scene : SceneModel) (p q r : NodeId) → AreNeighbours scene p q → AreNeighbours scene p r → q ≢ r → node_number q ≢ node_number r
numbers-apart scene p q r near far d e = d ((is_across scene p q near).is ∙ ap (across p) e ∙ sym (is_across scene p r far).is)

-- a message is sent
pub sent-more : (scene : SceneModel) (p q : NodeId) (table : List RealLabel) (l : RealLabel) (by : ℕ) (acts : List Act) → AreNeighbours scene p q
    → LabelsAre scene p (label_at table) top_sent acts
    → LabelsAre scene p (label_at (put no_label table (node_number q) l)) top_sent (Sends by (node_index q) (label_of l) ∷ acts)
sent-more scene p q table l by acts near are r far = elim (cases-node q r) [
  | inl e ↦
      let P : NodeId → Type 0 =
      λ z. label_of (label_at (put no_label table (node_number q) l) (node_number z)) ≡ top_sent (Sends by (node_index q) (label_of l) ∷ acts) (node_index z) in
      subst P e (ap label_of (at-put_same no_label table (node_number q) l) ∙ sym (sent-here by (node_index q) (label_of l) acts))
  | inr d ↦
      ap label_of (at-put_other no_label table (node_number q) (node_number r) l (λ e. numbers-apart scene p q r near far d (sym e))) ∙ are r far
      ∙ sym (sent-else by (node_index q) (node_index r) (label_of l) acts (apart-index q r d))
]

pub sent-unheard : (scene : SceneModel) (p : NodeId) (table : ℕ → RealLabel) (by x : ℕ) (l : Label) (acts : List Act) → LabelsAre scene p table top_sent acts
    → LabelsAre scene p table top_sent (Hears by x l ∷ acts)
sent-unheard scene p table by x l acts are r far = are r far ∙ sym (sent-heard by x (node_index r) l acts)

-- a message is heard
pub heard-more : (scene : SceneModel) (p q : NodeId) (table : List RealLabel) (l : RealLabel) (by : ℕ) (acts : List Act) → AreNeighbours scene p q
    → LabelsAre scene p (label_at table) top_heard acts
    → LabelsAre scene p (label_at (put no_label table (node_number q) l)) top_heard (Hears by (node_index q) (label_of l) ∷ acts)
heard-more scene p q table l by acts near are r far = elim (cases-node q r) [
  | inl e ↦
      let P : NodeId → Type 0 =
      λ z. label_of (label_at (put no_label table (node_number q) l) (node_number z))
      ≡ top_heard (Hears by (node_index q) (label_of l) ∷ acts) (node_index z) in
      subst P e (ap label_of (at-put_same no_label table (node_number q) l) ∙ sym (heard-here by (node_index q) (label_of l) acts))
  | inr d ↦
      ap label_of (at-put_other no_label table (node_number q) (node_number r) l (λ e. numbers-apart scene p q r near far d (sym e))) ∙ are r far
      ∙ sym (heard-else by (node_index q) (node_index r) (label_of l) acts (apart-index q r d))
]

pub heard-unsent : (scene : SceneModel) (p : NodeId) (table : ℕ → RealLabel) (by y : ℕ) (l : Label) (acts : List Act) → LabelsAre scene p table top_heard acts
    → LabelsAre scene p table top_heard (Sends by y l ∷ acts)
heard-unsent scene p table by y l acts are r far = are r far ∙ sym (heard-sent by y (node_index r) l acts)

pub in-append : (xs ys : List Act) (x : Act) → IsIn x ys → IsIn x (xs ++ ys)
in-append [] ys x i = i
in-append (y ∷ xs) ys x i = there (in-append xs ys x i)

pub same-act : (h : List Note) (n m : ℕ) (a b : Done) → m ≡ n → note_at h m ≡ Some (notes.Act a) → note_at h n ≡ Some (notes.Act b) → a ≡ b
same-act h n m a b e f g = inner (sym f ∙ ap (note_at h) e ∙ g) where
  inner : Some (notes.Act a) ≡ Some (notes.Act b) → a ≡ b
  inner e = cc (e)

pub known-more : (new acts : List Act) (by : ℕ) → IsKnown by acts → IsKnown by (new ++ acts)
known-more new acts by (was_heard w) =
    was_heard (record { from = w.from; label = w.label; among = in-append new acts (Hears by w.from w.label) w.among })
known-more new acts by (was_before w) = was_before (record {
  node = w.node;
  first = w.first;
  sent = w.sent;
  heard = w.heard;
  among = in-append new acts (Resumes w.node w.first w.sent w.heard) w.among;
  below = w.below;
})

-- the cause of an act that stands in the log was heard, or came before the node was resumed
pub cause-heard : {h : List Note} {numbers : List ℕ} {acts : List Act} → Reads h numbers acts → (n : ℕ) (a : Done)
    → Contains numbers n → note_at h n ≡ Some (notes.Act a) → a.by ≢ 0 → IsKnown a.by acts
cause-heard {h} nothing n a on is some = absurd (Contains-none n on)
cause-heard {h} (found numbers p first sent heard all) n a on is some = was_before (record {
  node = node_index p;
  first = first;
  sent = sent;
  heard = heard;
  among = here;
  below = all.causes n a on is;
})
cause-heard {h} (one {numbers} {acts} m new reads act) n a on is some =
    elim (Contains-push_cases numbers m n on) [
      | inl old ↦ known-more new acts a.by (cause-heard reads n a old is some)
      | inr e ↦
          let same : act.act ≡ a = same-act h n m act.act a e act.is_act is in
          subst (λ (b : Done). b.by ≢ 0 → IsKnown b.by (new ++ acts)) same act.cause some
    ]
