-- A log of note numbers, oldest first, as the acts of the machine, newest first. Labels stand in the acts alone.
-- Cited by Acted, Acting, Agreeing, Checking, Closing, Falling, Forcing, Frames, Hearing, Hears, Letters, Loading,
--   Opened, Represents, Restarts, Resumed, RollsBack, Sending, Serving.
use Rattle.std.proofs.Common.{◌≡◌, ◌≢◌, ℕ, ◌≤◌, List, [], ◌∷◌, ◌++◌, length, Contains, Option, Some, None, sym, ◌∙◌, length-append, arith}
use Rattle.kt_tuple.specs.declared.node.NodeId.{NodeId}
use Rattle.kt_tuple.specs.Node.{node_index}
use Rattle.kt_history.specs.declared.note.Act.{Act as Done}
use Rattle.kt_history.specs.declared.note.Note.{Note}
use Rattle.kt_history.specs.declared.note.Note.TheVariants as notes
use Rattle.kt_history.specs.declared.note.What.{What}
use Rattle.kt_history.specs.declared.note.What.TheVariants as whats
use Rattle.kt_history.specs.Log.{note_at}
use Rattle.kt_history.proofs.Shared.{note_at-old, note_at-within}
use Rattle.kt_model.specs.Effect.{noted}
use Rattle.kt_protocol.specs.Labels.{Label}
use Rattle.kt_protocol.specs.Logs.{IsIn, Act, Sends, Hears, Resumes, IsTalk}

-- the act `by` was heard, of some node and under some label
pub record WasHeard (by : ℕ) (acts : List Act) : Type 0 where
  pub from : ℕ
  pub label : Label
  pub among : IsIn (Hears by from label) acts

-- the act of this number came before its node was resumed, or another's did that is on this stack
pub record IsFound (n : ℕ) (acts : List Act) : Type 0 where
  pub node : ℕ
  pub first : ℕ
  pub sent : ℕ → Label
  pub heard : ℕ → Label
  pub among : IsIn (Resumes node first sent heard) acts
  pub below : n ≤ first

-- the act `by` was heard, or came before its hearer was resumed
pub data IsKnown (by : ℕ) (acts : List Act) : Type 0 where
  was_heard : WasHeard by acts → IsKnown by acts
  was_before : IsFound by acts → IsKnown by acts

-- these numbers are all acts of p up to `first`, and so are their causes
pub record AreAll (h : List Note) (p : NodeId) (first : ℕ) (numbers : List ℕ) : Type 0 where
  pub told : first ≤ length h
  pub below : (n : ℕ) → Contains numbers n → n ≤ first
  pub causes : (n : ℕ) (a : Done) → Contains numbers n → note_at h n ≡ Some (notes.Act a) → a.by ≤ first
  pub whole : (n : ℕ) (a : Done) → n ≤ first → note_at h n ≡ Some (notes.Act a) → a.node ≡ p → Contains numbers n

abbrev pub AllTalk : List Act → Type 0
AllTalk [] = Unit {0}
AllTalk (a ∷ acts) = IsTalk a × AllTalk acts

-- an act of this kind sends a message
abbrev pub IsSaying : What → Type 0
IsSaying whats.Issue = Unit {0}
IsSaying whats.Repeat = Unit {0}
IsSaying (whats.Served answer) = Unit {0}
IsSaying (whats.Again answer) = Unit {0}
IsSaying what = ⊥

-- the act `by` sends a message
pub record Says (by : ℕ) (acts : List Act) : Type 0 where
  pub to : ℕ
  pub label : Label
  pub among : IsIn (Sends by to label) acts

-- the act of this number puts `new` on the machine's acts: what it sends bears its number, and it sends if it is of such
-- a kind; what is heard there is its cause, and its cause is heard there or was before
pub record ReadsAs (h : List Note) (n : ℕ) (acts new : List Act) : Type 0 where
  pub act : Done
  pub is_act : note_at h n ≡ Some (notes.Act act)
  pub sends : (by y : ℕ) (l : Label) → IsIn (Sends by y l) new → by ≡ n
  pub says : IsSaying act.what → Says n new
  pub hears : (by x : ℕ) (l : Label) → IsIn (Hears by x l) new → act.by ≡ by
  pub cause : act.by ≢ 0 → IsKnown act.by (new ++ acts)
  pub talks : AllTalk new

pub data Reads (h : List Note) : List ℕ → List Act → Type 0 where
  nothing : Reads h [] []
  -- the acts before p was resumed: the machine has the last labels of them alone
  found : (numbers : List ℕ) (p : NodeId) (first : ℕ) (sent heard : ℕ → Label) → AreAll h p first numbers
      → Reads h numbers (Resumes (node_index p) first sent heard ∷ [])
  one : {numbers : List ℕ} {acts : List Act} (n : ℕ) (new : List Act) → Reads h numbers acts → ReadsAs h n acts new → Reads h (numbers ++ n ∷ []) (new ++ acts)

-- the history grows
reads_as-later : (h : List Note) (note : Option Note) (n : ℕ) (acts new : List Act) → ReadsAs h n acts new → ReadsAs (noted h note) n acts new
reads_as-later h None n acts new r = r
reads_as-later h (Some note) n acts new r = record {
  act = r.act;
  is_act = note_at-old h (note ∷ []) n (note_at-within h n (notes.Act r.act) r.is_act).1 ∙ r.is_act;
  sends = r.sends;
  says = r.says;
  hears = r.hears;
  cause = r.cause;
  talks = r.talks;
}

-- the notes up to `first` are as they were
all-later : (h : List Note) (next : Option Note) (p : NodeId) (first : ℕ) (numbers : List ℕ) → AreAll h p first numbers
    → AreAll (noted h next) p first numbers
all-later h None p first numbers all = all
all-later h (Some note) p first numbers all = record {
  told = let e = length-append h (note ∷ []) in let f = all.told in omega (arith, e, f);
  below = all.below;
  causes = λ n a on is. all.causes n a on (sym (was n (all.below n on)) ∙ is);
  whole = λ n a le is own. all.whole n a le (sym (was n le) ∙ is) own;
} where
  was : (n : ℕ) → n ≤ first → note_at (h ++ note ∷ []) n ≡ note_at h n
  was n le = note_at-old h (note ∷ []) n (let f = all.told in omega (arith, le, f))

pub reads-later : {h : List Note} {numbers : List ℕ} {acts : List Act} (next : Option Note) → Reads h numbers acts → Reads (noted h next) numbers acts
reads-later {h} next nothing = nothing
reads-later {h} next (found numbers p first sent heard all) = found numbers p first sent heard (all-later h next p first numbers all)
reads-later {h} next (one {numbers} {acts} n new r act) = one n new (reads-later next r) (reads_as-later h next n acts new act)
