-- A node that is up makes an act: what it sends and hears stands on the machine's stack, and the node behind it stands
-- for what becomes of it.
-- Cited by Hearing, Sending.
use Rattle.std.proofs.Common.{◌≡◌, ◌≢◌, ℕ, ◌+◌, ◌≤◌, List, [], ◌∷◌, ◌++◌, length, Option, Some, None, sym, subst, arith}
use Rattle.kt_tuple.specs.declared.node.NodeId.{NodeId}
use Rattle.kt_tuple.specs.Node.{node_index}
use Rattle.kt_history.specs.declared.note.Act.{Act as Done}
use Rattle.kt_history.specs.declared.note.Note.TheVariants as notes
use Rattle.kt_history.specs.Log.{log}
use Rattle.kt_link.specs.declared.label.Label.{Label as RealLabel}
use Rattle.kt_store.specs.declared.rows.Tentative.{Tentative}
use Rattle.kt_store.specs.Content.{row_of, verdict_on}
use Rattle.kt_state.specs.declared.live.Phase.TheVariants as phases
use Rattle.kt_state.specs.declared.change.BodyChange.{BodyChange}
use Rattle.kt_state.specs.declared.change.KeptChange.{KeptChange}
use Rattle.kt_state.specs.declared.change.Update.{Update as Updating}
use Rattle.kt_state.specs.Labels.{label_at}
use Rattle.kt_state.specs.Node.{Live, Alive, next_label}
use Rattle.kt_state.specs.Updating.{no_update}
use Rattle.kt_state.specs.Updating.{changed_kept, heard_in, said_count, said_in, updated}
use Rattle.kt_model.specs.State.{State as World}
use Rattle.kt_model.specs.Cut.{acts_held, permanent_by}
use Rattle.kt_model.proofs.Shared.{IsAlive, backed-in, log-long, Holds}
use Rattle.kt_protocol.specs.Labels.{Label}
use Rattle.kt_protocol.specs.Logs.{IsIn, Act, Sends, Hears, top_sent, top_heard}
use Rattle.kt_protocol.specs.Machine.{Node, AppMessage, State}
use Rattle.kt_refinement.proofs.Reading.{IsSaying, Says, IsKnown, AllTalk}
use Rattle.kt_refinement.proofs.Represents.{kept_from, LabelsAre, NodeIs, NodeIn, Stands, TentativeIs, undecided, Represents}
use Rattle.kt_refinement.proofs.Known.{alive-is}
use Rattle.kt_refinement.proofs.RollsBack.{stored-stands}
use Rattle.kt_refinement.proofs.Acting.{log-more, stands-more, reads-more}

-- the update of an act: this becomes of what the node works with and of what it keeps, this is heard, and so many are told
abbrev pub act_update : BodyChange → KeptChange → Option (NodeId × RealLabel) → Option NodeId → Updating
act_update body kept heard said = record no_update { body = body; kept = kept; heard = heard; said = said }

-- the machine's node with these acts on its stack, this count, and this kept
abbrev pub acted : List Act → ℕ → (ℕ → List AppMessage) → Node → Node
acted acts count kept x = record x { count = count; log = acts ++ x.log; kept = kept }

-- what the acts, the count and what is kept have to be
pub record ActsAs (s : World) (p : NodeId) (n : Live) (t : Updating) (a : Done) (x : Node) (acts : List Act) (count : ℕ) (kept : ℕ → List AppMessage) : Type 0
  where
    pub own : a.node ≡ p
    pub sends : (by y : ℕ) (l : Label) → IsIn (Sends by y l) acts → by ≡ length s.history + 1
    pub says : IsSaying a.what → Says (length s.history + 1) acts
    pub hears : (by x : ℕ) (l : Label) → IsIn (Hears by x l) acts → a.by ≡ by
    pub cause : a.by ≢ 0 → IsKnown a.by (acts ++ x.log)
    pub talks : AllTalk acts
    pub counted : said_count n.count t.said ≡ count
    pub sent : LabelsAre s.scene p (label_at (said_in (next_label n) n.sent t.said)) top_sent (acts ++ x.log)
    pub received : LabelsAre s.scene p (label_at (heard_in n.received t.heard)) top_heard (acts ++ x.log)
    pub keeps : (q : NodeId) → kept (node_index q) ≡ kept_from q (changed_kept n.kept t.kept)

pub acted-is : (s : World) (c : State) → Represents s c → Holds s → (p : NodeId) (n : Live) (body : BodyChange) (change : KeptChange)
    (heard : Option (NodeId × RealLabel)) (said : Option NodeId) (a : Done) (acts : List Act) (count : ℕ) (kept : ℕ → List AppMessage)
    → IsAlive s p n → n.phase ≡ phases.Up
    → ActsAs s p n (act_update body change heard said) a (c.node (node_index p)) acts count kept
    → NodeIs s.scene (s.history ++ notes.Act a ∷ []) p (log (s.history ++ notes.Act a ∷ []) p)
    (Some (Alive (updated (act_update body change heard said) n))) (row_of s.content p)
    (verdict_on s.content (row_of s.content p).tentative) (acted acts count kept (c.node (node_index p)))
acted-is s c is h p n body change heard said a acts count kept alive up so = subst Numbers (sym (log-more s.history a p so.own)) (record {
  log = reads-more s.history a numbers x.log acts was.log so.sends so.says so.hears so.cause so.talks;
  life = was.life;
  state = record {
    phase = was.state.phase;
    life = was.state.life;
    count = so.counted;
    sent = so.sent;
    received = so.received;
    kept = so.keeps;
  };
  perm = subst Perm (sym none)
      (stands-more s.scene s.history (Some (notes.Act a)) p numbers (length s.history + 1) (row_of s.content p).permanent x.perm short stored);
  tent = subst Tent (sym none) (subst Was none was.tent);
  lower = was.lower;
}) where
  x : Node
  x = c.node (node_index p)

  numbers : List ℕ
  numbers = log s.history p

  more : List ℕ
  more = log s.history p ++ (length s.history + 1) ∷ []

  was : NodeIn s.scene s.history s.content p (Some (Alive n)) (c.node (node_index p))
  was = alive-is s c is p n alive

  none : (row_of s.content p).tentative ≡ None
  none = backed-in s h.backed p n phases.Up alive up

  stored : Stands s.scene s.history p numbers (row_of s.content p).permanent x.perm
  stored = stored-stands s p numbers x.perm none was.perm

  short : acts_held (row_of s.content p).permanent ≤ length numbers
  short = let e = log-long s.history p in let f = (h.sound.nodes p).stored.permanent.short in omega (arith, e, f)

  Numbers : List ℕ → Type 0
  Numbers l = NodeIs s.scene (s.history ++ notes.Act a ∷ []) p l (Some (Alive (updated (act_update body change heard said) n))) (row_of s.content p)
      (verdict_on s.content (row_of s.content p).tentative) (acted acts count kept x)

  Perm : Option Tentative → Type 0
  Perm t = Stands s.scene (s.history ++ notes.Act a ∷ []) p more (permanent_by (verdict_on s.content t) t (row_of s.content p).permanent) x.perm

  Tent : Option Tentative → Type 0
  Tent t = TentativeIs s.scene (s.history ++ notes.Act a ∷ []) p more (undecided (verdict_on s.content t) t) x.tent (acts ++ x.log)

  Was : Option Tentative → Type 0
  Was t = TentativeIs s.scene s.history p numbers (undecided (verdict_on s.content t) t) x.tent x.log
