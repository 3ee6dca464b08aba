-- A plan that notes nothing keeps a state sound where what is kept, what is stored and the end of the log still suit.
-- Cited by CheckLeaves, Cutting, Kept, QuietLeaves, RollLeaves, StepSound.
use Rattle.std.proofs.Common.{◌≡◌, ℕ, Bool, true, false, not, cond, List, [], ◌∷◌, ◌++◌, filter}
use Rattle.std.proofs.Common.{length, Contains, Option, Some, None, inl, inr, refl, sym, ap, ◌∙◌, subst}
use Rattle.std.specs.Option.{option_map}
use Rattle.kt_tuple.specs.declared.node.NodeId.{NodeId}
use Rattle.kt_history.specs.declared.note.Note.{Note}
use Rattle.kt_history.specs.Closed.{acts_in_log}
use Rattle.kt_history.proofs.Shared.{Contains-here, Contains-there, Contains-cons_cases}
use Rattle.kt_link.specs.declared.label.Label.{Label}
use Rattle.kt_store.specs.declared.rows.NodeRow.{NodeRow}
use Rattle.kt_store.specs.Content.{Content, row_of, verdict_on}
use Rattle.kt_vote.specs.declared.vote.Vote.{Vote}
use Rattle.kt_state.specs.declared.message.Message.{Message}
use Rattle.kt_state.specs.declared.message.AppMessage.{AppMessage}
use Rattle.kt_state.specs.declared.live.Phase.{Phase}
use Rattle.kt_state.specs.declared.change.BodyChange.TheVariants as bodies
use Rattle.kt_state.specs.declared.change.KeptChange.TheVariants as keeps
use Rattle.kt_state.specs.declared.change.Update.{Update}
use Rattle.kt_state.specs.declared.change.Change.TheVariants as changes
use Rattle.kt_state.specs.declared.plan.Write.{Write}
use Rattle.kt_state.specs.declared.plan.Write.TheVariants as writes
use Rattle.kt_state.specs.Node.{Body, IsWorker, IsShard, Live, Node, Alive}
use Rattle.kt_state.specs.Plan.{empty_plan}
use Rattle.kt_state.specs.Voting.{votes}
use Rattle.kt_state.specs.Asking.{check_asks, roll_asks}
use Rattle.kt_node.specs.Learning.{verdict_to}
use Rattle.kt_state.specs.Updating.{changed, changed_body, changed_kept, is_above, phase_in, updated}
use Rattle.kt_model.specs.State.{State, node}
use Rattle.kt_model.specs.Writing.{content_after}
use Rattle.kt_model.proofs.Plans.{IsAlive}
use Rattle.kt_model.specs.Cut.{acts_held}
use Rattle.kt_model.specs.Like.{IsBodyLike}
use Rattle.kt_model.proofs.Sound.{KeepsSo, EndsRolling, IsStored, IsNodeSound, NodeSoundIn, IsSound, SendWell}
use Rattle.kt_model.proofs.Writes.{row_after, own-row}
use Rattle.kt_model.proofs.Noes.{SaysNoYes, noes-stay}
use Rattle.kt_model.proofs.Applying.{Keeps, sound-later}

-- ---- what is sent

-- asks, votes and verdicts carry no act
pub verdicts_well : (shards : ℕ) (h : List Note) (p : NodeId) (instance : ℕ) (agreed : Bool) (asked : List NodeId)
    → SendWell shards h p (verdict_to instance agreed asked)
verdicts_well shards h p instance agreed [] = tt
verdicts_well shards h p instance agreed (q ∷ asked) = (tt, verdicts_well shards h p instance agreed asked)

pub votes_well : (shards : ℕ) (h : List Note) (p : NodeId) (own : Option (NodeId × Vote)) → SendWell shards h p (votes own)
votes_well shards h p None = tt
votes_well shards h p (Some vote) = (tt, tt)

pub check_asks_well : (shards : ℕ) (h : List Note) (p : NodeId) (instance : ℕ) (n : Live) (asked : List NodeId) (own : Option (NodeId × Vote))
    → SendWell shards h p (check_asks instance n asked ++ votes own)
check_asks_well shards h p instance n [] own = votes_well shards h p own
check_asks_well shards h p instance n (q ∷ asked) own = (tt, check_asks_well shards h p instance n asked own)

pub roll_asks_well : (shards : ℕ) (h : List Note) (p : NodeId) (instance incarnation : ℕ) (label : ℕ → Label) (asked : List NodeId)
    (own : Option (NodeId × Vote))
    → SendWell shards h p (roll_asks instance incarnation label asked ++ votes own)
roll_asks_well shards h p instance incarnation label [] own = votes_well shards h p own
roll_asks_well shards h p instance incarnation label (q ∷ asked) own = (tt, roll_asks_well shards h p instance incarnation label asked own)

pub asks_well : (shards : ℕ) (h : List Note) (p : NodeId) (instance incarnation : ℕ) (label : ℕ → Label) (asked : List NodeId)
    → SendWell shards h p (roll_asks instance incarnation label asked)
asks_well shards h p instance incarnation label [] = tt
asks_well shards h p instance incarnation label (q ∷ asked) = (tt, asks_well shards h p instance incarnation label asked)

-- ---- what is kept

Contains-sieved : (f : NodeId × AppMessage → Bool) (kept : List (NodeId × AppMessage)) (x : NodeId × AppMessage) → Contains (filter f kept) x → Contains kept x
Contains-sieved f [] x c = c
Contains-sieved f (y ∷ kept) x c = by (f y) c (Contains-sieved f kept x)
  where
    by : (b : Bool) → Contains (cond b (y ∷ filter f kept) (filter f kept)) x → (Contains (filter f kept) x → Contains kept x) → Contains (y ∷ kept) x
    by true c rest =
        elim (Contains-cons_cases y (filter f kept) x c)
        [ inl same ↦ subst (Contains (y ∷ kept)) same (Contains-here y kept) | inr later ↦ Contains-there y kept x (rest later) ]
    by false c rest = Contains-there y kept x (rest c)

pub sieved_so : (shards : ℕ) (h : List Note) (p from : NodeId) (l : Label) (kept : List (NodeId × AppMessage)) → KeepsSo shards h p kept
    → KeepsSo shards h p (changed_kept kept (keeps.Sieve from l))
sieved_so shards h p from l kept so x c = so x (Contains-sieved (λ y. not (is_above from l y)) kept x c)

-- ---- what is known of a node

pub alive_was : (s : State) → IsSound s → (p : NodeId) (n : Live) → IsAlive s p n → NodeSoundIn s.scene s.history s.content p (Some (Alive n))
alive_was s sound p n alive = subst (NodeSoundIn s.scene s.history s.content p) alive (sound.nodes p)

-- ---- plans

-- the row of p after a write of its own
abbrev pub row_then : State → NodeId → Option Write → NodeRow
row_then s p write = row_after s.content (row_of s.content p) write

-- what is stored of p after the write suits its log
abbrev pub StoredThen : State → NodeId → Option Write → Type 0
StoredThen s p write =
    IsStored s.scene p (acts_in_log s.history p) (row_then s p write).permanent (row_then s p write).tentative
    (verdict_on (content_after p write s.content) (row_then s p write).tentative)

abbrev pub EndsThen : State → NodeId → Option Write → Phase → Type 0
EndsThen s p write phase = EndsRolling (length (acts_in_log s.history p)) (acts_held (row_then s p write).permanent) phase

-- a node that goes on with what it works with, and notes nothing
pub update_keeps : (s : State) (p : NodeId) (n : Live) (t : Update) (send : List (NodeId × Message)) (write : Option Write) → IsSound s → IsAlive s p n
    → t.body ≡ bodies.Stay → KeepsSo s.scene.shards s.history p (changed_kept n.kept t.kept) → SendWell s.scene.shards s.history p send
    → SaysNoYes s.content write
    → StoredThen s p write → EndsThen s p write (phase_in n.phase t.phase)
    → Keeps s p (record { change = changes.Update t; send = send; note = None; write = write })
update_keeps s p n t send write sound alive same so well says stored ends = record {
  may = tt;
  sends = well;
  noes = noes-stay p write s.content says;
  sound = subst Of (sym alive) (subst Row (sym (own-row p write s.content)) (record {
    like = subst (IsBodyLike s.scene.scripts p (acts_in_log s.history p)) (sym body) (alive_was s sound p n alive).like;
    kept = so;
    stored = stored;
    ends = ends;
  }));
}
  where
    Of : Option Node → Type 0
    Of row = NodeSoundIn s.scene s.history (content_after p write s.content) p (option_map (changed (changes.Update t)) row)

    Row : NodeRow → Type 0
    Row row = IsNodeSound s.scene s.history p (acts_in_log s.history p) (Some (Alive (updated t n))) row.permanent row.tentative
        (verdict_on (content_after p write s.content) row.tentative)

    unchanged : (b : Body) → changed_body b bodies.Stay ≡ b
    unchanged (IsWorker x) = refl
    unchanged (IsShard y) = refl

    body : changed_body n.body t.body ≡ n.body
    body = ap (changed_body n.body) same ∙ unchanged n.body

-- one that writes nothing of its own row
pub quiet_keeps : (s : State) (p : NodeId) (n : Live) (t : Update) (send : List (NodeId × Message)) → IsSound s → IsAlive s p n
    → t.body ≡ bodies.Stay → KeepsSo s.scene.shards s.history p (changed_kept n.kept t.kept) → SendWell s.scene.shards s.history p send
    → EndsThen s p None (phase_in n.phase t.phase) → Keeps s p (record { change = changes.Update t; send = send; note = None; write = None })
quiet_keeps s p n t send sound alive same so well ends = update_keeps s p n t send None sound alive same so well tt (alive_was s sound p n alive).stored ends

-- one that writes a verdict
pub deciding_keeps : (s : State) (p : NodeId) (n : Live) (t : Update) (send : List (NodeId × Message)) (instance : ℕ) (agreed : Bool) → IsSound s
    → IsAlive s p n
    → t.body ≡ bodies.Stay → KeepsSo s.scene.shards s.history p (changed_kept n.kept t.kept) → SendWell s.scene.shards s.history p send
    → SaysNoYes s.content (Some (writes.Decide instance agreed)) → EndsThen s p None (phase_in n.phase t.phase)
    → Keeps s p (record { change = changes.Update t; send = send; note = None; write = Some (writes.Decide instance agreed) })
deciding_keeps s p n t send instance agreed sound alive same so well says ends =
    let write : Option Write = Some (writes.Decide instance agreed) in
    let later = sound-later s.scene s.history s.content (content_after p write s.content) None p (acts_in_log s.history p) (Some (Alive n)) (row_of s.content p)
    (noes-stay p write s.content says) (alive_was s sound p n alive) in
    update_keeps s p n t send write sound alive same so well says later.stored ends

-- a node that stays as it is, and writes nothing, or a verdict
unturned : (row : Option Node) → option_map (changed changes.Stay) row ≡ row
unturned None = refl
unturned (Some node) = refl

pub idle_keeps : (s : State) (p : NodeId) → IsSound s → Keeps s p empty_plan
idle_keeps s p sound = record {
  may = tt;
  sends = tt;
  noes = λ i was. was;
  sound = subst (NodeSoundIn s.scene s.history s.content p) (sym (unturned (node s p))) (sound.nodes p);
}

pub refusing_keeps : (s : State) (p : NodeId) (send : List (NodeId × Message)) (instance : ℕ) → IsSound s → SendWell s.scene.shards s.history p send
    → Keeps s p (record { change = changes.Stay; send = send; note = None; write = Some (writes.Decide instance false) })
refusing_keeps s p send instance sound well =
    let write : Option Write = Some (writes.Decide instance false) in
    let c : Content = content_after p write s.content in
    let Of : Option Node → Type 0 = NodeSoundIn s.scene s.history c p in
    let Row : NodeRow → Type 0 =
    λ row. IsNodeSound s.scene s.history p (acts_in_log s.history p) (node s p) row.permanent row.tentative (verdict_on c row.tentative) in
    let later =
    sound-later s.scene s.history s.content c None p (acts_in_log s.history p) (node s p) (row_of s.content p) (noes-stay p write s.content tt)
    (sound.nodes p) in
    record {
      may = tt;
      sends = well;
      noes = noes-stay p write s.content tt;
      sound = subst Of (sym (unturned (node s p))) (subst Row (sym (own-row p write s.content)) later);
    }
