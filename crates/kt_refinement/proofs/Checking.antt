-- What a node that takes a checkpoint stores, and whom it asks.
-- Cited by BeginsCheck, JoinsCheck.
use Rattle.std.proofs.Common.{◌≡◌, ℕ, zero, suc, ◌+◌, ◌≤◌, Bool, true, false, not, ◌&&◌, IsTrue}
use Rattle.std.proofs.Common.{List, [], ◌∷◌, take_all, length, Option, Some, refl, sym, ap, subst, ◌∙◌, arith}
use Rattle.std.specs.Prelude.{if◌then◌else◌}
use Rattle.std.specs.List.{AllByRecursion}
use Rattle.kt_tuple.specs.declared.node.NodeId.{NodeId}
use Rattle.kt_tuple.specs.Node.{node_index}
use Rattle.kt_history.specs.declared.note.Note.{Note}
use Rattle.kt_history.specs.Log.{log}
use Rattle.kt_link.specs.declared.label.Label.{Label as RealLabel}
use Rattle.kt_ckpt.specs.declared.header.CkptHeader.{CkptHeader}
use Rattle.kt_state.specs.declared.message.Message.{Message as RealMessage}
use Rattle.kt_state.specs.declared.message.Message.TheVariants as messages
use Rattle.kt_state.specs.Labels.{no_label, label_at, listed, listed_at, up_to}
use Rattle.kt_state.specs.Node.{Live, node_number}
use Rattle.kt_ckpt.specs.declared.acts.LogAct.{LogAct}
use Rattle.kt_state.specs.State.{checkpoint_of}
use Rattle.kt_state.specs.Stored.{received_in}
use Rattle.kt_state.specs.Asking.{check_asks}
use Rattle.kt_node.specs.Joining.{is_in_cohort}
use Rattle.kt_scenario.specs.Scene.{SceneModel}
use Rattle.kt_model.specs.State.{State as World, role_of}
use Rattle.kt_model.specs.auxiliary.Ready.{AreNeighbours}
use Rattle.kt_protocol.specs.Labels.{Under, UpTo}
use Rattle.kt_protocol.specs.Logs.{Act, top_sent, top_heard}
use Rattle.kt_protocol.specs.Machine.{Check, Ask, Node, Vote}
use Rattle.kt_protocol.specs.Steps.{IsCohort, asking}
use Rattle.kt_protocol.proofs.Shared.{Under-not, up_to-true}
use Rattle.kt_refinement.proofs.Numbers.{named, index-named, peers, peers-of, label_of}
use Rattle.kt_refinement.proofs.Reading.{Reads}
use Rattle.kt_refinement.proofs.Represents.{carried, LabelsAre, Stands}
use Rattle.kt_refinement.proofs.Links.{to}
use Rattle.kt_refinement.proofs.Cohorts.{is_across, chosen, cohort, asked-once}
use Rattle.kt_refinement.proofs.Frames.{CastSo}
use Rattle.kt_refinement.proofs.Known.{near-is}
use Rattle.kt_refinement.proofs.Loading.{at-numbers}

-- ---- the checkpoint of this moment

-- its list has the labels of the table
listed-label : (count : ℕ) (table : List RealLabel) (k : ℕ) → 1 ≤ k → k ≤ count → listed_at (listed count table) k ≡ label_at table k
listed-label count table zero low high = absurd (omega (arith, low))
listed-label count table (suc k) low high =
    let e : 1 + k ≡ suc k = omega arith in at-numbers (label_at table) no_label 1 count k (omega (arith, high)) ∙ ap (label_at table) e

listed-labels : (scene : SceneModel) (p : NodeId) (table : List RealLabel) (top : List Act → ℕ → Rattle.kt_protocol.specs.Labels.Label) (acts : List Act)
    → LabelsAre scene p (label_at table) top acts → LabelsAre scene p (listed_at (listed (role_of scene p).peers table)) top acts
listed-labels scene p table top acts are q near =
    let a = is_across scene p q near in
    let low = a.low in
    let high = a.high in
    ap label_of (listed-label (role_of scene p).peers table (node_number q) low high) ∙ are q near

-- it stands for the whole log
pub taken-stands : (scene : SceneModel) (h : List Note) (p : NodeId) (n : Live) (acts : List Act) (saved : List LogAct) → Reads h (log h p) acts
    → LabelsAre scene p (label_at n.sent) top_sent acts → LabelsAre scene p (label_at n.received) top_heard acts
    → Stands scene h p (log h p) (Some (checkpoint_of (role_of scene p) n (length (log h p)) saved)) acts
taken-stands scene h p n acts saved reads sent received = record {
  reads = subst (λ l. Reads h l acts) (sym (take_all (length (log h p)) (log h p) (omega arith))) reads;
  sent = listed-labels scene p n.sent top_sent acts sent;
  received = listed-labels scene p n.received top_heard acts received;
}

-- ---- whom it asks

-- all of whom it heard something since its permanent checkpoint
pub cohort-is : (s : World) (p : NodeId) (n : Live) (permanent : Option CkptHeader) (k : ℕ) (x : Node)
    → LabelsAre s.scene p (label_at n.received) top_heard x.log → LabelsAre s.scene p (received_in permanent) top_heard x.perm
    → IsCohort (peers s.scene) (Check k) (node_index p) x (cohort s.scene p (is_in_cohort permanent n))
cohort-is s p n permanent k x heard held = record {
  within = λ m e. first (peers s.scene (node_index p) m) (is_in_cohort permanent n (named m)) e;
  covers = λ m near must. rw near (passes m near must);
} where
  first : (a b : Bool) → (a && b) ≡ true → IsTrue a
  first true b e = refl
  first false b e = absurd (cc (e))

  passes : (m : ℕ) → IsTrue (peers s.scene (node_index p) m) → Under (top_heard x.perm m) (top_heard x.log m) → is_in_cohort permanent n (named m) ≡ true
  passes m near must =
      by (up_to (label_at n.received (node_number (named m))) (received_in permanent (node_number (named m)))) refl where
        real : AreNeighbours s.scene p (named m)
        real = subst (λ b. IsTrue b) (peers-of s.scene p (named m)) (subst (λ j. IsTrue (peers s.scene (node_index p) j)) (sym (index-named m)) near)

        by : (b : Bool) → up_to (label_at n.received (node_number (named m))) (received_in permanent (node_number (named m))) ≡ b → not b ≡ true
        by false e = refl
        by true e =
            let low : UpTo (label_of (label_at n.received (node_number (named m)))) (label_of (received_in permanent (node_number (named m)))) =
            up_to-true (label_of (label_at n.received (node_number (named m)))) (label_of (received_in permanent (node_number (named m)))) e in
            let L : ℕ → Type 0 = λ j. UpTo (top_heard x.log j) (top_heard x.perm j) in
            absurd (Under-not must (subst L (index-named m)
            (subst (λ l. UpTo l (top_heard x.perm (node_index (named m)))) (heard (named m) real)
            (subst (λ l. UpTo (label_of (label_at n.received (node_number (named m)))) l) (held (named m) real) low))))

-- what is sent to a neighbour
pub check-asks-to : (s : World) (p r : NodeId) (n : Live) (permanent : Option CkptHeader) (k : ℕ) (x : Node) → AreNeighbours s.scene p r
    → LabelsAre s.scene p (label_at n.received) top_heard x.log → n.incarnation ≡ x.life
    → asking (Check k) (cohort s.scene p (is_in_cohort permanent n)) x (node_index r)
    ≡ carried (to r (check_asks k n (chosen s.scene p (is_in_cohort permanent n))))
unfolding carried
check-asks-to s p r n permanent k x near heard life =
    rw (near-is s p r near) (named-same ∙ by (is_in_cohort permanent n r) ∙ ap carried (sym (asked-once s.scene p (is_in_cohort permanent n) f r near))) where
      f : NodeId → RealMessage
      f y = messages.CheckAsk record { instance = k; label = label_at n.received (node_number y); incarnation = n.incarnation }

      named-same : (if is_in_cohort permanent n (named (node_index r)) then Ask (Check k) (top_heard x.log (node_index r)) x.life ∷ [] else [])
          ≡ (if is_in_cohort permanent n r then Ask (Check k) (top_heard x.log (node_index r)) x.life ∷ [] else [])
      named-same = ap (λ y. if is_in_cohort permanent n y then Ask (Check k) (top_heard x.log (node_index r)) x.life ∷ [] else [])
          (Rattle.kt_refinement.proofs.Numbers.named-index r)

      by : (b : Bool) → (if b then Ask (Check k) (top_heard x.log (node_index r)) x.life ∷ [] else []) ≡ carried (if b then f r ∷ [] else [])
      by true = ap (λ l. Ask (Check k) l x.life ∷ []) (sym (heard r near))
          ∙ ap (λ i. Ask (Check k) (label_of (label_at n.received (node_number r))) i ∷ []) (sym life)
      by false = refl

pub check-asks-cast : (votes : List Vote) (k : ℕ) (n : Live) (asked : List NodeId) → AllByRecursion (CastSo votes) (check_asks k n asked)
check-asks-cast votes k n [] = tt
check-asks-cast votes k n (q ∷ asked) = (tt, check-asks-cast votes k n asked)
