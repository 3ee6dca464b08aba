-- What every state leaves in its store, of what a world that is resumed from it asks of labels and instances: what a
-- permanent checkpoint has heard the sender's has sent, no label is of a later incarnation, and a tentative checkpoint's
-- instance is on the board.
-- Cited by `laws::what_a_world_leaves_can_be_resumed`; other crates.
use Rattle.std.proofs.Common.{◌≡◌, ◌≤◌, IsTrue, Option, inl, inr, sym, ap, subst, ◌∙◌, arith}
use Rattle.std.specs.Option.{option_map}
use Rattle.std.proofs.lemmas.Bool.{cases_eq}
use Rattle.kt_tuple.specs.declared.node.NodeId.{NodeId}
use Rattle.kt_tuple.specs.Node.{node_index}
use Rattle.kt_link.specs.declared.label.Label.{Label as RealLabel}
use Rattle.kt_ckpt.specs.declared.ckpt.Ckpt.{Ckpt}
use Rattle.kt_ckpt.specs.Header.{header_of}
use Rattle.kt_store.specs.Content.{row_of}
use Rattle.kt_state.specs.Labels.{up_to}
use Rattle.kt_state.specs.Node.{node_number}
use Rattle.kt_state.specs.Stored.{sent_in, received_in}
use Rattle.kt_model.specs.Reached.{IsReached}
use Rattle.kt_model.specs.Resumed.{AreFit, heard_from, sent_to}
use Rattle.kt_model.specs.State.{State as World}
use Rattle.kt_model.specs.auxiliary.Ready.{AreNeighbours}
use Rattle.kt_model.proofs.Shared.{never-unfit, neighbours-turned, permanent-settled, settled, settled-incarnation}
use Rattle.kt_protocol.specs.Labels.{UpTo}
use Rattle.kt_protocol.specs.Logs.{top_sent, top_heard}
use Rattle.kt_protocol.proofs.Shared.{sent-tail, UpTo-Under}
use Rattle.kt_refinement.proofs.Numbers.{label_of}
use Rattle.kt_refinement.proofs.Known.{near-is}
use Rattle.kt_refinement.proofs.Refined.{StandsFor, stands-invariant}
use Rattle.kt_refinement.proofs.Resuming.{reached-stands}
use Rattle.kt_refinement.proofs.Whole.{closed-reached}

up_to-from : (a b : RealLabel) → UpTo (label_of a) (label_of b) → IsTrue (up_to a b)
up_to-from a b u = elim (cases_eq a.incarnation b.incarnation) [
  | inl e ↦ let low = u.counts e in grind (arith, e, low)
  | inr d ↦ let low = u.lives in grind (arith, d, low)
]

-- the labels of what counts as permanent are the machine's
heard-is : (s : World) (f : StandsFor (settled s)) (p q : NodeId) → AreNeighbours s.scene p q
    → label_of (heard_from s.content p q) ≡ top_heard (f.state.node (node_index p)).perm (node_index q)
heard-is s f p q near =
    ap (λ (o : Option Ckpt). label_of (received_in (option_map header_of o) (node_number q))) (sym (permanent-settled s.found s.content p))
    ∙ (f.stands.nodes p).perm.received q near

sent-is : (s : World) (f : StandsFor (settled s)) (p q : NodeId) → AreNeighbours s.scene p q
    → label_of (sent_to s.content p q) ≡ top_sent (f.state.node (node_index p)).perm (node_index q)
sent-is s f p q near =
    ap (λ (o : Option Ckpt). label_of (sent_in (option_map header_of o) (node_number q))) (sym (permanent-settled s.found s.content p))
    ∙ (f.stands.nodes p).perm.sent q near

pub leaves-agreeing : (s : World) → IsReached s → (p q : NodeId) → AreNeighbours s.scene p q → IsTrue (up_to (heard_from s.content p q) (sent_to s.content q p))
leaves-agreeing s is p q near =
    let f = reached-stands s is in
    let back = neighbours-turned s.scene p q near in
    let agree = ((stands-invariant (settled s) f).pair (node_index q) (node_index p) (near-is (settled s) q p back)).agree in
    up_to-from (heard_from s.content p q) (sent_to s.content q p)
    (subst (λ l. UpTo l (label_of (sent_to s.content q p))) (sym (heard-is s f p q near))
    (subst (λ l. UpTo (top_heard (f.state.node (node_index p)).perm (node_index q)) l) (sym (sent-is s f q p back)) agree))

pub leaves-living : (s : World) → IsReached s → (p q : NodeId) → AreNeighbours s.scene p q
    → (sent_to s.content p q).incarnation ≤ (row_of s.content p).incarnation
leaves-living s is p q near =
    let f = reached-stands s is in
    let own = (stands-invariant (settled s) f).local (node_index p) in
    let below = UpTo-Under (sent-tail (node_index q) own.tail own.falls) (own.room (node_index q)) in
    let e = ap (λ l. l.life) (sent-is s f p q near) in
    let lives = below.lives in
    let life = (f.stands.nodes p).life in
    let same = settled-incarnation s.found s.content p in
    omega (arith, e, lives, life, same)

-- so what is left can be resumed
pub leaves-fitting : (s : World) → IsReached s → AreFit s.scene s.content
leaves-fitting s is = never-unfit s is (closed-reached s is) (leaves-agreeing s is) (leaves-living s is)
