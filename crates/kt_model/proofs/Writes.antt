-- What a write makes of what is stored: the owner's row, the rows of others, and the board.
-- Cited by AllInstanceRows, Applying, Backs, Cutting, FailLeaves, Fit, HeldActs, Kept, RollLeaves, Settling, Updates;
--   other crates.
use Rattle.std.proofs.Common.{◌≡◌, ℕ, ◌+◌, ◌≤◌, Bool, Option, None, Some, refl, ap, ◌∙◌, subst, arith}
use Rattle.std.specs.Prelude.{IfSome}
use Rattle.std.specs.List.{find}
use Rattle.kt_tuple.specs.declared.node.NodeId.{NodeId}
use Rattle.kt_tuple.specs.Node.{node_eq}
use Rattle.kt_store.specs.declared.rows.NodeRow.{NodeRow}
use Rattle.kt_store.specs.declared.rows.Purpose.TheVariants as purposes
use Rattle.kt_store.specs.Content.{Content, next_instance, row_or, row_of}
use Rattle.kt_model.specs.auxiliary.Backed.{AreRising}
use Rattle.kt_store.specs.Changes.{storing, taken, decided, promoted_from}
use Rattle.kt_store.specs.Others.{OtherNodesStay}
use Rattle.kt_store.proofs.Shared.{others_stay_of, own_row, stored_is_read, nodes_stay}
use Rattle.kt_state.specs.declared.plan.Write.{Write}
use Rattle.kt_state.specs.declared.plan.Write.TheVariants as writes
use Rattle.kt_model.specs.Writing.{content_after}
use Rattle.kt_model.specs.auxiliary.Backed.{IsAllowed}
use Rattle.kt_model.proofs.Boards.{Says, begun-says, decided-says, begun-board, decided-board, begun-next, decided-next}

-- ---- rows

-- a row that is made of what is stored of the node is read again
row_read : (p : NodeId) (new : NodeRow) (c : Content) → new.node ≡ (row_of c p).node → row_of (storing new c) p ≡ new
row_read p new c same = subst (λ q. row_of (storing new c) q ≡ new) (same ∙ own_row p c.nodes) (stored_is_read new c)

decided_row : (i : ℕ) (agreed : Bool) (c : Content) (q : NodeId) → row_of (decided i agreed c) q ≡ row_of c q
decided_row i agreed c q = ap (λ rows. row_or q (find (λ (row : NodeRow). node_eq row.node q) rows)) (nodes_stay i agreed c)

-- what a write makes of the row of its node
abbrev pub row_after : Content → NodeRow → Option Write → NodeRow
row_after c row None = row
row_after c row (Some (writes.BeginCheck checkpoint)) = record row { tentative = taken (next_instance c) checkpoint }
row_after c row (Some (writes.PutTentative instance checkpoint)) = record row { tentative = taken instance checkpoint }
row_after c row (Some writes.Promote) = record row { permanent = promoted_from row.permanent row.tentative; tentative = None }
row_after c row (Some writes.Discard) = record row { tentative = None }
row_after c row (Some writes.BeginRestart) = record row { incarnation = row.incarnation + 1 }
row_after c row (Some writes.Bump) = record row { incarnation = row.incarnation + 1 }
row_after c row (Some (writes.Decide instance agreed)) = row

pub own-row : (p : NodeId) (write : Option Write) (c : Content) → row_of (content_after p write c) p ≡ row_after c (row_of c p) write
own-row p None c = refl
own-row p (Some (writes.BeginCheck checkpoint)) c = row_read p (record (row_of c p) { tentative = taken (next_instance c) checkpoint }) c refl
own-row p (Some (writes.PutTentative instance checkpoint)) c = row_read p (record (row_of c p) { tentative = taken instance checkpoint }) c refl
own-row p (Some writes.Promote) c =
    row_read p (record (row_of c p) { permanent = promoted_from (row_of c p).permanent (row_of c p).tentative; tentative = None }) c refl
own-row p (Some writes.Discard) c = row_read p (record (row_of c p) { tentative = None }) c refl
own-row p (Some writes.BeginRestart) c = row_read p (record (row_of c p) { incarnation = (row_of c p).incarnation + 1 }) c refl
own-row p (Some writes.Bump) c = row_read p (record (row_of c p) { incarnation = (row_of c p).incarnation + 1 }) c refl
own-row p (Some (writes.Decide instance agreed)) c = decided_row instance agreed c p

-- the rows of the others stay
pub other-rows : (p : NodeId) (write : Option Write) (c : Content) → OtherNodesStay p c (content_after p write c)
other-rows p None c q d = refl
other-rows p (Some (writes.BeginCheck checkpoint)) c q d = others_stay_of p (record (row_of c p) { tentative = taken (next_instance c) checkpoint }) c refl q d
other-rows p (Some (writes.PutTentative instance checkpoint)) c q d =
    others_stay_of p (record (row_of c p) { tentative = taken instance checkpoint }) c refl q d
other-rows p (Some writes.Promote) c q d =
    others_stay_of p (record (row_of c p) { permanent = promoted_from (row_of c p).permanent (row_of c p).tentative; tentative = None }) c refl q d
other-rows p (Some writes.Discard) c q d = others_stay_of p (record (row_of c p) { tentative = None }) c refl q d
other-rows p (Some writes.BeginRestart) c q d = others_stay_of p (record (row_of c p) { incarnation = (row_of c p).incarnation + 1 }) c refl q d
other-rows p (Some writes.Bump) c q d = others_stay_of p (record (row_of c p) { incarnation = (row_of c p).incarnation + 1 }) c refl q d
other-rows p (Some (writes.Decide instance agreed)) c q d = decided_row instance agreed c q

-- one incarnation more at most
pub incarnation-after : (c : Content) (row : NodeRow) (write : Option Write) → (row_after c row write).incarnation ≤ row.incarnation + 1
incarnation-after c row None = omega arith
incarnation-after c row (Some (writes.BeginCheck checkpoint)) = omega arith
incarnation-after c row (Some (writes.PutTentative instance checkpoint)) = omega arith
incarnation-after c row (Some writes.Promote) = omega arith
incarnation-after c row (Some writes.Discard) = omega arith
incarnation-after c row (Some writes.BeginRestart) = omega arith
incarnation-after c row (Some writes.Bump) = omega arith
incarnation-after c row (Some (writes.Decide instance agreed)) = omega arith

-- ---- the board

pub says-after : (p : NodeId) (write : Option Write) (c : Content) → IfSome write (IsAllowed c p) → (i : ℕ) (agreed : Bool) → Says c i agreed
    → Says (content_after p write c) i agreed
says-after p None c allowed i agreed says = says
says-after p (Some (writes.BeginCheck checkpoint)) c allowed i agreed says =
    begun-says p purposes.Check (storing record (row_of c p) { tentative = taken (next_instance c) checkpoint } c) i agreed says
says-after p (Some (writes.PutTentative instance checkpoint)) c allowed i agreed says = says
says-after p (Some writes.Promote) c allowed i agreed says = says
says-after p (Some writes.Discard) c allowed i agreed says = says
says-after p (Some writes.BeginRestart) c allowed i agreed says =
    begun-says p purposes.Rollback (storing record (row_of c p) { incarnation = (row_of c p).incarnation + 1 } c) i agreed says
says-after p (Some writes.Bump) c allowed i agreed says = says
says-after p (Some (writes.Decide instance said)) c allowed i agreed says = decided-says instance said c allowed i agreed says

pub board-after : (p : NodeId) (write : Option Write) (c : Content) → AreRising c.board → AreRising (content_after p write c).board
board-after p None c is = is
board-after p (Some (writes.BeginCheck checkpoint)) c is =
    begun-board p purposes.Check (storing record (row_of c p) { tentative = taken (next_instance c) checkpoint } c) is
board-after p (Some (writes.PutTentative instance checkpoint)) c is = is
board-after p (Some writes.Promote) c is = is
board-after p (Some writes.Discard) c is = is
board-after p (Some writes.BeginRestart) c is =
    begun-board p purposes.Rollback (storing record (row_of c p) { incarnation = (row_of c p).incarnation + 1 } c) is
board-after p (Some writes.Bump) c is = is
board-after p (Some (writes.Decide instance agreed)) c is = decided-board instance agreed c is

pub next-after : (p : NodeId) (write : Option Write) (c : Content) → next_instance (content_after p write c) ≤ next_instance c + 1
next-after p None c = omega arith
next-after p (Some (writes.BeginCheck checkpoint)) c =
    begun-next p purposes.Check (storing record (row_of c p) { tentative = taken (next_instance c) checkpoint } c)
next-after p (Some (writes.PutTentative instance checkpoint)) c = omega arith
next-after p (Some writes.Promote) c = omega arith
next-after p (Some writes.Discard) c = omega arith
next-after p (Some writes.BeginRestart) c = begun-next p purposes.Rollback (storing record (row_of c p) { incarnation = (row_of c p).incarnation + 1 } c)
next-after p (Some writes.Bump) c = omega arith
next-after p (Some (writes.Decide instance agreed)) c = decided-next instance agreed c
