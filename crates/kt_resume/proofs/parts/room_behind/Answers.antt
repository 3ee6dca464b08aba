use Rattle.std.proofs.Common.{◌+◌, ◌∙◌, sym, arith}
use Rattle.kt_tuple.specs.declared.node.NodeId.{NodeId}
use Rattle.kt_tuple.specs.Node.{is_before}
use Rattle.kt_model.specs.Resumed.{sum_of}
use Rattle.kt_resume.specs.Found.{content_of}
use Rattle.kt_resume.proofs.Rooms.{held-front, held-other, held-passing}
use Rattle.kt_resume.proofs.parts.room_behind.Goals as goal
use Rattle.kt_resume.proofs.parts.room_behind.Goals.{then-is_before+in_ok-room, else-is_before}

pub loop-other-init : goal.loop-other-init
unfolding sum_of
loop-other-init c = omega arith

pub returns-in_err-room-clause-none : goal.returns-in_err-room-clause-none
returns-in_err-room-clause-none c = λ e.
    let store = content_of c.args.found.now in
    let nodes = c.args.nodes.now in
    let i = c.loop-other.other-index in
    let passes = λ (q : NodeId). is_before q c.args.node in
    let more = held-passing store passes nodes i _ c.loop-other-test.true (sym c.is_before.ensures ∙ c.if-is_before.true) in
    let front = held-front store passes nodes (i + 1) in
    let room = c.loop-other.invariant in
    let held = c.acts_of.ensures in
    let past = c.in_err-room.ensures in
    omega (arith, more, front, room, held, past)

pub loop-other-preserved : goal.loop-other-preserved
loop-other-preserved c =
    let store = content_of c.args.found.now in
    let nodes = c.args.nodes.now in
    let i = c.loop-other.other-index in
    let passes = λ (q : NodeId). is_before q c.args.node in
    let room = c.loop-other.invariant in
    elim c.if-is_before.branch [
      | then-is_before+in_ok-room w ↦
          let more = held-passing store passes nodes i _ c.loop-other-test.true (sym c.is_before.ensures ∙ w.if-is_before.true) in
          let held = w.acts_of.ensures in
          let left = w.in_ok-room.ensures in
          let is = w.room-is in
          omega (arith, more, room, held, left, is)
      | else-is_before w ↦
          let same = held-other store passes nodes i _ c.loop-other-test.true (sym c.is_before.ensures ∙ w.if-is_before.false) in
          let is = w.room-is in
          omega (arith, same, room, is)
    ]
