-- What a list of acts that is kept with the next one last stands for.
-- Cited by unplaced.rt.
use Rattle.std.specs.Prelude.{reverse}
use Rattle.std.specs.declared.vec.Vec.{Vec}
use Rattle.std.specs.declared.alloc.Global.{Global}
use Rattle.kt_tuple.specs.declared.node.NodeId.{NodeId}
use Rattle.kt_ckpt.specs.declared.acts.LogAct.{LogAct}
use Rattle.kt_resume.specs.Unplaced.{Left}

abbrev pub left_of : NodeId → Vec LogAct Global → Left
left_of node kept = record { node = node; acts = reverse kept.items }
