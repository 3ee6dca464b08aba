use Rattle.std.proofs.Common.{sym, subst}
use Rattle.kt_vote.specs.Order.{IsInOrder}
use Rattle.kt_node.proofs.Neighbours.{in_order}
use Rattle.kt_node.proofs.joining.neighbours.Goals as goal

pub returns-clause-in_order : goal.returns-clause-in_order
returns-clause-in_order c = subst IsInOrder (sym c.loop-number.invariant) (in_order c.args.role.id c.loop-number.number)
