-- Of `Machine::owner_plan` in src/planning.rt.
use Rattle.std.proofs.Common.{rules}
use Rattle.kt_store.specs.Content.{empty_content}
use Rattle.kt_node.specs.View.{view_of}
use Rattle.kt_core.specs.auxiliary.Machine.{state_of}
use Rattle.kt_core.proofs.StepPlans.{owner_plan-first, owner_plan-none}
use Rattle.kt_core.proofs.machine.Machine.owner_plan.Goals as goal

pub returns-in-Some : goal.returns-in-Some
returns-in-Some c =
    owner_plan-first (state_of c.args.self.now empty_content) c.args.store_reads c.args.step c.in-Deliver.from c.in-Deliver.to (view_of c.args.seen)
    c.in-Some.message.now c.heard.result c.in-Deliver.is c.requires.view (search rules) c.heard.ensures

pub returns-in-None : goal.returns-in-None
returns-in-None c = owner_plan-none (state_of c.args.self.now empty_content) c.args.store_reads c.args.step c.in-Deliver.from c.in-Deliver.to c.in-Deliver.is
    (search rules)
