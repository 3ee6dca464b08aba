-- Of `Machine::seen` in src/planning.rt.
use Rattle.kt_core.proofs.Seen.{acts-of, saves-of}
use Rattle.kt_core.specs.auxiliary.Machine.{state_of}
use Rattle.kt_store.specs.Content.{empty_content}
use Rattle.kt_node.specs.View.{view_of}
use Rattle.kt_core.proofs.machine.Machine.seen.Goals as goal

pub returns-clause-acts : goal.returns-clause-acts
returns-clause-acts c = acts-of (state_of c.args.self.now empty_content) (view_of c.in_ok-view.view) c.args.id c.in_ok-view.ensures.view c.requires

pub returns-clause-saves : goal.returns-clause-saves
returns-clause-saves c = saves-of (state_of c.args.self.now empty_content) (view_of c.in_ok-view.view) c.args.id c.in_ok-view.ensures.view c.requires
