use Rattle.std.proofs.Common.{ℕ, List}
use Rattle.std.specs.declared.vec.Vec.{Vec}
use Rattle.std.specs.declared.alloc.Global.{Global}
use Rattle.kt_text.specs.Reading.{model_of}
use Rattle.kt_command.proofs.Checkings.{checked_told, wanted_told}
use Rattle.kt_command.proofs.checking.checked.Goals as goal

pub returns-in-Ok-clause-line : goal.returns-in-Ok-clause-line
returns-in-Ok-clause-line c =
    let items : Vec ℕ Global → List ℕ = λ v. v.items in
    checked_told items c.args.text.now (model_of c.in-Ok.scenario) c.line_of.result c.in-Ok.ensures.spelled c.line_of.ensures.line

pub returns-in-Ok-clause-fault : goal.returns-in-Ok-clause-fault
returns-in-Ok-clause-fault c = wanted_told c.args.text.now c.line_of.result c.line_of.ensures.memory
