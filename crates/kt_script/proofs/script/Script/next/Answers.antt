use Rattle.std.proofs.Common.{rules}
use Rattle.kt_script.proofs.Reaches.{asked-there}
use Rattle.kt_script.proofs.script.Script.next.Goals as goal

pub returns-clause-asks : goal.returns-clause-asks
returns-clause-asks c = λ answers leads. search (rules, asked-there c.args.self.now answers _ leads)
