use Rattle.std.proofs.Common.{◌∙◌, sym}
use Rattle.kt_quick.specs.Words.{did}
use Rattle.kt_quick.proofs.program.run_words.Goals as goal

pub returns-in-Some-clause-told : goal.returns-in-Some-clause-told
returns-in-Some-clause-told g c = did c.in-Some.command (sym c.command_asked.ensures ∙ c.in-Some.is) c.run_in_memory-status.ensures.told
