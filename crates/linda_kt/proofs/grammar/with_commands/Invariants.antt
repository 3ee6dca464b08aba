use Rattle.std.proofs.Common.{◌≡◌, drop}
use Rattle.clap.specs.Words.{app_of}
use Rattle.linda_kt.specs.auxiliary.Table.{with_table}
use Rattle.linda_kt.proofs.grammar.with_commands.Given as goal

abbrev pub invariant-loop-words : goal.invariant-loop-words
invariant-loop-words l = with_table (app_of l.app) (drop l.words-index l.table) ≡ with_table (app_of l.fn.bare) l.table
