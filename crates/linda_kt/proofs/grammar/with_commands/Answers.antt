use Rattle.std.proofs.Common.{refl, sym, ap, ◌∙◌, ◌≡◌, [], get_or}
use Rattle.std.proofs.lemmas.List.{at_drop_all}
use Rattle.clap.specs.Words.{app_of}
use Rattle.kt_words.specs.declared.words.CommandWords.{CommandWords}
use Rattle.linda_kt.proofs.Tables.{leaves_out, one_less, puts_in}
use Rattle.linda_kt.specs.auxiliary.Table.{with_listed, with_table}
use Rattle.linda_kt.proofs.grammar.with_commands.Goals as goal
use Rattle.linda_kt.proofs.grammar.with_commands.Goals.{else-ne, then-ne+in_ok-command+in_ok-app}

-- what is read where there is no command
abbrev none : CommandWords
none = record {
  name = record { ref_ptr = (0, 0); now = [] };
  about = record { ref_ptr = (0, 0); now = [] };
  arguments = record { ref_ptr = (0, 0); now = [] };
  options = record { ref_ptr = (0, 0); now = [] };
}

pub loop-words-init : goal.loop-words-init
loop-words-init c = refl

pub loop-words-preserved : goal.loop-words-preserved
loop-words-preserved c =
    let words : CommandWords = get_or c.args.table.now c.loop-words.words-index none in
    let put : app_of c.if-ne.app ≡ with_listed (app_of c.loop-words.app) words =
    elim c.if-ne.branch [
      | then-ne+in_ok-command+in_ok-app w ↦
          ap app_of w.app-is
          ∙ puts_in words _ _ _ _ c.ne.ensures w.if-ne.true w.in_ok-app.ensures w.in_ok-command.ensures.local w.in_ok-command.ensures.shape
      | else-ne w ↦ ap app_of w.app-is ∙ leaves_out words (app_of c.loop-words.app) _ c.ne.ensures w.if-ne.false
    ] in
    one_less c.args.table.now c.loop-words.words-index none _ _ _ c.loop-words-test.true put c.loop-words.invariant

pub returns : goal.returns
returns c = sym (at_drop_all (with_table (app_of c.loop-words.app)) c.args.table.now c.loop-words.words-index c.loop-words-test.false) ∙ c.loop-words.invariant
