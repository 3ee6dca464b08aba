use Rattle.std.proofs.Common.{ap, ◌∙◌}
use Rattle.kt_model.specs.State.{State}
use Rattle.kt_scene.proofs.JournalWritten.{journal_told, journal_whole, journal_front}
use Rattle.kt_scene.proofs.journal.write_journal.Goals as goal

pub returns-in-Ok-journal_of-clause-written : goal.returns-in-Ok-journal_of-clause-written
returns-in-Ok-journal_of-clause-written g c =
    let held = c.found.ensures ∙ ap (λ (s : State). s.found) c.in-Ok.ensures.beside in
    let there = c.scene.ensures ∙ ap (λ (s : State). s.scene) c.in-Ok.ensures.beside in
    let is = c.deref-in-Ok-journal_of.ensures.value ∙ c.in-Ok-journal_of.ensures in
    journal_whole c.write_text.result _ c.args.world.now.state c.args.steps.now c.args.writer.now c.write_text.new.writer
    c.in-Ok.report.items _ c.in-Ok.ensures.report
    (journal_told _ _ c.in-Ok.report.items _ _ _ _ _ is c.deref.ensures.value held there) c.write_text.ensures.whole

pub returns-in-Ok-journal_of-clause-front : goal.returns-in-Ok-journal_of-clause-front
returns-in-Ok-journal_of-clause-front g c =
    let held = c.found.ensures ∙ ap (λ (s : State). s.found) c.in-Ok.ensures.beside in
    let there = c.scene.ensures ∙ ap (λ (s : State). s.scene) c.in-Ok.ensures.beside in
    let is = c.deref-in-Ok-journal_of.ensures.value ∙ c.in-Ok-journal_of.ensures in
    journal_front c.write_text.result _ c.args.world.now.state c.args.steps.now c.args.writer.now c.write_text.new.writer
    c.in-Ok.report.items _ c.in-Ok.ensures.report
    (journal_told _ _ c.in-Ok.report.items _ _ _ _ _ is c.deref.ensures.value held there) c.write_text.ensures.front
