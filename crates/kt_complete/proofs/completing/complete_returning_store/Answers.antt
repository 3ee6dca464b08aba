use Rattle.std.proofs.Common.{◌≡◌, List, Err, sym, subst, ap}
use Rattle.std.specs.Prelude.{IfErr, IsTrue, OnOk}
use Rattle.kt_scenario.specs.declared.step.Step.{Step}
use Rattle.kt_model.specs.State.{State}
use Rattle.kt_core.specs.Store.{StoreValue, store_value}
use Rattle.kt_core.specs.World.{store_of}
use Rattle.kt_scene.specs.Journal.{WritesJournal, WritesJournalFront}
use Rattle.kt_scene.specs.declared.fault.ReplayFault.TheVariants as faults
use Rattle.kt_complete.specs.Completion.{IsCompletionFault, WritesCompleted, WritesCompletedFront, before_journal}
use Rattle.kt_complete.proofs.Answered.{is_fault, is_front, is_written, same_store}
use Rattle.kt_complete.proofs.Stops.{not_the_writers}
use Rattle.kt_complete.proofs.completing.complete_returning_store.Goals as goal

pub returns-in-Ok-clause-written : goal.returns-in-Ok-clause-written
returns-in-Ok-clause-written g c =
    let was = store_value g.S.CkptStore c.args.store in
    let ended = c.in-Ok.completed.world in
    let left = c.write_journal-answer.new.world in
    let said = c.write_journal-answer.ensures in
    let out = c.write_journal-answer.result in
    let before = c.args.reader.now in
    let after = c.completed_or_store.new.reader in
    let old = c.args.writer.now in
    let new = c.write_journal-answer.new.writer in
    let P : StoreValue → Type 0 = λ v. OnOk out (WritesCompleted c.args.start was v before after old new) in
    let Q : List Step → Type 0 = λ xs. OnOk out (WritesJournal left.is_honest ended.state xs old new) in
    let kept : IsTrue left.is_honest → left.state.content ≡ ended.state.content = λ h. ap (λ (s : State). s.content) (said.same h) in
    subst P (sym (same_store _ _ _ _ _ _ c.into_store.ensures.content c.into_store.ensures.honest c.into_store.ensures.counts))
    (is_written c.args.start was (store_of left) before after ended c.in-Ok.completed.steps.items c.in-Ok.ensures.completed said.honest kept
    c.in-Ok.ensures.counts out old new said.counts (subst Q c.deref.ensures.value said.written))

pub returns-in-Ok-clause-front : goal.returns-in-Ok-clause-front
returns-in-Ok-clause-front g c =
    let was = store_value g.S.CkptStore c.args.store in
    let ended = c.in-Ok.completed.world in
    let left = c.write_journal-answer.new.world in
    let said = c.write_journal-answer.ensures in
    let out = c.write_journal-answer.result in
    let before = c.args.reader.now in
    let after = c.completed_or_store.new.reader in
    let old = c.args.writer.now in
    let new = c.write_journal-answer.new.writer in
    let P : StoreValue → Type 0 = λ v. out ≡ Err faults.Write → WritesCompletedFront c.args.start was v before after old new in
    let Q : List Step → Type 0 = λ xs. out ≡ Err faults.Write → WritesJournalFront left.is_honest ended.state xs old new in
    let kept : IsTrue left.is_honest → left.state.content ≡ ended.state.content = λ h. ap (λ (s : State). s.content) (said.same h) in
    subst P (sym (same_store _ _ _ _ _ _ c.into_store.ensures.content c.into_store.ensures.honest c.into_store.ensures.counts))
    (is_front c.args.start was (store_of left) before after ended c.in-Ok.completed.steps.items c.in-Ok.ensures.completed said.honest kept
    c.in-Ok.ensures.counts out old new said.only (subst Q c.deref.ensures.value said.front))

pub returns-in-Ok-clause-fault : goal.returns-in-Ok-clause-fault
returns-in-Ok-clause-fault g c =
    let was = store_value g.S.CkptStore c.args.store in
    let ended = c.in-Ok.completed.world in
    let left = c.write_journal-answer.new.world in
    let said = c.write_journal-answer.ensures in
    let out = c.write_journal-answer.result in
    let before = c.args.reader.now in
    let after = c.completed_or_store.new.reader in
    let P : StoreValue → Type 0 = λ v. IfErr out (IsCompletionFault c.args.start was v before after) in
    let kept : IsTrue left.is_honest → left.state.content ≡ ended.state.content = λ h. ap (λ (s : State). s.content) (said.same h) in
    subst P (sym (same_store _ _ _ _ _ _ c.into_store.ensures.content c.into_store.ensures.honest c.into_store.ensures.counts))
    (is_fault c.args.start was (store_of left) before after ended c.in-Ok.completed.steps.items c.in-Ok.ensures.completed said.honest kept
    c.in-Ok.ensures.counts out said.only)

pub returns-in-Err-clause-fault : goal.returns-in-Err-clause-fault
returns-in-Err-clause-fault g c = before_journal c.in-Err.ensures.fault

pub returns-in-Err-clause-front : goal.returns-in-Err-clause-front
returns-in-Err-clause-front g c = λ failed.
    let same : c.in-Err.fault ≡ faults.Write = cc in
    let was = store_value g.S.CkptStore c.args.store in
    absurd (not_the_writers c.args.start was _ c.args.reader.now c.completed_or_store.new.reader c.in-Err.fault c.in-Err.ensures.fault same)
