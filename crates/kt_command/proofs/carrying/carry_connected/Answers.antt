use Rattle.std.proofs.Common.{◌≡◌, List, ℕ, Result, Err, refl, subst, sym}
use Rattle.kt_scene.specs.declared.fault.ReplayFault.{ReplayFault}
use Rattle.kt_core.specs.declared.start.Start.TheVariants as starts
use Rattle.kt_scene.specs.Run.{IsReplayedReport}
use Rattle.kt_command.specs.Status.{memory_value}
use Rattle.kt_command.proofs.Carryings.{carried_told, refused_told, stopped_told}
use Rattle.kt_command.proofs.carrying.carry_connected.Goals as goal

pub returns-in-Ok-carry-clause-told : goal.returns-in-Ok-carry-clause-told
returns-in-Ok-carry-clause-told g c =
    let P : List ℕ → Type 0 =
    λ text. IsReplayedReport starts.Open (memory_value c.new.result) (memory_value c.in-Ok.store) c.args.reader.now c.report_returning_store.new.reader text in
    carried_told g.O.Carries.carries c.args.connection _ _ _ _ c.new.result c.in-Ok.store c.new.ensures _ c.deref.result.now c.write_text.result
    c.in-Ok-carry.ensures (subst P (sym c.deref.ensures.value) c.in-Ok.ensures.told) c.end_replay.ensures.status c.write_text.ensures.whole
    c.write_text.ensures.front c.write_text.ensures.only

pub returns-in-Ok-clause-told : goal.returns-in-Ok-clause-told
returns-in-Ok-clause-told g c =
    refused_told g.O.Carries.carries c.args.connection _ _ _ _ c.new.result c.in-Ok.store c.new.ensures _ c.in-Ok.report.items c.in-Err-carry.fault
    c.in-Err-carry.ensures c.in-Ok.ensures.told refl c.refuse_store.ensures

pub returns-clause-told : goal.returns-clause-told
returns-clause-told g c =
    let answer : Result (Unit {0}) ReplayFault = Err c.in-Err.fault in
    let is : answer ≡ Err c.in-Err.fault = refl in
    stopped_told g.O.Carries.carries c.args.connection _ _ _ _ c.new.result _ c.new.ensures _ answer c.in-Err.fault is c.in-Err.ensures.fault
    c.in-Err.ensures.unwritten refl c.end_replay-in-Err.ensures.status
