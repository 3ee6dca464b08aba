use Rattle.std.specs.Int.{w16, w64, to_be_bytes}
use Rattle.std.proofs.Common.{◌++◌}
use Rattle.std.proofs.lemmas.Result.{on_ok_weaker}
use Rattle.kt_ckpt.specs.Flag.{flag_bytes}
use Rattle.kt_ckpt.specs.State.{asked_bytes, variables_bytes}
use Rattle.kt_ckpt.proofs.Loop.{both_appended}
use Rattle.kt_ckpt.proofs.worker.push_fields.Goals as goal

pub returns-clause-ok : goal.returns-clause-ok
returns-clause-ok c =
    let w = c.args in
    on_ok_weaker c.push_variables.result
    (λ e. both_appended _ _ _ (((to_be_bytes w16 w.pc ++ to_be_bytes w64 w.number) ++ flag_bytes w.was_none) ++ asked_bytes w.asked.now)
    (variables_bytes w.variables.now)
    (both_appended _ _ _ ((to_be_bytes w16 w.pc ++ to_be_bytes w64 w.number) ++ flag_bytes w.was_none) (asked_bytes w.asked.now)
    (both_appended _ _ _ (to_be_bytes w16 w.pc ++ to_be_bytes w64 w.number) (flag_bytes w.was_none)
    (both_appended _ _ _ (to_be_bytes w16 w.pc) (to_be_bytes w64 w.number) c.in_ok-push_u16.ensures c.in_ok-push_u64.ensures)
    c.in_ok-push_flag.ensures) c.in_ok-push_asked.ensures.ok) e)
    c.push_variables.ensures.ok
