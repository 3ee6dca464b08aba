use Rattle.std.proofs.Common.{◌∙◌, ap, map, subst, List}
use Rattle.std.specs.Prelude.{All, OnOk}
use Rattle.kt_ckpt.specs.declared.acts.LogAct.{LogAct}
use Rattle.kt_ckpt.specs.Acts.{IsSpelledAct}
use Rattle.kt_ckpt.proofs.act_bytes.push_log.Goals as goal

pub returns-clause-held : goal.returns-clause-held
returns-clause-held c = subst (λ (l : List LogAct). OnOk c.push_acts.result (All IsSpelledAct l))
    (ap (map (λ a. a.now)) c.deref.ensures.value ∙ c.in_ok-listed.ensures) c.push_acts.ensures.held
