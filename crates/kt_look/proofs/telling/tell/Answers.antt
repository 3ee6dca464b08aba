use Rattle.std.proofs.Common.{◌≡◌, List, ◌∙◌, subst}
use Rattle.std.specs.Prelude.{IfOk}
use Rattle.kt_trace.specs.declared.traced.Traced.{Traced}
use Rattle.kt_look.specs.Told.{end_by, form_text}
use Rattle.kt_look.proofs.telling.tell.Goals as goal

pub returns-clause-text : goal.returns-clause-text
returns-clause-text g c =
    subst (λ (all : List Traced). IfOk c.telling_of-telling.result (λ told. told.text.items ≡ form_text c.args.form c.args.choice all))
    (c.deref.ensures.value ∙ c.in_ok-entries.ensures) c.telling_of-telling.ensures.text

pub returns-clause-end : goal.returns-clause-end
returns-clause-end g c =
    subst (λ (all : List Traced). IfOk c.telling_of-telling.result (λ told. told.end ≡ end_by all))
    (c.deref.ensures.value ∙ c.in_ok-entries.ensures) c.telling_of-telling.ensures.end
