-- Of `Template::write_to` in src/writing.rt.
use Rattle.std.specs.Prelude.{◌≡◌, All, None, OnOk}
use Rattle.std.proofs.Common.{subst}
use Rattle.kt_tuple.specs.Parsing.{template_fault, template_places}
use Rattle.kt_tuple.specs.Spelling.{template_text}
use Rattle.kt_tuple.specs.Valid.{IsPlace}
use Rattle.kt_tuple.proofs.Texts.{template_faultless, template_remade, when_ok}
use Rattle.kt_tuple.proofs.template.Template.write_to.Goals as goal

pub returns-clause-faultless : goal.returns-clause-faultless
returns-clause-faultless c =
    let us = c.args.self.now in
    rw c.cut_back.ensures.same (when_ok _ (All IsPlace us) (template_fault (template_text us) ≡ None)
    (template_faultless us c.places.ensures.arity)
    (subst (λ xs. OnOk c.push_in_parentheses-written.result (All IsPlace xs)) c.places.ensures.value c.push_in_parentheses-written.ensures.held))

pub returns-clause-read_back : goal.returns-clause-read_back
returns-clause-read_back c =
    let us = c.args.self.now in
    rw c.cut_back.ensures.same (when_ok _ (All IsPlace us) (template_places (template_text us) ≡ us)
    (template_remade us c.places.ensures.arity)
    (subst (λ xs. OnOk c.push_in_parentheses-written.result (All IsPlace xs)) c.places.ensures.value c.push_in_parentheses-written.ensures.held))
