-- Of `Tuple::write_to` in src/writing.rt.
use Rattle.std.specs.Prelude.{◌≡◌, All, None, OnOk}
use Rattle.std.proofs.Common.{subst}
use Rattle.kt_tuple.specs.Parsing.{tuple_fault, tuple_values}
use Rattle.kt_tuple.specs.Spelling.{tuple_text}
use Rattle.kt_tuple.specs.Valid.{IsValue}
use Rattle.kt_tuple.proofs.Texts.{tuple_faultless, tuple_remade, when_ok}
use Rattle.kt_tuple.proofs.tuple.Tuple.write_to.Goals as goal

pub returns-clause-faultless : goal.returns-clause-faultless
returns-clause-faultless c =
    let us = c.args.self.now in
    rw c.cut_back.ensures.same (when_ok _ (All IsValue us) (tuple_fault (tuple_text us) ≡ None)
    (tuple_faultless us c.values.ensures.arity)
    (subst (λ xs. OnOk c.push_in_parentheses-written.result (All IsValue xs)) c.values.ensures.value c.push_in_parentheses-written.ensures.held))

pub returns-clause-read_back : goal.returns-clause-read_back
returns-clause-read_back c =
    let us = c.args.self.now in
    rw c.cut_back.ensures.same (when_ok _ (All IsValue us) (tuple_values (tuple_text us) ≡ us)
    (tuple_remade us c.values.ensures.arity)
    (subst (λ xs. OnOk c.push_in_parentheses-written.result (All IsValue xs)) c.values.ensures.value c.push_in_parentheses-written.ensures.held))
