use Rattle.std.proofs.Common.{◌↔◌, Bool, Contains, IsTrue}
use Rattle.std.proofs.lemmas.Result.{IfOk-weaker}
use Rattle.kt_resume.proofs.EqualTuples.{taken_there}
use Rattle.kt_resume.proofs.space.withdraw.Goals as goal

pub returns-clause-all : goal.returns-clause-all
returns-clause-all c = λ new h.
    let there = taken_there c.args.tuple.now c.args.bag.now.tuples new h.1 in
    IfOk-weaker c.take_equal.result (λ (may : Bool). IsTrue may ↔ Contains c.args.bag.now.tuples c.args.tuple.now) (λ (may : Bool). IsTrue may)
    (λ may is. is.1 there)
    c.take_equal.ensures.there
