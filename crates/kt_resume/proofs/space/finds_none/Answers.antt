use Rattle.kt_resume.proofs.EqualTuples.{none_found, none_matches}
use Rattle.kt_resume.proofs.space.finds_none.Goals as goal

pub returns-clause-step : goal.returns-clause-step
returns-clause-step c = none_found c.args.template.now c.args.bag.now.tuples c.nth_match.result c.is_none.result c.nth_match.ensures c.is_none.ensures

pub returns-clause-all : goal.returns-clause-all
returns-clause-all c = λ new h.
    none_matches c.args.template.now c.args.bag.now.tuples c.nth_match.result c.is_none.result c.nth_match.ensures c.is_none.ensures h.0
