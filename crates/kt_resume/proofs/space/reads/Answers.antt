use Rattle.std.proofs.Common.{◌∙◌, sym}
use Rattle.std.specs.Option.{option_copied}
use Rattle.std.proofs.lemmas.List.Sorted.{IsPermutation-refl}
use Rattle.kt_resume.proofs.EqualTuples.{found_there, some_copied}
use Rattle.kt_resume.proofs.space.reads.Goals as goal

pub returns-clause-step : goal.returns-clause-step
returns-clause-step c = λ yes.
    let there =
    found_there c.in_ok-alone.alone c.args.tuple.now c.args.bag.now.tuples (option_copied c.nth_match.result) c.in_ok-alone.ensures.alone c.nth_match.ensures in
    let fits = c.matches.ensures.meaning.0 c.if-not-matches.false in
    (fits, there.0 (some_copied c.nth_match.result ∙ sym c.is_some.ensures ∙ yes), IsPermutation-refl c.args.bag.now.tuples)

pub returns-clause-all : goal.returns-clause-all
returns-clause-all c = λ new h.
    let there =
    found_there c.in_ok-alone.alone c.args.tuple.now c.args.bag.now.tuples (option_copied c.nth_match.result) c.in_ok-alone.ensures.alone c.nth_match.ensures in
    c.is_some.ensures ∙ sym (some_copied c.nth_match.result) ∙ there.1 h.1
