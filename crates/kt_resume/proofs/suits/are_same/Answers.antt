use Rattle.std.proofs.Common.{ap}
use Rattle.std.specs.Option.{option_copied}
use Rattle.kt_resume.proofs.Requests.{ops_same}
use Rattle.kt_resume.proofs.suits.are_same.Goals as goal

pub returns-in-Some-Some : goal.returns-in-Some-Some
returns-in-Some-Some c =
    ops_same (option_copied c.args.one) (option_copied c.args.other) c.in-Some-Some.one.now c.in-Some-Some.other.now c.eq.result
    (ap option_copied c.in-Some-Some.is-0) (ap option_copied c.in-Some-Some.is-1) c.eq.ensures
