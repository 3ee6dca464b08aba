use Rattle.kt_history.proofs.Runs.{taken_in, taken_inp}
use Rattle.kt_history.proofs.space.serve.Goals as goal

pub returns-in-In : goal.returns-in-In
returns-in-In c =
    taken_in c.take_out.result c.args.bag.now.tuples c.args.service.now.op _ c.args.service.now.answer c.take_out.new.bag.tuples c.in-In.is c.take_out.ensures

pub returns-in-Inp : goal.returns-in-Inp
returns-in-Inp c = taken_inp c.take_out-in-Inp.result c.args.bag.now.tuples c.args.service.now.op _ c.args.service.now.answer c.take_out-in-Inp.new.bag.tuples
    c.in-Inp.is c.take_out-in-Inp.ensures
