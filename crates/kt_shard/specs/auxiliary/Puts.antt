-- What a service puts.
-- Cited by parts.rt, service.rt.
use Rattle.std.specs.Prelude.{Option, None, Some}
use Rattle.kt_tuple.specs.declared.tuple.Tuple.{Tuple}
use Rattle.kt_tuple.specs.declared.op.Op.{Op}
use Rattle.kt_tuple.specs.declared.op.Op.TheVariants.{Out, In, Rd, Inp, Rdp}

-- the tuple that the operation puts
abbrev pub put_of : Op → Option Tuple
put_of (Out u) = Some u
put_of (In t) = None
put_of (Rd t) = None
put_of (Inp t) = None
put_of (Rdp t) = None
