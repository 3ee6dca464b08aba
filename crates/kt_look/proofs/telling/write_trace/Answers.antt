use Rattle.std.proofs.Common.{refl}
use Rattle.kt_look.specs.Told.{unread}
use Rattle.kt_look.proofs.Tellings.{ends_trace_as}
use Rattle.kt_look.proofs.telling.write_trace.Goals as goal

pub returns-in-Ok : goal.returns-in-Ok
returns-in-Ok g c = record {
  ends = ends_trace_as c.args.form c.args.choice c.args.reader.now c.read_text.new.reader c.in-Ok.text.items c.deref.result.now c.args.writer.now
      c.write_told.new.writer c.write_told.result c.deref.ensures.value c.in-Ok.ensures.read c.write_told.ensures;
}

pub returns-in-Err : goal.returns-in-Err
returns-in-Err g c = record { ends = unread c.in-Err.fault c.in-Err.ensures.only refl }
