use Rattle.std.proofs.Common.{refl}
use Rattle.kt_look.specs.auxiliary.Endings.{is_untold}
use Rattle.kt_look.proofs.Tellings.{ends_telling}
use Rattle.kt_look.proofs.telling.write_told.Goals as goal

pub returns-in-Ok : goal.returns-in-Ok
returns-in-Ok g c =
    ends_telling c.args.form c.args.choice c.args.text.now c.in-Ok.telling.text.items c.in-Ok.telling.end c.args.writer.now c.write_telling.new.writer
    c.in-Ok.ensures.told c.write_telling.ensures

pub returns-in-Err : goal.returns-in-Err
returns-in-Err g c = is_untold c.in-Err.fault c.in-Err.ensures.fault refl
