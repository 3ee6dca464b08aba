use Rattle.std.proofs.Common.{subst, sym}
use Rattle.kt_history.specs.declared.note.Note.{Note}
use Rattle.kt_ckpt.specs.auxiliary.Gathered.{IsLeft, row}
use Rattle.kt_ckpt.proofs.Gatherings.{left-all}
use Rattle.kt_ckpt.proofs.past.give_up.Goals as goal

pub returns-in-Act : goal.returns-in-Act
returns-in-Act c = λ p.
    subst (λ (n : Note). IsLeft n (row c.args.gathered.now.items p) p (row c.args.gathered.now.items p)) (sym c.in-Act.is)
    (left-all c.args.gathered.now.items c.in-Act.field-0 p)
