use Rattle.std.proofs.Common.{[], List, ℕ, sym, subst}
use Rattle.std.specs.declared.vec.Vec.{Vec}
use Rattle.std.specs.declared.alloc.Global.{Global}
use Rattle.kt_history.specs.declared.note.Note.{Note}
use Rattle.kt_history.specs.declared.mark.Mark.{Mark}
use Rattle.kt_history.specs.auxiliary.Marks.{Agrees, rows_of}
use Rattle.kt_history.proofs.Keeping.{Agrees-empty}
use Rattle.kt_history.proofs.history.History.new.Goals as goal

pub invariant_of-result : goal.invariant_of-result
invariant_of-result c =
    let P : List Note → Type 0 = λ h. Agrees h (rows_of c.new-2.result.items) c.new-3.result.items 0 in
    let Q : List (Vec ℕ Global) → Type 0 = λ rows. Agrees [] (rows_of rows) c.new-3.result.items 0 in
    let R : List Mark → Type 0 = λ marks. Agrees [] [] marks 0 in
    subst P (sym c.new.ensures.items) (subst Q (sym c.new-2.ensures.items) (subst R (sym c.new-3.ensures.items) Agrees-empty))
