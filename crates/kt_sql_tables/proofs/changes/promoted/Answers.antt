use Rattle.std.proofs.Common.{◌≡◌, None, Option, sym, subst, ℕ}
use Rattle.std.specs.declared.vec.Vec.{Vec}
use Rattle.std.specs.declared.alloc.Global.{Global}
use Rattle.kt_store.specs.Changes.{promoted_from}
use Rattle.kt_sql_tables.specs.Cells.{cells_node, AreSaid}
use Rattle.kt_sql_tables.proofs.CellLemmas.{promoted_is}
use Rattle.kt_sql_tables.proofs.changes.promoted.Goals as goal

pub returns-clause-said : goal.returns-clause-said
returns-clause-said c h =
    subst (λ (p : Option (Vec ℕ Global)). AreSaid (record c.args.cells { permanent = p; tentative = None; instance = None }))
    (sym c.later.ensures) (promoted_is c.args.cells h).said

pub returns-clause-value : goal.returns-clause-value
returns-clause-value c h =
    let r = cells_node c.args.cells in
    subst (λ (p : Option (Vec ℕ Global)). cells_node (record c.args.cells { permanent = p; tentative = None; instance = None })
    ≡ record r { permanent = promoted_from r.permanent r.tentative; tentative = None })
    (sym c.later.ensures) (promoted_is c.args.cells h).value
