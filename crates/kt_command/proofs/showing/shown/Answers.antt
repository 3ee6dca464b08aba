use Rattle.std.proofs.Common.{ℕ, List, true, false}
use Rattle.std.specs.declared.vec.Vec.{Vec}
use Rattle.std.specs.declared.alloc.Global.{Global}
use Rattle.kt_core.specs.Store.{store_value}
use Rattle.kt_command.proofs.Printings.{shown_told}
use Rattle.kt_command.proofs.showing.shown.Goals as goal

pub returns-then-is_json-clause-text : goal.returns-then-is_json-clause-text
returns-then-is_json-clause-text g c =
    let items : Vec ℕ Global → List ℕ = λ v. v.items in
    let value = store_value g.S.CkptStore in
    let said = c.show_json.ensures in
    rw c.if-is_json.true (shown_told items true (value c.args.store.now) (value c.show_json.new.store) c.show_json.result said.text said.same said.honest)

pub returns-else-is_json-clause-text : goal.returns-else-is_json-clause-text
returns-else-is_json-clause-text g c =
    let items : Vec ℕ Global → List ℕ = λ v. v.items in
    let value = store_value g.S.CkptStore in
    let said = c.show.ensures in
    rw c.if-is_json.false (shown_told items false (value c.args.store.now) (value c.show.new.store) c.show.result said.text said.same said.honest)
