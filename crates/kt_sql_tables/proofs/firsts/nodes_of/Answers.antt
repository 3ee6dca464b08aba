use Rattle.std.proofs.Common.{◌≡◌, ◌∙◌, ◌<◌, List, [], ◌∷◌, ◌++◌, length, add-one, ap, ap₂, sym, subst, arith, rules}
use Rattle.sqlite.specs.Order.{Row, column}
use Rattle.kt_tuple.specs.declared.node.NodeId.{NodeId}
use Rattle.kt_sql_tables.proofs.AnswerLemmas.{id_at_place}
use Rattle.kt_sql_tables.proofs.firsts.nodes_of.Goals as goal

pub returns-in_err-node-clause-memory : goal.returns-in_err-node-clause-memory
returns-in_err-node-clause-memory c ns said is =
    let it = id_at_place ns c.args.rows.now c.loop-row.row-index said is c.loop-row-test.true in
    let same = c.row-item.is ∙ it.is c.row-item.result in
    let memory = c.in_err-node.ensures.exact it.row.node it.good.node (subst (λ (r : Row). 0 < length r) (sym same) (omega arith))
    (ap (λ (r : Row). column r 0) same) in
    search (rules, memory)

pub loop-row-preserved : goal.loop-row-preserved
loop-row-preserved c ns said is =
    let it = id_at_place ns c.args.rows.now c.loop-row.row-index said is c.loop-row-test.true in
    let same = c.row-item.is ∙ it.is c.row-item.result in
    let node = c.in_ok-node.ensures.exact it.row.node it.good.node (subst (λ (r : Row). 0 < length r) (sym same) (omega arith))
    (ap (λ (r : Row). column r 0) same) in
    let pushed : c.push.new.self.items ≡ c.loop-row.nodes.items ++ c.in_ok-node.node ∷ [] = search rules in
    rw add-one (pushed ∙ ap₂ (λ (l : List NodeId) (n : NodeId). l ++ n ∷ []) (c.loop-row.invariant ns said is) node ∙ sym it.more)
