use Rattle.std.proofs.Common.{◌++◌, ◌∷◌, [], Bool, List, ℕ, ap, ◌∙◌}
use Rattle.std.specs.Prelude.{codes, filter}
use Rattle.kt_tuple.specs.Node.{all_nodes}
use Rattle.kt_vote.specs.Poll.{is_awaited}
use Rattle.kt_store.specs.Content.{instance_row}
use Rattle.kt_cells.specs.Cells.{asked_text, awaited_lines, begun_text, said_if}
use Rattle.kt_cells.specs.Texts.{text_of}
use Rattle.kt_cells.proofs.Added.{part_is}
use Rattle.kt_cells.proofs.ballot_cells.ballot_lines.Goals as goal

pub returns : goal.returns
returns c =
    let ballot = c.args.ballot.now in
    let l1 = text_of c.add_line.new.lines.items in
    let l2 = text_of c.add_awaited.new.lines.items in
    let l3 = text_of c.add_text_if.new.lines.items in
    part_is (begun_text (instance_row c.args.world.now.state.content ballot.instance) ++ asked_text ballot.parent)
    (awaited_lines (filter (is_awaited ballot) all_nodes)) (said_if ballot.refused (codes "a vote was no")) (said_if ballot.voted (codes "has voted"))
    (text_of c.new-lines.result.items) l1 l2 l3 (text_of c.add_text_if-2.new.lines.items) (ap text_of c.new-lines.ensures.items)
    (c.in_ok-add_line.ensures ∙ ap (λ (line : List ℕ). text_of c.new-lines.result.items ++ line ∷ []) c.in_ok-line.ensures)
    c.in_ok-add_awaited.ensures
    (c.in_ok-add_text_if.ensures ∙ ap (λ (b : Bool). l2 ++ said_if b (codes "a vote was no")) c.refused.ensures.value)
    (c.in_ok-add_text_if-2.ensures ∙ ap (λ (b : Bool). l3 ++ said_if b (codes "has voted")) c.has_voted.ensures)
