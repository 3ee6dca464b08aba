use Rattle.std.proofs.Common.{rules, ◌≡◌, ◌≤◌, ◌∙◌, ◌+◌, ℕ, map, length, sym, ap, arith}
use Rattle.std.specs.Prelude.{fold, max}
use Rattle.kt_store.specs.declared.rows.InstanceRow.{InstanceRow}
use Rattle.kt_store.specs.Content.{greatest, next_instance}
use Rattle.kt_store.proofs.Board.{greatest_within}
use Rattle.kt_store.proofs.Numbered.{greatest_numbered}
use Rattle.kt_store.proofs.contents.Contents.next_number.Goals as goal

pub returns-clause-value : goal.returns-clause-value
returns-clause-value c =
    let count : c.len.result ≡ 0 + length c.self.inside.board.items = search rules in
    ap (λ (m : ℕ). m + 1) (count ∙ sym (greatest_numbered c.self.inside.board.items 0 c.self.invariant.2))
    ∙ ap next_instance c.self.view_is

pub returns-clause-within : goal.returns-clause-within
returns-clause-within c =
    let count : c.len.result ≡ 0 + length c.self.inside.board.items = search rules in
    let low : fold max 0 (map (λ (row : InstanceRow). row.instance) c.self.inside.board.items) ≤ greatest =
    greatest_within c.self.inside.board.items 0 greatest (omega arith) c.self.invariant.1.within in
    let is : c.len.result ≡ fold max 0 (map (λ (row : InstanceRow). row.instance) c.self.inside.board.items) =
    count ∙ sym (greatest_numbered c.self.inside.board.items 0 c.self.invariant.2) in
    grind (arith, low, is)
