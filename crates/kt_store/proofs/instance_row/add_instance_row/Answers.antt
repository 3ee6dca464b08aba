use Rattle.std.proofs.Common.{◌∙◌, ◌+◌, ◌++◌, ◌∷◌, [], ℕ, List, sym, subst, ap}
use Rattle.kt_store.specs.declared.instance_row.Opened.{Opened}
use Rattle.kt_store.specs.Proper.{IsBoard}
use Rattle.kt_store.specs.auxiliary.Rising.{IsNumbered, opened, opened_of}
use Rattle.kt_store.proofs.Board.{instance_row_last, still_board}
use Rattle.kt_store.proofs.Numbered.{greatest_numbered, next_numbered, opened_next}
use Rattle.kt_store.proofs.instance_row.add_instance_row.Goals as goal

pub returns-clause-written : goal.returns-clause-written
returns-clause-written c = c.push_reserved-2.ensures.items ∙ instance_row_last c.args.new c.args.board.now.items c.requires.next

pub returns-clause-kept : goal.returns-clause-kept
returns-clause-kept c =
    subst IsBoard (sym c.push_reserved-2.ensures.items)
    (still_board c.args.new c.args.board.now.items c.requires.next c.requires.within c.requires.board)

pub returns-clause-still_numbered : goal.returns-clause-still_numbered
returns-clause-still_numbered c =
    subst IsNumbered (sym c.push_reserved-2.ensures.items)
    (next_numbered c.args.new c.args.board.now.items 0 c.requires.numbered
    (c.requires.next ∙ ap (λ (m : ℕ). m + 1) (greatest_numbered c.args.board.now.items 0 c.requires.numbered)))

pub returns-clause-still_opened : goal.returns-clause-still_opened
returns-clause-still_opened c =
    c.push_reserved.ensures.items ∙ ap (λ (l : List Opened). l ++ opened_of c.args.new ∷ []) c.requires.opened
    ∙ sym (opened_next c.args.new c.args.board.now.items c.requires.is_open) ∙ ap opened (sym c.push_reserved-2.ensures.items)
