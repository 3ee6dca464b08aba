use Rattle.std.proofs.Common.{rules, ◌≡◌, ◌==◌, ◌<◌, ◌+◌, length, not, filter, List, Some, None, sym, ap, refl, ◌∙◌}
use Rattle.std.specs.List.{position, slice_get}
use Rattle.std.proofs.lemmas.Fn.{filter_same}
use Rattle.std.proofs.lemmas.Option.{slice_get_read}
use Rattle.kt_store.specs.declared.instance_row.Opened.{Opened}
use Rattle.kt_store.specs.declared.rows.InstanceRow.{InstanceRow}
use Rattle.kt_store.specs.Content.{Content, instance_row}
use Rattle.kt_store.specs.Changes.{decided}
use Rattle.kt_store.proofs.Tables.{position_found, position_none}
use Rattle.kt_store.proofs.Board.{decided_there, not_begun}
use Rattle.kt_store.proofs.Numbered.{board_set, found_number, opened_settled, set_numbered}
use Rattle.kt_store.specs.Verdict.{verdict_from}
use Rattle.kt_store.proofs.contents.Contents.settle.Goals as goal

pub returns-in-Some : goal.returns-in-Some
returns-in-Some c =
    let content : Content = record { nodes = c.self.inside.nodes.items; board = c.self.inside.board.items } in
    let place : position (λ (row : InstanceRow). row.instance == c.args.instance) c.self.inside.board.items ≡ Some c.in-Some.place = search rules in
    let within : c.in-Some.place < length c.self.inside.board.items = search rules in
    let at : slice_get c.self.inside.board.items c.in-Some.place ≡ Some c.index_mut.result.now =
    slice_get_read c.self.inside.board.items (length c.self.inside.board.items) c.in-Some.place c.index_mut.result.now refl within c.index_mut.ensures.value in
    let found : instance_row content c.args.instance ≡ Some c.index_mut.result.now =
    sym (position_found (λ (row : InstanceRow). row.instance == c.args.instance) c.self.inside.board.items c.in-Some.place place) ∙ at in
    rw c.of.ensures (decided_there content c.args.instance c.args.yes c.in-Some.place c.index_mut.result.now c.self.invariant.1.rising found at
    ∙ ap (decided c.args.instance c.args.yes) c.self.view_is)

pub returns-in_default : goal.returns-in_default
returns-in_default c =
    let place : position (λ (row : InstanceRow). row.instance == c.args.instance) c.args.self.now.board ≡ None = search rules in
    not_begun c.args.self.now c.args.instance c.args.yes (position_none (λ (row : InstanceRow). row.instance == c.args.instance) c.args.self.now.board place)

pub invariant_of-self : goal.invariant_of-self
invariant_of-self c =
    let rows : List InstanceRow = c.self.inside.board.items in
    let row : InstanceRow = c.index_mut.result.now in
    let place : position (λ (row : InstanceRow). row.instance == c.args.instance) rows ≡ Some c.in-Some.place = search rules in
    let within : c.in-Some.place < length rows = search rules in
    let at : slice_get rows c.in-Some.place ≡ Some row =
    slice_get_read rows (length rows) c.in-Some.place row refl within c.index_mut.ensures.value in
    let number : row.instance ≡ 0 + c.in-Some.place + 1 = c.self.invariant.2 c.in-Some.place row at in
    let same : row.instance ≡ c.args.instance = found_number rows c.in-Some.place c.args.instance row place at in
    let kept : c.retain.new.self.items ≡ filter (λ (o : Opened). not (o.instance == c.args.instance)) c.self.inside.undecided.items =
    filter_same _ _ _ (λ x b f' k. search rules) _ _ c.retain.ensures.filtered in
    rw c.of.ensures (
      c.self.invariant.0,
      board_set rows c.in-Some.place row record row { verdict = verdict_from c.args.yes } c.self.invariant.1 at refl,
      set_numbered rows 0 c.in-Some.place row record row { verdict = verdict_from c.args.yes } c.self.invariant.2 at refl,
      kept ∙ ap (filter (λ (o : Opened). not (o.instance == c.args.instance))) c.self.invariant.3
          ∙ sym (opened_settled rows 0 c.in-Some.place c.args.instance row c.args.yes c.self.invariant.2 at (sym same ∙ number)),
    )
