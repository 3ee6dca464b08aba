use Rattle.std.proofs.Common.{rules, ◌≡◌, ◌∙◌, List, Some, None, sym, ap}
use Rattle.std.specs.List.{find}
use Rattle.std.specs.Option.{option_map}
use Rattle.kt_tuple.specs.Node.{node_eq}
use Rattle.kt_store.specs.declared.instance_row.Opened.{Opened}
use Rattle.kt_store.specs.Content.{Content, open_of}
use Rattle.kt_store.proofs.Numbered.{open_found}
use Rattle.kt_store.proofs.contents.Contents.open_instance_of.Goals as goal

pub returns-in_err-opened_at : goal.returns-in_err-opened_at
returns-in_err-opened_at c =
    let at : find (λ (row : Opened). node_eq row.initiator c.args.node) c.self.inside.undecided.items ≡ None = search rules in
    let none : c.from_residual.result ≡ None = search rules in
    rw none (ap (option_map (λ (o : Opened). o.instance)) (sym at)
    ∙ ap (λ (l : List Opened). option_map (λ (o : Opened). o.instance) (find (λ (row : Opened). node_eq row.initiator c.args.node) l))
    c.self.invariant.3 ∙ open_found c.args.node c.self.inside.board.items ∙ ap (λ (d : Content). open_of d c.args.node) c.self.view_is)

pub returns : goal.returns
returns c =
    let at : find (λ (row : Opened). node_eq row.initiator c.args.node) c.self.inside.undecided.items ≡ Some c.in_ok-opened_at.field-0.now =
    search rules in
    ap (option_map (λ (o : Opened). o.instance)) (sym at)
    ∙ ap (λ (l : List Opened). option_map (λ (o : Opened). o.instance) (find (λ (row : Opened). node_eq row.initiator c.args.node) l))
    c.self.invariant.3 ∙ open_found c.args.node c.self.inside.board.items ∙ ap (λ (d : Content). open_of d c.args.node) c.self.view_is
