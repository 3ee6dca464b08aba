use Rattle.std.proofs.Common.{◌++◌, ◌∷◌, [], List, sym, ap, ◌∙◌}
use Rattle.std.proofs.lemmas.Result.{on_ok_weaker}
use Rattle.kt_state.specs.declared.message.Message.{Message}
use Rattle.kt_model.specs.State.{link}
use Rattle.kt_trace.proofs.Sending.{sent_more, sent_past}
use Rattle.kt_trace.proofs.ways.+add_from.Goals as goal

pub returns-in_ok-add-in-Some : goal.returns-in_ok-add-in-Some
returns-in_ok-add-in-Some t c =
    on_ok_weaker c.add_from.result
    (sent_more (link c.args.world.now.state c.args.from c.args.to) c.args.place c.in-Some.message.now c.args.to c.args.sent.now c.add.new.self
    c.add_from.new.sent (sym c.in-Some.ensures)
    (c.in_ok-add-in-Some.ensures ∙ ap (λ (m : Message). c.args.sent.now ++ (c.args.to, m) ∷ []) c.in_ok-copy_message-in-Some.ensures))
    c.add_from.ensures

pub returns-in-None : goal.returns-in-None
returns-in-None t c =
    sent_past (link c.args.world.now.state c.args.from c.args.to) c.args.place c.args.to c.args.sent.now (sym c.in-None.ensures)
