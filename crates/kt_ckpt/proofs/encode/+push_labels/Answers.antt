use Rattle.std.proofs.lemmas.Result.{on_ok_weaker}
use Rattle.kt_ckpt.proofs.Peers.{labels_out}
use Rattle.kt_ckpt.proofs.encode.+push_labels.Goals as goal

pub returns-in_ok-push_label-in-Some-Some-2-clause-ok : goal.returns-in_ok-push_label-in-Some-Some-2-clause-ok
returns-in_ok-push_label-in-Some-Some-2-clause-ok t c =
    let s = c.in-Some-Some in
    let first = c.in_ok-push_label-in-Some-Some in
    let second = c.in_ok-push_label-in-Some-Some-2 in
    on_ok_weaker c.push_labels.result
    (λ e. labels_out _ _ _ _ s.sent.now s.received.now s.others_sent.now s.others_received.now c.args.sent.now c.args.received.now
    s.ensures.cases.0 s.ensures'.cases.0 first.ensures.ok second.ensures.ok e)
    c.push_labels.ensures.ok
