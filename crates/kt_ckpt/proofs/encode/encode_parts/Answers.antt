use Rattle.kt_ckpt.proofs.Checkpoints.{spelled_out}
use Rattle.kt_ckpt.proofs.encode.encode_parts.Goals as goal

pub returns-clause-value : goal.returns-clause-value
returns-clause-value c =
    let a = c.args in
    spelled_out _ _ _ _ _ _ _
    (record { node = a.node; line_len = a.line_len; sent = a.sent.now; received = a.received.now; state = a.state.now; acts = a.acts.now })
    c.new-out.ensures.items c.in_ok-push_front.ensures c.in_ok-push_node.ensures c.in_ok-push_u64.ensures c.in_ok-push_peers.ensures.ok
    c.in_ok-push_state.ensures.ok c.in_ok-push_log.ensures.ok
