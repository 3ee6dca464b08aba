use Rattle.kt_ckpt.proofs.Checkpoints.{read_checkpoint}
use Rattle.kt_ckpt.proofs.decode.checkpoint_at.Goals as goal

pub returns : goal.returns
returns c =
    let e = read_checkpoint c.args.bytes.now c.in_ok-behind_magic.behind_magic.now c.in_ok-behind_version.behind_version.now c.in_ok-node.node
    c.in_ok-node.rest.now c.in_ok-line_len.line_len c.in_ok-line_len.rest.now c.in_ok-peers.peers.items c.in_ok-peers.rest.now c.in_ok-state.state
    c.in_ok-state.rest.now c.in_ok-acts.acts.items c.in_ok-acts.rest.now
    c.in_ok-behind_magic.ensures c.in_ok-behind_version.ensures c.in_ok-node.ensures.value c.in_ok-line_len.ensures c.in_ok-peers.ensures.value
    c.in_ok-state.ensures.value c.in_ok-acts.ensures.value in
    let made = c.in_ok-ckpt.ensures in
    cc
