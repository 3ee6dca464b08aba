use Rattle.std.proofs.Common.{◌≡◌, List, Ok, subst}
use Rattle.kt_ckpt.specs.declared.acts.LogAct.{LogAct}
use Rattle.kt_ckpt.specs.Old.{log_at}
use Rattle.kt_ckpt.proofs.OldCheckpoints.{old_read_checkpoint}
use Rattle.kt_ckpt.proofs.old.old_checkpoint_at.Goals as goal

pub returns : goal.returns
returns c =
    let log = subst (λ (acts : List LogAct). log_at acts c.in_ok-node.node c.in_ok-node.rest.now
    ≡ Ok (c.in_ok-line_len.line_len, c.in_ok-line_len.rest.now)) c.deref.ensures.value c.in_ok-line_len.ensures.value in
    let e = old_read_checkpoint c.args.acts.items c.args.bytes.now c.in_ok-behind_magic.behind_magic.now c.in_ok-behind_version.behind_version.now
    c.in_ok-node.node c.in_ok-node.rest.now c.in_ok-line_len.line_len c.in_ok-line_len.rest.now c.in_ok-peers.peers.items c.in_ok-peers.rest.now
    c.in_ok-state.state c.in_ok-state.rest.now c.in_ok-behind_magic.ensures c.in_ok-behind_version.ensures c.in_ok-node.ensures.value
    log c.in_ok-peers.ensures.value c.in_ok-state.ensures.value in
    let made = c.in_ok-ckpt.ensures in
    cc
