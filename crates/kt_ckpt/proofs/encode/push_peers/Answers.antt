use Rattle.std.proofs.Common.{ℕ, ◌++◌, ◌∷◌, [], length, ap, sym, ◌∙◌}
use Rattle.std.specs.List.{flat_map, zip}
use Rattle.std.proofs.lemmas.Result.{on_ok_weaker}
use Rattle.kt_ckpt.specs.Checkpoint.{peer_bytes}
use Rattle.kt_ckpt.proofs.Loop.{both_appended}
use Rattle.kt_ckpt.proofs.Peers.{zip_len}
use Rattle.kt_ckpt.proofs.encode.push_peers.Goals as goal

pub returns-clause-ok : goal.returns-clause-ok
returns-clause-ok c =
    let s = c.args.sent.now in
    let r = c.args.received.now in
    on_ok_weaker c.push_labels.result
    (λ e. both_appended _ _ _ (length s ∷ []) (flat_map peer_bytes (zip s r)) c.in_ok-push.ensures.items e
    ∙ ap (λ (n : ℕ). c.args.out.now.items ++ (n ∷ flat_map peer_bytes (zip s r))) (sym (zip_len s r c.requires.2)))
    c.push_labels.ensures.ok
