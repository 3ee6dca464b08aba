-- Of `Ckpt::encode_old` in src/old.rt.
use Rattle.std.proofs.Common.{◌≡◌, ap, rules, ◌∙◌}
use Rattle.kt_ckpt.specs.Old.{IsOldCheckpoint, read_old, spelling_old}
use Rattle.kt_ckpt.proofs.OldCheckpoints.{old_read_again}
use Rattle.kt_ckpt.proofs.ckpt.Ckpt.encode_old.Goals as goal

pub returns-clause-read_back : goal.returns-clause-read_back
returns-clause-read_back c =
    let is : c.in_ok-bytes.bytes.items ≡ spelling_old c.args.self.now = search rules in
    let held : IsOldCheckpoint c.args.self.now = search rules in
    let back = old_read_again c.args.self.now.acts c.args.self.now held in
    ap (read_old c.args.self.now.acts) is ∙ back (search rules)
