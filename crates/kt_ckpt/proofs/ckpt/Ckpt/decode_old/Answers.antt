-- Of `Ckpt::decode_old` in src/old.rt.
use Rattle.std.proofs.Common.{ap, subst, sym, ◌∙◌, arith}
use Rattle.kt_ckpt.specs.Reading.{Gives}
use Rattle.kt_ckpt.specs.Checkpoint.{Checkpoint}
use Rattle.kt_ckpt.specs.Old.{read_old}
use Rattle.kt_ckpt.proofs.OldCheckpoints.{old_is_found, old_read_again, old_front_cut, old_more_extra, is_other_version}
use Rattle.kt_ckpt.proofs.ckpt.Ckpt.decode_old.Goals as goal

pub returns-clause-found : goal.returns-clause-found
returns-clause-found c = old_is_found c.args.acts.items c.args.bytes.now c.decode_old.result (λ i. omega (arith, c.type_inv.bytes i)) c.decode_old.ensures

pub returns-clause-only : goal.returns-clause-only
returns-clause-only c = λ x h same e. subst (λ f. Gives (λ (k : Checkpoint). k) c.decode_old.result f)
    (ap (read_old c.args.acts.items) e ∙ old_read_again c.args.acts.items x h same) c.decode_old.ensures

pub returns-clause-cut : goal.returns-clause-cut
returns-clause-cut c = λ x b more h same e. subst (λ f. Gives (λ (k : Checkpoint). k) c.decode_old.result f)
    (old_front_cut c.args.acts.items x c.args.bytes.now b more h same e) c.decode_old.ensures

pub returns-clause-extra : goal.returns-clause-extra
returns-clause-extra c = λ x b more h same e. subst (λ f. Gives (λ (k : Checkpoint). k) c.decode_old.result f)
    (old_more_extra c.args.acts.items x c.args.bytes.now b more h same e) c.decode_old.ensures

pub returns-clause-other_version : goal.returns-clause-other_version
returns-clause-other_version c = λ v more e never. subst (λ f. Gives (λ (k : Checkpoint). k) c.decode_old.result f)
    (is_other_version c.args.acts.items c.args.bytes.now v more e never) c.decode_old.ensures
