-- Of `Ckpt::decode` in src/decode.rt.
use Rattle.std.proofs.Common.{ap, subst, ◌∙◌, arith}
use Rattle.kt_ckpt.specs.Reading.{Gives}
use Rattle.kt_ckpt.specs.Checkpoint.{Checkpoint, read}
use Rattle.kt_ckpt.proofs.Checkpoints.{is_found, read_again, front_cut, more_extra, begins_short, begins_otherwise, is_otherwise}
use Rattle.kt_ckpt.proofs.ckpt.Ckpt.decode.Goals as goal

pub returns-clause-found : goal.returns-clause-found
returns-clause-found c = is_found c.args.bytes.now c.decode.result (λ i. omega (arith, c.type_inv.bytes i)) c.decode.ensures

pub returns-clause-only : goal.returns-clause-only
returns-clause-only c = λ x h e. subst (λ f. Gives (λ (k : Checkpoint). k) c.decode.result f) (ap read e ∙ read_again x h) c.decode.ensures

pub returns-clause-cut : goal.returns-clause-cut
returns-clause-cut c = λ x b more h e. subst (λ f. Gives (λ (k : Checkpoint). k) c.decode.result f) (front_cut x c.args.bytes.now b more h e) c.decode.ensures

pub returns-clause-extra : goal.returns-clause-extra
returns-clause-extra c = λ x b more h e. subst (λ f. Gives (λ (k : Checkpoint). k) c.decode.result f)
    (more_extra x c.args.bytes.now b more h e) c.decode.ensures

pub returns-clause-short : goal.returns-clause-short
returns-clause-short c = λ h. subst (λ f. Gives (λ (k : Checkpoint). k) c.decode.result f) (begins_short c.args.bytes.now h) c.decode.ensures

pub returns-clause-other_magic : goal.returns-clause-other_magic
returns-clause-other_magic c = λ h never. subst (λ f. Gives (λ (k : Checkpoint). k) c.decode.result f)
    (begins_otherwise c.args.bytes.now h never) c.decode.ensures

pub returns-clause-other_version : goal.returns-clause-other_version
returns-clause-other_version c = λ v more e never. subst (λ f. Gives (λ (k : Checkpoint). k) c.decode.result f)
    (is_otherwise c.args.bytes.now v more e never) c.decode.ensures
