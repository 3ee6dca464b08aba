-- Of `CkptHeader::decode` in src/decode.rt.
use Rattle.std.proofs.Common.{ap, subst, ◌∙◌}
use Rattle.kt_ckpt.specs.Header.{HeaderFields, header_at}
use Rattle.kt_ckpt.specs.Reading.{Gives}
use Rattle.kt_ckpt.proofs.Checkpoints.{header_again}
use Rattle.kt_ckpt.proofs.header.CkptHeader.decode.Goals as goal

pub returns-clause-of_checkpoint : goal.returns-clause-of_checkpoint
returns-clause-of_checkpoint c = λ x h e. subst (λ f. Gives (λ (m : HeaderFields). m) c.decode_header.result f)
    (ap header_at e ∙ header_again x h) c.decode_header.ensures
