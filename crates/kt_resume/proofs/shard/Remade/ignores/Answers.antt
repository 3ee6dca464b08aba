use Rattle.std.proofs.Common.{◌≡◌, ◌∙◌, ap, subst, sym}
use Rattle.kt_logs.specs.ShardLog.{Ignores, request_of}
use Rattle.kt_shard.specs.Limits.{sessions}
use Rattle.kt_shard.specs.Table.{at}
use Rattle.kt_resume.specs.Remade.{RemadeShard, Slot, empty_slot}
use Rattle.kt_resume.proofs.Remakes.{slot_found}
use Rattle.kt_resume.proofs.shard.Remade.ignores.Goals as goal

pub returns : goal.returns
returns c = λ made like.
    let a = c.args.act.now in
    let r = c.args.self.now in
    let slot = c.index.result.now in
    let slots : c.self.inside.slots.items ≡ r.slots = ap (λ (x : RemadeShard). x.slots) c.self.view_is in
    let is : slot ≡ at empty_slot r.slots a.worker =
    slot_found r.slots c.self.inside.slots.items a.worker c.from.result sessions slot slots c.self.invariant c.from.ensures c.requires c.index.ensures in
    let session : slot.session ≡ made.session a.worker = ap (λ (x : Slot). x.session) is ∙ like.sessions a.worker in
    (λ h. subst (Ignores (request_of a)) session (c.ignores.ensures.0 h), λ i. c.ignores.ensures.1 (subst (Ignores (request_of a)) (sym session) i))
