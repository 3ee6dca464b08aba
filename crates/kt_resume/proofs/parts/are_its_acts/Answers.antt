use Rattle.std.proofs.Common.{◌≡◌, Bor, ap, ◌∙◌}
use Rattle.std.specs.List.{list_all}
use Rattle.kt_tuple.specs.declared.node.NodeId.{NodeId}
use Rattle.kt_ckpt.specs.declared.acts.LogAct.{LogAct}
use Rattle.kt_ckpt.specs.Acts.{is_act_of}
use Rattle.kt_resume.proofs.Rooms.{all-lent}
use Rattle.kt_resume.proofs.parts.are_its_acts.Goals as goal

pub returns : goal.returns
returns c =
    let own = c.args.checkpoint.now.node in
    let told : c.are_all_of.result ≡ list_all (λ (a : Bor LogAct). is_act_of c.node.result a.now) c.deref.result.now = c.are_all_of.ensures in
    told ∙ ap (λ (p : NodeId). list_all (λ (a : Bor LogAct). is_act_of p a.now) c.deref.result.now) c.node.ensures
    ∙ ap (list_all (λ (a : Bor LogAct). is_act_of own a.now)) c.deref.ensures.value ∙ all-lent (is_act_of own) c.in_ok-acts.acts.items
    ∙ ap (list_all (is_act_of own)) (c.in_ok-acts.ensures ∙ c.acts.ensures)
