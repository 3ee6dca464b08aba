use Rattle.std.proofs.Common.{◌≡◌, ◌<◌, ◌∙◌, ap, sym, subst, arith, get_or, length, map, List}
use Rattle.std.proofs.lemmas.List.{length-map, get_or-map}
use Rattle.std.proofs.lemmas.List.Elements.{All-more}
use Rattle.kt_ckpt.specs.declared.acts.LogAct.{LogAct}
use Rattle.kt_ckpt.specs.Acts.{IsSpelledAct, act_bytes}
use Rattle.kt_ckpt.proofs.Loop.{appended}
use Rattle.kt_ckpt.proofs.act_bytes.push_acts.Goals as goal

pub loop-act-preserved : goal.loop-act-preserved
loop-act-preserved c =
    let acts : List LogAct = map (λ a. a.now) c.args.acts.now in
    let at = c.loop-act.act-index in
    let act : LogAct = c.act-item.result.now in
    let lt : at < length acts = omega (arith, length-map c.args.acts.now (λ a. a.now), c.loop-act-test.true) in
    let is : act ≡ get_or acts at act =
    ap (λ a. a.now) c.act-item.is ∙ sym (get_or-map (λ a. a.now) c.args.acts.now at c.act-item.result act c.loop-act-test.true) in
    record {
      written = appended act_bytes acts at act _ _ _ lt is c.loop-act.invariant.written c.in_ok-push_act.ensures.ok;
      held = All-more IsSpelledAct acts at act lt c.loop-act.invariant.held (subst IsSpelledAct is c.in_ok-push_act.ensures.held);
    }
