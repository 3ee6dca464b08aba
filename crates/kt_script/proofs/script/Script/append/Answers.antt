use Rattle.std.proofs.Common.{◌++◌, ◌∷◌, [], ap, ◌∙◌}
use Rattle.kt_script.specs.Rules.{refusal_of}
use Rattle.kt_script.proofs.Pushed.{pushed}
use Rattle.kt_script.proofs.script.Script.append.Goals as goal

pub invariant_of-self-2 : goal.invariant_of-self-2
invariant_of-self-2 c =
    pushed c.self.inside.commands.items _ c.args.command _ _ _
    c.self.invariant
    (ap (λ cs. refusal_of cs c.args.command) c.self.view_is ∙ c.requires)
    c.in_ok-bindings.ensures c.in_ok-bind_all.ensures.ok
    (c.push_reserved.ensures.items ∙ ap (λ cs. cs ++ c.args.command ∷ []) c.reserve.ensures.items)
