use Rattle.std.proofs.Common.{◌∙◌, ap, drop, map, List, ℕ}
use Rattle.std.proofs.lemmas.List.{take_rest}
use Rattle.kt_history.specs.Closed.{acts_at}
use Rattle.kt_ckpt.specs.LogActs.{log_act}
use Rattle.kt_ckpt.proofs.NotedLogs.{acts_behind}
use Rattle.kt_ckpt.proofs.past.acts_behind.Goals as goal

pub returns-clause-acts : goal.returns-clause-acts
returns-clause-acts c =
    let h = c.args.history.now.notes in
    c.in_ok-acts.ensures
    ∙ ap (λ (l : List ℕ). map (log_act h) (acts_at h l)) (take_rest c.line-log.result.now c.args.first)
    ∙ ap (λ (l : List ℕ). map (log_act h) (acts_at h (drop c.args.first l))) c.line-log.ensures
    ∙ acts_behind h c.args.node c.args.first
