use Rattle.std.proofs.Common.{◌∙◌, ◌-◌, ap, drop, length, map, take, List, ℕ}
use Rattle.std.specs.List.{list_all}
use Rattle.std.proofs.lemmas.List.{take_rest}
use Rattle.kt_history.specs.Closed.{acts_at}
use Rattle.kt_ckpt.specs.Acts.{is_act_of}
use Rattle.kt_ckpt.specs.LogActs.{log_act}
use Rattle.kt_ckpt.proofs.Gatherings.{fits-each}
use Rattle.kt_ckpt.proofs.NotedLogs.{acts_behind}
use Rattle.kt_ckpt.proofs.past.are_fit_behind.Goals as goal

pub returns : goal.returns
returns c =
    let h = c.args.history.now.notes in
    let l = c.line.result.now in
    c.are_fit.ensures
    ∙ fits-each h c.args.node (take (length l - c.args.first) (drop c.args.first l))
    ∙ ap (list_all (is_act_of c.args.node))
    (ap (λ (l : List ℕ). map (log_act h) (acts_at h l)) (take_rest l c.args.first)
    ∙ ap (λ (l : List ℕ). map (log_act h) (acts_at h (drop c.args.first l))) c.line.ensures
    ∙ acts_behind h c.args.node c.args.first)
