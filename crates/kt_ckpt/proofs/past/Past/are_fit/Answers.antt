use Rattle.std.proofs.Common.{◌≤◌, ◌∙◌, ap, sym, subst, drop, length, ℕ, arith}
use Rattle.std.specs.List.{list_all}
use Rattle.kt_history.specs.Chronicle.{Chronicle}
use Rattle.kt_history.specs.Log.{log}
use Rattle.kt_ckpt.specs.Acts.{is_act_of}
use Rattle.kt_ckpt.specs.LogActs.{log_acts}
use Rattle.kt_ckpt.proofs.Gatherings.{gathered-fits, gathered-short}
use Rattle.kt_ckpt.proofs.past.Past.are_fit.Goals as goal

pub are_fit_behind-requires : goal.are_fit_behind-requires
are_fit_behind-requires c =
    let short = gathered-short c.args.self.now.notes c.args.node c.in-Some.acts.now c.in-Some.ensures in
    let e = c.len.ensures in
    subst (λ (x : Chronicle). c.len.result ≤ length (log x.notes c.args.node)) (sym c.self.view_is) (omega (arith, short, e))

pub returns-in-Some : goal.returns-in-Some
returns-in-Some c =
    let all = list_all (is_act_of c.args.node) in
    let p = c.args.node in
    c.are_fit_behind.ensures
    ∙ ap (λ (k : ℕ). all (drop k (log_acts c.self.inside.history.notes p))) c.len.ensures
    ∙ ap (λ (x : Chronicle). all (drop (length c.in-Some.acts.now) (log_acts x.notes p))) c.self.view_is
    ∙ gathered-fits c.args.self.now.notes p c.in-Some.acts.now c.in-Some.ensures
