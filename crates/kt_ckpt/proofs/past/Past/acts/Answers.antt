use Rattle.std.proofs.Common.{◌≡◌, ◌∙◌, ◌≤◌, ◌++◌, Bool, true, ap, sym, subst, drop, length, ℕ, arith}
use Rattle.std.proofs.lemmas.List.Elements.{All-same}
use Rattle.std.proofs.lemmas.List.Sums.{AllPass-from_list_all}
use Rattle.kt_history.specs.Chronicle.{Chronicle}
use Rattle.kt_history.specs.Log.{log}
use Rattle.kt_ckpt.specs.Acts.{IsActOf, is_act_of}
use Rattle.kt_ckpt.specs.LogActs.{log_acts}
use Rattle.kt_ckpt.proofs.Gatherings.{gathered-short, given-some, whole-log}
use Rattle.kt_ckpt.proofs.past.Past.acts.Goals as goal

pub acts_behind-requires : goal.acts_behind-requires
acts_behind-requires c =
    let short = gathered-short c.args.self.now.notes c.args.node c.in_ok-older.older c.in_ok-older.ensures in
    let e = c.len.ensures in
    subst (λ (x : Chronicle). c.len.result ≤ length (log x.notes c.args.node)) (sym c.self.view_is) (omega (arith, short, e))

pub with-requires : goal.with-requires
with-requires c =
    let few = c.in_ok-newer.ensures.few in
    let e = c.len.ensures in
    omega (arith, few, e)

pub returns-clause-acts : goal.returns-clause-acts
returns-clause-acts c =
    let h = c.args.self.now.notes in
    let p = c.args.node in
    let newer_is = c.in_ok-newer.ensures.acts ∙ ap (λ (k : ℕ). drop k (log_acts c.self.inside.history.notes p)) c.len.ensures
    ∙ ap (λ (x : Chronicle). drop (length c.in_ok-older.older) (log_acts x.notes p)) c.self.view_is in
    let whole = whole-log h p c.in_ok-older.older c.in_ok-newer.newer.items c.in_ok-older.ensures newer_is in
    let t = c.if-not-are_fit.false in
    let yes : c.are_fit.result ≡ true = cc in
    given-some p (log_acts h p) c.in_ok-with.field-0 (sym c.are_fit.ensures ∙ yes) (c.in_ok-with.ensures ∙ whole)

pub returns-clause-shape : goal.returns-clause-shape
returns-clause-shape c =
    let h = c.args.self.now.notes in
    let p = c.args.node in
    let newer_is = c.in_ok-newer.ensures.acts ∙ ap (λ (k : ℕ). drop k (log_acts c.self.inside.history.notes p)) c.len.ensures
    ∙ ap (λ (x : Chronicle). drop (length c.in_ok-older.older) (log_acts x.notes p)) c.self.view_is in
    let whole = whole-log h p c.in_ok-older.older c.in_ok-newer.newer.items c.in_ok-older.ensures newer_is in
    let t = c.if-not-are_fit.false in
    let yes : c.are_fit.result ≡ true = cc in
    All-same (IsActOf p) c.in_ok-with.field-0 (log_acts h p) (c.in_ok-with.ensures ∙ whole)
    (AllPass-from_list_all (is_act_of p) (log_acts h p) (sym c.are_fit.ensures ∙ yes))
