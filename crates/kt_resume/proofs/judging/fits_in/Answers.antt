use Rattle.std.proofs.Common.{◌≡◌, ℕ, List, length, None, Some, false, true, refl, sym, ap, ◌∙◌, subst, eq-eqb, eqb-true}
use Rattle.std.specs.Prelude.{IsTrue}
use Rattle.kt_history.specs.Closed.{acts_in_log}
use Rattle.kt_ckpt.specs.declared.state.State.{State as Saved}
use Rattle.kt_model.specs.Asks.{setting_of}
use Rattle.kt_resume.specs.Found.{scene_of, content_of}
use Rattle.kt_resume.specs.auxiliary.Leading.{LeadsTo}
use Rattle.kt_resume.proofs.Fits.{acts-few, causes-first, fits-none, fits-some, leads-some, none-placed, shaped-of}
use Rattle.kt_resume.proofs.judging.fits_in.Goals as goal

pub returns-in_default : goal.returns-in_default
returns-in_default c =
    let scene = scene_of c.args.shards c.args.scripts.now in
    let store = content_of c.args.found.now in
    let h = c.args.history.now.notes in
    let none = sym c.in_default.ensures in
    let long = ap (λ (l : List ℕ). length l) c.line.ensures in (
      λ t. fits-none scene store h c.args.node c.requires.notes none (sym long ∙ eqb-true (length c.line.result.now) 0 t),
      λ fits. eq-eqb (length c.line.result.now) 0 (long ∙ none-placed scene store h c.args.node c.requires.notes none fits),
    )

pub returns-then-not-branch-2 : goal.returns-then-not-branch-2
returns-then-not-branch-2 c =
    let scene = scene_of c.args.shards c.args.scripts.now in
    let store = content_of c.args.found.now in
    let h = c.args.history.now.notes in
    let checkpoint = c.in-Some.checkpoint.now in
    let some = sym c.in-Some.ensures in
    let of = (c.is_of.ensures scene refl refl).0 c.if-not-is_of.false in
    let shaped = sym c.in_ok-are_its_acts.ensures ∙ c.if-not-branch.false in
    let few = acts-few scene store h c.args.node c.requires.notes c.requires.there c.requires.few
    (shaped-of scene store h c.args.node c.requires.notes checkpoint some of shaped) in (
      λ t. absurd (cc (t)),
      λ fits.
          let leads : LeadsTo scene c.args.node (acts_in_log h c.args.node) c.state-state.result.now =
          subst (LeadsTo scene c.args.node (acts_in_log h c.args.node)) (sym c.state-state.ensures.state)
          (leads-some scene store h c.args.node c.requires.notes checkpoint some fits) in
          let yes = (c.in_ok-leads_to.ensures few).1 leads in
          let apart : false ≡ true = sym c.if-not-branch-2.true ∙ yes in
          absurd (cc (apart)),
    )

pub returns : goal.returns
returns c =
    let scene = scene_of c.args.shards c.args.scripts.now in
    let store = content_of c.args.found.now in
    let h = c.args.history.now.notes in
    let checkpoint = c.in-Some.checkpoint.now in
    let some = sym c.in-Some.ensures in
    let of = (c.is_of.ensures scene refl refl).0 c.if-not-is_of.false in
    let shaped = sym c.in_ok-are_its_acts.ensures ∙ c.if-not-branch.false in
    let long = ap (λ (l : List ℕ). length l) c.line.ensures in
    let placed = sym long ∙ c.if-placed-line_len.false ∙ c.line_len.ensures in
    let few = acts-few scene store h c.args.node c.requires.notes c.requires.there c.requires.few
    (shaped-of scene store h c.args.node c.requires.notes checkpoint some of shaped) in
    let leads = subst (LeadsTo scene c.args.node (acts_in_log h c.args.node)) c.state-state.ensures.state
    ((c.in_ok-leads_to.ensures few).0 c.if-not-branch-2.false) in
    let sense = c.makes_sense.ensures (setting_of scene) (causes-first scene store h c.args.node c.requires.notes) leads.allowed in (
      λ t. fits-some scene store h c.args.node c.requires.notes checkpoint some c.state-state.ensures.counts of shaped placed leads (sense.0 t),
      λ fits. sense.1 fits.sense,
    )
