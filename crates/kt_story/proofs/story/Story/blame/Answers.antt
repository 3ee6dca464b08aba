use Rattle.std.proofs.Common.{List, sym, ap, ◌∙◌, subst}
use Rattle.std.specs.Prelude.{is_some}
use Rattle.kt_losses.specs.declared.loss.Loss.{Loss}
use Rattle.kt_trace.specs.declared.traced.TracedStep.{TracedStep}
use Rattle.kt_story.specs.Story.{StoryModel}
use Rattle.kt_story.specs.auxiliary.Finding.{AreLosses, blame_by}
use Rattle.kt_story.proofs.Blaming.{is_blamed, is_found}
use Rattle.kt_story.proofs.story.Story.blame.Goals as goal

pub returns-then-is_lost-clause-right : goal.returns-then-is_lost-clause-right
returns-then-is_lost-clause-right c =
    let losses = c.self.inside.losses.items in
    let number = c.args.row.now.notes in
    let are = subst (λ (s : StoryModel). AreLosses s.state.history losses) c.self.view_is c.self.invariant in
    let found =
    ap (λ (s : StoryModel). blame_by s.rows losses number) (sym c.self.view_is)
    ∙ ap (λ (rows : List TracedStep). blame_by rows losses number) (sym c.deref.ensures.value)
    ∙ ap (λ (others : List Loss). blame_by c.deref.result.now others number) (sym c.deref-then-is_lost.ensures.value)
    ∙ sym c.blame_by.ensures in
    λ blame e. is_blamed c.args.self.now losses c.args.row.now blame are (sym c.is_lost.ensures ∙ c.if-is_lost.true) (found ∙ e)

pub returns-then-is_lost-clause-found : goal.returns-then-is_lost-clause-found
returns-then-is_lost-clause-found c =
    let losses = c.self.inside.losses.items in
    let number = c.args.row.now.notes in
    let are = subst (λ (s : StoryModel). AreLosses s.state.history losses) c.self.view_is c.self.invariant in
    let found =
    ap (λ (s : StoryModel). blame_by s.rows losses number) (sym c.self.view_is)
    ∙ ap (λ (rows : List TracedStep). blame_by rows losses number) (sym c.deref.ensures.value)
    ∙ ap (λ (others : List Loss). blame_by c.deref.result.now others number) (sym c.deref-then-is_lost.ensures.value)
    ∙ sym c.blame_by.ensures in
    λ blame b. sym (ap is_some found) ∙ is_found c.args.self.now losses c.args.row.now blame are b
