-- What is said of a row.
-- Cited by `row::row_text`.
use Rattle.std.proofs.Common.{◌≡◌, ℕ, List, [], ◌++◌, ap, ◌∙◌}
use Rattle.kt_trace.specs.declared.traced.TracedStep.{TracedStep}
use Rattle.kt_story.specs.declared.mark.Mark.{Mark}
use Rattle.kt_story.specs.Blames.{IsReason}
use Rattle.kt_story.specs.Marks.{mark_of}
use Rattle.kt_story.specs.Said.{said_text}
use Rattle.kt_story.specs.Story.{StoryModel, act_is_lost, act_survives}
use Rattle.kt_draw.specs.declared.element.Point.{Point}
use Rattle.kt_draw.specs.declared.sheet.Sheet.{Sheet}
use Rattle.kt_draw.specs.Rows.{IsSaid, again_text, beside_words, classes_of, is_telling, words_point, words_text}

-- the mark once more, and then the words
pub is_said : (sheet : Sheet) (story : StoryModel) (row : TracedStep) (mark : Mark) (beside at : Point)
    (start again whole classes said reason : List ℕ) → mark ≡ mark_of row (act_survives story.state.history row) → start ≡ []
    → again ≡ start ++ again_text mark beside → classes ≡ classes_of (act_is_lost story.state.history row) (is_telling mark)
    → whole ≡ again ++ words_text classes at said reason → beside ≡ beside_words sheet row → at ≡ words_point sheet row → said ≡ said_text row
    → IsReason story row reason → IsSaid sheet story row whole
is_said sheet story row mark beside at start again whole classes said reason marked empty put classed is besides places says why =
    let h = story.state.history in
    let words : Mark → Point → Point → List ℕ → List ℕ =
    λ m b p text. again_text m b ++ words_text (classes_of (act_is_lost h row) (is_telling m)) p text reason in record {
      reason = reason;
      why = why;
      is = is ∙ ap (λ (t : List ℕ). t ++ words_text classes at said reason) (put ∙ ap (λ (t : List ℕ). t ++ again_text mark beside) empty)
          ∙ ap (λ (cs : List ℕ). again_text mark beside ++ words_text cs at said reason) classed
          ∙ ap (λ (m : Mark). words m beside at said) marked
          ∙ ap (λ (b : Point). words (mark_of row (act_survives h row)) b at said) besides
          ∙ ap (λ (p : Point). words (mark_of row (act_survives h row)) (beside_words sheet row) p said) places
          ∙ ap (λ (t : List ℕ). words (mark_of row (act_survives h row)) (beside_words sheet row) (words_point sheet row) t) says;
    }
