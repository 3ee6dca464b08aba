-- A picture within a page.
-- Cited by `page::page_with`.
use Rattle.std.proofs.Common.{◌≡◌, ℕ, List, ◌++◌, append_assoc, ap, sym, ◌∙◌}
use Rattle.kt_story.specs.Story.{StoryModel}
use Rattle.kt_draw.specs.Rows.{HasRows}

-- the parts of a picture between a front and more text, joined from the right
parts : (svg before drawn behind more : List ℕ) → (svg ++ (before ++ (drawn ++ behind))) ++ more ≡ svg ++ (before ++ (drawn ++ (behind ++ more)))
parts svg before drawn behind more =
    append_assoc svg (before ++ (drawn ++ behind)) more
    ∙ ap (λ (t : List ℕ). svg ++ t) (append_assoc before (drawn ++ behind) more)
    ∙ ap (λ (t : List ℕ). svg ++ (before ++ t)) (append_assoc drawn behind more)

-- and with the front and what comes before the rows as one
regrouped : (front svg before rest : List ℕ) → front ++ (svg ++ (before ++ rest)) ≡ (front ++ (svg ++ before)) ++ rest
regrouped front svg before rest =
    ap (λ (t : List ℕ). front ++ t) (sym (append_assoc svg before rest)) ∙ sym (append_assoc front (svg ++ before) rest)

-- what has the rows of a picture has them between other text too
pub within_page : (head svg : List ℕ) (story : StoryModel) (from : ℕ) (front picture behind ahead more whole : List ℕ) → HasRows svg story from picture
    → ahead ≡ head ++ front → more ≡ ahead ++ picture → whole ≡ more ++ behind → HasRows head story from whole
within_page head svg story from front picture behind ahead more whole has first second third =
    let on = has.rows in
    record {
      sheet = has.sheet;
      workers = has.workers;
      shards = has.shards;
      top = has.top;
      room = has.room;
      rows = record {
        before = front ++ (svg ++ on.before);
        drawn = on.drawn;
        behind = on.behind ++ behind;
        are = on.are;
        is = third ∙ ap (λ (t : List ℕ). t ++ behind) (second ∙ ap (λ (t : List ℕ). t ++ picture) first)
            ∙ append_assoc (head ++ front) picture behind ∙ append_assoc head front (picture ++ behind)
            ∙ ap (λ (t : List ℕ). head ++ (front ++ (t ++ behind))) on.is
            ∙ ap (λ (t : List ℕ). head ++ (front ++ t)) (parts svg on.before on.drawn on.behind behind)
            ∙ ap (λ (t : List ℕ). head ++ t) (regrouped front svg on.before (on.drawn ++ (on.behind ++ behind)));
      };
    }
