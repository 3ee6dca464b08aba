-- Rows that are drawn one below the other.
-- Cited by `picture::push_between`, `picture::rows_from`, `row::push_rows`.
use Rattle.std.proofs.Common.{◌≡◌, ℕ, ◌+◌, ◌<◌, ◌≤◌, Bool, true, false, List, [], ◌∷◌, ◌++◌, length, get_or, take, drop, refl, sym, ap, ◌∙◌, subst, arith}
use Rattle.std.proofs.Common.{append_assoc, append-nil}
use Rattle.std.specs.Prelude.{min, nat_le}
use Rattle.std.proofs.lemmas.Bool.Decides.{nat_tests}
use Rattle.std.proofs.lemmas.List.{drop_all, take_all, take_more}
use Rattle.kt_trace.specs.declared.traced.TracedStep.{TracedStep}
use Rattle.kt_story.specs.Story.{StoryModel}
use Rattle.kt_draw.specs.declared.sheet.Sheet.{Sheet}
use Rattle.kt_draw.specs.Rows.{AreDrawn, HasRowsOn, IsSaid, more as drawn-more, none as drawn-none, row_begin}
use Rattle.kt_draw.specs.auxiliary.Behind.{IsDrawnBehind, IsRowBehind}

-- no row is drawn
pub drawn_none : (begin : TracedStep → List ℕ) (says : TracedStep → List ℕ → Type 0) (text : List ℕ) → IsDrawnBehind begin says [] text text
drawn_none begin says text = ([], drawn-none, sym (append-nil text))

-- one row more is
pub drawn_more : (begin : TracedStep → List ℕ) (says : TracedStep → List ℕ → Type 0) (old so_far new : List ℕ) (rows : List TracedStep) (i : ℕ)
    (row : TracedStep) → i < length rows → row ≡ get_or rows i row → IsDrawnBehind begin says (take i rows) old so_far
    → IsRowBehind (begin row) (says row) so_far new → IsDrawnBehind begin says (take (i + 1) rows) old new
drawn_more begin says old so_far new rows i row within at before more =
    let text = before.0 in
    let words = more.0 in
    let front : take i rows ++ row ∷ [] ≡ take (i + 1) rows =
    ap (λ (x : TracedStep). take i rows ++ x ∷ []) at ∙ sym (take_more rows i row within) in
    let P : List TracedStep → Type 0 = λ rs. AreDrawn begin says rs (text ++ (begin row ++ words)) in (
      text ++ (begin row ++ words),
      subst P front (drawn-more (take i rows) row text words before.1 more.1),
      more.2 ∙ ap (λ (t : List ℕ). t ++ (begin row ++ words)) before.2 ∙ append_assoc old text (begin row ++ words),
    )

-- all rows are
pub drawn_all : (begin : TracedStep → List ℕ) (says : TracedStep → List ℕ → Type 0) (old new : List ℕ) (rows : List TracedStep) (n : ℕ)
    → length rows ≤ n → IsDrawnBehind begin says (take n rows) old new → IsDrawnBehind begin says rows old new
drawn_all begin says old new rows n end drawn =
    let P : List TracedStep → Type 0 = λ rs. IsDrawnBehind begin says rs old new in
    subst P (take_all n rows end) drawn

-- a text with rows that are drawn behind its head and a front, and more behind them
pub has_rows : (head : List ℕ) (sheet : Sheet) (story : StoryModel) (rows : List TracedStep) (front start drawn behind whole : List ℕ)
    → start ≡ head ++ front → IsDrawnBehind (row_begin sheet story.state.history) (IsSaid sheet story) rows start drawn → whole ≡ drawn ++ behind
    → HasRowsOn head sheet story rows whole
has_rows head sheet story rows front start drawn behind whole begun inside is = record {
  before = front;
  drawn = inside.0;
  behind = behind;
  are = inside.1;
  is = is ∙ ap (λ (t : List ℕ). t ++ behind) (inside.2 ∙ ap (λ (t : List ℕ). t ++ inside.0) begun)
      ∙ append_assoc (head ++ front) inside.0 behind ∙ append_assoc head front (inside.0 ++ behind);
}

-- what is left of the rows behind those before the first, of which there may be fewer
left-by : (b : Bool) (rows left : List TracedStep) (before n : ℕ) → nat_le before (length rows) ≡ b → left ≡ drop n rows → n ≡ min before (length rows)
    → left ≡ drop before rows
left-by true rows left before n test are is =
    let few : before ≤ length rows = grind (arith, nat_tests) in
    let same : n ≡ before = omega (arith, few, is) in
    are ∙ ap (λ (k : ℕ). drop k rows) same
left-by false rows left before n test are is =
    let many : length rows < before = grind (arith, nat_tests) in
    let all : length rows ≤ n = omega (arith, many, is) in
    let past : length rows ≤ before = omega (arith, many) in
    are ∙ drop_all n rows all ∙ sym (drop_all before rows past)

pub rows_left : (rows left : List TracedStep) (before n : ℕ) → left ≡ drop n rows → n ≡ min before (length rows) → left ≡ drop before rows
rows_left rows left before n are is = left-by (nat_le before (length rows)) rows left before n refl are is
