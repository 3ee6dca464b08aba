-- How the rows of a picture are drawn: one below the other, each with its number and its mark.
-- Cited by Drawn, Said, picture.rt, row.rt, sheet.rt, specs/auxiliary/Behind, `picture::picture_of`,
--   `picture::push_between`, `row::push_row`, `row::push_rows`, `row::row_text`; other crates.
use Rattle.std.specs.Prelude.{◌≡◌, ℕ, ◌+◌, ◌-◌, ◌*◌, Bool, true, false, List, [], ◌∷◌, ◌++◌, codes, decimal, drop}
use Rattle.std.specs.Prelude.{length, max, min, if◌then◌else◌}
use Rattle.kt_tuple.specs.declared.node.NodeId.{NodeId}
use Rattle.kt_history.specs.declared.note.Note.{Note}
use Rattle.kt_trace.specs.declared.traced.TracedStep.{TracedStep}
use Rattle.kt_story.specs.declared.mark.Mark.{Mark}
use Rattle.kt_story.specs.declared.mark.Mark.TheVariants as marks
use Rattle.kt_story.specs.Blames.{IsReason}
use Rattle.kt_story.specs.Marks.{mark_of}
use Rattle.kt_story.specs.Said.{said_text}
use Rattle.kt_story.specs.Story.{StoryModel, act_is_lost, act_survives}
use Rattle.kt_draw.specs.declared.plane.TheConstants.{GAP, NUMBERS}
use Rattle.kt_draw.specs.declared.sheet.TheConstants.{ICON}
use Rattle.kt_draw.specs.declared.element.Point.{Point}
use Rattle.kt_draw.specs.declared.picture.Form.{Form}
use Rattle.kt_draw.specs.declared.picture.Form.TheVariants as forms
use Rattle.kt_draw.specs.declared.sheet.Sheet.{Sheet}
use Rattle.kt_draw.specs.Elements.{label_text, struck_text, use_text}
use Rattle.kt_draw.specs.Places.{column, pitch, row_y}

-- the name of the mark's symbol: each mark has one of its own
abbrev pub symbol_of : Mark → List ℕ
symbol_of marks.Survives = codes "kept"
symbol_of marks.Lost = codes "lost"
symbol_of marks.Asks = codes "ask"
symbol_of marks.Waits = codes "wait"
symbol_of marks.Hears = codes "got"
symbol_of marks.Holds = codes "hold"
symbol_of marks.Drops = codes "gone"
symbol_of marks.Reads = codes "read"
symbol_of marks.Tentative = codes "tent"
symbol_of marks.Permanent = codes "perm"
symbol_of marks.GivenUp = codes "drop"
symbol_of marks.Yes = codes "yes"
symbol_of marks.No = codes "no"
symbol_of marks.Fails = codes "fail"
symbol_of marks.Restarts = codes "restart"
symbol_of marks.Joins = codes "join"
symbol_of marks.GoesBack = codes "undo"

-- the number of a step, before the columns
abbrev pub number_text : ℕ → ℕ → List ℕ
number_text number y = label_text (codes "e") (record { x = NUMBERS - 12; y = y }) (decimal number)

-- how many rows stand above that of the step of this number
abbrev pub above : Sheet → ℕ → ℕ
above sheet number = min (number - sheet.first) 4294967295

-- the middle of the row with so many above it in the column of this node
abbrev pub point : Sheet → NodeId → ℕ → Point
point sheet p n = record { x = column sheet.plane.workers sheet.plane.shards p; y = row_y sheet.plane.rows n }

-- that of the step's row in the column of its node
abbrev pub row_point : Sheet → TracedStep → Point
row_point sheet row = point sheet row.node (above sheet row.number)

-- the begin of a row: the number of its step, and its mark in the column of its node, by what survives in this history
abbrev pub row_begin : Sheet → List Note → TracedStep → List ℕ
row_begin sheet h row =
    number_text row.number ((row_point sheet row).y + 4)
    ++ use_text (symbol_of (mark_of row (act_survives h row))) (row_point sheet row)

-- the mark says what matters: then it stands beside the words too, and they stand out
abbrev pub is_telling : Mark → Bool
is_telling marks.Survives = true
is_telling marks.Lost = true
is_telling marks.Asks = false
is_telling marks.Waits = false
is_telling marks.Hears = false
is_telling marks.Holds = false
is_telling marks.Drops = false
is_telling marks.Reads = false
is_telling marks.Tentative = true
is_telling marks.Permanent = true
is_telling marks.GivenUp = true
is_telling marks.Yes = true
is_telling marks.No = true
is_telling marks.Fails = true
is_telling marks.Restarts = true
is_telling marks.Joins = true
is_telling marks.GoesBack = true

abbrev pub again_text : Mark → Point → List ℕ
again_text mark at = if is_telling mark then use_text (symbol_of mark) at else []

-- the classes of the words: of an act that is lost they are struck through
abbrev pub classes_of : (lost telling : Bool) → List ℕ
classes_of true telling = codes "t s"
classes_of false true = codes "t"
classes_of false false = codes "q"

-- words of these classes; where a reason stands behind them, they are struck through and the reason is not
abbrev pub words_text : List ℕ → Point → (said reason : List ℕ) → List ℕ
words_text classes at said [] = label_text classes at said
words_text classes at said (c ∷ reason) = struck_text at said (c ∷ reason)

-- where the words of the rows begin: behind all columns
abbrev pub text_x : Sheet → ℕ
text_x sheet =
    (sheet.plane.workers + sheet.plane.shards) * pitch sheet.plane.workers sheet.plane.shards + (NUMBERS + GAP + ICON)

-- where the words of a row stand, and the mark beside them
abbrev pub words_point : Sheet → TracedStep → Point
words_point sheet row = record { x = text_x sheet; y = (row_point sheet row).y + 4 }

abbrev pub beside_words : Sheet → TracedStep → Point
beside_words sheet row = record { x = text_x sheet - 14; y = (row_point sheet row).y }

-- behind the begin of a row: its mark once more, where that says what matters, and its words, with this reason
abbrev pub row_words : Sheet → List Note → TracedStep → List ℕ → List ℕ
row_words sheet h row reason = let mark = mark_of row (act_survives h row) in
    again_text mark (beside_words sheet row)
    ++ words_text (classes_of (act_is_lost h row) (is_telling mark)) (words_point sheet row) (said_text row) reason

-- what stands there: the row's words, and why its act is lost
pub record IsSaid (sheet : Sheet) (story : StoryModel) (row : TracedStep) (text : List ℕ) : Type 0 where
  pub reason : List ℕ
  pub why : IsReason story row reason
  pub is : text ≡ row_words sheet story.state.history row reason

-- the rows are drawn in order, each with what is said of it behind its begin
pub data AreDrawn (begin : TracedStep → List ℕ) (says : TracedStep → List ℕ → Type 0)
    : List TracedStep → List ℕ → Type 0 where
  none : AreDrawn begin says [] []
  more : (rows : List TracedStep) (row : TracedStep) (text words : List ℕ) → AreDrawn begin says rows text
      → says row words → AreDrawn begin says (rows ++ row ∷ []) (text ++ (begin row ++ words))

-- the rows from the step of this number on, where the first step has the number 1
abbrev pub rows_from : ℕ → List TracedStep → List TracedStep
rows_from first rows = drop (first - 1) rows

-- the number of the step whose row is the uppermost
abbrev pub first_of : ℕ → List TracedStep → ℕ
first_of from all = min (max from 1) (length all + 1)

-- how a picture begins: a file of its own names its language
abbrev pub picture_head : Form → List ℕ
picture_head forms.Alone = codes "<svg xmlns=\"http://www.w3.org/2000/svg\""
picture_head forms.InPage = codes "<svg"

-- the text begins so, and has these rows of the story on the sheet, in one piece
pub record HasRowsOn (head : List ℕ) (sheet : Sheet) (story : StoryModel) (rows : List TracedStep) (text : List ℕ)
    : Type 0 where
  pub before : List ℕ
  pub drawn : List ℕ
  pub behind : List ℕ
  pub are : AreDrawn (row_begin sheet story.state.history) (IsSaid sheet story) rows drawn
  pub is : text ≡ head ++ (before ++ (drawn ++ behind))

-- the text begins so. Of the story's rows it has those from the step of this number on; the uppermost stands at the top
-- of its sheet, which has a column for each node of the scene, and room for as many rows as are drawn
pub record HasRows (head : List ℕ) (story : StoryModel) (from : ℕ) (text : List ℕ) : Type 0 where
  pub sheet : Sheet
  pub workers : sheet.plane.workers ≡ length story.state.scene.scripts
  pub shards : sheet.plane.shards ≡ story.state.scene.shards
  pub top : sheet.first ≡ first_of from story.rows
  pub room : sheet.plane.rows ≡ min (length (rows_from from story.rows)) 4294967295
  pub rows : HasRowsOn head sheet story (rows_from from story.rows) text
