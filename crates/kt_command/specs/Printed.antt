-- How the printing of a text ends.
-- Cited by Printings, printing.rt, specs/Meant, specs/Opened, `meaning::explain_word`.
use Rattle.std.specs.Prelude.{◌≡◌, ℕ, List}
use Rattle.kt_scene.specs.Outside.{Writer}
use Rattle.kt_scene.specs.Stream.{WritesAll, WritesFront}

-- with 0 where the text is written, and with 7 where the writer failed
pub data EndsWriting (text : List ℕ) (old new : Writer) (n : ℕ) : Type 0 where
  written : WritesAll old new text → n ≡ 0 → EndsWriting text old new n
  unwritten : WritesFront old new text → n ≡ 7 → EndsWriting text old new n

-- of some text that this holds of; or with 6, and nothing written, where there was no memory for it
pub data Prints (P : List ℕ → Type 0) (old new : Writer) (n : ℕ) : Type 0 where
  printed : (text : List ℕ) → P text → EndsWriting text old new n → Prints P old new n
  no_memory : new ≡ old → n ≡ 6 → Prints P old new n
