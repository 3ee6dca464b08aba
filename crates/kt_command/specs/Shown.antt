-- How the showing of a store in a file ends.
-- Cited by Printings, showing.rt, specs/Opened, `showing::show_store`.
use Rattle.std.specs.Prelude.{◌≡◌, ℕ, Bool, true, false, List, Result, Ok, Err, IsTrue}
use Rattle.kt_store.specs.Content.{Content}
use Rattle.kt_store.specs.declared.store.CkptStore.{Ghosts}
use Rattle.kt_store.specs.declared.error.StoreError.{StoreError}
use Rattle.kt_core.specs.Store.{IsFault, StoreValue, store_value}
use Rattle.kt_scene.specs.Outside.{Writer}
use Rattle.kt_scene.specs.Stream.{WritesAll, WritesFront}
use Rattle.kt_show.specs.ShownJson.{IsTextOf, shown_json}
use Rattle.kt_show.specs.Shown.{shown}
use Rattle.kt_command.specs.Command.{Text}

-- the text of what is stored, as JSON or in words
abbrev pub IsShown : Bool → Content → List ℕ → Type 0
IsShown true c text = IsTextOf text (shown_json c)
IsShown false c text = text ≡ shown c

-- the store was like this and is left like that, and the text says what it holds. Where it is honest then, it was so
-- all the time
pub record IsShownOf (is_json : Bool) (was left : StoreValue) (text : List ℕ) : Type 0 where
  pub told : IsTrue left.is_honest → IsShown is_json was.content text
  pub same : IsTrue left.is_honest → left.content ≡ was.content
  pub honest : IsTrue left.is_honest → IsTrue was.is_honest

-- the store that is left refused a read for this reason
abbrev pub IsRefusedRead : StoreValue → StoreError → Type 0
IsRefusedRead left why = IsFault left.is_honest why

-- over a store of this kind: with 0 where what it holds is written, with 7 where the writer failed then, and with 5
-- where the store refused
pub data EndsShowing {S : Type 0} (kind : Ghosts S) (store : S) (is_json : Bool) (old new : Writer) (n : ℕ) : Type 0
  where
    shows : (left : S) (text : List ℕ) → IsShownOf is_json (store_value kind store) (store_value kind left) text
        → WritesAll old new text → n ≡ 0 → EndsShowing kind store is_json old new n
    unwritten : (left : S) (text : List ℕ) → IsShownOf is_json (store_value kind store) (store_value kind left) text
        → WritesFront old new text → n ≡ 7 → EndsShowing kind store is_json old new n
    refused : (left : S) (why : StoreError) → IsRefusedRead (store_value kind left) why → new ≡ old → n ≡ 5
        → EndsShowing kind store is_json old new n

-- over what was answered where a copy was opened: where there is none, with 5, and nothing written
abbrev pub EndsOverCopy : {S G : Type 0} → Ghosts S → Result S G → Bool → (old new : Writer) → ℕ → Type 0
EndsOverCopy kind (Ok store) is_json old new n = EndsShowing kind store is_json old new n
EndsOverCopy kind (Err fault) is_json old new n = (n ≡ 5) × (new ≡ old)

-- over a copy of the store at the path: over one answer, which may be given for this path
pub record EndsShown {S G : Type 0} (kind : Ghosts S) (gives : Text → Result S G → Type 0) (path : Text)
    (is_json : Bool) (old new : Writer) (n : ℕ) : Type 0 where
  pub answer : Result S G
  pub given : gives path answer
  pub ends : EndsOverCopy kind answer is_json old new n
