-- How the writing of a text ends, told from what its calls answer.
-- Cited by `meaning::explain_word`, `printing::print_text`, `request::run_request`, `showing::show_store`,
--   `showing::shown`.
use Rattle.std.proofs.Common.{◌≡◌, ◌≢◌, ℕ, List, [], length, Result, Ok, Err, ap, subst, sym, ◌∙◌}
use Rattle.std.specs.Prelude.{◌==◌, OnOk, OnErr, IfErr, IfOk, IsTrue, Bool, false}
use Rattle.std.proofs.lemmas.Bool.{false≢true}
use Rattle.kt_store.specs.declared.store.CkptStore.{Ghosts}
use Rattle.kt_core.specs.Store.{StoreValue, store_value}
use Rattle.kt_scene.specs.declared.fault.ReplayFault.{ReplayFault}
use Rattle.kt_scene.specs.declared.fault.ReplayFault.TheVariants.{Write}
use Rattle.kt_scene.specs.Outside.{Writer}
use Rattle.kt_scene.specs.Stream.{WritesAll, WritesFront}
use Rattle.kt_command.specs.Answers.{answer_status}
use Rattle.kt_command.specs.Printed.{EndsWriting, Prints, written, unwritten, printed, no_memory}
use Rattle.kt_command.specs.Shown.{EndsShowing, IsShown, IsShownOf}
use Rattle.kt_command.specs.Shown as shown
use Rattle.kt_command.specs.Status.{status_of}

-- the answer says whether the text was written
pub writing_told : {X : Type 0} (text held : List ℕ) (old new : Writer) (answer : Result X ReplayFault) (n : ℕ) → held ≡ text
    → n ≡ answer_status answer → OnOk answer (WritesAll old new held) → OnErr answer (WritesFront old new held)
    → IfErr answer (λ fault. fault ≡ Write) → EndsWriting text old new n
writing_told text held old new (Ok x) n same is whole front only = written (subst (λ (t : List ℕ). WritesAll old new t) same whole) is
writing_told text held old new (Err why) n same is whole front only =
    unwritten (subst (λ (t : List ℕ). WritesFront old new t) same front) (is ∙ ap status_of only)

-- a text was made and written, or there was no memory for it
pub prints_told : {X E : Type 0} (items : X → List ℕ) (P : List ℕ → Type 0) (old new : Writer) (made : Result X E) (n : ℕ)
    → IfOk made (λ t. P (items t)) → IfOk made (λ t. EndsWriting (items t) old new n) → IfErr made (λ e. (new ≡ old) × (n ≡ 6)) → Prints P old new n
prints_told items P old new (Ok t) n says ends wants = printed (items t) says ends
prints_told items P old new (Err e) n says ends wants = no_memory wants.0 wants.1

-- two facts of one text
pub both_told : {X E : Type 0} (P Q : X → Type 0) (made : Result X E) → IfOk made P → IfOk made Q → IfOk made (λ t. P t × Q t)
both_told P Q (Ok t) p q = (p, q)
both_told P Q (Err e) p q = tt

-- a text whose length was asked for has a byte
pub not_empty : (items : List ℕ) (len : ℕ) (is_empty : Bool) → len ≡ length items → is_empty ≡ (len == 0) → is_empty ≡ false → items ≢ []
not_empty items len is_empty same is not_so empty =
    false≢true (sym not_so ∙ is ∙ ap (λ (n : ℕ). n == 0) (same ∙ ap (λ (xs : List ℕ). length xs) empty))

-- ---- what a store holds

pub shown_told : {X E : Type 0} (items : X → List ℕ) (is_json : Bool) (was left : StoreValue) (made : Result X E)
    → (IsTrue left.is_honest → IfOk made (λ t. IsShown is_json was.content (items t))) → (IsTrue left.is_honest → left.content ≡ was.content)
    → (IsTrue left.is_honest → IsTrue was.is_honest) → IfOk made (λ t. IsShownOf is_json was left (items t))
shown_told items is_json was left (Ok t) text same honest = record { told = text; same = same; honest = honest }
shown_told items is_json was left (Err e) text same honest = tt

pub showing_told : {S X : Type 0} (kind : Ghosts S) (store left : S) (is_json : Bool) (text held : List ℕ) (old new : Writer)
    (answer : Result X ReplayFault) (n : ℕ) → held ≡ text → IsShownOf is_json (store_value kind store) (store_value kind left) text
    → n ≡ answer_status answer → OnOk answer (WritesAll old new held) → OnErr answer (WritesFront old new held)
    → IfErr answer (λ fault. fault ≡ Write) → EndsShowing kind store is_json old new n
showing_told kind store left is_json text held old new (Ok x) n same says is whole front only =
    shown.shows left text says (subst (λ (t : List ℕ). WritesAll old new t) same whole) is
showing_told kind store left is_json text held old new (Err why) n same says is whole front only =
    shown.unwritten left text says (subst (λ (t : List ℕ). WritesFront old new t) same front) (is ∙ ap status_of only)
