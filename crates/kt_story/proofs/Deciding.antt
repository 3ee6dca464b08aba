-- What a history answers of an act is whether that survives by the test that computes.
-- Cited by `story::is_act_at`, `story::lasts`.
use Rattle.std.proofs.Common.{◌≡◌, ◌↔◌, ℕ, Bool, true, false, IsTrue, List, Option, Some, None, refl, sym, ap}
use Rattle.std.proofs.lemmas.Bool.{false≢true}
use Rattle.kt_history.specs.declared.note.Note.{Note}
use Rattle.kt_history.specs.declared.note.Note.TheVariants as notes
use Rattle.kt_history.specs.Log.{IsAct, note_at}
use Rattle.kt_history.specs.Survival.{Survives, survives}
use Rattle.kt_history.specs.WellFormed.{CausesComeFirst}
use Rattle.kt_history.proofs.Shared.{survives-decides}
use Rattle.kt_story.specs.Story.{is_act}

both : (a b : Bool) → (a ≡ true → b ≡ true) → (b ≡ true → a ≡ true) → a ≡ b
both true b there back = sym (there refl)
both false true there back = back refl
both false false there back = refl

pub decided : (h : List Note) (n : ℕ) (answer : Bool) → CausesComeFirst h → IsTrue answer ↔ Survives h n → answer ≡ survives h n
decided h n answer causes is =
    let test = survives-decides h causes n in
    both answer (survives h n) (λ t. test.1 (is.0 t)) (λ t. is.1 (test.0 t))

act-is : (h : List Note) (n : ℕ) (o : Option Note) → note_at h n ≡ o → is_act o ≡ true → IsAct h n
act-is h n None is acts = absurd (false≢true acts)
act-is h n (Some (notes.Act a)) is acts = (a, is)
act-is h n (Some (notes.Cut p keep)) is acts = absurd (false≢true acts)

-- what it answers of a number is whether the note is an act
pub act_decided : (h : List Note) (n : ℕ) (answer : Bool) → IsTrue answer ↔ IsAct h n → answer ≡ is_act (note_at h n)
act_decided h n answer is =
    both answer (is_act (note_at h n)) (λ t. ap is_act (is.0 t).1) (λ t. is.1 (act-is h n (note_at h n) refl t))
