-- How the reading of a text ends that is to be read and nothing else, told from what its calls answer.
-- Cited by `checking::check_text`, `checking::checked`.
use Rattle.std.proofs.Common.{◌≡◌, ◌⊎◌, inl, inr, ℕ, List, Result, Ok, Err, ap, subst, ◌∙◌}
use Rattle.std.specs.Prelude.{OnOk, OnErr, IfErr, IfOk}
use Rattle.kt_text.specs.Reading.{ScenarioModel}
use Rattle.kt_text.specs.Scenario.{IsScenario}
use Rattle.kt_scene.specs.declared.fault.ReplayFault.{ReplayFault}
use Rattle.kt_scene.specs.declared.fault.ReplayFault.TheVariants.{Memory, Write}
use Rattle.kt_scene.specs.Outside.{Reader, Writer}
use Rattle.kt_scene.specs.Stream.{IsAllRead, WritesAll, WritesFront}
use Rattle.kt_command.specs.Answers.{answer_status}
use Rattle.kt_command.specs.Checked.{EndsChecked, IsChecked, IsMisread, checked_line, done, misread, no_memory, unwritten}
use Rattle.kt_command.specs.Status.{status_of}

-- the text spells a scenario, and the line says of what work
pub checked_told : {X E : Type 0} (items : X → List ℕ) (text : List ℕ) (model : ScenarioModel) (made : Result X E) → IsScenario text model
    → IfOk made (λ line. items line ≡ checked_line model.work) → IfOk made (λ line. IsChecked text (items line))
checked_told items text model (Ok line) scenario is = record { model = model; scenario = scenario; is = is }
checked_told items text model (Err e) scenario is = tt

-- there was no memory for the line
pub wanted_told : {X : Type 0} (text : List ℕ) (made : Result X ReplayFault) → IfErr made (λ fault. fault ≡ Memory)
    → IfErr made (λ fault. (fault ≡ Memory) ⊎ IsMisread text fault)
wanted_told text (Ok line) is = tt
wanted_told text (Err fault) is = inl is

-- what was read, and how it is held
module _ (before after : Reader) (old new : Writer) (text held : List ℕ) (read : IsAllRead before after text) (same : held ≡ text) where
  -- it is a scenario
  pub line_told : {X : Type 0} (line told : List ℕ) (answer : Result X ReplayFault) (n : ℕ) → told ≡ line → IsChecked held line
      → n ≡ answer_status answer → OnOk answer (WritesAll old new told) → OnErr answer (WritesFront old new told)
      → IfErr answer (λ fault. fault ≡ Write) → EndsChecked before after old new n
  line_told line told (Ok x) n is checked status whole front only =
      done text line read (subst (λ (t : List ℕ). IsChecked t line) same checked) (subst (λ (l : List ℕ). WritesAll old new l) is whole) status
  line_told line told (Err why) n is checked status whole front only =
      unwritten text line read (subst (λ (t : List ℕ). IsChecked t line) same checked) (subst (λ (l : List ℕ). WritesFront old new l) is front)
      (status ∙ ap status_of only)

  -- it is none, or there was no memory
  pub misread_told : (fault : ReplayFault) (n : ℕ) → (fault ≡ Memory) ⊎ IsMisread held fault → new ≡ old → n ≡ status_of fault
      → EndsChecked before after old new n
  misread_told fault n (inl is) kept status = no_memory text read kept (status ∙ ap status_of is)
  misread_told fault n (inr is) kept status =
      misread text fault read (subst (λ (t : List ℕ). IsMisread t fault) same is) kept status
