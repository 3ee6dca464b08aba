-- How a command ends that carries a file over, told from what its calls answer.
-- Cited by `carrying::carry_connected`.
use Rattle.std.proofs.Common.{◌≡◌, ◌≢◌, ℕ, List, Result, Ok, Err, ap, subst, ◌∙◌}
use Rattle.std.specs.Prelude.{OnOk, OnErr, IfErr}
use Rattle.kt_store.specs.Content.{Content}
use Rattle.kt_store.specs.Stored.{Stored}
use Rattle.kt_scene.specs.declared.fault.ReplayFault.{ReplayFault}
use Rattle.kt_scene.specs.declared.fault.ReplayFault.TheVariants.{Write}
use Rattle.kt_scene.specs.Outside.{Reader, Writer}
use Rattle.kt_scene.specs.Stream.{WritesAll, WritesFront}
use Rattle.kt_scene.specs.Run.{IsReplayedReport, IsReplayFault}
use Rattle.kt_core.specs.declared.start.Start.TheVariants as starts
use Rattle.kt_command.specs.Answers.{answer_status}
use Rattle.kt_command.specs.Carried.{EndsCarrying, done, refused, stopped, unwritten}
use Rattle.kt_command.specs.Status.{fresh_memory, memory_value, status_of}

module _ {C F : Type 0} (carries : C → Content → Result (Unit {0}) F → Type 0) (connection : C)
    (before after : Reader) (old new : Writer) (was left : Stored) (is_fresh : was ≡ fresh_memory) (n : ℕ) where
  -- a report over a fresh store in memory
  over_fresh : (text : List ℕ) → IsReplayedReport starts.Open (memory_value was) (memory_value left) before after text
      → IsReplayedReport starts.Open (memory_value fresh_memory) (memory_value left) before after text
  over_fresh text report =
      subst (λ (s : Stored). IsReplayedReport starts.Open (memory_value s) (memory_value left) before after text) is_fresh report

  -- the file is carried over, and what is left is to write the report
  pub carried_told : {X : Type 0} (text : List ℕ) (answer : Result X ReplayFault) → carries connection left.content (Ok tt)
      → IsReplayedReport starts.Open (memory_value was) (memory_value left) before after text → n ≡ answer_status answer
      → OnOk answer (WritesAll old new text) → OnErr answer (WritesFront old new text)
      → IfErr answer (λ fault. fault ≡ Write) → EndsCarrying carries connection before after old new n
  carried_told text (Ok x) carried report is whole front only =
      let r = over_fresh text report in
      done left carried (record {
        state = r.state;
        replayed = r.replayed;
        kept = r.kept;
        counts = r.counts;
        report = record { text = text; report = r.report; written = whole };
      }) is
  carried_told text (Err why) carried report is whole front only =
      let r = over_fresh text report in
      unwritten left carried (record {
        state = r.state;
        replayed = r.replayed;
        kept = r.kept;
        counts = r.counts;
        report = record { text = text; report = r.report; written = front };
      }) (is ∙ ap status_of only)

  -- the file is not what the journal leaves
  pub refused_told : (text : List ℕ) (fault : F) → carries connection left.content (Err fault)
      → IsReplayedReport starts.Open (memory_value was) (memory_value left) before after text → new ≡ old → n ≡ 5
      → EndsCarrying carries connection before after old new n
  refused_told text fault refuses report kept is = refused left fault text refuses (over_fresh text report) kept is

  -- what was read has a fault
  pub stopped_told : {X : Type 0} (answer : Result X ReplayFault) (fault : ReplayFault) → answer ≡ Err fault
      → IsReplayFault starts.Open (memory_value was) (memory_value left) before after fault → fault ≢ Write → new ≡ old
      → n ≡ answer_status answer → EndsCarrying carries connection before after old new n
  stopped_told answer fault e found other kept is =
      let over = subst (λ (s : Stored). IsReplayFault starts.Open (memory_value s) (memory_value left) before after fault) is_fresh found in
      stopped left fault over other kept (is ∙ ap answer_status e)
