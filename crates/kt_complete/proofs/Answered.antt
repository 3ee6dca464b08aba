-- What is written of a completion.
-- Cited by `completing::begin_and_complete`, `completing::complete_returning_store`, `completing::complete`.
use Rattle.std.proofs.Common.{◌≡◌, Bool, List, Result, Ok, Err, ap, subst, ◌∙◌}
use Rattle.std.specs.Prelude.{IfErr, IsTrue, OnOk}
use Rattle.kt_scenario.specs.declared.step.Step.{Step}
use Rattle.kt_store.specs.Calls.{Counts}
use Rattle.kt_store.specs.Content.{Content}
use Rattle.kt_core.specs.Store.{StoreValue}
use Rattle.kt_core.specs.World.{WorldModel}
use Rattle.kt_core.specs.declared.start.Start.{Start}
use Rattle.kt_scene.specs.declared.fault.ReplayFault.{ReplayFault}
use Rattle.kt_scene.specs.declared.fault.ReplayFault.TheVariants as faults
use Rattle.kt_scene.specs.Journal.{WritesJournal, WritesJournalFront}
use Rattle.kt_scene.specs.Outside.{Reader, Writer}
use Rattle.kt_scene.specs.Stream.{IsReportFault}
use Rattle.kt_complete.specs.Completion.{IsCompleted, IsCompletionFault, WritesCompleted, WritesCompletedFront, in_journal}

abbrev value_of : Content → Bool → Counts → StoreValue
value_of c h n = record { content = c; is_honest = h; counts = n }

-- the store of a world, told by its parts
pub same_store : (c d : Content) (h k : Bool) (m n : Counts) → c ≡ d → h ≡ k → m ≡ n
    → value_of c h m ≡ value_of d k n
same_store c d h k m n e f g =
    ap (λ (x : Content). value_of x h m) e ∙ ap (λ (x : Bool). value_of d x m) f ∙ ap (λ (x : Counts). value_of d k x) g

-- the world that was completed, and the store as it was left after the writing
module _ (start : Start) (was left : StoreValue) (before after : Reader) (ended : WorldModel) (steps : List Step)
    (completed : IsCompleted start before after ended.is_honest was.content steps ended.state)
    (honest : IsTrue left.is_honest → IsTrue ended.is_honest) (kept : IsTrue left.is_honest → left.content ≡ ended.state.content)
    (counts : ended.counts ≡ was.counts) where
  done : IsCompleted start before after left.is_honest was.content steps ended.state
  done = record {
    text = completed.text;
    read = completed.read;
    goes = record {
      scene = completed.goes.scene;
      given = completed.goes.given;
      scenario = completed.goes.scenario;
      later = completed.goes.later;
      are = completed.goes.are;
      goes = λ h. completed.goes.goes (honest h);
    };
    over = λ h. completed.over (honest h);
  }

  pub is_written : {X : Type 0} (r : Result X ReplayFault) (old new : Writer) → OnOk r (left.counts ≡ ended.counts)
      → OnOk r (WritesJournal left.is_honest ended.state steps old new) → OnOk r (WritesCompleted start was left before after old new)
  is_written (Ok x) old new same written = record {
    steps = steps;
    state = ended.state;
    completed = done;
    kept = kept;
    counts = same ∙ counts;
    journal = written;
  }
  is_written (Err e) old new same written = tt

  pub is_front : {X : Type 0} (r : Result X ReplayFault) (old new : Writer) → IfErr r (IsReportFault ended.counts left.counts left.is_honest)
      → (r ≡ Err faults.Write → WritesJournalFront left.is_honest ended.state steps old new) → r ≡ Err faults.Write
      → WritesCompletedFront start was left before after old new
  is_front (Ok x) old new why front e = absurd cc
  is_front (Err fault) old new why front e =
      let same : fault ≡ faults.Write = cc in
      record {
        steps = steps;
        state = ended.state;
        completed = done;
        kept = kept;
        counts = subst (λ (f : ReplayFault). IsReportFault ended.counts left.counts left.is_honest f) same why ∙ counts;
        journal = front e;
      }

  pub is_fault : {X : Type 0} (r : Result X ReplayFault) → IfErr r (IsReportFault ended.counts left.counts left.is_honest)
      → IfErr r (IsCompletionFault start was left before after)
  is_fault (Ok x) why = tt
  is_fault (Err fault) why = in_journal (record {
    steps = steps;
    state = ended.state;
    completed = done;
    kept = kept;
    is = subst (λ (m : Counts). IsReportFault m left.counts left.is_honest fault) counts why;
  })
