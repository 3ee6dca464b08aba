-- What a run leaves where it reads from memory and writes to memory.
-- Cited by Behind, `chaos::run_laid`, `times::run_once`, `times::run_times`.
use Rattle.std.proofs.Common.{◌≡◌, ℕ, Bool, true, List, [], ◌++◌, Result, Ok, Err, refl, sym, ap, subst, ◌∙◌, append-nil}
use Rattle.std.specs.Prelude.{Option, None, Some, IfErr, OnErr, OnOk}
use Rattle.std.specs.Io.KnownBytes.{Appends, Consumes, IsAtEnd}
use Rattle.kt_store.specs.Content.{empty_content}
use Rattle.kt_store.specs.Stored.{Stored}
use Rattle.kt_core.specs.Store.{StoreValue}
use Rattle.kt_core.specs.declared.start.Start.TheVariants as starts
use Rattle.kt_scene.specs.Outside.{Reader, Writer}
use Rattle.kt_scene.specs.Report.{IsReportOf}
use Rattle.kt_run.specs.declared.fault.RunTextFault.{RunTextFault}
use Rattle.kt_run.specs.declared.running.Output.TheVariants as outputs
use Rattle.kt_run.specs.Run.{IsRunOf, IsRunTextFault, WritesRun}
use Rattle.kt_trials.specs.Runs.{IsOneFault, IsRunReport, fresh}
use Rattle.kt_trials.specs.Memory.{told_of}

-- what was read of known bytes to their end is all of them
all_read : (text bytes : List ℕ) (left : Option (List ℕ)) → Consumes (Some bytes) left text → IsAtEnd left → text ≡ bytes
all_read text bytes None some end = absurd some
all_read text bytes (Some rest) some end = sym (append-nil text) ∙ ap (λ (xs : List ℕ). text ++ xs) (sym end) ∙ sym some

pub read_all : (text bytes : List ℕ) (before after : Reader) → before.bytes ≡ Some bytes → Consumes before.bytes after.bytes text → IsAtEnd after.bytes
    → text ≡ bytes
read_all text bytes before after lent some end =
    all_read text bytes after.bytes (subst (λ (o : Option (List ℕ)). Consumes o after.bytes text) lent some) end

-- what was written to memory that held nothing is all that it holds
all_written : (text bytes : List ℕ) → Appends (Some []) (Some bytes) text → bytes ≡ text
all_written text bytes some = some

wrote_all : (text bytes : List ℕ) (old new : Writer) → old.bytes ≡ Some [] → Some bytes ≡ new.bytes → Appends old.bytes new.bytes text
    → bytes ≡ text
wrote_all text bytes old new empty held some =
    all_written text bytes (subst (λ (o : Option (List ℕ)). Appends (Some []) o text) (sym held)
    (subst (λ (o : Option (List ℕ)). Appends o new.bytes text) empty some))

-- a run over a fresh store that is honest when it is left gives the report of a run
one_report : (text bytes : List ℕ) (was left : StoreValue) (before after : Reader) (old new : Writer) → was ≡ fresh → left.is_honest ≡ true
    → before.bytes ≡ Some text → old.bytes ≡ Some [] → Some bytes ≡ new.bytes
    → WritesRun starts.Open was left outputs.Report before after old new → IsRunReport text bytes
one_report text bytes was left before after old new new_store honest lent empty held ran =
    let same : ran.run.text ≡ text = read_all ran.run.text text before after lent ran.run.read.bytes ran.run.read.all in
    let told : bytes ≡ ran.written.text = wrote_all ran.written.text bytes old new empty held ran.written.written.appended in
    let run : IsRunOf starts.Open ran.run.text true empty_content ran.steps ran.state =
    subst (λ (v : StoreValue). IsRunOf starts.Open ran.run.text true v.content ran.steps ran.state) new_store
    (subst (λ (b : Bool). IsRunOf starts.Open ran.run.text b was.content ran.steps ran.state) honest ran.run.run) in
    record {
      steps = ran.steps;
      state = ran.state;
      run = subst (λ (t : List ℕ). IsRunOf starts.Open t true empty_content ran.steps ran.state) same run;
      is = subst (λ (t : List ℕ). IsReportOf true ran.state t) (sym told)
          (subst (λ (b : Bool). IsReportOf b ran.state ran.written.text) honest ran.written.report);
    }

-- how it ended with a fault
one_fault : (text : List ℕ) (was left : StoreValue) (before after : Reader) (met fault : RunTextFault) → was ≡ fresh → before.bytes ≡ Some text
    → fault ≡ told_of met → IsRunTextFault starts.Open was left before after met → IsOneFault text fault
one_fault text was left before after met fault new_store lent told is = record {
  met = met;
  left = left;
  before = before;
  after = after;
  lent = lent;
  is = subst (λ (v : StoreValue). IsRunTextFault starts.Open v left before after met) new_store is;
  told = told;
}

-- ---- a store in memory

abbrev memory_value : Stored → StoreValue
memory_value s = record { content = s.content; is_honest = true; counts = record { faults = 0; wants = s.wants } }

pub memory_report : (text bytes : List ℕ) (store left : Stored) (before after : Reader) (old new : Writer)
    → store ≡ record { content = empty_content; wants = 0 } → before.bytes ≡ Some text → old.bytes ≡ Some [] → Some bytes ≡ new.bytes
    → WritesRun starts.Open (memory_value store) (memory_value left) outputs.Report before after old new → IsRunReport text bytes
memory_report text bytes store left before after old new new_store lent empty held ran =
    one_report text bytes (memory_value store) (memory_value left) before after old new (ap memory_value new_store) refl lent empty held ran

pub memory_fault : (text : List ℕ) (store left : Stored) (before after : Reader) (met fault : RunTextFault)
    → store ≡ record { content = empty_content; wants = 0 } → before.bytes ≡ Some text → fault ≡ told_of met
    → IsRunTextFault starts.Open (memory_value store) (memory_value left) before after met → IsOneFault text fault
memory_fault text store left before after met fault new_store lent told is =
    one_fault text (memory_value store) (memory_value left) before after met fault (ap memory_value new_store) lent told is

-- ---- what is known of an answer by which of both it is

pub on_ok : {X E P : Type 0} (r : Result X E) (x : X) → r ≡ Ok x → OnOk r P → P
on_ok (Ok y) x e h = h
on_ok (Err f) x e h = absurd cc

pub on_err : {X E P : Type 0} (r : Result X E) (fault : E) → r ≡ Err fault → OnErr r P → P
on_err (Ok x) fault e h = absurd cc
on_err (Err f) fault e h = h

pub if_err : {X E : Type 0} (P : E → Type 0) (r : Result X E) (fault : E) → r ≡ Err fault → IfErr r P → P fault
if_err P (Ok y) fault e h = absurd cc
if_err P (Err f) fault e h =
    let same : f ≡ fault = cc in
    subst P same h
