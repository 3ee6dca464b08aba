-- What several runs come to, and what is written of them.
-- Cited by Behind, `chaos::run_chaos_returning_store`, `times::reports_of`, `times::run_times`, `times::tally_read`.
use Rattle.std.proofs.Common.{◌≡◌, ℕ, ◌+◌, Bool, true, if◌then◌else◌, List, [], ◌∷◌, ◌++◌, length, length-append, sym, ap, subst, ◌∙◌}
use Rattle.std.specs.Prelude.{All}
use Rattle.std.specs.Global.{Vec}
use Rattle.std.proofs.lemmas.List.{map-append}
use Rattle.std.proofs.lemmas.List.Elements.{All-append, All-cons, All-nil}
use Rattle.kt_scene.specs.declared.fault.ReplayFault.{ReplayFault}
use Rattle.kt_scene.specs.declared.fault.ReplayFault.TheVariants as faults
use Rattle.kt_scene.specs.Outside.{Reader, Writer}
use Rattle.kt_scene.specs.Stream.{IsAllRead, IsReadFault, WritesAll}
use Rattle.kt_run.specs.declared.fault.RunTextFault.{RunTextFault}
use Rattle.kt_run.specs.declared.fault.RunTextFault.TheVariants.{Text, Run}
use Rattle.kt_run.specs.Run.{UnlessFront}
use Rattle.kt_trials.specs.Runs.{IsRunReport, IsTallyFault, WritesTally, in_writing, no_room, of_reading, of_run}
use Rattle.kt_trials.specs.Tally.{tally_text}
use Rattle.kt_trials.specs.auxiliary.Telling.{IsTally, IsTextStop, IsUnwritten, in_reading, in_text, items_of, of_one, of_room}

-- one report more
pub each_more : (text : List ℕ) (before after : List (Vec ℕ)) (report : Vec ℕ) → after ≡ before ++ report ∷ []
    → All (IsRunReport text) (items_of before) → IsRunReport text report.items → All (IsRunReport text) (items_of after)
each_more text before after report is each one =
    let more : items_of after ≡ items_of before ++ report.items ∷ [] =
    ap items_of is ∙ map-append (λ (t : Vec ℕ). t.items) before (report ∷ []) in
    subst (λ (xs : List (List ℕ)). All (IsRunReport text) xs) (sym more)
    (All-append (IsRunReport text) (items_of before) (report.items ∷ []) each
    (All-cons (IsRunReport text) report.items [] one (All-nil (IsRunReport text))))

-- and one more of them
pub count_more : (before after : List (Vec ℕ)) (report : Vec ℕ) (n : ℕ) → after ≡ before ++ report ∷ [] → length before ≡ n → length after ≡ n + 1
count_more before after report n is many = ap length is ∙ length-append before (report ∷ []) ∙ ap (λ (m : ℕ). m + 1) many

-- what was pushed, where there was memory
pub pushed : (before after more : List (Vec ℕ)) (room : Bool) → after ≡ (if room then more else before) → room ≡ true → after ≡ more
pushed before after more room is there = is ∙ ap (λ (b : Bool). if b then more else before) there

-- what the text that was read answers
pub unwritten : (before after : Reader) (text held : List ℕ) (fault : RunTextFault) → IsAllRead before after text → held ≡ text → IsTextStop held fault
    → IsUnwritten before after fault
unwritten before after text held fault read same is = in_text text read (subst (λ (t : List ℕ). IsTextStop t fault) same is)

-- the tally of what was read
pub tallied : (times : ℕ) (before after : Reader) (text held tally : List ℕ) (reports told : List (Vec ℕ))
    → IsAllRead before after text → held ≡ text
    → All (IsRunReport held) (items_of reports) → length (items_of reports) ≡ times → told ≡ reports → tally ≡ tally_text (items_of told)
    → IsTally times before after tally
tallied times before after text held tally reports told read same each count are is = record {
  reports = items_of reports;
  are = record {
    text = text;
    read = read;
    each = subst (λ (t : List ℕ). All (IsRunReport t) (items_of reports)) same each;
    count = count;
  };
  is = is ∙ ap (λ (xs : List (Vec ℕ)). tally_text (items_of xs)) are;
}

-- ---- what is written

pub is_written : (times : ℕ) (before after : Reader) (old new : Writer) (tally held : List ℕ) → IsTally times before after tally → held ≡ tally
    → WritesAll old new held → WritesTally times before after old new
is_written times before after old new tally held t same wrote =
    record { reports = t.reports; are = t.are; written = subst (λ (xs : List ℕ). WritesAll old new xs) (same ∙ t.is) wrote }

-- ---- faults

pub told_fault : (times : ℕ) (before after : Reader) (fault : RunTextFault) → IsUnwritten before after fault → IsTallyFault times before after fault
told_fault times before after _ (in_reading {fault} is) = of_reading is
told_fault times before after fault (in_text text read (of_one is)) = of_run text read is
told_fault times before after _ (in_text text read of_room) = no_room text read

-- a fault in writing is the writer's
pub written_fault : (times : ℕ) (before after : Reader) (tally : List ℕ) (fault : ReplayFault) → IsTally times before after tally
    → fault ≡ faults.Write → IsTallyFault times before after (Text fault)
written_fault times before after tally fault t is =
    subst (λ (f : ReplayFault). IsTallyFault times before after (Text f)) (sym is) (in_writing t.reports t.are)

-- no fault of reading is the writer's
pub read-named : (before after : Reader) (fault : ReplayFault) → IsReadFault before after fault → Text fault ≡ Text faults.Write → ⊥
read-named before after fault is e =
    let same : fault ≡ faults.Write = cc in
    subst (λ (f : ReplayFault). IsReadFault before after f) same is

-- what holds anyway holds unless the fault is the writer's
pub unless_kept : (fault : RunTextFault) (P : Type 0) → P → UnlessFront fault P
unless_kept (Text (faults.Scene line cause)) P h = h
unless_kept (Text (faults.Step at cause)) P h = h
unless_kept (Text (faults.Open cause)) P h = h
unless_kept (Text (faults.Resume cause)) P h = h
unless_kept (Text (faults.Report cause)) P h = h
unless_kept (Text faults.Memory) P h = h
unless_kept (Text faults.Read) P h = h
unless_kept (Text faults.Write) P h = tt
unless_kept (Run fault) P h = h
