-- What a store tells of what was asked.
-- Cited by Enough; other crates.
use Rattle.std.specs.Prelude.{if◌then◌else◌, Option, None}
use Rattle.kt_tuple.specs.declared.node.NodeId.{NodeId}
use Rattle.kt_store.specs.declared.rows.Verdict.{Verdict}
use Rattle.kt_store.specs.Content.{Content, next_instance, open_of, permanent_header, row_of, verdict_of, verdict_on}
use Rattle.kt_model.specs.declared.read_set.ReadSet.{ReadSet}
use Rattle.kt_model.specs.declared.read_set.VerdictQuery.{VerdictQuery}
use Rattle.kt_model.specs.declared.read_set.VerdictQuery.TheVariants as queries
use Rattle.kt_model.specs.declared.store_reads.StoreReads.{StoreReads}
use Rattle.kt_model.specs.StoreReads.{tentative_in, stored_of}
use Rattle.kt_model.specs.ReadSet.{nothing_stored}

abbrev pub answer_to : Content → NodeId → VerdictQuery → Option Verdict
answer_to c p queries.Nothing = None
answer_to c p (queries.Of instance) = verdict_of c instance
answer_to c p queries.OfTentative = verdict_on c (row_of c p).tentative

abbrev pub reads_by : ReadSet → Content → NodeId → StoreReads
reads_by read_set c p = record {
  verdict = answer_to c p read_set.verdict;
  permanent = if read_set.permanent then permanent_header c p else None;
  tentative = if read_set.tentative then tentative_in c p else None;
  stored = if read_set.stored then stored_of c p else nothing_stored;
  undecided = if read_set.undecided then open_of c p else None;
  next = if read_set.next then next_instance c else 1;
}
