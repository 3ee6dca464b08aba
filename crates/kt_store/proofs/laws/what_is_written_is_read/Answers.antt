use Rattle.kt_store.proofs.OtherNodes.{stored_is_read}
use Rattle.kt_store.proofs.OtherInstances.{begun_is_read, decided_is_read}
use Rattle.kt_store.proofs.laws.what_is_written_is_read.Goals as goal

pub returns : goal.returns
returns c = record { stored = stored_is_read; begun = begun_is_read; decided = decided_is_read }
