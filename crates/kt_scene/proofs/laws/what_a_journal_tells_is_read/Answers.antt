use Rattle.kt_scene.proofs.JournalRead.{journal_is_read}
use Rattle.kt_scene.proofs.laws.what_a_journal_tells_is_read.Goals as goal

pub returns : goal.returns
returns c = journal_is_read
