-- When the cause of an act makes sense.
-- Cited by Senses, sense.rt, `sense::makes_sense`.
use Rattle.std.specs.Prelude.{◌≡◌, List}
use Rattle.kt_history.specs.declared.note.Act.{Act}
use Rattle.kt_history.specs.declared.note.Note.{Note}
use Rattle.kt_history.specs.declared.note.What.{What}
use Rattle.kt_history.specs.declared.note.What.TheVariants as whats
use Rattle.kt_history.specs.WellFormed.{HeardReply, HeardRequest, IgnoredFits}

-- the cause of the act a, of this kind, is an act of h that sent what a heard. (That what is answered again was served
-- so follows where the shard may make its log.)
abbrev pub CauseFits : List Note → Act → What → Type 0
CauseFits h a whats.Issue = a.by ≡ 0
CauseFits h a whats.Repeat = a.by ≡ 0
CauseFits h a whats.Heard = HeardRequest h a
CauseFits h a (whats.Served answer) = HeardRequest h a
CauseFits h a (whats.Again answer) = HeardRequest h a
CauseFits h a (whats.Accepted answer) = HeardReply h a answer
CauseFits h a (whats.Ignored answer) = IgnoredFits h a a.node answer
