-- What is said of a row, of its service, and of why that is lost. Code 26 stands for an arrow, which who writes the
-- text puts there.
-- Cited by Cutting, specs/Blames, words.rt, `words::push_votes`, `words::reason_of`; other crates.
use Rattle.std.specs.Prelude.{ℕ, ◌-◌, ◌/◌, ◌==◌, nat_le, Bool, true, false, if◌then◌else◌, List, [], ◌∷◌, ◌++◌}
use Rattle.std.specs.Prelude.{codes, decimal, length, take, Option, None, Some}
use Rattle.std.specs.List.{flat_map}
use Rattle.kt_tuple.specs.declared.node.NodeId.{NodeId}
use Rattle.kt_tuple.specs.declared.node.NodeId.TheVariants.{Worker}
use Rattle.kt_tuple.specs.declared.op.Op.{Op}
use Rattle.kt_tuple.specs.declared.op.Answer.{Answer}
use Rattle.kt_tuple.specs.declared.op.Answer.TheVariants as answers
use Rattle.kt_tuple.specs.Spelling.{node_text, op_text, tuple_text}
use Rattle.kt_history.specs.declared.note.Act.{Act}
use Rattle.kt_history.specs.declared.note.Note.{Note}
use Rattle.kt_history.specs.declared.note.Note.TheVariants as notes
use Rattle.kt_history.specs.declared.note.What.{What}
use Rattle.kt_history.specs.declared.note.What.TheVariants as whats
use Rattle.kt_state.specs.declared.message.Message.{Message}
use Rattle.kt_state.specs.declared.message.Message.TheVariants as messages
use Rattle.kt_trace.specs.declared.traced.Saving.{Saving}
use Rattle.kt_trace.specs.declared.traced.Saving.TheVariants as savings
use Rattle.kt_trace.specs.declared.traced.TracedStep.{TracedStep}
use Rattle.kt_tell.specs.Words.{begun_text, head_text, instance_text, is_failure, ruling_text, sent_text, undone_text}
use Rattle.kt_story.specs.declared.story.Blame.{Blame}
use Rattle.kt_story.specs.declared.words.TheConstants.{MOST_OP, MOST_TEXT}

-- the text where it has no more than so many characters, else a front of it and three dots, which are so many
abbrev pub shortened : List ℕ → ℕ → List ℕ
shortened text most = if nat_le (length text) most then text else take (most - 3) text ++ codes "..."

-- what was got, without the word for it
abbrev pub got_text : Answer → List ℕ
got_text answers.Done = codes "done"
got_text (answers.Got tuple) = tuple_text tuple
got_text answers.None = codes "none"

abbrev pub told_text : Answer → ℕ → List ℕ
told_text answers.Done most = []
told_text (answers.Got tuple) most = 32 ∷ 26 ∷ 32 ∷ shortened (tuple_text tuple) most
told_text answers.None most = 32 ∷ 26 ∷ 32 ∷ shortened (codes "none") most

-- what was asked, and what was got where that tells more than that it was done
abbrev pub service_text : Op → Answer → ℕ → List ℕ
service_text op answer most = shortened (op_text op) most ++ told_text answer (most / 2)

abbrev pub how_text : Bool → List ℕ
how_text true = codes " failed (step "
how_text false = codes " rolled back (step "

abbrev pub reason_text : Blame → List ℕ
reason_text b = codes "lost when " ++ node_text b.node ++ how_text b.failed ++ decimal b.step ++ 41 ∷ []

abbrev pub plural : ℕ → List ℕ
plural n = if n == 1 then [] else 115 ∷ []

abbrev pub count_text : ℕ → List ℕ → List ℕ
count_text n word = decimal n ++ 32 ∷ word ++ plural n

-- ---- a row

-- which request a service answered, and a space: `w1.3 `
abbrev pub request_text : Act → List ℕ
request_text a = node_text (Worker a.worker) ++ 46 ∷ decimal a.number ++ 32 ∷ []

abbrev pub served_text : Act → Answer → List ℕ
served_text a answer = request_text a ++ service_text a.op answer MOST_OP

-- what became of the node's tentative checkpoint
abbrev pub saved_text : NodeId → Saving → List ℕ
saved_text p (savings.Taken i) = node_text p ++ codes " takes a tentative checkpoint" ++ instance_text i
saved_text p (savings.Permanent i) = node_text p ++ codes "'s checkpoint is permanent" ++ instance_text i
saved_text p (savings.GivenUp i) = node_text p ++ codes " gives its checkpoint up" ++ instance_text i

abbrev pub gone_back_text : TracedStep → List ℕ
gone_back_text row = node_text row.node ++ codes " goes back to its checkpoint" ++ undone_text row.note row.undone

abbrev pub vote_text : NodeId × Message → List ℕ
vote_text (p, messages.Vote vote) = sent_text (p, messages.Vote vote)
vote_text (p, message) = []

-- the words of the trace, without what the picture shows: modes, and whom something is asked or told
abbrev pub brief_text : TracedStep → List ℕ
brief_text row =
    head_text row ++ begun_text row.begun ++ ruling_text row.ruling ++ flat_map vote_text row.sent
    ++ undone_text row.note row.undone

abbrev pub told_brief : TracedStep → List ℕ
told_brief row = shortened (brief_text row) MOST_TEXT

abbrev pub other_by : TracedStep → Option Note → List ℕ
other_by row None = told_brief row
other_by row (Some (notes.Act a)) = told_brief row
other_by row (Some (notes.Cut p keep)) = if is_failure row.step then told_brief row else gone_back_text row

-- of what is no service: what became of a checkpoint, that the node goes back to its checkpoint, or the words of the
-- trace
abbrev pub other_text : TracedStep → Option Saving → List ℕ
other_text row (Some saving) = saved_text row.node saving
other_text row None = other_by row row.note

abbrev pub said_by : TracedStep → Act → What → List ℕ
said_by row a (whats.Served answer) = served_text a answer
said_by row a what = other_text row row.saving

abbrev pub said_of : TracedStep → Option Note → List ℕ
said_of row None = other_text row row.saving
said_of row (Some (notes.Act a)) = said_by row a a.what
said_of row (Some (notes.Cut p keep)) = other_text row row.saving

-- what is said of a row: of a service its request and its answer, of all else what happened
abbrev pub said_text : TracedStep → List ℕ
said_text row = said_of row row.note
