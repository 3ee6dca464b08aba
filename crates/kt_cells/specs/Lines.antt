-- A message in a line of text. Code 26 stands for an arrow, which who writes the line puts there.
-- Cited by cells.rt, message.rt, node_cells.rt, specs/Cells, `cells::way_lines`, `node_cells::kept_lines`.
use Rattle.std.specs.Prelude.{ℕ, Bool, true, false, List, [], ◌∷◌, ◌++◌, codes, decimal}
use Rattle.kt_tuple.specs.declared.node.NodeId.{NodeId}
use Rattle.kt_tuple.specs.Spelling.{node_text, op_text}
use Rattle.kt_state.specs.declared.message.AppMessage.{AppMessage}
use Rattle.kt_state.specs.declared.message.Message.{Message}
use Rattle.kt_state.specs.declared.message.Message.TheVariants as messages
use Rattle.kt_state.specs.declared.message.Talk.{Talk}
use Rattle.kt_state.specs.declared.message.Talk.TheVariants as talks
use Rattle.kt_story.specs.Said.{got_text}

-- words, and the number of a check or a rollback
abbrev pub ask_line : List ℕ → ℕ → List ℕ
ask_line words instance = words ++ codes " (" ++ decimal instance ++ 41 ∷ []

abbrev pub talk_line : Talk → List ℕ
talk_line (talks.Request request) = codes "request " ++ decimal request.number ++ codes ": " ++ op_text request.op
talk_line (talks.Reply request answer) =
    codes "answer to " ++ decimal request.number ++ codes ": " ++ op_text request.op ++ 32 ∷ 26 ∷ 32 ∷ got_text answer

abbrev pub vote_words : Bool → List ℕ
vote_words true = codes "vote yes"
vote_words false = codes "vote no"

abbrev pub verdict_words : Bool → List ℕ
verdict_words true = codes "verdict yes"
verdict_words false = codes "verdict no"

abbrev pub message_line : Message → List ℕ
message_line (messages.App app) = talk_line app.talk
message_line (messages.CheckAsk ask) = ask_line (codes "ask for a checkpoint") ask.instance
message_line (messages.RollAsk ask) = ask_line (codes "ask to roll back") ask.instance
message_line (messages.Vote vote) = ask_line (vote_words vote.yes) vote.instance
message_line (messages.Verdict instance agreed) = ask_line (verdict_words agreed) instance

-- what a node keeps back, and who sent it
abbrev pub kept_line : NodeId → AppMessage → List ℕ
kept_line from app = node_text from ++ codes ": " ++ talk_line app.talk
