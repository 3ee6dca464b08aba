use Rattle.kt_tuple.proofs.Separated.{front_of}
use Rattle.kt_tuple.proofs.writing.push_string.Goals as goal

pub returns-in_err-push_character-clause-front : goal.returns-in_err-push_character-clause-front
returns-in_err-push_character-clause-front c = front_of _ _ _ _ c.loop-character.invariant c.push_character.ensures.front
