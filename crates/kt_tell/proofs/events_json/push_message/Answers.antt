use Rattle.kt_tell.proofs.events_json.push_message.Goals as goal

pub returns-in-CheckAsk : goal.returns-in-CheckAsk
returns-in-CheckAsk c = rw c.in-CheckAsk.is c.push_ask.ensures

pub returns-in-RollAsk : goal.returns-in-RollAsk
returns-in-RollAsk c = rw c.in-RollAsk.is c.push_ask-in-RollAsk.ensures
