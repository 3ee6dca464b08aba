-- Of `history_of` in src/main.rt.
use Rattle.kt_example.proofs.history_of.Goals as goal

pub returns : goal.returns
returns c = record { follow = c.workers_stand_as_their_answers_say.ensures.workers c.args.world.now.state (c.history.ensures.reached c.requires) }
