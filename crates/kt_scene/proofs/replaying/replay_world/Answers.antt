use Rattle.kt_scene.proofs.replaying.replay_world.Goals as goal

pub returns-in-Err-clause-fault : goal.returns-in-Err-clause-fault
returns-in-Err-clause-fault g c = (c.in-Err.left, c.in-Err.ensures.fault)
