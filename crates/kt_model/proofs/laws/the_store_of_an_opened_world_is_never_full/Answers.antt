use Rattle.kt_model.proofs.Lasting.{never-full-reached}
use Rattle.kt_model.proofs.laws.the_store_of_an_opened_world_is_never_full.Goals as goal

pub returns : goal.returns
returns c = record { never = never-full-reached }
