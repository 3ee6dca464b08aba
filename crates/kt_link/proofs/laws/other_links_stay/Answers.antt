use Rattle.kt_link.proofs.Others.{other_queue, other_room}
use Rattle.kt_link.proofs.laws.other_links_stay.Goals as goal

pub returns : goal.returns
returns g c = record { queues = other_queue; rooms = other_room }
