use Rattle.std.proofs.Common.{refl}
use Rattle.kt_link.proofs.Places.{link_test, place-within, place-own}
use Rattle.kt_link.proofs.laws.neighbours_have_their_own_places.Goals as goal

pub returns : goal.returns
returns c = record {
  neighbours = λ workers shards p q. let h = link_test workers shards p q _ refl in (h.1, h.0);
  within = place-within;
  own = place-own;
}
