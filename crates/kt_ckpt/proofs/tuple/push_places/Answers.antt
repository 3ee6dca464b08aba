use Rattle.std.proofs.Common.{subst}
use Rattle.std.proofs.lemmas.List.Elements.{All-more}
use Rattle.kt_tuple.specs.Valid.{IsPlace}
use Rattle.kt_ckpt.specs.Value.{place_bytes}
use Rattle.kt_ckpt.proofs.Loop.{appended}
use Rattle.kt_ckpt.proofs.tuple.push_places.Goals as goal

pub loop-place-preserved : goal.loop-place-preserved
loop-place-preserved c = record {
  written = appended place_bytes c.args.places.now c.loop-place.place-index c.place-item.result _ _ _ c.loop-place-test.true c.place-item.is
      c.loop-place.invariant.written c.in_ok-push_place.ensures.ok;
  held = All-more IsPlace c.args.places.now c.loop-place.place-index c.place-item.result c.loop-place-test.true c.loop-place.invariant.held
      (subst IsPlace c.place-item.is c.push_place.ensures.held);
}
