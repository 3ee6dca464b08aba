-- What holds anyway holds of either outcome.
-- Cited by `Machine::make_room_for_short`, `Machine::make_room`.
use Rattle.std.proofs.Common.{Result, Ok, Err}
use Rattle.std.specs.Prelude.{OnOk}

pub on_ok : {X E : Type 0} (r : Result X E) (P : Type 0) → P → OnOk r P
on_ok (Ok x) P p = p
on_ok (Err e) P p = tt

pub on_ok-map : {X E P Q : Type 0} (r : Result X E) → OnOk r P → (P → Q) → OnOk r Q
on_ok-map (Ok x) p f = f p
on_ok-map (Err e) p f = tt
