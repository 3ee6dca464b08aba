-- What is said of an answer, where something follows from it.
-- Cited by `replaying::replay`, `replaying::resume_replay`; other crates.
use Rattle.std.proofs.Common.{Result, Ok, Err}
use Rattle.std.specs.Prelude.{IfErr, OnOk}

pub told_ok : {X E A B : Type 0} (r : Result X E) → (A → B) → OnOk r A → OnOk r B
told_ok (Ok x) f a = f a
told_ok (Err e) f a = tt

pub told_err : {X E : Type 0} (r : Result X E) (P Q : E → Type 0) → ((e : E) → P e → Q e) → IfErr r P → IfErr r Q
told_err (Ok x) P Q f h = tt
told_err (Err e) P Q f h = f e h
