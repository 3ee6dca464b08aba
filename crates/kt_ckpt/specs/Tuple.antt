-- Tuples and templates in bytes: how many values or places there are, and these.
-- Cited by OldFields, OldStates, Ops, States, Tuples, shard.rt, specs/Op, specs/State, tuple.rt,
--   `shard::push_tuples`.
use Rattle.std.specs.Prelude.{List, ◌∷◌, ℕ, length, Result, All}
use Rattle.std.specs.List.{flat_map}
use Rattle.kt_tuple.specs.declared.value.Value.{Value}
use Rattle.kt_tuple.specs.declared.template.Place.{Place}
use Rattle.kt_tuple.specs.Matching.{HasArity}
use Rattle.kt_tuple.specs.Valid.{IsValue, IsPlace}
use Rattle.kt_ckpt.specs.declared.error.CkptError.{CkptError}
use Rattle.kt_tuple.specs.declared.tuple.TheConstants.{MAX_PLACES}
use Rattle.kt_ckpt.specs.Reading.{◌>>=◌, byte_within, list_at}
use Rattle.kt_ckpt.specs.Value.{value_bytes, place_bytes, value_at, place_at}

-- what a program can hold: as many values as a tuple may have, each one that a program can hold
abbrev pub IsTuple : List Value → Type 0
IsTuple values = HasArity values × All IsValue values

-- the same for places
abbrev pub IsTemplate : List Place → Type 0
IsTemplate places = HasArity places × All IsPlace places

abbrev pub tuple_bytes : List Value → List ℕ
tuple_bytes values = length values ∷ flat_map value_bytes values

abbrev pub template_bytes : List Place → List ℕ
template_bytes places = length places ∷ flat_map place_bytes places

unfoldable pub tuple_at : List ℕ → Result (List Value × List ℕ) CkptError
tuple_at bytes = do
  n ← byte_within 1 MAX_PLACES bytes
  list_at value_at n.0 n.1

unfoldable pub template_at : List ℕ → Result (List Place × List ℕ) CkptError
template_at bytes = do
  n ← byte_within 1 MAX_PLACES bytes
  list_at place_at n.0 n.1
