-- Reading bytes from left to right, up to the first fault.
-- Cited by ActCauses, ActFields, ActWhats, Checkpoints, Combined, Field, Front, Loop, Nodes, OldCheckpoints, OldOps,
--   OldParts, OldRising, OldStates, OldWorkers, Ops, Peers, Primitive, States, Tuples, Values, act_bytes.rt, decode.rt,
--   entry.rt and 29 more; other crates.
use Rattle.std.specs.Prelude.{◌≡◌, ◌≢◌, ℕ, zero, suc, ◌+◌, ◌≤◌, nat_lt, nat_le, ◌&&◌, if◌then◌else◌}
use Rattle.std.specs.Prelude.{List, [], ◌∷◌, length, take, drop, Result, Ok, Err}
use Rattle.std.specs.Int.{Width, byte_len, from_be_bytes}
use Rattle.kt_ckpt.specs.declared.error.CkptError.{CkptError}
use Rattle.kt_ckpt.specs.declared.error.CkptError.TheVariants.{Cut, Field, OutOfMemory}
use Rattle.kt_tuple.specs.declared.node.TheConstants.{MAX_WORKERS}

-- what follows is read behind what was read, and a fault is the last that is read
infixl 10 ◌>>=◌
abbrev pub ◌>>=◌ : {A B : Type 0} → Result A CkptError → (A → Result B CkptError) → Result B CkptError
(Ok x) >>= f = f x
(Err e) >>= f = Err e

-- what a call returned, seen by view, is what is read, unless memory ran out
abbrev pub Gives : {X Y : Type 0} → (X → Y) → Result X CkptError → Result Y CkptError → Type 0
Gives view (Ok x) read = read ≡ Ok (view x)
Gives view (Err e) read = e ≢ OutOfMemory → read ≡ Err e

-- what reads a value in front, and gives the bytes behind it
abbrev pub Reader : Type 0 → Type 0
Reader X = List ℕ → Result (X × List ℕ) CkptError

-- what is read is a part of a value, or all that the value is made of
abbrev pub made : {A B : Type 0} → (A → B) → Result (A × List ℕ) CkptError → Result (B × List ℕ) CkptError
made make read = read >>= λ a. Ok (make a.0, a.1)

-- What is read is a value with the bytes behind it. A byte:
abbrev pub byte_at : List ℕ → Result (ℕ × List ℕ) CkptError
byte_at [] = Err Cut
byte_at (b ∷ rest) = Ok (b, rest)

-- so many bytes
abbrev pub bytes_at : ℕ → List ℕ → Result (List ℕ × List ℕ) CkptError
bytes_at n bytes = if nat_lt (length bytes) n then Err Cut else Ok (take n bytes, drop n bytes)

-- a number, the highest byte first
abbrev pub number_at : Width → List ℕ → Result (ℕ × List ℕ) CkptError
number_at w bytes =
    if nat_lt (length bytes) (byte_len w) then Err Cut
    else Ok (from_be_bytes w (take (byte_len w) bytes), drop (byte_len w) bytes)

-- a number that was read is one from low to high
abbrev pub within : ℕ → ℕ → ℕ × List ℕ → Result (ℕ × List ℕ) CkptError
within low high n = if nat_le low n.0 && nat_le n.0 high then Ok n else Err Field

-- a byte from low to high
unfoldable pub byte_within : ℕ → ℕ → List ℕ → Result (ℕ × List ℕ) CkptError
byte_within low high bytes = byte_at bytes >>= within low high

-- so many values, one behind the other
unfoldable pub list_at : {X : Type 0} → Reader X → ℕ → Reader (List X)
list_at read zero bytes = Ok ([], bytes)
list_at read (suc n) bytes = do
  first ← read bytes
  others ← list_at read n first.1
  Ok (first.0 ∷ others.0, others.1)

-- so many values, each behind its worker, which is above the one before; the first is the least or above it
unfoldable pub rising_at : {X : Type 0} → Reader X → ℕ → ℕ → Reader (List (ℕ × X))
rising_at read least zero bytes = Ok ([], bytes)
rising_at read least (suc n) bytes = do
  worker ← byte_within least MAX_WORKERS bytes
  first ← read worker.1
  others ← rising_at read (worker.0 + 1) n first.1
  Ok ((worker.0, first.0) ∷ others.0, others.1)

-- each worker is above the one before, the first is the least or above it, and none is above the greatest
abbrev pub IsRising : {X : Type 0} → ℕ → List (ℕ × X) → Type 0
IsRising least [] = Unit {0}
IsRising least (x ∷ xs) = (least ≤ x.0) × (x.0 ≤ MAX_WORKERS) × IsRising (x.0 + 1) xs
