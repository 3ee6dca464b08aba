-- Numbers among the words of the command line.
-- Cited by Numbers, looking.rt, specs/Words, trials.rt.
use Rattle.std.specs.Prelude.{ℕ, nat_le, ◌==◌, Bool, false, not, ◌&&◌, List, [], ◌∷◌, Option, None, Some, if◌then◌else◌}
use Rattle.std.specs.Prelude.{option_map}
use Rattle.std.specs.Str.Parse.{digits_value, without_leading_plus}
use Rattle.clap.specs.Lexer.{strip_byte}
use Rattle.clap.specs.ValueTests.{is_unsigned_in}
use Rattle.kt_tuple.specs.declared.node.NodeId.{NodeId}
use Rattle.kt_tuple.specs.declared.node.NodeId.TheVariants.{Worker, Shard}
use Rattle.kt_tuple.specs.declared.node.TheConstants.{MAX_SHARDS, MAX_WORKERS}
use Rattle.kt_command.specs.Command.{Text}
use Rattle.kt_trials.specs.declared.times.TheConstants.{MAX_TIMES}
use Rattle.linda_kt.specs.declared.looking.TheConstants.{LAST_STEP}
use Rattle.linda_kt.specs.declared.trials.TheConstants.{MAX_CHAOS}

-- the number of 64 bits that the text writes in decimal digits, with a plus in front or without
abbrev pub number_of : Text → Option ℕ
number_of text =
    if is_unsigned_in 0 18446744073709551615 text then Some (digits_value 10 (without_leading_plus text)) else None

-- the number, where it is in the range
abbrev pub in_range : (least most : ℕ) → Option ℕ → Option ℕ
in_range least most None = None
in_range least most (Some n) = if nat_le least n && nat_le n most then Some n else None

-- how many runs
abbrev pub times_of : Text → Option ℕ
times_of text = in_range 1 MAX_TIMES (number_of text)

-- how many random fault lines
abbrev pub count_of : Text → Option ℕ
count_of text = in_range 1 MAX_CHAOS (number_of text)

-- the number of a step
abbrev pub step_of : Text → Option ℕ
step_of text = in_range 1 LAST_STEP (number_of text)

-- it begins with neither a plus (43) nor a zero (48)
abbrev pub begins_plainly : Text → Bool
begins_plainly [] = false
begins_plainly (c ∷ rest) = not (c == 43) && not (c == 48)

-- the number that the text writes as names have it
abbrev pub name_number : Text → Option ℕ
name_number digits = if begins_plainly digits then number_of digits else None

abbrev pub worker_of : Text → Option NodeId
worker_of digits = option_map (λ n. Worker n) (in_range 1 MAX_WORKERS (name_number digits))

abbrev pub shard_of : Text → Option NodeId
shard_of digits = option_map (λ n. Shard n) (in_range 1 MAX_SHARDS (name_number digits))

-- by what stands behind a `w` (119), or else behind an `s` (115)
abbrev pub node_by : Option Text → Option Text → Option NodeId
node_by (Some digits) other = worker_of digits
node_by None (Some digits) = shard_of digits
node_by None None = None

-- the node that the text names, as w1 or s2
abbrev pub node_named : Text → Option NodeId
node_named text = node_by (strip_byte 119 text) (strip_byte 115 text)
