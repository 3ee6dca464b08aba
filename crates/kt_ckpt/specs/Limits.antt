-- The codes of the format, each once. Its limits are those of tuples, scripts and nodes.
-- Cited by ActWhats, Checkpoints, Front, Nodes, OldCheckpoints, OldOps, OldParts, Ops, Values, decode.rt, encode.rt,
--   old.rt, specs/Acts, specs/Checkpoint, specs/Node, specs/Old, specs/OldParts, specs/Op, specs/Value.
use Rattle.std.specs.Prelude.{ℕ, List, codes}

-- the bytes that each checkpoint begins with
abbrev pub magic : List ℕ
magic = codes "KTCP"

-- the version that is written and read
abbrev pub version : ℕ
version = 2

-- what kind of node
abbrev pub worker_code : ℕ
worker_code = 1

abbrev pub shard_code : ℕ
shard_code = 2

-- what kind of value
abbrev pub int_code : ℕ
int_code = 1

abbrev pub str_code : ℕ
str_code = 2

abbrev pub bool_code : ℕ
bool_code = 3

-- what kind of value a formal admits
abbrev pub int_formal_code : ℕ
int_formal_code = 129

abbrev pub str_formal_code : ℕ
str_formal_code = 130

abbrev pub bool_formal_code : ℕ
bool_formal_code = 131

-- which operation
abbrev pub out_code : ℕ
out_code = 1

abbrev pub in_code : ℕ
in_code = 2

abbrev pub rd_code : ℕ
rd_code = 3

abbrev pub inp_code : ℕ
inp_code = 4

abbrev pub rdp_code : ℕ
rdp_code = 5

-- which answer
abbrev pub done_code : ℕ
done_code = 0

abbrev pub got_code : ℕ
got_code = 1

abbrev pub none_code : ℕ
none_code = 2

-- which act
abbrev pub issue_code : ℕ
issue_code = 1

abbrev pub repeat_code : ℕ
repeat_code = 2

abbrev pub heard_code : ℕ
heard_code = 3

abbrev pub served_code : ℕ
served_code = 4

abbrev pub again_code : ℕ
again_code = 5

abbrev pub accepted_code : ℕ
accepted_code = 6

abbrev pub ignored_code : ℕ
ignored_code = 7
