-- The parts of what a permanent checkpoint is.
-- Cited by space.rt.
use Rattle.std.specs.Prelude.{Bool, true, false, Option, Some}
use Rattle.std.specs.Option.{option_map}
use Rattle.kt_tuple.specs.declared.node.NodeId.{NodeId}
use Rattle.kt_ckpt.specs.declared.ckpt.Ckpt.{Ckpt}
use Rattle.kt_store.specs.declared.rows.Tentative.{Tentative}
use Rattle.kt_store.specs.declared.rows.Verdict.{Verdict}
use Rattle.kt_store.specs.declared.rows.Verdict.TheVariants as verdicts
use Rattle.kt_store.specs.Content.{Content, row_of, verdict_on}

abbrev pub is_yes : Option Verdict → Bool
is_yes (Some verdicts.Yes) = true
is_yes verdict = false

-- the tentative checkpoint counts as permanent
abbrev pub counts_in : Content → NodeId → Bool
counts_in c p = is_yes (verdict_on c (row_of c p).tentative)

abbrev pub checkpoint_in : Tentative → Ckpt
checkpoint_in t = t.checkpoint

-- what the node's tentative checkpoint is, where it has one
abbrev pub taken_by : Content → NodeId → Option Ckpt
taken_by c p = option_map checkpoint_in (row_of c p).tentative
