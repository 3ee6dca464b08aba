-- What the write of a plan makes of the store's content.
-- Cited by AllInstanceRows, Applying, Backs, Cutting, FailLeaves, Fit, HeldActs, Kept, Newer, Noes, OwnRows,
--   RollLeaves, Settle, Settling, StaysBacked, Updates, Writes, specs/Effect; other crates.
use Rattle.std.specs.Prelude.{Option, None, Some}
use Rattle.kt_tuple.specs.declared.node.NodeId.{NodeId}
use Rattle.kt_store.specs.Content.{Content}
use Rattle.kt_store.specs.Changes.{check_begun, tentative_put, promoted, discarded, restart_begun, bumped, decided}
use Rattle.kt_state.specs.declared.plan.Write.{Write}
use Rattle.kt_state.specs.declared.plan.Write.TheVariants as writes

-- a write of p
abbrev pub written : NodeId → Write → Content → Content
written p (writes.BeginCheck checkpoint) c = check_begun p checkpoint c
written p (writes.PutTentative instance checkpoint) c = tentative_put p instance checkpoint c
written p writes.Promote c = promoted p c
written p writes.Discard c = discarded p c
written p writes.BeginRestart c = restart_begun p c
written p writes.Bump c = bumped p c
written p (writes.Decide instance agreed) c = decided instance agreed c

-- a plan makes one write or none
abbrev pub content_after : NodeId → Option Write → Content → Content
content_after p None c = c
content_after p (Some write) c = written p write c
