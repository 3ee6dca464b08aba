-- A store in memory, as its callers see it.
-- Cited by memory.rt; other crates.
use Rattle.std.specs.Prelude.{ℕ}
use Rattle.kt_store.specs.Content.{Content}

-- what it holds, and how often it was refused memory
pub record Stored : Type 0 where
  pub content : Content
  pub wants : ℕ
