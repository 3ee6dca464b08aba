-- Why tables are not made ready.
-- Cited by `ready::readied`.
use Rattle.std.proofs.Common.{◌≡◌, List, [], ◌∷◌, refl, sym, ap, ◌∙◌}
use Rattle.sqlite.specs.Schema.{Schema}
use Rattle.kt_store.specs.declared.error.StoreError.{StoreError}
use Rattle.kt_store.specs.declared.error.StoreError.TheVariants as stores
use Rattle.kt_sql_tables.specs.declared.ready.ReadyError.TheVariants.{Damaged, Version}
use Rattle.kt_sql_tables.specs.auxiliary.Ready.{ready_error}
use Rattle.kt_sql_tables.specs.Schema.{board_table, kt_schema, meta_table, no_schema, node_table}

nothing_apart : {X : Type 0} (x : X) (xs : List X) → [] ≡ x ∷ xs → ⊥
nothing_apart x xs same = absurd cc

-- a store's tables are some
pub never_none : (s : Schema) → s ≡ no_schema → s ≡ kt_schema → ⊥
never_none s none has = nothing_apart node_table (board_table ∷ meta_table ∷ []) (ap (λ (t : Schema). t.tables) (sym none ∙ has))

-- no refusal of the store is that of a version
pub never_version : (e : StoreError) → ready_error e ≡ Version → ⊥
never_version stores.Memory is = absurd cc
never_version stores.Device is = absurd cc
never_version stores.Damaged is = absurd cc
never_version stores.Full is = absurd cc

-- and only damage is told as damage
pub was_damaged : (e : StoreError) → ready_error e ≡ Damaged → e ≡ stores.Damaged
was_damaged stores.Memory is = absurd cc
was_damaged stores.Device is = absurd cc
was_damaged stores.Damaged is = refl
was_damaged stores.Full is = absurd cc
