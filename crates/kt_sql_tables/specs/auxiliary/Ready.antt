-- Why tables are not made ready.
-- Cited by ReadyLemmas, ready.rt.
use Rattle.kt_store.specs.declared.error.StoreError.{StoreError}
use Rattle.kt_store.specs.declared.error.StoreError.TheVariants as stores
use Rattle.kt_sql_tables.specs.declared.ready.ReadyError.{ReadyError}
use Rattle.kt_sql_tables.specs.declared.ready.ReadyError.TheVariants.{Memory, Device, Damaged}

-- a number that can't be raised is told as the device's refusal
abbrev pub ready_error : StoreError → ReadyError
ready_error stores.Memory = Memory
ready_error stores.Device = Device
ready_error stores.Damaged = Damaged
ready_error stores.Full = Device
