-- What the code answers with a body, as plain data.
-- Cited by loading.rt.
use Rattle.std.specs.Prelude.{◌≡◌, Result, Ok, Err}
use Rattle.kt_state.specs.declared.live.Body.{Body as BodyCode}
use Rattle.kt_state.specs.declared.refusal.Refusal.{Refusal}
use Rattle.kt_state.specs.Node.{Body}
use Rattle.kt_state.specs.Refusing.{Refuses}
use Rattle.kt_state.specs.Codes.{body_view}

abbrev pub GivesBody : Result BodyCode Refusal → Result Body Refusal → Type 0
GivesBody (Ok body) due = due ≡ Ok (body_view body)
GivesBody (Err refusal) due = Refuses refusal due
