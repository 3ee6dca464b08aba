-- When nothing is said, told part by part.
-- Cited by `request::run_request`.
use Rattle.std.proofs.Common.{◌≡◌, refl}
use Rattle.std.specs.Prelude.{Bool, true, false, not, ◌&&◌}
use Rattle.std.proofs.lemmas.Bool.{false≢true}
use Rattle.kt_command.specs.declared.request.Telling.{Telling}
use Rattle.kt_command.specs.declared.request.Telling.TheVariants as tellings
use Rattle.kt_command.specs.declared.request.Terminals.{Terminals}
use Rattle.kt_command.specs.Silence.{is_nothing}

pub record IsUnasked (t : Terminals) (telling : Telling) : Type 0 where
  pub not_typed : t.is_typed ≡ false
  pub not_watched : t.is_watched ≡ false
  pub nothing : telling ≡ tellings.Nothing

parts : (a b : Bool) (telling : Telling) → (not a && not b && is_nothing telling) ≡ true → (a ≡ false) × (b ≡ false) × (telling ≡ tellings.Nothing)
parts true b telling e = absurd (false≢true e)
parts false true telling e = absurd (false≢true e)
parts false false tellings.Nothing e = (refl, refl, refl)
parts false false tellings.Words e = absurd (false≢true e)
parts false false tellings.Json e = absurd (false≢true e)

pub unasked : (t : Terminals) (telling : Telling) → (not t.is_typed && not t.is_watched && is_nothing telling) ≡ true → IsUnasked t telling
unasked t telling silent =
    let p = parts t.is_typed t.is_watched telling silent in
    record { not_typed = p.0; not_watched = p.1; nothing = p.2 }
