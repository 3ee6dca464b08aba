-- Each worker's requests are its script's, in order.
-- Cited by Follows, Growth, Merge, OneRun, Orders, Renamed, Survive, specs/Legal; other crates.
use Rattle.std.specs.Prelude.{◌≡◌, ℕ, suc, ◌==◌, Option, Some, List, [], ◌∷◌, ◌++◌, length, filter}
use Rattle.kt_tuple.specs.declared.op.Op.{Op}
use Rattle.kt_tuple.specs.declared.op.Answer.{Answer}
use Rattle.kt_tuple.specs.declared.service.Service.{Service}

-- how many shards there are, and what each worker asks next after a list of answers
pub record Setting : Type 0 where
  pub shards : ℕ
  pub asks : ℕ → List Answer → Option Op

-- the services of one worker
abbrev pub of_worker : ℕ → List Service → List Service
of_worker w services = filter (λ s. s.worker == w) services

-- after these answers the services are those that the worker asks for, one after the other, numbered on
abbrev pub OrderFrom : (List Answer → Option Op) → List Answer → List Service → Type 0
OrderFrom asks answers [] = Unit {0}
OrderFrom asks answers (s ∷ later) =
    (s.number ≡ suc (length answers)) × (asks answers ≡ Some s.op) × OrderFrom asks (answers ++ s.answer ∷ []) later

-- each worker's services are numbered 1, 2, .., and ask what it asks after its earlier answers
abbrev pub FollowsScripts : Setting → List Service → Type 0
FollowsScripts setting services = (w : ℕ) → OrderFrom (setting.asks w) [] (of_worker w services)
