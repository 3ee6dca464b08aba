-- What of a history lasts: the acts with nothing lost in their past, and the services among them.
-- Cited by Changes, Counts, Fronts, Keeping, KeepingActs, KeepingCuts, Sense, Survivors, history.rt, laws.rt,
--   note.rt, specs/Closed, specs/auxiliary/Marks, `History::lost_count`, `History::survives`, `History::survivors`,
--   `laws::survivors_are_fronts`; other crates.
use Rattle.std.specs.Prelude.{◌≡◌, ◌↔◌, IsTrue, ℕ, zero, suc, ◌==◌, Bool, true, false, not, ◌&&◌}
use Rattle.std.specs.Prelude.{if◌then◌else◌, List, [], ◌∷◌, Option, None, Some, length, Contains}
use Rattle.std.specs.List.{filter_map, list_any, list_all}
use Rattle.kt_tuple.specs.declared.node.NodeId.{NodeId}
use Rattle.kt_tuple.specs.declared.service.Service.{Service}
use Rattle.kt_history.specs.declared.note.What.{What}
use Rattle.kt_history.specs.declared.note.What.TheVariants as whats
use Rattle.kt_history.specs.declared.note.Act.{Act}
use Rattle.kt_history.specs.declared.note.Note.{Note}
use Rattle.kt_history.specs.declared.note.Note.TheVariants as notes
use Rattle.kt_history.specs.Log.{note_at, before, log}
use Rattle.kt_history.specs.Past.{InPast}

-- the act e is remembered: it stands in some node's log
abbrev pub Stands : List Note → ℕ → Type 0
Stands h e = (p : NodeId) × Contains (log h p) e

-- e stands in no log: of an act that was made, a cut took it out of its log. A number that names no act, and that of
-- a cut, stand in none either; but these are in no act's past.
abbrev pub IsLost : List Note → ℕ → Type 0
IsLost h e = ¬ Stands h e

-- nothing in the past of f is lost
abbrev pub Survives : List Note → ℕ → Type 0
Survives h f = (e : ℕ) → InPast h e f → ¬ IsLost h e

-- the act of this number stands in its node's log: a test that computes
abbrev pub note_stands : List Note → ℕ → Option Note → Bool
note_stands h n None = false
note_stands h n (Some (notes.Act a)) = list_any (λ m. m == n) (log h a.node)
note_stands h n (Some (notes.Cut p keep)) = false

-- the acts one step back in the past: those in the log before it, and its cause
abbrev pub note_causes : List Note → ℕ → Option Note → List ℕ
note_causes h n None = []
note_causes h n (Some (notes.Act a)) = if a.by == 0 then log (before h n) a.node else a.by ∷ log (before h n) a.node
note_causes h n (Some (notes.Cut p keep)) = []

-- whether the act n stands, and all acts less than so many steps back in its past
unfoldable pub stands_back : List Note → ℕ → ℕ → Bool
stands_back h zero n = true
stands_back h (suc steps) n =
    note_stands h n (note_at h n) && list_all (stands_back h steps) (note_causes h n (note_at h n))

-- whether n survives: a test that computes, since each step back goes to a smaller number
unfoldable pub survives : List Note → ℕ → Bool
survives h n = stands_back h (suc n) n

-- the service that an act is, if it is one
abbrev pub service_of : Act → What → Option Service
service_of a (whats.Served answer) = Some (record { worker = a.worker; number = a.number; op = a.op; answer = answer })
service_of a _ = None

-- the service that a note is, if it is one
abbrev pub note_service : Note → Option Service
note_service (notes.Act a) = service_of a a.what
note_service (notes.Cut p keep) = None

abbrev pub is_served : What → Bool
is_served (whats.Served answer) = true
is_served _ = false

-- whether the note is a service
abbrev pub is_service : Note → Bool
is_service (notes.Act a) = is_served a.what
is_service (notes.Cut p keep) = false

-- the services among these acts
abbrev pub services_of : List Act → List Service
services_of acts = filter_map (λ a. service_of a a.what) acts

-- the marked acts by rising number, of notes the first of which has the number n
unfoldable pub marked_from : (ℕ → Bool) → ℕ → List Note → List Act
marked_from marks n [] = []
marked_from marks n (notes.Act a ∷ later) =
    if marks n then (a ∷ marked_from marks (suc n) later) else marked_from marks (suc n) later
marked_from marks n (notes.Cut p keep ∷ later) = marked_from marks (suc n) later

-- the marked acts by rising number
abbrev pub marked_acts : (ℕ → Bool) → List Note → List Act
marked_acts marks h = marked_from marks 1 h

-- the surviving services by rising number
unfoldable pub services : List Note → List Service
services h = services_of (marked_acts (survives h) h)

-- these are the services of the acts that survive, by rising number
pub record AreSurvivors (h : List Note) (found : List Service) : Type 0 where
  pub marks : ℕ → Bool
  pub marked : (n : ℕ) → IsTrue (marks n) ↔ Survives h n
  pub are : found ≡ services_of (marked_acts marks h)

-- so many services are of acts that do not survive
pub record IsLostCount (h : List Note) (count : ℕ) : Type 0 where
  pub marks : ℕ → Bool
  pub marked : (n : ℕ) → IsTrue (marks n) ↔ Survives h n
  pub is : count ≡ length (services_of (marked_acts (λ n. not (marks n)) h))

-- how many services do not survive
unfoldable pub lost_count : List Note → ℕ
lost_count h = length (services_of (marked_acts (λ n. not (survives h n)) h))
