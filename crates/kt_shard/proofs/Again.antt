-- What is heard after a service, and after a hearing.
-- Cited by `laws::a_served_request_is_answered_again`, `laws::other_sessions_stay`.
use Rattle.std.proofs.Common.{◌≡◌, ◌≢◌, ℕ, ◌≤◌, true, Option, Some, None, refl, sym, ap, ◌∙◌, le_refl, le_trans}
use Rattle.std.proofs.Math.Nat.{le-max_left, le-max_right}
use Rattle.std.proofs.lemmas.Bool.{and_from, le-ltb}
use Rattle.std.specs.Cmp.{unsigned_Decides}
use Rattle.kt_tuple.specs.declared.op.Answer.{Answer}
use Rattle.kt_tuple.specs.Op.{op_eq_decides}
use Rattle.kt_shard.specs.declared.request.Request.{Request}
use Rattle.kt_shard.specs.declared.session.Session.{Session}
use Rattle.kt_shard.specs.Session.{empty_session, same_request, number_or_0, cached_request, newest, cached_answer}
use Rattle.kt_shard.specs.Shard.{Shard, session_of}
use Rattle.kt_shard.specs.Arrival.{Arrival, Waits, Again, Ignored, again_or_ignored, arrival_at, arrival, heard_as, heard}
use Rattle.kt_shard.specs.Service.{Service, cached_of, served}
use Rattle.kt_shard.proofs.Tables.{at-put_same, at-put_other}

same_request-refl : (r : Request) → same_request r r ≡ true
same_request-refl r = and_from _ _ ((unsigned_Decides r.number r.number).1 refl) ((op_eq_decides r.op r.op).1 refl)

-- a number that is not above all that were heard does not wait
old_number : (session : Session) (request : Request) → request.number ≤ newest session
    → arrival_at session request ≡ again_or_ignored (cached_answer session request)
old_number session request le = rw (le-ltb (newest session) request.number le) refl

not_waiting : (o : Option Answer) → again_or_ignored o ≢ Waits
not_waiting None e = absurd cc
not_waiting (Some answer) e = absurd cc

-- the session after a service
abbrev session_after : Service → Session
session_after s = record { waiting = None; cached = Some (cached_of s) }

pub served-session : (y : Shard) (worker : ℕ) (s : Service) → session_of (served y worker s) worker ≡ session_after s
served-session y worker s = at-put_same empty_session y.sessions worker (session_after s)

served-at : (y : Shard) (worker : ℕ) (s : Service) (request : Request) → arrival (served y worker s) worker request ≡ arrival_at (session_after s) request
served-at y worker s request = ap (λ (d : Session). arrival_at d request) (served-session y worker s)

served-old : (s : Service) (request : Request) → request.number ≤ s.request.number
    → arrival_at (session_after s) request ≡ again_or_ignored (cached_answer (session_after s) request)
served-old s request le = old_number (session_after s) request (le_trans le (le-max_right 0 s.request.number))

pub served-again : (y : Shard) (worker : ℕ) (s : Service) → arrival (served y worker s) worker s.request ≡ Again s.answer
served-again y worker s = served-at y worker s s.request ∙ served-old s s.request (le_refl s.request.number) ∙ cached
  where
    cached : again_or_ignored (cached_answer (session_after s) s.request) ≡ Again s.answer
    cached = rw (same_request-refl s.request) refl

pub served-heard : (y : Shard) (worker : ℕ) (s : Service) → heard (served y worker s) worker s.request ≡ served y worker s
served-heard y worker s = ap (λ (a : Arrival). heard_as a (served y worker s) worker s.request) (served-again y worker s)

pub served-never_waits : (y : Shard) (worker : ℕ) (s : Service) (request : Request) → request.number ≤ s.request.number
    → arrival (served y worker s) worker request ≢ Waits
served-never_waits y worker s request le e =
    not_waiting (cached_answer (session_after s) request) (sym (served-old s request le) ∙ sym (served-at y worker s request) ∙ e)

-- the session after a hearing
abbrev session_waiting : Request → Session → Session
session_waiting request session = record { waiting = Some request; cached = session.cached }

pub heard-waits_once : (y : Shard) (worker : ℕ) (request : Request) → arrival y worker request ≡ Waits
    → arrival (heard y worker request) worker request ≡ Ignored
heard-waits_once y worker request e =
    ap (λ (a : Arrival). arrival (heard_as a y worker request) worker request) e
    ∙ ap (λ (d : Session). arrival_at d request) (at-put_same empty_session y.sessions worker (session_waiting request (session_of y worker)))
    ∙ old_number (session_waiting request (session_of y worker)) request
    (le-max_left request.number (number_or_0 (cached_request (session_of y worker).cached)))

-- the others
pub heard-others : (y : Shard) (worker v : ℕ) (request : Request) → v ≢ worker → session_of (heard y worker request) v ≡ session_of y v
heard-others y worker v request other = by (arrival y worker request)
  where
    by : (a : Arrival) → session_of (heard_as a y worker request) v ≡ session_of y v
    by Waits = at-put_other empty_session y.sessions worker v (session_waiting request (session_of y worker)) other
    by (Again answer) = refl
    by Ignored = refl

pub heard-tuples : (y : Shard) (worker : ℕ) (request : Request) → (heard y worker request).bag ≡ y.bag
heard-tuples y worker request = by (arrival y worker request)
  where
    by : (a : Arrival) → (heard_as a y worker request).bag ≡ y.bag
    by Waits = refl
    by (Again answer) = refl
    by Ignored = refl
