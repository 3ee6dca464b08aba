-- What the code writes is what is due.
-- Cited by `Parts::carry_out`, `Parts::wait`, `Shard::serve`, `laws::a_shard_is_its_parts`,
--   `laws::services_are_steps_of_the_space`.
use Rattle.std.proofs.Common.{◌≡◌, ℕ, ◌<◌, List, Some, None, Ok, length, set, get_or, sym, ap, subst, ◌∙◌, arith}
use Rattle.std.proofs.lemmas.List.{get_or_default, same_lists}
use Rattle.kt_tuple.specs.declared.tuple.Tuple.{Tuple}
use Rattle.kt_shard.specs.declared.request.Request.{Request}
use Rattle.kt_shard.specs.declared.session.Session.{Session}
use Rattle.kt_shard.specs.Limits.{sessions as session_count}
use Rattle.kt_shard.specs.Session.{empty_session}
use Rattle.kt_shard.specs.Shard.{Shard, session_of}
use Rattle.kt_shard.specs.Table.{at}
use Rattle.kt_shard.specs.Arrival.{waiting_shard}
use Rattle.kt_shard.specs.Service.{Service, IsServed, cached_of, left_by, service, served}
use Rattle.kt_shard.proofs.Tables.{put_session, put_waiting, at-put_same, at-put_other}
use Rattle.kt_shard.proofs.Steps.{service-due, service-step}

abbrev shard_with : List Tuple → List Session → Shard
shard_with bag sessions = record { bag = bag; sessions = sessions }

same_shard : (a b : List Tuple) (d e : List Session) → a ≡ b → d ≡ e → shard_with a d ≡ shard_with b e
same_shard a b d e p q = ap (λ (x : List Tuple). shard_with x d) p ∙ ap (shard_with b) q

pub wait_written : (y s : Shard) (place worker : ℕ) (old new : Session) (request : Request) → y ≡ s → place ≡ worker → length y.sessions ≡ session_count
    → worker < session_count
    → old ≡ get_or y.sessions place old → new ≡ record { waiting = Some request; cached = old.cached }
    → shard_with y.bag (set y.sessions place new) ≡ waiting_shard s worker request
wait_written y s place worker old new request same at long lt was e =
    ap (shard_with y.bag) (put_waiting y.sessions place old new request (omega (arith, at, long, lt)) was e)
    ∙ ap (λ k. waiting_shard y k request) at ∙ ap (λ (x : Shard). waiting_shard x worker request) same

pub service_written : (y s : Shard) (p q : Service) (bag : List Tuple) (place worker : ℕ) (new : Session) → y ≡ s → p ≡ q → place ≡ worker
    → length y.sessions ≡ session_count → worker < session_count
    → bag ≡ left_by y.bag p.request.op p.place → new ≡ record { waiting = None; cached = Some (cached_of p) }
    → shard_with bag (set y.sessions place new) ≡ served s worker q
service_written y s p q bag place worker new same due at long lt left e =
    same_shard bag (left_by y.bag p.request.op p.place) (set y.sessions place new) _ left (put_session y.sessions place new _ (omega (arith, at, long, lt)) e)
    ∙ ap (λ k. served y k p) at ∙ ap (λ (x : Shard). served x worker p) same ∙ ap (served s worker) due

pub service-is : (y : Shard) (worker place : ℕ) (s : Service) → service y worker place ≡ Ok s → IsServed y worker (served y worker s)
service-is y worker place s e = record {
  cached = cached_of s;
  waited = (service-due y worker place s e).waited;
  step = service-step y worker place s e;
  session = at-put_same empty_session y.sessions worker _;
  others = λ v other. at-put_other empty_session y.sessions worker v _ other;
}

pub serve_done : (y between new : Shard) (worker place : ℕ) (s p : Service) → service y worker place ≡ Ok s → p ≡ s → between ≡ y
    → new ≡ served between worker p → IsServed y worker new
serve_done y between new worker place s p e due same is =
    subst (IsServed y worker) (sym (is ∙ ap (λ (x : Shard). served x worker p) same ∙ ap (served y worker) due)) (service-is y worker place s e)

pub parts-same : (y : Shard) (table : List Session) → length y.sessions ≡ session_count → length table ≡ session_count
    → ((k : ℕ) → k < session_count → at empty_session table k ≡ session_of y k) → shard_with y.bag table ≡ y
parts-same y table long as_long reads = ap (shard_with y.bag) (same_lists table y.sessions (as_long ∙ sym long) each)
  where
    each : (k : ℕ) (d : Session) → k < length table → get_or table k d ≡ get_or y.sessions k d
    each k d lt =
        get_or_default table k d empty_session lt ∙ reads k (omega (arith, lt, as_long))
        ∙ get_or_default y.sessions k empty_session d (omega (arith, lt, as_long, long))
