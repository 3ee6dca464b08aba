-- The state of a node in the bytes of format 1.
-- Cited by OldCheckpoints.
use Rattle.std.proofs.Common.{◌≡◌, ℕ, ◌^◌, ◌<◌, ◌≤◌, Bool, true, ◌&&◌, List, ◌++◌, length, Option, Some, None, Result, refl, sym}
use Rattle.std.proofs.Common.{ap, subst, ◌∙◌, arith}
use Rattle.std.specs.Prelude.{All, IfSome}
use Rattle.std.specs.List.{flat_map, list_all}
use Rattle.std.specs.Int.{w32, w64}
use Rattle.std.proofs.lemmas.Bool.{and_parts, and_from}
use Rattle.std.proofs.lemmas.List.Elements.{All-weaker}
use Rattle.kt_tuple.specs.declared.node.NodeId.{NodeId}
use Rattle.kt_tuple.specs.declared.node.NodeId.TheVariants.{Worker, Shard}
use Rattle.kt_tuple.specs.declared.tuple.Tuple.{Tuple}
use Rattle.kt_tuple.specs.declared.op.Op.{Op}
use Rattle.kt_tuple.specs.declared.op.Answer.{Answer}
use Rattle.kt_tuple.specs.Valid.{IsValue}
use Rattle.kt_ckpt.specs.declared.error.CkptError.{CkptError}
use Rattle.kt_ckpt.specs.declared.old_limits.TheConstants.{OLD_WORKERS}
use Rattle.kt_ckpt.specs.declared.state.State.{State}
use Rattle.kt_ckpt.specs.declared.state.State.TheVariants as states
use Rattle.kt_shard.specs.declared.request.Request.{Request}
use Rattle.kt_shard.specs.declared.request.CachedReply.{CachedReply}
use Rattle.kt_ckpt.specs.Checkpoint.{Suits, IsState, state_bytes}
use Rattle.kt_ckpt.specs.Fields.{WorkerFields, ShardFields}
use Rattle.kt_ckpt.specs.OldLimits.{is_old_answer, is_old_asked, is_old_entry, is_old_cached, is_old_request, is_old_shard, is_old_state}
use Rattle.kt_ckpt.specs.OldLimits.{is_old_tuple, is_old_value, is_old_worker}
use Rattle.kt_ckpt.specs.OldParts.{old_tuple_at, old_op_at, old_answer_at}
use Rattle.kt_ckpt.specs.OldState.{old_bag_at, old_request_at, old_cached_at}
use Rattle.kt_ckpt.specs.OldState.{old_rising_at, old_entries_at, old_shard_at, old_state_at}
use Rattle.kt_ckpt.specs.Op.{IsOp, op_bytes, answer_bytes}
use Rattle.kt_ckpt.specs.Reading.{◌>>=◌, made, list_at}
use Rattle.kt_ckpt.specs.State.{IsWorker, IsRequest, IsCached, IsShard, bag_bytes, request_bytes}
use Rattle.kt_ckpt.specs.State.{cached_bytes, entry_bytes, entries_bytes, shard_bytes}
use Rattle.kt_ckpt.specs.Tuple.{IsTuple, tuple_bytes}
use Rattle.kt_ckpt.proofs.Field.{IsField, Lasts}
use Rattle.kt_ckpt.proofs.Combined.{same_field, behind, behind_lasts, made_field, made_lasts}
use Rattle.kt_ckpt.proofs.OldFields.{IsOldTuple, all_pass, passes_all, old_tuple_field, old_tuple_lasts}
use Rattle.kt_ckpt.proofs.OldOps.{IsOldOp, IsOldAnswer, old_op_field, old_op_lasts, old_answer_field, old_answer_lasts}
use Rattle.kt_ckpt.proofs.OldRising.{IsOldOne, IsOldRising, now_to_old, old_to_now, old_rising_field, old_rising_lasts, old_rising_len}
use Rattle.kt_ckpt.proofs.Primitive.{byte_within_field, byte_within_lasts, wide32, wide64, number_field, number_lasts}
use Rattle.kt_ckpt.proofs.Primitive.{list_field, list_lasts}
use Rattle.kt_ckpt.proofs.OldWorkers.{IsOldAsked, old_worker_field, old_worker_lasts, IsOldWorker}

-- ---- a shard's fields

abbrev IsOldBag : List Tuple → Type 0
IsOldBag tuples = (length tuples < 2 ^ 32) × All IsOldTuple tuples

old_bag_field : IsField bag_bytes IsOldBag old_bag_at
unfolding old_bag_at
old_bag_field =
    let f = behind (number_field w32 (2 ^ 32) wide32) (λ (ts : List Tuple). length ts) (λ ts. flat_map tuple_bytes ts) IsOldBag
    (list_at old_tuple_at) (λ ts h. h.0)
    (λ n h. same_field (list_field old_tuple_field n) (λ ts. flat_map tuple_bytes ts) (λ ts. IsOldBag ts × (n ≡ length ts))
    (λ ts g. ((subst (λ (k : ℕ). k < 2 ^ 32) (sym g.0) h, g.1), sym g.0)) (λ ts g. (sym g.1, g.0.1)) (λ ts g. refl)) in
    record { again = f.again; takes = f.takes }

old_bag_lasts : Lasts old_bag_at
unfolding old_bag_at
old_bag_lasts = let l = behind_lasts (list_at old_tuple_at) (number_lasts w32) (list_lasts old_tuple_lasts) in record { goes_on = l.goes_on }

record IsOldRequest (r : Request) : Type 0 where
  number : r.number < 2 ^ 64
  op : IsOldOp r.op

record IsOldCached (k : CachedReply) : Type 0 where
  request : IsOldRequest k.request
  answer : IsOldAnswer k.answer

abbrev request_of : ℕ → Op → Request
request_of number op = record { number = number; op = op }

abbrev request_with : ℕ → List ℕ → Result (Request × List ℕ) CkptError
request_with number bytes = made (request_of number) (old_op_at bytes)

old_request_field : IsField request_bytes IsOldRequest old_request_at
unfolding old_request_at
old_request_field =
    let f = behind (number_field w64 (2 ^ 64) wide64) (λ (r : Request). r.number) (λ r. op_bytes r.op) IsOldRequest request_with (λ r h. h.number)
    (λ n hn. made_field old_op_field (request_of n) (λ r. op_bytes r.op) (λ r. IsOldRequest r × (n ≡ r.number)) (λ op h. refl)
    (λ op h. (record { number = hn; op = h }, refl))
    (λ r h. (r.op, (h.0.op, ap (λ (m : ℕ). request_of m r.op) h.1)))) in
    record { again = f.again; takes = f.takes }

old_request_lasts : Lasts old_request_at
unfolding old_request_at
old_request_lasts = let l = behind_lasts request_with (number_lasts w64) (λ n. made_lasts (request_of n) old_op_lasts) in record { goes_on = l.goes_on }

abbrev cached_of : Request → Answer → CachedReply
cached_of request answer = record { request = request; answer = answer }

abbrev cached_with : Request → List ℕ → Result (CachedReply × List ℕ) CkptError
cached_with request bytes = made (cached_of request) (old_answer_at bytes)

old_cached_field : IsField cached_bytes IsOldCached old_cached_at
unfolding old_cached_at
old_cached_field =
    let f = behind old_request_field (λ (k : CachedReply). k.request) (λ k. answer_bytes k.answer) IsOldCached cached_with (λ k h. h.request)
    (λ r hr. made_field old_answer_field (cached_of r) (λ k. answer_bytes k.answer) (λ k. IsOldCached k × (r ≡ k.request)) (λ x h. refl)
    (λ x h. (record { request = hr; answer = h }, refl))
    (λ k h. (k.answer, (h.0.answer, ap (λ (m : Request). cached_of m k.answer) h.1)))) in
    record { again = f.again; takes = f.takes }

old_cached_lasts : Lasts old_cached_at
unfolding old_cached_at
old_cached_lasts = let l = behind_lasts cached_with old_request_lasts (λ r. made_lasts (cached_of r) old_answer_lasts) in record { goes_on = l.goes_on }

abbrev AreEntries : {X : Type 0} → (X → Type 0) → List (ℕ × X) → Type 0
AreEntries IsAllowed xs = IsOldRising 1 xs × All (λ x. IsAllowed x.1) xs

few_old_entries : {X : Type 0} (xs : List (ℕ × X)) → IsOldRising 1 xs → length xs ≤ OLD_WORKERS
few_old_entries xs h = omega (arith, old_rising_len 1 xs (omega arith) h)

old_entries_field : {X : Type 0} {spelled : X → List ℕ} {IsAllowed : X → Type 0} {read : List ℕ → Result (X × List ℕ) CkptError}
    → IsField spelled IsAllowed read
    → IsField (entries_bytes spelled) (AreEntries IsAllowed) (old_entries_at read)
unfolding old_entries_at
old_entries_field {X} {spelled} {IsAllowed} {read} f =
    let g = behind (byte_within_field 0 OLD_WORKERS (omega arith)) (λ (xs : List (ℕ × X)). length xs) (λ xs. flat_map (entry_bytes spelled) xs)
    (AreEntries IsAllowed) (old_rising_at read 1) (λ xs h. (omega arith, few_old_entries xs h.0))
    (λ n h. same_field (old_rising_field f 1 n) (λ xs. flat_map (entry_bytes spelled) xs) (λ xs. AreEntries IsAllowed xs × (n ≡ length xs))
    (λ xs g. (g.1, sym g.0)) (λ xs g. (sym g.1, g.0)) (λ xs g. refl)) in
    record { again = g.again; takes = g.takes }

old_entries_lasts : {X : Type 0} {read : List ℕ → Result (X × List ℕ) CkptError} → Lasts read → Lasts (old_entries_at read)
unfolding old_entries_at
old_entries_lasts {X} {read} l =
    let m = behind_lasts (old_rising_at read 1) (byte_within_lasts 0 OLD_WORKERS) (old_rising_lasts l 1) in
    record { goes_on = m.goes_on }

-- what of a shard format 1 spells
record IsOldShard (s : ShardFields) : Type 0 where
  few : length s.bag < 2 ^ 32
  bag : All IsOldTuple s.bag
  waiting_rises : IsOldRising 1 s.waiting
  waiting : All (λ x. IsOldRequest x.1) s.waiting
  cached_rises : IsOldRising 1 s.cached
  cached : All (λ x. IsOldCached x.1) s.cached

-- ---- a shard

abbrev shard_of : List Tuple → List (ℕ × Request) → List (ℕ × CachedReply) → ShardFields
shard_of bag waiting cached = record { bag = bag; waiting = waiting; cached = cached }

abbrev with_waiting : List Tuple → List (ℕ × Request) → List ℕ → Result (ShardFields × List ℕ) CkptError
with_waiting bag waiting bytes = made (shard_of bag waiting) (old_entries_at old_cached_at bytes)

abbrev with_bag : List Tuple → List ℕ → Result (ShardFields × List ℕ) CkptError
with_bag bag bytes = old_entries_at old_request_at bytes >>= λ waiting. with_waiting bag waiting.0 waiting.1

old_shard_field : IsField shard_bytes IsOldShard old_shard_at
unfolding old_shard_at
old_shard_field =
    let f = behind old_bag_field (λ (s : ShardFields). s.bag) (λ s. entries_bytes request_bytes s.waiting ++ entries_bytes cached_bytes s.cached)
    IsOldShard with_bag (λ s h. (h.few, h.bag))
    (λ bag hb. behind (old_entries_field old_request_field) (λ (s : ShardFields). s.waiting) (λ s. entries_bytes cached_bytes s.cached)
    (λ s. IsOldShard s × (bag ≡ s.bag)) (with_waiting bag) (λ s h. (h.0.waiting_rises, h.0.waiting))
    (λ waiting hw. made_field (old_entries_field old_cached_field) (shard_of bag waiting) (λ s. entries_bytes cached_bytes s.cached)
    (λ s. (IsOldShard s × (bag ≡ s.bag)) × (waiting ≡ s.waiting)) (λ cached h. refl)
    (λ cached h. ((record { few = hb.0; bag = hb.1; waiting_rises = hw.0; waiting = hw.1; cached_rises = h.0; cached = h.1 }, refl), refl))
    (λ s h. (
      s.cached,
      (
        (h.0.0.cached_rises, h.0.0.cached),
        ap (λ (b : List Tuple). shard_of b waiting s.cached) h.0.1
            ∙ ap (λ (w : List (ℕ × Request)). shard_of s.bag w s.cached) h.1,
      ),
    )))) in
    record { again = f.again; takes = f.takes }

old_shard_lasts : Lasts old_shard_at
unfolding old_shard_at
old_shard_lasts =
    let l = behind_lasts with_bag old_bag_lasts
    (λ bag. behind_lasts (with_waiting bag) (old_entries_lasts old_request_lasts)
    (λ waiting. made_lasts (shard_of bag waiting) (old_entries_lasts old_cached_lasts))) in
    record { goes_on = l.goes_on }

-- ---- what has a spelling now, and that format 1 can hold

asked_to : (a : Option Op) → IsOldAsked a → IfSome a IsOp × (is_old_asked a ≡ true)
asked_to None h = (tt, refl)
asked_to (Some op) h = h

asked_from : (a : Option Op) → IfSome a IsOp → is_old_asked a ≡ true → IsOldAsked a
asked_from None h p = tt
asked_from (Some op) h p = (h, p)

abbrev Passes : {X : Type 0} → (X → Type 0) → (X → Bool) → X → Type 0
Passes Is test x = Is x × (test x ≡ true)

worker_to : (w : WorkerFields) → IsOldWorker w → Passes IsWorker is_old_worker w
worker_to w h =
    let a = asked_to w.asked h.asked in
    let v = all_pass IsValue is_old_value w.variables h.variables in
    (record { pc = h.pc; number = h.number; asked = a.0; few = h.few; variables = v.0 }, and_from _ _ a.1 v.1)

worker_from : (w : WorkerFields) → Passes IsWorker is_old_worker w → IsOldWorker w
worker_from w h =
    let parts = and_parts (is_old_asked w.asked) (list_all is_old_value w.variables) h.1 in
    record {
      pc = h.0.pc;
      number = h.0.number;
      asked = asked_from w.asked h.0.asked parts.0;
      few = h.0.few;
      variables = passes_all IsValue is_old_value w.variables h.0.variables parts.1;
    }

request_to : (r : Request) → IsOldRequest r → Passes IsRequest is_old_request r
request_to r h = (record { number = h.number; op = h.op.0 }, h.op.1)

request_from : (r : Request) → Passes IsRequest is_old_request r → IsOldRequest r
request_from r h = record { number = h.0.number; op = (h.0.op, h.1) }

cached_to : (k : CachedReply) → IsOldCached k → Passes IsCached is_old_cached k
cached_to k h =
    let r = request_to k.request h.request in
    (record { request = r.0; answer = h.answer.0 }, and_from _ _ r.1 h.answer.1)

cached_from : (k : CachedReply) → Passes IsCached is_old_cached k → IsOldCached k
cached_from k h =
    let parts = and_parts (is_old_request k.request) (is_old_answer k.answer) h.1 in
    record { request = request_from k.request (h.0.request, parts.0); answer = (h.0.answer, parts.1) }

shard_to : (s : ShardFields) → IsOldShard s → Passes IsShard is_old_shard s
shard_to s h =
    let bag = all_pass IsTuple is_old_tuple s.bag h.bag in
    let waiting = old_to_now IsRequest is_old_request 1 s.waiting h.waiting_rises
    (All-weaker (λ (x : ℕ × Request). IsOldRequest x.1) (IsOldOne IsRequest is_old_request) (λ x g. request_to x.1 g) s.waiting h.waiting) in
    let cached = old_to_now IsCached is_old_cached 1 s.cached h.cached_rises
    (All-weaker (λ (x : ℕ × CachedReply). IsOldCached x.1) (IsOldOne IsCached is_old_cached) (λ x g. cached_to x.1 g) s.cached h.cached) in (
      record { few = h.few; bag = bag.0; waiting_rises = waiting.0; waiting = waiting.1.0; cached_rises = cached.0; cached = cached.1.0 },
      and_from _ _ bag.1 (and_from _ _ waiting.1.1 cached.1.1),
    )

shard_from : (s : ShardFields) → Passes IsShard is_old_shard s → IsOldShard s
shard_from s h =
    let waiting_too = list_all (is_old_entry is_old_request) s.waiting && list_all (is_old_entry is_old_cached) s.cached in
    let parts = and_parts (list_all is_old_tuple s.bag) waiting_too h.1 in
    let more = and_parts (list_all (is_old_entry is_old_request) s.waiting) (list_all (is_old_entry is_old_cached) s.cached) parts.1 in
    let waiting = now_to_old IsRequest is_old_request 1 s.waiting h.0.waiting_rises h.0.waiting more.0 in
    let cached = now_to_old IsCached is_old_cached 1 s.cached h.0.cached_rises h.0.cached more.1 in
    record {
      few = h.0.few;
      bag = passes_all IsTuple is_old_tuple s.bag h.0.bag parts.0;
      waiting_rises = waiting.0;
      waiting = All-weaker (IsOldOne IsRequest is_old_request) (λ (x : ℕ × Request). IsOldRequest x.1) (λ x g. request_from x.1 g) s.waiting waiting.1;
      cached_rises = cached.0;
      cached = All-weaker (IsOldOne IsCached is_old_cached) (λ (x : ℕ × CachedReply). IsOldCached x.1) (λ x g. cached_from x.1 g) s.cached cached.1;
    }

-- ---- the state of a node

abbrev pub IsOldStateOf : NodeId → State → Type 0
IsOldStateOf n s = Suits n s × (IsState s × (is_old_state s ≡ true))

old_worker_state : (i : ℕ) → (s : State) → IsOldStateOf (Worker i) s → (w : WorkerFields) × (IsOldWorker w × (states.Worker w ≡ s))
old_worker_state i (states.Worker w) h = (w, (worker_from w h.1, refl))
old_worker_state i (states.Shard s) h = absurd h.0

old_shard_state : (i : ℕ) → (s : State) → IsOldStateOf (Shard i) s → (w : ShardFields) × (IsOldShard w × (states.Shard w ≡ s))
old_shard_state i (states.Worker w) h = absurd h.0
old_shard_state i (states.Shard s) h = (s, (shard_from s h.1, refl))

pub old_state_field : (n : NodeId) → IsField state_bytes (IsOldStateOf n) (old_state_at n)
unfolding old_state_at
old_state_field (Worker i) =
    let f = made_field old_worker_field states.Worker state_bytes (IsOldStateOf (Worker i)) (λ w h. refl) (λ w h. (tt, worker_to w h)) (old_worker_state i) in
    record { again = f.again; takes = f.takes }
old_state_field (Shard i) =
    let f = made_field old_shard_field states.Shard state_bytes (IsOldStateOf (Shard i)) (λ s h. refl) (λ s h. (tt, shard_to s h)) (old_shard_state i) in
    record { again = f.again; takes = f.takes }

pub old_state_lasts : (n : NodeId) → Lasts (old_state_at n)
unfolding old_state_at
old_state_lasts (Worker i) = let l = made_lasts states.Worker old_worker_lasts in record { goes_on = l.goes_on }
old_state_lasts (Shard i) = let l = made_lasts states.Shard old_shard_lasts in record { goes_on = l.goes_on }
