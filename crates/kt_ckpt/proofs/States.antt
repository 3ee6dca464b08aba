-- What a checkpoint holds of its node is a field.
-- Cited by Checkpoints, `entry::push_entries`.
use Rattle.std.proofs.Common.{◌≡◌, ℕ, ◌^◌, ◌<◌, ◌≤◌, Bool, true, false, List, [], ◌++◌, length, Option, Some, None, Result, refl, sym}
use Rattle.std.proofs.Common.{ap, subst, ◌∙◌, arith}
use Rattle.std.specs.Prelude.{All, IfSome}
use Rattle.std.specs.List.{flat_map}
use Rattle.std.specs.Int.{w16, w32, w64, to_be_bytes}
use Rattle.kt_tuple.specs.declared.value.Value.{Value}
use Rattle.kt_tuple.specs.declared.tuple.Tuple.{Tuple}
use Rattle.kt_tuple.specs.declared.op.Op.{Op}
use Rattle.kt_tuple.specs.declared.op.Answer.{Answer}
use Rattle.kt_tuple.specs.Valid.{IsValue}
use Rattle.kt_ckpt.specs.declared.error.CkptError.{CkptError}
use Rattle.kt_shard.specs.declared.request.Request.{Request}
use Rattle.kt_shard.specs.declared.request.CachedReply.{CachedReply}
use Rattle.kt_ckpt.specs.Fields.{WorkerFields, worker_of, ShardFields}
use Rattle.kt_script.specs.declared.script.TheConstants.{MAX_COMMANDS, MAX_VARIABLES}
use Rattle.kt_tuple.specs.declared.node.TheConstants.{MAX_WORKERS}
use Rattle.kt_ckpt.specs.Reading.{◌>>=◌, made, number_at, list_at, rising_at, IsRising}
use Rattle.kt_ckpt.specs.Tuple.{IsTuple, tuple_bytes, tuple_at}
use Rattle.kt_ckpt.specs.Op.{IsOp, op_bytes, op_at, answer_bytes, answer_at}
use Rattle.kt_ckpt.specs.Flag.{flag_bytes, flag_at}
use Rattle.kt_ckpt.specs.State.{IsWorker, asked_bytes, variables_bytes, worker_bytes, pc_at, asked_behind, asked_at, variables_at, worker_at}
use Rattle.kt_ckpt.specs.State.{IsRequest, IsCached, IsShard, bag_bytes, request_bytes, cached_bytes, entry_bytes, entries_bytes, shard_bytes, bag_at}
use Rattle.kt_ckpt.specs.State.{request_at}
use Rattle.kt_ckpt.specs.State.{cached_at, entries_at, shard_at}
use Rattle.kt_ckpt.proofs.Field.{IsField, Lasts}
use Rattle.kt_ckpt.proofs.Combined.{known, known_lasts, same_field, behind, behind_lasts, made_field, made_lasts}
use Rattle.kt_ckpt.proofs.Primitive.{byte_within_field, byte_within_lasts, within_field, within_lasts, wide16, wide32, wide64, number_field, number_lasts}
use Rattle.kt_ckpt.proofs.Primitive.{flag_field, flag_lasts, list_field, list_lasts, rising_field, rising_lasts, rising_len}
use Rattle.kt_ckpt.proofs.Values.{value_field, value_lasts}
use Rattle.kt_ckpt.proofs.Tuples.{counted_field, counted_lasts, tuple_field, tuple_lasts}
use Rattle.kt_ckpt.proofs.Ops.{op_field, op_lasts, answer_field, answer_lasts}

-- ---- a worker's fields

pc_field : IsField (λ n. to_be_bytes w16 n) (λ n. n ≤ MAX_COMMANDS) pc_at
unfolding pc_at
pc_field =
    let f = same_field (within_field 0 MAX_COMMANDS (λ n le. omega arith) (number_field w16 (2 ^ 16) wide16)) (λ n. to_be_bytes w16 n) (λ n. n ≤ MAX_COMMANDS)
    (λ n h. h.1) (λ n h. (omega arith, h)) (λ n h. refl) in
    record { again = f.again; takes = f.takes }

pc_lasts : Lasts pc_at
unfolding pc_at
pc_lasts = let l = within_lasts 0 MAX_COMMANDS (number_lasts w16) in record { goes_on = l.goes_on }

abbrev IsAsked : Option Op → Type 0
IsAsked a = IfSome a IsOp

abbrev has_op : Option Op → Bool
has_op None = false
has_op (Some op) = true

abbrev behind_flag : Option Op → List ℕ
behind_flag None = []
behind_flag (Some op) = op_bytes op

abbrev none_op : Option Op
none_op = None

abbrev some_op : Op → Option Op
some_op op = Some op

none_asked : (a : Option Op) → IsAsked a × (false ≡ has_op a) → None ≡ a
none_asked None h = refl
none_asked (Some op) h = let e : false ≡ true = h.1 in absurd cc

some_asked : (a : Option Op) → IsAsked a × (true ≡ has_op a) → (op : Op) × (IsOp op × (Some op ≡ a))
some_asked None h = let e : true ≡ false = h.1 in absurd cc
some_asked (Some op) h = (op, (h.0, refl))

asked_behind_field : (b : Bool) → IsField behind_flag (λ a. IsAsked a × (b ≡ has_op a)) (asked_behind b)
asked_behind_field false =
    let f = same_field (known None) behind_flag (λ a. IsAsked a × (false ≡ has_op a))
    (λ a e. subst (λ (a : Option Op). IsAsked a × (false ≡ has_op a)) e (tt, refl)) none_asked
    (λ a e. subst (λ (a : Option Op). [] ≡ behind_flag a) e refl) in
    record { again = f.again; takes = f.takes }
asked_behind_field true =
    let f = made_field op_field Some behind_flag (λ a. IsAsked a × (true ≡ has_op a)) (λ op h. refl) (λ op h. (h, refl)) some_asked in
    record { again = f.again; takes = f.takes }

asked_behind_lasts : (b : Bool) → Lasts (asked_behind b)
asked_behind_lasts false = let l = known_lasts (none_op) in record { goes_on = l.goes_on }
asked_behind_lasts true = let l = made_lasts some_op op_lasts in record { goes_on = l.goes_on }

asked_same : (a : Option Op) → flag_bytes (has_op a) ++ behind_flag a ≡ asked_bytes a
asked_same None = refl
asked_same (Some op) = refl

asked_field : IsField asked_bytes IsAsked asked_at
unfolding asked_at
asked_field =
    let f = same_field (behind flag_field has_op behind_flag IsAsked asked_behind (λ a h. tt) (λ b h. asked_behind_field b)) asked_bytes IsAsked (λ a h. h)
    (λ a h. h) (λ a h. asked_same a) in
    record { again = f.again; takes = f.takes }

asked_lasts : Lasts asked_at
unfolding asked_at
asked_lasts = let l = behind_lasts asked_behind flag_lasts asked_behind_lasts in record { goes_on = l.goes_on }

abbrev AreVariables : List Value → Type 0
AreVariables values = (length values ≤ MAX_VARIABLES) × All IsValue values

variables_field : IsField variables_bytes AreVariables variables_at
unfolding variables_at
variables_field =
    let f = same_field (counted_field value_field 0 MAX_VARIABLES (omega arith)) variables_bytes AreVariables (λ v h. (h.0.1, h.1))
    (λ v h. ((omega arith, h.0), h.1)) (λ v h. refl) in
    record { again = f.again; takes = f.takes }

variables_lasts : Lasts variables_at
unfolding variables_at
variables_lasts = let l = counted_lasts value_lasts 0 MAX_VARIABLES in record { goes_on = l.goes_on }

-- ---- a worker

worker_is : (pc number : ℕ) (was_none : Bool) (asked : Option Op) (w : WorkerFields) → pc ≡ w.pc → number ≡ w.number → was_none ≡ w.was_none
    → asked ≡ w.asked → worker_of pc number was_none asked w.variables ≡ w
worker_is pc number was_none asked w a b c d =
    ap (λ (p : ℕ). worker_of p number was_none asked w.variables) a ∙ ap (λ (n : ℕ). worker_of w.pc n was_none asked w.variables) b
    ∙ ap (λ (f : Bool). worker_of w.pc w.number f asked w.variables) c ∙ ap (λ (o : Option Op). worker_of w.pc w.number w.was_none o w.variables) d

abbrev with_asked : ℕ → ℕ → Bool → Option Op → List ℕ → Result (WorkerFields × List ℕ) CkptError
with_asked pc number was_none asked bytes = made (worker_of pc number was_none asked) (variables_at bytes)

abbrev with_flag : ℕ → ℕ → Bool → List ℕ → Result (WorkerFields × List ℕ) CkptError
with_flag pc number was_none bytes = asked_at bytes >>= λ asked. with_asked pc number was_none asked.0 asked.1

abbrev with_number : ℕ → ℕ → List ℕ → Result (WorkerFields × List ℕ) CkptError
with_number pc number bytes = flag_at bytes >>= λ was_none. with_flag pc number was_none.0 was_none.1

abbrev with_pc : ℕ → List ℕ → Result (WorkerFields × List ℕ) CkptError
with_pc pc bytes = number_at w64 bytes >>= λ number. with_number pc number.0 number.1

pub worker_field : IsField worker_bytes IsWorker worker_at
unfolding worker_at
worker_field =
    let f = behind pc_field (λ (w : WorkerFields). w.pc) (λ w. to_be_bytes w64
    w.number ++ (flag_bytes w.was_none ++ (asked_bytes w.asked ++ variables_bytes w.variables))) IsWorker with_pc (λ w h. h.pc)
    (λ pc hp. behind (number_field w64 (2 ^ 64) wide64) (λ (w : WorkerFields). w.number)
    (λ w. flag_bytes w.was_none ++ (asked_bytes w.asked ++ variables_bytes w.variables)) (λ w. IsWorker w × (pc ≡ w.pc)) (with_number pc)
    (λ w h. h.0.number)
    (λ n hn. behind flag_field (λ (w : WorkerFields). w.was_none) (λ w. asked_bytes w.asked ++ variables_bytes w.variables)
    (λ w. (IsWorker w × (pc ≡ w.pc)) × (n ≡ w.number)) (with_flag pc n) (λ w h. tt)
    (λ b hb. behind asked_field (λ (w : WorkerFields). w.asked) (λ w. variables_bytes w.variables)
    (λ w. ((IsWorker w × (pc ≡ w.pc)) × (n ≡ w.number)) × (b ≡ w.was_none)) (with_asked pc n b) (λ w h. h.0.0.0.asked)
    (λ a ha. made_field variables_field (worker_of pc n b a) (λ w. variables_bytes w.variables)
    (λ w. (((IsWorker w × (pc ≡ w.pc)) × (n ≡ w.number)) × (b ≡ w.was_none)) × (a ≡ w.asked)) (λ v hv. refl)
    (λ v hv. ((((record { pc = hp; number = hn; asked = ha; few = hv.0; variables = hv.1 }, refl), refl), refl), refl))
    (λ w h. (w.variables, ((h.0.0.0.0.few, h.0.0.0.0.variables), worker_is pc n b a w h.0.0.0.1 h.0.0.1 h.0.1 h.1))))))) in
    record { again = f.again; takes = f.takes }

pub worker_lasts : Lasts worker_at
unfolding worker_at
worker_lasts =
    let l = behind_lasts with_pc pc_lasts
    (λ pc. behind_lasts (with_number pc) (number_lasts w64)
    (λ n. behind_lasts (with_flag pc n) flag_lasts
    (λ b. behind_lasts (with_asked pc n b) asked_lasts
    (λ a. made_lasts (worker_of pc n b a) variables_lasts)))) in
    record { goes_on = l.goes_on }

-- ---- a shard's fields

abbrev IsBag : List Tuple → Type 0
IsBag tuples = (length tuples < 2 ^ 32) × All IsTuple tuples

bag_field : IsField bag_bytes IsBag bag_at
unfolding bag_at
bag_field =
    let f = behind (number_field w32 (2 ^ 32) wide32) (λ (ts : List Tuple). length ts) (λ ts. flat_map tuple_bytes ts) IsBag (list_at tuple_at) (λ ts h. h.0)
    (λ n h. same_field (list_field tuple_field n) (λ ts. flat_map tuple_bytes ts) (λ ts. IsBag ts × (n ≡ length ts))
    (λ ts g. ((subst (λ (k : ℕ). k < 2 ^ 32) (sym g.0) h, g.1), sym g.0)) (λ ts g. (sym g.1, g.0.1)) (λ ts g. refl)) in
    record { again = f.again; takes = f.takes }

bag_lasts : Lasts bag_at
unfolding bag_at
bag_lasts = let l = behind_lasts (list_at tuple_at) (number_lasts w32) (list_lasts tuple_lasts) in record { goes_on = l.goes_on }

abbrev request_of : ℕ → Op → Request
request_of number op = record { number = number; op = op }

abbrev request_with : ℕ → List ℕ → Result (Request × List ℕ) CkptError
request_with number bytes = made (request_of number) (op_at bytes)

request_field : IsField request_bytes IsRequest request_at
unfolding request_at
request_field =
    let f = behind (number_field w64 (2 ^ 64) wide64) (λ (r : Request). r.number) (λ r. op_bytes r.op) IsRequest request_with (λ r h. h.number)
    (λ n hn. made_field op_field (request_of n) (λ r. op_bytes r.op) (λ r. IsRequest r × (n ≡ r.number)) (λ op h. refl)
    (λ op h. (record { number = hn; op = h }, refl))
    (λ r h. (r.op, (h.0.op, ap (λ (m : ℕ). request_of m r.op) h.1)))) in
    record { again = f.again; takes = f.takes }

request_lasts : Lasts request_at
unfolding request_at
request_lasts = let l = behind_lasts request_with (number_lasts w64) (λ n. made_lasts (request_of n) op_lasts) in record { goes_on = l.goes_on }

abbrev cached_of : Request → Answer → CachedReply
cached_of request answer = record { request = request; answer = answer }

abbrev cached_with : Request → List ℕ → Result (CachedReply × List ℕ) CkptError
cached_with request bytes = made (cached_of request) (answer_at bytes)

cached_field : IsField cached_bytes IsCached cached_at
unfolding cached_at
cached_field =
    let f = behind request_field (λ (k : CachedReply). k.request) (λ k. answer_bytes k.answer) IsCached cached_with (λ k h. h.request)
    (λ r hr. made_field answer_field (cached_of r) (λ k. answer_bytes k.answer) (λ k. IsCached k × (r ≡ k.request)) (λ x h. refl)
    (λ x h. (record { request = hr; answer = h }, refl))
    (λ k h. (k.answer, (h.0.answer, ap (λ (m : Request). cached_of m k.answer) h.1)))) in
    record { again = f.again; takes = f.takes }

cached_lasts : Lasts cached_at
unfolding cached_at
cached_lasts = let l = behind_lasts cached_with request_lasts (λ r. made_lasts (cached_of r) answer_lasts) in record { goes_on = l.goes_on }

abbrev AreEntries : {X : Type 0} → (X → Type 0) → List (ℕ × X) → Type 0
AreEntries IsAllowed xs = IsRising 1 xs × All (λ x. IsAllowed x.1) xs

pub few_entries : {X : Type 0} (xs : List (ℕ × X)) → IsRising 1 xs → length xs ≤ MAX_WORKERS
few_entries xs h = omega (arith, rising_len 1 xs (omega arith) h)

entries_field : {X : Type 0} {spelled : X → List ℕ} {IsAllowed : X → Type 0} {read : List ℕ → Result (X × List ℕ) CkptError} → IsField spelled IsAllowed read
    → IsField (entries_bytes spelled) (AreEntries IsAllowed) (entries_at read)
unfolding entries_at
entries_field {X} {spelled} {IsAllowed} {read} f =
    let g = behind (byte_within_field 0 MAX_WORKERS (omega arith)) (λ (xs : List (ℕ × X)). length xs) (λ xs. flat_map (entry_bytes spelled) xs)
    (AreEntries IsAllowed) (rising_at read 1) (λ xs h. (omega arith, few_entries xs h.0))
    (λ n h. same_field (rising_field f 1 n) (λ xs. flat_map (entry_bytes spelled) xs) (λ xs. AreEntries IsAllowed xs × (n ≡ length xs))
    (λ xs g. (g.1, sym g.0)) (λ xs g. (sym g.1, g.0)) (λ xs g. refl)) in
    record { again = g.again; takes = g.takes }

entries_lasts : {X : Type 0} {read : List ℕ → Result (X × List ℕ) CkptError} → Lasts read → Lasts (entries_at read)
unfolding entries_at
entries_lasts {X} {read} l = let m = behind_lasts (rising_at read 1) (byte_within_lasts 0 MAX_WORKERS) (rising_lasts l 1) in record { goes_on = m.goes_on }

-- ---- a shard

abbrev shard_of : List Tuple → List (ℕ × Request) → List (ℕ × CachedReply) → ShardFields
shard_of bag waiting cached = record { bag = bag; waiting = waiting; cached = cached }

abbrev with_waiting : List Tuple → List (ℕ × Request) → List ℕ → Result (ShardFields × List ℕ) CkptError
with_waiting bag waiting bytes = made (shard_of bag waiting) (entries_at cached_at bytes)

abbrev with_bag : List Tuple → List ℕ → Result (ShardFields × List ℕ) CkptError
with_bag bag bytes = entries_at request_at bytes >>= λ waiting. with_waiting bag waiting.0 waiting.1

pub shard_field : IsField shard_bytes IsShard shard_at
unfolding shard_at
shard_field =
    let f = behind bag_field (λ (s : ShardFields). s.bag) (λ s. entries_bytes request_bytes s.waiting ++ entries_bytes cached_bytes s.cached) IsShard with_bag
    (λ s h. (h.few, h.bag))
    (λ bag hb. behind (entries_field request_field) (λ (s : ShardFields). s.waiting) (λ s. entries_bytes cached_bytes s.cached) (λ s. IsShard s × (bag ≡ s.bag))
    (with_waiting bag) (λ s h. (h.0.waiting_rises, h.0.waiting))
    (λ waiting hw. made_field (entries_field cached_field) (shard_of bag waiting) (λ s. entries_bytes cached_bytes s.cached)
    (λ s. (IsShard s × (bag ≡ s.bag)) × (waiting ≡ s.waiting)) (λ cached h. refl)
    (λ cached h. ((record { few = hb.0; bag = hb.1; waiting_rises = hw.0; waiting = hw.1; cached_rises = h.0; cached = h.1 }, refl), refl))
    (λ s h. (
      s.cached,
      (
        (h.0.0.cached_rises, h.0.0.cached),
        ap (λ (b : List Tuple). shard_of b waiting s.cached) h.0.1
            ∙ ap (λ (w : List (ℕ × Request)). shard_of s.bag w s.cached) h.1,
      ),
    )))) in
    record { again = f.again; takes = f.takes }

pub shard_lasts : Lasts shard_at
unfolding shard_at
shard_lasts =
    let l = behind_lasts with_bag bag_lasts
    (λ bag. behind_lasts (with_waiting bag) (entries_lasts request_lasts) (λ waiting. made_lasts (shard_of bag waiting) (entries_lasts cached_lasts))) in
    record { goes_on = l.goes_on }
