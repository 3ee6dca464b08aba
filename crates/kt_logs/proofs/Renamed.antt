-- A log is one that its node may make whatever numbers its causes have, as long as causes that were the same stay so.
-- Cited by SameServices; other crates.
use Rattle.std.proofs.Common.{◌≡◌, ℕ, Bool, true, false, if◌then◌else◌, ◌==◌, List, [], ◌∷◌, Option, Some, None, sym, refl, ap, ◌∙◌, subst}
use Rattle.kt_tuple.specs.declared.tuple.Tuple.{Tuple}
use Rattle.kt_tuple.specs.declared.node.NodeId.{NodeId}
use Rattle.kt_tuple.specs.declared.node.NodeId.TheVariants as nodes
use Rattle.kt_tuple.specs.declared.op.Op.{Op}
use Rattle.kt_tuple.specs.declared.op.Answer.{Answer}
use Rattle.kt_tuple.specs.Signature.{kinds_of_op, shard_of}
use Rattle.kt_tuple.specs.Space.{SpaceStep}
use Rattle.kt_history.specs.declared.note.Act.{Act}
use Rattle.kt_history.specs.declared.note.What.{What}
use Rattle.kt_history.specs.declared.note.What.TheVariants as whats
use Rattle.kt_shard.specs.declared.request.Request.{Request}
use Rattle.kt_shard.specs.declared.session.Session.{Session}
use Rattle.kt_logs.specs.Bag.{served_bag}
use Rattle.kt_logs.specs.Order.{Setting}
use Rattle.kt_logs.specs.ShardLog.{MadeShard, Hears, AnswersAgain, Ignores, ShardMay, ShardMakes, ShardLog}
use Rattle.kt_logs.specs.ShardLog.{request_of, session_after, bag_after, cause_after, put_row, shard_after, shard_of_acts, new_shard}
use Rattle.kt_logs.specs.WorkerLog.{MadeWorker, Awaits, WorkerMay, WorkerMakes, WorkerLog, worker_after_what, worker_after, worker_of_acts, new_worker}
use Rattle.kt_logs.specs.Legal.{IsLog}

-- b is the act a, with a cause whose number is related to that of a
pub record IsAs (R : ℕ → ℕ → Type 0) (a b : Act) : Type 0 where
  pub worker : a.worker ≡ b.worker
  pub number : a.number ≡ b.number
  pub op : a.op ≡ b.op
  pub what : a.what ≡ b.what
  pub by : R a.by b.by

-- so are these acts, one by one
abbrev pub AreAs : (ℕ → ℕ → Type 0) → List Act → List Act → Type 0
AreAs R [] [] = Unit {0}
AreAs R [] (b ∷ ys) = ⊥
AreAs R (a ∷ xs) [] = ⊥
AreAs R (a ∷ xs) (b ∷ ys) = IsAs R a b × AreAs R xs ys

same_request : (R : ℕ → ℕ → Type 0) (a b : Act) → IsAs R a b → request_of a ≡ request_of b
same_request R a b same = cc

-- ---- workers

may_worker : (asks : List Answer → Option Op) (x : MadeWorker) (a b : Act) (what : What) → a.number ≡ b.number → a.op ≡ b.op → WorkerMay asks x a what
    → WorkerMay asks x b what
may_worker asks x a b whats.Issue number op may = (may.0, sym number ∙ may.1, may.2 ∙ ap Some op)
may_worker asks x a b whats.Repeat number op may = (sym number ∙ may.0, may.1 ∙ ap Some op)
may_worker asks x a b (whats.Accepted answer) number op may = (sym number ∙ may.0, may.1 ∙ ap Some op)
may_worker asks x a b (whats.Ignored (Some answer)) number op may = λ awaits. may (number ∙ awaits.0, awaits.1 ∙ ap Some (sym op))
may_worker asks x a b (whats.Ignored None) number op may = may
may_worker asks x a b whats.Heard number op may = may
may_worker asks x a b (whats.Served answer) number op may = may
may_worker asks x a b (whats.Again answer) number op may = may

after_worker : (x : MadeWorker) (a b : Act) (what : What) → a.op ≡ b.op → worker_after_what x a what ≡ worker_after_what x b what
after_worker x a b whats.Issue op = ap (λ o. record { answers = x.answers; asked = Some o }) op
after_worker x a b whats.Repeat op = refl
after_worker x a b (whats.Accepted answer) op = refl
after_worker x a b (whats.Ignored answer) op = refl
after_worker x a b whats.Heard op = refl
after_worker x a b (whats.Served answer) op = refl
after_worker x a b (whats.Again answer) op = refl

module _ (R : ℕ → ℕ → Type 0) where
  after_same : (x : MadeWorker) (a b : Act) → IsAs R a b → worker_after x a ≡ worker_after x b
  after_same x a b same = after_worker x a b a.what same.op ∙ ap (worker_after_what x b) same.what

  makes_same : (asks : List Answer → Option Op) (w : ℕ) (x : MadeWorker) (a b : Act) → IsAs R a b → WorkerMakes asks w x a → WorkerMakes asks w x b
  makes_same asks w x a b same makes =
      (sym same.worker ∙ makes.0, subst (WorkerMay asks x b) same.what (may_worker asks x a b a.what same.number same.op makes.1))

  pub worker-as : (x : MadeWorker) (xs ys : List Act) → AreAs R xs ys → worker_of_acts x xs ≡ worker_of_acts x ys
  worker-as x [] [] same = refl
  worker-as x [] (b ∷ ys) same = absurd same
  worker-as x (a ∷ xs) [] same = absurd same
  worker-as x (a ∷ xs) (b ∷ ys) same =
      ap (λ y. worker_of_acts y xs) (after_same x a b same.0) ∙ worker-as (worker_after x b) xs ys same.1

  pub WorkerLog-as : (asks : List Answer → Option Op) (w : ℕ) (x : MadeWorker) (xs ys : List Act) → AreAs R xs ys → WorkerLog asks w x xs
      → WorkerLog asks w x ys
  WorkerLog-as asks w x [] [] same legal = legal
  WorkerLog-as asks w x [] (b ∷ ys) same legal = absurd same
  WorkerLog-as asks w x (a ∷ xs) [] same legal = absurd same
  WorkerLog-as asks w x (a ∷ xs) (b ∷ ys) same legal = (
    makes_same asks w x a b same.0 legal.0,
    WorkerLog-as asks w (worker_after x b) xs ys same.1 (subst (λ y. WorkerLog asks w y xs) (after_same x a b same.0) legal.1),
  )

-- ---- shards

-- y is the state x, with related causes
pub record IsAlso (R : ℕ → ℕ → Type 0) (x y : MadeShard) : Type 0 where
  pub bag : x.bag ≡ y.bag
  pub session : (w : ℕ) → x.session w ≡ y.session w
  pub cause : (w : ℕ) → R (x.cause w) (y.cause w)

after_session : (d : Session) (a b : Act) (what : What) → request_of a ≡ request_of b → session_after d a what ≡ session_after d b what
after_session d a b whats.Heard about = ap (λ r. record { waiting = Some r; cached = d.cached }) about
after_session d a b (whats.Served answer) about = ap (λ r. record { waiting = None; cached = Some (record { request = r; answer = answer }) }) about
after_session d a b whats.Issue about = refl
after_session d a b whats.Repeat about = refl
after_session d a b (whats.Accepted answer) about = refl
after_session d a b (whats.Ignored answer) about = refl
after_session d a b (whats.Again answer) about = refl

after_bag : (bag : List Tuple) (a b : Act) (what : What) → a.op ≡ b.op → bag_after bag a what ≡ bag_after bag b what
after_bag bag a b (whats.Served answer) op = ap (λ o. served_bag bag o answer) op
after_bag bag a b whats.Issue op = refl
after_bag bag a b whats.Repeat op = refl
after_bag bag a b whats.Heard op = refl
after_bag bag a b (whats.Accepted answer) op = refl
after_bag bag a b (whats.Ignored answer) op = refl
after_bag bag a b (whats.Again answer) op = refl

row_same : {X : Type 0} (S : X → X → Type 0) (k : ℕ) (u v : X) (rows others : ℕ → X) → S u v → ((w : ℕ) → S (rows w) (others w)) → (w : ℕ)
    → S (put_row k u rows w) (put_row k v others w)
row_same S k u v rows others here there w = by (k == w)
  where
    by : (r : Bool) → S (if r then u else rows w) (if r then v else others w)
    by true = here
    by false = there w

module _ (R : ℕ → ℕ → Type 0) (one : (m n k : ℕ) → R m n → R m k → n ≡ k) where
  after_cause : (m n : ℕ) (a b : Act) (what : What) → R m n → R a.by b.by → R (cause_after m a what) (cause_after n b what)
  after_cause m n a b whats.Heard old new = new
  after_cause m n a b whats.Issue old new = old
  after_cause m n a b whats.Repeat old new = old
  after_cause m n a b (whats.Served answer) old new = old
  after_cause m n a b (whats.Accepted answer) old new = old
  after_cause m n a b (whats.Ignored answer) old new = old
  after_cause m n a b (whats.Again answer) old new = old

  may_shard : (bag : List Tuple) (d : Session) (m n : ℕ) (a b : Act) (what : What) → IsAs R a b → R m n → ShardMay bag d m a what → ShardMay bag d n b what
  may_shard bag d m n a b whats.Heard same causes may = subst (λ k. Hears k d) same.number may
  may_shard bag d m n a b (whats.Served answer) same causes may = (
    may.0 ∙ ap Some (same_request R a b same),
    one a.by b.by n same.by (subst (λ k. R k n) (sym may.1) causes),
    subst (λ o. SpaceStep bag o answer (served_bag bag o answer)) same.op may.2,
  )
  may_shard bag d m n a b (whats.Again answer) same causes may = subst (λ r. AnswersAgain r answer d) (same_request R a b same) may
  may_shard bag d m n a b (whats.Ignored None) same causes may = subst (λ r. Ignores r d) (same_request R a b same) may
  may_shard bag d m n a b (whats.Ignored (Some answer)) same causes may = may
  may_shard bag d m n a b whats.Issue same causes may = may
  may_shard bag d m n a b whats.Repeat same causes may = may
  may_shard bag d m n a b (whats.Accepted answer) same causes may = may

  also_after : (x y : MadeShard) (a b : Act) → IsAs R a b → IsAlso R x y → IsAlso R (shard_after x a) (shard_after y b)
  also_after x y a b same also = record {
    bag = ap (λ bag. bag_after bag a a.what) also.bag ∙ after_bag y.bag a b a.what same.op ∙ ap (bag_after y.bag b) same.what;
    session = λ w. row_same (λ d e. d ≡ e) a.worker (session_after (x.session a.worker) a a.what) (session_after (y.session a.worker) b b.what) x.session
        y.session
        (ap (λ d. session_after d a a.what) (also.session a.worker) ∙ after_session (y.session a.worker) a b a.what (same_request R a b same)
        ∙ ap (session_after (y.session a.worker) b) same.what) also.session w
        ∙ ap (λ k. put_row k (session_after (y.session k) b b.what) y.session w) same.worker;
    cause = λ w. subst (λ k. R (put_row a.worker (cause_after (x.cause a.worker) a a.what) x.cause w) (put_row k (cause_after (y.cause k) b b.what) y.cause w))
        same.worker
        (row_same R a.worker (cause_after (x.cause a.worker) a a.what) (cause_after (y.cause a.worker) b b.what) x.cause y.cause
        (subst (λ t. R (cause_after (x.cause a.worker) a a.what) (cause_after (y.cause a.worker) b t)) same.what
        (after_cause (x.cause a.worker) (y.cause a.worker) a b a.what (also.cause a.worker) same.by)) also.cause w);
  }

  makes_also : (shards s : ℕ) (x y : MadeShard) (a b : Act) → IsAs R a b → IsAlso R x y → ShardMakes shards s x a → ShardMakes shards s y b
  makes_also shards s x y a b same also makes = (
    subst (λ o. shard_of shards (kinds_of_op o) ≡ s) same.op makes.0,
    subst (λ k. ShardMay y.bag (y.session k) (y.cause k) b b.what) same.worker
        (subst (ShardMay y.bag (y.session a.worker) (y.cause a.worker) b) same.what
        (may_shard y.bag (y.session a.worker) (x.cause a.worker) (y.cause a.worker) a b a.what same (also.cause a.worker)
        (subst (λ bag. ShardMay bag (y.session a.worker) (x.cause a.worker) a a.what) also.bag
        (subst (λ d. ShardMay x.bag d (x.cause a.worker) a a.what) (also.session a.worker) makes.1)))),
  )

  pub shard-as : (x y : MadeShard) (xs ys : List Act) → AreAs R xs ys → IsAlso R x y → IsAlso R (shard_of_acts x xs) (shard_of_acts y ys)
  shard-as x y [] [] same also = also
  shard-as x y [] (b ∷ ys) same also = absurd same
  shard-as x y (a ∷ xs) [] same also = absurd same
  shard-as x y (a ∷ xs) (b ∷ ys) same also = shard-as (shard_after x a) (shard_after y b) xs ys same.1 (also_after x y a b same.0 also)

  pub ShardLog-as : (shards s : ℕ) (x y : MadeShard) (xs ys : List Act) → AreAs R xs ys → IsAlso R x y → ShardLog shards s x xs → ShardLog shards s y ys
  ShardLog-as shards s x y [] [] same also legal = legal
  ShardLog-as shards s x y [] (b ∷ ys) same also legal = absurd same
  ShardLog-as shards s x y (a ∷ xs) [] same also legal = absurd same
  ShardLog-as shards s x y (a ∷ xs) (b ∷ ys) same also legal = (
    makes_also shards s x y a b same.0 also legal.0,
    ShardLog-as shards s (shard_after x a) (shard_after y b) xs ys same.1 (also_after x y a b same.0 also) legal.1,
  )

  -- nothing done is nothing done
  pub also_new : R 0 0 → IsAlso R new_shard new_shard
  also_new zero = record { bag = refl; session = λ w. refl; cause = λ w. zero }

  -- acts that are the same but for their causes may be made where these may
  pub IsLog-as : R 0 0 → (setting : Setting) (p : NodeId) (xs ys : List Act) → AreAs R xs ys → IsLog setting p xs → IsLog setting p ys
  IsLog-as zero setting (nodes.Worker w) xs ys same legal = WorkerLog-as R (setting.asks w) w new_worker xs ys same legal
  IsLog-as zero setting (nodes.Shard s) xs ys same legal = ShardLog-as setting.shards s new_shard new_shard xs ys same (also_new zero) legal
