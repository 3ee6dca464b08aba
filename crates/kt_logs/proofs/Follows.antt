-- Where causes come first, each worker's services are its script's, in order.
-- Cited by Survive.
use Rattle.std.proofs.Common.{◌≡◌, ℕ, suc, ◌<◌, ◌≤◌, ◌==◌, Option, Some, None, List, [], ◌∷◌, ◌++◌, length, Contains, inl, inr}
use Rattle.std.proofs.Common.{sym, refl, ap, ◌∙◌, subst, append_assoc, append-nil, le_refl, le_trans, le_of_lt, le_of_eq, arith}
use Rattle.std.specs.List.{cons_option}
use Rattle.std.proofs.lemmas.List.{map-append}
use Rattle.std.proofs.lemmas.List.Elements.{Contains-append_left, Contains-push, Contains-push_cases}
use Rattle.kt_tuple.specs.declared.node.NodeId.{NodeId}
use Rattle.kt_tuple.specs.declared.node.NodeId.TheVariants as nodes
use Rattle.kt_tuple.specs.declared.tuple.Tuple.{Tuple}
use Rattle.kt_tuple.specs.declared.op.Op.{Op}
use Rattle.kt_tuple.specs.declared.op.Answer.{Answer}
use Rattle.kt_tuple.specs.declared.service.Service.{Service}
use Rattle.kt_tuple.specs.Signature.{kinds_of_op, shard_of}
use Rattle.kt_history.specs.declared.note.Act.{Act}
use Rattle.kt_history.specs.declared.note.What.{What}
use Rattle.kt_history.specs.declared.note.What.TheVariants as whats
use Rattle.kt_history.specs.Survival.{service_of, services_of}
use Rattle.kt_history.specs.WellFormed.{IsAsking}
use Rattle.kt_history.specs.Closed.{own}
use Rattle.kt_logs.specs.Legal.{IsLog}
use Rattle.kt_shard.specs.declared.request.Request.{Request}
use Rattle.kt_shard.specs.declared.request.CachedReply.{CachedReply}
use Rattle.kt_shard.specs.declared.session.Session.{Session}
use Rattle.kt_shard.specs.Session.{number_or_0, cached_request}
use Rattle.kt_logs.specs.Order.{Setting, of_worker, OrderFrom, FollowsScripts}
use Rattle.kt_logs.specs.ShardLog.{MadeShard, request_of, ShardMay, ShardMakes, session_after, shard_after, put_row}
use Rattle.kt_logs.specs.WorkerLog.{MadeWorker, WorkerMay, worker_after, worker_after_what}
use Rattle.kt_history.proofs.Shared.{Contains-none}
use Rattle.kt_logs.proofs.Bags.{Contains-cases, Contains-unfilter}
use Rattle.kt_logs.proofs.Numbered.{put_row_holds, put_row-same}
use Rattle.kt_logs.proofs.Orders.{answers_in, split_same, service_after, place_of, OrderFrom-push, of_worker_own, of_worker_holds, Contains-of_worker}
use Rattle.kt_logs.proofs.Merge.{World, new_world, after_at, world_after, Makes, Runs, merge}
use Rattle.kt_logs.proofs.Caused.{IsRequested, IsServed, IsCaused, CausedFrom}

-- after some of its answers the worker asked for this operation, under this number
pub record HasAsked (setting : Setting) (w : ℕ) (x : MadeWorker) (number : ℕ) (op : Op) : Type 0 where
  pub front : List Answer
  pub rest : List Answer
  pub split : x.answers ≡ front ++ rest
  pub numbered : number ≡ suc (length front)
  pub asked : setting.asks w front ≡ Some op

abbrev the_service : Act → Answer → Service
the_service a answer = record { worker = a.worker; number = a.number; op = a.op; answer = answer }

-- the services so far
abbrev done_after : List Service → Act → What → List Service
done_after done a (whats.Served answer) = done ++ the_service a answer ∷ []
done_after done a _ = done

-- what the shard at home keeps of a service's worker
-- the number of what a session keeps, or 0
abbrev cached_number : Option CachedReply → ℕ
cached_number cached = number_or_0 (cached_request cached)

abbrev cached_at_home : Setting → World → Service → ℕ
cached_at_home setting x s = cached_number ((x.shard (shard_of setting.shards (kinds_of_op s.op))).session s.worker).cached

-- what waits is newer than what is kept
abbrev IsNewer : Session → Type 0
IsNewer d = (request : Request) → d.waiting ≡ Some request → cached_number d.cached < request.number

-- what holds of the nodes' states after the acts of past, whose services are done
record InOrder (setting : Setting) (past : List Act) (done : List Service) (x : World) : Type 0 where
  asks_next : (w : ℕ) (op : Op) → (x.worker w).asked ≡ Some op → setting.asks w (x.worker w).answers ≡ Some op
  ahead : (w : ℕ) → (extra : List Answer) × (answers_in (of_worker w done) ≡ (x.worker w).answers ++ extra)
  follows : (w : ℕ) → OrderFrom (setting.asks w) [] (of_worker w done)
  requests : (r : Act) → Contains past r → IsAsking r.what → HasAsked setting r.worker (x.worker r.worker) r.number r.op
  recorded : (v : Act) (answer : Answer) → Contains past v → v.what ≡ whats.Served answer → Contains done (the_service v answer)
  keeps : (s : Service) → Contains done s → s.number ≤ cached_at_home setting x s
  newer : (i w : ℕ) → IsNewer ((x.shard i).session w)

-- the request was asked for
asked_for : (setting : Setting) (past : List Act) (done : List Service) (x : World) → InOrder setting past done x → (a : Act) → IsRequested past a →
    HasAsked setting a.worker (x.worker a.worker) a.number a.op
asked_for setting past done x i a r =
    subst (λ n. HasAsked setting a.worker (x.worker a.worker) n a.op) r.same.number
    (subst (λ o. HasAsked setting a.worker (x.worker a.worker) r.request.number o) r.same.op
    (subst (λ w. HasAsked setting w (x.worker w) r.request.number r.request.op) r.same.worker (i.requests r.request r.earlier r.asking)))

-- a request that waits at its home was not served before
not_served : (setting : Setting) (past : List Act) (done : List Service) (x : World) → InOrder setting past done x → (a : Act) (s : ℕ) →
    shard_of setting.shards (kinds_of_op a.op) ≡ s → ((x.shard s).session a.worker).waiting ≡ Some (request_of a) →
    (v : Service) → Contains (of_worker a.worker done) v → v.worker ≡ a.worker → v.number ≡ a.number → v.op ≡ a.op → ⊥
not_served setting past done x i a s home waits v c worker number op =
    let old : v.number ≤ cached_at_home setting x v = i.keeps v (Contains-unfilter (λ (r : Service). r.worker == a.worker) v done c) in
    let there : cached_at_home setting x v ≡ cached_number ((x.shard s).session a.worker).cached =
    ap (λ o. cached_number ((x.shard (shard_of setting.shards (kinds_of_op o))).session v.worker).cached) op
    ∙ ap (λ k. cached_number ((x.shard k).session v.worker).cached) home ∙ ap (λ w. cached_number ((x.shard s).session w).cached) worker in
    let newer : cached_number ((x.shard s).session a.worker).cached < a.number = i.newer s a.worker (request_of a) waits in
    omega (arith, old, there, newer, number)

-- what is served next is the worker's next request
serves_next : (setting : Setting) (past : List Act) (done : List Service) (x : World) → InOrder setting past done x → (a : Act) (s : ℕ) →
    shard_of setting.shards (kinds_of_op a.op) ≡ s → ((x.shard s).session a.worker).waiting ≡ Some (request_of a) →
    (front rest : List Answer) → answers_in (of_worker a.worker done) ≡ front ++ rest → a.number ≡ suc (length front) → setting.asks a.worker front ≡ Some a.op
    →
    (a.number ≡ suc (length (answers_in (of_worker a.worker done)))) × (setting.asks a.worker (answers_in (of_worker a.worker done)) ≡ Some a.op)
serves_next setting past done x i a s home waits front [] e number asked =
    let same : answers_in (of_worker a.worker done) ≡ front = e ∙ append-nil front in
    (number ∙ ap (λ l. suc (length l)) (sym same), ap (setting.asks a.worker) same ∙ asked)
serves_next setting past done x i a s home waits front (b ∷ more) e number asked =
    let v = service_after (setting.asks a.worker) [] (of_worker a.worker done) front b more (i.follows a.worker) e in
    let same_op : v.0.op ≡ a.op = cc (v.3, asked) in
    absurd (not_served setting past done x i a s home waits v.0 v.1 (of_worker_own a.worker done v.0 v.1) (v.2 ∙ sym number) same_op)

-- what a worker's act does to what is known of the worker
record Moves (setting : Setting) (done : List Service) (w : ℕ) (x y : MadeWorker) (a : Act) (what : What) : Type 0 where
  asks_next : (op : Op) → y.asked ≡ Some op → setting.asks w y.answers ≡ Some op
  added : List Answer
  grows : y.answers ≡ x.answers ++ added
  extra : List Answer
  ahead : answers_in (of_worker w done) ≡ y.answers ++ extra
  asking : IsAsking what → HasAsked setting w y a.number a.op
  serves_not : (answer : Answer) → ¬ (what ≡ whats.Served answer)

HasAsked-grows : (setting : Setting) (w : ℕ) (x y : MadeWorker) (number : ℕ) (op : Op) (added : List Answer) → y.answers ≡ x.answers ++ added →
    HasAsked setting w x number op → HasAsked setting w y number op
HasAsked-grows setting w x y number op added e h = record {
  front = h.front;
  rest = h.rest ++ added;
  split = e ∙ ap (λ l. l ++ added) h.split ∙ append_assoc h.front h.rest added;
  numbered = h.numbered;
  asked = h.asked;
}

-- an answer is accepted that was given before
accepts : (setting : Setting) (past : List Act) (done : List Service) (x : World) → InOrder setting past done x → (a : Act) (w : ℕ) (answer : Answer)
    → a.worker ≡ w →
    a.number ≡ suc (length (x.worker w).answers) → IsServed past a answer →
    (more : List Answer) × (answers_in (of_worker w done) ≡ ((x.worker w).answers ++ answer ∷ []) ++ more)
accepts setting past done x i a w answer worker number r =
    let there : Contains (of_worker w done) (the_service r.service answer) =
    Contains-of_worker w done (the_service r.service answer) (r.same.worker ∙ worker) (i.recorded r.service answer r.earlier r.served) in
    let p = place_of (setting.asks w) [] (of_worker w done) (the_service r.service answer) (i.follows w) there in
    let long : length (x.worker w).answers ≡ length p.0 = omega (arith, number, r.same.number, p.3) in
    let split : ((x.worker w).answers ≡ p.0) × ((i.ahead w).0 ≡ answer ∷ p.1) =
    split_same (x.worker w).answers (i.ahead w).0 p.0 (answer ∷ p.1) (sym (i.ahead w).1 ∙ p.2) long in
    (p.1, (i.ahead w).1 ∙ ap (λ l. (x.worker w).answers ++ l) split.1 ∙ sym (append_assoc (x.worker w).answers (answer ∷ []) p.1))

worker_moves : (setting : Setting) (past : List Act) (done : List Service) (x : World) → InOrder setting past done x → (a : Act) (w : ℕ) → a.worker ≡ w
    → (what : What) →
    WorkerMay (setting.asks w) (x.worker w) a what → IsCaused past a what → Moves setting done w (x.worker w) (worker_after_what (x.worker w) a what) a what
worker_moves setting past done x i a w own whats.Issue h c = record {
  asks_next = λ op e. let same : a.op ≡ op = cc in h.2 ∙ ap Some same;
  added = [];
  grows = sym (append-nil (x.worker w).answers);
  extra = (i.ahead w).0;
  ahead = (i.ahead w).1;
  asking = λ _. record { front = (x.worker w).answers; rest = []; split = sym (append-nil (x.worker w).answers); numbered = h.1; asked = h.2 };
  serves_not = λ answer e. cc;
}
worker_moves setting past done x i a w own whats.Repeat h c = record {
  asks_next = i.asks_next w;
  added = [];
  grows = sym (append-nil (x.worker w).answers);
  extra = (i.ahead w).0;
  ahead = (i.ahead w).1;
  asking =
      λ _. record { front = (x.worker w).answers; rest = []; split = sym (append-nil (x.worker w).answers); numbered = h.0; asked = i.asks_next w a.op h.1 };
  serves_not = λ answer e. cc;
}
worker_moves setting past done x i a w own (whats.Accepted answer) h c =
    let k = accepts setting past done x i a w answer own h.0 c in
    record {
      asks_next = λ op e. absurd cc;
      added = answer ∷ [];
      grows = refl;
      extra = k.0;
      ahead = k.1;
      asking = λ e. absurd e;
      serves_not = λ answer e. cc;
    }
worker_moves setting past done x i a w own (whats.Ignored (Some answer)) h c = record {
  asks_next = i.asks_next w;
  added = [];
  grows = sym (append-nil (x.worker w).answers);
  extra = (i.ahead w).0;
  ahead = (i.ahead w).1;
  asking = λ e. absurd e;
  serves_not = λ answer e. cc;
}
worker_moves setting past done x i a w own _ h c = absurd h

worker_keeps : (setting : Setting) (past : List Act) (done : List Service) (x : World) → InOrder setting past done x → (a : Act) (w : ℕ) (y : MadeWorker)
    → a.worker ≡ w →
    Moves setting done w (x.worker w) y a a.what → InOrder setting (a ∷ past) done (record { shard = x.shard; worker = put_row w y x.worker })
worker_keeps setting past done x i a w y own m = record {
  asks_next = put_row_holds (λ v z. (op : Op) → z.asked ≡ Some op → setting.asks v z.answers ≡ Some op) w y x.worker m.asks_next (λ v _. i.asks_next v);
  ahead =
      put_row_holds (λ v z. (extra : List Answer) × (answers_in (of_worker v done) ≡ z.answers ++ extra)) w y x.worker (m.extra, m.ahead) (λ v _. i.ahead v);
  follows = i.follows;
  requests =
      λ r c asking. elim (Contains-cases a r past c) [
        | inl e ↦ subst (λ (b : Act). HasAsked setting b.worker (put_row w y x.worker b.worker) b.number b.op) e
            (newest (subst (λ (b : Act). IsAsking b.what) (sym e) asking))
        | inr old ↦ older r old asking
      ];
  recorded =
      λ v answer c served. elim (Contains-cases a v past c)
      [ inl e ↦ absurd (m.serves_not answer (ap (λ (b : Act). b.what) e ∙ served)) | inr old ↦ i.recorded v answer old served ];
  keeps = i.keeps;
  newer = i.newer;
} where
  newest : IsAsking a.what → HasAsked setting a.worker (put_row w y x.worker a.worker) a.number a.op
  newest asking = put_row_holds (λ v z. a.worker ≡ v → HasAsked setting v z a.number a.op) w y x.worker (λ _. m.asking asking)
      (λ v d e. absurd (d (sym own ∙ e))) a.worker refl

  older : (r : Act) → Contains past r → IsAsking r.what → HasAsked setting r.worker (put_row w y x.worker r.worker) r.number r.op
  older r old asking =
      put_row_holds (λ v z. r.worker ≡ v → HasAsked setting v z r.number r.op) w y x.worker
      (λ e. HasAsked-grows setting w (x.worker w) y r.number r.op m.added m.grows
      (subst (λ v. HasAsked setting v (x.worker v) r.number r.op) e (i.requests r old asking)))
      (λ v d e. subst (λ v. HasAsked setting v (x.worker v) r.number r.op) e (i.requests r old asking)) r.worker refl

-- what a shard's act does to the session of its worker
session_newer : (bag : List Tuple) (d : Session) (cause : ℕ) (a : Act) (what : What) → IsNewer d → ShardMay bag d cause a what
    → IsNewer (session_after d a what)
session_newer bag d cause a whats.Heard n h asked e =
    let same : a.number ≡ asked.number = ap number_or_0 e in
    omega (arith, same, h)
session_newer bag d cause a (whats.Served answer) n h asked e = absurd cc
session_newer bag d cause a whats.Issue n h asked e = n asked e
session_newer bag d cause a _ n h asked e = n asked e

session_grows : (bag : List Tuple) (d : Session) (cause : ℕ) (a : Act) (what : What) → IsNewer d → ShardMay bag d cause a what
    → cached_number d.cached ≤ cached_number (session_after d a what).cached
session_grows bag d cause a (whats.Served answer) n h = le_of_lt (n (request_of a) h.0)
session_grows bag d cause a whats.Issue n h = le_refl (cached_number d.cached)
session_grows bag d cause a _ n h = le_refl (cached_number d.cached)

-- a shard with other sessions, none of which fell back
record Advances (x y : MadeShard) : Type 0 where
  newer : (w : ℕ) → IsNewer (y.session w)
  grows : (w : ℕ) → cached_number (x.session w).cached ≤ cached_number (y.session w).cached

advances : (shards s : ℕ) (x : MadeShard) (a : Act) → ((w : ℕ) → IsNewer (x.session w)) → ShardMakes shards s x a → Advances x (shard_after x a)
advances shards s x a n h = record {
  newer = put_row_holds (λ w d. IsNewer d) a.worker (session_after (x.session a.worker) a a.what) x.session
      (session_newer x.bag (x.session a.worker) (x.cause a.worker) a a.what (n a.worker) h.1) (λ w _. n w);
  grows = put_row_holds (λ w d. cached_number (x.session w).cached ≤ cached_number d.cached) a.worker (session_after (x.session a.worker) a a.what) x.session
      (session_grows x.bag (x.session a.worker) (x.cause a.worker) a a.what (n a.worker) h.1) (λ w _. le_refl (cached_number (x.session w).cached));
}

cached-grows : (setting : Setting) (x : World) (s : ℕ) (y : MadeShard) → Advances (x.shard s) y → (v : Service) →
    cached_at_home setting x v ≤ cached_at_home setting (record { shard = put_row s y x.shard; worker = x.worker }) v
cached-grows setting x s y m v =
    put_row_holds (λ i (z : MadeShard). cached_number ((x.shard i).session v.worker).cached ≤ cached_number (z.session v.worker).cached) s y x.shard
    (m.grows v.worker)
    (λ i _. le_refl (cached_number ((x.shard i).session v.worker).cached)) (shard_of setting.shards (kinds_of_op v.op))

-- an act of a shard that is no service
shard_rests : (setting : Setting) (past : List Act) (done : List Service) (x : World) → InOrder setting past done x → (a : Act) (s : ℕ) (y : MadeShard)
    → Advances (x.shard s) y →
    ¬ IsAsking a.what → ((answer : Answer) → ¬ (a.what ≡ whats.Served answer))
    → InOrder setting (a ∷ past) done (record { shard = put_row s y x.shard; worker = x.worker })
shard_rests setting past done x i a s y m asks_not serves_not = record {
  asks_next = i.asks_next;
  ahead = i.ahead;
  follows = i.follows;
  requests =
      λ r c asking. elim (Contains-cases a r past c)
      [ inl e ↦ absurd (asks_not (subst (λ (b : Act). IsAsking b.what) (sym e) asking)) | inr old ↦ i.requests r old asking ];
  recorded =
      λ v answer c served. elim (Contains-cases a v past c)
      [ inl e ↦ absurd (serves_not answer (ap (λ (b : Act). b.what) e ∙ served)) | inr old ↦ i.recorded v answer old served ];
  keeps = λ v c. le_trans (i.keeps v c) (cached-grows setting x s y m v);
  newer = put_row_holds (λ k (z : MadeShard). (w : ℕ) → IsNewer (z.session w)) s y x.shard m.newer (λ k _. i.newer k);
}

-- a service
shard_serves : (setting : Setting) (past : List Act) (done : List Service) (x : World) → InOrder setting past done x → (a : Act) (s : ℕ) (y : MadeShard)
    → Advances (x.shard s) y →
    (answer : Answer) → a.what ≡ whats.Served answer → shard_of setting.shards (kinds_of_op a.op) ≡ s → a.number ≤ cached_number (y.session a.worker).cached →
    a.number ≡ suc (length (answers_in (of_worker a.worker done))) → setting.asks a.worker (answers_in (of_worker a.worker done)) ≡ Some a.op →
    InOrder setting (a ∷ past) (done ++ the_service a answer ∷ []) (record { shard = put_row s y x.shard; worker = x.worker })
shard_serves setting past done x i a s y m answer serves home now number asked = record {
  asks_next = i.asks_next;
  ahead = of_worker_holds (λ w l. (extra : List Answer) × (answers_in l ≡ (x.worker w).answers ++ extra)) done the (
    (i.ahead a.worker).0 ++ answer ∷ [],
    map-append (λ (v : Service). v.answer) (of_worker a.worker done) (the ∷ []) ∙ ap (λ l. l
        ++ answer ∷ []) (i.ahead a.worker).1 ∙ append_assoc (x.worker a.worker).answers (i.ahead a.worker).0 (answer ∷ []),
  )
      i.ahead;
  follows = of_worker_holds (λ w l. OrderFrom (setting.asks w) [] l) done the
      (OrderFrom-push (setting.asks a.worker) [] (of_worker a.worker done) the (i.follows a.worker) number asked) i.follows;
  requests =
      λ r c asking. elim (Contains-cases a r past c)
      [ inl e ↦ absurd (subst IsAsking (ap (λ (b : Act). b.what) (sym e) ∙ serves) asking) | inr old ↦ i.requests r old asking ];
  recorded =
      λ v given c served. elim (Contains-cases a v past c)
      [ inl e ↦ newest v given e served | inr old ↦ Contains-append_left done (the ∷ []) (the_service v given) (i.recorded v given old served) ];
  keeps =
      λ v c. elim (Contains-push_cases done the v c)
      [ inl old ↦ le_trans (i.keeps v old) (cached-grows setting x s y m v) | inr e ↦ subst (λ v. v.number ≤ cached_at_home setting after v) e cached ];
  newer = put_row_holds (λ k (z : MadeShard). (w : ℕ) → IsNewer (z.session w)) s y x.shard m.newer (λ k _. i.newer k);
} where
  the : Service
  the = the_service a answer

  after : World
  after = record { shard = put_row s y x.shard; worker = x.worker }

  newest : (v : Act) (given : Answer) → a ≡ v → v.what ≡ whats.Served given → Contains (done ++ the ∷ []) (the_service v given)
  newest v given e served =
      let same : answer ≡ given = cc (ap (λ (b : Act). b.what) e, serves, served) in
      subst (λ b. Contains (done ++ the ∷ []) (the_service b given)) e
      (subst (λ z. Contains (done ++ the ∷ []) (the_service a z)) same (Contains-push done the))

  cached : the.number ≤ cached_at_home setting after the
  cached = subst (λ k. a.number ≤ cached_number ((put_row s y x.shard k).session a.worker).cached) (sym home)
      (subst (λ (z : MadeShard). a.number ≤ cached_number (z.session a.worker).cached) (sym (put_row-same s y x.shard)) now)

-- what a shard keeps of a request that it serves
keeps_served : (shards s : ℕ) (x : MadeShard) (a : Act) (answer : Answer) → a.what ≡ whats.Served answer
    → a.number ≤ cached_number ((shard_after x a).session a.worker).cached
keeps_served shards s x a answer e =
    let row : (shard_after x a).session a.worker ≡ session_after (x.session a.worker) a a.what = put_row-same a.worker
    (session_after (x.session a.worker) a a.what) x.session in
    let cached : cached_number (session_after (x.session a.worker) a a.what).cached
    ≡ a.number = ap (λ k. cached_number (session_after (x.session a.worker) a k).cached) e in
    le_of_eq (sym (ap (λ (d : Session). cached_number d.cached) row ∙ cached))

-- one more act keeps the order
shard_keeps : (setting : Setting) (past : List Act) (done : List Service) (x : World) → InOrder setting past done x → (a : Act) (s : ℕ)
    → ShardMakes setting.shards s (x.shard s) a →
    (what : What) → a.what ≡ what → ShardMay (x.shard s).bag ((x.shard s).session a.worker) ((x.shard s).cause a.worker) a what → IsCaused past a what →
    InOrder setting (a ∷ past) (done_after done a what) (record { shard = put_row s (shard_after (x.shard s) a) x.shard; worker = x.worker })
shard_keeps setting past done x i a s h (whats.Served answer) e may c =
    let r = asked_for setting past done x i a c in
    let all = (i.ahead a.worker).1 ∙ ap (λ l. l ++ (i.ahead a.worker).0) r.split ∙ append_assoc r.front r.rest (i.ahead a.worker).0 in
    let next = serves_next setting past done x i a s h.0 may.0 r.front (r.rest ++ (i.ahead a.worker).0) all r.numbered r.asked in
    shard_serves setting past done x i a s (shard_after (x.shard s) a) (advances setting.shards s (x.shard s) a (i.newer s) h) answer e h.0
    (keeps_served setting.shards s (x.shard s) a answer e) next.0 next.1
shard_keeps setting past done x i a s h whats.Heard e may c =
    shard_rests setting past done x i a s (shard_after (x.shard s) a) (advances setting.shards s (x.shard s) a (i.newer s) h) (λ k. subst IsAsking e k)
    (λ answer k. cc)
shard_keeps setting past done x i a s h (whats.Again answer) e may c =
    shard_rests setting past done x i a s (shard_after (x.shard s) a) (advances setting.shards s (x.shard s) a (i.newer s) h) (λ k. subst IsAsking e k)
    (λ answer k. cc)
shard_keeps setting past done x i a s h (whats.Ignored None) e may c =
    shard_rests setting past done x i a s (shard_after (x.shard s) a) (advances setting.shards s (x.shard s) a (i.newer s) h) (λ k. subst IsAsking e k)
    (λ answer k. cc)
shard_keeps setting past done x i a s h _ e may c = absurd may

done-worker : (done : List Service) (asks : List Answer → Option Op) (x : MadeWorker) (a : Act) (what : What) → WorkerMay asks x a what
    → done_after done a what ≡ done
done-worker done asks x a (whats.Served answer) h = absurd h
done-worker done asks x a whats.Issue h = refl
done-worker done asks x a _ h = refl

act_keeps : (setting : Setting) (past : List Act) (done : List Service) (x : World) → InOrder setting past done x → (a : Act) (p : NodeId) → Makes setting x a p
    → IsCaused past a a.what →
    InOrder setting (a ∷ past) (done_after done a a.what) (after_at x a p)
act_keeps setting past done x i a (nodes.Worker w) h c =
    subst (λ l. InOrder setting (a ∷ past) l (after_at x a (nodes.Worker w))) (sym (done-worker done (setting.asks w) (x.worker w) a a.what h.1))
    (worker_keeps setting past done x i a w (worker_after (x.worker w) a) h.0 (worker_moves setting past done x i a w h.0 a.what h.1 c))
act_keeps setting past done x i a (nodes.Shard s) h c = shard_keeps setting past done x i a s h a.what refl h.1 c

services_on : (done : List Service) (a : Act) (what : What) (later : List Service)
    → done_after done a what ++ later ≡ done ++ cons_option (service_of a what) later
services_on done a (whats.Served answer) later = append_assoc done (the_service a answer ∷ []) later
services_on done a whats.Issue later = refl
services_on done a _ later = refl

follows_from : (setting : Setting) (past : List Act) (done : List Service) (x : World) (acts : List Act) → InOrder setting past done x → Runs setting x acts
    → CausedFrom past acts →
    FollowsScripts setting (done ++ services_of acts)
follows_from setting past done x [] i h c = subst (FollowsScripts setting) (sym (append-nil done)) i.follows
follows_from setting past done x (a ∷ later) i h c =
    subst (FollowsScripts setting) (services_on done a a.what (services_of later))
    (follows_from setting (a ∷ past) (done_after done a a.what) (world_after x a) later (act_keeps setting past done x i a a.node h.0 c.0) h.1 c.1)

at_first : (setting : Setting) → InOrder setting [] [] new_world
at_first setting = record {
  asks_next = λ w op e. absurd cc;
  ahead = λ w. ([], refl);
  follows = λ w. tt;
  requests = λ r c. absurd (Contains-none r c);
  recorded = λ v answer c. absurd (Contains-none v c);
  keeps = λ s c. absurd (Contains-none s c);
  newer = λ i w asked e. absurd cc;
}

-- where each node's own acts are a log that it may make, and causes come first, the services are what the scripts ask, in order
pub follows_scripts : (setting : Setting) (acts : List Act) → ((p : NodeId) → IsLog setting p (own p acts)) → CausedFrom [] acts
    → FollowsScripts setting (services_of acts)
follows_scripts setting acts h c = follows_from setting [] [] new_world acts (at_first setting) (merge setting acts h) c
