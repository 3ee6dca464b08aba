-- An act's cause is found where it was placed already, and what a shard may answer again it served.
-- Cited by `sense::makes_sense`.
use Rattle.std.proofs.Common.{◌≡◌, ◌≢◌, ℕ, zero, suc, ◌+◌, ◌<◌, ◌≤◌, Bool, true, false, List, [], ◌∷◌, ◌++◌, length, take, drop, slice_get, Contains}
use Rattle.std.proofs.Common.{take-append-drop}
use Rattle.std.proofs.Common.{Option, None, Some, refl, sym, ap, ◌∙◌, subst, arith}
use Rattle.std.proofs.Common.{◌⊎◌, inl, inr, get_or, drop-cons}
use Rattle.std.specs.List.{cons_option}
use Rattle.std.proofs.lemmas.List.{take_more}
use Rattle.std.proofs.lemmas.Option.{get_or_from_slice_get, slice_get-get_or, slice_get_within}
use Rattle.kt_tuple.specs.declared.node.NodeId.{NodeId}
use Rattle.kt_tuple.specs.declared.node.NodeId.TheVariants as ids
use Rattle.kt_tuple.specs.declared.op.Answer.{Answer}
use Rattle.kt_history.specs.declared.note.Act.{Act}
use Rattle.kt_history.specs.declared.note.Note.{Note}
use Rattle.kt_history.specs.declared.note.Note.TheVariants as notes
use Rattle.kt_history.specs.declared.note.What.{What}
use Rattle.kt_history.specs.declared.note.What.TheVariants as whats
use Rattle.kt_history.specs.Log.{note_at, before, log, IsAct}
use Rattle.kt_history.specs.Closed.{act_of, acts_at, acts_in_log}
use Rattle.kt_history.specs.WellFormed.{CausesComeFirst, HeardReply, HeardRequest, IgnoredFits, WasServed, ActFits}
use Rattle.kt_history.proofs.Logs.{IsOwnAct, log-own, log-stack, note_at-before, note_before}
use Rattle.kt_history.proofs.Lists.{Contains-cons_cases, Contains-from_slice_get, Contains-here, Contains-none, Contains-there, slice_get-from_Contains}
use Rattle.kt_logs.proofs.Causes.{before_at}
use Rattle.kt_history.proofs.Fronts.{acts_at-append, acts_at-old}
use Rattle.kt_logs.specs.Order.{Setting}
use Rattle.kt_logs.specs.Legal.{IsLog}
use Rattle.kt_logs.specs.ShardLog.{MadeShard, ShardLog, ShardMakes, ShardMay, shard_after, shard_of_acts, new_shard, request_of}
use Rattle.kt_logs.specs.WorkerLog.{MadeWorker, WorkerLog, WorkerMakes, WorkerMay, worker_after, new_worker}
use Rattle.kt_logs.proofs.Traces.{Contains-acts_at, ServedIn, keeps_served}
use Rattle.kt_shard.specs.declared.request.Request.{Request}
use Rattle.kt_shard.specs.declared.request.CachedReply.{CachedReply}
use Rattle.kt_resume.specs.auxiliary.Sense.{CauseFits}
use Rattle.kt_model.specs.Resumed.{MakesSense}

-- ---- the cause

-- an act's cause comes before it
cause-before : (h : List Note) (n : ℕ) (a cause : Act) → CausesComeFirst h → note_at h n ≡ Some (notes.Act a) → note_at h a.by ≡ Some (notes.Act cause)
    → a.by < n
cause-before h n a cause first is found = by a.by refl where
  by : (k : ℕ) → a.by ≡ k → a.by < n
  by zero zero_is =
      let none : None ≡ Some (notes.Act cause) = ap (note_at h) (sym zero_is) ∙ found in
      absurd (cc (none))
  by (suc k) some =
      let earlier : IsAct (before h n) a.by = first.follows n (notes.Act a) is (λ e. let apart : suc k ≡ 0 = sym some ∙ e in absurd (omega (arith, apart))) in
      (note_before h n (notes.Act a) a.by (notes.Act earlier.0) is earlier.1).0

module _ (h : List Note) (n : ℕ) (a : Act) (first : CausesComeFirst h) (is : note_at h n ≡ Some (notes.Act a)) where
  -- what is found in the whole history is found before the act
  was-there : (cause : Act) → note_at h a.by ≡ Some (notes.Act cause) → note_at (before h n) a.by ≡ Some (notes.Act cause)
  was-there cause found = note_at-before h n a.by (cause-before h n a cause first is found) ∙ found

  is-there : (cause : Act) → note_at (before h n) a.by ≡ Some (notes.Act cause) → note_at h a.by ≡ Some (notes.Act cause)
  is-there cause found = (note_before h n (notes.Act a) a.by (notes.Act cause) is found).1

  request-was : HeardRequest h a → HeardRequest (before h n) a
  request-was heard = record { cause = heard.cause; is_cause = was-there heard.cause heard.is_cause; asking = heard.asking; same = heard.same }

  request-is : HeardRequest (before h n) a → HeardRequest h a
  request-is heard = record { cause = heard.cause; is_cause = is-there heard.cause heard.is_cause; asking = heard.asking; same = heard.same }

  reply-was : (answer : Answer) → HeardReply h a answer → HeardReply (before h n) a answer
  reply-was answer heard =
      record { cause = heard.cause; is_cause = was-there heard.cause heard.is_cause; at_shard = heard.at_shard; answering = heard.answering; same = heard.same }

  reply-is : (answer : Answer) → HeardReply (before h n) a answer → HeardReply h a answer
  reply-is answer heard =
      record { cause = heard.cause; is_cause = is-there heard.cause heard.is_cause; at_shard = heard.at_shard; answering = heard.answering; same = heard.same }

  ignored-was : (p : NodeId) (o : Option Answer) → IgnoredFits h a p o → IgnoredFits (before h n) a p o
  ignored-was (ids.Shard s) None fits = request-was fits
  ignored-was (ids.Worker w) (Some answer) fits = reply-was answer fits
  ignored-was (ids.Shard s) (Some answer) fits = fits
  ignored-was (ids.Worker w) None fits = fits

  ignored-is : (p : NodeId) (o : Option Answer) → IgnoredFits (before h n) a p o → IgnoredFits h a p o
  ignored-is (ids.Shard s) None fits = request-is fits
  ignored-is (ids.Worker w) (Some answer) fits = reply-is answer fits
  ignored-is (ids.Shard s) (Some answer) fits = fits
  ignored-is (ids.Worker w) None fits = fits

  -- what makes sense has a cause that does
  cause-is : (what : What) → ActFits (before h n) a what → CauseFits h a what
  cause-is whats.Issue fits = fits
  cause-is whats.Repeat fits = fits
  cause-is whats.Heard fits = request-is fits
  cause-is (whats.Served answer) fits = request-is fits
  cause-is (whats.Again answer) fits = request-is fits.0
  cause-is (whats.Accepted answer) fits = reply-is answer fits
  cause-is (whats.Ignored answer) fits = ignored-is a.node answer fits

  -- and where what is answered again was served, it makes sense
  cause-was : (what : What) → ((answer : Answer) → what ≡ whats.Again answer → WasServed (before h n) a answer) → CauseFits h a what
      → ActFits (before h n) a what
  cause-was whats.Issue served fits = fits
  cause-was whats.Repeat served fits = fits
  cause-was whats.Heard served fits = request-was fits
  cause-was (whats.Served answer) served fits = request-was fits
  cause-was (whats.Again answer) served fits = (request-was fits, served answer refl)
  cause-was (whats.Accepted answer) served fits = reply-was answer fits
  cause-was (whats.Ignored answer) served fits = ignored-was a.node answer fits

-- ---- what is answered again

-- a shard that may make a whole log may make each act of it
log-makes : (shards s : ℕ) (x : MadeShard) (xs : List Act) (a : Act) (ys : List Act) → ShardLog shards s x (xs ++ a ∷ ys)
    → ShardMakes shards s (shard_of_acts x xs) a
log-makes shards s x [] a ys legal = legal.0
log-makes shards s x (b ∷ xs) a ys legal = log-makes shards s (shard_after x b) xs a ys legal.1

-- a worker answers nothing again
no-again : (asks : List Answer → Option Rattle.kt_tuple.specs.declared.op.Op.Op) (w : ℕ) (x : MadeWorker) (xs : List Act) (a : Act) (ys : List Act)
    (answer : Answer)
    → WorkerLog asks w x (xs ++ a ∷ ys) → a.what ≡ whats.Again answer → ⊥
no-again asks w x [] a ys answer legal e = subst (WorkerMay asks x a) e legal.0.1
no-again asks w x (b ∷ xs) a ys answer legal e = no-again asks w (worker_after x b) xs a ys answer legal.1 e

-- the acts of a log, split at the one of a number that stands there
record SplitAt (h : List Note) (p : NodeId) (n : ℕ) (a : Act) : Type 0 where
  later : List Act
  split : acts_in_log h p ≡ acts_in_log (before h n) p ++ a ∷ later

split-at : (h : List Note) (p : NodeId) (n : ℕ) (a : Act) → Contains (log h p) n → note_at h n ≡ Some (notes.Act a) → SplitAt h p n a
split-at h p n a on is =
    let at = slice_get-from_Contains (log h p) n on in
    let i = at.0 in
    let xs = log h p in
    let within = slice_get_within xs i n at.1 in
    let front : log (before h n) p ≡ take i xs = log-stack h p i n at.1 in
    let here : get_or xs i 0 ≡ n = get_or_from_slice_get xs i n 0 at.1 in
    let rest : drop i xs ≡ n ∷ drop (suc i) xs = drop-cons xs i 0 within ∙ ap (λ k. k ∷ drop (suc i) xs) here in
    let old : acts_at h (take i xs) ≡ acts_at (before h n) (log (before h n) p) =
    same-acts h (before h n) (take i xs) (λ k c.
    let own = log-own (before h n) p k (subst (λ (l : List ℕ). Contains l k) (sym front) c) in
    (before_at h n k (notes.Act own.act) own.is_act).1 ∙ sym own.is_act)
    ∙ ap (acts_at (before h n)) (sym front) in record {
      later = acts_at h (drop (suc i) xs);
      split =
          ap (acts_at h) (sym (take-append-drop i xs)) ∙ acts_at-append h (take i xs) (drop i xs)
          ∙ ap (λ (l : List Act). l ++ acts_at h (drop i xs)) old
          ∙ ap (λ (l : List ℕ). acts_in_log (before h n) p ++ acts_at h l) rest
          ∙ ap (λ o. acts_in_log (before h n) p ++ cons_option (act_of o) (acts_at h (drop (suc i) xs))) is;
    } where
      same-acts : (g k : List Note) (xs : List ℕ) → ((m : ℕ) → Contains xs m → note_at g m ≡ note_at k m) → acts_at g xs ≡ acts_at k xs
      same-acts g k [] same = refl
      same-acts g k (x ∷ xs) same =
          ap (λ o. cons_option (act_of o) (acts_at g xs)) (same x (Contains-here x xs))
          ∙ ap (cons_option (act_of (note_at k x))) (same-acts g k xs (λ m c. same m (Contains-there x xs m c)))

-- what is answered again in a log that its node may make was served so before
pub was-served : (setting : Setting) (h : List Note) (p : NodeId) (n : ℕ) (a : Act) (answer : Answer) → IsLog setting p (acts_in_log h p) → Contains (log h p) n
    → note_at h n ≡ Some (notes.Act a) → a.what ≡ whats.Again answer → WasServed (before h n) a answer
was-served setting h (ids.Worker w) n a answer legal on is again =
    let s = split-at h (ids.Worker w) n a on is in
    absurd (no-again (setting.asks w) w new_worker (acts_in_log (before h n) (ids.Worker w)) a s.later answer
    (subst (WorkerLog (setting.asks w) w new_worker) s.split legal) again)
was-served setting h (ids.Shard r) n a answer legal on is again =
    let s = split-at h (ids.Shard r) n a on is in
    let acts = acts_in_log (before h n) (ids.Shard r) in
    let x = shard_of_acts new_shard acts in
    let makes = log-makes setting.shards r new_shard acts a s.later (subst (ShardLog setting.shards r new_shard) s.split legal) in
    let may = subst (ShardMay x.bag (x.session a.worker) (x.cause a.worker) a) again makes.1 in
    let cached : CachedReply = record { request = request_of a; answer = answer } in
    let served : ServedIn acts a.worker cached = keeps_served acts a.worker cached may.1 in
    let k = Contains-acts_at (before h n) (log (before h n) (ids.Shard r)) served.act served.among in
    let own = log-own h (ids.Shard r) n on in
    let note : Some (notes.Act own.act) ≡ Some (notes.Act a) = sym own.is_act ∙ is in
    let mine : own.act ≡ a = cc (note) in
    let node : a.node ≡ ids.Shard r = ap (λ (b : Act). b.node) (sym mine) ∙ own.own in record {
      service = k.0;
      stands = subst (λ q. Contains (log (before h n) q) k.0) (sym node) k.1;
      act = served.act;
      is_act = k.2;
      served = served.serves;
      same = record {
        worker = served.worker;
        number = ap (λ (q : Request). q.number) served.about;
        op = ap (λ (q : Request). q.op) served.about;
      };
    }

-- ---- a log, act by act

Contains-push_cases : (xs : List ℕ) (y n : ℕ) → Contains (xs ++ y ∷ []) n → Contains xs n ⊎ (y ≡ n)
Contains-push_cases [] y n on = elim (Contains-cons_cases y [] n on) [ inl e ↦ inr e | inr none ↦ absurd (Contains-none n none) ]
Contains-push_cases (x ∷ xs) y n on = elim (Contains-cons_cases x (xs ++ y ∷ []) n on) [
  | inl e ↦ inl (subst (Contains (x ∷ xs)) e (Contains-here x xs))
  | inr there ↦ elim (Contains-push_cases xs y n there) [ inl old ↦ inl (Contains-there x xs n old) | inr new ↦ inr new ]
]

-- the causes of the acts of these numbers make sense
pub record AreCaused (h : List Note) (numbers : List ℕ) : Type 0 where
  pub caused : (n : ℕ) (a : Act) → Contains numbers n → note_at h n ≡ Some (notes.Act a) → CauseFits h a a.what

pub caused-none : (h : List Note) → AreCaused h []
caused-none h = record { caused = λ n a on is. absurd (Contains-none n on) }

pub caused-more : (h : List Note) (numbers : List ℕ) (i : ℕ) → i < length numbers → AreCaused h (take i numbers)
    → ((a : Act) → act_of (note_at h (get_or numbers i 0)) ≡ Some a → CauseFits h a a.what) → AreCaused h (take (i + 1) numbers)
caused-more h numbers i lt before here = record {
  caused = λ n a on is. elim (Contains-push_cases (take i numbers) (get_or numbers i 0) n
      (subst (λ (l : List ℕ). Contains l n) (take_more numbers i 0 lt) on)) [
        | inl old ↦ before.caused n a old is
        | inr new ↦ here a (ap (λ k. act_of (note_at h k)) new ∙ ap act_of is)
      ];
}

-- where all are, each act makes sense
pub caused-sense : (setting : Setting) (h : List Note) (p : NodeId) → CausesComeFirst h → IsLog setting p (acts_in_log h p) → AreCaused h (log h p)
    → MakesSense h p
caused-sense setting h p first legal all = λ n a on is.
    cause-was h n a first is a.what (λ answer again. was-served setting h p n a answer legal on is again) (all.caused n a on is)

pub sense-caused : (h : List Note) (p : NodeId) → CausesComeFirst h → MakesSense h p → (n : ℕ) (a : Act) → Contains (log h p) n
    → note_at h n ≡ Some (notes.Act a)
    → CauseFits h a a.what
sense-caused h p first sense n a on is = cause-is h n a first is a.what (sense n a on is)

-- one act whose cause does not make sense is enough
pub not-sense : (h : List Note) (p : NodeId) (i : ℕ) (a : Act) → CausesComeFirst h → i < length (log h p) → act_of (note_at h (get_or (log h p) i 0)) ≡ Some a
    → ¬ CauseFits h a a.what → ¬ MakesSense h p
not-sense h p i a first lt is wrong sense =
    let n = get_or (log h p) i 0 in
    let on : Contains (log h p) n = Contains-from_slice_get (log h p) i n (slice_get-get_or (log h p) i 0 lt) in
    let own = log-own h p n on in
    let same : Some own.act ≡ Some a = sym (ap act_of own.is_act) ∙ is in
    let mine : own.act ≡ a = cc (same) in
    wrong (sense-caused h p first sense n a on (own.is_act ∙ ap (λ b. Some (notes.Act b)) mine))
