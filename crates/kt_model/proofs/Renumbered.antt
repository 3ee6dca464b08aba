-- Acts that are placed anew have other numbers, and the logs that they make are the same for all that reads them.
-- Cited by NeverUnfit, ResumedServices.
use Rattle.std.proofs.Common.{◌≡◌, ◌≢◌, ◌⊎◌, ℕ, zero, suc, ◌+◌, ◌<◌, ◌≤◌, List, [], ◌∷◌, ◌++◌, take, drop, take-append-drop, length, map, slice_get, Contains}
use Rattle.std.proofs.Common.{Option, None, Some, inl, inr, refl, sym, ap, ◌∙◌, subst, arith}
use Rattle.std.specs.Prelude.{IsPermutation}
use Rattle.std.specs.List.{cons_option}
use Rattle.std.proofs.lemmas.List.{length-map, length-take-le, take-map}
use Rattle.std.proofs.lemmas.Option.{slice_get_cases, slice_get_within}
use Rattle.kt_tuple.specs.declared.node.NodeId.{NodeId}
use Rattle.kt_tuple.specs.declared.node.NodeId.TheVariants as ids
use Rattle.kt_tuple.specs.declared.op.Answer.{Answer}
use Rattle.kt_history.specs.declared.note.Act.{Act}
use Rattle.kt_history.specs.declared.note.What.{What}
use Rattle.kt_history.specs.declared.note.What.TheVariants as whats
use Rattle.kt_history.specs.declared.note.Note.{Note}
use Rattle.kt_history.specs.declared.note.Note.TheVariants as notes
use Rattle.kt_history.specs.Log.{note_at, before, log, IsAct}
use Rattle.kt_history.specs.Place.{place}
use Rattle.kt_history.specs.Closed.{act_of, acts_at, acts_in_log}
use Rattle.kt_history.specs.WellFormed.{CausesComeFirst, IsWellFormed, HasNoCut, Fits, ActFits, IsAsking, IsAnswering, IsShard, SameRequest}
use Rattle.kt_history.specs.WellFormed.{HeardRequest, HeardReply, WasServed, IgnoredFits}
use Rattle.kt_history.proofs.Logs.{note_at-before}
use Rattle.kt_history.proofs.Shared.{Contains-from_slice_get, Contains-here, Contains-none, Contains-there, log-own, log-rises, log-stack}
use Rattle.kt_history.proofs.Shared.{note_before, place-stands, slice_get-from_Contains, slice_get-take, slice_get-take_below, Stands-no_cut}
use Rattle.kt_ckpt.specs.declared.acts.LogAct.{LogAct}
use Rattle.kt_ckpt.specs.declared.ckpt.Ckpt.{Ckpt}
use Rattle.kt_ckpt.specs.LogActs.{log_act, log_acts, node_placed, placed as named}
use Rattle.kt_ckpt.proofs.Shared.{acts-long, log-long, take-whole}
use Rattle.kt_script.specs.declared.command.Command.{Command}
use Rattle.kt_logs.specs.Legal.{IsLog}
use Rattle.kt_logs.specs.Order.{Setting}
use Rattle.kt_logs.specs.ShardLog.{new_shard}
use Rattle.kt_logs.specs.WorkerLog.{new_worker}
use Rattle.kt_logs.proofs.Renamed.{IsAs, AreAs, IsLog-as, also_new, shard-as, worker-as}
use Rattle.kt_logs.proofs.Survive.{IsLog-front}
use Rattle.kt_logs.proofs.Traces.{Contains-acts_at}
use Rattle.kt_state.specs.Node.{Body, IsWorker as body_worker, IsShard as body_shard}
use Rattle.kt_model.specs.Asks.{script_numbered}
use Rattle.kt_scenario.specs.Scene.{SceneModel}
use Rattle.kt_model.specs.Cut.{acts_held}
use Rattle.kt_model.specs.Like.{HoldsFront, IsBodyLike, IsWorkerLike}
use Rattle.kt_model.specs.Resumed.{MakesSense}

-- the history g, of acts alone, has of each log of h the first so many acts, and with each its cause
pub record IsFrontOf (h g : List Note) (many : NodeId → ℕ) : Type 0 where
  pub formed : IsWellFormed h
  pub causes : CausesComeFirst g
  pub acts : HasNoCut g
  pub within : (p : NodeId) → many p ≤ length (log h p)
  pub long : (p : NodeId) → length (log g p) ≡ many p
  pub same : (p : NodeId) → log_acts g p ≡ take (many p) (log_acts h p)
  pub closed : (p : NodeId) (i n : ℕ) (a : Act) → i < many p → slice_get (log h p) i ≡ Some n → note_at h n ≡ Some (notes.Act a) → a.by ≢ 0
      → (q : NodeId) × (k : ℕ) × (k < many q) × (slice_get (log h q) k ≡ Some a.by)

-- ---- an act by its place

-- the number is at this place of this node's log
abbrev pub IsAt : List Note → NodeId → ℕ → ℕ → Type 0
IsAt h p i n = slice_get (log h p) i ≡ Some n

-- 0, or a number in a log
abbrev OfLog : List Note → ℕ → Type 0
OfLog h n = (n ≡ 0) ⊎ ((p : NodeId) × (i : ℕ) × IsAt h p i n)

pub name-at : (h : List Note) (p : NodeId) (i n : ℕ) → IsAt h p i n → named h n ≡ Some (p, suc i)
name-at h p i n at =
    let own = log-own h p n (Contains-from_slice_get (log h p) i n at) in
    ap (λ o. node_placed (act_of o) (place h n)) own.is_act ∙ ap (node_placed (Some own.act)) (place-stands h p i n at) ∙ ap (λ q. Some (q, suc i)) own.own

name-zero : (h : List Note) → named h 0 ≡ None
name-zero h = refl

-- at each place below the length is a number
at-there : (xs : List ℕ) (i : ℕ) → i < length xs → (n : ℕ) × (slice_get xs i ≡ Some n)
at-there xs i lt = elim (slice_get_cases xs i).1 [ inl is ↦ (is.0, is.2) | inr past ↦ let over = past.0 in absurd (omega (arith, over, lt)) ]

-- the act at a place of a log is at this place of the log's acts
acts-at : (h : List Note) (xs : List ℕ) → ((n : ℕ) → Contains xs n → IsAct h n) → (i n : ℕ) (a : Act) → slice_get xs i ≡ Some n
    → note_at h n ≡ Some (notes.Act a)
    → slice_get (acts_at h xs) i ≡ Some a
acts-at h [] all i n a at is = absurd (cc (at))
acts-at h (x ∷ xs) all i n a at is =
    let first = all x (Contains-here x xs) in
    let cons : acts_at h (x ∷ xs) ≡ first.0 ∷ acts_at h xs = ap (λ o. cons_option (act_of o) (acts_at h xs)) first.1 in
    ap (λ (l : List Act). slice_get l i) cons ∙ by i at first (acts-at h xs (λ k among. all k (Contains-there x xs k among)))
  where
    by : (j : ℕ) → slice_get (x ∷ xs) j ≡ Some n → (first : IsAct h x)
        → ((k m : ℕ) (b : Act) → slice_get xs k ≡ Some m → note_at h m ≡ Some (notes.Act b) → slice_get (acts_at h xs) k ≡ Some b)
        → slice_get (first.0 ∷ acts_at h xs) j ≡ Some a
    by zero e first rest =
        let same : x ≡ n = cc (e) in
        let both : Some (notes.Act first.0) ≡ Some (notes.Act a) = sym first.1 ∙ ap (note_at h) same ∙ is in
        cc (both)
    by (suc k) e first rest = rest k n a e is

pub act-at : (h : List Note) (p : NodeId) (i n : ℕ) (a : Act) → IsAt h p i n → note_at h n ≡ Some (notes.Act a) → slice_get (acts_in_log h p) i ≡ Some a
act-at h p = acts-at h (log h p) (λ n among. let own = log-own h p n among in (own.act, own.is_act))

pub slice-map : {X Y : Type 0} (f : X → Y) (xs : List X) (i : ℕ) (x : X) → slice_get xs i ≡ Some x → slice_get (map f xs) i ≡ Some (f x)
slice-map f [] i x at = absurd (cc (at))
slice-map f (y ∷ xs) zero x at = let same : y ≡ x = cc (at) in ap (λ z. Some (f z)) same
slice-map f (y ∷ xs) (suc i) x at = slice-map f xs i x at

module _ (h g : List Note) (many : NodeId → ℕ) (front : IsFrontOf h g many) where
  -- ---- the old and the new number of an act

  -- both are the number of an act of this name, or 0
  abbrev pub IsNew : ℕ → ℕ → Type 0
  IsNew m n = (named h m ≡ named g n) × OfLog g n

  one-new : (m n k : ℕ) → IsNew m n → IsNew m k → n ≡ k
  one-new m n k first second = by first.1 second.1
    where
      same : named g n ≡ named g k
      same = sym first.0 ∙ second.0

      by : OfLog g n → OfLog g k → n ≡ k
      by (inl zn) (inl zk) = zn ∙ sym zk
      by (inl zn) (inr at) =
          let none : None ≡ Some (at.0, suc at.1) = ap (named g) (sym zn) ∙ same ∙ name-at g at.0 at.1 k at.2 in
          absurd (cc (none))
      by (inr at) (inl zk) =
          let none : None ≡ Some (at.0, suc at.1) = ap (named g) (sym zk) ∙ sym same ∙ name-at g at.0 at.1 n at.2 in
          absurd (cc (none))
      by (inr here) (inr there) =
          let both : Some (here.0, suc here.1) ≡ Some (there.0, suc there.1) = sym (name-at g here.0 here.1 n here.2) ∙ same
          ∙ name-at g there.0 there.1 k there.2 in
          let pairs : (here.0, suc here.1) ≡ (there.0, suc there.1) = cc (both) in
          let nodes : here.0 ≡ there.0 = ap (λ (r : NodeId × ℕ). r.0) pairs in
          let after : suc here.1 ≡ suc there.1 = ap (λ (r : NodeId × ℕ). r.1) pairs in
          let places : here.1 ≡ there.1 = omega (arith, after) in
          let numbers : Some n ≡ Some k = sym here.2 ∙ ap (λ q. slice_get (log g q) here.1) nodes ∙ ap (slice_get (log g there.0)) places ∙ there.2 in
          cc (numbers)

  zero-new : IsNew 0 0
  zero-new = (refl, inl refl)

  -- the cause of a placed act is one
  cause-placed : (n : ℕ) (b : Act) → note_at g n ≡ Some (notes.Act b) → OfLog g b.by
  cause-placed n b is = by b.by refl
    where
      by : (k : ℕ) → b.by ≡ k → OfLog g b.by
      by zero e = inl e
      by (suc k) e =
          let cause : IsAct (before g n) b.by = front.causes.follows n (notes.Act b) is (λ z. omega (arith, z, e)) in
          let here = note_before g n (notes.Act b) b.by (notes.Act cause.0) is cause.1 in
          let stands = Stands-no_cut g b.by front.acts (cause.0, here.1) in
          let at = slice_get-from_Contains (log g stands.0) b.by stands.1 in
          inr (stands.0, at.0, at.1)

  as-act : (a b : Act) → log_act h a ≡ log_act g b → OfLog g b.by → IsAs IsNew a b
  as-act a b same cause = record {
    worker = ap (λ (x : LogAct). x.worker) same;
    number = ap (λ (x : LogAct). x.number) same;
    op = ap (λ (x : LogAct). x.op) same;
    what = ap (λ (x : LogAct). x.what) same;
    by = (ap (λ (x : LogAct). x.by) same, cause);
  }

  are-as : (xs ys : List Act) → map (log_act h) xs ≡ map (log_act g) ys → ((b : Act) → Contains ys b → OfLog g b.by) → AreAs IsNew xs ys
  are-as [] [] same all = tt
  are-as [] (b ∷ ys) same all = absurd (cc (same))
  are-as (a ∷ xs) [] same all = absurd (cc (same))
  are-as (a ∷ xs) (b ∷ ys) same all =
      let head : log_act h a ≡ log_act g b = cc (same) in
      let tail : map (log_act h) xs ≡ map (log_act g) ys = cc (same) in
      (as-act a b head (all b (Contains-here b ys)), are-as xs ys tail (λ c among. all c (Contains-there b ys c among)))

  -- the acts of a log are those of the old one, but for the numbers of their causes
  pub log-as : (p : NodeId) → AreAs IsNew (take (many p) (acts_in_log h p)) (acts_in_log g p)
  log-as p =
      are-as (take (many p) (acts_in_log h p)) (acts_in_log g p)
      (sym (take-map (log_act h) (many p) (acts_in_log h p)) ∙ sym (front.same p))
      (λ b among. let at = Contains-acts_at g (log g p) b among in cause-placed at.0 b at.2)

  -- ---- so they may be made, and lead to the same state

  pub new-legal : (setting : Setting) (p : NodeId) → IsLog setting p (acts_in_log h p) → IsLog setting p (acts_in_log g p)
  new-legal setting p legal =
      IsLog-as IsNew one-new zero-new setting p (take (many p) (acts_in_log h p)) (acts_in_log g p) (log-as p)
      (IsLog-front setting p (take (many p) (acts_in_log h p)) (drop (many p) (acts_in_log h p))
      (subst (IsLog setting p) (sym (take-append-drop (many p) (acts_in_log h p))) legal))

  body-as : (scripts : List (List Command)) (p : NodeId) (xs ys : List Act) (body : Body) → AreAs IsNew xs ys → IsBodyLike scripts p xs body
      → IsBodyLike scripts p ys body
  body-as scripts (ids.Worker w) xs ys (body_worker x) same like =
      subst (λ made. IsWorkerLike (script_numbered scripts w) made x) (worker-as IsNew new_worker xs ys same) like
  body-as scripts (ids.Worker w) xs ys (body_shard y) same like = like
  body-as scripts (ids.Shard s) xs ys (body_worker x) same like = like
  body-as scripts (ids.Shard s) xs ys (body_shard y) same like =
      let also = shard-as IsNew one-new new_shard new_shard xs ys same (also_new IsNew one-new zero-new) in record {
        bag = subst (λ bag. IsPermutation bag y.bag) also.bag like.bag;
        sessions = λ w. like.sessions w ∙ also.session w;
        others = like.others;
      }

  pub new-front : (scene : SceneModel) (p : NodeId) (stored : Option Ckpt) → acts_held stored ≡ many p → HoldsFront scene p (acts_in_log h p) stored
      → HoldsFront scene p (acts_in_log g p) stored
  new-front scene p stored held old =
      let long : length (acts_in_log g p) ≡ acts_held stored = log-long g p ∙ front.long p ∙ sym held in
      record {
        short = omega (arith, long);
        body = old.body;
        saved = old.saved;
        like = subst (λ (l : List Act). IsBodyLike scene.scripts p l old.body)
            (sym (take-whole (acts_in_log g p)) ∙ ap (λ n. take n (acts_in_log g p)) long)
            (body-as scene.scripts p (take (many p) (acts_in_log h p)) (acts_in_log g p) old.body (log-as p)
            (subst (λ n. IsBodyLike scene.scripts p (take n (acts_in_log h p)) old.body) held old.like));
      }

  -- ---- and each makes sense

  -- the old act and the new one at a place
  record Pair (p : NodeId) (i : ℕ) (a b : Act) : Type 0 where
    alike : IsAs IsNew a b
    old_own : a.node ≡ p
    new_own : b.node ≡ p

  acts-long-h : (p : NodeId) → length (take (many p) (log_acts h p)) ≡ many p
  acts-long-h p =
      let within = front.within p in
      let long : length (log_acts h p) ≡ length (log h p) = acts-long h p ∙ log-long h p in
      length-take-le (many p) (log_acts h p) (omega (arith, within, long))

  pair : (p : NodeId) (i m n : ℕ) (a b : Act) → IsAt h p i m → note_at h m ≡ Some (notes.Act a) → IsAt g p i n → note_at g n ≡ Some (notes.Act b) → Pair p i a b
  pair p i m n a b at_h is_a at_g is_b =
      let below : i < many p = let lt = slice_get_within (log g p) i n at_g in let long = front.long p in omega (arith, lt, long) in
      let old : slice_get (log_acts h p) i ≡ Some (log_act h a) = slice-map (log_act h) (acts_in_log h p) i a (act-at h p i m a at_h is_a) in
      let new : slice_get (log_acts g p) i ≡ Some (log_act g b) = slice-map (log_act g) (acts_in_log g p) i b (act-at g p i n b at_g is_b) in
      let both : Some (log_act h a) ≡ Some (log_act g b) =
      sym old ∙ sym (slice_get-take_below (many p) (log_acts h p) i below) ∙ ap (λ (l : List LogAct). slice_get l i) (sym (front.same p)) ∙ new in
      let same : log_act h a ≡ log_act g b = cc (both) in
      let own_h = log-own h p m (Contains-from_slice_get (log h p) i m at_h) in
      let own_g = log-own g p n (Contains-from_slice_get (log g p) i n at_g) in
      let is_h : Some (notes.Act own_h.act) ≡ Some (notes.Act a) = sym own_h.is_act ∙ is_a in
      let is_g : Some (notes.Act own_g.act) ≡ Some (notes.Act b) = sym own_g.is_act ∙ is_b in
      let act_h : own_h.act ≡ a = cc (is_h) in
      let act_g : own_g.act ≡ b = cc (is_g) in
      record {
        alike = as-act a b same (cause-placed n b is_b);
        old_own = ap (λ (x : Act). x.node) (sym act_h) ∙ own_h.own;
        new_own = ap (λ (x : Act). x.node) (sym act_g) ∙ own_g.own;
      }

  module _ (p : NodeId) (i m n : ℕ) (a b : Act) (at_h : IsAt h p i m) (is_a : note_at h m ≡ Some (notes.Act a)) (at_g : IsAt g p i n)
      (is_b : note_at g n ≡ Some (notes.Act b)) where
    two : Pair p i a b
    two = pair p i m n a b at_h is_a at_g is_b

    below : i < many p
    below = let lt = slice_get_within (log g p) i n at_g in let long = front.long p in omega (arith, lt, long)

    -- its cause
    record HasCause (c : Act) : Type 0 where
      cause : Act
      is_cause : note_at (before g n) b.by ≡ Some (notes.Act cause)
      alike : IsAs IsNew c cause
      node : c.node ≡ cause.node

    has-cause : (c : Act) → note_at (before h m) a.by ≡ Some (notes.Act c) → HasCause c
    has-cause c is_c =
        let old = note_before h m (notes.Act a) a.by (notes.Act c) is_a is_c in
        let some_h : a.by ≢ 0 = λ z. let none : None ≡ Some (notes.Act c) = ap (note_at h) (sym z) ∙ old.1 in absurd (cc (none)) in
        let at = front.closed p i m a below at_h is_a some_h in
        let there = at-there (log g at.0) at.1 (let lt = at.2 in let long = front.long at.0 in omega (arith, lt, long)) in
        let new : IsNew a.by there.0 = (name-at h at.0 at.1 a.by at.3 ∙ sym (name-at g at.0 at.1 there.0 there.1), inr (at.0, at.1, there.1)) in
        let number : there.0 ≡ b.by = one-new a.by there.0 b.by new two.alike.by in
        let at_cause : IsAt g at.0 at.1 b.by = there.1 ∙ ap Some number in
        let some_g : b.by ≢ 0 = λ z.
        let none : named h a.by ≡ None = two.alike.by.0 ∙ ap (named g) z in
        let some : Some (at.0, suc at.1) ≡ None = sym (name-at h at.0 at.1 a.by at.3) ∙ none in
        absurd (cc (some)) in
        let cause : IsAct (before g n) b.by = front.causes.follows n (notes.Act b) is_b some_g in
        let here = note_before g n (notes.Act b) b.by (notes.Act cause.0) is_b cause.1 in
        let causes = pair at.0 at.1 a.by b.by c cause.0 at.3 old.1 at_cause here.1 in
        record { cause = cause.0; is_cause = cause.1; alike = causes.alike; node = causes.old_own ∙ sym causes.new_own }

    same-request : (x y : Act) → IsAs IsNew x y → SameRequest a x → SameRequest b y
    same-request x y xy same = record {
      worker = sym xy.worker ∙ same.worker ∙ two.alike.worker;
      number = sym xy.number ∙ same.number ∙ two.alike.number;
      op = sym xy.op ∙ same.op ∙ two.alike.op;
    }

    request : HeardRequest (before h m) a → HeardRequest (before g n) b
    request heard = let has = has-cause heard.cause heard.is_cause in record {
      cause = has.cause;
      is_cause = has.is_cause;
      asking = subst IsAsking has.alike.what heard.asking;
      same = same-request heard.cause has.cause has.alike heard.same;
    }

    reply : (answer : Answer) → HeardReply (before h m) a answer → HeardReply (before g n) b answer
    reply answer heard = let has = has-cause heard.cause heard.is_cause in record {
      cause = has.cause;
      is_cause = has.is_cause;
      at_shard = subst IsShard has.node heard.at_shard;
      answering = subst (λ w. IsAnswering w answer) has.alike.what heard.answering;
      same = same-request heard.cause has.cause has.alike heard.same;
    }

    served : (answer : Answer) → WasServed (before h m) a answer → WasServed (before g n) b answer
    served answer was =
        let stack_h : log (before h m) p ≡ take i (log h p) = log-stack h p i m at_h in
        let stack_g : log (before g n) p ≡ take i (log g p) = log-stack g p i n at_g in
        let among : Contains (take i (log h p)) was.service =
        subst (λ (l : List ℕ). Contains l was.service) (ap (log (before h m)) two.old_own ∙ stack_h) was.stands in
        let at = slice_get-from_Contains (take i (log h p)) was.service among in
        let old = slice_get-take i (log h p) at.0 was.service at.1 in
        let lt : at.0 < i = old.0 in
        let there = at-there (log g p) at.0 (let lim = below in let long = front.long p in omega (arith, lt, lim, long)) in
        let in_front : slice_get (take i (log g p)) at.0 ≡ Some there.0 = slice_get-take_below i (log g p) at.0 lt ∙ there.1 in
        let stands : Contains (log (before g n) b.node) there.0 =
        subst (λ (l : List ℕ). Contains l there.0) (sym stack_g ∙ ap (log (before g n)) (sym two.new_own))
        (Contains-from_slice_get (take i (log g p)) at.0 there.0 in_front) in
        let own = log-own g p there.0 (Contains-from_slice_get (log g p) at.0 there.0 there.1) in
        let is_old = note_before h m (notes.Act a) was.service (notes.Act was.act) is_a was.is_act in
        let services = pair p at.0 was.service there.0 was.act own.act old.1 is_old.1 there.1 own.is_act in
        let earlier : there.0 < n = log-rises g p at.0 i there.0 n lt there.1 at_g in
        record {
          service = there.0;
          stands = stands;
          act = own.act;
          is_act = note_at-before g n there.0 earlier ∙ own.is_act;
          served = sym services.alike.what ∙ was.served;
          same = same-request was.act own.act services.alike was.same;
        }

    ignored : (p : NodeId) (answer : Option Answer) → IgnoredFits (before h m) a p answer → IgnoredFits (before g n) b p answer
    ignored (ids.Shard s) None fits = request fits
    ignored (ids.Shard s) (Some answer) fits = fits
    ignored (ids.Worker w) (Some answer) fits = reply answer fits
    ignored (ids.Worker w) None fits = fits

    fits-what : (what : What) → ActFits (before h m) a what → ActFits (before g n) b what
    fits-what whats.Issue fits = sym (one-new 0 0 b.by zero-new (subst (λ k. IsNew k b.by) fits two.alike.by))
    fits-what whats.Repeat fits = sym (one-new 0 0 b.by zero-new (subst (λ k. IsNew k b.by) fits two.alike.by))
    fits-what whats.Heard fits = request fits
    fits-what (whats.Served answer) fits = request fits
    fits-what (whats.Again answer) fits = (request fits.0, served answer fits.1)
    fits-what (whats.Accepted answer) fits = reply answer fits
    fits-what (whats.Ignored answer) fits =
        subst (λ q. IgnoredFits (before g n) b q answer) (two.old_own ∙ sym two.new_own) (ignored a.node answer fits)

    fits-new : Fits (before h m) (notes.Act a) → Fits (before g n) (notes.Act b)
    fits-new fits = subst (ActFits (before g n) b) two.alike.what (fits-what a.what fits)

  pub new-sense : (p : NodeId) → MakesSense g p
  new-sense p n b among is_b =
      let at = slice_get-from_Contains (log g p) n among in
      let lt = slice_get_within (log g p) at.0 n at.1 in
      let long = front.long p in
      let within = front.within p in
      let old = at-there (log h p) at.0 (omega (arith, lt, long, within)) in
      let own = log-own h p old.0 (Contains-from_slice_get (log h p) at.0 old.0 old.1) in
      fits-new p at.0 old.0 n own.act b old.1 own.is_act at.1 is_b (front.formed.fits old.0 (notes.Act own.act) own.is_act)
