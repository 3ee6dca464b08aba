-- The part under a causally closed cut is one run of the sequential space, follows the scripts, and each shard's share of
-- the run's tuples is the bag that the first acts of its log lead to.
-- Cited by PermanentPart, ResumedServices.
use Rattle.std.proofs.Common.{◌≡◌, ℕ, zero, suc, ◌<◌, ◌≤◌, true, List, [], ◌∷◌, ◌++◌, take, length, filter}
use Rattle.std.proofs.Common.{Contains, Option, Some, None, IsTrue, inl, inr, refl, sym, ap, ◌∙◌, subst, arith, length-append}
use Rattle.std.specs.List.{slice_get}
use Rattle.std.proofs.lemmas.Bool.{cases_lt, false≢true}
use Rattle.std.proofs.lemmas.List.{take_at}
use Rattle.kt_tuple.specs.declared.node.NodeId.{NodeId}
use Rattle.kt_tuple.specs.declared.node.NodeId.TheVariants as nodes
use Rattle.kt_tuple.specs.Space.{IsSpaceRun}
use Rattle.kt_history.specs.declared.note.Act.{Act}
use Rattle.kt_history.specs.declared.note.Note.{Note}
use Rattle.kt_history.specs.declared.note.Note.TheVariants as notes
use Rattle.kt_history.specs.Log.{note_at, log}
use Rattle.kt_history.specs.Past.{itself, in_log, by_cause}
use Rattle.kt_history.specs.Survival.{marked_acts}
use Rattle.kt_history.specs.Closed.{IsClosed, acts_at, acts_in_log, own}
use Rattle.kt_history.specs.WellFormed.{IsWellFormed}
use Rattle.kt_history.proofs.Shared.{slice_get-append_left, slice_get-from_Contains, slice_get-take, Contains-here, Contains-there}
use Rattle.kt_history.proofs.Shared.{Contains-from_slice_get, Contains-from_take, Contains-from_list_any, list_any-from_Contains, log-own, log-rises}
use Rattle.kt_history.proofs.Shared.{acts_at-take, marked_front}
use Rattle.kt_logs.specs.Order.{Setting, FollowsScripts}
use Rattle.kt_logs.specs.ShardLog.{shard_of_acts, new_shard}
use Rattle.kt_logs.specs.Legal.{AreLegal}
use Rattle.kt_logs.proofs.Shared.{is_home, marked_tuples, closed_run, closed_order}
use Rattle.kt_model.specs.Cut.{IsInCut, IsCausallyClosed, note_in_cut, is_in_cut, part}

-- ---- the test

pub marked-in_cut : (h : List Note) (cut : NodeId → ℕ) (n : ℕ) → IsInCut h cut n → IsTrue (is_in_cut h cut n)
unfolding is_in_cut
marked-in_cut h cut n c =
    let its = log-own h c.0 n (Contains-from_take (cut c.0) (log h c.0) n c.1) in
    let Of : NodeId → Type 0 = λ p. Contains (take (cut p) (log h p)) n in
    let there : Contains (take (cut its.act.node) (log h its.act.node)) n = subst Of (sym its.own) c.1 in
    ap (note_in_cut h cut n) its.is_act ∙ list_any-from_Contains (take (cut its.act.node) (log h its.act.node)) n there

pub in_cut-marked : (h : List Note) (cut : NodeId → ℕ) (n : ℕ) → IsTrue (is_in_cut h cut n) → IsInCut h cut n
unfolding is_in_cut
in_cut-marked h cut n t = by (note_at h n) t
  where
    by : (o : Option Note) → note_in_cut h cut n o ≡ true → IsInCut h cut n
    by None e = absurd (false≢true e)
    by (Some (notes.Cut p keep)) e = absurd (false≢true e)
    by (Some (notes.Act a)) e = (a.node, Contains-from_list_any (take (cut a.node) (log h a.node)) n e)

pub cut-closed : (h : List Note) (cut : NodeId → ℕ) → IsCausallyClosed h cut → IsClosed h (is_in_cut h cut)
cut-closed h cut closed = record {
  stands = λ n t. let c = in_cut-marked h cut n t in (c.0, Contains-from_take (cut c.0) (log h c.0) n c.1);
  below = λ g n t s. marked-in_cut h cut g (closed g n (in_log s itself) (in_cut-marked h cut n t));
  cause = λ g n t s. marked-in_cut h cut g (closed g n (by_cause s itself) (in_cut-marked h cut n t));
}

-- ---- of each node the acts of the cut are the first so many

-- no number stands twice in a log
once : (h : List Note) (p : NodeId) (i j n : ℕ) → i < j → slice_get (log h p) i ≡ Some n → slice_get (log h p) j ≡ Some n → ⊥
once h p i j n below at_i at_j = let less = log-rises h p i j n n below at_i at_j in omega (arith, less)

-- a marked act of p is among the first so many of p's own log
marked_own : (h : List Note) (cut : NodeId → ℕ) (p : NodeId) (n : ℕ) → Contains (log h p) n → IsTrue (is_in_cut h cut n) → Contains (take (cut p) (log h p)) n
marked_own h cut p n stands t =
    let c = in_cut-marked h cut n t in
    let own_there = log-own h c.0 n (Contains-from_take (cut c.0) (log h c.0) n c.1) in
    let own_here = log-own h p n stands in
    let same : own_there.act ≡ own_here.act =
    let both : Some (notes.Act own_there.act) ≡ Some (notes.Act own_here.act) = sym own_there.is_act ∙ own_here.is_act in cc in
    let Of : NodeId → Type 0 = λ q. Contains (take (cut q) (log h q)) n in
    subst Of (sym own_there.own ∙ ap (λ (a : Act). a.node) same ∙ own_here.own) c.1

-- the entry at a place of the list
entry-at : (xs : List ℕ) (k : ℕ) → k < length xs → (n : ℕ) × (slice_get xs k ≡ Some n)
entry-at [] k below = absurd (omega (arith, below))
entry-at (x ∷ xs) zero below = (x, refl)
entry-at (x ∷ xs) (suc k) below = entry-at xs k (omega (arith, below))

entry-taken : (k i n : ℕ) (xs : List ℕ) → i < k → slice_get xs i ≡ Some n → Contains (take k xs) n
entry-taken zero i n xs below e = absurd (omega (arith, below))
entry-taken (suc k) i n [] below e = absurd cc
entry-taken (suc k) zero n (x ∷ xs) below e = let same : x ≡ n = cc in subst (Contains (x ∷ take k xs)) same (Contains-here x (take k xs))
entry-taken (suc k) (suc i) n (x ∷ xs) below e = Contains-there x (take k xs) n (entry-taken k i n xs (omega (arith, below)) e)

-- the first of what stands behind a list
entry-behind : (xs : List ℕ) (y : ℕ) (ys : List ℕ) → slice_get (xs ++ y ∷ ys) (length xs) ≡ Some y
entry-behind [] y ys = refl
entry-behind (x ∷ xs) y ys = entry-behind xs y ys

-- the marked front is as long as the cut says
front_long : (h : List Note) (cut : NodeId → ℕ) (p : NodeId) (front rest : List ℕ) → log h p ≡ front ++ rest → cut p ≤ length (log h p)
    → ((n : ℕ) → Contains front n → IsTrue (is_in_cut h cut n)) → ((n : ℕ) → Contains rest n → ¬ IsTrue (is_in_cut h cut n)) → length front ≡ cut p
front_long h cut p front rest split within marked unmarked = elim (cases_lt (length front) (cut p)) [
  | inl shorter ↦ absurd (short rest split unmarked shorter)
  | inr from ↦ elim (cases_lt (cut p) (length front)) [ inl longer ↦ absurd (long longer) | inr to ↦ omega (arith, from, to) ]
]
  where
    At : List ℕ → ℕ → ℕ → Type 0
    At l i n = slice_get l i ≡ Some n

    short : (r : List ℕ) → log h p ≡ front ++ r → ((n : ℕ) → Contains r n → ¬ IsTrue (is_in_cut h cut n)) → length front < cut p → ⊥
    short [] is out less =
        let all = length-append front [] in
        let same : length (log h p) ≡ length (front ++ []) = ap (λ (l : List ℕ). length l) is in
        omega (arith, all, same, within, less)
    short (y ∷ ys) is out less =
        let here : slice_get (log h p) (length front) ≡ Some y = ap (λ l. slice_get l (length front)) is ∙ entry-behind front y ys in
        out y (Contains-here y ys) (marked-in_cut h cut y (p, entry-taken (cut p) (length front) y (log h p) less here))

    long : cut p < length front → ⊥
    long more =
        let n = entry-at front (cut p) more in
        let here : slice_get (log h p) (cut p) ≡ Some n.0 = ap (λ l. slice_get l (cut p)) split ∙ slice_get-append_left front rest (cut p) more ∙ n.1 in
        let among = marked_own h cut p n.0 (Contains-from_slice_get (log h p) (cut p) n.0 here) (marked n.0 (Contains-from_slice_get front (cut p) n.0 n.1)) in
        let again = slice_get-from_Contains (take (cut p) (log h p)) n.0 among in
        let was = slice_get-take (cut p) (log h p) again.0 n.0 again.1 in
        once h p again.0 (cut p) n.0 was.0 was.1 here

pub cut_acts : (h : List Note) (cut : NodeId → ℕ) → IsCausallyClosed h cut → (p : NodeId) → cut p ≤ length (log h p)
    → own p (marked_acts (is_in_cut h cut) h) ≡ take (cut p) (acts_in_log h p)
cut_acts h cut closed p within =
    let m = marked_front h (is_in_cut h cut) (cut-closed h cut closed) p in
    let f = m.is_front in
    let long : length f.front ≡ cut p = front_long h cut p f.front f.rest f.split within f.marked f.unmarked in
    let front : take (cut p) (log h p) ≡ f.front = ap (take (cut p)) f.split ∙ take_at f.front f.rest (cut p) long in
    m.acts ∙ ap (acts_at h) (sym front) ∙ acts_at-take h (cut p) (log h p) (λ n c. let its = log-own h p n c in (its.act, its.is_act))

-- ---- the part

pub part_run : (setting : Setting) (h : List Note) (cut : NodeId → ℕ) → AreLegal setting h → IsCausallyClosed h cut
    → IsSpaceRun (part h cut) (marked_tuples (is_in_cut h cut) h)
unfolding part
part_run setting h cut legal closed = (closed_run setting h (is_in_cut h cut) legal (cut-closed h cut closed)).0

pub part_order : (setting : Setting) (h : List Note) (cut : NodeId → ℕ) → AreLegal setting h → IsWellFormed h → IsCausallyClosed h cut
    → FollowsScripts setting (part h cut)
unfolding part
part_order setting h cut legal wf closed = closed_order setting h (is_in_cut h cut) legal wf (cut-closed h cut closed)

pub part_share : (setting : Setting) (h : List Note) (cut : NodeId → ℕ) → AreLegal setting h → IsCausallyClosed h cut → (s : ℕ)
    → cut (nodes.Shard s) ≤ length (log h (nodes.Shard s))
    → filter (is_home setting.shards s) (marked_tuples (is_in_cut h cut) h) ≡
    (shard_of_acts new_shard (take (cut (nodes.Shard s)) (acts_in_log h (nodes.Shard s)))).bag
part_share setting h cut legal closed s within =
    (closed_run setting h (is_in_cut h cut) legal (cut-closed h cut closed)).1 s
    ∙ ap (λ l. (shard_of_acts new_shard l).bag) (cut_acts h cut closed (nodes.Shard s) within)
