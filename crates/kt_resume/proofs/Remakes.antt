-- A shard that is made again, act by act.
-- Cited by Suited, `Remade::ignores`, `Remade::makes_all`, `Remade::makes`, `suits::are_empty_outside`.
use Rattle.std.proofs.Common.{◌≡◌, ◌≢◌, ℕ, ◌+◌, ◌<◌, Bool, IsTrue, List, [], ◌∷◌, ◌++◌, length, take, drop, set, get_or, zero, suc, All, IsPermutation, Option}
use Rattle.std.proofs.Common.{Some, None, refl, sym, ap, subst, ◌∙◌, arith, take-append-drop, replicate}
use Rattle.std.specs.Prelude.{◌↔◌}
use Rattle.std.proofs.lemmas.List.{append_assoc, get_or_default}
use Rattle.std.proofs.lemmas.List.Elements.{All-contains, Contains-append_right}
use Rattle.std.proofs.lemmas.List.Sorted.{IsPermutation-sym, IsPermutation-refl}
use Rattle.kt_tuple.specs.declared.tuple.Tuple.{Tuple}
use Rattle.kt_tuple.specs.declared.op.Op.{Op}
use Rattle.kt_tuple.specs.declared.op.Answer.{Answer}
use Rattle.kt_tuple.specs.Signature.{kinds_of_op, shard_of}
use Rattle.kt_tuple.specs.Space.{SpaceStep}
use Rattle.kt_history.specs.declared.note.Act.{Act}
use Rattle.kt_history.specs.declared.note.Note.{Note}
use Rattle.kt_history.specs.declared.note.What.{What}
use Rattle.kt_history.specs.declared.note.What.TheVariants as whats
use Rattle.kt_history.specs.Log.{note_at}
use Rattle.kt_history.specs.Closed.{act_of, acts_at}
use Rattle.kt_history.proofs.Fronts.{acts_at-append}
use Rattle.kt_history.proofs.Shared.{Contains-here}
use Rattle.kt_shard.specs.declared.session.Session.{Session}
use Rattle.kt_shard.specs.Table.{at, put}
use Rattle.kt_shard.proofs.Shared.{at-put_other, at-put_same, put-set}
use Rattle.kt_logs.specs.Bag.{served_bag}
use Rattle.kt_logs.specs.ShardLog.{MadeShard, ShardLog, ShardMakes, ShardMay, bag_after, cause_after, session_after, new_shard, put_row, shard_after}
use Rattle.kt_logs.specs.ShardLog.{shard_of_acts}
use Rattle.kt_logs.proofs.Shared.{put_row_holds, step_like}
use Rattle.kt_resume.specs.Remade.{IsRemade, RemadeShard, Slot, empty_slot}
use Rattle.kt_resume.specs.auxiliary.Slots.{slot_after}
use Rattle.kt_resume.proofs.Workers.{acts-more}

-- ---- one act

-- the slot that stands at a place is what the table has there
pub slot_at : (slots : List Slot) (w : ℕ) (slot : Slot) → w < length slots → slot ≡ get_or slots w slot → slot ≡ at empty_slot slots w
slot_at slots w slot lt is = is ∙ get_or_default slots w slot empty_slot lt

pub slot_found : (slots items : List Slot) (w i n : ℕ) (slot : Slot) → items ≡ slots → length items ≡ n → i ≡ w → w < n → slot ≡ get_or items i slot
    → slot ≡ at empty_slot slots w
slot_found slots items w i n slot same long place lt is =
    slot_at slots w slot (subst (λ k. w < k) (sym long ∙ ap (λ (l : List Slot). length l) same) lt)
    (is ∙ ap (λ k. get_or items k slot) place ∙ ap (λ (l : List Slot). get_or l w slot) same)

-- the shard may make the act just where its slot and its bag allow it
pub makes_where : (shards s : ℕ) (made : MadeShard) (r : RemadeShard) (a : Act) (what : What) (slot : Slot) → IsRemade made r
    → slot ≡ at empty_slot r.slots a.worker
    → a.what ≡ what → shard_of shards (kinds_of_op a.op) ≡ s → ShardMay made.bag slot.session slot.cause a what → ShardMakes shards s made a
makes_where shards s made r a what slot like is e home may =
    let session : slot.session ≡ made.session a.worker = ap (λ (x : Slot). x.session) is ∙ like.sessions a.worker in
    let cause : slot.cause ≡ made.cause a.worker = ap (λ (x : Slot). x.cause) is ∙ like.causes a.worker in (
      home,
      subst (ShardMay made.bag (made.session a.worker) (made.cause a.worker) a) (sym e)
          (subst (λ d. ShardMay made.bag d (made.cause a.worker) a what) session (subst (λ k. ShardMay made.bag slot.session k a what) cause may)),
    )

pub allows : (shards s : ℕ) (made : MadeShard) (r : RemadeShard) (a : Act) (what : What) (slot : Slot) → IsRemade made r → slot ≡ at empty_slot r.slots a.worker
    → a.what ≡ what → ShardMakes shards s made a → ShardMay made.bag slot.session slot.cause a what
allows shards s made r a what slot like is e makes =
    let session : slot.session ≡ made.session a.worker = ap (λ (x : Slot). x.session) is ∙ like.sessions a.worker in
    let cause : slot.cause ≡ made.cause a.worker = ap (λ (x : Slot). x.cause) is ∙ like.causes a.worker in
    subst (λ d. ShardMay made.bag d slot.cause a what) (sym session) (subst (λ k. ShardMay made.bag (made.session a.worker) k a what) (sym cause)
    (subst (ShardMay made.bag (made.session a.worker) (made.cause a.worker) a) e makes.1))

-- an act that changes the slot of its worker
pub remade_after : (made : MadeShard) (r : RemadeShard) (a : Act) (slot new : Slot) (bag : List Tuple) → IsRemade made r → a.worker < length r.slots
    → slot ≡ at empty_slot r.slots a.worker → new ≡ slot_after slot a a.what → IsPermutation (bag_after made.bag a a.what) bag
    → IsRemade (shard_after made a) (record { bag = bag; slots = set r.slots a.worker new })
remade_after made r a slot new bag like lt is after bags = record {
  bag = bags;
  sessions =
      put_row_holds (λ v (d : Session). (at empty_slot (set r.slots w new) v).session ≡ d) w (session_after (made.session w) a a.what) made.session
      (ap (λ (x : Slot). x.session) (own ∙ after) ∙ ap (λ (d : Session). session_after d a a.what) (ap (λ (x : Slot). x.session) is ∙ like.sessions w))
      (λ v other. ap (λ (x : Slot). x.session) (others v other) ∙ like.sessions v);
  causes =
      put_row_holds (λ v (k : ℕ). (at empty_slot (set r.slots w new) v).cause ≡ k) w (cause_after (made.cause w) a a.what) made.cause
      (ap (λ (x : Slot). x.cause) (own ∙ after) ∙ ap (λ (k : ℕ). cause_after k a a.what) (ap (λ (x : Slot). x.cause) is ∙ like.causes w))
      (λ v other. ap (λ (x : Slot). x.cause) (others v other) ∙ like.causes v);
}
  where
    w : ℕ
    w = a.worker

    same : set r.slots a.worker new ≡ put empty_slot r.slots a.worker new
    same = sym (put-set empty_slot r.slots a.worker new lt)

    own : at empty_slot (set r.slots a.worker new) a.worker ≡ new
    own = ap (λ (l : List Slot). at empty_slot l a.worker) same ∙ at-put_same empty_slot r.slots a.worker new

    others : (v : ℕ) → a.worker ≢ v → at empty_slot (set r.slots a.worker new) v ≡ at empty_slot r.slots v
    others v other =
        ap (λ (l : List Slot). at empty_slot l v) same ∙ at-put_other empty_slot r.slots a.worker v new (λ e. other (sym e))

-- an act that changes nothing
pub remade_stays : (made : MadeShard) (r : RemadeShard) (a : Act) → IsRemade made r → ((d : Session) → session_after d a a.what ≡ d)
    → ((k : ℕ) → cause_after k a a.what ≡ k) → bag_after made.bag a a.what ≡ made.bag → IsRemade (shard_after made a) r
remade_stays made r a like session cause bag = record {
  bag = subst (λ (l : List Tuple). IsPermutation l r.bag) (sym bag) like.bag;
  sessions =
      put_row_holds (λ v (d : Session). (at empty_slot r.slots v).session ≡ d) a.worker (session_after (made.session a.worker) a a.what) made.session
      (like.sessions a.worker ∙ sym (session (made.session a.worker))) (λ v other. like.sessions v);
  causes =
      put_row_holds (λ v (k : ℕ). (at empty_slot r.slots v).cause ≡ k) a.worker (cause_after (made.cause a.worker) a a.what) made.cause
      (like.causes a.worker ∙ sym (cause (made.cause a.worker))) (λ v other. like.causes v);
}

-- what a bag that differs in order alone answers
pub answered : (made old new : List Tuple) (op : Op) (answer : Answer) → IsPermutation made old → SpaceStep old op answer new
    → SpaceStep made op answer (served_bag made op answer) × IsPermutation (served_bag made op answer) new
answered made old new op answer like step = step_like made old op answer new like step

pub answers : (made old : List Tuple) (op : Op) (answer : Answer) → IsPermutation made old → SpaceStep made op answer (served_bag made op answer)
    → SpaceStep old op answer (served_bag old op answer)
answers made old op answer like step =
    (step_like old made op answer (served_bag made op answer) (IsPermutation-sym made old like) step).0

-- ---- the beginning

at-empty : (n w : ℕ) → at empty_slot (replicate n empty_slot) w ≡ empty_slot
at-empty zero w = refl
at-empty (suc n) zero = refl
at-empty (suc n) (suc w) = at-empty n w

pub remade_new : (r : RemadeShard) (n : ℕ) → r.bag ≡ [] → r.slots ≡ replicate n empty_slot → IsRemade new_shard r
remade_new r n bag slots = record {
  bag = subst (λ (l : List Tuple). IsPermutation [] l) (sym bag) (IsPermutation-refl []);
  sessions = λ w. ap (λ (x : Slot). x.session) (ap (λ (l : List Slot). at empty_slot l w) slots ∙ at-empty n w);
  causes = λ w. ap (λ (x : Slot). x.cause) (ap (λ (l : List Slot). at empty_slot l w) slots ∙ at-empty n w);
}

-- ---- a log, act by act

-- a shard that may make a whole log may make each act of it
log-makes : (shards s : ℕ) (x : MadeShard) (xs : List Act) (a : Act) (ys : List Act) → ShardLog shards s x (xs ++ a ∷ ys)
    → ShardMakes shards s (shard_of_acts x xs) a
log-makes shards s x [] a ys legal = legal.0
log-makes shards s x (b ∷ xs) a ys legal = log-makes shards s (shard_after x b) xs a ys legal.1

split : (h : List Note) (xs : List ℕ) (i : ℕ) (a : Act) → i < length xs → act_of (note_at h (get_or xs i 0)) ≡ Some a
    → acts_at h xs ≡ acts_at h (take i xs) ++ a ∷ acts_at h (drop (i + 1) xs)
split h xs i a lt is =
    ap (acts_at h) (sym (take-append-drop (i + 1) xs)) ∙ acts_at-append h (take (i + 1) xs) (drop (i + 1) xs)
    ∙ ap (λ l. l ++ acts_at h (drop (i + 1) xs)) (acts-more h xs i a lt is)
    ∙ append_assoc (acts_at h (take i xs)) (a ∷ []) (acts_at h (drop (i + 1) xs))

pub log_act : (shards s : ℕ) (x : MadeShard) (h : List Note) (xs : List ℕ) (i : ℕ) (a : Act) → i < length xs
    → act_of (note_at h (get_or xs i 0)) ≡ Some a → ShardLog shards s x (acts_at h xs) → ShardMakes shards s (shard_of_acts x (acts_at h (take i xs))) a
log_act shards s x h xs i a lt is legal =
    log-makes shards s x (acts_at h (take i xs)) a (acts_at h (drop (i + 1) xs)) (subst (ShardLog shards s x) (split h xs i a lt is) legal)

pub all_act : (P : Act → Type 0) (h : List Note) (xs : List ℕ) (i : ℕ) (a : Act) → i < length xs → act_of (note_at h (get_or xs i 0)) ≡ Some a
    → All P (acts_at h xs) → P a
all_act P h xs i a lt is all =
    let front = acts_at h (take i xs) in
    let rest = acts_at h (drop (i + 1) xs) in
    All-contains P (front ++ a ∷ rest) a (subst (All P) (split h xs i a lt is) all) (Contains-append_right front (a ∷ rest) a (Contains-here a rest))

pub ShardLog-more : (shards s : ℕ) (x : MadeShard) (xs : List Act) (a : Act) → ShardLog shards s x xs → ShardMakes shards s (shard_of_acts x xs) a
    → ShardLog shards s x (xs ++ a ∷ [])
ShardLog-more shards s x [] a legal makes = (makes, tt)
ShardLog-more shards s x (b ∷ xs) a legal makes = (legal.0, ShardLog-more shards s (shard_after x b) xs a legal.1 makes)
