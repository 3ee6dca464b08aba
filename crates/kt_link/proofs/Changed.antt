-- A queue that is changed in place changes one link of the network.
-- Cited by `Links::pop`, `Links::push_reserved`, `Links::push`, `Links::reserve`.
use Rattle.std.proofs.Common.{◌≡◌, ℕ, ◌<◌, List, [], map, length, set, get_or, Option, Some, sym, ap, subst, ◌∙◌, arith}
use Rattle.std.specs.Prelude.{IfSome}
use Rattle.std.proofs.Math.Path.{ap₂}
use Rattle.std.proofs.lemmas.List.{map-set, get_or-map, get_or-set_same, length-map}
use Rattle.std.specs.declared.collections.VecDeque.{VecDeque}
use Rattle.std.specs.declared.alloc.Global.{Global}
use Rattle.kt_tuple.specs.declared.node.NodeId.{NodeId}
use Rattle.kt_link.specs.Network.{Network, ChangesOnly, place, queue, room, entry_at, with_entry}
use Rattle.kt_link.specs.auxiliary.Queues.{network_of, spare}

-- what a list of entries has at a place that was written
entry_set : {A : Type 0} (d new : A) (entries : List A) (at : Option ℕ) (k : ℕ) → at ≡ Some k → k < length entries → entry_at d (set entries k new) at ≡ new
entry_set {A} d new entries at k is lt =
    ap (entry_at d (set entries k new)) is ∙ get_or-set_same entries k new d lt

set_entry : {A : Type 0} (new : A) (entries : List A) (at : Option ℕ) (k : ℕ) → at ≡ Some k → set entries k new ≡ with_entry entries at new
set_entry {A} new entries at k is = sym (ap (λ (o : Option ℕ). with_entry entries o new) is)

-- the same of a list of which f is seen
seen : {X A : Type 0} (f : X → A) (d : A) (xs : List X) (at : Option ℕ) (k : ℕ) (x : X) → at ≡ Some k → k < length xs → x ≡ get_or xs k x
    → entry_at d (map f xs) at ≡ f x
seen {X} {A} f d xs at k x is lt was =
    ap (entry_at d (map f xs)) is ∙ get_or-map f xs k x d lt ∙ ap f (sym was)

seen_set : {X A : Type 0} (f : X → A) (d : A) (xs : List X) (at : Option ℕ) (k : ℕ) (new : X) → at ≡ Some k → k < length xs
    → entry_at d (map f (set xs k new)) at ≡ f new
seen_set {X} {A} f d xs at k new is lt =
    ap (λ (l : List A). entry_at d l at) (map-set f xs k new) ∙ entry_set d (f new) (map f xs) at k is (omega (arith, length-map xs f))

set_seen : {X A : Type 0} (f : X → A) (d : A) (xs : List X) (at : Option ℕ) (k : ℕ) (new : X) → at ≡ Some k → k < length xs
    → map f (set xs k new) ≡ with_entry (map f xs) at (entry_at d (map f (set xs k new)) at)
set_seen {X} {A} f d xs at k new is lt =
    map-set f xs k new ∙ set_entry (f new) (map f xs) at k is ∙ ap (with_entry (map f xs) at) (sym (seen_set f d xs at k new is lt))

-- these queues are the network, and the link from p to q is the k-th of them
pub record IsAt {M : Type 0} (old : Network M) (workers shards : ℕ) (queues : List (VecDeque M Global)) (p q : NodeId) (k : ℕ) : Type 0 where
  pub view : network_of workers shards queues ≡ old
  pub at : place workers shards p q ≡ Some k
  pub lt : k < length queues

pub is_at : {M : Type 0} (old : Network M) (workers shards : ℕ) (queues : List (VecDeque M Global)) (p q : NodeId) (o : Option ℕ) (k : ℕ)
    → network_of workers shards queues ≡ old → o ≡ place old.workers old.shards p q → o ≡ Some k → IfSome o (λ j. j < length old.queues)
    → IsAt old workers shards queues p q k
is_at {M} old workers shards queues p q o k view is some within =
    let below : k < length old.queues = subst (λ (x : Option ℕ). IfSome x (λ j. j < length old.queues)) some within in
    let count : length old.queues ≡ length queues = ap (λ (n : Network M). length n.queues) (sym view) ∙ length-map queues (λ x. x.items) in
    record {
      view = view;
      at = ap (λ (n : Network M). place n.workers n.shards p q) view ∙ sym is ∙ some;
      lt = omega (arith, below, count);
    }

pub queue_was : {M : Type 0} (old : Network M) (workers shards : ℕ) (queues : List (VecDeque M Global)) (p q : NodeId) (k : ℕ) (was : VecDeque M Global)
    → IsAt old workers shards queues p q k → was ≡ get_or queues k was → queue old p q ≡ was.items
queue_was {M} old workers shards queues p q k was h e =
    ap (λ (n : Network M). queue n p q) (sym h.view) ∙ seen (λ (x : VecDeque M Global). x.items) [] queues (place workers shards p q) k was h.at h.lt e

pub room_was : {M : Type 0} (old : Network M) (workers shards : ℕ) (queues : List (VecDeque M Global)) (p q : NodeId) (k : ℕ) (was : VecDeque M Global)
    → IsAt old workers shards queues p q k → was ≡ get_or queues k was → room old p q ≡ spare was
room_was {M} old workers shards queues p q k was h e =
    ap (λ (n : Network M). room n p q) (sym h.view) ∙ seen (λ (x : VecDeque M Global). spare x) 0 queues (place workers shards p q) k was h.at h.lt e

pub queue_is : {M : Type 0} (old : Network M) (workers shards : ℕ) (queues : List (VecDeque M Global)) (p q : NodeId) (k : ℕ) (new : VecDeque M Global)
    → IsAt old workers shards queues p q k → queue (network_of workers shards (set queues k new)) p q ≡ new.items
queue_is {M} old workers shards queues p q k new h = seen_set (λ (x : VecDeque M Global). x.items) [] queues (place workers shards p q) k new h.at h.lt

-- what is done to the queue is done to what is on its way
pub queue_becomes : {M : Type 0} (old : Network M) (workers shards : ℕ) (queues : List (VecDeque M Global)) (p q : NodeId) (k : ℕ)
    (was new : VecDeque M Global) (f : List M → List M)
    → IsAt old workers shards queues p q k → was ≡ get_or queues k was → new.items ≡ f was.items
    → queue (network_of workers shards (set queues k new)) p q ≡ f (queue old p q)
queue_becomes {M} old workers shards queues p q k was new f h e is =
    queue_is old workers shards queues p q k new h ∙ is ∙ ap f (sym (queue_was old workers shards queues p q k was h e))

pub room_is : {M : Type 0} (old : Network M) (workers shards : ℕ) (queues : List (VecDeque M Global)) (p q : NodeId) (k : ℕ) (new : VecDeque M Global)
    → IsAt old workers shards queues p q k → room (network_of workers shards (set queues k new)) p q ≡ spare new
room_is {M} old workers shards queues p q k new h = seen_set (λ (x : VecDeque M Global). spare x) 0 queues (place workers shards p q) k new h.at h.lt

pub changes_only : {M : Type 0} (old : Network M) (workers shards : ℕ) (queues : List (VecDeque M Global)) (p q : NodeId) (k : ℕ) (new : VecDeque M Global)
    → IsAt old workers shards queues p q k → ChangesOnly old (network_of workers shards (set queues k new)) p q
changes_only {M} old workers shards queues p q k new h =
    let now : Network M = network_of workers shards (set queues k new) in
    subst (λ (n : Network M). ChangesOnly n now p q) h.view
    (ap₂ (λ (l : List (List M)) (r : List ℕ). let n : Network M = record { workers = workers; shards = shards; queues = l; rooms = r } in n)
    (set_seen (λ (x : VecDeque M Global). x.items) [] queues (place workers shards p q) k new h.at h.lt)
    (set_seen (λ (x : VecDeque M Global). spare x) 0 queues (place workers shards p q) k new h.at h.lt))
