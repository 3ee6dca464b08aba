-- What making room, sending and taking off leave of the links.
-- Cited by `Machine::carry_out_short`, `Machine::carry_out`, `Machine::make_room_for_short`, `Machine::make_room`,
--   `traffic::make_room_on_links`, `traffic::send_all`, `traffic::send_if_any`, `traffic::send_one`,
--   `traffic::take_off`.
use Rattle.std.proofs.Common.{◌≡◌, ℕ, zero, suc, ◌+◌, ◌<◌, ◌≤◌, List, [], ◌∷◌, ◌++◌, length, set, get_or, take}
use Rattle.std.proofs.Common.{Option, None, Some, ◌⊎◌, inl, inr, refl, sym, ap, ◌∙◌, subst, arith}
use Rattle.std.specs.List.{AllByRecursion}
use Rattle.std.proofs.lemmas.Bool.{cases_eq}
use Rattle.kt_tuple.specs.declared.node.NodeId.{NodeId}
use Rattle.kt_tuple.specs.Node.{node_index}
use Rattle.kt_tuple.proofs.Shared.{node_index-injective}
use Rattle.kt_link.specs.Network.{Network, AreNeighbours, ChangesOnly, place, queue, room, entry_at, with_entry}
use Rattle.kt_link.proofs.Shared.{other_room}
use Rattle.kt_state.specs.declared.message.Message.{Message}
use Rattle.kt_scenario.specs.Scene.{SceneModel}
use Rattle.kt_model.specs.auxiliary.Ready as ready
use Rattle.kt_model.proofs.Shared.{Ends, all-through, to_shard, to_worker, ends}
use Rattle.kt_model.specs.Effect.{Way, sent_one, sent}
use Rattle.kt_core.specs.auxiliary.Traffic.{IsSameTraffic}

abbrev pub Net : Type 0
Net = Network Message

set-own : (lists : List (List Message)) (k : ℕ) → set lists k (get_or lists k []) ≡ lists
set-own [] k = refl
set-own (x ∷ xs) zero = refl
set-own (x ∷ xs) (suc k) = ap (λ l. x ∷ l) (set-own xs k)

-- an entry that is what it was changes nothing
entry-own : (lists : List (List Message)) (k : Option ℕ) → with_entry lists k (entry_at [] lists k) ≡ lists
entry-own lists None = refl
entry-own lists (Some k) = set-own lists k

-- room that is made leaves what is on its way
pub reserved : (old now new : Net) (p q : NodeId) → IsSameTraffic old now → queue new p q ≡ queue now p q → ChangesOnly now new p q → IsSameTraffic old new
reserved old now new p q same stays only = record {
  workers = ap (λ (n : Net). n.workers) only ∙ same.workers;
  shards = ap (λ (n : Net). n.shards) only ∙ same.shards;
  queues =
      ap (λ (n : Net). n.queues) only ∙ ap (with_entry now.queues (place now.workers now.shards p q)) stays
      ∙ entry-own now.queues (place now.workers now.shards p q) ∙ same.queues;
}

-- the same pair of nodes, or another
pairs : (p q x y : NodeId) → ((p ≡ x) × (q ≡ y)) ⊎ (¬ ((p ≡ x) × (q ≡ y)))
pairs p q x y = elim (cases_eq (node_index p) (node_index x)) [
  | inr d ↦ inr (λ e. d (ap node_index e.0))
  | inl e ↦ elim (cases_eq (node_index q) (node_index y)) [
    | inr d ↦ inr (λ f. d (ap node_index f.1))
    | inl f ↦ inl (node_index-injective p x e, node_index-injective q y f)
  ]
]

-- room is lost on no link where it is lost on none that changed
pub rooms_kept : (old new : Net) (p q : NodeId) → ChangesOnly old new p q → room old p q ≤ room new p q → (x y : NodeId) → room old x y ≤ room new x y
rooms_kept old new p q only kept x y = elim (pairs p q x y) [
  | inl same ↦ subst (λ (z : NodeId). room old x z ≤ room new x z) same.1 (subst (λ (z : NodeId). room old z q ≤ room new z q) same.0 kept)
  | inr apart ↦ let e = other_room old new p q x y only apart in omega (arith, e)
]

-- a message that is sent takes one room, and no other link's
pub rooms_used : (old new : Net) (p q : NodeId) (n : ℕ) → ChangesOnly old new p q → room new p q + 1 ≡ room old p q
    → (x y : NodeId) → n + 1 ≤ room old x y → n ≤ room new x y
rooms_used old new p q n only used x y has = elim (pairs p q x y) [
  | inl same ↦
      let there : room new x y + 1 ≡ room old x y
      = subst (λ (z : NodeId). room new x z + 1 ≡ room old x z) same.1 (subst (λ (z : NodeId). room new z q + 1 ≡ room old z q) same.0 used) in
      omega (arith, there, has)
  | inr apart ↦ let e = other_room old new p q x y only apart in omega (arith, e, has)
]

-- ---- over lists of messages

pub all-get : {X : Type 0} (P : X → Type 0) (xs : List X) (k : ℕ) (x d : X) → AllByRecursion P xs → k < length xs → x ≡ get_or xs k d → P x
all-get P [] k x d all lt e = absurd (omega arith)
all-get P (y ∷ ys) zero x d all lt e = subst P (sym e) all.0
all-get P (y ∷ ys) (suc k) x d all lt e = all-get P ys k x d all.1 (omega arith) e

-- what holds of the first so many, and of the next
pub all-next : {X : Type 0} (P : X → Type 0) (xs : List X) (k : ℕ) (x d : X) → AllByRecursion P (take k xs) → k < length xs
    → x ≡ get_or xs k d → P x → AllByRecursion P (take (suc k) xs)
all-next P [] k x d all lt e h = absurd (omega arith)
all-next P (y ∷ ys) zero x d all lt e h = (subst P e h, tt)
all-next P (y ∷ ys) (suc k) x d all lt e h = (all.0, all-next P ys k x d all.1 (omega arith) e h)

pub nothing_left : {X : Type 0} (xs : List X) → length xs ≡ 0 → xs ≡ []
nothing_left [] e = refl
nothing_left (x ∷ xs) e = absurd (omega (arith, e))

-- to send a message is to append it to its link
pub sent-one : (old new : Net) (p q : NodeId) (m : Message) → queue new p q ≡ queue old p q ++ m ∷ [] → ChangesOnly old new p q
    → new.queues ≡ sent_one (place old.workers old.shards) old.queues p (q, m)
sent-one old new p q m appended only = ap (λ (n : Net). n.queues) only ∙ ap (with_entry old.queues (place old.workers old.shards p q)) appended

-- neighbours in the scene are neighbours on the links
linked : (scene : SceneModel) (p q : NodeId) → Ends scene p q → AreNeighbours (length scene.scripts) scene.shards p q
linked scene p q (to_shard w few r fewr) = ((w, few), (r, fewr))
linked scene p q (to_worker w few r fewr) = ((w, few), (r, fewr))

pub wired : (scene : SceneModel) (net : Net) (p : NodeId) (send : List (NodeId × Message)) → net.workers ≡ length scene.scripts → net.shards ≡ scene.shards
    → AllByRecursion (λ (m : NodeId × Message). ready.AreNeighbours scene p m.0) send
    → AllByRecursion (λ (m : NodeId × Message). AreNeighbours net.workers net.shards p m.0) send
wired scene net p send w s all =
    subst (λ (k : ℕ). AllByRecursion (λ (m : NodeId × Message). AreNeighbours k net.shards p m.0) send) (sym w)
    (subst (λ (k : ℕ). AllByRecursion (λ (m : NodeId × Message). AreNeighbours (length scene.scripts) k p m.0) send) (sym s)
    (all-through (λ (m : NodeId × Message). ready.AreNeighbours scene p m.0) (λ (m : NodeId × Message). AreNeighbours (length scene.scripts) scene.shards p m.0)
    send (λ m h. linked scene p m.0 (ends scene p m.0 h)) all))

-- ---- sending all messages, one after the other

-- of all these messages the rest is still to be sent, and there is room for it
pub record Sending (old now : Net) (owner : NodeId) (all rest : List (NodeId × Message)) : Type 0 where
  pub workers : now.workers ≡ old.workers
  pub shards : now.shards ≡ old.shards
  pub queues : sent (place old.workers old.shards) now.queues owner rest ≡ sent (place old.workers old.shards) old.queues owner all
  pub there : AllByRecursion (λ (m : NodeId × Message). AreNeighbours old.workers old.shards owner m.0) rest
  pub room_left : AllByRecursion (λ (m : NodeId × Message). length rest ≤ room now owner m.0) rest

pub sending-first : (old : Net) (owner : NodeId) (all rest : List (NodeId × Message)) → rest ≡ all
    → AllByRecursion (λ (m : NodeId × Message). AreNeighbours old.workers old.shards owner m.0) all
    → AllByRecursion (λ (m : NodeId × Message). length all ≤ room old owner m.0) all → Sending old old owner all rest
sending-first old owner all rest is there room_left =
    let P : List (NodeId × Message) → Type 0 = Sending old old owner all in
    subst P (sym is) (record { workers = refl; shards = refl; queues = refl; there = there; room_left = room_left })

pub sent-next : (old now new : Net) (owner : NodeId) (all rest later : List (NodeId × Message)) (m : NodeId × Message)
    → Sending old now owner all rest → rest ≡ m ∷ later → queue new owner m.0 ≡ queue now owner m.0 ++ m.1 ∷ []
    → room new owner m.0 + 1 ≡ room now owner m.0 → ChangesOnly now new owner m.0 → Sending old new owner all later
unfolding sent
sent-next old now new owner all rest later m s is appended used only =
    let Left : List (NodeId × Message) → Type 0 = λ l. AllByRecursion (λ (x : NodeId × Message). length l ≤ room now owner x.0) l in
    let way : Way = place old.workers old.shards in
    let same_way : place now.workers now.shards owner m.0 ≡ way owner m.0
    = ap (λ (k : ℕ). place k now.shards owner m.0) s.workers ∙ ap (λ (k : ℕ). place old.workers k owner m.0) s.shards in
    let one : new.queues ≡ sent_one way now.queues owner m =
    sent-one now new owner m.0 m.1 appended only ∙ ap (λ (k : Option ℕ). with_entry now.queues k (entry_at [] now.queues k ++ m.1 ∷ [])) same_way in
    let room_later = (subst Left is s.room_left).1 in record {
      workers = ap (λ (n : Net). n.workers) only ∙ s.workers;
      shards = ap (λ (n : Net). n.shards) only ∙ s.shards;
      queues = ap (λ (l : List (List Message)). sent way l owner later) one ∙ ap (sent way now.queues owner) (sym is) ∙ s.queues;
      there = (subst (AllByRecursion (λ (x : NodeId × Message). AreNeighbours old.workers old.shards owner x.0)) is s.there).1;
      room_left =
          all-through (λ (x : NodeId × Message). suc (length later) ≤ room now owner x.0) (λ (x : NodeId × Message). length later ≤ room new owner x.0) later
          (λ x h. rooms_used now new owner m.0 (length later) only used owner x.0 (omega (arith, h))) room_later;
    }

pub sent-all : (old now : Net) (owner : NodeId) (all rest : List (NodeId × Message)) → Sending old now owner all rest → rest ≡ []
    → now.queues ≡ sent (place old.workers old.shards) old.queues owner all
unfolding sent
sent-all old now owner all rest s is = sym (ap (sent (place old.workers old.shards) now.queues owner) is) ∙ s.queues

-- one message is sent by itself
pub sent-single : (old new : Net) (owner to : NodeId) (m : Message) → queue new owner to ≡ queue old owner to ++ m ∷ [] → ChangesOnly old new owner to
    → new.queues ≡ sent (place old.workers old.shards) old.queues owner ((to, m) ∷ [])
unfolding sent
sent-single old new owner to m appended only = sent-one old new owner to m appended only

-- nothing is sent
pub sent-none : (way : Way) (links : List (List Message)) (owner : NodeId) → sent way links owner [] ≡ links
unfolding sent
sent-none way links owner = refl
