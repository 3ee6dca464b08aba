-- What changes one link leaves the others.
-- Cited by `laws::other_links_stay`; other crates.
use Rattle.std.proofs.Common.{◌≡◌, ℕ, List, [], Option, None, Some, refl, ap, ◌∙◌}
use Rattle.std.proofs.lemmas.List.{get_or-set_other}
use Rattle.kt_tuple.specs.declared.node.NodeId.{NodeId}
use Rattle.kt_link.specs.Network.{Network, ChangesOnly, place, queue, room, entry_at, with_entry}
use Rattle.kt_link.proofs.Places.{place-own}

-- another place keeps its entry
other_entry : {A : Type 0} (d new : A) (entries : List A) (at other : Option ℕ) → ((k : ℕ) → at ≡ Some k → other ≡ Some k → ⊥)
    → entry_at d (with_entry entries at new) other ≡ entry_at d entries other
other_entry d new entries None other apart = refl
other_entry d new entries (Some j) None apart = refl
other_entry d new entries (Some j) (Some k) apart = get_or-set_other entries j k new d (λ same. apart j refl (ap Some same))

pub other_queue : {M : Type 0} (old new : Network M) (p q x y : NodeId) → ChangesOnly old new p q → ¬ ((p ≡ x) × (q ≡ y)) → queue new x y ≡ queue old x y
other_queue {M} old new p q x y is apart =
    ap (λ (n : Network M). queue n x y) is
    ∙ other_entry [] (queue new p q) old.queues (place old.workers old.shards p q) (place old.workers old.shards x y)
    (λ k e f. apart (place-own old.workers old.shards p q x y k e f))

pub other_room : {M : Type 0} (old new : Network M) (p q x y : NodeId) → ChangesOnly old new p q → ¬ ((p ≡ x) × (q ≡ y)) → room new x y ≡ room old x y
other_room {M} old new p q x y is apart =
    ap (λ (n : Network M). room n x y) is
    ∙ other_entry 0 (room new p q) old.rooms (place old.workers old.shards p q) (place old.workers old.shards x y)
    (λ k e f. apart (place-own old.workers old.shards p q x y k e f))
