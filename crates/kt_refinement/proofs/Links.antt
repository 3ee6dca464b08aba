-- What carrying out a plan makes of the links: the owner's have what it sends at their ends, the one that a message came
-- by has lost it, and all others stay.
-- Cited by BeginsCheck, Checking, Cohorts, Falling, Frames, GoesOn, Hearing, JoinsCheck, JoinsRollback, LearnsDown,
--   LearnsFound, PutsBy, Releases, Restarts, RollsBack, Sending, Silence.
use Rattle.std.proofs.Common.{◌≡◌, ◌≢◌, ℕ, ◌<◌, ◌*◌, Bool, true, false, List, [], ◌∷◌, ◌++◌}
use Rattle.std.proofs.Common.{length, drop, Option, Some, None, refl, sym, ap, ◌∙◌, subst, append_assoc, append-nil}
use Rattle.std.specs.Prelude.{if◌then◌else◌}
use Rattle.std.proofs.lemmas.List.{get_or-set_other, get_or-set_same, length-set}
use Rattle.kt_tuple.specs.declared.node.NodeId.{NodeId}
use Rattle.kt_tuple.specs.Node.{node_eq}
use Rattle.kt_link.specs.Network.{entry_at, with_entry}
use Rattle.kt_link.proofs.Shared.{neighbours-place, place-own, place-within}
use Rattle.kt_state.specs.declared.message.Message.{Message}
use Rattle.kt_scenario.specs.declared.step.Step.{Step}
use Rattle.kt_scenario.specs.declared.step.Step.TheVariants.{Issue, Repeat, Deliver, Take, Serve, Check, Decide, Abandon, Learn, Fail, Restart}
use Rattle.kt_scenario.specs.Scene.{SceneModel}
use Rattle.kt_model.specs.State.{State, link, link_place}
use Rattle.kt_scenario.specs.Step.{owner}
use Rattle.kt_model.specs.Effect.{Way, sent_one, sent, taken_off, applied}
use Rattle.kt_model.specs.auxiliary.Ready.{AreNeighbours}
use Rattle.kt_state.specs.declared.plan.Plan.{Plan}
use Rattle.kt_model.proofs.Shared.{linked}

abbrev Links : Type 0
Links = List (List Message)

-- the messages among these that go to q
unfoldable pub to : NodeId → List (NodeId × Message) → List Message
to q [] = []
to q (m ∷ later) = if node_eq m.0 q then m.1 ∷ to q later else to q later

-- ---- one entry

entry-same : (links : Links) (k : ℕ) (new : List Message) → k < length links → entry_at [] (with_entry links (Some k) new) (Some k) ≡ new
entry-same links k new lt = get_or-set_same links k new [] lt

entry-other : (links : Links) (k other : Option ℕ) (new : List Message) → k ≢ other → entry_at [] (with_entry links k new) other ≡ entry_at [] links other
entry-other links None other new d = refl
entry-other links (Some k) None new d = refl
entry-other links (Some k) (Some j) new d = get_or-set_other links k j new [] (λ e. d (ap Some (sym e)))

entry-long : (links : Links) (k : Option ℕ) (new : List Message) → length (with_entry links k new) ≡ length links
entry-long links None new = refl
entry-long links (Some k) new = length-set links k new

-- ---- what is sent

one-long : (way : Way) (links : Links) (o : NodeId) (m : NodeId × Message) → length (sent_one way links o m) ≡ length links
one-long way links o m = entry-long links (way o m.0) _

one-own : (scene : SceneModel) (links : Links) (o q : NodeId) (m : NodeId × Message) (k : ℕ) → k < length links → link_place scene o q ≡ Some k
    → entry_at [] (sent_one (link_place scene) links o m) (Some k) ≡ entry_at [] links (Some k) ++ to q (m ∷ [])
unfolding to
one-own scene links o q m k lt place = by (node_eq m.0 q) refl where
  by : (b : Bool) → node_eq m.0 q ≡ b → entry_at [] (sent_one (link_place scene) links o m) (Some k)
      ≡ entry_at [] links (Some k) ++ (if b then m.1 ∷ [] else [])
  by true e =
      let same : link_place scene o m.0 ≡ Some k = ap (link_place scene o) ((Rattle.kt_tuple.specs.Node.node_eq_decides m.0 q).0 e) ∙ place in
      let P : Option ℕ → Type 0 = λ w. entry_at [] (with_entry links w (entry_at [] links w ++ m.1 ∷ [])) (Some k) ≡ entry_at [] links (Some k) ++ m.1 ∷ [] in
      subst P (sym same) (entry-same links k _ lt)
  by false e =
      entry-other links (link_place scene o m.0) (Some k) _
      (λ f. absurd (cc (e, (Rattle.kt_tuple.specs.Node.node_eq_decides m.0 q).1 (place-own _ _ o m.0 o q k f place).1)))
      ∙ sym (append-nil (entry_at [] links (Some k)))

to-more : (q : NodeId) (m : NodeId × Message) (later : List (NodeId × Message)) → to q (m ∷ []) ++ to q later ≡ to q (m ∷ later)
unfolding to
to-more q m later = by (node_eq m.0 q) where
  by : (b : Bool) → (if b then m.1 ∷ [] else []) ++ to q later ≡ (if b then m.1 ∷ to q later else to q later)
  by true = refl
  by false = refl

pub sent-own : (scene : SceneModel) (links : Links) (o q : NodeId) (send : List (NodeId × Message)) (k : ℕ) → k < length links → link_place scene o q ≡ Some k
    → entry_at [] (sent (link_place scene) links o send) (Some k) ≡ entry_at [] links (Some k) ++ to q send
unfolding sent to
sent-own scene links o q [] k lt place = sym (append-nil (entry_at [] links (Some k)))
sent-own scene links o q (m ∷ later) k lt place =
    sent-own scene (sent_one (link_place scene) links o m) o q later k (subst (λ n. k < n) (sym (one-long (link_place scene) links o m)) lt) place
    ∙ ap (λ x. x ++ to q later) (one-own scene links o q m k lt place)
    ∙ append_assoc (entry_at [] links (Some k)) (to q (m ∷ [])) (to q later)
    ∙ ap (λ x. entry_at [] links (Some k) ++ x) (to-more q m later)

pub sent-other : (scene : SceneModel) (links : Links) (o p q : NodeId) (send : List (NodeId × Message)) (k : ℕ) → p ≢ o → link_place scene p q ≡ Some k
    → entry_at [] (sent (link_place scene) links o send) (Some k) ≡ entry_at [] links (Some k)
unfolding sent
sent-other scene links o p q [] k d place = refl
sent-other scene links o p q (m ∷ later) k d place =
    sent-other scene (sent_one (link_place scene) links o m) o p q later k d place
    ∙ entry-other links (link_place scene o m.0) (Some k) _ (λ f. d (place-own _ _ p q o m.0 k place f).0)

-- ---- what comes

-- all links but the one that a message comes by stay
pub taken-else : (scene : SceneModel) (links : Links) (step : Step) (p q : NodeId) (k : ℕ) → link_place scene p q ≡ Some k
    → ((x y : NodeId) → step ≡ Deliver x y → (p ≡ x) × (q ≡ y) → ⊥)
    → entry_at [] (taken_off (link_place scene) links step) (Some k) ≡ entry_at [] links (Some k)
taken-else scene links (Deliver x y) p q k place d =
    entry-other links (link_place scene x y) (Some k) _ (λ f. d x y refl (place-own _ _ p q x y k place f))
taken-else scene links (Issue p) q r k place d = refl
taken-else scene links (Repeat p) q r k place d = refl
taken-else scene links (Take p) q r k place d = refl
taken-else scene links (Serve p w n) q r k place d = refl
taken-else scene links (Check p) q r k place d = refl
taken-else scene links (Decide p) q r k place d = refl
taken-else scene links (Abandon p) q r k place d = refl
taken-else scene links (Learn p) q r k place d = refl
taken-else scene links (Fail p) q r k place d = refl
taken-else scene links (Restart p) q r k place d = refl

pub taken-long : (way : Way) (links : Links) (step : Step) → length (taken_off way links step) ≡ length links
taken-long way links (Deliver x y) = entry-long links (way x y) _
taken-long way links (Issue p) = refl
taken-long way links (Repeat p) = refl
taken-long way links (Take p) = refl
taken-long way links (Serve p w n) = refl
taken-long way links (Check p) = refl
taken-long way links (Decide p) = refl
taken-long way links (Abandon p) = refl
taken-long way links (Learn p) = refl
taken-long way links (Fail p) = refl
taken-long way links (Restart p) = refl

pub sent-long : (way : Way) (links : Links) (o : NodeId) (send : List (NodeId × Message)) → length (sent way links o send) ≡ length links
unfolding sent
sent-long way links o [] = refl
sent-long way links o (m ∷ later) = sent-long way (sent_one way links o m) o later ∙ one-long way links o m

-- ---- the links of a state

-- where the link of two neighbours stands
pub record IsWide (scene : SceneModel) (links : Links) (p q : NodeId) : Type 0 where
  pub at : ℕ
  pub place : link_place scene p q ≡ Some at
  pub within : at < length links

pub wide : (scene : SceneModel) (links : Links) → length links ≡ 2 * (length scene.scripts * scene.shards) → (p q : NodeId) → AreNeighbours scene p q
    → IsWide scene links p q
wide scene links long p q near =
    let k = neighbours-place (length scene.scripts) scene.shards p q (linked scene p q near) in
    record { at = k.0; place = k.1; within = subst (λ n. k.0 < n) (sym long) (place-within _ _ p q k.0 k.1) }

owner-delivers : (step : Step) (x y : NodeId) → step ≡ Deliver x y → y ≡ owner step
owner-delivers step x y e = ap owner (sym e)

-- the owner's
pub link-own : (s : State) (step : Step) (plan : Plan) → length s.links ≡ 2 * (length s.scene.scripts * s.scene.shards) → (q : NodeId)
    → AreNeighbours s.scene (owner step) q
    → ((x : NodeId) → step ≡ Deliver x (owner step) → owner step ≢ x)
    → link (applied s step plan) (owner step) q ≡ link s (owner step) q ++ to q plan.send
link-own s step plan long q near apart =
    let w = wide s.scene s.links long (owner step) q near in
    let P : Option ℕ → Type 0 =
    λ k. entry_at [] (sent (link_place s.scene) (taken_off (link_place s.scene) s.links step) (owner step) plan.send) k
    ≡ entry_at [] s.links k ++ to q plan.send in
    subst P (sym w.place)
    (sent-own s.scene (taken_off (link_place s.scene) s.links step) (owner step) q plan.send w.at
    (subst (λ n. w.at < n) (sym (taken-long (link_place s.scene) s.links step)) w.within) w.place
    ∙ ap (λ x. x ++ to q plan.send) (taken-else s.scene s.links step (owner step) q w.at w.place
    (λ x y e same. apart x (e ∙ ap (Deliver x) (owner-delivers step x y e)) same.0)))

-- those of others, but for the one that a message came by
pub link-other : (s : State) (step : Step) (plan : Plan) → length s.links ≡ 2 * (length s.scene.scripts * s.scene.shards) → (p q : NodeId)
    → AreNeighbours s.scene p q
    → p ≢ owner step → ((x y : NodeId) → step ≡ Deliver x y → (p ≡ x) × (q ≡ y) → ⊥)
    → link (applied s step plan) p q ≡ link s p q
link-other s step plan long p q near d apart =
    let w = wide s.scene s.links long p q near in
    let P : Option ℕ → Type 0 =
    λ k. entry_at [] (sent (link_place s.scene) (taken_off (link_place s.scene) s.links step) (owner step) plan.send) k ≡ entry_at [] s.links k in
    subst P (sym w.place)
    (sent-other s.scene (taken_off (link_place s.scene) s.links step) (owner step) p q plan.send w.at d w.place
    ∙ taken-else s.scene s.links step p q w.at w.place apart)

-- the one that a message came by has lost it
pub link-taken : (s : State) (x y : NodeId) (plan : Plan) → length s.links ≡ 2 * (length s.scene.scripts * s.scene.shards) → AreNeighbours s.scene x y → x ≢ y
    → link (applied s (Deliver x y) plan) x y ≡ drop 1 (link s x y)
link-taken s x y plan long near d =
    let w = wide s.scene s.links long x y near in
    let P : Option ℕ → Type 0 =
    λ k. entry_at [] (sent (link_place s.scene) (with_entry s.links k (drop 1 (entry_at [] s.links k))) y plan.send) k ≡ drop 1 (entry_at [] s.links k) in
    subst P (sym w.place)
    (sent-other s.scene (with_entry s.links (Some w.at) (drop 1 (entry_at [] s.links (Some w.at)))) y x y plan.send w.at d w.place
    ∙ entry-same s.links w.at (drop 1 (entry_at [] s.links (Some w.at))) w.within)
