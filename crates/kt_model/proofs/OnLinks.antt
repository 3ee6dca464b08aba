-- What is on a link after a step was on it before, or was sent just now.
-- Cited by ActLeaves, Applying, Backs, FirstCut, Good, GoodActs, Newer; other crates.
use Rattle.std.proofs.Common.{◌≡◌, ℕ, List, [], ◌∷◌, ◌++◌, length, drop, set, Contains, Option, Some, None, ◌⊎◌, inl, inr, refl, sym, ap, ◌∙◌, subst}
use Rattle.std.proofs.lemmas.Bool.{cases_eq, cases_lt}
use Rattle.std.proofs.lemmas.List.{get_or-set_other, get_or-set_same, set_past}
use Rattle.std.proofs.lemmas.List.Elements.{Contains-push_cases}
use Rattle.kt_tuple.specs.declared.node.NodeId.{NodeId}
use Rattle.kt_history.proofs.Shared.{Contains-here, Contains-there, Contains-none}
use Rattle.kt_link.specs.Network.{entry_at, with_entry}
use Rattle.kt_link.proofs.Shared.{place-own}
use Rattle.kt_shard.specs.Table.{at}
use Rattle.kt_state.specs.declared.message.Message.{Message}
use Rattle.kt_scenario.specs.declared.step.Step.{Step}
use Rattle.kt_scenario.specs.declared.step.Step.TheVariants.{Issue, Repeat, Deliver, Take, Serve, Check, Decide, Abandon, Learn, Fail, Restart}
use Rattle.kt_scenario.specs.Scene.{SceneModel}
use Rattle.kt_model.specs.State.{State, link_place}
use Rattle.kt_model.specs.Effect.{Way, sent_one, sent, taken_off}
use Rattle.kt_model.proofs.Plans.{Comes}

abbrev Links : Type 0
Links = List (List Message)

-- an entry that was written over is the new one or the table's, and every other is as it was
entry-cases : (links : Links) (k other : Option ℕ) (new : List Message) (m : Message) → Contains (entry_at [] (with_entry links k new) other) m
    → Contains (entry_at [] links other) m ⊎ ((j : ℕ) × (k ≡ Some j) × (other ≡ Some j) × Contains new m)
entry-cases links None other new m c = inl c
entry-cases links (Some j) None new m c = inl c
entry-cases links (Some j) (Some i) new m c = elim (cases_eq i j) [
  | inl same ↦ elim (cases_lt j (length links)) [
    | inl below ↦
        let there : entry_at [] (set links j new) (Some j) ≡ new = get_or-set_same links j new [] below in
        let here : entry_at [] (set links j new) (Some i) ≡ new = ap (λ (k : ℕ). entry_at [] (set links j new) (Some k)) same ∙ there in
        inr (j, refl, ap Some same, subst (λ (l : List Message). Contains l m) here c)
    | inr past ↦ inl (subst (λ (l : Links). Contains (entry_at [] l (Some i)) m) (set_past links j new past) c)
  ]
  | inr other ↦ inl (subst (λ (l : List Message). Contains l m) (get_or-set_other links j i new [] other) c)
]

pub Contains-tail : {X : Type 0} (xs : List X) (x : X) → Contains (drop 1 xs) x → Contains xs x
Contains-tail [] x c = c
Contains-tail (y ∷ xs) x c = Contains-there y xs x c

-- what is on a link after a delivery was on it before
pub taken_off-was : (way : Way) (links : Links) (step : Step) (k : Option ℕ) (m : Message) → Contains (entry_at [] (taken_off way links step) k) m
    → Contains (entry_at [] links k) m
taken_off-was way links (Issue p) k m c = c
taken_off-was way links (Repeat p) k m c = c
taken_off-was way links (Take p) k m c = c
taken_off-was way links (Serve p w place) k m c = c
taken_off-was way links (Check p) k m c = c
taken_off-was way links (Decide p) k m c = c
taken_off-was way links (Abandon p) k m c = c
taken_off-was way links (Learn p) k m c = c
taken_off-was way links (Fail p) k m c = c
taken_off-was way links (Restart p) k m c = c
taken_off-was way links (Deliver p q) k m c = elim (entry-cases links (way p q) k (drop 1 (entry_at [] links (way p q))) m c) [
  | inl was ↦ was
  | inr new ↦
      let same : way p q ≡ k = new.1 ∙ sym new.2 in
      subst (λ (o : Option ℕ). Contains (entry_at [] links o) m) same (Contains-tail (entry_at [] links (way p q)) m new.3)
]

-- what is on a link after something was sent was on it before, or is one of these messages and went by it
pub record IsSent (way : Way) (p : NodeId) (send : List (NodeId × Message)) (k : Option ℕ) (m : Message) : Type 0 where
  pub to : NodeId
  pub among : Contains send (to, m)
  pub at : ℕ
  pub by : way p to ≡ Some at
  pub here : k ≡ Some at

pub sent-cases : (way : Way) (links : Links) (p : NodeId) (send : List (NodeId × Message)) (k : Option ℕ) (m : Message)
    → Contains (entry_at [] (sent way links p send) k) m
    → Contains (entry_at [] links k) m ⊎ IsSent way p send k m
unfolding sent
sent-cases way links p [] k m c = inl c
sent-cases way links p (message ∷ later) k m c = elim (sent-cases way (sent_one way links p message) p later k m c) [
  | inr new ↦ inr (record { to = new.to; among = Contains-there message later (new.to, m) new.among; at = new.at; by = new.by; here = new.here })
  | inl on ↦ elim (entry-cases links (way p message.0) k (entry_at [] links (way p message.0) ++ message.1 ∷ []) m on) [
    | inl was ↦ inl was
    | inr new ↦ elim (Contains-push_cases (entry_at [] links (way p message.0)) message.1 m new.3) [
      | inl was ↦
          let same : way p message.0 ≡ k = new.1 ∙ sym new.2 in
          inl (subst (λ (o : Option ℕ). Contains (entry_at [] links o) m) same was)
      | inr e ↦
          let first : Contains (message ∷ later) (message.0, message.1) = Contains-here message later in
          let among = subst (λ (x : Message). Contains (message ∷ later) (message.0, x)) e first in
          inr (record { to = message.0; among = among; at = new.0; by = new.1; here = new.2 })
    ]
  ]
]

-- what was sent by the link from p to q was sent from p to q
pub sent_between : (scene : SceneModel) (owner : NodeId) (send : List (NodeId × Message)) (p q : NodeId) (m : Message)
    → (new : IsSent (link_place scene) owner send (link_place scene p q) m) → (owner ≡ p) × (new.to ≡ q)
sent_between scene owner send p q m new = place-own _ _ owner new.to p q new.at new.by new.here

-- ---- what comes

-- what holds of all that is on the links holds of what comes
pub first-holds : (s : State) (p q : NodeId) (m : Message) (P : Message → Type 0) → Comes s p q m
    → ((k : ℕ) (x : Message) → Contains (at [] s.links k) x → P x) → P m
first-holds s p q m P comes all = at_place (link_place s.scene p q) (subst (λ (l : List Message). Contains l m) (sym comes.on) (Contains-here m comes.later))
  where
    at_place : (k : Option ℕ) → Contains (entry_at [] s.links k) m → P m
    at_place None c = absurd (Contains-none m c)
    at_place (Some k) c = all k m c
