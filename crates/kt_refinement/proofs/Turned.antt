-- How a step makes a node that is up vote: it begins a check, or joins a check or a rollback that it is asked for.
-- Cited by Forcing, Lasting.
use Rattle.std.proofs.Common.{◌≡◌, false, IsTrue, Option, Some, None, inl, inr, refl, sym, ap, subst, ◌∙◌}
use Rattle.std.specs.Option.{option_map}
use Rattle.std.specs.Prelude.{unwrap_or}
use Rattle.kt_tuple.specs.declared.node.NodeId.{NodeId}
use Rattle.kt_state.specs.declared.message.Ask.{Ask as RealAsk}
use Rattle.kt_state.specs.declared.message.Message.TheVariants as messages
use Rattle.kt_state.specs.declared.message.AppMessage.{AppMessage as RealAppMessage}
use Rattle.kt_state.specs.declared.live.Phase.{Phase}
use Rattle.kt_state.specs.declared.live.Phase.TheVariants as phases
use Rattle.kt_state.specs.declared.node.Mode.{Mode}
use Rattle.kt_state.specs.declared.node.Mode.TheVariants as modes
use Rattle.kt_state.specs.declared.change.Change.{Change}
use Rattle.kt_state.specs.declared.change.KeptChange.{KeptChange}
use Rattle.kt_state.specs.declared.change.KeptChange.TheVariants as keeps
use Rattle.kt_state.specs.declared.plan.Plan.{Plan}
use Rattle.kt_node.specs.declared.reaction.Reaction.TheVariants as reactions
use Rattle.kt_state.specs.Labels.{up_to, label_at}
use Rattle.kt_state.specs.Node.{Node as RealNode, Live, Alive, Down as IsDownNode, node_number, mode_in, mode_of}
use Rattle.kt_state.specs.Stored.{is_undecided}
use Rattle.kt_node.specs.Arrivals.{check_reaction}
use Rattle.kt_state.specs.Updating.{changed}
use Rattle.kt_vote.specs.Poll.{Poll}
use Rattle.kt_scenario.specs.declared.step.Step.{Step}
use Rattle.kt_scenario.specs.declared.step.Step.TheVariants.{Deliver, Check}
use Rattle.kt_model.specs.declared.store_reads.StoreReads.{StoreReads}
use Rattle.kt_scenario.specs.Step.{owner}
use Rattle.kt_model.specs.State.{State as World, node, view}
use Rattle.kt_model.specs.Effect.{applied}
use Rattle.kt_model.specs.Forced.{IsIn}
use Rattle.kt_model.proofs.Shared.{applied-owner, applied-other}
use Rattle.kt_model.proofs.Heards as ways
use Rattle.kt_model.proofs.Shared.{HeardOf, heard-is}
use Rattle.kt_model.proofs.Plans as plans
use Rattle.kt_model.proofs.Shared.{PlanOf, IsAlive, IsDown, Comes, Votes}
use Rattle.kt_refinement.proofs.Frames.{cases-node}

-- the node votes in an instance
abbrev pub IsVoting : Mode → Type 0
IsVoting modes.Up = ⊥
IsVoting modes.Held = Unit {0}
IsVoting modes.Rolling = Unit {0}
IsVoting modes.Down = ⊥

-- what makes p, which is up, vote in this mode
pub data Starts (s : World) (t : StoreReads) (p : NodeId) : Step → Mode → Type 0 where
  begins : Starts s t p (Check p) modes.Held
  joins_check : {x : NodeId} {n : Live} {ask : RealAsk} → Comes s x p (messages.CheckAsk ask) → IsAlive s p n → n.phase ≡ phases.Up
      → IsTrue (is_undecided t.verdict) → check_reaction n x ask t.verdict t.permanent t.tentative ≡ reactions.Joins
      → Starts s t p (Deliver x p) modes.Held
  joins_rollback : {x : NodeId} {n : Live} {ask : RealAsk} → Comes s x p (messages.RollAsk ask) → IsAlive s p n → n.phase ≡ phases.Up
      → IsTrue (is_undecided t.verdict) → up_to (label_at n.received (node_number x)) ask.label ≡ false
      → Starts s t p (Deliver x p) modes.Rolling

-- ---- who is up

-- it is alive, in this phase
pub record IsUp (s : World) (p : NodeId) : Type 0 where
  pub live : Live
  pub alive : IsAlive s p live
  pub up : live.phase ≡ phases.Up

up-phase : (f : Phase) → mode_in f ≡ modes.Up → f ≡ phases.Up
up-phase phases.Up e = refl
up-phase (phases.Held b) e = absurd (cc (e))
up-phase (phases.Rolling b) e = absurd (cc (e))

pub is-up : (s : World) (p : NodeId) → IsIn s p modes.Up → IsUp s p
is-up s p is = by (node s p) refl is where
  by : (row : Option RealNode) → node s p ≡ row → option_map mode_of row ≡ Some modes.Up → IsUp s p
  by None e is = absurd (cc (is))
  by (Some IsDownNode) e is = absurd (cc (is))
  by (Some (Alive n)) e is = record { live = n; alive = e; up = up-phase n.phase (cc (is)) }

same-live : (s : World) (p : NodeId) (n m : Live) → IsAlive s p n → IsAlive s p m → n ≡ m
same-live s p n m a b = by (sym a ∙ b) where
  by : Some (Alive n) ≡ Some (Alive m) → n ≡ m
  by e = cc (e)

phase-up : (s : World) (p : NodeId) (u : IsUp s p) (n : Live) → IsAlive s p n → n.phase ≡ phases.Up
phase-up s p u n alive = subst (λ (m : Live). m.phase ≡ phases.Up) (same-live s p u.live n u.alive alive) u.up

not-voting : {X : Type 0} (s : World) (p : NodeId) (u : IsUp s p) (n : Live) (b : Poll) (phase : Poll → Phase) → IsAlive s p n → Votes n.phase b phase → X
not-voting s p u n b phase alive votes = by n.phase b phase votes (phase-up s p u n alive) where
  by : {X : Type 0} (f : Phase) (b : Poll) (phase : Poll → Phase) → Votes f b phase → f ≡ phases.Up → X
  by f b phase plans.holds e = absurd (cc (e))
  by f b phase plans.rolls e = absurd (cc (e))

not-held : {X : Type 0} (s : World) (p : NodeId) (u : IsUp s p) (n : Live) (b : Poll) → IsAlive s p n → n.phase ≡ phases.Held b → X
not-held s p u n b alive held = let up = phase-up s p u n alive in absurd (cc (up, held))

not-rolling : {X : Type 0} (s : World) (p : NodeId) (u : IsUp s p) (n : Live) (b : Poll) → IsAlive s p n → n.phase ≡ phases.Rolling b → X
not-rolling s p u n b alive rolling = let up = phase-up s p u n alive in absurd (cc (up, rolling))

not-down : {X : Type 0} (s : World) (p : NodeId) (u : IsUp s p) → IsDown s p → X
not-down s p u down = by (ap (λ (r : Option RealNode). unwrap_or r IsDownNode) (sym u.alive) ∙ down) where
  by : {X : Type 0} → Alive u.live ≡ IsDownNode → X
  by e = absurd (cc (e))

-- ---- what the plan makes of it

-- the plan leaves the mode of who is up, or makes it none that votes
abbrev Stays : World → NodeId → Change → Type 0
Stays s p change = (n : Live) → IsAlive s p n → n.phase ≡ phases.Up → IsVoting (mode_of (changed change (Alive n))) → ⊥

still : (f : Phase) → f ≡ phases.Up → IsVoting (mode_in f) → ⊥
still phases.Up e v = v
still (phases.Held b) e v = absurd (cc (e))
still (phases.Rolling b) e v = absurd (cc (e))

heard-stays : (s : World) (p from : NodeId) (n : Live) (kept : KeptChange) (app : RealAppMessage) (plan : Plan) → HeardOf (view s p) n kept from app plan
    → Stays s p plan.change
heard-stays s p from n kept app plan (ways.misses_request body talk) m alive up v = still m.phase up v
heard-stays s p from n kept app plan (ways.accepts body talk awaited) m alive up v = still m.phase up v
heard-stays s p from n kept app plan (ways.ignores_reply body talk other) m alive up v = still m.phase up v
heard-stays s p from n kept app plan (ways.hears body talk new) m alive up v = still m.phase up v
heard-stays s p from n kept app plan (ways.answers_again body talk old has) m alive up v = still m.phase up v
heard-stays s p from n kept app plan (ways.ignores_request body talk old none) m alive up v = still m.phase up v
heard-stays s p from n kept app plan (ways.misses_reply body talk) m alive up v = still m.phase up v

-- the plan starts a vote, or does not
data Turns (s : World) (t : StoreReads) (step : Step) (plan : Plan) : Type 0 where
  starts : (mode : Mode) → Starts s t (owner step) step mode → ((n : Live) → mode_of (changed plan.change (Alive n)) ≡ mode) → Turns s t step plan
  leaves : Stays s (owner step) plan.change → Turns s t step plan

turns : (s : World) (t : StoreReads) (step : Step) (plan : Plan) → IsUp s (owner step) → PlanOf s t step plan → Turns s t step plan
turns s t step plan u (plans.issues there at up body kept next) = leaves (λ n alive up v. still n.phase up v)
turns s t step plan u (plans.repeats there at up body again) = leaves (λ n alive up v. still n.phase up v)
turns s t step plan u (plans.serves there other at up body gives) = leaves (λ n alive up v. still n.phase up v)
turns s t step plan u (plans.takes {p = p} {from = from} {n = n} {app = app} there at up kept) =
    leaves (heard-stays s p from n keeps.TakeFirst app plan (heard-is (view s p) n keeps.TakeFirst from app))
turns s t step plan u (plans.hears {p = p} {q = q} {n = n} {app = app} comes at up kept) =
    leaves (heard-stays s q p n keeps.Stay app plan (heard-is (view s q) n keeps.Stay p app))
turns s t step plan u (plans.puts_by comes at rolls) = leaves (λ n alive up v. still n.phase up v)
turns s t step plan u (plans.drops comes may) = leaves (λ n alive up v. still n.phase up v)
turns s t step plan u (plans.answers_check comes at says) = leaves (λ n alive up v. still n.phase up v)
turns s t step plan u (plans.joins_check comes at up undecided joins fit other shaped) = starts modes.Held (joins_check comes at up undecided joins) (λ n. refl)
turns s t step plan u (plans.answers_rollback comes at says) = leaves (λ n alive up v. still n.phase up v)
turns s t step plan u (plans.joins_rollback comes at up undecided above fit) =
    starts modes.Rolling (joins_rollback comes at up undecided above) (λ n. refl)
turns s t step plan u (plans.counts_vote {q = q} {n = n} {b = b} {phase = phase} comes at voting on) = not-voting s q u n b phase at voting
turns s t step plan u (plans.told_when_held {q = q} {n = n} {b = b} comes at held same) = not-held s q u n b at held
turns s t step plan u (plans.told_to_roll {q = q} {n = n} {b = b} comes at rolls asked same loads) = not-rolling s q u n b at rolls
turns s t step plan u (plans.told_to_go_on {q = q} {n = n} {b = b} comes at rolls asked same) = not-rolling s q u n b at rolls
turns s t step plan u (plans.begins_check there at up fit shaped) = starts modes.Held begins (λ n. refl)
turns s t step plan u (plans.decides {p = p} {n = n} {b = b} {phase = phase} there at voting own undecided outcome) = not-voting s p u n b phase at voting
turns s t step plan u (plans.gives_up {p = p} {n = n} {b = b} {phase = phase} there at voting own undecided) = not-voting s p u n b phase at voting
turns s t step plan u (plans.gives_up_down {p = p} there down has) = not-down s p u down
turns s t step plan u (plans.declines {p = p} {n = n} {b = b} {phase = phase} there at voting asked has) = not-voting s p u n b phase at voting
turns s t step plan u (plans.learns_when_held {p = p} {n = n} {b = b} there at held knows) = not-held s p u n b at held
turns s t step plan u (plans.learns_to_roll {p = p} {n = n} {b = b} there at rolls asked knows loads) = not-rolling s p u n b at rolls
turns s t step plan u (plans.learns_to_go_on {p = p} {n = n} {b = b} there at rolls asked knows) = not-rolling s p u n b at rolls
turns s t step plan u (plans.learns_yes_down {p = p} there down has knows) = not-down s p u down
turns s t step plan u (plans.learns_no_down {p = p} there down has knows fit) = not-down s p u down
turns s t step plan u (plans.fails there at fit other) = leaves (λ n alive up v. v)
turns s t step plan u (plans.restarts {p = p} there down has free loads) = not-down s p u down
turns s t step plan u (plans.restarts_anew {p = p} {n = n} {b = b} there at rolls own refused loads) = not-rolling s p u n b at rolls

-- a node that was up votes behind the step
pub why_votes : (s : World) (t : StoreReads) (step : Step) (plan : Plan) → PlanOf s t step plan → (p : NodeId) → IsIn s p modes.Up → (mode : Mode)
    → IsVoting mode
    → IsIn (applied s step plan) p mode → Starts s t p step mode
why_votes s t step plan of p was mode voting now = elim (cases-node (owner step) p) [
  | inl e ↦
      let P : NodeId → Type 0 = λ q. IsUp s q → IsIn (applied s step plan) q mode → Starts s t q step mode in
      subst P e own (is-up s p was) now
  | inr d ↦
      let both : Some modes.Up ≡ Some mode = sym was ∙ ap (option_map mode_of) (sym (applied-other s step plan p d)) ∙ now in
      absurd (subst IsVoting (sym (one both)) voting)
] where
  one : {a b : Mode} → Some a ≡ Some b → a ≡ b
  one e = cc (e)

  own : IsUp s (owner step) → IsIn (applied s step plan) (owner step) mode → Starts s t (owner step) step mode
  own u now = by (turns s t step plan u of) where
    after : Some (mode_of (changed plan.change (Alive u.live))) ≡ Some mode
    after = sym (ap (λ (r : Option RealNode). option_map mode_of (option_map (changed plan.change) r)) u.alive)
        ∙ ap (option_map mode_of) (sym (applied-owner s step plan)) ∙ now

    by : Turns s t step plan → Starts s t (owner step) step mode
    by (starts m start makes) = subst (Starts s t (owner step) step) (sym (makes u.live) ∙ one after) start
    by (leaves stays) = absurd (stays u.live u.alive u.up (subst IsVoting (sym (one after)) voting))
