-- Before the first cut nobody is down or rolls back and nobody is asked to, for only a failure begins that; so only a
-- failure makes the first cut.
-- Cited by Holding, Kept, Lasting.
use Rattle.std.proofs.Common.{◌≡◌, ℕ, suc, length, ◌⊎◌, Bool, true, false, List, [], ◌∷◌, ◌++◌, Contains, Option, None, Some, inl, inr, refl, sym, ◌∙◌, subst}
use Rattle.std.specs.Prelude.{IfSome, is_some, unwrap_or, IsTrue, if◌then◌else◌}
use Rattle.std.specs.List.{AllByRecursion}
use Rattle.std.specs.Option.{option_map}
use Rattle.kt_tuple.specs.declared.node.NodeId.{NodeId}
use Rattle.kt_tuple.specs.declared.node.NodeId.TheVariants as ids
use Rattle.kt_history.specs.declared.note.Note.{Note}
use Rattle.kt_history.specs.declared.note.Note.TheVariants as notes
use Rattle.kt_history.specs.Log.{note_at}
use Rattle.kt_history.specs.WellFormed.{HasNoCut}
use Rattle.kt_history.proofs.Shared.{note_at-old, note_at-new, note_at-within, note_at-push_cases}
use Rattle.kt_shard.specs.Table.{at}
use Rattle.kt_vote.specs.declared.asker.Asker.{Asker}
use Rattle.kt_vote.specs.declared.vote.Vote.{Vote}
use Rattle.kt_vote.specs.Poll.{Poll, asking_poll}
use Rattle.kt_state.specs.declared.message.AppMessage.{AppMessage}
use Rattle.kt_state.specs.declared.message.Message.{Message}
use Rattle.kt_state.specs.declared.message.Message.TheVariants as messages
use Rattle.kt_state.specs.declared.live.Phase.{Phase}
use Rattle.kt_state.specs.declared.live.Phase.TheVariants as phases
use Rattle.kt_state.specs.declared.change.KeptChange.{KeptChange}
use Rattle.kt_state.specs.declared.change.KeptChange.TheVariants as keeps
use Rattle.kt_state.specs.declared.change.Update.{Update}
use Rattle.kt_state.specs.declared.change.Change.{Change}
use Rattle.kt_state.specs.declared.change.Change.TheVariants as changes
use Rattle.kt_state.specs.declared.plan.Plan.{Plan}
use Rattle.kt_state.specs.declared.plan.Write.{Write}
use Rattle.kt_state.specs.Node.{Live, Node, Down, Alive, opening_node}
use Rattle.kt_state.specs.Updating.{changed, phase_in}
use Rattle.kt_state.specs.Voting.{casting, voted, votes}
use Rattle.kt_state.specs.Asking.{check_asks}
use Rattle.kt_node.specs.Joining.{asker_of, cohort, held_plan}
use Rattle.kt_node.specs.Learning.{held_learns, verdict_to}
use Rattle.kt_node.specs.Deciding.{decide_plan}
use Rattle.kt_scenario.specs.declared.step.Step.{Step}
use Rattle.kt_model.specs.declared.store_reads.StoreReads.{StoreReads}
use Rattle.kt_scenario.specs.Step.{owner}
use Rattle.kt_scenario.specs.Scene.{SceneModel, IsScene, is_node, is_shard}
use Rattle.kt_model.specs.State.{State, node, link_place, role_of, view}
use Rattle.kt_model.specs.Effect.{taken_off, noted, applied}
use Rattle.kt_model.specs.Reached.{opening}
use Rattle.kt_model.specs.auxiliary.Ready.{IsReady}
use Rattle.kt_model.specs.Headline.{HasCut, IsFailure}
use Rattle.kt_model.proofs.Plans as plans
use Rattle.kt_model.proofs.Plans.{IsAlive, IsDown, Comes, Votes, PlanOf}
use Rattle.kt_model.proofs.OnLinks.{taken_off-was, sent-cases, first-holds}
use Rattle.kt_model.proofs.Frames.{applied-rows}
use Rattle.kt_model.proofs.Opened.{opening-node, no_messages}
use Rattle.kt_logs.proofs.Shared.{all-append}
use Rattle.kt_model.proofs.Lists.{all-from, all-map}
use Rattle.kt_model.proofs.Leaves.{casting-all}
use Rattle.kt_model.proofs.Heards as ways
use Rattle.kt_model.proofs.Heards.{HeardOf, heard-is}
use Rattle.kt_logs.proofs.Shared.{all-at}

-- ---- before the first cut

abbrev pub IsPhaseCalm : Phase → Type 0
IsPhaseCalm phases.Up = Unit {0}
IsPhaseCalm (phases.Held b) = Unit {0}
IsPhaseCalm (phases.Rolling b) = ⊥

abbrev pub IsNodeCalm : Node → Type 0
IsNodeCalm Down = ⊥
IsNodeCalm (Alive n) = IsPhaseCalm n.phase

abbrev pub IsRowCalm : Option Node → Type 0
IsRowCalm row = IfSome row IsNodeCalm

abbrev pub IsMessageCalm : Message → Type 0
IsMessageCalm (messages.RollAsk ask) = ⊥
IsMessageCalm message = Unit {0}

-- nobody is down or rolls back, and nobody is asked to
pub record IsCalm (s : State) : Type 0 where
  pub nodes : (p : NodeId) → IsRowCalm (node s p)
  pub messages : (k : ℕ) (m : Message) → Contains (at [] s.links k) m → IsMessageCalm m

abbrev NotCut : Option Note → Type 0
NotCut None = Unit {0}
NotCut (Some (notes.Act a)) = Unit {0}
NotCut (Some (notes.Cut p keep)) = ⊥

abbrev IsCut : Option Note → Type 0
IsCut None = ⊥
IsCut (Some (notes.Act a)) = ⊥
IsCut (Some (notes.Cut p keep)) = Unit {0}

abbrev SaysCalm : NodeId × Message → Type 0
SaysCalm x = IsMessageCalm x.1

-- a plan of p that leaves the state calm
record Calms (s : State) (p : NodeId) (plan : Plan) : Type 0 where
  pub note : NotCut plan.note
  pub row : IsRowCalm (option_map (changed plan.change) (node s p))
  pub says : AllByRecursion SaysCalm plan.send

-- ---- what a calm state has not

live-calm : (s : State) → IsCalm s → (p : NodeId) (n : Live) → IsAlive s p n → IsPhaseCalm n.phase
live-calm s is p n at = subst IsRowCalm at (is.nodes p)

none-rolls : (s : State) → IsCalm s → (p : NodeId) (n : Live) (b : Poll) → IsAlive s p n → n.phase ≡ phases.Rolling b → ⊥
none-rolls s is p n b at rolls = subst IsPhaseCalm rolls (live-calm s is p n at)

none-down : (s : State) → IsReady s → IsCalm s → (p : NodeId) → IsTrue (is_node s.scene p) → IsDown s p → ⊥
none-down s ready is p there down = by (node s p) (ready.there p ∙ there) (is.nodes p) down
  where
    by : (row : Option Node) → is_some row ≡ true → IsRowCalm row → unwrap_or row Down ≡ Down → ⊥
    by None e calm down = cc (e)
    by (Some Down) e calm down = calm
    by (Some (Alive n)) e calm down = cc (down)

-- a shard of the scene is alive
pub shard-alive : (s : State) → IsReady s → IsCalm s → (r : ℕ) → is_shard s.scene (ids.Shard r) ≡ true → (n : Live) × IsAlive s (ids.Shard r) n
shard-alive s ready is r there = by (node s (ids.Shard r)) refl (ready.there (ids.Shard r) ∙ there) (is.nodes (ids.Shard r))
  where
    by : (row : Option Node) → node s (ids.Shard r) ≡ row → is_some row ≡ true → IsRowCalm row → (n : Live) × IsAlive s (ids.Shard r) n
    by None at e calm = absurd cc
    by (Some Down) at e calm = absurd calm
    by (Some (Alive n)) at e calm = (n, at)

none-asked : (s : State) → IsCalm s → (p q : NodeId) (m : Message) → Comes s p q m → IsMessageCalm m
none-asked s is p q m comes = first-holds s p q m IsMessageCalm comes is.messages

-- ---- what is sent

casting-calm : (b : Poll) → AllByRecursion SaysCalm (votes (casting b))
casting-calm b = casting-all SaysCalm b (by b.parent)
  where
    by : (o : Option Asker) → IfSome o (λ a. (vote : Vote) → Unit {0})
    by None = tt
    by (Some a) = λ vote. tt

checks-calm : (instance : ℕ) (n : Live) (asked : List NodeId) → AllByRecursion SaysCalm (check_asks instance n asked)
checks-calm instance n asked = all-map SaysCalm _ asked (all-from (λ q. Unit {0}) asked (λ q h. tt))

verdicts-calm : (instance : ℕ) (agreed : Bool) (asked : List NodeId) → AllByRecursion SaysCalm (verdict_to instance agreed asked)
verdicts-calm instance agreed asked = all-map SaysCalm _ asked (all-from (λ q. Unit {0}) asked (λ q h. tt))

-- ---- the plans

update-calm : (s : State) (p : NodeId) (n : Live) (plan : Plan) (t : Update) → plan.change ≡ changes.Update t → IsAlive s p n → NotCut plan.note
    → IsPhaseCalm (phase_in n.phase t.phase) → AllByRecursion SaysCalm plan.send → Calms s p plan
update-calm s p n plan t change at note is says = record {
  note = note;
  row = subst (λ (c : Change). IsRowCalm (option_map (changed c) (node s p))) (sym change)
      (subst (λ (row : Option Node). IsRowCalm (option_map (changed (changes.Update t)) row)) (sym at) is);
  says = says;
}

drop-calm : (s : State) → IsCalm s → (p : NodeId) (plan : Plan) → plan.change ≡ changes.Stay → plan.note ≡ None → plan.send ≡ [] → Calms s p plan
drop-calm s is p plan change note send = record {
  note = subst NotCut (sym note) tt;
  row = subst (λ (c : Change). IsRowCalm (option_map (changed c) (node s p))) (sym change) (stays (node s p) (is.nodes p));
  says = subst (AllByRecursion SaysCalm) (sym send) tt;
}
  where
    stays : (row : Option Node) → IsRowCalm row → IsRowCalm (option_map (changed changes.Stay) row)
    stays None h = tt
    stays (Some x) h = h

heard-calm : (s : State) → IsCalm s → (p from : NodeId) (n : Live) (kept : KeptChange) (app : AppMessage) (plan : Plan) → IsAlive s p n
    → HeardOf (view s p) n kept from app plan → Calms s p plan
heard-calm s is p from n kept app plan at (ways.misses_request body talk) = update-calm s p n plan _ refl at tt (live-calm s is p n at) tt
heard-calm s is p from n kept app plan at (ways.accepts body talk awaited) = update-calm s p n plan _ refl at tt (live-calm s is p n at) tt
heard-calm s is p from n kept app plan at (ways.ignores_reply body talk other) = update-calm s p n plan _ refl at tt (live-calm s is p n at) tt
heard-calm s is p from n kept app plan at (ways.hears body talk new) = update-calm s p n plan _ refl at tt (live-calm s is p n at) tt
heard-calm s is p from n kept app plan at (ways.answers_again body talk old has) = update-calm s p n plan _ refl at tt (live-calm s is p n at) (tt, tt)
heard-calm s is p from n kept app plan at (ways.ignores_request body talk old none) = update-calm s p n plan _ refl at tt (live-calm s is p n at) tt
heard-calm s is p from n kept app plan at (ways.misses_reply body talk) = update-calm s p n plan _ refl at tt (live-calm s is p n at) tt

-- the phase stays, with another ballot
phase-again : (x : Phase) (b c : Poll) (phase : Poll → Phase) → Votes x b phase → IsPhaseCalm x → IsPhaseCalm (phase c)
phase-again x b c phase plans.holds is = tt
phase-again x b c phase plans.rolls is = is

-- a node takes a checkpoint, and asks its cohort
check-calm : (s : State) (p : NodeId) (n : Live) (b : Poll) (write : Write) → IsAlive s p n → Calms s p (held_plan n b write)
check-calm s p n b write at =
    update-calm s p n _ _ refl at tt tt
    (all-append SaysCalm (check_asks b.instance n b.asked) (votes (casting b)) (checks-calm b.instance n b.asked) (casting-calm b))

held-calm : (s : State) (p : NodeId) (n : Live) (agreed : Bool) (send : List (NodeId × Message)) → IsAlive s p n → AllByRecursion SaysCalm send
    → Calms s p (held_learns agreed send)
held-calm s p n true send at says = update-calm s p n _ _ refl at tt tt says
held-calm s p n false send at says = update-calm s p n _ _ refl at tt tt says

decide-calm : (s : State) → IsCalm s → (p : NodeId) (n : Live) (b : Poll) (agreed : Bool) → IsAlive s p n → Calms s p (decide_plan n.phase b agreed)
decide-calm s is p n b agreed at = by n.phase agreed (live-calm s is p n at) refl
  where
    by : (x : Phase) (agreed : Bool) → IsPhaseCalm x → n.phase ≡ x → Calms s p (decide_plan x b agreed)
    by (phases.Rolling c) agreed calm e = absurd calm
    by (phases.Held c) agreed calm e = update-calm s p n _ _ refl at tt (live-calm s is p n at) (verdicts-calm b.instance agreed b.asked)
    by phases.Up agreed calm e = update-calm s p n _ _ refl at tt (live-calm s is p n at) (verdicts-calm b.instance agreed b.asked)

-- a plan is a failure's, and notes a cut, or it leaves the state calm
abbrev Goes : State → Step → Plan → Type 0
Goes s step plan = (IsFailure step × IsCut plan.note) ⊎ Calms s (owner step) plan

plan-goes : (s : State) → IsReady s → IsCalm s → (t : StoreReads) (step : Step) (plan : Plan) → PlanOf s t step plan → Goes s step plan
plan-goes s ready is t step plan (plans.issues {p = p} {n = n} there at up body kept next) =
    inr (update-calm s p n plan _ refl at tt (live-calm s is p n at) (tt, tt))
plan-goes s ready is t step plan (plans.repeats {p = p} {n = n} there at up body again) =
    inr (update-calm s p n plan _ refl at tt (live-calm s is p n at) (tt, tt))
plan-goes s ready is t step plan (plans.serves {p = p} {n = n} there other at up body gives) =
    inr (update-calm s p n plan _ refl at tt (live-calm s is p n at) (tt, tt))
plan-goes s ready is t step plan (plans.takes {p = p} {from = from} {n = n} {app = app} there at up kept) =
    inr (heard-calm s is p from n keeps.TakeFirst app plan at (heard-is (view s p) n keeps.TakeFirst from app))
plan-goes s ready is t step plan (plans.hears {p = p} {q = q} {n = n} {app = app} comes at up kept) =
    inr (heard-calm s is q p n keeps.Stay app plan at (heard-is (view s q) n keeps.Stay p app))
plan-goes s ready is t step plan (plans.puts_by {q = q} {n = n} comes at rolls) = inr (update-calm s q n plan _ refl at tt (live-calm s is q n at) tt)
plan-goes s ready is t step plan (plans.drops {q = q} comes may) = inr (drop-calm s is q plan refl refl refl)
plan-goes s ready is t step plan (plans.answers_check {q = q} {n = n} comes at says) = inr
    (update-calm s q n plan _ refl at tt (live-calm s is q n at) (tt, tt))
plan-goes s ready is t step plan (plans.joins_check {p = p} {q = q} {n = n} {ask = ask} comes at up undecided joins fit other shaped) =
    inr (check-calm s q n (asking_poll ask.instance n.incarnation (Some (asker_of p ask)) (cohort (role_of s.scene q) t.permanent n)) _ at)
plan-goes s ready is t step plan (plans.answers_rollback {p = p} {q = q} {ask = ask} comes at says) = absurd (none-asked s is p q (messages.RollAsk ask) comes)
plan-goes s ready is t step plan (plans.joins_rollback {p = p} {q = q} {ask = ask} comes at up undecided above fit) =
    absurd (none-asked s is p q (messages.RollAsk ask) comes)
plan-goes s ready is t step plan (plans.counts_vote {q = q} {n = n} {b = b} {phase = phase} comes at voting on) =
    inr (update-calm s q n plan _ refl at tt (phase-again n.phase b _ phase voting (live-calm s is q n at)) (casting-calm _))
plan-goes s ready is t step plan (plans.told_when_held {q = q} {n = n} {b = b} {instance = instance} {agreed = agreed} comes at held same) =
    inr (held-calm s q n agreed _ at (verdicts-calm instance agreed b.asked))
plan-goes s ready is t step plan (plans.told_to_roll {q = q} {n = n} {b = b} comes at rolls asked same loads) = absurd (none-rolls s is q n b at rolls)
plan-goes s ready is t step plan (plans.told_to_go_on {q = q} {n = n} {b = b} comes at rolls asked same) = absurd (none-rolls s is q n b at rolls)
plan-goes s ready is t step plan (plans.begins_check {p = p} {n = n} there at up fit shaped) =
    inr (check-calm s p n (asking_poll t.next n.incarnation None (cohort (role_of s.scene p) t.permanent n)) _ at)
plan-goes s ready is t step plan (plans.decides {p = p} {n = n} {b = b} {agreed = agreed} there at voting own undecided outcome) =
    inr (decide-calm s is p n b agreed at)
plan-goes s ready is t step plan (plans.gives_up {p = p} {n = n} {b = b} there at voting own undecided) =
    inr (update-calm s p n plan _ refl at tt (live-calm s is p n at) (verdicts-calm b.instance false b.asked))
plan-goes s ready is t step plan (plans.gives_up_down {p = p} there down has) = absurd (none-down s ready is p there down)
plan-goes s ready is t step plan (plans.declines {p = p} {n = n} {b = b} {phase = phase} there at voting asked has) =
    inr (update-calm s p n plan _ refl at tt (phase-again n.phase b (voted b) phase voting (live-calm s is p n at)) (tt, tt))
plan-goes s ready is t step plan (plans.learns_when_held {p = p} {n = n} {agreed = agreed} there at held knows) = inr (held-calm s p n agreed [] at tt)
plan-goes s ready is t step plan (plans.learns_to_roll {p = p} {n = n} {b = b} there at rolls asked knows loads) = absurd (none-rolls s is p n b at rolls)
plan-goes s ready is t step plan (plans.learns_to_go_on {p = p} {n = n} {b = b} there at rolls asked knows) = absurd (none-rolls s is p n b at rolls)
plan-goes s ready is t step plan (plans.learns_yes_down {p = p} there down has knows) = absurd (none-down s ready is p there down)
plan-goes s ready is t step plan (plans.learns_no_down {p = p} there down has knows fit) = absurd (none-down s ready is p there down)
plan-goes s ready is t step plan (plans.fails there at fit other) = inl (tt, tt)
plan-goes s ready is t step plan (plans.restarts {p = p} there down has free loads) = absurd (none-down s ready is p there down)
plan-goes s ready is t step plan (plans.restarts_anew {p = p} {n = n} {b = b} there at rolls own refused loads) = absurd (none-rolls s is p n b at rolls)

-- ---- what it leaves

calm-after : (s : State) → IsCalm s → (step : Step) (plan : Plan) → Calms s (owner step) plan → IsCalm (applied s step plan)
calm-after s is step plan calms = record {
  nodes = applied-rows s step plan (λ q row. IsRowCalm row) calms.row (λ q apart. is.nodes q);
  messages = on_links;
}
  where
    on_links : (k : ℕ) (m : Message) → Contains (at [] (applied s step plan).links k) m → IsMessageCalm m
    on_links k m c = elim (sent-cases (link_place s.scene) (taken_off (link_place s.scene) s.links step) (owner step) plan.send (Some k) m c) [
      | inl old ↦ is.messages k m (taken_off-was (link_place s.scene) s.links step (Some k) m old)
      | inr new ↦ all-at SaysCalm plan.send (new.to, m) calms.says new.among
    ]

-- a history before its last note has no cut where it has none behind it
no_cut-before : (h : List Note) (note : Option Note) → HasNoCut (noted h note) → HasNoCut h
no_cut-before h None none = none
no_cut-before h (Some x) none = record {
  none = λ n p keep e. none.none n p keep (note_at-old h (x ∷ []) n (note_at-within h n (notes.Cut p keep) e).1 ∙ e);
}

no_cut-after : (h : List Note) (note : Option Note) → NotCut note → HasNoCut h → HasNoCut (noted h note)
no_cut-after h None is none = none
no_cut-after h (Some (notes.Cut p keep)) is none = absurd is
no_cut-after h (Some (notes.Act a)) is none = record { none = by }
  where
    by : (n : ℕ) (p : NodeId) (keep : ℕ) → note_at (h ++ notes.Act a ∷ []) n ≡ Some (notes.Cut p keep) → ⊥
    by n p keep e = elim (note_at-push_cases h (notes.Act a) n (notes.Cut p keep) e) [
      | inl old ↦ none.none n p keep old.1
      | inr new ↦ cc (new.1)
    ]

cut-noted : (h : List Note) (note : Option Note) → IsCut note → HasNoCut (noted h note) → ⊥
cut-noted h None is none = is
cut-noted h (Some (notes.Act a)) is none = is
cut-noted h (Some (notes.Cut p keep)) is none = none.none (suc (length h)) p keep (note_at-new h (notes.Cut p keep))

-- ---- the laws

-- while there is no cut the state stays calm
pub stays_calm : (s : State) → IsReady s → (HasNoCut s.history → IsCalm s) → (t : StoreReads) (step : Step) (plan : Plan) → PlanOf s t step plan
    → HasNoCut (applied s step plan).history → IsCalm (applied s step plan)
stays_calm s ready calm t step plan of none =
    let before = calm (no_cut-before s.history plan.note none) in
    elim (plan-goes s ready before t step plan of) [
      | inl cuts ↦ absurd (cut-noted s.history plan.note cuts.1 none)
      | inr calms ↦ calm-after s before step plan calms
    ]

-- the step that makes the first cut is a failure
pub failure_cuts_first : (s : State) → IsReady s → IsCalm s → (t : StoreReads) (step : Step) (plan : Plan) → PlanOf s t step plan
    → HasNoCut s.history → HasCut (applied s step plan).history → IsFailure step
failure_cuts_first s ready calm t step plan of none has = elim (plan-goes s ready calm t step plan of) [
  | inl cuts ↦ cuts.0
  | inr calms ↦ absurd ((no_cut-after s.history plan.note calms.note none).none has.number has.node has.keep has.is_cut)
]

-- ---- the opening

pub opening_calm : (scene : SceneModel) → IsScene scene → IsCalm (opening scene)
opening_calm scene is = record {
  nodes = λ p. subst IsRowCalm (sym (opening-node scene is p)) (by p (is_node scene p));
  messages = λ k m on. absurd (no_messages _ k m on);
}
  where
    by : (p : NodeId) (b : Bool) → IsRowCalm (if b then Some (opening_node (role_of scene p)) else None)
    by p true = tt
    by p false = tt
