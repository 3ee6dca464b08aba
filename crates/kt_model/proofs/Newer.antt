-- Whoever votes, and whoever is asked to, does so in an instance that was begun since the world was resumed: so no instance
-- that was found gets a Yes any more.
-- Cited by AllInstanceRows, Kept, Settling.
use Rattle.std.proofs.Common.{◌≡◌, ℕ, suc, Bool, true, false, List, [], Contains, Option, None, Some, inl, inr, refl, sym, subst}
use Rattle.std.specs.Prelude.{IfSome, is_some, IsTrue}
use Rattle.std.specs.List.{AllByRecursion}
use Rattle.std.specs.Option.{option_map}
use Rattle.kt_tuple.specs.declared.node.NodeId.{NodeId}
use Rattle.kt_shard.specs.Table.{at}
use Rattle.kt_vote.specs.declared.asker.Asker.{Asker}
use Rattle.kt_vote.specs.declared.vote.Vote.{Vote}
use Rattle.kt_vote.specs.Poll.{Poll, asking_poll}
use Rattle.kt_state.specs.declared.message.AppMessage.{AppMessage}
use Rattle.kt_state.specs.declared.message.Message.{Message}
use Rattle.kt_state.specs.declared.message.Message.TheVariants as messages
use Rattle.kt_state.specs.declared.live.Phase.{Phase}
use Rattle.kt_state.specs.declared.live.Phase.TheVariants as phases
use Rattle.kt_state.specs.declared.change.KeptChange.{KeptChange}
use Rattle.kt_state.specs.declared.change.KeptChange.TheVariants as keeps
use Rattle.kt_state.specs.declared.change.Update.{Update}
use Rattle.kt_state.specs.declared.change.Change.{Change}
use Rattle.kt_state.specs.declared.change.Change.TheVariants as changes
use Rattle.kt_state.specs.declared.plan.Plan.{Plan}
use Rattle.kt_state.specs.declared.plan.Write.{Write}
use Rattle.kt_state.specs.Node.{Live, Node, Down, Alive}
use Rattle.kt_state.specs.Updating.{changed, phase_in}
use Rattle.kt_state.specs.Voting.{casting, voted, votes}
use Rattle.kt_state.specs.Asking.{check_asks}
use Rattle.kt_node.specs.Joining.{asker_of, cohort, held_plan}
use Rattle.kt_node.specs.Learning.{held_learns, verdict_to}
use Rattle.kt_node.specs.Deciding.{decide_plan}
use Rattle.kt_scenario.specs.declared.step.Step.{Step}
use Rattle.kt_scenario.specs.Step.{owner}
use Rattle.kt_model.specs.State.{State, node, link_place, role_of, view}
use Rattle.kt_model.specs.Effect.{taken_off, applied}
use Rattle.kt_model.proofs.Plans as plans
use Rattle.kt_model.proofs.Plans.{IsAlive, IsDown, Comes, Votes, PlanOf}
use Rattle.kt_model.proofs.OnLinks.{taken_off-was, sent-cases, first-holds}
use Rattle.kt_model.proofs.Frames.{applied-rows}
use Rattle.kt_logs.proofs.Shared.{all-append}
use Rattle.kt_model.proofs.Lists.{all-from, all-map}
use Rattle.kt_model.proofs.Leaves.{casting-all}
use Rattle.kt_model.proofs.Heards as ways
use Rattle.kt_model.proofs.Heards.{HeardOf, heard-is}
use Rattle.kt_logs.proofs.Shared.{all-at}
use Rattle.std.proofs.Common.{zero, ◌+◌, ◌<◌, ◌≤◌, ◌==◌, map, Result, Ok, Err, arith}
use Rattle.std.specs.Prelude.{fold, max}
use Rattle.std.proofs.lemmas.Bool.{cases_eq, lt-leb}
use Rattle.kt_link.specs.declared.label.Label.{Label}
use Rattle.kt_ckpt.specs.declared.ckpt.Ckpt.{Ckpt}
use Rattle.kt_store.specs.declared.rows.InstanceRow.{InstanceRow}
use Rattle.kt_store.specs.declared.rows.Purpose.{Purpose}
use Rattle.kt_store.specs.declared.rows.Purpose.TheVariants as purposes
use Rattle.kt_store.specs.Content.{Content, next_instance, instance_row, row_of}
use Rattle.kt_store.specs.Changes.{opening as opening_of, decided, storing, taken}
use Rattle.kt_store.proofs.Shared.{above_all, decided_is_read, others_begun, others_decided}
use Rattle.kt_state.specs.declared.plan.Write.TheVariants as writes
use Rattle.kt_state.specs.declared.refusal.Refusal.{Refusal}
use Rattle.kt_state.specs.declared.stored.Stored.{Stored}
use Rattle.kt_state.specs.Node.{Body}
use Rattle.kt_state.specs.Labels.{label_at}
use Rattle.kt_node.specs.Loading.{load}
use Rattle.kt_state.specs.Loading.{loaded_by, loaded_from, header_in}
use Rattle.kt_state.specs.State.{body_at}
use Rattle.kt_state.specs.Stored.{fits, sent_in}
use Rattle.kt_node.specs.View.{View}
use Rattle.kt_vote.specs.Poll.{counted}
use Rattle.kt_state.specs.Asking.{roll_asks}
use Rattle.kt_state.specs.Node.{neighbours}
use Rattle.kt_model.specs.Found.{was_found}
use Rattle.kt_model.specs.StoreReads.{store_reads}
use Rattle.kt_model.specs.Writing.{content_after}
use Rattle.kt_model.proofs.StaysBacked.{after-instance}
use Rattle.kt_model.proofs.Boards.{found-holds}
use Rattle.kt_model.proofs.Loads.{load-passed}
use Rattle.kt_model.proofs.Settle.{WritesNew}

-- ---- instances since then

abbrev pub IsNewNumber : Option ℕ → ℕ → Type 0
IsNewNumber f i = was_found f i ≡ false

abbrev pub IsNewPhase : Option ℕ → Phase → Type 0
IsNewPhase f phases.Up = Unit {0}
IsNewPhase f (phases.Held b) = IsNewNumber f b.instance
IsNewPhase f (phases.Rolling b) = IsNewNumber f b.instance

abbrev pub IsNewNode : Option ℕ → Node → Type 0
IsNewNode f Down = Unit {0}
IsNewNode f (Alive n) = IsNewPhase f n.phase

abbrev pub IsNewRow : Option ℕ → Option Node → Type 0
IsNewRow f row = IfSome row (IsNewNode f)

abbrev pub IsNewMessage : Option ℕ → Message → Type 0
IsNewMessage f (messages.CheckAsk ask) = IsNewNumber f ask.instance
IsNewMessage f (messages.RollAsk ask) = IsNewNumber f ask.instance
IsNewMessage f message = Unit {0}

-- the greatest number that was found is on the board still, if any was
abbrev pub IsInstanceRow : Content → Option ℕ → Type 0
IsInstanceRow c None = Unit {0}
IsInstanceRow c (Some zero) = Unit {0}
IsInstanceRow c (Some (suc n)) = IsTrue (is_some (instance_row c (suc n)))

pub record IsNewer (s : State) : Type 0 where
  pub nodes : (p : NodeId) → IsNewRow s.found (node s p)
  pub messages : (k : ℕ) (m : Message) → Contains (at [] s.links k) m → IsNewMessage s.found m
  pub instance_row : IsInstanceRow s.content s.found

abbrev SaysNew : Option ℕ → NodeId × Message → Type 0
SaysNew f x = IsNewMessage f x.1

-- a plan of p that names new instances alone
pub record News (s : State) (p : NodeId) (plan : Plan) : Type 0 where
  pub row : IsNewRow s.found (option_map (changed plan.change) (node s p))
  pub says : AllByRecursion (SaysNew s.found) plan.send
  pub write : WritesNew s.found plan.write

-- ---- the next instance

instance_row-least : (c : Content) (i : ℕ) → IsTrue (is_some (instance_row c i)) → i < next_instance c
instance_row-least c i some = by (instance_row c i) refl some where
  most : ℕ
  most = fold max 0 (map (λ (row : InstanceRow). row.instance) c.board)

  by : (o : Option InstanceRow) → instance_row c i ≡ o → IsTrue (is_some o) → i < next_instance c
  by None e some = absurd (cc (some))
  by (Some row) e some =
      let both = found-holds (λ (x : InstanceRow). x.instance ≤ most) (λ (x : InstanceRow). x.instance == i) c.board row (above_all c.board 0) e in
      let low = both.0 in
      let same = both.1 in
      let le : i ≤ most = grind (arith, low, same) in
      omega (arith, le)

pub next-new : (c : Content) (f : Option ℕ) → IsInstanceRow c f → IsNewNumber f (next_instance c)
next-new c None is = refl
next-new c (Some zero) is = lt-leb (next_instance c) 0 (omega arith)
next-new c (Some (suc n)) is = lt-leb (next_instance c) (suc n) (instance_row-least c (suc n) is)

-- ---- what is known

live-new : (s : State) → IsNewer s → (p : NodeId) (n : Live) → IsAlive s p n → IsNewPhase s.found n.phase
live-new s is p n at = subst (IsNewRow s.found) at (is.nodes p)

asked-new : (s : State) → IsNewer s → (p q : NodeId) (m : Message) → Comes s p q m → IsNewMessage s.found m
asked-new s is p q m comes = first-holds s p q m (IsNewMessage s.found) comes is.messages

poll-new : (f : Option ℕ) (x : Phase) (b : Poll) (phase : Poll → Phase) → Votes x b phase → IsNewPhase f x → IsNewNumber f b.instance
poll-new f x b phase plans.holds is = is
poll-new f x b phase plans.rolls is = is

-- ---- what is sent

casting-new : (f : Option ℕ) (b : Poll) → AllByRecursion (SaysNew f) (votes (casting b))
casting-new f b = casting-all (SaysNew f) b (by b.parent)
  where
    by : (o : Option Asker) → IfSome o (λ a. (vote : Vote) → Unit {0})
    by None = tt
    by (Some a) = λ vote. tt

checks-new : (f : Option ℕ) (instance : ℕ) (n : Live) (asked : List NodeId) → IsNewNumber f instance → AllByRecursion (SaysNew f) (check_asks instance n asked)
checks-new f instance n asked new = all-map (SaysNew f) _ asked (all-from (λ q. IsNewNumber f instance) asked (λ q h. new))

rolls-new : (f : Option ℕ) (instance incarnation : ℕ) (label : ℕ → Label) (asked : List NodeId) → IsNewNumber f instance
    → AllByRecursion (SaysNew f) (roll_asks instance incarnation label asked)
rolls-new f instance incarnation label asked new = all-map (SaysNew f) _ asked (all-from (λ q. IsNewNumber f instance) asked (λ q h. new))

verdicts-new : (f : Option ℕ) (instance : ℕ) (agreed : Bool) (asked : List NodeId) → AllByRecursion (SaysNew f) (verdict_to instance agreed asked)
verdicts-new f instance agreed asked = all-map (SaysNew f) _ asked (all-from (λ q. Unit {0}) asked (λ q h. tt))

-- ---- the plans

update-new : (s : State) (p : NodeId) (n : Live) (plan : Plan) (t : Update) → plan.change ≡ changes.Update t → IsAlive s p n
    → IsNewPhase s.found (phase_in n.phase t.phase) → AllByRecursion (SaysNew s.found) plan.send → WritesNew s.found plan.write → News s p plan
update-new s p n plan t change at is says write = record {
  row = subst (λ (c : Change). IsNewRow s.found (option_map (changed c) (node s p))) (sym change)
      (subst (λ (row : Option Node). IsNewRow s.found (option_map (changed (changes.Update t)) row)) (sym at) is);
  says = says;
  write = write;
}

stay-new : (s : State) → IsNewer s → (p : NodeId) (plan : Plan) → plan.change ≡ changes.Stay → plan.send ≡ [] → WritesNew s.found plan.write → News s p plan
stay-new s is p plan change send write = record {
  row = subst (λ (c : Change). IsNewRow s.found (option_map (changed c) (node s p))) (sym change) (stays (node s p) (is.nodes p));
  says = subst (AllByRecursion (SaysNew s.found)) (sym send) tt;
  write = write;
}
  where
    stays : (row : Option Node) → IsNewRow s.found row → IsNewRow s.found (option_map (changed changes.Stay) row)
    stays None h = tt
    stays (Some x) h = h

load-new : (s : State) (p : NodeId) (plan : Plan) (live : Live) → plan.change ≡ changes.Load live → IsNewPhase s.found live.phase
    → AllByRecursion (SaysNew s.found) plan.send → WritesNew s.found plan.write → News s p plan
load-new s p plan live change is says write = record {
  row = subst (λ (c : Change). IsNewRow s.found (option_map (changed c) (node s p))) (sym change) (loads (node s p));
  says = says;
  write = write;
}
  where
    loads : (row : Option Node) → IsNewRow s.found (option_map (changed (changes.Load live)) row)
    loads None = tt
    loads (Some x) = is

fall-new : (s : State) (p : NodeId) (plan : Plan) → plan.change ≡ changes.Fall → plan.send ≡ [] → WritesNew s.found plan.write → News s p plan
fall-new s p plan change send write = record {
  row = subst (λ (c : Change). IsNewRow s.found (option_map (changed c) (node s p))) (sym change) (falls (node s p));
  says = subst (AllByRecursion (SaysNew s.found)) (sym send) tt;
  write = write;
}
  where
    falls : (row : Option Node) → IsNewRow s.found (option_map (changed changes.Fall) row)
    falls None = tt
    falls (Some x) = tt

-- what is loaded is up
loaded-new : (f : Option ℕ) (v : View) (stored : Stored) (live : Live) → load v stored ≡ Ok live → IsNewPhase f live.phase
loaded-new f v stored live e =
    let passed = load-passed (fits v.role v.line_len (header_in stored)) _ live e in by (body_at v.role stored.permanent) passed.1
  where
    up : (o : Option Ckpt) (k : ℕ) (b : Body) → IsNewPhase f (loaded_from o k b).phase
    up None k b = tt
    up (Some c) k b = tt

    by : (r : Result Body Refusal) → loaded_by stored.permanent (stored.incarnation + 1) r ≡ Ok live → IsNewPhase f live.phase
    by (Err refusal) e = absurd cc
    by (Ok b) e =
        let same : loaded_from stored.permanent (stored.incarnation + 1) b ≡ live = cc in
        subst (λ (l : Live). IsNewPhase f l.phase) same (up stored.permanent (stored.incarnation + 1) b)

heard-new : (s : State) → IsNewer s → (p from : NodeId) (n : Live) (kept : KeptChange) (app : AppMessage) (plan : Plan) → IsAlive s p n
    → HeardOf (view s p) n kept from app plan → News s p plan
heard-new s is p from n kept app plan at (ways.misses_request body talk) = update-new s p n plan _ refl at (live-new s is p n at) tt tt
heard-new s is p from n kept app plan at (ways.accepts body talk awaited) = update-new s p n plan _ refl at (live-new s is p n at) tt tt
heard-new s is p from n kept app plan at (ways.ignores_reply body talk other) = update-new s p n plan _ refl at (live-new s is p n at) tt tt
heard-new s is p from n kept app plan at (ways.hears body talk new) = update-new s p n plan _ refl at (live-new s is p n at) tt tt
heard-new s is p from n kept app plan at (ways.answers_again body talk old has) = update-new s p n plan _ refl at (live-new s is p n at) (tt, tt) tt
heard-new s is p from n kept app plan at (ways.ignores_request body talk old none) = update-new s p n plan _ refl at (live-new s is p n at) tt tt
heard-new s is p from n kept app plan at (ways.misses_reply body talk) = update-new s p n plan _ refl at (live-new s is p n at) tt tt

-- the phase stays, with another ballot in the same instance
again-new : (f : Option ℕ) (x : Phase) (b c : Poll) (phase : Poll → Phase) → Votes x b phase → c.instance ≡ b.instance → IsNewPhase f x → IsNewPhase f (phase c)
again-new f x b c phase plans.holds same is = subst (λ i. IsNewNumber f i) (sym same) is
again-new f x b c phase plans.rolls same is = subst (λ i. IsNewNumber f i) (sym same) is

check-new : (s : State) (p : NodeId) (n : Live) (b : Poll) (write : Write) → IsAlive s p n → IsNewNumber s.found b.instance → WritesNew s.found (Some write)
    → News s p (held_plan n b write)
check-new s p n b write at new writes =
    update-new s p n _ _ refl at (subst (λ i. IsNewNumber s.found i) (sym (after-instance b (casting b))) new)
    (all-append (SaysNew s.found) (check_asks b.instance n b.asked) (votes (casting b)) (checks-new s.found b.instance n b.asked new) (casting-new s.found b))
    writes

held-new : (s : State) (p : NodeId) (n : Live) (agreed : Bool) (send : List (NodeId × Message)) → IsAlive s p n → AllByRecursion (SaysNew s.found) send
    → News s p (held_learns agreed send)
held-new s p n true send at says = update-new s p n _ _ refl at tt says tt
held-new s p n false send at says = update-new s p n _ _ refl at tt says tt

decide-new : (s : State) → IsNewer s → (p : NodeId) (n : Live) (b : Poll) (agreed : Bool) → IsAlive s p n → IsNewNumber s.found b.instance
    → News s p (decide_plan n.phase b agreed)
decide-new s is p n b agreed at new = by n.phase agreed refl
  where
    says : (a : Bool) → AllByRecursion (SaysNew s.found) (verdict_to b.instance a b.asked)
    says a = verdicts-new s.found b.instance a b.asked

    by : (x : Phase) (agreed : Bool) → n.phase ≡ x → News s p (decide_plan x b agreed)
    by (phases.Rolling c) true e = update-new s p n _ _ refl at tt (says true) (λ a. new)
    by (phases.Rolling c) false e = update-new s p n _ _ refl at (live-new s is p n at) (says false) (λ a. new)
    by (phases.Held c) agreed e = update-new s p n _ _ refl at (live-new s is p n at) (says agreed) (λ a. new)
    by phases.Up agreed e = update-new s p n _ _ refl at (live-new s is p n at) (says agreed) (λ a. new)

false-true : {X : Type 0} → false ≡ true → X
false-true e = absurd (cc (e))

pub plan-news : (s : State) → IsNewer s → (step : Step) (plan : Plan) → PlanOf s (store_reads s step) step plan → News s (owner step) plan
plan-news s is step plan (plans.issues {p = p} {n = n} there at up body kept next) = update-new s p n plan _ refl at (live-new s is p n at) (tt, tt) tt
plan-news s is step plan (plans.repeats {p = p} {n = n} there at up body again) = update-new s p n plan _ refl at (live-new s is p n at) (tt, tt) tt
plan-news s is step plan (plans.serves {p = p} {n = n} there other at up body gives) = update-new s p n plan _ refl at (live-new s is p n at) (tt, tt) tt
plan-news s is step plan (plans.takes {p = p} {from = from} {n = n} {app = app} there at up kept) =
    heard-new s is p from n keeps.TakeFirst app plan at (heard-is (view s p) n keeps.TakeFirst from app)
plan-news s is step plan (plans.hears {p = p} {q = q} {n = n} {app = app} comes at up kept) =
    heard-new s is q p n keeps.Stay app plan at (heard-is (view s q) n keeps.Stay p app)
plan-news s is step plan (plans.puts_by {q = q} {n = n} comes at rolls) = update-new s q n plan _ refl at (live-new s is q n at) tt tt
plan-news s is step plan (plans.drops {q = q} comes may) = stay-new s is q plan refl refl tt
plan-news s is step plan (plans.answers_check {q = q} {n = n} comes at says) = update-new s q n plan _ refl at (live-new s is q n at) (tt, tt) tt
plan-news s is step plan (plans.joins_check {p = p} {q = q} {n = n} {ask = ask} comes at up undecided joins fit other shaped) =
    let new = asked-new s is p q (messages.CheckAsk ask) comes in
    check-new s q n (asking_poll ask.instance n.incarnation (Some (asker_of p ask)) (cohort (role_of s.scene q) (store_reads s step).permanent n)) _ at new new
plan-news s is step plan (plans.answers_rollback {q = q} {n = n} comes at says) = update-new s q n plan _ refl at (live-new s is q n at) (tt, tt) tt
plan-news s is step plan (plans.joins_rollback {p = p} {q = q} {n = n} {ask = ask} comes at up undecided above fit) =
    let new = asked-new s is p q (messages.RollAsk ask) comes in
    let b = asking_poll ask.instance n.incarnation (Some (asker_of p ask)) (neighbours (role_of s.scene q)) in
    update-new s q n plan _ refl at (subst (λ i. IsNewNumber s.found i) (sym (after-instance b (casting b))) new)
    (all-append (SaysNew s.found) (roll_asks b.instance n.incarnation (sent_in (store_reads s step).permanent) b.asked) (votes (casting b))
    (rolls-new s.found b.instance n.incarnation (sent_in (store_reads s step).permanent) b.asked new) (casting-new s.found b))
    tt
plan-news s is step plan (plans.counts_vote {p = p} {q = q} {n = n} {vote = vote} {b = b} {phase = phase} comes at voting on) =
    update-new s q n plan _ refl at
    (again-new s.found n.phase b _ phase voting (after-instance (counted b p vote.yes) (casting (counted b p vote.yes))) (live-new s is q n at))
    (casting-new s.found _) tt
plan-news s is step plan (plans.told_when_held {q = q} {n = n} {b = b} {instance = instance} {agreed = agreed} comes at held same) =
    held-new s q n agreed _ at (verdicts-new s.found instance agreed b.asked)
plan-news s is step plan (plans.told_to_roll {q = q} {n = n} {live = live} {b = b} {instance = instance} comes at rolls asked same loads) =
    load-new s q plan live refl (loaded-new s.found (view s q) (store_reads s step).stored live loads) (verdicts-new s.found instance true b.asked) tt
plan-news s is step plan (plans.told_to_go_on {q = q} {n = n} {b = b} {instance = instance} comes at rolls asked same) =
    update-new s q n plan _ refl at tt (verdicts-new s.found instance false b.asked) tt
plan-news s is step plan (plans.begins_check {p = p} {n = n} there at up fit shaped) =
    check-new s p n (asking_poll (next_instance s.content) n.incarnation None (cohort (role_of s.scene p) (store_reads s step).permanent n)) _ at
    (next-new s.content s.found is.instance_row) tt
plan-news s is step plan (plans.decides {p = p} {n = n} {b = b} {phase = phase} {agreed = agreed} there at voting own undecided outcome) =
    decide-new s is p n b agreed at (poll-new s.found n.phase b phase voting (live-new s is p n at))
plan-news s is step plan (plans.gives_up {p = p} {n = n} {b = b} there at voting own undecided) =
    update-new s p n plan _ refl at (live-new s is p n at) (verdicts-new s.found b.instance false b.asked) (λ e. false-true e)
plan-news s is step plan (plans.gives_up_down {p = p} there down has) = stay-new s is p plan refl refl (λ e. false-true e)
plan-news s is step plan (plans.declines {p = p} {n = n} {b = b} {phase = phase} there at voting asked has) =
    update-new s p n plan _ refl at (again-new s.found n.phase b (voted b) phase voting refl (live-new s is p n at)) (tt, tt) tt
plan-news s is step plan (plans.learns_when_held {p = p} {n = n} {agreed = agreed} there at held knows) = held-new s p n agreed [] at tt
plan-news s is step plan (plans.learns_to_roll {p = p} {n = n} {live = live} {b = b} there at rolls asked knows loads) =
    load-new s p plan live refl (loaded-new s.found (view s p) (store_reads s step).stored live loads) tt tt
plan-news s is step plan (plans.learns_to_go_on {p = p} {n = n} {b = b} there at rolls asked knows) = update-new s p n plan _ refl at tt tt tt
plan-news s is step plan (plans.learns_yes_down {p = p} there down has knows) = stay-new s is p plan refl refl tt
plan-news s is step plan (plans.learns_no_down {p = p} there down has knows fit) = stay-new s is p plan refl refl tt
plan-news s is step plan (plans.fails {p = p} there at fit other) = fall-new s p plan refl refl tt
plan-news s is step plan (plans.restarts {p = p} {live = live} there down has free loads) =
    let new = next-new s.content s.found is.instance_row in
    load-new s p plan _ refl new (rolls-new s.found (next_instance s.content) ((store_reads s step).stored.incarnation + 1) (label_at live.sent)
    (neighbours (role_of s.scene p)) new) tt
plan-news s is step plan (plans.restarts_anew {p = p} {n = n} {live = live} {b = b} there at rolls own refused loads) =
    let new = next-new s.content s.found is.instance_row in
    load-new s p plan _ refl new (rolls-new s.found (next_instance s.content) ((store_reads s step).stored.incarnation + 1) (label_at live.sent)
    (neighbours (role_of s.scene p)) new) tt

-- ---- what it leaves

is-some-map : {A B : Type 0} (f : A → B) (o : Option A) → IsTrue (is_some o) → IsTrue (is_some (option_map f o))
is-some-map f None t = t
is-some-map f (Some x) t = t

begun-instance_row : (p : NodeId) (purpose : Purpose) (c : Content) (i : ℕ) → IsTrue (is_some (instance_row c i))
    → IsTrue (is_some (instance_row (opening_of p purpose c) i))
begun-instance_row p purpose c i some =
    subst (λ (o : Option InstanceRow). IsTrue (is_some o)) (sym (others_begun p purpose c i
    (λ e. let lt = instance_row-least c i some in absurd (omega (arith, e, lt))))) some

decided-instance_row : (j : ℕ) (agreed : Bool) (c : Content) (i : ℕ) → IsTrue (is_some (instance_row c i))
    → IsTrue (is_some (instance_row (decided j agreed c) i))
decided-instance_row j agreed c i some = elim (cases_eq i j) [
  | inl e ↦
      let T : ℕ → Type 0 = λ k. IsTrue (is_some (instance_row (decided j agreed c) k)) in
      subst T (sym e) (subst (λ (o : Option InstanceRow). IsTrue (is_some o)) (sym (decided_is_read j agreed c))
      (is-some-map _ (instance_row c j) (subst (λ k. IsTrue (is_some (instance_row c k))) e some)))
  | inr d ↦ subst (λ (o : Option InstanceRow). IsTrue (is_some o)) (sym (others_decided j agreed c i d)) some
]

pub instance_row-after : (p : NodeId) (write : Option Write) (c : Content) (i : ℕ) → IsTrue (is_some (instance_row c i))
    → IsTrue (is_some (instance_row (content_after p write c) i))
instance_row-after p None c i some = some
instance_row-after p (Some (writes.BeginCheck checkpoint)) c i some =
    begun-instance_row p purposes.Check (storing record (row_of c p) { tentative = taken (next_instance c) checkpoint } c) i some
instance_row-after p (Some (writes.PutTentative instance checkpoint)) c i some = some
instance_row-after p (Some writes.Promote) c i some = some
instance_row-after p (Some writes.Discard) c i some = some
instance_row-after p (Some writes.BeginRestart) c i some =
    begun-instance_row p purposes.Rollback (storing record (row_of c p) { incarnation = (row_of c p).incarnation + 1 } c) i some
instance_row-after p (Some writes.Bump) c i some = some
instance_row-after p (Some (writes.Decide instance agreed)) c i some = decided-instance_row instance agreed c i some

still-instance_row : (p : NodeId) (write : Option Write) (c : Content) (f : Option ℕ) → IsInstanceRow c f → IsInstanceRow (content_after p write c) f
still-instance_row p write c None is = tt
still-instance_row p write c (Some zero) is = tt
still-instance_row p write c (Some (suc n)) is = instance_row-after p write c (suc n) is

pub newer-after : (s : State) → IsNewer s → (step : Step) (plan : Plan) → News s (owner step) plan → IsNewer (applied s step plan)
newer-after s is step plan news = record {
  nodes = applied-rows s step plan (λ q row. IsNewRow s.found row) news.row (λ q apart. is.nodes q);
  messages = on_links;
  instance_row = still-instance_row (owner step) plan.write s.content s.found is.instance_row;
}
  where
    on_links : (k : ℕ) (m : Message) → Contains (at [] (applied s step plan).links k) m → IsNewMessage s.found m
    on_links k m c = elim (sent-cases (link_place s.scene) (taken_off (link_place s.scene) s.links step) (owner step) plan.send (Some k) m c) [
      | inl old ↦ is.messages k m (taken_off-was (link_place s.scene) s.links step (Some k) m old)
      | inr new ↦ all-at (SaysNew s.found) plan.send (new.to, m) news.says new.among
    ]
