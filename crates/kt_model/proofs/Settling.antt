-- A step of a world is one of the world in which what was found is settled, or a node that is down learns what became of
-- the tentative checkpoint that was found of it, which changes nothing there.
-- Cited by Kept, Lasting; other crates.
use Rattle.std.proofs.Common.{◌≡◌, ◌≢◌, ◌⊎◌, ℕ, Bool, true, false, List, [], ◌∷◌, length, Option, None, Some, Ok, inl, inr, refl, sym, ap, ◌∙◌}
use Rattle.std.specs.Prelude.{IsTrue, is_some, unwrap_or}
use Rattle.std.specs.Option.{option_map}
use Rattle.kt_tuple.specs.declared.node.NodeId.{NodeId}
use Rattle.kt_store.specs.declared.rows.NodeRow.{NodeRow}
use Rattle.kt_store.specs.declared.rows.Tentative.{Tentative}
use Rattle.kt_store.specs.declared.rows.Verdict.{Verdict}
use Rattle.kt_store.specs.Content.{Content, next_instance, open_of, row_of, verdict_of, verdict_on}
use Rattle.kt_store.specs.Changes.{discarded, promoted_from, storing}
use Rattle.kt_state.specs.declared.message.Message.{Message}
use Rattle.kt_state.specs.declared.message.Message.TheVariants as messages
use Rattle.kt_state.specs.declared.change.Change.TheVariants as changes
use Rattle.kt_state.specs.declared.plan.Plan.{Plan}
use Rattle.kt_state.specs.declared.plan.Write.{Write}
use Rattle.kt_state.specs.declared.plan.Write.TheVariants as writes
use Rattle.kt_state.specs.Node.{Live, Node, Down, Alive, poll_of}
use Rattle.kt_node.specs.Deciding.{no_plan}
use Rattle.kt_state.specs.Updating.{changed}
use Rattle.kt_scenario.specs.declared.step.Step.{Step}
use Rattle.kt_scenario.specs.declared.step.Step.TheVariants.{Issue, Repeat, Deliver, Take, Serve, Check, Decide, Abandon, Learn, Fail, Restart}
use Rattle.kt_model.specs.declared.store_reads.StoreReads.{StoreReads}
use Rattle.kt_scenario.specs.Step.{owner}
use Rattle.kt_model.specs.State.{State, node, link, view}
use Rattle.kt_model.specs.StoreReads.{store_reads, verdict_for, of_poll, of_first, to_learn, tentative_in, stored_of}
use Rattle.kt_model.specs.StepPlan.{has_room, unlimited_plan, within_limit, step_plan, step_plan_by}
use Rattle.kt_model.specs.Effect.{applied}
use Rattle.kt_model.specs.Writing.{content_after}
use Rattle.kt_model.specs.Found.{was_found, has_found}
use Rattle.kt_model.specs.auxiliary.Backed.{IsBacked}
use Rattle.kt_model.proofs.Frames.{applied-rows}
use Rattle.kt_model.proofs.Newer.{IsNewer, plan-news, next-new}
use Rattle.kt_model.proofs.Plans as plans
use Rattle.kt_model.proofs.Plans.{IsAlive, IsDown, Comes, IsDroppedBy, PlanOf}
use Rattle.kt_model.proofs.PlansFound.{plan-found}
use Rattle.kt_model.proofs.Settle.{settled_by, settled_with, settled_row, settled, settled_content, row-settled, storing-settled, decided-settled}
use Rattle.kt_model.proofs.Settle.{write-settled, WritesNew}
use Rattle.kt_model.proofs.StaysBacked.{write-allowed}
use Rattle.kt_model.proofs.Writes.{row_after, own-row, other-rows}

-- ---- rows with what was found

abbrev pub row_found : Option ℕ → NodeRow → Bool
row_found f row = has_found f row.tentative

unfound-with : (of : ℕ → Option Verdict) (f : Option ℕ) (o : Option Tentative) (row : NodeRow) → has_found f o ≡ false → settled_with of f o row ≡ row
unfound-with of f None row e = refl
unfound-with of f (Some t) row e = rw e refl

pub unfound-same : (f : Option ℕ) (c : Content) (row : NodeRow) → row_found f row ≡ false → settled_row f c row ≡ row
unfound-same f c row e = unfound-with (verdict_of c) f row.tentative row e

-- whose tentative checkpoint was found is down
abbrev pub FoundDown : State → Type 0
FoundDown s = (p : NodeId) → row_found s.found (row_of s.content p) ≡ true → (view s p).node ≡ Down

-- ---- what is told, and judged

pub unlimited_plan-settled : (s : State) (t : StoreReads) (step : Step) → unlimited_plan (settled s) t step ≡ unlimited_plan s t step
unlimited_plan-settled s t (Issue p) = refl
unlimited_plan-settled s t (Repeat p) = refl
unlimited_plan-settled s t (Deliver p q) = refl
unlimited_plan-settled s t (Take p) = refl
unlimited_plan-settled s t (Serve p w place) = refl
unlimited_plan-settled s t (Check p) = refl
unlimited_plan-settled s t (Decide p) = refl
unlimited_plan-settled s t (Abandon p) = refl
unlimited_plan-settled s t (Learn p) = refl
unlimited_plan-settled s t (Fail p) = refl
unlimited_plan-settled s t (Restart p) = refl

-- what is told by a verdict and a row
abbrev reads_with : State → NodeId → Option Verdict → NodeRow → StoreReads
reads_with s p verdict row = record {
  verdict = verdict;
  permanent = option_map Rattle.kt_ckpt.specs.Header.header_of row.permanent;
  tentative = option_map Rattle.kt_model.specs.StoreReads.header_in row.tentative;
  stored = record { incarnation = row.incarnation; permanent = row.permanent };
  undecided = open_of s.content p;
  next = next_instance s.content;
}

poll-settled : (s : State) (o : Option Rattle.kt_vote.specs.Poll.Poll) → of_poll (settled s).content o ≡ of_poll s.content o
poll-settled s None = refl
poll-settled s (Some b) = refl

verdict-settled : (s : State) (step : Step) → row_of (settled s).content (owner step) ≡ row_of s.content (owner step)
    → verdict_for (settled s) step ≡ verdict_for s step
verdict-settled s (Issue p) e = refl
verdict-settled s (Repeat p) e = refl
verdict-settled s (Deliver p q) e = first (link s p q) where
  first : (l : List Message) → of_first (settled s).content l ≡ of_first s.content l
  first [] = refl
  first (m ∷ later) = one m where
    one : (m : Message) → Rattle.kt_model.specs.StoreReads.of_ask (settled s).content m ≡ Rattle.kt_model.specs.StoreReads.of_ask s.content m
    one (messages.App app) = refl
    one (messages.CheckAsk ask) = refl
    one (messages.RollAsk ask) = refl
    one (messages.Vote vote) = refl
    one (messages.Verdict instance agreed) = refl
verdict-settled s (Take p) e = refl
verdict-settled s (Serve p w place) e = refl
verdict-settled s (Check p) e = refl
verdict-settled s (Decide p) e = poll-settled s (poll_of (view s p).node)
verdict-settled s (Abandon p) e = poll-settled s (poll_of (view s p).node)
verdict-settled s (Learn p) e = by (view s p).node where
  by : (x : Node) → to_learn (settled s).content p x ≡ to_learn s.content p x
  by Down = ap (λ (row : NodeRow). verdict_on s.content row.tentative) e
  by (Alive n) = poll-settled s (poll_of (Alive n))
verdict-settled s (Fail p) e = ap (λ (row : NodeRow). verdict_on s.content row.tentative) e
verdict-settled s (Restart p) e = poll-settled s (poll_of (view s p).node)

pub store_reads-settled : (s : State) (step : Step) → row_of (settled s).content (owner step) ≡ row_of s.content (owner step)
    → store_reads (settled s) step ≡ store_reads s step
store_reads-settled s step e =
    ap (λ (v : Option Verdict). reads_with s (owner step) v (row_of (settled s).content (owner step))) (verdict-settled s step e)
    ∙ ap (λ (row : NodeRow). reads_with s (owner step) (verdict_for s step) row) e

-- ---- what follows in the settled world

-- the plan of a step, and why it is one
pub record Follows (s : State) (step : Step) (plan : Plan) : Type 0 where
  pub is_plan : PlanOf (settled s) (store_reads (settled s) step) step plan
  pub leads : settled (applied s step plan) ≡ applied (settled s) step plan

content-leads : (s : State) (step : Step) (plan : Plan)
    → settled_content s.found (content_after (owner step) plan.write s.content) ≡ content_after (owner step) plan.write (settled_content s.found s.content)
    → settled (applied s step plan) ≡ applied (settled s) step plan
content-leads s step plan e = ap (λ (c : Content). record (applied s step plan) { content = c }) e

-- nothing tentative of the owner was found
pub unfound-follows : (s : State) → IsBacked s → IsNewer s → (step : Step) (plan : Plan) → step_plan s step ≡ Ok plan
    → row_found s.found (row_of s.content (owner step)) ≡ false → Follows s step plan
unfound-follows s backed newer step plan e unfound =
    let same = unfound-same s.found s.content (row_of s.content (owner step)) unfound in
    let row = row-settled s.found s.content (owner step) ∙ same in
    let is_plan = plan-found s (store_reads s step) step plan e in
    let judge : step_plan (settled s) step ≡ Ok plan =
    ap (λ (t : StoreReads). step_plan_by (settled s) t step) (store_reads-settled s step row)
    ∙ ap (within_limit (has_room s)) (unlimited_plan-settled s (store_reads s step) step) ∙ e in
    let new = plan-news s newer step plan is_plan in record {
      is_plan = plan-found (settled s) (store_reads (settled s) step) step plan judge;
      leads = content-leads s step plan
          (write-settled s.found s.content (owner step) plan.write same (next-new s.content s.found newer.instance_row)
          (write-allowed s backed step plan is_plan) new.write);
    }

-- ---- a node of which something was found

comes-settled : (s : State) (p q : NodeId) (m : Message) → Comes s p q m → Comes (settled s) p q m
comes-settled s p q m c = record { neighbours = c.neighbours; later = c.later; on = c.on }

dropped-settled : (s : State) (q : NodeId) (m : Message) → IsDroppedBy s q m → IsDroppedBy (settled s) q m
dropped-settled s q (messages.App app) d = d
dropped-settled s q (messages.CheckAsk ask) d = d
dropped-settled s q (messages.RollAsk ask) d = d
dropped-settled s q (messages.Vote vote) d = d
dropped-settled s q (messages.Verdict instance agreed) d = d

down-alive : {X : Type 0} (s : State) (p : NodeId) (n : Live) → (view s p).node ≡ Down → IsAlive s p n → X
down-alive s p n down at = absurd (apart (sym (ap (λ row. unwrap_or row Down) at) ∙ down)) where
  apart : Alive n ≡ Down → ⊥
  apart e = cc (e)

-- what was found of the node
pub record Found (s : State) (p : NodeId) : Type 0 where
  pub tentative : Tentative
  pub is : (row_of s.content p).tentative ≡ Some tentative
  pub early : was_found s.found tentative.instance ≡ true

pub what-found : (s : State) (p : NodeId) → row_found s.found (row_of s.content p) ≡ true → Found s p
what-found s p e = by (row_of s.content p).tentative refl e where
  by : (o : Option Tentative) → (row_of s.content p).tentative ≡ o → has_found s.found o ≡ true → Found s p
  by None is e = absurd (cc (e))
  by (Some t) is e = record { tentative = t; is = is; early = e }

-- its row, settled
pub found-row : (s : State) (p : NodeId) (x : Found s p)
    → row_of (settled s).content p ≡ settled_by (verdict_of s.content x.tentative.instance) x.tentative (row_of s.content p)
found-row s p x =
    row-settled s.found s.content p
    ∙ ap (λ o. settled_with (verdict_of s.content) s.found o (row_of s.content p)) x.is
    ∙ rw x.early refl

pub found-bare : (s : State) (p : NodeId) → Found s p → (row_of (settled s).content p).tentative ≡ None
found-bare s p x = ap (λ (row : NodeRow). row.tentative) (found-row s p x)

-- what it learns leaves the store as it is, what was found being settled
settled-stored : (s : State) (p : NodeId) (x : Found s p) (c : Option Rattle.kt_ckpt.specs.declared.ckpt.Ckpt.Ckpt)
    → c ≡ Rattle.kt_model.specs.Cut.permanent_by (verdict_of s.content x.tentative.instance) (Some x.tentative) (row_of s.content p).permanent
    → settled_content s.found (storing record (row_of s.content p) { permanent = c; tentative = None } s.content)
    ≡ discarded p (settled_content s.found s.content)
settled-stored s p x c e =
    storing-settled s.found s.content record (row_of s.content p) { permanent = c; tentative = None }
    ∙ ap (λ y. storing record (row_of s.content p) { permanent = y; tentative = None } (settled_content s.found s.content)) e
    ∙ ap (λ (row : NodeRow). storing record row { tentative = None } (settled_content s.found s.content)) (sym (found-row s p x))

-- a node that is down, of which something was found, learns what became of it: nothing, what was found being settled
pub record Learns (s : State) (step : Step) (plan : Plan) : Type 0 where
  pub node : NodeId
  pub is_learn : step ≡ Learn node
  pub there : IsTrue (Rattle.kt_scenario.specs.Scene.is_node s.scene node)
  pub down : IsDown s node
  pub found : Found s node
  pub quiet : Plan
  pub same_note : quiet.note ≡ plan.note
  pub leads : settled (applied s step plan) ≡ applied (settled s) step quiet
  pub kind : (quiet ≡ record { change = changes.Stay; send = []; note = None; write = Some writes.Discard })
      ⊎ (quiet ≡ Rattle.kt_node.specs.Learning.discard_down_plan (view s node) (stored_of (settled s).content node))

learnt : (s : State) (p : NodeId) (x : Found s p) (agreed : Bool) → (view s p).node ≡ Down
    → Rattle.kt_node.specs.Deciding.settled (verdict_for s (Learn p)) ≡ Some agreed
    → verdict_of s.content x.tentative.instance ≡ Some (Rattle.kt_store.specs.Verdict.verdict_from agreed)
learnt s p x agreed down e =
    ap (verdict_on s.content) (sym x.is) ∙ sym (ap (λ (n : Node). to_learn s.content p n) down)
    ∙ Rattle.kt_model.proofs.Backs.settled-is (verdict_for s (Learn p)) agreed e

-- what such a node may do: drop what comes, give up what it began, or learn
pub found-follows : (s : State) → IsBacked s → (step : Step) (plan : Plan) → (view s (owner step)).node ≡ Down → Found s (owner step)
    → PlanOf s (store_reads s step) step plan → Follows s step plan ⊎ Learns s step plan
found-follows s backed step plan down x (plans.issues {p = p} {n = n} there at up body kept next) = down-alive s p n down at
found-follows s backed step plan down x (plans.repeats {p = p} {n = n} there at up body again) = down-alive s p n down at
found-follows s backed step plan down x (plans.serves {p = p} {n = n} there other at up body gives) = down-alive s p n down at
found-follows s backed step plan down x (plans.takes {p = p} {n = n} there at up kept) = down-alive s p n down at
found-follows s backed step plan down x (plans.hears {q = q} {n = n} comes at up kept) = down-alive s q n down at
found-follows s backed step plan down x (plans.puts_by {q = q} {n = n} comes at rolls) = down-alive s q n down at
found-follows s backed step plan down x (plans.drops {p = p} {q = q} {message = m} comes may) =
    inl (record { is_plan = plans.drops (comes-settled s p q m comes) (dropped-settled s q m may); leads = refl })
found-follows s backed step plan down x (plans.answers_check {q = q} {n = n} comes at says) = down-alive s q n down at
found-follows s backed step plan down x (plans.joins_check {q = q} {n = n} comes at up undecided joins fit other shaped) = down-alive s q n down at
found-follows s backed step plan down x (plans.answers_rollback {q = q} {n = n} comes at says) = down-alive s q n down at
found-follows s backed step plan down x (plans.joins_rollback {q = q} {n = n} comes at up undecided above fit) = down-alive s q n down at
found-follows s backed step plan down x (plans.counts_vote {q = q} {n = n} comes at voting on) = down-alive s q n down at
found-follows s backed step plan down x (plans.told_when_held {q = q} {n = n} comes at held same) = down-alive s q n down at
found-follows s backed step plan down x (plans.told_to_roll {q = q} {n = n} comes at rolls asked same loads) = down-alive s q n down at
found-follows s backed step plan down x (plans.told_to_go_on {q = q} {n = n} comes at rolls asked same) = down-alive s q n down at
found-follows s backed step plan down x (plans.begins_check {p = p} {n = n} there at up fit shaped) = down-alive s p n down at
found-follows s backed step plan down x (plans.decides {p = p} {n = n} there at voting own undecided outcome) = down-alive s p n down at
found-follows s backed step plan down x (plans.gives_up {p = p} {n = n} there at voting own undecided) = down-alive s p n down at
found-follows s backed step plan down x (plans.gives_up_down {p = p} {instance = i} there is has) =
    inl (record {
      is_plan = plans.gives_up_down there is has;
      leads = content-leads s step plan
          (decided-settled s.found s.content i false (write-allowed s backed step plan (plans.gives_up_down there is has)) (λ e. absurd (cc (e))));
    })
found-follows s backed step plan down x (plans.declines {p = p} {n = n} there at voting asked has) = down-alive s p n down at
found-follows s backed step plan down x (plans.learns_when_held {p = p} {n = n} there at held knows) = down-alive s p n down at
found-follows s backed step plan down x (plans.learns_to_roll {p = p} {n = n} there at rolls asked knows loads) = down-alive s p n down at
found-follows s backed step plan down x (plans.learns_to_go_on {p = p} {n = n} there at rolls asked knows) = down-alive s p n down at
found-follows s backed step plan down x (plans.learns_yes_down {p = p} there is has knows) =
    let yes = learnt s p x true down knows in
    inr (record {
      node = p;
      is_learn = refl;
      there = there;
      down = down;
      found = x;
      quiet = record { change = changes.Stay; send = []; note = None; write = Some writes.Discard };
      same_note = refl;
      leads = ap (λ (c : Content). record (applied s (Learn p) plan) { content = c })
          (settled-stored s p x (promoted_from (row_of s.content p).permanent (row_of s.content p).tentative)
          (ap (promoted_from (row_of s.content p).permanent) x.is
          ∙ ap (λ (v : Option Verdict). Rattle.kt_model.specs.Cut.permanent_by v (Some x.tentative) (row_of s.content p).permanent) (sym yes)));
      kind = inl refl;
    })
found-follows s backed step plan down x (plans.learns_no_down {p = p} there is has knows fit) =
    let no = learnt s p x false down knows in
    let same : (row_of s.content p).permanent ≡ (row_of (settled s).content p).permanent =
    ap (λ (v : Option Verdict). Rattle.kt_model.specs.Cut.permanent_by v (Some x.tentative) (row_of s.content p).permanent) (sym no)
    ∙ ap (λ (row : NodeRow). row.permanent) (sym (found-row s p x)) in
    inr (record {
      node = p;
      is_learn = refl;
      there = there;
      down = down;
      found = x;
      quiet = Rattle.kt_node.specs.Learning.discard_down_plan (view s p) (stored_of (settled s).content p);
      same_note = ap (λ (y : Option Rattle.kt_ckpt.specs.declared.ckpt.Ckpt.Ckpt).
          (Rattle.kt_node.specs.Learning.discard_down_plan (view s p) record { incarnation = 0; permanent = y }).note) (sym same);
      leads = ap (λ (c : Content). record (applied s (Learn p) plan) { content = c })
          (settled-stored s p x (row_of s.content p).permanent
          (ap (λ (v : Option Verdict). Rattle.kt_model.specs.Cut.permanent_by v (Some x.tentative) (row_of s.content p).permanent) (sym no)))
          ∙ ap (λ (y : Option Rattle.kt_ckpt.specs.declared.ckpt.Ckpt.Ckpt). applied (settled s) (Learn p)
          (Rattle.kt_node.specs.Learning.discard_down_plan (view s p) record { incarnation = 0; permanent = y })) same;
      kind = inr refl;
    })
found-follows s backed step plan down x (plans.fails {p = p} {n = n} there at fit other) = down-alive s p n down at
found-follows s backed step plan down x (plans.restarts {p = p} there is none free loads) =
    absurd (some (sym (ap (λ o. is_some (option_map Rattle.kt_model.specs.StoreReads.header_in o)) x.is) ∙ none))
  where
    some : true ≡ false → ⊥
    some e = cc (e)
found-follows s backed step plan down x (plans.restarts_anew {p = p} {n = n} there at rolls own refused loads) = down-alive s p n down at

-- it stays as it is
pub found-stays : (s : State) (step : Step) (plan : Plan) → (view s (owner step)).node ≡ Down → Found s (owner step)
    → PlanOf s (store_reads s step) step plan → plan.change ≡ changes.Stay
found-stays s step plan down x (plans.issues {p = p} {n = n} there at up body kept next) = down-alive s p n down at
found-stays s step plan down x (plans.repeats {p = p} {n = n} there at up body again) = down-alive s p n down at
found-stays s step plan down x (plans.serves {p = p} {n = n} there other at up body gives) = down-alive s p n down at
found-stays s step plan down x (plans.takes {p = p} {n = n} there at up kept) = down-alive s p n down at
found-stays s step plan down x (plans.hears {q = q} {n = n} comes at up kept) = down-alive s q n down at
found-stays s step plan down x (plans.puts_by {q = q} {n = n} comes at rolls) = down-alive s q n down at
found-stays s step plan down x (plans.drops {p = p} {q = q} {message = m} comes may) = refl
found-stays s step plan down x (plans.answers_check {q = q} {n = n} comes at says) = down-alive s q n down at
found-stays s step plan down x (plans.joins_check {q = q} {n = n} comes at up undecided joins fit other shaped) = down-alive s q n down at
found-stays s step plan down x (plans.answers_rollback {q = q} {n = n} comes at says) = down-alive s q n down at
found-stays s step plan down x (plans.joins_rollback {q = q} {n = n} comes at up undecided above fit) = down-alive s q n down at
found-stays s step plan down x (plans.counts_vote {q = q} {n = n} comes at voting on) = down-alive s q n down at
found-stays s step plan down x (plans.told_when_held {q = q} {n = n} comes at held same) = down-alive s q n down at
found-stays s step plan down x (plans.told_to_roll {q = q} {n = n} comes at rolls asked same loads) = down-alive s q n down at
found-stays s step plan down x (plans.told_to_go_on {q = q} {n = n} comes at rolls asked same) = down-alive s q n down at
found-stays s step plan down x (plans.begins_check {p = p} {n = n} there at up fit shaped) = down-alive s p n down at
found-stays s step plan down x (plans.decides {p = p} {n = n} there at voting own undecided outcome) = down-alive s p n down at
found-stays s step plan down x (plans.gives_up {p = p} {n = n} there at voting own undecided) = down-alive s p n down at
found-stays s step plan down x (plans.gives_up_down {p = p} {instance = i} there is has) = refl
found-stays s step plan down x (plans.declines {p = p} {n = n} there at voting asked has) = down-alive s p n down at
found-stays s step plan down x (plans.learns_when_held {p = p} {n = n} there at held knows) = down-alive s p n down at
found-stays s step plan down x (plans.learns_to_roll {p = p} {n = n} there at rolls asked knows loads) = down-alive s p n down at
found-stays s step plan down x (plans.learns_to_go_on {p = p} {n = n} there at rolls asked knows) = down-alive s p n down at
found-stays s step plan down x (plans.learns_yes_down {p = p} there is has knows) = refl
found-stays s step plan down x (plans.learns_no_down {p = p} there is has knows fit) = refl
found-stays s step plan down x (plans.fails {p = p} {n = n} there at fit other) = down-alive s p n down at
found-stays s step plan down x (plans.restarts {p = p} there is none free loads) =
    absurd (some (sym (ap (λ o. is_some (option_map Rattle.kt_model.specs.StoreReads.header_in o)) x.is) ∙ none))
  where
    some : true ≡ false → ⊥
    some e = cc (e)
found-stays s step plan down x (plans.restarts_anew {p = p} {n = n} there at rolls own refused loads) = down-alive s p n down at

-- every step is one or the other
pub follows : (s : State) → IsBacked s → IsNewer s → FoundDown s → (step : Step) (plan : Plan) → step_plan s step ≡ Ok plan
    → Follows s step plan ⊎ Learns s step plan
follows s backed newer downs step plan e = by (row_found s.found (row_of s.content (owner step))) refl where
  by : (b : Bool) → row_found s.found (row_of s.content (owner step)) ≡ b → Follows s step plan ⊎ Learns s step plan
  by false is = inl (unfound-follows s backed newer step plan e is)
  by true is = found-follows s backed step plan (downs (owner step) is) (what-found s (owner step) is) (plan-found s (store_reads s step) step plan e)

-- ---- who is down stays so until it learnt

found-was : (f : Option ℕ) (c : Content) (row : NodeRow) (write : Option Write) → was_found f (next_instance c) ≡ false → WritesNew f write
    → row_found f (row_after c row write) ≡ true → row_found f row ≡ true
found-was f c row None new fresh e = e
found-was f c row (Some (writes.BeginCheck checkpoint)) new fresh e = absurd (cc (e, new))
found-was f c row (Some (writes.PutTentative instance checkpoint)) new fresh e = absurd (cc (e, fresh))
found-was f c row (Some writes.Promote) new fresh e = absurd (cc (e))
found-was f c row (Some writes.Discard) new fresh e = absurd (cc (e))
found-was f c row (Some writes.BeginRestart) new fresh e = e
found-was f c row (Some writes.Bump) new fresh e = e
found-was f c row (Some (writes.Decide instance agreed)) new fresh e = e

pub downs-after : (s : State) → IsNewer s → FoundDown s → (step : Step) (plan : Plan) → PlanOf s (store_reads s step) step plan
    → FoundDown (applied s step plan)
downs-after s newer downs step plan of = applied-rows s step plan P own others where
  new : Content
  new = content_after (owner step) plan.write s.content

  P : NodeId → Option Node → Type 0
  P q row = row_found s.found (row_of new q) ≡ true → unwrap_or row Down ≡ Down

  own : P (owner step) (option_map (changed plan.change) (node s (owner step)))
  own e =
      let after : row_found s.found (row_after s.content (row_of s.content (owner step)) plan.write) ≡ true =
      ap (row_found s.found) (sym (own-row (owner step) plan.write s.content)) ∙ e in
      let was = found-was s.found s.content (row_of s.content (owner step)) plan.write (next-new s.content s.found newer.instance_row)
      (plan-news s newer step plan of).write after in
      let down = downs (owner step) was in
      let stays = found-stays s step plan down (what-found s (owner step) was) of in
      ap (λ c. unwrap_or (option_map (changed c) (node s (owner step))) Down) stays ∙ still (node s (owner step)) ∙ down
    where
      still : (row : Option Node) → unwrap_or (option_map (changed changes.Stay) row) Down ≡ unwrap_or row Down
      still None = refl
      still (Some x) = refl

  others : (q : NodeId) → owner step ≢ q → P q (node s q)
  others q apart e = downs q (ap (row_found s.found) (sym (other-rows (owner step) plan.write s.content q (λ f. apart (sym f)))) ∙ e)
