-- What is stored of a node is its own, and a node that is not down has nothing tentative that is longer than its log.
-- So what an honest store gives fits.
-- Cited by Fitting, Gives, Holding, Kept, NeverUnfit, Resuming, Undamaged; other crates.
use Rattle.std.proofs.Common.{◌≡◌, ◌≢◌, ℕ, ◌+◌, ◌≤◌, Bool, true, false, List, [], ◌∷◌, ◌++◌, length, Option, None, Some, refl, sym, ap, subst, arith}
use Rattle.std.proofs.Common.{inl, inr, length-append}
use Rattle.std.specs.Prelude.{IfSome}
use Rattle.std.specs.Option.{option_map}
use Rattle.std.proofs.lemmas.Bool.{cases_eq}
use Rattle.kt_tuple.specs.declared.node.NodeId.{NodeId}
use Rattle.kt_tuple.specs.declared.node.NodeId.TheVariants as ids
use Rattle.kt_tuple.specs.Node.{node_index}
use Rattle.kt_tuple.proofs.Shared.{node_index-injective}
use Rattle.kt_history.specs.declared.note.Note.{Note}
use Rattle.kt_history.specs.declared.note.Note.TheVariants as notes
use Rattle.kt_history.specs.Log.{log}
use Rattle.kt_history.proofs.Shared.{log-own_act, log-other_act, log-other_cut}
use Rattle.kt_ckpt.specs.declared.ckpt.Ckpt.{Ckpt}
use Rattle.kt_store.specs.declared.rows.NodeRow.{NodeRow}
use Rattle.kt_store.specs.declared.rows.Tentative.{Tentative}
use Rattle.kt_store.specs.Content.{Content, row_of}
use Rattle.kt_store.specs.Changes.{promoted_from}
use Rattle.kt_vote.specs.Poll.{Poll}
use Rattle.kt_state.specs.declared.change.Change.{Change}
use Rattle.kt_state.specs.declared.change.Change.TheVariants as changes
use Rattle.kt_state.specs.declared.change.KeptChange.{KeptChange}
use Rattle.kt_state.specs.declared.change.KeptChange.TheVariants as keeps
use Rattle.kt_state.specs.declared.change.Update.{Update}
use Rattle.kt_state.specs.declared.live.Phase.{Phase}
use Rattle.kt_state.specs.declared.live.Phase.TheVariants as phases
use Rattle.kt_state.specs.declared.message.Message.{Message}
use Rattle.kt_state.specs.declared.message.AppMessage.{AppMessage}
use Rattle.kt_state.specs.declared.plan.Plan.{Plan}
use Rattle.kt_state.specs.declared.plan.Write.{Write}
use Rattle.kt_state.specs.declared.plan.Write.TheVariants as writes
use Rattle.kt_node.specs.Deciding.{decide_plan}
use Rattle.kt_node.specs.Learning.{held_learns}
use Rattle.kt_node.specs.Joining.{checkpoint_now}
use Rattle.kt_state.specs.Node.{Role, Body, IsWorker, IsShard, Live, Node, Down, Alive}
use Rattle.kt_state.specs.State.{body_fields}
use Rattle.kt_state.specs.Updating.{changed}
use Rattle.kt_script.specs.declared.command.Command.{Command}
use Rattle.kt_scenario.specs.declared.step.Step.{Step}
use Rattle.kt_scenario.specs.Step.{owner}
use Rattle.kt_scenario.specs.Scene.{SceneModel}
use Rattle.kt_model.specs.State.{State, node, role_of, view}
use Rattle.kt_model.specs.Effect.{noted, applied}
use Rattle.kt_model.specs.Writing.{content_after}
use Rattle.kt_model.specs.auxiliary.Backed.{IsBacked}
use Rattle.kt_model.specs.auxiliary.Ready.{IsBodyReady, IsReady}
use Rattle.kt_model.specs.Reached.{opening}
use Rattle.kt_model.specs.StoreReads.{store_reads}
use Rattle.kt_model.proofs.Plans as plans
use Rattle.kt_model.proofs.Plans.{IsAlive, PlanOf}
use Rattle.kt_model.proofs.Heards as ways
use Rattle.kt_model.proofs.Heards.{HeardOf, heard-is}
use Rattle.kt_model.proofs.Sound.{MayNote}
use Rattle.kt_model.proofs.NoteSound.{apart}
use Rattle.kt_model.proofs.Frames.{applied-rows}
use Rattle.kt_model.proofs.Writes.{row_after, own-row, other-rows}
use Rattle.kt_model.proofs.Backs.{backed-in, none-tentative}
use Rattle.kt_model.proofs.Good.{live-ready}
use Rattle.kt_model.proofs.Saves.{length-listed}
use Rattle.kt_model.proofs.FitBodies.{IsNumbered}

-- the checkpoint is of the node, with a label for each neighbour
pub record IsOfNode (role : Role) (c : Ckpt) : Type 0 where
  pub own : c.node ≡ role.id
  pub sent : length c.sent ≡ role.peers
  pub received : length c.received ≡ role.peers
  pub numbered : IsNumbered c.state

pub record IsRowOf (role : Role) (row : NodeRow) : Type 0 where
  pub permanent : IfSome row.permanent (IsOfNode role)
  pub tentative : IfSome row.tentative (λ t. IsOfNode role t.checkpoint)

-- a tentative checkpoint holds no more than a log of so many acts
abbrev pub IsWithinLog : ℕ → Option Tentative → Type 0
IsWithinLog long stored = IfSome stored (λ t. t.checkpoint.line_len ≤ long)

-- that of a node that is not down
abbrev pub EndsIn : ℕ → Option Tentative → Option Node → Type 0
EndsIn long stored None = Unit {0}
EndsIn long stored (Some Down) = Unit {0}
EndsIn long stored (Some (Alive n)) = IsWithinLog long stored

pub record IsFitting (s : State) : Type 0 where
  pub rows : (p : NodeId) → IsRowOf (role_of s.scene p) (row_of s.content p)
  pub ends : (p : NodeId) → EndsIn (length (log s.history p)) (row_of s.content p).tentative (node s p)

-- a checkpoint that a plan writes is of its node, and holds no more than its log
abbrev pub WritesOwn : Role → ℕ → Option Write → Type 0
WritesOwn role long None = Unit {0}
WritesOwn role long (Some (writes.BeginCheck c)) = IsOfNode role c × (c.line_len ≤ long)
WritesOwn role long (Some (writes.PutTentative instance c)) = IsOfNode role c × (c.line_len ≤ long)
WritesOwn role long (Some writes.Promote) = Unit {0}
WritesOwn role long (Some writes.Discard) = Unit {0}
WritesOwn role long (Some writes.BeginRestart) = Unit {0}
WritesOwn role long (Some writes.Bump) = Unit {0}
WritesOwn role long (Some (writes.Decide instance agreed)) = Unit {0}

pub record Fits (s : State) (p : NodeId) (plan : Plan) : Type 0 where
  pub writes : WritesOwn (role_of s.scene p) (length (log s.history p)) plan.write
  pub ends : EndsIn (length (log (noted s.history plan.note) p)) (row_after s.content (row_of s.content p) plan.write).tentative
      (option_map (changed plan.change) (node s p))

-- ---- the state after it

promoted-of : (role : Role) (permanent : Option Ckpt) (tentative : Option Tentative) → IfSome permanent (IsOfNode role)
    → IfSome tentative (λ t. IsOfNode role t.checkpoint) → IfSome (promoted_from permanent tentative) (IsOfNode role)
promoted-of role permanent None is was = is
promoted-of role permanent (Some t) is was = was

row-of : (role : Role) (long : ℕ) (c : Content) (row : NodeRow) (write : Option Write) → IsRowOf role row → WritesOwn role long write
    → IsRowOf role (row_after c row write)
row-of role long c row None is own = is
row-of role long c row (Some (writes.BeginCheck x)) is own = record { permanent = is.permanent; tentative = own.0 }
row-of role long c row (Some (writes.PutTentative instance x)) is own = record { permanent = is.permanent; tentative = own.0 }
row-of role long c row (Some writes.Promote) is own =
    record { permanent = promoted-of role row.permanent row.tentative is.permanent is.tentative; tentative = tt }
row-of role long c row (Some writes.Discard) is own = record { permanent = is.permanent; tentative = tt }
row-of role long c row (Some writes.BeginRestart) is own = record { permanent = is.permanent; tentative = is.tentative }
row-of role long c row (Some writes.Bump) is own = record { permanent = is.permanent; tentative = is.tentative }
row-of role long c row (Some (writes.Decide instance agreed)) is own = is

-- the logs of other nodes stay
pub log-others : (scene : SceneModel) (h : List Note) (p : NodeId) (note : Option Note) → MayNote scene h p note → (q : NodeId) → p ≢ q
    → log (noted h note) q ≡ log h q
log-others scene h p None may q d = refl
log-others scene h p (Some (notes.Act a)) may q d = log-other_act h a q (apart p q a.node may.0 d)
log-others scene h p (Some (notes.Cut r keep)) may q d = log-other_cut h r keep q (apart p q r may.0 d)

pub fits-fitting : (s : State) (step : Step) (plan : Plan) → IsFitting s → MayNote s.scene s.history (owner step) plan.note → Fits s (owner step) plan
    → IsFitting (applied s step plan)
fits-fitting s step plan is may fit = record { rows = rows; ends = applied-rows s step plan Ends own others }
  where
    p : NodeId
    p = owner step

    new : Content
    new = content_after p plan.write s.content

    Ends : NodeId → Option Node → Type 0
    Ends q row = EndsIn (length (log (noted s.history plan.note) q)) (row_of new q).tentative row

    rows : (q : NodeId) → IsRowOf (role_of s.scene q) (row_of new q)
    rows q = elim (cases_eq (node_index p) (node_index q)) [
      | inl e ↦
          subst (λ (r : NodeId). IsRowOf (role_of s.scene r) (row_of new r)) (node_index-injective p q e)
          (subst (IsRowOf (role_of s.scene p)) (sym (own-row p plan.write s.content))
          (row-of (role_of s.scene p) (length (log s.history p)) s.content (row_of s.content p) plan.write (is.rows p) fit.writes))
      | inr d ↦
          subst (IsRowOf (role_of s.scene q)) (sym (other-rows p plan.write s.content q (λ e. d (ap node_index (sym e))))) (is.rows q)
    ]

    own : Ends p (option_map (changed plan.change) (node s p))
    own =
        subst (λ (row : NodeRow). EndsIn (length (log (noted s.history plan.note) p)) row.tentative (option_map (changed plan.change) (node s p)))
        (sym (own-row p plan.write s.content)) fit.ends

    others : (q : NodeId) → p ≢ q → Ends q (node s q)
    others q d =
        subst (λ (row : NodeRow). EndsIn (length (log (noted s.history plan.note) q)) row.tentative (node s q))
        (sym (other-rows p plan.write s.content q (λ e. d (sym e))))
        (subst (λ (l : List ℕ). EndsIn (length l) (row_of s.content q).tentative (node s q))
        (sym (log-others s.scene s.history p plan.note may q d)) (is.ends q))

-- ---- kinds of plans

-- the note is no cut
abbrev pub IsNoCut : Option Note → Type 0
IsNoCut None = Unit {0}
IsNoCut (Some (notes.Act a)) = Unit {0}
IsNoCut (Some (notes.Cut q keep)) = ⊥

log-grows : (h : List Note) (p : NodeId) (note : Option Note) → IsNoCut note → length (log h p) ≤ length (log (noted h note) p)
log-grows h p None calm = omega arith
log-grows h p (Some (notes.Cut q keep)) calm = absurd calm
log-grows h p (Some (notes.Act a)) calm = elim (cases_eq (node_index a.node) (node_index p)) [
  | inl e ↦
      let own = log-own_act h a in
      let long = length-append (log h a.node) (Rattle.std.proofs.Common.suc (length h) ∷ []) in
      let Grows : NodeId → Type 0 = λ q. length (log h q) ≤ length (log (h ++ notes.Act a ∷ []) q) in
      subst Grows (node_index-injective a.node p e) (let same = ap (λ (l : List ℕ). length l) own in omega (arith, same, long))
  | inr d ↦ let same = ap (λ (l : List ℕ). length l) (log-other_act h a p (apart a.node p a.node refl (λ e. d (ap node_index e)))) in omega (arith, same)
]

longer : (before now : ℕ) (stored : Option Tentative) → before ≤ now → IsWithinLog before stored → IsWithinLog now stored
longer before now None le is = tt
longer before now (Some t) le is = omega (arith, le, is)

-- what is stored behind the write
written-within : (role : Role) (before now : ℕ) (c : Content) (row : NodeRow) (write : Option Write) → before ≤ now → WritesOwn role before write
    → IsWithinLog before row.tentative → IsWithinLog now (row_after c row write).tentative
written-within role before now c row None le own is = longer before now row.tentative le is
written-within role before now c row (Some (writes.BeginCheck x)) le own is = let short = own.1 in omega (arith, short, le)
written-within role before now c row (Some (writes.PutTentative instance x)) le own is = let short = own.1 in omega (arith, short, le)
written-within role before now c row (Some writes.Promote) le own is = tt
written-within role before now c row (Some writes.Discard) le own is = tt
written-within role before now c row (Some writes.BeginRestart) le own is = longer before now row.tentative le is
written-within role before now c row (Some writes.Bump) le own is = longer before now row.tentative le is
written-within role before now c row (Some (writes.Decide instance agreed)) le own is = longer before now row.tentative le is

-- a node that turns and cuts nothing
update-fits : (s : State) → IsFitting s → (p : NodeId) (plan : Plan) (t : Update) → plan.change ≡ changes.Update t → IsNoCut plan.note
    → WritesOwn (role_of s.scene p) (length (log s.history p)) plan.write → Fits s p plan
update-fits s is p plan t change calm own = record {
  writes = own;
  ends = subst (λ (c : Change). EndsIn now stored (option_map (changed c) (node s p))) (sym change) (by (node s p) (is.ends p));
}
  where
    now : ℕ
    now = length (log (noted s.history plan.note) p)

    stored : Option Tentative
    stored = (row_after s.content (row_of s.content p) plan.write).tentative

    by : (row : Option Node) → EndsIn (length (log s.history p)) (row_of s.content p).tentative row
        → EndsIn now stored (option_map (changed (changes.Update t)) row)
    by None ends = tt
    by (Some Down) ends = tt
    by (Some (Alive n)) ends =
        written-within (role_of s.scene p) (length (log s.history p)) now s.content (row_of s.content p) plan.write
        (log-grows s.history p plan.note calm) own ends

-- one that stays as it is
stay-fits : (s : State) → IsFitting s → (p : NodeId) (plan : Plan) → plan.change ≡ changes.Stay → IsNoCut plan.note
    → WritesOwn (role_of s.scene p) (length (log s.history p)) plan.write → Fits s p plan
stay-fits s is p plan change calm own = record {
  writes = own;
  ends = subst (λ (c : Change). EndsIn now stored (option_map (changed c) (node s p))) (sym change) (by (node s p) (is.ends p));
}
  where
    now : ℕ
    now = length (log (noted s.history plan.note) p)

    stored : Option Tentative
    stored = (row_after s.content (row_of s.content p) plan.write).tentative

    by : (row : Option Node) → EndsIn (length (log s.history p)) (row_of s.content p).tentative row → EndsIn now stored (option_map (changed changes.Stay) row)
    by None ends = tt
    by (Some Down) ends = tt
    by (Some (Alive n)) ends =
        written-within (role_of s.scene p) (length (log s.history p)) now s.content (row_of s.content p) plan.write
        (log-grows s.history p plan.note calm) own ends

-- one that falls
fall-fits : (s : State) (p : NodeId) (plan : Plan) → plan.change ≡ changes.Fall → WritesOwn (role_of s.scene p) (length (log s.history p)) plan.write
    → Fits s p plan
fall-fits s p plan change own =
    record { writes = own; ends = subst (λ (c : Change). EndsIn now stored (option_map (changed c) (node s p))) (sym change) (by (node s p)) }
  where
    now : ℕ
    now = length (log (noted s.history plan.note) p)

    stored : Option Tentative
    stored = (row_after s.content (row_of s.content p) plan.write).tentative

    by : (row : Option Node) → EndsIn now stored (option_map (changed changes.Fall) row)
    by None = tt
    by (Some x) = tt

-- one that has nothing tentative behind it
none-fits : (s : State) (p : NodeId) (plan : Plan) → WritesOwn (role_of s.scene p) (length (log s.history p)) plan.write
    → (row_after s.content (row_of s.content p) plan.write).tentative ≡ None → Fits s p plan
none-fits s p plan own none =
    record { writes = own; ends = subst (λ (o : Option Tentative). EndsIn now o row) (sym none) (by row) }
  where
    now : ℕ
    now = length (log (noted s.history plan.note) p)

    row : Option Node
    row = option_map (changed plan.change) (node s p)

    by : (x : Option Node) → EndsIn now None x
    by None = tt
    by (Some Down) = tt
    by (Some (Alive n)) = tt

-- ---- the leaves

body-numbered : (script : List Command) (made : ℕ) (p : NodeId) (body : Body) → IsBodyReady script made p body → IsNumbered (body_fields body)
body-numbered script made (ids.Worker w) (IsWorker x) is = is.numbered
body-numbered script made (ids.Worker w) (IsShard y) is = absurd is
body-numbered script made (ids.Shard r) (IsWorker x) is = absurd is
body-numbered script made (ids.Shard r) (IsShard y) is = tt

-- the checkpoint of this moment
now-own : (s : State) → IsReady s → (p : NodeId) (n : Live) → IsAlive s p n
    → IsOfNode (role_of s.scene p) (checkpoint_now (view s p) n) × ((checkpoint_now (view s p) n).line_len ≤ length (log s.history p))
now-own s ready p n at = (
  record {
    own = refl;
    sent = length-listed (role_of s.scene p).peers n.sent;
    received = length-listed (role_of s.scene p).peers n.received;
    numbered = body-numbered (role_of s.scene p).script (length s.history) p n.body (live-ready s ready p n at).body;
  },
  omega arith,
)

heard-fits : (s : State) → IsFitting s → (p from : NodeId) (n : Live) (kept : KeptChange) (app : AppMessage) (plan : Plan)
    → HeardOf (view s p) n kept from app plan → Fits s p plan
heard-fits s is p from n kept app plan (ways.misses_request body talk) = update-fits s is p plan _ refl tt tt
heard-fits s is p from n kept app plan (ways.accepts body talk awaited) = update-fits s is p plan _ refl tt tt
heard-fits s is p from n kept app plan (ways.ignores_reply body talk other) = update-fits s is p plan _ refl tt tt
heard-fits s is p from n kept app plan (ways.hears body talk new) = update-fits s is p plan _ refl tt tt
heard-fits s is p from n kept app plan (ways.answers_again body talk old has) = update-fits s is p plan _ refl tt tt
heard-fits s is p from n kept app plan (ways.ignores_request body talk old none) = update-fits s is p plan _ refl tt tt
heard-fits s is p from n kept app plan (ways.misses_reply body talk) = update-fits s is p plan _ refl tt tt

held-fits : (s : State) → IsFitting s → (p : NodeId) (agreed : Bool) (send : List (NodeId × Message)) → Fits s p (held_learns agreed send)
held-fits s is p true send = update-fits s is p _ _ refl tt tt
held-fits s is p false send = update-fits s is p _ _ refl tt tt

decide-fits : (s : State) → IsFitting s → (p : NodeId) (b : Poll) (phase : Phase) (agreed : Bool) → Fits s p (decide_plan phase b agreed)
decide-fits s is p b (phases.Rolling c) true = update-fits s is p _ _ refl tt tt
decide-fits s is p b (phases.Rolling c) false = update-fits s is p _ _ refl tt tt
decide-fits s is p b (phases.Held c) agreed = update-fits s is p _ _ refl tt tt
decide-fits s is p b phases.Up agreed = update-fits s is p _ _ refl tt tt

pub plan-fits : (s : State) → IsReady s → IsBacked s → IsFitting s → (step : Step) (plan : Plan) → PlanOf s (store_reads s step) step plan
    → Fits s (owner step) plan
plan-fits s ready backed is step plan (plans.issues {p = p} there at up body kept next) = update-fits s is p plan _ refl tt tt
plan-fits s ready backed is step plan (plans.repeats {p = p} there at up body again) = update-fits s is p plan _ refl tt tt
plan-fits s ready backed is step plan (plans.serves {p = p} there other at up body gives) = update-fits s is p plan _ refl tt tt
plan-fits s ready backed is step plan (plans.takes {p = p} {from = from} {n = n} {app = app} there at up kept) =
    heard-fits s is p from n keeps.TakeFirst app plan (heard-is (view s p) n keeps.TakeFirst from app)
plan-fits s ready backed is step plan (plans.hears {p = p} {q = q} {n = n} {app = app} comes at up kept) =
    heard-fits s is q p n keeps.Stay app plan (heard-is (view s q) n keeps.Stay p app)
plan-fits s ready backed is step plan (plans.puts_by {q = q} comes at rolls) = update-fits s is q plan _ refl tt tt
plan-fits s ready backed is step plan (plans.drops {q = q} comes may) = stay-fits s is q plan refl tt tt
plan-fits s ready backed is step plan (plans.answers_check {q = q} comes at says) = update-fits s is q plan _ refl tt tt
plan-fits s ready backed is step plan (plans.joins_check {q = q} {n = n} comes at up undecided joins fit other shaped) =
    update-fits s is q plan _ refl tt (now-own s ready q n at)
plan-fits s ready backed is step plan (plans.answers_rollback {q = q} comes at says) = update-fits s is q plan _ refl tt tt
plan-fits s ready backed is step plan (plans.joins_rollback {q = q} comes at up undecided above fit) = update-fits s is q plan _ refl tt tt
plan-fits s ready backed is step plan (plans.counts_vote {q = q} comes at voting on) = update-fits s is q plan _ refl tt tt
plan-fits s ready backed is step plan (plans.told_when_held {q = q} {agreed = agreed} comes at held same) = held-fits s is q agreed _
plan-fits s ready backed is step plan (plans.told_to_roll {q = q} {n = n} {b = b} comes at rolls asked same loads) =
    none-fits s q plan tt (backed-in s backed q n (phases.Rolling b) at rolls)
plan-fits s ready backed is step plan (plans.told_to_go_on {q = q} comes at rolls asked same) = update-fits s is q plan _ refl tt tt
plan-fits s ready backed is step plan (plans.begins_check {p = p} {n = n} there at up fit shaped) = update-fits s is p plan _ refl tt (now-own s ready p n at)
plan-fits s ready backed is step plan (plans.decides {p = p} {n = n} {b = b} {agreed = agreed} there at voting own undecided comes) =
    decide-fits s is p b n.phase agreed
plan-fits s ready backed is step plan (plans.gives_up {p = p} there at voting own undecided) = update-fits s is p plan _ refl tt tt
plan-fits s ready backed is step plan (plans.gives_up_down {p = p} there down has) = stay-fits s is p plan refl tt tt
plan-fits s ready backed is step plan (plans.declines {p = p} there at voting asked has) = update-fits s is p plan _ refl tt tt
plan-fits s ready backed is step plan (plans.learns_when_held {p = p} {agreed = agreed} there at held knows) = held-fits s is p agreed []
plan-fits s ready backed is step plan (plans.learns_to_roll {p = p} {n = n} {b = b} there at rolls asked knows loads) =
    none-fits s p plan tt (backed-in s backed p n (phases.Rolling b) at rolls)
plan-fits s ready backed is step plan (plans.learns_to_go_on {p = p} there at rolls asked knows) = update-fits s is p plan _ refl tt tt
plan-fits s ready backed is step plan (plans.learns_yes_down {p = p} there down has knows) = stay-fits s is p plan refl tt tt
plan-fits s ready backed is step plan (plans.learns_no_down {p = p} there down has knows fit) = none-fits s p plan tt refl
plan-fits s ready backed is step plan (plans.fails {p = p} there at fit other) = fall-fits s p plan refl tt
plan-fits s ready backed is step plan (plans.restarts {p = p} there down has free loads) = none-fits s p plan tt (none-tentative s p has)
plan-fits s ready backed is step plan (plans.restarts_anew {p = p} {n = n} {b = b} there at rolls own refused loads) =
    none-fits s p plan tt (backed-in s backed p n (phases.Rolling b) at rolls)

-- ---- the opening, over a store in which nothing is

none-ends : (long : ℕ) (row : Option Node) → EndsIn long None row
none-ends long None = tt
none-ends long (Some Down) = tt
none-ends long (Some (Alive n)) = tt

pub opening-fitting : (scene : SceneModel) → IsFitting (opening scene)
opening-fitting scene = record {
  rows = λ p. record { permanent = tt; tentative = tt };
  ends = λ p. none-ends (length (log [] p)) (node (opening scene) p);
}
