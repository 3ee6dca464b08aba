-- Each stored checkpoint that counts, or may yet, holds the first acts of its node's log.
-- Cited by Holding, Kept, Lasting, OwnRows, Resuming.
use Rattle.std.proofs.Common.{◌≡◌, ◌≢◌, ◌≤◌, Bool, true, false, List, [], take, length, Option, Some, None, inl, inr, refl, sym, ap, ◌∙◌, subst, arith}
use Rattle.std.specs.Prelude.{IfSome, IsTrue}
use Rattle.std.proofs.lemmas.Bool.{cases_eq}
use Rattle.kt_tuple.specs.declared.node.NodeId.{NodeId}
use Rattle.kt_tuple.specs.Node.{node_index}
use Rattle.kt_tuple.proofs.Shared.{node_index-injective}
use Rattle.kt_history.specs.declared.note.Act.{Act}
use Rattle.kt_history.specs.declared.note.Note.{Note}
use Rattle.kt_history.specs.Log.{log}
use Rattle.kt_history.specs.Closed.{acts_in_log}
use Rattle.kt_history.specs.WellFormed.{CausesComeFirst}
use Rattle.kt_history.proofs.Shared.{CausesComeFirst-from_well_formed}
use Rattle.kt_ckpt.specs.declared.ckpt.Ckpt.{Ckpt}
use Rattle.kt_ckpt.specs.LogActs.{log_acts}
use Rattle.kt_store.specs.declared.rows.NodeRow.{NodeRow}
use Rattle.kt_store.specs.declared.rows.Tentative.{Tentative}
use Rattle.kt_store.specs.declared.rows.Verdict.{Verdict}
use Rattle.kt_store.specs.declared.rows.Verdict.TheVariants as verdicts
use Rattle.kt_store.specs.Changes.{promoted_from, taken}
use Rattle.kt_store.specs.Content.{Content, row_of, verdict_on}
use Rattle.kt_state.specs.declared.change.KeptChange.{KeptChange}
use Rattle.kt_state.specs.declared.change.KeptChange.TheVariants as keeps
use Rattle.kt_state.specs.declared.message.Message.{Message}
use Rattle.kt_state.specs.declared.message.AppMessage.{AppMessage}
use Rattle.kt_state.specs.declared.plan.Plan.{Plan}
use Rattle.kt_state.specs.declared.plan.Write.{Write}
use Rattle.kt_state.specs.declared.plan.Write.TheVariants as writes
use Rattle.kt_node.specs.Learning.{held_learns}
use Rattle.kt_state.specs.Node.{Live}
use Rattle.kt_scenario.specs.declared.step.Step.{Step}
use Rattle.kt_model.specs.declared.store_reads.StoreReads.{StoreReads}
use Rattle.kt_scenario.specs.Step.{owner}
use Rattle.kt_scenario.specs.Scene.{SceneModel, is_node}
use Rattle.kt_model.specs.Cut.{acts_held, permanent_by, permanent_of}
use Rattle.kt_model.specs.Effect.{noted, applied}
use Rattle.kt_model.specs.Like.{IsNotNo, HoldsActs}
use Rattle.kt_model.specs.Reached.{opening}
use Rattle.kt_model.specs.State.{State, view}
use Rattle.kt_model.specs.Writing.{content_after}
use Rattle.kt_model.specs.auxiliary.Backed.{IsAllowed}
use Rattle.kt_model.proofs.Heards as ways
use Rattle.kt_model.proofs.Heards.{HeardOf, heard-is}
use Rattle.kt_model.proofs.Plans as plans
use Rattle.kt_model.proofs.Plans.{PlanOf}
use Rattle.kt_model.proofs.Scene.{neighbour-node}
use Rattle.kt_scenario.proofs.Shared.{shard-node, worker-node}
use Rattle.kt_model.proofs.Sound.{IsTentative, IsSound, NoesStay}
use Rattle.kt_model.proofs.Writes.{row_after, own-row, other-rows}
use Rattle.kt_model.proofs.LogActs.{acts-long, front-noted, take-whole}
use Rattle.kt_model.proofs.NoteSound.{log-long}

pub record AreHeld (s : State) (p : NodeId) : Type 0 where
  pub permanent : HoldsActs s.history p (row_of s.content p).permanent
  pub tentative : IsNotNo (verdict_on s.content (row_of s.content p).tentative)
      → IfSome (row_of s.content p).tentative (λ t. HoldsActs s.history p (Some t.checkpoint))

-- ---- what a plan writes

-- the checkpoint holds all of the log, and nothing is noted
pub record IsNow (h : List Note) (p : NodeId) (news : Option Note) (c : Ckpt) : Type 0 where
  pub calm : news ≡ None
  pub acts : c.acts ≡ log_acts h p
  pub long : c.line_len ≡ length (log h p)

abbrev pub WritesNow : List Note → NodeId → Option Note → Option Write → Type 0
WritesNow h p news None = Unit {0}
WritesNow h p news (Some (writes.BeginCheck c)) = IsNow h p news c
WritesNow h p news (Some (writes.PutTentative instance c)) = IsNow h p news c
WritesNow h p news (Some writes.Promote) = Unit {0}
WritesNow h p news (Some writes.Discard) = Unit {0}
WritesNow h p news (Some writes.BeginRestart) = Unit {0}
WritesNow h p news (Some writes.Bump) = Unit {0}
WritesNow h p news (Some (writes.Decide instance agreed)) = Unit {0}

abbrev pub Now : State → NodeId → Plan → Type 0
Now s p plan = WritesNow s.history p plan.note plan.write

heard-now : (s : State) (p from : NodeId) (n : Live) (kept : KeptChange) (app : AppMessage) (plan : Plan) → HeardOf (view s p) n kept from app plan
    → Now s p plan
heard-now s p from n kept app plan (ways.misses_request body talk) = tt
heard-now s p from n kept app plan (ways.accepts body talk awaited) = tt
heard-now s p from n kept app plan (ways.ignores_reply body talk other) = tt
heard-now s p from n kept app plan (ways.hears body talk new) = tt
heard-now s p from n kept app plan (ways.answers_again body talk old has) = tt
heard-now s p from n kept app plan (ways.ignores_request body talk old none) = tt
heard-now s p from n kept app plan (ways.misses_reply body talk) = tt

held-now : (s : State) (p : NodeId) (agreed : Bool) (send : List (NodeId × Message)) → Now s p (held_learns agreed send)
held-now s p true send = tt
held-now s p false send = tt

pub plan-now : (s : State) (t : StoreReads) (step : Step) (plan : Plan) → PlanOf s t step plan → Now s (owner step) plan
plan-now s t step plan (plans.issues there at up body kept next) = tt
plan-now s t step plan (plans.repeats there at up body again) = tt
plan-now s t step plan (plans.serves there other at up body gives) = tt
plan-now s t step plan (plans.takes {p = p} {from = from} {n = n} {app = app} there at up kept) =
    heard-now s p from n keeps.TakeFirst app plan (heard-is (view s p) n keeps.TakeFirst from app)
plan-now s t step plan (plans.hears {p = p} {q = q} {n = n} {app = app} comes at up kept) =
    heard-now s q p n keeps.Stay app plan (heard-is (view s q) n keeps.Stay p app)
plan-now s t step plan (plans.puts_by comes at rolls) = tt
plan-now s t step plan (plans.drops comes may) = tt
plan-now s t step plan (plans.answers_check comes at says) = tt
plan-now s t step plan (plans.joins_check comes at up undecided joins fit other shaped) = record { calm = refl; acts = refl; long = refl }
plan-now s t step plan (plans.answers_rollback comes at says) = tt
plan-now s t step plan (plans.joins_rollback comes at up undecided above fit) = tt
plan-now s t step plan (plans.counts_vote comes at voting on) = tt
plan-now s t step plan (plans.told_when_held {q = q} {agreed = agreed} comes at held same) = held-now s q agreed _
plan-now s t step plan (plans.told_to_roll comes at rolls asked same loads) = tt
plan-now s t step plan (plans.told_to_go_on comes at rolls asked same) = tt
plan-now s t step plan (plans.begins_check there at up fit shaped) = record { calm = refl; acts = refl; long = refl }
plan-now s t step plan (plans.decides there at voting own undecided comes) = tt
plan-now s t step plan (plans.gives_up there at voting own undecided) = tt
plan-now s t step plan (plans.gives_up_down there down has) = tt
plan-now s t step plan (plans.declines there at voting asked has) = tt
plan-now s t step plan (plans.learns_when_held {p = p} {agreed = agreed} there at held knows) = held-now s p agreed []
plan-now s t step plan (plans.learns_to_roll there at rolls asked knows loads) = tt
plan-now s t step plan (plans.learns_to_go_on there at rolls asked knows) = tt
plan-now s t step plan (plans.learns_yes_down there down has knows) = tt
plan-now s t step plan (plans.learns_no_down there down has knows fit) = tt
plan-now s t step plan (plans.fails there at fit other) = tt
plan-now s t step plan (plans.restarts there down has free loads) = tt
plan-now s t step plan (plans.restarts_anew there at rolls own refused loads) = tt

-- ---- whose plan it is

pub plan-owner : (s : State) (t : StoreReads) (step : Step) (plan : Plan) → PlanOf s t step plan → IsTrue (is_node s.scene (owner step))
plan-owner s t step plan (plans.issues {p = p} there at up body kept next) = worker-node s.scene p there
plan-owner s t step plan (plans.repeats {p = p} there at up body again) = worker-node s.scene p there
plan-owner s t step plan (plans.serves {p = p} there other at up body gives) = shard-node s.scene p there
plan-owner s t step plan (plans.takes there at up kept) = there
plan-owner s t step plan (plans.hears {p = p} {q = q} comes at up kept) = neighbour-node s.scene p q comes.neighbours
plan-owner s t step plan (plans.puts_by {p = p} {q = q} comes at rolls) = neighbour-node s.scene p q comes.neighbours
plan-owner s t step plan (plans.drops {p = p} {q = q} comes may) = neighbour-node s.scene p q comes.neighbours
plan-owner s t step plan (plans.answers_check {p = p} {q = q} comes at says) = neighbour-node s.scene p q comes.neighbours
plan-owner s t step plan (plans.joins_check {p = p} {q = q} comes at up undecided joins fit other shaped) = neighbour-node s.scene p q comes.neighbours
plan-owner s t step plan (plans.answers_rollback {p = p} {q = q} comes at says) = neighbour-node s.scene p q comes.neighbours
plan-owner s t step plan (plans.joins_rollback {p = p} {q = q} comes at up undecided above fit) = neighbour-node s.scene p q comes.neighbours
plan-owner s t step plan (plans.counts_vote {p = p} {q = q} comes at voting on) = neighbour-node s.scene p q comes.neighbours
plan-owner s t step plan (plans.told_when_held {p = p} {q = q} comes at held same) = neighbour-node s.scene p q comes.neighbours
plan-owner s t step plan (plans.told_to_roll {p = p} {q = q} comes at rolls asked same loads) = neighbour-node s.scene p q comes.neighbours
plan-owner s t step plan (plans.told_to_go_on {p = p} {q = q} comes at rolls asked same) = neighbour-node s.scene p q comes.neighbours
plan-owner s t step plan (plans.begins_check there at up fit shaped) = there
plan-owner s t step plan (plans.decides there at voting own undecided comes) = there
plan-owner s t step plan (plans.gives_up there at voting own undecided) = there
plan-owner s t step plan (plans.gives_up_down there down has) = there
plan-owner s t step plan (plans.declines there at voting asked has) = there
plan-owner s t step plan (plans.learns_when_held there at held knows) = there
plan-owner s t step plan (plans.learns_to_roll there at rolls asked knows loads) = there
plan-owner s t step plan (plans.learns_to_go_on there at rolls asked knows) = there
plan-owner s t step plan (plans.learns_yes_down there down has knows) = there
plan-owner s t step plan (plans.learns_no_down there down has knows fit) = there
plan-owner s t step plan (plans.fails there at fit other) = there
plan-owner s t step plan (plans.restarts there down has free loads) = there
plan-owner s t step plan (plans.restarts_anew there at rolls own refused loads) = there

-- ---- one checkpoint

-- what held the front of a log holds it after a news, where both logs are as long
held-noted : (h : List Note) (news : Option Note) → CausesComeFirst h → (q : NodeId) (stored : Option Ckpt)
    → acts_held stored ≤ length (acts_in_log h q) → acts_held stored ≤ length (acts_in_log (noted h news) q)
    → HoldsActs h q stored → HoldsActs (noted h news) q stored
held-noted h news causes q stored low high held = held ∙ sym (front-noted h news causes q (acts_held stored) low high)

-- all of the log, where nothing is noted
held-now-all : (h : List Note) (p : NodeId) (news : Option Note) (c : Ckpt) → IsNow h p news c → HoldsActs (noted h news) p (Some c)
held-now-all h p news c now =
    let long : c.line_len ≡ length (log_acts h p) = let a = log-long h p in let b = acts-long h p in let d = now.long in omega (arith, a, b, d) in
    let all : HoldsActs h p (Some c) = now.acts ∙ sym (ap (λ k. take k (log_acts h p)) long ∙ take-whole (log_acts h p)) in
    subst (λ (o : Option Note). HoldsActs (noted h o) p (Some c)) (sym now.calm) all

-- ---- the state after a plan

short-taken : (scene : SceneModel) (p : NodeId) (acts : List Act) (old : Option Ckpt) (o : Option Tentative)
    → IfSome o (λ t. IsTentative scene p acts old t.checkpoint) → IfSome o (λ t. t.checkpoint.line_len ≤ length acts)
short-taken scene p acts old None is = tt
short-taken scene p acts old (Some t) is = is.front.short

-- those of the tentative checkpoint
taken-noted : (h : List Note) (news : Option Note) → CausesComeFirst h → (q : NodeId) (o : Option Tentative)
    → IfSome o (λ t. t.checkpoint.line_len ≤ length (acts_in_log h q)) → IfSome o (λ t. t.checkpoint.line_len ≤ length (acts_in_log (noted h news) q))
    → IfSome o (λ t. HoldsActs h q (Some t.checkpoint)) → IfSome o (λ t. HoldsActs (noted h news) q (Some t.checkpoint))
taken-noted h news causes q None low high held = tt
taken-noted h news causes q (Some t) low high held = held-noted h news causes q (Some t.checkpoint) low high held

-- of one row: what it was, what it is, and its log before and after
pub record RowHeld (h : List Note) (p : NodeId) (row : NodeRow) (verdict : Option Verdict) : Type 0 where
  pub permanent : HoldsActs h p row.permanent
  pub tentative : IsNotNo verdict → IfSome row.tentative (λ t. HoldsActs h p (Some t.checkpoint))

pub record RowShort (h : List Note) (p : NodeId) (row : NodeRow) (verdict : Option Verdict) : Type 0 where
  pub permanent : acts_held row.permanent ≤ length (acts_in_log h p)
  pub tentative : IsNotNo verdict → IfSome row.tentative (λ t. t.checkpoint.line_len ≤ length (acts_in_log h p))

-- a row that the step leaves
left-held : (h : List Note) (news : Option Note) → CausesComeFirst h → (q : NodeId) (row : NodeRow) (was is : Option Verdict)
    → (was ≡ Some verdicts.No → is ≡ Some verdicts.No) → RowShort h q row was → RowShort (noted h news) q row is → RowHeld h q row was
    → RowHeld (noted h news) q row is
left-held h news causes q row was is stays low high held = record {
  permanent = held-noted h news causes q row.permanent low.permanent high.permanent held.permanent;
  tentative = λ fine.
      let before : IsNotNo was = λ e. fine (stays e) in
      taken-noted h news causes q row.tentative (low.tentative before) (high.tentative fine) (held.tentative before);
}

promoted-held : (h : List Note) (news : Option Note) → CausesComeFirst h → (q : NodeId) (old : Option Ckpt) (o : Option Tentative)
    → acts_held old ≤ length (acts_in_log h q) → IfSome o (λ t. t.checkpoint.line_len ≤ length (acts_in_log h q))
    → acts_held (promoted_from old o) ≤ length (acts_in_log (noted h news) q)
    → HoldsActs h q old → IfSome o (λ t. HoldsActs h q (Some t.checkpoint)) → HoldsActs (noted h news) q (promoted_from old o)
promoted-held h news causes q old None low taken high held has = held-noted h news causes q old low high held
promoted-held h news causes q old (Some t) low taken high held has = held-noted h news causes q (Some t.checkpoint) taken high has

-- the row of the node that writes
written-held : (h : List Note) (news : Option Note) → CausesComeFirst h → (p : NodeId) (c : Content) (row : NodeRow) (write : Option Write)
    (was is : Option Verdict)
    → (write ≡ Some writes.Promote → was ≡ Some verdicts.Yes)
    → ((t : Tentative) → row.tentative ≡ Some t → (row_after c row write).tentative ≡ Some t → was ≡ Some verdicts.No → is ≡ Some verdicts.No)
    → WritesNow h p news write → RowShort h p row was → RowShort (noted h news) p (row_after c row write) is → RowHeld h p row was
    → RowHeld (noted h news) p (row_after c row write) is
written-held h news causes p c row write was is promoted stays now low high held = by write promoted stays now high
  where
    same : (w : Option Write) → (row_after c row w).tentative ≡ row.tentative
        → ((t : Tentative) → row.tentative ≡ Some t → (row_after c row w).tentative ≡ Some t → was ≡ Some verdicts.No → is ≡ Some verdicts.No)
        → (IsNotNo is → IfSome row.tentative (λ t. t.checkpoint.line_len ≤ length (acts_in_log (noted h news) p)))
        → IsNotNo is → IfSome row.tentative (λ t. HoldsActs (noted h news) p (Some t.checkpoint))
    same w keeps stays high fine = here row.tentative refl
      where
        here : (o : Option Tentative) → row.tentative ≡ o → IfSome o (λ t. HoldsActs (noted h news) p (Some t.checkpoint))
        here None e = tt
        here (Some t) e =
            let before : IsNotNo was = λ no. fine (stays t e (keeps ∙ e) no) in
            let Low : Option Tentative → Type 0 = λ x. IfSome x (λ t. t.checkpoint.line_len ≤ length (acts_in_log h p)) in
            let High : Option Tentative → Type 0 = λ x. IfSome x (λ t. t.checkpoint.line_len ≤ length (acts_in_log (noted h news) p)) in
            let Held : Option Tentative → Type 0 = λ x. IfSome x (λ t. HoldsActs h p (Some t.checkpoint)) in
            taken-noted h news causes p (Some t) (subst Low e (low.tentative before)) (subst High e (high fine)) (subst Held e (held.tentative before))

    stayed : acts_held row.permanent ≤ length (acts_in_log (noted h news) p) → HoldsActs (noted h news) p row.permanent
    stayed long = held-noted h news causes p row.permanent low.permanent long held.permanent

    by : (w : Option Write) → (w ≡ Some writes.Promote → was ≡ Some verdicts.Yes)
        → ((t : Tentative) → row.tentative ≡ Some t → (row_after c row w).tentative ≡ Some t → was ≡ Some verdicts.No → is ≡ Some verdicts.No)
        → WritesNow h p news w → RowShort (noted h news) p (row_after c row w) is → RowHeld (noted h news) p (row_after c row w) is
    by None promoted stays now high = record { permanent = stayed high.permanent; tentative = same None refl stays high.tentative }
    by (Some (writes.BeginCheck x)) promoted stays now high =
        record { permanent = stayed high.permanent; tentative = λ fine. held-now-all h p news x now }
    by (Some (writes.PutTentative instance x)) promoted stays now high =
        record { permanent = stayed high.permanent; tentative = λ fine. held-now-all h p news x now }
    by (Some writes.Promote) promoted stays now high =
        let fine : IsNotNo was = λ no. let is : Some verdicts.Yes ≡ Some verdicts.No = sym (promoted refl) ∙ no in absurd (cc (is)) in
        record {
          permanent =
              promoted-held h news causes p row.permanent row.tentative low.permanent (low.tentative fine) high.permanent held.permanent
              (held.tentative fine);
          tentative = λ f. tt;
        }
    by (Some writes.Discard) promoted stays now high = record { permanent = stayed high.permanent; tentative = λ f. tt }
    by (Some writes.BeginRestart) promoted stays now high =
        record { permanent = stayed high.permanent; tentative = same (Some writes.BeginRestart) refl stays high.tentative }
    by (Some writes.Bump) promoted stays now high =
        record { permanent = stayed high.permanent; tentative = same (Some writes.Bump) refl stays high.tentative }
    by (Some (writes.Decide instance agreed)) promoted stays now high =
        record { permanent = stayed high.permanent; tentative = same (Some (writes.Decide instance agreed)) refl stays high.tentative }

-- ---- all nodes

row-short : (s : State) → IsSound s → (p : NodeId) → RowShort s.history p (row_of s.content p) (verdict_on s.content (row_of s.content p).tentative)
row-short s sound p =
    let stored = (sound.nodes p).stored in record {
      permanent = stored.permanent.short;
      tentative = λ fine.
          short-taken s.scene p (acts_in_log s.history p) (row_of s.content p).permanent (row_of s.content p).tentative (stored.tentative fine);
    }

verdict-stays : (c d : Content) (o : Option Tentative) → NoesStay c d → verdict_on c o ≡ Some verdicts.No → verdict_on d o ≡ Some verdicts.No
verdict-stays c d None stays e = absurd cc
verdict-stays c d (Some t) stays e = stays t.instance e

pub allowed-promoted : (c : Content) (p : NodeId) (write : Option Write) → IfSome write (IsAllowed c p) → write ≡ Some writes.Promote
    → verdict_on c (row_of c p).tentative ≡ Some verdicts.Yes
allowed-promoted c p write allowed e = subst (λ (w : Option Write). IfSome w (IsAllowed c p)) e allowed

pub applied-held : (s : State) (step : Step) (plan : Plan) → IsSound s → IsSound (applied s step plan)
    → NoesStay s.content (content_after (owner step) plan.write s.content)
    → (plan.write ≡ Some writes.Promote → verdict_on s.content (row_of s.content (owner step)).tentative ≡ Some verdicts.Yes)
    → Now s (owner step) plan → ((p : NodeId) → AreHeld s p)
    → (q : NodeId) → AreHeld (applied s step plan) q
applied-held s step plan sound after noes promotes now held q = elim (cases_eq (node_index p) (node_index q)) [
  | inl e ↦ subst (AreHeld (applied s step plan)) (node_index-injective p q e) own
  | inr d ↦ other (λ e. d (ap node_index e))
]
  where
    p : NodeId
    p = owner step

    new : Content
    new = content_after p plan.write s.content

    causes : CausesComeFirst s.history
    causes = CausesComeFirst-from_well_formed s.history sound.well_formed

    as_row : (r : NodeId) → RowHeld s.history r (row_of s.content r) (verdict_on s.content (row_of s.content r).tentative)
    as_row r = record { permanent = (held r).permanent; tentative = (held r).tentative }

    own : AreHeld (applied s step plan) p
    own =
        let row : NodeRow = row_of s.content p in
        let At : NodeRow → Type 0 = λ x. RowShort (noted s.history plan.note) p x (verdict_on new x.tentative) in
        let short : At (row_after s.content row plan.write) = subst At (own-row p plan.write s.content) (row-short (applied s step plan) after p) in
        let done = written-held s.history plan.note causes p s.content row plan.write (verdict_on s.content row.tentative)
        (verdict_on new (row_after s.content row plan.write).tentative) promotes
        (λ t was is no. ap (verdict_on new) is ∙ verdict-stays s.content new (Some t) noes (ap (verdict_on s.content) (sym was) ∙ no))
        now (row-short s sound p) short (as_row p) in
        let Held : NodeRow → Type 0 = λ x. RowHeld (noted s.history plan.note) p x (verdict_on new x.tentative) in
        let there : Held (row_of new p) = subst Held (sym (own-row p plan.write s.content)) done in
        record { permanent = there.permanent; tentative = there.tentative }

    other : p ≢ q → AreHeld (applied s step plan) q
    other apart =
        let row : NodeRow = row_of s.content q in
        let same : row_of new q ≡ row = other-rows p plan.write s.content q (λ e. apart (sym e)) in
        let At : NodeRow → Type 0 = λ x. RowShort (noted s.history plan.note) q x (verdict_on new x.tentative) in
        let short : At row = subst At same (row-short (applied s step plan) after q) in
        let done = left-held s.history plan.note causes q row (verdict_on s.content row.tentative) (verdict_on new row.tentative)
        (verdict-stays s.content new row.tentative noes) (row-short s sound q) short (as_row q) in
        let Held : NodeRow → Type 0 = λ x. RowHeld (noted s.history plan.note) q x (verdict_on new x.tentative) in
        let there : Held (row_of new q) = subst Held (sym same) done in
        record { permanent = there.permanent; tentative = there.tentative }

-- ---- what counts as permanent

permanent_by_acts : (h : List Note) (p : NodeId) (old : Option Ckpt) (taken : Option Tentative) (verdict : Option Verdict) → HoldsActs h p old
    → (IsNotNo verdict → IfSome taken (λ t. HoldsActs h p (Some t.checkpoint))) → HoldsActs h p (permanent_by verdict taken old)
permanent_by_acts h p old (Some t) (Some verdicts.Yes) held has = has (λ e. cc (e))
permanent_by_acts h p old None (Some verdicts.Yes) held has = held
permanent_by_acts h p old taken (Some verdicts.Open) held has = held
permanent_by_acts h p old taken (Some verdicts.No) held has = held
permanent_by_acts h p old taken None held has = held

pub permanent_acts : (s : State) (p : NodeId) → AreHeld s p → HoldsActs s.history p (permanent_of s.content p)
permanent_acts s p held =
    permanent_by_acts s.history p (row_of s.content p).permanent (row_of s.content p).tentative
    (verdict_on s.content (row_of s.content p).tentative) held.permanent held.tentative

-- ---- the opening, over a store in which nothing is

pub opening-held : (scene : SceneModel) (p : NodeId) → AreHeld (opening scene) p
opening-held scene p = record { permanent = refl; tentative = λ fine. tt }
