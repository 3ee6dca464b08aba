-- What every state keeps that steps lead to, from an opening or from what a store holds that fits: it is ready and backed,
-- and with all settled that was found it is sound.
-- Cited by Lasting, NeverUnfit; other crates.
use Rattle.std.proofs.Common.{◌≡◌, ℕ, zero, suc, ◌+◌, ◌≤◌, ◌-◌, ◌==◌, cond, map, if◌then◌else◌, ◌⊎◌, Bool, true, false, List, [], ◌∷◌, length, Option, None}
use Rattle.std.proofs.Common.{Some, Result, Ok, Err, inl, inr, refl, sym, ap, ◌∙◌, subst, arith}
use Rattle.std.specs.Prelude.{IfSome, IsTrue, is_some, unwrap_or, fold, max}
use Rattle.std.specs.List.{find}
use Rattle.std.proofs.lemmas.Bool.{cases_eq, eq-eqb}
use Rattle.std.specs.Option.{option_map}
use Rattle.kt_tuple.specs.declared.node.NodeId.{NodeId}
use Rattle.kt_history.specs.declared.note.Note.{Note}
use Rattle.kt_history.specs.Log.{log}
use Rattle.kt_history.specs.Closed.{acts_in_log}
use Rattle.kt_history.specs.WellFormed.{HasNoCut}
use Rattle.kt_store.specs.declared.rows.NodeRow.{NodeRow}
use Rattle.kt_store.specs.declared.rows.InstanceRow.{InstanceRow}
use Rattle.kt_store.specs.declared.rows.Tentative.{Tentative}
use Rattle.kt_store.specs.Proper.{IsProper}
use Rattle.kt_store.specs.Content.{Content, next_instance, row_of, verdict_on}
use Rattle.kt_state.specs.declared.message.Message.{Message}
use Rattle.kt_state.specs.declared.message.Message.TheVariants as messages
use Rattle.kt_state.specs.declared.change.Change.TheVariants as changes
use Rattle.kt_state.specs.declared.plan.Plan.{Plan}
use Rattle.kt_state.specs.declared.plan.Write.TheVariants as writes
use Rattle.kt_node.specs.Learning.{discard_down_plan}
use Rattle.kt_state.specs.Node.{Node, Down, Alive, opening_node}
use Rattle.kt_state.specs.Updating.{changed}
use Rattle.kt_scenario.specs.declared.step.Step.{Step}
use Rattle.kt_model.specs.declared.error.StepError.{StepError}
use Rattle.kt_scenario.specs.Step.{owner}
use Rattle.kt_scenario.specs.Scene.{SceneModel, IsScene, is_node}
use Rattle.kt_model.specs.Short.{AreShort}
use Rattle.kt_model.specs.State.{State, node, role_of, view}
use Rattle.kt_model.specs.Reached.{IsReached, IsStart, opened, resumes, opening, opening_row, or_as_it_was, next_state, after}
use Rattle.kt_model.specs.StoreReads.{store_reads, stored_of}
use Rattle.kt_model.specs.StepPlan.{step_plan}
use Rattle.kt_model.specs.Effect.{noted, applied, applied_if}
use Rattle.kt_model.specs.Writing.{content_after}
use Rattle.kt_model.specs.Found.{was_found}
use Rattle.kt_model.specs.Resumed.{resumed, AllFit}
use Rattle.kt_model.specs.auxiliary.Ready.{IsReady}
use Rattle.kt_model.specs.auxiliary.Backed.{IsBacked, IsNodeBacked, IsBoards}
use Rattle.kt_model.proofs.Applying.{Keeps, applied-sound}
use Rattle.kt_model.proofs.CanApplies.{stays_ready}
use Rattle.kt_model.proofs.FailLeaves.{has_fallen, learns_no_down}
use Rattle.kt_model.proofs.FirstCut.{IsCalm}
use Rattle.kt_model.proofs.Fit.{EndsIn, IsFitting, Fits, fits-fitting}
use Rattle.kt_model.proofs.HeldActs.{AreHeld, Now, applied-held}
use Rattle.kt_model.proofs.Holding.{Holds, IsMade, made-holds, opening-holds}
use Rattle.kt_model.proofs.Opened.{no_messages, opening-node}
use Rattle.kt_model.proofs.Resuming.{down-rows-hold, resumed-ready, resumed-backed, resumed-sound, resumed-fitting, resumed-made, resumed-held}
use Rattle.kt_model.proofs.Newer.{IsNewNode, IsInstanceRow, IsNewer, plan-news, newer-after}
use Rattle.kt_model.proofs.PlansFound.{plan-found, plan-few, plan-room}
use Rattle.kt_model.proofs.Shaped.{AreMade, made-noted}
use Rattle.kt_model.proofs.Settle.{settled-incarnation, settled, settled_content, row-settled}
use Rattle.kt_model.proofs.Settling.{FoundDown, row_found, unfound-same, found-bare, Follows, Learns, follows, downs-after}
use Rattle.kt_model.proofs.Sound.{IsNodeSound, IsSound}
use Rattle.kt_model.proofs.StaysBacked.{stays_backed}
use Rattle.kt_model.proofs.Updates.{idle_keeps}
use Rattle.kt_model.proofs.Writes.{own-row}

pub record Kept (s : State) : Type 0 where
  pub ready : IsReady s
  pub backed : IsBacked s
  pub newer : IsNewer s
  pub downs : FoundDown s
  pub sound : IsSound (settled s)
  pub calm : s.found ≡ None → HasNoCut s.history → IsCalm s
  pub fitting : IsFitting (settled s)
  pub made : AreMade s.scene s.history
  pub held : (p : NodeId) → AreHeld (settled s) p

-- ---- so all that an opened world keeps holds with what was found settled

ready-settled : (s : State) → IsReady s → IsReady (settled s)
ready-settled s r = record {
  scene = r.scene;
  scripts = r.scripts;
  rows = r.rows;
  counts = r.counts;
  there = r.there;
  nodes = r.nodes;
  few_steps = r.few_steps;
  few_own = r.few_own;
  few_notes = r.few_notes;
  few_made = r.few_made;
  causes = r.causes;
  messages = r.messages;
}

boards-settled : (f : Option ℕ) (c : Content) (m : Message) → IsBoards c m → IsBoards (settled_content f c) m
boards-settled f c (messages.App app) is = is
boards-settled f c (messages.CheckAsk ask) is = is
boards-settled f c (messages.RollAsk ask) is = is
boards-settled f c (messages.Vote vote) is = is
boards-settled f c (messages.Verdict instance agreed) is = is

backed-settled : (s : State) → IsBacked s → FoundDown s → IsBacked (settled s)
backed-settled s b downs = record {
  nodes = λ p. row p (node s p) refl (b.nodes p);
  messages = λ k m on. boards-settled s.found s.content m (b.messages k m on);
  board = b.board;
  few_instances = b.few_instances;
  few_incarnations = λ new p. subst (λ n. n ≤ s.made + 1) (sym (settled-incarnation s.found s.content p)) (b.few_incarnations new p);
} where
  row : (p : NodeId) (o : Option Node) → node s p ≡ o → IfSome o (λ n. IsNodeBacked n (row_of s.content p).tentative)
      → IfSome o (λ n. IsNodeBacked n (row_of (settled s).content p).tentative)
  row p None e is = tt
  row p (Some Down) e is = tt
  row p (Some (Alive n)) e is = pick (row_found s.found (row_of s.content p)) refl where
    pick : (f : Bool) → row_found s.found (row_of s.content p) ≡ f → IsNodeBacked (Alive n) (row_of (settled s).content p).tentative
    pick true early = absurd (apart (sym (ap (λ r. unwrap_or r Down) e) ∙ downs p early)) where
      apart : Alive n ≡ Down → ⊥
      apart x = cc (x)
    pick false late =
        subst (λ (r : NodeRow). IsNodeBacked (Alive n) r.tentative)
        (sym (row-settled s.found s.content p ∙ unfound-same s.found s.content (row_of s.content p) late)) is

calm-settled : (s : State) → IsCalm s → IsCalm (settled s)
calm-settled s c = record { nodes = c.nodes; messages = c.messages }

calm-back : (s : State) → IsCalm (settled s) → IsCalm s
calm-back s c = record { nodes = c.nodes; messages = c.messages }

pub kept-holds : (s : State) → Kept s → Holds (settled s)
kept-holds s k = record {
  ready = ready-settled s k.ready;
  backed = backed-settled s k.backed k.downs;
  sound = k.sound;
  calm = λ new none. calm-settled s (k.calm new none);
  fitting = k.fitting;
  made = k.made;
  held = k.held;
}

-- ---- what is learnt of what was found

-- nothing tentative is given up
bare-keeps : (s : State) → IsSound s → (p : NodeId) → (row_of s.content p).tentative ≡ None
    → Keeps s p (record { change = changes.Stay; send = []; note = None; write = Some writes.Discard })
bare-keeps s sound p bare =
    let idle = idle_keeps s p sound in
    let c : Content = content_after p (Some writes.Discard) s.content in
    let Row : NodeRow → Type 0 =
    λ r. IsNodeSound s.scene s.history p (acts_in_log s.history p) (option_map (changed changes.Stay) (node s p)) r.permanent r.tentative
    (verdict_on c r.tentative) in
    let same : row_of c p ≡ row_of s.content p =
    own-row p (Some writes.Discard) s.content ∙ ap (λ (t : Option Tentative). record (row_of s.content p) { tentative = t }) (sym bare) in
    record { may = tt; sends = tt; noes = λ i e. e; sound = subst Row (sym same) idle.sound }

quiet-fits : (s : State) (p : NodeId) (note : Option Note) → node s p ≡ Some Down
    → Fits s p (record { change = changes.Stay; send = []; note = note; write = Some writes.Discard })
quiet-fits s p note down = record {
  writes = tt;
  ends = subst (λ (row : Option Node). EndsIn (length (log (noted s.history note) p)) None (option_map (changed changes.Stay) row)) (sym down) tt;
}

pub record Quiet (s : State) (p : NodeId) (plan : Plan) : Type 0 where
  pub keeps : Keeps s p plan
  pub fits : Fits s p plan
  pub now : Now s p plan
  pub gives : plan.write ≡ Some writes.Discard

pub is-quiet : (s : State) (k : Kept s) (step : Step) (plan : Plan) → (x : Learns s step plan) → Quiet (settled s) x.node x.quiet
is-quiet s k step plan x =
    let h = kept-holds s k in
    let bare = found-bare s x.node x.found in
    let fallen = has_fallen (settled s) h.ready x.node x.there x.down in
    let Q : Plan → Type 0 = Quiet (settled s) x.node in
    elim x.kind [
      | inl e ↦ subst Q (sym e) (record {
        keeps = bare-keeps (settled s) k.sound x.node bare;
        fits = quiet-fits (settled s) x.node None fallen;
        now = tt;
        gives = refl;
      })
      | inr e ↦ subst Q (sym e) (record {
        keeps = learns_no_down (settled s) k.sound x.node fallen;
        fits = quiet-fits (settled s) x.node (discard_down_plan (view s x.node) (stored_of (settled s).content x.node)).note fallen;
        now = tt;
        gives = refl;
      })
    ]

-- ---- a step

record Left (s : State) (new : State) : Type 0 where
  sound : IsSound (settled new)
  fitting : IsFitting (settled new)
  calm : new.found ≡ None → HasNoCut new.history → IsCalm new
  made : AreMade new.scene new.history
  held : (p : NodeId) → AreHeld (settled new) p

follows-left : (s : State) (k : Kept s) (step : Step) (plan : Plan) → step_plan s step ≡ Ok plan → Follows s step plan → Left s (applied s step plan)
follows-left s k step plan e f =
    let made : IsMade (settled s) step (settled (applied s step plan)) =
    record {
      plan = plan;
      is_plan = f.is_plan;
      few = plan-few s (store_reads s step) step plan e;
      room = plan-room s (store_reads s step) step plan e;
      leads = sym f.leads;
    } in
    let h = made-holds (settled s) step (settled (applied s step plan)) (kept-holds s k) made in
    record {
      sound = h.sound;
      fitting = h.fitting;
      calm = λ new none. calm-back (applied s step plan) (h.calm new none);
      made = h.made;
      held = h.held;
    }

learns-left : (s : State) (k : Kept s) (step : Step) (plan : Plan) → Learns s step plan → Left s (applied s step plan)
learns-left s k step plan x =
    let q = is-quiet s k step plan x in
    let at : owner step ≡ x.node = ap owner x.is_learn in
    let keeps : Keeps (settled s) (owner step) x.quiet = subst (λ p. Keeps (settled s) p x.quiet) (sym at) q.keeps in
    let fits : Fits (settled s) (owner step) x.quiet = subst (λ p. Fits (settled s) p x.quiet) (sym at) q.fits in
    let now : Now (settled s) (owner step) x.quiet = subst (λ p. Now (settled s) p x.quiet) (sym at) q.now in
    let there : IsTrue (is_node s.scene (owner step)) = subst (λ p. IsTrue (is_node s.scene p)) (sym at) x.there in
    let sound : IsSound (applied (settled s) step x.quiet) = applied-sound (settled s) step x.quiet k.sound keeps in
    let Made : State → Type 0 = λ y. AreMade y.scene y.history in
    let Held : State → Type 0 = λ y. (p : NodeId) → AreHeld y p in
    record {
      made = subst Made (sym x.leads) (made-noted s.scene s.history (owner step) x.quiet.note there keeps.may k.made);
      held = subst Held (sym x.leads)
          (applied-held (settled s) step x.quiet k.sound sound keeps.noes (λ e. discards (sym q.gives ∙ e)) now k.held);
      sound = subst IsSound (sym x.leads) sound;
      fitting = subst IsFitting (sym x.leads) (fits-fitting (settled s) step x.quiet k.fitting keeps.may fits);
      calm = λ new none. absurd (unfound new);
    } where
      discards : {X : Type 0} → Some writes.Discard ≡ Some writes.Promote → X
      discards e = absurd (cc (e))

      unfound : s.found ≡ None → ⊥
      unfound e =
          let early : was_found None x.found.tentative.instance ≡ true = ap (λ f. was_found f x.found.tentative.instance) (sym e) ∙ x.found.early in
          cc (early)

pub step_plan-kept : (s : State) → Kept s → (step : Step) (plan : Plan) → step_plan s step ≡ Ok plan → Kept (applied s step plan)
step_plan-kept s k step plan e =
    let of = plan-found s (store_reads s step) step plan e in
    let left : Left s (applied s step plan) = elim (follows s k.backed k.newer k.downs step plan e) [
      | inl f ↦ follows-left s k step plan e f
      | inr x ↦ learns-left s k step plan x
    ] in
    record {
      ready = stays_ready s k.ready (plan-few s (store_reads s step) step plan e) (plan-room s (store_reads s step) step plan e) (store_reads s step) step plan
          of;
      backed = stays_backed s k.backed step plan of;
      newer = newer-after s k.newer step plan (plan-news s k.newer step plan of);
      downs = downs-after s k.newer k.downs step plan of;
      sound = left.sound;
      calm = left.calm;
      fitting = left.fitting;
      made = left.made;
      held = left.held;
    }

-- ---- the induction

result-kept : (s : State) (step : Step) (r : Result Plan StepError) → Kept s → step_plan s step ≡ r → Kept (or_as_it_was (applied_if s step r) s)
result-kept s step (Ok plan) k e = step_plan-kept s k step plan e
result-kept s step (Err refusal) k e = k

pub steps-kept : (s : State) (steps : List Step) → Kept s → Kept (after s steps)
unfolding after
steps-kept s [] k = k
steps-kept s (step ∷ later) k = steps-kept (next_state s step) later (result-kept s step (step_plan s step) k refl)

-- ---- the first states

pub opening-kept : (scene : SceneModel) → IsScene scene → AreShort scene → Kept (opening scene)
opening-kept scene is short =
    let h = opening-holds scene is short in record {
      ready = h.ready;
      backed = h.backed;
      newer = record {
        nodes = λ p. subst (λ (row : Option Node). IfSome row (IsNewNode None)) (sym (opening-node scene is p)) (new p);
        messages = λ k m on. absurd (no_messages _ k m on);
        instance_row = tt;
      };
      downs = λ p e. absurd (cc (e));
      sound = h.sound;
      calm = h.calm;
      fitting = h.fitting;
      made = h.made;
      held = h.held;
    } where
      new : (p : NodeId) → IfSome (opening_row scene p) (IsNewNode None)
      new p = by (is_node scene p) where
        by : (b : Bool) → IfSome (if b then Some (opening_node (role_of scene p)) else None) (IsNewNode None)
        by true = tt
        by false = tt

-- the greatest number on the board is on it
attained : (rows : List InstanceRow) (a : ℕ) → (fold max a (map (λ (row : InstanceRow). row.instance) rows) ≡ a)
    ⊎ IsTrue (is_some (find (λ (row : InstanceRow). row.instance == fold max a (map (λ (x : InstanceRow). x.instance) rows)) rows))
attained [] a = inl refl
attained (x ∷ rows) a = by (attained rows (max a x.instance)) where
  m : ℕ
  m = fold max (max a x.instance) (map (λ (row : InstanceRow). row.instance) rows)

  more : (b : Bool) → IsTrue (is_some (find (λ (row : InstanceRow). row.instance == m) rows))
      → IsTrue (is_some (cond b (Some x) (find (λ (row : InstanceRow). row.instance == m) rows)))
  more true t = refl
  more false t = t

  by : (m ≡ max a x.instance) ⊎ IsTrue (is_some (find (λ (row : InstanceRow). row.instance == m) rows))
      → (m ≡ a) ⊎ IsTrue (is_some (cond (x.instance == m) (Some x) (find (λ (row : InstanceRow). row.instance == m) rows)))
  by (inr later) = inr (more (x.instance == m) later)
  by (inl e) = elim (cases_eq x.instance m) [
    | inl same ↦ inr (rw (eq-eqb x.instance m same) refl)
    | inr other ↦ inl (grind (arith, e, other))
  ]

found-instance_row : (c : Content) → IsInstanceRow c (Some (next_instance c - 1))
found-instance_row c = by (next_instance c - 1) refl where
  most : ℕ
  most = fold max 0 (map (λ (row : InstanceRow). row.instance) c.board)

  by : (n : ℕ) → next_instance c - 1 ≡ n → IsInstanceRow c (Some n)
  by zero e = tt
  by (suc n) e =
      let same : most ≡ suc n = omega (arith, e) in
      elim (attained c.board 0) [
        | inl none ↦ absurd (omega (arith, none, same))
        | inr there ↦ subst (λ k. IsTrue (is_some (find (λ (row : InstanceRow). row.instance == k) c.board))) same there
      ]

pub resumed-kept : (scene : SceneModel) → IsScene scene → AreShort scene → (c : Content) → IsProper c → AllFit scene c → Kept (resumed scene c)
resumed-kept scene is short c proper fit = record {
  ready = resumed-ready scene is short c fit;
  backed = resumed-backed scene is c proper c refl;
  newer = record {
    nodes = down-rows-hold scene is c (λ p row. IfSome row (IsNewNode (Some (next_instance c - 1)))) (λ p. tt) (λ p. tt);
    messages = λ k m on. absurd (no_messages _ k m on);
    instance_row = found-instance_row c;
  };
  downs = down-rows-hold scene is c
      (λ p row. row_found (Some (next_instance c - 1)) (row_of c p) ≡ true → unwrap_or row Down ≡ Down) (λ p e. refl) (λ p e. refl);
  sound = resumed-sound scene is c fit;
  calm = λ e. absurd (cc (e));
  fitting = resumed-fitting scene is c fit;
  made = resumed-made scene c fit;
  held = resumed-held scene c fit;
}

pub start-kept : (s : State) → IsStart s → Kept s
start-kept s (opened scene is short) = opening-kept scene is short
start-kept s (resumes scene c is short proper fit) = resumed-kept scene is short c proper fit

pub reached-kept : (s : State) → IsReached s → Kept s
reached-kept s is = subst Kept is.leads (steps-kept is.start is.steps (start-kept is.start is.is_start))
