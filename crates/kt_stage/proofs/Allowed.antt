-- What the policy gives is a step of the node itself, and allowed.
-- Cited by `policy::next_before_serving`, `policy::next_for`.
use Rattle.std.proofs.Common.{◌≡◌, suc, ◌+◌, ◌-◌, ◌*◌, length, Bool, true, false, List, [], ◌∷◌, Result, Ok, Err, refl, sym, ap, subst, ◌∙◌}
use Rattle.std.specs.Prelude.{Option, None, Some, cond, is_some, not, ◌&&◌, ◌||◌, if◌then◌else◌, slice_get, unwrap_or, IfOk, IfSome, IsTrue}
use Rattle.std.specs.List.{find}
use Rattle.std.specs.Option.{option_map}
use Rattle.std.proofs.lemmas.Bool.{and_parts, not-true, or_left}
use Rattle.kt_tuple.specs.declared.node.NodeId.{NodeId}
use Rattle.kt_tuple.specs.declared.node.NodeId.TheVariants as ids
use Rattle.kt_store.specs.declared.error.StoreError.{StoreError}
use Rattle.kt_store.specs.declared.store.CkptStore.{Ghosts}
use Rattle.kt_link.specs.Network.{entry_at}
use Rattle.kt_state.specs.Node.{Node, Down, mode_of}
use Rattle.kt_state.specs.Plan.{Planned}
use Rattle.kt_state.specs.declared.node.Mode.{Mode}
use Rattle.kt_state.specs.declared.node.Mode.TheVariants as modes
use Rattle.kt_scenario.specs.declared.step.Step.{Step}
use Rattle.kt_scenario.specs.declared.step.Step.TheVariants.{Issue, Repeat, Deliver, Take, Serve, Check, Decide, Abandon}
use Rattle.kt_scenario.specs.declared.step.Step.TheVariants.{Learn, Fail, Restart}
use Rattle.kt_scenario.specs.Scene.{SceneModel, are_neighbours, is_among, is_in_scene, is_node, is_shard, is_worker}
use Rattle.kt_model.specs.StepPlan.{is_planned, of_scene}
use Rattle.kt_model.specs.auxiliary.Ready.{AreNeighbours}
use Rattle.kt_model.specs.State.{State, link, node, view}
use Rattle.kt_model.specs.StoreReads.{store_reads}
use Rattle.kt_link.proofs.Shared.{among-true}
use Rattle.kt_model.proofs.Shared.{from_ends, to_shard, to_worker}
use Rattle.kt_scenario.specs.Step.{owner}
use Rattle.kt_scenario.specs.declared.faults.FaultLine.{FaultLine}
use Rattle.kt_core.specs.Lent.{is_allowed, message_at}
use Rattle.kt_core.specs.World.{WorldModel}
use Rattle.kt_stage.specs.Asking.{IsAsked}
use Rattle.kt_stage.specs.declared.policy.Rule.{Rule}
use Rattle.kt_stage.specs.declared.policy.Rule.TheVariants as rules
use Rattle.kt_tuple.specs.Node.{all_nodes, all_workers}
use Rattle.kt_stage.specs.Policy.{by_rule, first_some, got_no, has_sent, if_allowed, is_down, is_mode, is_up, next_step}
use Rattle.kt_stage.specs.Policy.{before_serving, node_got_no, or_else, policy, serves_with_first, step_if}
use Rattle.kt_stage.specs.auxiliary.Serving.{next_before_serving}
use Rattle.kt_stage.proofs.Planned.{check-or, delivery-or, fail-or, in-scene, restart-or}

-- ---- the words of the rules

step-is : (b : Bool) (step x : Step) → step_if b step ≡ Some x → step ≡ x
step-is true step x e = cc
step-is false step x e = absurd cc

step-holds : (b : Bool) (step x : Step) → step_if b step ≡ Some x → b ≡ true
step-holds true step x e = refl
step-holds false step x e = absurd cc

some-of : {A : Type 0} (a b : Option A) (x : A) (P : Type 0) → (a ≡ Some x → P) → (b ≡ Some x → P) → or_else a b ≡ Some x → P
some-of (Some y) b x P f g e = f e
some-of None b x P f g e = g e

first-of : {A B : Type 0} (f : A → Option B) (xs : List A) (x : B) (P : Type 0) → ((y : A) → f y ≡ Some x → P) → first_some f xs ≡ Some x → P
first-of f [] x P g e = absurd cc
first-of f (y ∷ later) x P g e = some-of (f y) (first_some f later) x P (g y) (first-of f later x P g) e

find-holds : {A : Type 0} (f : A → Bool) (xs : List A) (x : A) → find f xs ≡ Some x → f x ≡ true
find-holds f [] x e = absurd cc
find-holds {A} f (y ∷ later) x e = by (f y) refl (find-holds f later x) e
  where
    by : (b : Bool) → f y ≡ b → (find f later ≡ Some x → f x ≡ true) → cond b (Some y) (find f later) ≡ Some x → f x ≡ true
    by true is g e = ap f (let here : x ≡ y = cc in here) ∙ is
    by false is g e = g e

-- ---- whose it is

own-if : (p : NodeId) (b : Bool) (step x : Step) → owner step ≡ p → step_if b step ≡ Some x → owner x ≡ p
own-if p b step x own e = ap owner (sym (step-is b step x e)) ∙ own

own-back : (s : State) (p : NodeId) (x : Step) (b : Bool) → (if b then or_else (if_allowed s (Abandon p)) (if_allowed s (Restart p)) else None) ≡ Some x
    → owner x ≡ p
own-back s p x true e =
    some-of (if_allowed s (Abandon p)) (if_allowed s (Restart p)) x (owner x ≡ p) (own-if p (is_allowed s (Abandon p)) (Abandon p) x refl)
    (own-if p (is_allowed s (Restart p)) (Restart p) x refl) e
own-back s p x false e = absurd cc

own-heard : (p : NodeId) (x : Step) (from : Option NodeId) → option_map (λ q. Deliver q p) from ≡ Some x → owner x ≡ p
own-heard p x None e = absurd cc
own-heard p x (Some q) e = ap owner (let here : x ≡ Deliver q p = cc in here)

own-rule : (s : State) (lines : List FaultLine) (p : NodeId) (rule : Rule) (x : Step) → by_rule s lines p rule ≡ Some x → owner x ≡ p
own-rule s lines p rules.Fails x e = own-if p _ (Fail p) x refl e
own-rule s lines p rules.Checks x e = own-if p _ (Check p) x refl e
own-rule s lines p rules.Learns x e = own-if p _ (Learn p) x refl e
own-rule s lines p rules.ComesBack x e = own-back s p x (is_down s p) e
own-rule s lines p rules.TriesAgain x e = own-if p _ (Restart p) x refl e
own-rule s lines p rules.Decides x e = own-if p _ (Decide p) x refl e
own-rule s lines p rules.Hears x e = own-heard p x _ e
own-rule s lines p rules.Takes x e = own-if p _ (Take p) x refl e
own-rule s lines p rules.Asks x e = some-of (if_allowed s (Issue p)) _ x (owner x ≡ p) (own-if p _ (Issue p) x refl) (own-if p _ (Repeat p) x refl) e
own-rule s lines p rules.Serves x e = first-of (serves_with_first s p) all_workers x (owner x ≡ p) (λ w. own-if p _ (Serve p w 0) x refl) e
own-rule s lines p rules.GivesUp x e = own-if p _ (Abandon p) x refl e

pub next-own : (s : State) (lines : List FaultLine) (p : NodeId) (x : Step) → next_step s lines p ≡ Some x → owner x ≡ p
next-own s lines p x e = first-of (by_rule s lines p) policy x (owner x ≡ p) (λ rule. own-rule s lines p rule x) e

-- a node that does something stands in the table, and so in the scene
stands : (s : State) (p : NodeId) (test : Node → Bool) → test Down ≡ false → is_some (node s p) ≡ is_node s.scene p → test (view s p).node ≡ true
    → is_node s.scene p ≡ true
stands s p test down there e = by (node s p) there e
  where
    by : (n : Option Node) → is_some n ≡ is_node s.scene p → test (unwrap_or n Down) ≡ true → is_node s.scene p ≡ true
    by None there e = absurd (let no : false ≡ true = sym down ∙ e in cc)
    by (Some n) there e = sym there

-- only neighbours have a link
ends-sent : (s : State) (p q : NodeId) → is_some (message_at s q p 0) ≡ true → AreNeighbours s.scene q p
ends-sent s (ids.Shard r) (ids.Worker w) e = by (is_among (length s.scene.scripts) w && is_among s.scene.shards r) refl e
  where
    by : (b : Bool) → (is_among (length s.scene.scripts) w && is_among s.scene.shards r) ≡ b
        → is_some (slice_get (entry_at [] s.links (if b then Some (2 * ((w - 1) * s.scene.shards + (r - 1))) else None)) 0) ≡ true
        → AreNeighbours s.scene (ids.Worker w) (ids.Shard r)
    by true is e =
        let both = and_parts (is_among (length s.scene.scripts) w) (is_among s.scene.shards r) is in
        let a = among-true (length s.scene.scripts) w both.0 in
        let b = among-true s.scene.shards r both.1 in
        from_ends s.scene (ids.Worker w) (ids.Shard r) (to_shard a.0 a.1 b.0 b.1)
    by false is e = absurd cc
ends-sent s (ids.Worker w) (ids.Shard r) e = by (is_among (length s.scene.scripts) w && is_among s.scene.shards r) refl e
  where
    by : (b : Bool) → (is_among (length s.scene.scripts) w && is_among s.scene.shards r) ≡ b
        → is_some (slice_get (entry_at [] s.links (option_map suc (if b then Some (2 * ((w - 1) * s.scene.shards + (r - 1))) else None))) 0) ≡ true
        → AreNeighbours s.scene (ids.Shard r) (ids.Worker w)
    by true is e =
        let both = and_parts (is_among (length s.scene.scripts) w) (is_among s.scene.shards r) is in
        let a = among-true (length s.scene.scripts) w both.0 in
        let b = among-true s.scene.shards r both.1 in
        from_ends s.scene (ids.Shard r) (ids.Worker w) (to_worker a.0 a.1 b.0 b.1)
    by false is e = absurd cc
ends-sent s (ids.Worker v) (ids.Worker w) e = absurd cc
ends-sent s (ids.Shard q) (ids.Shard r) e = absurd cc

-- ---- that it is allowed

abbrev IsFound : State → NodeId → Type 0
IsFound s p = is_some (node s p) ≡ is_node s.scene p

allowed-if : (s : State) (more : Bool) (step x : Step) → step_if (is_allowed s step && more) step ≡ Some x → is_allowed s x ≡ true
allowed-if s more step x e =
    ap (is_allowed s) (sym (step-is (is_allowed s step && more) step x e))
    ∙ (and_parts (is_allowed s step) more (step-holds (is_allowed s step && more) step x e)).0

allowed-alone : (s : State) (step x : Step) → if_allowed s step ≡ Some x → is_allowed s x ≡ true
allowed-alone s step x e = ap (is_allowed s) (sym (step-is (is_allowed s step) step x e)) ∙ step-holds (is_allowed s step) step x e

allowed-back : (s : State) (p : NodeId) (x : Step) (b : Bool) → (if b then or_else (if_allowed s (Abandon p)) (if_allowed s (Restart p)) else None) ≡ Some x
    → is_allowed s x ≡ true
allowed-back s p x true e =
    some-of (if_allowed s (Abandon p)) (if_allowed s (Restart p)) x (is_allowed s x ≡ true) (allowed-alone s (Abandon p) x) (allowed-alone s (Restart p) x) e
allowed-back s p x false e = absurd cc

allowed-heard : (s : State) (p : NodeId) (x : Step) (from : Option NodeId) → find (has_sent s p) all_nodes ≡ from → option_map (λ q. Deliver q p) from ≡ Some x
    → is_allowed s x ≡ true
allowed-heard s p x None is e = absurd cc
allowed-heard s p x (Some q) is e =
    let sent = find-holds (has_sent s p) all_nodes q is in
    ap (is_allowed s) (let here : x ≡ Deliver q p = cc in here)
    ∙ in-scene (are_neighbours s.scene q p) _ (ends-sent s p q sent) (delivery-or (view s p) (store_reads s (Deliver q p)) q (link s q p) sent)

allowed-fails : (s : State) (p : NodeId) → IsFound s p → is_down s p ≡ false → is_allowed s (Fail p) ≡ true
allowed-fails s p found e =
    in-scene (is_node s.scene p) _ (stands s p (λ n. not (is_mode (mode_of n) modes.Down)) refl found (ap not e)) (fail-or (view s p) _ _ _ (view s p).node e)

allowed-checks : (s : State) (p : NodeId) → IsFound s p → is_up s p ≡ true → is_allowed s (Check p) ≡ true
allowed-checks s p found e =
    in-scene (is_node s.scene p) _ (stands s p (λ n. is_mode (mode_of n) modes.Up) refl found e) (check-or (view s p) _ _ (view s p).node e)

allowed-restart : (s : State) (p : NodeId) → IsFound s p → got_no s p ≡ true → is_allowed s (Restart p) ≡ true
allowed-restart s p found e =
    let known = store_reads s (Restart p) in
    in-scene (is_node s.scene p) _ (stands s p (node_got_no s.content) refl found e)
    (restart-or (view s p) known.stored known.next (is_some known.tentative) known.undecided s.content (view s p).node e)

allowed-rule : (s : State) (lines : List FaultLine) (p : NodeId) → IsFound s p → (rule : Rule) (x : Step) → by_rule s lines p rule ≡ Some x
    → is_allowed s x ≡ true
allowed-rule s lines p found rules.Fails x e =
    let both = and_parts (not (is_down s p)) _ (step-holds _ (Fail p) x e) in
    ap (is_allowed s) (sym (step-is _ (Fail p) x e)) ∙ allowed-fails s p found (not-true (is_down s p) both.0)
allowed-rule s lines p found rules.Checks x e =
    let both = and_parts (is_up s p) _ (step-holds _ (Check p) x e) in
    ap (is_allowed s) (sym (step-is _ (Check p) x e)) ∙ allowed-checks s p found both.0
allowed-rule s lines p found rules.Learns x e = allowed-alone s (Learn p) x e
allowed-rule s lines p found rules.ComesBack x e = allowed-back s p x (is_down s p) e
allowed-rule s lines p found rules.TriesAgain x e =
    let both = and_parts (got_no s p) _ (step-holds _ (Restart p) x e) in
    ap (is_allowed s) (sym (step-is _ (Restart p) x e)) ∙ allowed-restart s p found both.0
allowed-rule s lines p found rules.Decides x e = allowed-alone s (Decide p) x e
allowed-rule s lines p found rules.Hears x e = allowed-heard s p x (find (has_sent s p) all_nodes) refl e
allowed-rule s lines p found rules.Takes x e = allowed-alone s (Take p) x e
allowed-rule s lines p found rules.Asks x e =
    some-of (if_allowed s (Issue p)) _ x (is_allowed s x ≡ true) (allowed-alone s (Issue p) x) (allowed-if s _ (Repeat p) x) e
allowed-rule s lines p found rules.Serves x e = first-of (serves_with_first s p) all_workers x (is_allowed s x ≡ true) (λ w. allowed-alone s (Serve p w 0) x) e
allowed-rule s lines p found rules.GivesUp x e = allowed-if s _ (Abandon p) x e

pub next-allowed : (s : State) (lines : List FaultLine) (p : NodeId) (x : Step) → is_some (node s p) ≡ is_node s.scene p → next_step s lines p ≡ Some x
    → is_allowed s x ≡ true
next-allowed s lines p x found e = first-of (by_rule s lines p) policy x (is_allowed s x ≡ true) (λ rule. allowed-rule s lines p found rule x) e

-- ---- a node that is not in the scene has no next step

in-there : (there : Bool) (r : Planned) → is_planned (of_scene there r) ≡ true → there ≡ true
in-there true r e = refl
in-there false r e = absurd cc

-- the one who hears is a node of the scene, on whichever side it stands
hearer : (a b c d : Bool) → (a && b || c && d) ≡ true → (d || b) ≡ true
hearer a b c true e = refl
hearer a true c false e = refl
hearer true false true false e = absurd cc
hearer true false false false e = absurd cc
hearer false false true false e = absurd cc
hearer false false false false e = absurd cc

of-shard : (a b : Bool) → b ≡ true → (a || b) ≡ true
of-shard true b e = refl
of-shard false b e = e

owner-in-scene : (scene : SceneModel) (step : Step) → is_in_scene scene step ≡ true → is_node scene (owner step) ≡ true
owner-in-scene scene (Issue p) e = or_left (is_worker scene p) (is_shard scene p) e
owner-in-scene scene (Repeat p) e = or_left (is_worker scene p) (is_shard scene p) e
owner-in-scene scene (Deliver p q) e = hearer (is_worker scene p) (is_shard scene q) (is_shard scene p) (is_worker scene q) e
owner-in-scene scene (Serve p w place) e = of-shard (is_worker scene p) (is_shard scene p) (and_parts (is_shard scene p) (is_worker scene w) e).0
owner-in-scene scene (Take p) e = e
owner-in-scene scene (Check p) e = e
owner-in-scene scene (Decide p) e = e
owner-in-scene scene (Abandon p) e = e
owner-in-scene scene (Learn p) e = e
owner-in-scene scene (Fail p) e = e
owner-in-scene scene (Restart p) e = e

pub next-none : (s : State) (lines : List FaultLine) (p : NodeId) → is_some (node s p) ≡ is_node s.scene p → is_some (node s p) ≡ false
    → next_step s lines p ≡ None
next-none s lines p found none = by (next_step s lines p) refl
  where
    by : (o : Option Step) → next_step s lines p ≡ o → next_step s lines p ≡ None
    by None e = e
    by (Some x) e = absurd (
        let there : is_node s.scene (owner x) ≡ true = owner-in-scene s.scene x (in-there (is_in_scene s.scene x) _ (next-allowed s lines p x found e)) in
        let off : false ≡ true = sym none ∙ found ∙ ap (is_node s.scene) (sym (next-own s lines p x e)) ∙ there in
        cc
        )

-- ---- what a node that is in the scene is given

pub given-own : (s : State) (lines : List FaultLine) (p : NodeId) (r : Result (Option Step) StoreError) → IfOk r (λ x. x ≡ next_step s lines p)
    → IfOk r (λ x. IfSome x (λ step. owner step ≡ p))
given-own s lines p (Ok None) is = tt
given-own s lines p (Ok (Some x)) is = next-own s lines p x (sym is)
given-own s lines p (Err e) is = tt

pub given-allowed : (s : State) (lines : List FaultLine) (p : NodeId) (r : Result (Option Step) StoreError) → is_some (node s p) ≡ is_node s.scene p
    → IfOk r (λ x. x ≡ next_step s lines p) → IfOk r (λ x. IfSome x (λ step. IsTrue (is_allowed s step)))
given-allowed s lines p (Ok None) found is = tt
given-allowed s lines p (Ok (Some x)) found is = next-allowed s lines p x found (sym is)
given-allowed s lines p (Err e) found is = tt

-- ---- of a node that has no mode

mapped : {A B : Type 0} (f : A → B) (o : Option A) → is_some (option_map f o) ≡ is_some o
mapped f None = refl
mapped f (Some x) = refl

pub found-by-mode : (s : State) (p : NodeId) (mode : Option Mode) → mode ≡ option_map mode_of (node s p) → is_some mode ≡ is_node s.scene p
    → is_some (node s p) ≡ is_node s.scene p
found-by-mode s p mode value there = sym (mapped mode_of (node s p)) ∙ sym (ap is_some value) ∙ there

pub asked-nobody : {S : Type 0} {kind : Ghosts S} (w : WorldModel) (lines : List FaultLine) (p : NodeId) (mode : Option Mode)
    → mode ≡ option_map mode_of (node w.state p)
    → is_some mode ≡ is_node w.state.scene p → mode ≡ None
    → IsAsked kind w w (λ s x. x ≡ next_step s lines p) (Ok None)
asked-nobody w lines p mode value there none = record {
  value = λ h.
      let nothing : is_some (node w.state p) ≡ false = sym (mapped mode_of (node w.state p)) ∙ sym (ap is_some value) ∙ ap is_some none in
      sym (next-none w.state lines p (found-by-mode w.state p mode value there) nothing);
  same = λ h. refl;
  beside = refl;
  honest = λ h. h;
  lasts = λ never h. h;
  counts = refl;
  cause = tt;
}

-- ---- the same by the rules before that of serving

before-rules : (s : State) (lines : List FaultLine) (p : NodeId) (x : Step) → next_before_serving s lines p ≡ Some x
    → first_some (by_rule s lines p) before_serving ≡ Some x
before-rules s lines p x e = by (is_node s.scene p) e
  where
    by : (b : Bool) → (if b then first_some (by_rule s lines p) before_serving else None) ≡ Some x
        → first_some (by_rule s lines p) before_serving ≡ Some x
    by true e = e
    by false e = absurd cc

pub before-own : (s : State) (lines : List FaultLine) (p : NodeId) (r : Result (Option Step) StoreError) → IfOk r (λ x. x ≡ next_before_serving s lines p)
    → IfOk r (λ x. IfSome x (λ step. owner step ≡ p))
before-own s lines p (Ok None) is = tt
before-own s lines p (Ok (Some x)) is =
    first-of (by_rule s lines p) before_serving x (owner x ≡ p) (λ rule. own-rule s lines p rule x) (before-rules s lines p x (sym is))
before-own s lines p (Err e) is = tt

pub before-allowed : (s : State) (lines : List FaultLine) (p : NodeId) (r : Result (Option Step) StoreError) → is_some (node s p) ≡ is_node s.scene p
    → IfOk r (λ x. x ≡ next_before_serving s lines p) → IfOk r (λ x. IfSome x (λ step. IsTrue (is_allowed s step)))
before-allowed s lines p (Ok None) found is = tt
before-allowed s lines p (Ok (Some x)) found is =
    first-of (by_rule s lines p) before_serving x (is_allowed s x ≡ true) (λ rule. allowed-rule s lines p found rule x) (before-rules s lines p x (sym is))
before-allowed s lines p (Err e) found is = tt

pub before-there : (s : State) (lines : List FaultLine) (p : NodeId) (r : Result (Option Step) StoreError) → is_node s.scene p ≡ true
    → IfOk r (λ x. x ≡ first_some (by_rule s lines p) before_serving) → IfOk r (λ x. x ≡ next_before_serving s lines p)
before-there s lines p (Ok x) there is =
    is ∙ sym (ap (λ (b : Bool). if b then first_some (by_rule s lines p) before_serving else None) there)
before-there s lines p (Err e) there is = tt

pub before-nobody : {S : Type 0} {kind : Ghosts S} (w : WorldModel) (lines : List FaultLine) (p : NodeId) (mode : Option Mode)
    → is_some mode ≡ is_node w.state.scene p → mode ≡ None
    → IsAsked kind w w (λ s x. x ≡ next_before_serving s lines p) (Ok None)
before-nobody w lines p mode there none = record {
  value = λ h. sym (ap (λ (b : Bool). if b then first_some (by_rule w.state lines p) before_serving else None) (sym there ∙ ap is_some none));
  same = λ h. refl;
  beside = refl;
  honest = λ h. h;
  lasts = λ never h. h;
  counts = refl;
  cause = tt;
}

pub before-asked : {S : Type 0} {kind : Ghosts S} (old new : WorldModel) (lines : List FaultLine) (p : NodeId) (rules : List Rule)
    (r : Result (Option Step) StoreError) → rules ≡ before_serving → is_node old.state.scene p ≡ true
    → IsAsked kind old new (λ s x. x ≡ first_some (by_rule s lines p) rules) r
    → IsAsked kind old new (λ s x. x ≡ next_before_serving s lines p) r
before-asked old new lines p rules r same there asked = record {
  value = λ h.
      before-there old.state lines p r there
      (subst (λ (all : List Rule). IfOk r (λ x. x ≡ first_some (by_rule old.state lines p) all)) same (asked.value h));
  same = asked.same;
  beside = asked.beside;
  honest = asked.honest;
  lasts = asked.lasts;
  counts = asked.counts;
  cause = asked.cause;
}
