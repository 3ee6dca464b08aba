-- A node that is down restarts, and one whose rollback got No.
-- Cited by Refining.
use Rattle.std.proofs.Common.{◌≡◌, inl, inr, false, IsTrue, length, Option, Some, None, Ok, refl, subst}
use Rattle.std.specs.Prelude.{is_some}
use Rattle.std.specs.Option.{option_map}
use Rattle.kt_tuple.specs.declared.node.NodeId.{NodeId}
use Rattle.kt_history.specs.Closed.{acts_in_log}
use Rattle.kt_store.specs.declared.rows.Tentative.{Tentative}
use Rattle.kt_store.specs.Content.{row_of, verdict_on}
use Rattle.kt_vote.specs.Poll.{Poll}
use Rattle.kt_state.specs.declared.live.Phase.{Phase}
use Rattle.kt_state.specs.declared.live.Phase.TheVariants as phases
use Rattle.kt_state.specs.Node.{Node as RealNode, Live, Down}
use Rattle.kt_node.specs.Loading.{load}
use Rattle.kt_node.specs.Failing.{restarting_plan}
use Rattle.kt_scenario.specs.declared.step.Step.TheVariants.{Restart}
use Rattle.kt_scenario.specs.Scene.{is_node}
use Rattle.kt_model.specs.Cut.{acts_held}
use Rattle.kt_model.specs.State.{State as World, node, view}
use Rattle.kt_model.specs.StoreReads.{store_reads}
use Rattle.kt_model.specs.StoreReads as tellings
use Rattle.kt_model.proofs.Shared.{IsAlive, IsDown, backed-in, has_fallen, EndsAs, EndsDown, EndsRolling, Holds}
use Rattle.kt_protocol.specs.Machine.{State}
use Rattle.kt_protocol.proofs.Shared.{Invariant}
use Rattle.kt_refinement.proofs.Numbers.{peers}
use Rattle.kt_refinement.proofs.Represents.{Represents}
use Rattle.kt_refinement.proofs.Frames.{Refines}
use Rattle.kt_refinement.proofs.Restarts.{restarts_so}

nothing-there : (t : Option Tentative) → is_some (option_map tellings.header_in t) ≡ false → t ≡ None
nothing-there None e = refl
nothing-there (Some t) e = absurd (cc (e))

pub restarts : (s : World) (c : State) → Invariant (peers s.scene) c → Represents s c → Holds s → (p : NodeId) (live : Live) → IsTrue (is_node s.scene p)
    → IsDown s p → is_some (store_reads s (Restart p)).tentative ≡ false → load (view s p) (store_reads s (Restart p)).stored ≡ Ok live
    → Refines s (Restart p) (restarting_plan (view s p) (store_reads s (Restart p)).stored (store_reads s (Restart p)).next live) c
restarts s c inv is h p live there down untaken from =
    restarts_so s c inv is h (Restart p) live (λ x y e. absurd (cc (e))) there (inl fallen) none ends from where
      fallen : node s p ≡ Some Down
      fallen = has_fallen s h.ready p there down

      none : (row_of s.content p).tentative ≡ None
      none = nothing-there (row_of s.content p).tentative untaken

      ends : length (acts_in_log s.history p) ≡ acts_held (row_of s.content p).permanent
      ends =
          let N : Option RealNode → Type 0 =
          λ r. EndsAs (length (acts_in_log s.history p)) (acts_held (row_of s.content p).permanent) (row_of s.content p).tentative
          (verdict_on s.content (row_of s.content p).tentative) r in
          let T : Option Tentative → Type 0 =
          λ t. EndsDown (length (acts_in_log s.history p)) (acts_held (row_of s.content p).permanent) (verdict_on s.content t) t in
          subst T none (subst N fallen (h.sound.nodes p).ends)

pub restarts_anew : (s : World) (c : State) → Invariant (peers s.scene) c → Represents s c → Holds s → (p : NodeId) (n live : Live) (b : Poll)
    → IsTrue (is_node s.scene p) → IsAlive s p n → n.phase ≡ phases.Rolling b → b.parent ≡ None → load (view s p) (store_reads s (Restart p)).stored ≡ Ok live
    → Refines s (Restart p) (restarting_plan (view s p) (store_reads s (Restart p)).stored (store_reads s (Restart p)).next live) c
restarts_anew s c inv is h p n live b there alive rolling began from =
    restarts_so s c inv is h (Restart p) live (λ x y e. absurd (cc (e))) there (inr (n, alive)) (backed-in s h.backed p n
    (phases.Rolling b) alive rolling) ends from
  where
    ends : length (acts_in_log s.history p) ≡ acts_held (row_of s.content p).permanent
    ends =
        let N : Option RealNode → Type 0 =
        λ r. EndsAs (length (acts_in_log s.history p)) (acts_held (row_of s.content p).permanent) (row_of s.content p).tentative
        (verdict_on s.content (row_of s.content p).tentative) r in
        let P : Phase → Type 0 = λ f. EndsRolling (length (acts_in_log s.history p)) (acts_held (row_of s.content p).permanent) f in
        subst P rolling (subst N alive (h.sound.nodes p).ends) began
