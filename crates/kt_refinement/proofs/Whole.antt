-- Of every state that steps lead to: the permanent checkpoints hold one run, in order, and while no node is down or rolls
-- back, nothing that is remembered has lost anything of its past. So all that is promised holds.
-- Cited by Leaving, `laws::a_resumed_world_has_the_permanent_services`, `laws::all_that_is_promised_holds`,
--   `laws::nothing_remembered_is_lost_in_steady_states`, `laws::permanent_checkpoints_are_causally_closed`,
--   `laws::permanent_tuples_are_those_of_one_run`, `laws::steady_shards_hold_the_survivors_tuples`; other crates.
use Rattle.std.proofs.Common.{◌≡◌, ℕ, zero, suc, true, Bool, List, [], ◌∷◌, None, IsTrue, refl, subst}
use Rattle.std.specs.List.{list_all}
use Rattle.kt_tuple.specs.Node.{node_index}
use Rattle.kt_history.proofs.Shared.{CausesComeFirst-from_well_formed}
use Rattle.kt_shard.specs.Table.{at}
use Rattle.kt_model.specs.State.{State as World}
use Rattle.kt_model.specs.Reached.{IsReached}
use Rattle.kt_model.specs.Cut.{IsCausallyClosed, acts_held, permanent_length}
use Rattle.kt_model.specs.Headline.{Headline, IsSteady, IsSteadyRun, is_steady, is_steady_row}
use Rattle.kt_model.specs.PermanentRun.{IsPermanentRun}
use Rattle.kt_model.proofs.Shared.{one_run-reached, reached-holds, permanent-reached, permanent-settled, settled, stores-reached}
use Rattle.std.proofs.lemmas.Bool.{and_parts}
use Rattle.kt_refinement.proofs.Refined.{stands-invariant}
use Rattle.kt_refinement.proofs.Resuming.{reached-stands}
use Rattle.kt_refinement.proofs.Agreeing.{permanent-closed, steady-run}

pub closed-reached : (s : World) → IsReached s → IsCausallyClosed s.history (permanent_length s.content)
closed-reached s is =
    let f = reached-stands s is in
    let closed = permanent-closed (settled s) f.state (stands-invariant (settled s) f) f.stands f.letters
    (CausesComeFirst-from_well_formed s.history (reached-holds s is).sound.well_formed) in
    let same : permanent_length (settled s).content ≡ permanent_length s.content = λ i p. acts_held (permanent-settled s.found s.content p i) in
    subst (IsCausallyClosed s.history) same closed

pub permanent_run-reached : (s : World) → IsReached s → IsPermanentRun s
permanent_run-reached s is = permanent-reached s is (closed-reached s is)

-- what a test says of all rows, and of none, it says of each
row-at : {X : Type 0} (P : X → Bool) (rows : List X) (none : X) (k : ℕ) → P none ≡ true → list_all P rows ≡ true → P (at none rows k) ≡ true
row-at P [] none k of_none all = of_none
row-at P (x ∷ later) none zero of_none all = (and_parts (P x) (list_all P later) all).0
row-at P (x ∷ later) none (suc k) of_none all = row-at P later none k of_none (and_parts (P x) (list_all P later) all).1

each-steady : (s : World) → IsTrue (is_steady s) → IsSteady s
each-steady s steady p = row-at is_steady_row s.nodes None (node_index p) refl steady

pub steady-reached : (s : World) → IsReached s → IsTrue (is_steady s) → IsSteadyRun s
steady-reached s is steady =
    let f = reached-stands s is in
    let x = steady-run (settled s) f.state (stands-invariant (settled s) f) f.stands f.letters (reached-holds s is) (each-steady s steady) in
    record { all_survive = x.all_survive; tuples = x.tuples; one_run = x.one_run; are_held = x.are_held }

pub headline-reached : (s : World) → IsReached s → Headline s
headline-reached s is = record {
  survivors = one_run-reached s is;
  steady = steady-reached s is;
  stored = stores-reached s is;
  closed = closed-reached s is;
  permanent = permanent_run-reached s is;
}
