-- Of a sound state: the survivors are one run and in order; and where all that is remembered survives, the
-- shards hold that run's tuples.
-- Cited by Lasting; other crates.
use Rattle.std.proofs.Common.{◌≡◌, ℕ, ◌≤◌, true, List, filter, Contains, IsPermutation, IsTrue, sym, subst, le-leb, arith}
use Rattle.std.specs.List.{range_with_len}
use Rattle.std.specs.Prelude.{nat_le}
use Rattle.std.proofs.lemmas.Bool.{and_from}
use Rattle.std.proofs.lemmas.List.Sorted.{IsPermutation-sym, IsPermutation-trans}
use Rattle.kt_tuple.specs.declared.node.NodeId.{NodeId}
use Rattle.kt_tuple.specs.declared.node.NodeId.TheVariants as ids
use Rattle.kt_history.specs.declared.note.Note.{Note}
use Rattle.kt_history.specs.Log.{log}
use Rattle.kt_history.specs.Survival.{Stands, Survives, survives}
use Rattle.kt_history.specs.Closed.{acts_in_log}
use Rattle.kt_history.specs.WellFormed.{CausesComeFirst, HasNoCut}
use Rattle.kt_history.proofs.Shared.{log-own, InPast-back, Stands-no_cut, survives-decides}
use Rattle.kt_logs.specs.ShardLog.{shard_of_acts, new_shard}
use Rattle.kt_logs.proofs.Shared.{is_home, shares, shares-whole, flat_map-like, range_within}
use Rattle.kt_logs.proofs.Shared.{surviving_tuples, survivors_run, survivors_order, survivors_bags}
use Rattle.kt_history.proofs.Shared.{CausesComeFirst-from_well_formed}
use Rattle.kt_state.specs.Node.{Body, IsWorker, IsShard, Live}
use Rattle.kt_scenario.specs.Scene.{is_shard}
use Rattle.kt_model.specs.State.{State, node}
use Rattle.kt_model.specs.Asks.{setting_of}
use Rattle.kt_model.specs.Headline.{bag_in, bag_of, all_bags, IsNothingLost, HasOneRun}
use Rattle.kt_model.proofs.Plans.{IsAlive}
use Rattle.kt_model.specs.Like.{IsBodyLike}
use Rattle.kt_model.proofs.Sound.{IsSound}
use Rattle.kt_model.proofs.ActLeaves.{alive_like}

pub one_run : (s : State) → IsSound s → HasOneRun s
one_run s sound =
    let causes = CausesComeFirst-from_well_formed s.history sound.well_formed in record {
      well_formed = sound.well_formed;
      tuples = surviving_tuples s.history;
      one_run = survivors_run (setting_of s.scene) s.history causes sound.legal;
      in_order = survivors_order (setting_of s.scene) s.history causes sound.well_formed sound.legal;
    }

-- ---- without a cut nothing is lost, so each act that stands has all of its past

pub nothing_lost : (h : List Note) → HasNoCut h → IsNothingLost h
nothing_lost h none n act = Stands-no_cut h n none act

pub survives_all : (s : State) → IsSound s → IsNothingLost s.history → (n : ℕ) → Stands s.history n → Survives s.history n
survives_all s sound all n stands =
    let own = log-own s.history stands.0 n stands.1 in
    let causes = CausesComeFirst-from_well_formed s.history sound.well_formed in
    λ e past lost. lost (all e (InPast-back s.history causes e (own.act, own.is_act) past).1)

-- ---- where nothing that is remembered has lost anything of its past

-- a shard holds what its log leads to
shard_holds : (s : State) → IsSound s → (r : ℕ) (n : Live) → IsAlive s (ids.Shard r) n
    → IsPermutation (shard_of_acts new_shard (acts_in_log s.history (ids.Shard r))).bag (bag_in n.body)
shard_holds s sound r n alive = by n.body (alive_like s sound (ids.Shard r) n alive)
  where
    by : (b : Body) → IsBodyLike s.scene.scripts (ids.Shard r) (acts_in_log s.history (ids.Shard r)) b
        → IsPermutation (shard_of_acts new_shard (acts_in_log s.history (ids.Shard r))).bag (bag_in b)
    by (IsWorker x) like = absurd like
    by (IsShard y) like = like.bag

-- the shards hold the run's tuples, where no shard is down
pub bags_held : (s : State) → IsSound s → 1 ≤ s.scene.shards → ((n : ℕ) → Stands s.history n → Survives s.history n)
    → ((r : ℕ) → is_shard s.scene (ids.Shard r) ≡ true → (n : Live) × IsAlive s (ids.Shard r) n) → IsPermutation (surviving_tuples s.history) (all_bags s)
bags_held s sound some all alive =
    IsPermutation-trans (surviving_tuples s.history) (shares s.scene.shards (surviving_tuples s.history)) (all_bags s)
    (IsPermutation-sym (shares s.scene.shards (surviving_tuples s.history)) (surviving_tuples s.history)
    (shares-whole s.scene.shards some (surviving_tuples s.history)))
    (flat_map-like (range_with_len 1 s.scene.shards) (λ r. filter (is_home s.scene.shards r) (surviving_tuples s.history)) (λ r. bag_of (node s (ids.Shard r)))
    (λ r c. let w = range_within 1 s.scene.shards r c in one r w.0 (omega (arith, w.1))))
  where
    causes : CausesComeFirst s.history
    causes = CausesComeFirst-from_well_formed s.history sound.well_formed

    marked : (p : NodeId) (n : ℕ) → Contains (log s.history p) n → IsTrue (survives s.history n)
    marked p n c = (survives-decides s.history (CausesComeFirst-from_well_formed s.history sound.well_formed) n).1 (all n (p, c))

    one : (r : ℕ) → 1 ≤ r → r ≤ s.scene.shards → IsPermutation (filter (is_home s.scene.shards r) (surviving_tuples s.history)) (bag_of (node s (ids.Shard r)))
    one r from below =
        let here : is_shard s.scene (ids.Shard r) ≡ true = and_from (nat_le 1 r) (nat_le r s.scene.shards) (le-leb 1 r from) (le-leb r s.scene.shards below) in
        let there = alive r here in
        let share = survivors_bags (setting_of s.scene) s.history causes sound.legal marked r in
        subst (λ l. IsPermutation l (bag_of (node s (ids.Shard r)))) (sym share)
        (subst (λ row. IsPermutation (shard_of_acts new_shard (acts_in_log s.history (ids.Shard r))).bag (bag_of row)) (sym there.1)
        (shard_holds s sound r there.0 there.1))
