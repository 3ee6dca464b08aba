-- The services of a resumed world are those that the permanent checkpoints hold, in some order.
-- Cited by other crates.
use Rattle.std.proofs.Common.{◌≡◌, ℕ, List, Contains, take, sym, subst}
use Rattle.std.specs.Prelude.{IsPermutation, IsTrue}
use Rattle.kt_tuple.specs.declared.node.NodeId.{NodeId}
use Rattle.kt_history.specs.declared.note.Act.{Act}
use Rattle.kt_history.specs.Closed.{acts_in_log, own}
use Rattle.kt_history.specs.Log.{log}
use Rattle.kt_history.specs.Survival.{marked_acts, services, services_of, survives}
use Rattle.kt_history.proofs.Sense.{Survives-no_cut}
use Rattle.kt_history.proofs.Shared.{log-own, survives-closed, survives-decides}
use Rattle.kt_logs.proofs.Renamed.{AreAs}
use Rattle.kt_logs.proofs.SameServices.{same-services}
use Rattle.kt_logs.proofs.Survive.{all_marked}
use Rattle.kt_model.specs.Cut.{IsCausallyClosed, is_in_cut, part, permanent_length}
use Rattle.kt_model.specs.Reached.{IsReached}
use Rattle.kt_model.specs.Resumed.{history_of}
use Rattle.kt_model.specs.State.{State}
use Rattle.kt_model.proofs.Cuts.{cut_acts}
use Rattle.kt_model.proofs.Lasting.{within-reached}
use Rattle.kt_model.proofs.NeverUnfit.{front}
use Rattle.kt_model.proofs.Renumbered.{IsNew, log-as}

pub resumed_services : (s : State) → IsReached s → IsCausallyClosed s.history (permanent_length s.content)
    → IsPermutation (part s.history (permanent_length s.content)) (services (history_of s.scene s.content))
unfolding part services
resumed_services s is closed =
    same-services (IsNew s.history (history_of s.scene s.content) (permanent_length s.content) (front s is closed))
    (marked_acts (is_in_cut s.history (permanent_length s.content)) s.history)
    (marked_acts (survives (history_of s.scene s.content)) (history_of s.scene s.content)) each
  where
    all-survive : (q : NodeId) (n : ℕ) → Contains (log (history_of s.scene s.content) q) n → IsTrue (survives (history_of s.scene s.content) n)
    all-survive q n among =
        let f = front s is closed in
        let its = log-own (history_of s.scene s.content) q n among in
        (survives-decides (history_of s.scene s.content) f.causes n).1
        (Survives-no_cut (history_of s.scene s.content) f.causes f.acts n (its.act, its.is_act))

    each : (q : NodeId) → AreAs (IsNew s.history (history_of s.scene s.content) (permanent_length s.content) (front s is closed))
        (own q (marked_acts (is_in_cut s.history (permanent_length s.content)) s.history))
        (own q (marked_acts (survives (history_of s.scene s.content)) (history_of s.scene s.content)))
    each q =
        let f = front s is closed in
        let R = IsNew s.history (history_of s.scene s.content) (permanent_length s.content) f in
        let old = cut_acts s.history (permanent_length s.content) closed q (within-reached s is q) in
        let new = all_marked (history_of s.scene s.content) (survives (history_of s.scene s.content))
        (survives-closed (history_of s.scene s.content) f.causes) q (all-survive q) in
        subst (λ (l : List Act). AreAs R l (own q (marked_acts (survives (history_of s.scene s.content)) (history_of s.scene s.content)))) (sym old)
        (subst (λ (l : List Act). AreAs R (take (permanent_length s.content q) (acts_in_log s.history q)) l) (sym new)
        (log-as s.history (history_of s.scene s.content) (permanent_length s.content) f q))
