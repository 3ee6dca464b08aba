-- A permanent checkpoint that is loaded, and the log that is cut to it.
-- Cited by Checking, Falling, Restarts, RollsBack.
use Rattle.std.proofs.Common.{◌≡◌, ℕ, zero, suc, ◌+◌, ◌<◌, ◌≤◌, List, [], map, take, take-take}
use Rattle.std.proofs.Common.{Option, Some, None, Result, Ok, Err, refl, sym, ap, subst, ◌∙◌, arith}
use Rattle.std.specs.Option.{option_map}
use Rattle.kt_tuple.specs.declared.node.NodeId.{NodeId}
use Rattle.kt_history.specs.declared.note.Note.{Note}
use Rattle.kt_history.specs.Log.{log}
use Rattle.kt_history.proofs.Shared.{log-own_cut}
use Rattle.kt_shard.specs.Table.{at}
use Rattle.kt_ckpt.specs.declared.ckpt.Ckpt.{Ckpt}
use Rattle.kt_ckpt.specs.Header.{header_of}
use Rattle.kt_state.specs.declared.live.Phase.TheVariants as phases
use Rattle.kt_state.specs.declared.refusal.Refusal.{Refusal}
use Rattle.kt_state.specs.declared.stored.Stored.{Stored}
use Rattle.kt_state.specs.Labels.{numbers, no_label, label_at, listed_at, table_size}
use Rattle.kt_state.specs.Node.{Body, Live, node_number}
use Rattle.kt_state.specs.State.{body_at}
use Rattle.kt_state.specs.Stored.{sent_in, received_in, fits}
use Rattle.kt_state.specs.Loading.{loaded_by, header_in}
use Rattle.kt_node.specs.Loading.{load}
use Rattle.kt_node.specs.Learning.{cut_of}
use Rattle.kt_node.specs.View.{View}
use Rattle.kt_scenario.specs.Scene.{SceneModel, IsScene}
use Rattle.kt_model.specs.State.{role_of}
use Rattle.kt_model.specs.Cut.{acts_held}
use Rattle.kt_model.specs.Effect.{noted}
use Rattle.kt_model.proofs.Shared.{load-passed, at-replicate, neighbour-place, role-id}
use Rattle.kt_protocol.specs.Logs.{Act, top_sent, top_heard}
use Rattle.kt_refinement.proofs.Numbers.{label_of}
use Rattle.kt_refinement.proofs.Reading.{Reads, reads-later}
use Rattle.kt_refinement.proofs.Represents.{LabelsAre, Stands}

-- ---- tables

pub at-numbers : {A : Type 0} (f : ℕ → A) (d : A) (from n k : ℕ) → k < n → at d (map f (numbers from n)) k ≡ f (from + k)
unfolding numbers
at-numbers f d from zero k lt = absurd (omega (arith, lt))
at-numbers f d from (suc n) zero lt = let e : from ≡ from + 0 = omega arith in ap f e
at-numbers f d from (suc n) (suc k) lt = let e : suc from + k ≡ from + suc k = omega arith in at-numbers f d (suc from) n k (omega (arith, lt)) ∙ ap f e

none-and : (k : ℕ) → 0 + k ≡ k
none-and k = omega arith

-- what was loaded, label by label
pub record LoadedAs (stored : Option Ckpt) (incarnation : ℕ) (live : Live) : Type 0 where
  pub up : live.phase ≡ phases.Up
  pub incarnation_is : live.incarnation ≡ incarnation
  pub count : live.count ≡ 0
  pub kept : live.kept ≡ []
  pub sent : (k : ℕ) → k < table_size → label_at live.sent k ≡ sent_in (option_map header_of stored) k
  pub received : (k : ℕ) → k < table_size → label_at live.received k ≡ received_in (option_map header_of stored) k

by-body : (stored : Option Ckpt) (incarnation : ℕ) (r : Result Body Refusal) (live : Live) → loaded_by stored incarnation r ≡ Ok live
    → LoadedAs stored incarnation live
by-body stored incarnation (Err refusal) live e = absurd (cc (e))
by-body None incarnation (Ok body) live e =
    let same : Rattle.kt_state.specs.Loading.loaded_from None incarnation body ≡ live = cc (e) in
    subst (λ l. LoadedAs None incarnation l) same (record {
      up = refl;
      incarnation_is = refl;
      count = refl;
      kept = refl;
      sent = λ k lt. at-replicate no_label table_size k;
      received = λ k lt. at-replicate no_label table_size k;
    })
by-body (Some c) incarnation (Ok body) live e =
    let same : Rattle.kt_state.specs.Loading.loaded_from (Some c) incarnation body ≡ live = cc (e) in
    subst (λ l. LoadedAs (Some c) incarnation l) same (record {
      up = refl;
      incarnation_is = refl;
      count = refl;
      kept = refl;
      sent = λ k lt. at-numbers (listed_at c.sent) no_label 0 table_size k lt ∙ ap (listed_at c.sent) (none-and k);
      received = λ k lt. at-numbers (listed_at c.received) no_label 0 table_size k lt ∙ ap (listed_at c.received) (none-and k);
    })

pub loaded-as : (v : View) (stored : Stored) (live : Live) → load v stored ≡ Ok live → LoadedAs stored.permanent (stored.incarnation + 1) live
loaded-as v stored live e =
    by-body stored.permanent (stored.incarnation + 1) (body_at v.role stored.permanent) live
    (load-passed (fits v.role v.line_len (header_in stored)) (loaded_by stored.permanent (stored.incarnation + 1) (body_at v.role stored.permanent)) live e).1

-- the tables of what was loaded are the permanent checkpoint's
pub loaded-sent : (scene : SceneModel) → IsScene scene
    → (h : List Note) (p : NodeId) (numbers : List ℕ) (stored : Option Ckpt) (incarnation : ℕ) (live : Live) (acts : List Act)
    → LoadedAs stored incarnation live → Stands scene h p numbers stored acts → LabelsAre scene p (label_at live.sent) top_sent acts
loaded-sent scene is h p numbers stored incarnation live acts loaded stands q near =
    ap label_of (loaded.sent (node_number q) (neighbour-place scene is p q near)) ∙ stands.sent q near

pub loaded-received : (scene : SceneModel) → IsScene scene
    → (h : List Note) (p : NodeId) (numbers : List ℕ) (stored : Option Ckpt) (incarnation : ℕ) (live : Live) (acts : List Act)
    → LoadedAs stored incarnation live → Stands scene h p numbers stored acts → LabelsAre scene p (label_at live.received) top_heard acts
loaded-received scene is h p numbers stored incarnation live acts loaded stands q near =
    ap label_of (loaded.received (node_number q) (neighbour-place scene is p q near)) ∙ stands.received q near

-- ---- logs that are cut

-- the log of p behind the cut of its own
pub log-cut : (scene : SceneModel) (h : List Note) (p : NodeId) (keep : ℕ) → log (noted h (cut_of (role_of scene p).id keep)) p ≡ take keep (log h p)
log-cut scene h p keep = ap (λ q. log (noted h (cut_of q keep)) p) (role-id scene p) ∙ log-own_cut h p keep

-- a checkpoint of no more acts than are left stands as it stood
pub stands-cut : (scene : SceneModel) (h : List Note) (note : Option Note) (p : NodeId) (numbers : List ℕ) (keep : ℕ) (stored : Option Ckpt) (acts : List Act)
    → acts_held stored ≤ keep → Stands scene h p numbers stored acts → Stands scene (noted h note) p (take keep numbers) stored acts
stands-cut scene h note p numbers keep stored acts low s =
    let R : List ℕ → Type 0 = λ xs. Reads (noted h note) xs acts in record {
      reads = subst R (sym (take-take (acts_held stored) keep numbers low)) (reads-later note s.reads);
      sent = s.sent;
      received = s.received;
    }

-- the log that is left is the checkpoint's
pub reads-cut : (scene : SceneModel) (h : List Note) (note : Option Note) (p : NodeId) (numbers : List ℕ) (stored : Option Ckpt) (acts : List Act)
    → Stands scene h p numbers stored acts → Reads (noted h note) (take (acts_held stored) numbers) acts
reads-cut scene h note p numbers stored acts s = reads-later note s.reads
