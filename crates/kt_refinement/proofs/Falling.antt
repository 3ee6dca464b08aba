-- A node fails, or is down and learns what became of its tentative checkpoint.
-- Cited by LearnsDown, LearnsFound, Refining.
use Rattle.std.proofs.Common.{◌≡◌, ℕ, List, take, take_all, Option, Some, None, refl, sym, subst, ◌∙◌, arith, inl}
use Rattle.std.specs.Option.{option_map}
use Rattle.kt_tuple.specs.declared.node.NodeId.{NodeId}
use Rattle.kt_tuple.specs.Node.{node_index}
use Rattle.kt_history.specs.Log.{log}
use Rattle.kt_ckpt.specs.declared.ckpt.Ckpt.{Ckpt}
use Rattle.kt_ckpt.specs.Header.{header_of}
use Rattle.kt_store.specs.declared.rows.Tentative.{Tentative}
use Rattle.kt_store.specs.declared.rows.Verdict.{Verdict as RealVerdict}
use Rattle.kt_store.specs.declared.rows.Verdict.TheVariants as verdicts
use Rattle.kt_store.specs.Content.{row_of, verdict_on}
use Rattle.kt_state.specs.declared.plan.Plan.{Plan}
use Rattle.kt_state.specs.Node.{Live, Alive, Down as IsDownNode}
use Rattle.kt_node.specs.Failing.{fail_plan, log_left}
use Rattle.kt_node.specs.Learning.{cut_of}
use Rattle.kt_scenario.specs.declared.step.Step.TheVariants.{Fail}
use Rattle.kt_model.specs.State.{State as World, role_of, view, node}
use Rattle.kt_model.specs.StoreReads.{store_reads}
use Rattle.kt_model.specs.StoreReads as tellings
use Rattle.kt_model.specs.Cut.{acts_held, permanent_by}
use Rattle.kt_model.specs.Effect.{noted}
use Rattle.kt_model.proofs.Shared.{IsAlive, held_header, MayNote}
use Rattle.kt_protocol.specs.Machine.{Node, State}
use Rattle.kt_protocol.specs.Steps.{falling, cutting, fails, fails_holding, change}
use Rattle.kt_protocol.specs.Runs.{nothing_done, one_more}
use Rattle.kt_refinement.proofs.Reading.{Reads, reads-later}
use Rattle.kt_refinement.proofs.Represents.{carried, NodeIs, NodeIn, TentativeIs, undecided, IsTentative, Represents}
use Rattle.kt_refinement.proofs.Links.{to}
use Rattle.kt_refinement.proofs.Frames.{Refines, node-later, owner-in, nodes-at, votes-at, links-idle, leads-represents}
use Rattle.kt_refinement.proofs.Loading.{log-cut, stands-cut}

-- ---- where the log is cut

-- what is left of the log: the permanent checkpoint's acts, or all where a tentative one is not decided
pub data Left (v : Option RealVerdict) (t : Option Tentative) (permanent : Option Ckpt) (keep : ℕ) : Type 0 where
  permanent_left : undecided v t ≡ None → keep ≡ acts_held (permanent_by v t permanent) → Left v t permanent keep
  all_left : (held : Tentative) → undecided v t ≡ Some held → keep ≡ held.checkpoint.line_len → Left v t permanent keep

pub left : (v : Option RealVerdict) (t : Option Tentative) (permanent : Option Ckpt)
    → Left v t permanent (log_left v (option_map header_of permanent) (option_map tellings.header_in t))
left None None permanent = permanent_left refl (held_header permanent)
left (Some verdicts.Open) None permanent = permanent_left refl (held_header permanent)
left (Some verdicts.Yes) None permanent = permanent_left refl (held_header permanent)
left (Some verdicts.No) None permanent = permanent_left refl (held_header permanent)
left None (Some t) permanent = all_left t refl refl
left (Some verdicts.Open) (Some t) permanent = all_left t refl refl
left (Some verdicts.Yes) (Some t) permanent = permanent_left refl refl
left (Some verdicts.No) (Some t) permanent = permanent_left refl (held_header permanent)

-- ---- a node that is down behind a cut

-- to its permanent checkpoint
pub fallen-is : (s : World) (c : State) → Represents s c → (p : NodeId) (keep : ℕ)
    → undecided (verdict_on s.content (row_of s.content p).tentative) (row_of s.content p).tentative ≡ None
    → keep ≡ acts_held (permanent_by (verdict_on s.content (row_of s.content p).tentative) (row_of s.content p).tentative (row_of s.content p).permanent)
    → NodeIs s.scene (noted s.history (cut_of (role_of s.scene p).id keep)) p (log (noted s.history (cut_of (role_of s.scene p).id keep)) p) (Some IsDownNode)
    (row_of s.content p) (verdict_on s.content (row_of s.content p).tentative) (falling (cutting (c.node (node_index p))))
fallen-is s c is p keep none same =
    let row = row_of s.content p in
    let v = verdict_on s.content (row_of s.content p).tentative in
    let x = c.node (node_index p) in
    let numbers = log s.history p in
    let cut = cut_of (role_of s.scene p).id keep in
    let was = is.nodes p in
    let N : List ℕ → Type 0 = λ l. NodeIs s.scene (noted s.history cut) p l (Some IsDownNode) row v (falling (cutting x)) in
    let R : ℕ → Type 0 = λ k. Reads (noted s.history cut) (take k numbers) x.perm in
    let T : Option Tentative → Type 0 = λ o. TentativeIs s.scene (noted s.history cut) p (take keep numbers) o x.tent x.perm in
    let W : Option Tentative → Type 0 = λ o. TentativeIs s.scene s.history p numbers o x.tent x.log in
    subst N (sym (log-cut s.scene s.history p keep)) (record {
      log = subst R (sym same) (reads-later cut was.perm.reads);
      life = was.life;
      state = record { mode = refl; kept = λ q. refl };
      perm = stands-cut s.scene s.history cut p numbers keep (permanent_by v row.tentative row.permanent) x.perm (omega (arith, same)) was.perm;
      tent = subst T (sym none) (subst W none was.tent);
      lower = was.lower;
    })

-- with a tentative checkpoint, which ends where the log ends
pub holding-is : (s : World) (c : State) → Represents s c → (p : NodeId) (keep : ℕ) (held : Tentative)
    → undecided (verdict_on s.content (row_of s.content p).tentative) (row_of s.content p).tentative ≡ Some held → keep ≡ held.checkpoint.line_len
    → NodeIs s.scene (noted s.history (cut_of (role_of s.scene p).id keep)) p (log (noted s.history (cut_of (role_of s.scene p).id keep)) p) (Some IsDownNode)
    (row_of s.content p) (verdict_on s.content (row_of s.content p).tentative) (falling (c.node (node_index p)))
holding-is s c is p keep held some same =
    let row = row_of s.content p in
    let v = verdict_on s.content (row_of s.content p).tentative in
    let x = c.node (node_index p) in
    let numbers = log s.history p in
    let cut = cut_of (role_of s.scene p).id keep in
    let was = is.nodes p in
    let N : List ℕ → Type 0 = λ l. NodeIs s.scene (noted s.history cut) p l (Some IsDownNode) row v (falling x) in
    let W : Option Tentative → Type 0 = λ o. TentativeIs s.scene s.history p numbers o x.tent x.log in
    let tentative : IsTentative s.scene s.history p numbers held x.tent x.log = subst W some was.tent in
    let whole = tentative.whole in
    let all : take keep numbers ≡ numbers = take_all keep numbers (omega (arith, same, whole)) in
    subst N (sym (log-cut s.scene s.history p keep ∙ all))
    (node-later s.scene s.history cut p numbers (Some IsDownNode) row v (falling x) (record {
      log = was.log;
      life = was.life;
      state = record { mode = refl; kept = λ q. refl };
      perm = was.perm;
      tent = was.tent;
      lower = was.lower;
    }))

-- ---- the leaves

pub fails_so : (s : World) (c : State) → Represents s c → (p : NodeId) (n : Live) → IsAlive s p n
    → MayNote s.scene s.history p
    (fail_plan (view s p) (log_left (store_reads s (Fail p)).verdict (store_reads s (Fail p)).permanent (store_reads s (Fail p)).tentative)).note
    → Refines s (Fail p) (fail_plan (view s p) (log_left (store_reads s (Fail p)).verdict (store_reads s (Fail p)).permanent
    (store_reads s (Fail p)).tentative)) c
unfolding carried to
fails_so s c is p n alive may =
    by (left (verdict_on s.content (row_of s.content p).tentative) (row_of s.content p).tentative (row_of s.content p).permanent) where
      keep : ℕ
      keep = log_left (store_reads s (Fail p)).verdict (store_reads s (Fail p)).permanent (store_reads s (Fail p)).tentative

      plan : Plan
      plan = fail_plan (view s p) keep

      was : NodeIn s.scene s.history s.content p (node s p) (c.node (node_index p))
      was = is.nodes p

      by : Left (verdict_on s.content (row_of s.content p).tentative) (row_of s.content p).tentative (row_of s.content p).permanent keep
          → Refines s (Fail p) plan c
      by (permanent_left none same) =
          let o = node_index p in
          let new : Node = falling (cutting (c.node o)) in
          let next : State = change o (λ x. falling (cutting x)) c in
          let W : Option Tentative → Type 0 = λ t. TentativeIs s.scene s.history p (log s.history p) t (c.node o).tent (c.node o).log in
          record {
            next = next;
            run = one_more nothing_done (fails o (subst W none was.tent));
            fresh = inl (tt, tt);
            stands = leads-represents s (Fail p) plan c next is (record {
              nodes = nodes-at s (Fail p) plan c new is may (λ r d. refl) (owner-in s (Fail p) plan (Some (Alive n)) new alive
                  (fallen-is s c is p keep none same));
              board = is.board;
              links = links-idle s (Fail p) plan c (λ x y e. absurd (cc (e))) (λ r near. refl);
              votes = votes-at c o new (λ v i. i);
              cast = tt;
            });
          }
      by (all_left held some same) =
          let o = node_index p in
          let new : Node = falling (c.node o) in
          let next : State = change o falling c in
          let W : Option Tentative → Type 0 = λ t. TentativeIs s.scene s.history p (log s.history p) t (c.node o).tent (c.node o).log in
          let tentative : IsTentative s.scene s.history p (log s.history p) held (c.node o).tent (c.node o).log = subst W some was.tent in
          record {
            next = next;
            run = one_more nothing_done (fails_holding o held.instance tentative.instance);
            fresh = inl (tt, tt);
            stands = leads-represents s (Fail p) plan c next is (record {
              nodes = nodes-at s (Fail p) plan c new is may (λ r d. refl) (owner-in s (Fail p) plan (Some (Alive n)) new alive
                  (holding-is s c is p keep held some same));
              board = is.board;
              links = links-idle s (Fail p) plan c (λ x y e. absurd (cc (e))) (λ r near. refl);
              votes = votes-at c o new (λ v i. i);
              cast = tt;
            });
          }
