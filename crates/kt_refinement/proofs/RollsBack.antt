-- A participant of a rollback that has Yes: its log is cut, and its permanent checkpoint is loaded. The machine learns Yes.
-- Cited by Acted, BeginsCheck, Decides, Denies, GoesOn, JoinsCheck, Refining, Releases, Restarts, Verdicts.
use Rattle.std.proofs.Common.{◌≡◌, ℕ, suc, ◌+◌, Bool, true, List, [], ◌∷◌, take, Option, Some, None, Ok, refl, sym, ap, subst, ◌∙◌, arith, inl}
use Rattle.std.specs.List.{AllByRecursion}
use Rattle.std.specs.Option.{option_map}
use Rattle.kt_tuple.specs.declared.node.NodeId.{NodeId}
use Rattle.kt_tuple.specs.Node.{node_index}
use Rattle.kt_history.specs.declared.note.Note.{Note}
use Rattle.kt_history.specs.Log.{log}
use Rattle.kt_ckpt.specs.Header.{header_of}
use Rattle.kt_store.specs.declared.rows.NodeRow.{NodeRow}
use Rattle.kt_store.specs.declared.rows.Tentative.{Tentative}
use Rattle.kt_store.specs.declared.rows.Verdict.{Verdict as RealVerdict}
use Rattle.kt_store.specs.declared.rows.Verdict.TheVariants as verdicts
use Rattle.kt_store.specs.Content.{Content, row_of, verdict_of, verdict_on}
use Rattle.kt_vote.specs.Poll.{Poll}
use Rattle.kt_state.specs.declared.message.Message.{Message as RealMessage}
use Rattle.kt_state.specs.declared.message.Message.TheVariants as messages
use Rattle.kt_state.specs.declared.live.Phase.TheVariants as phases
use Rattle.kt_state.specs.Node.{Live, Alive, Down as IsDown, poll_in}
use Rattle.kt_state.specs.Stored.{acts_in}
use Rattle.kt_node.specs.Loading.{load}
use Rattle.kt_state.specs.Loading.{header_in}
use Rattle.kt_node.specs.Learning.{cut_of, restoring_plan, verdict_to}
use Rattle.kt_node.specs.Deciding.{settled}
use Rattle.std.specs.Prelude.{unwrap_or}
use Rattle.kt_scenario.specs.declared.step.Step.{Step}
use Rattle.kt_scenario.specs.declared.step.Step.TheVariants.{Deliver, Learn}
use Rattle.kt_scenario.specs.Step.{owner}
use Rattle.kt_model.specs.auxiliary.Backed.{IsBoards}
use Rattle.kt_model.proofs.Shared.{first-holds}
use Rattle.kt_model.specs.State.{State as World, role_of, view, node}
use Rattle.kt_model.specs.StoreReads.{stored_of, store_reads, to_learn, of_poll}
use Rattle.kt_model.specs.Cut.{acts_held, permanent_by}
use Rattle.kt_model.specs.Effect.{noted}
use Rattle.kt_model.specs.Writing.{content_after}
use Rattle.kt_model.proofs.Shared.{IsAlive, Comes, backed-in, held_header, MayNote, Holds}
use Rattle.kt_protocol.specs.Machine.{Rollback, Yes, Node, State, Vote}
use Rattle.kt_protocol.proofs.Shared.{at-here}
use Rattle.kt_protocol.specs.Steps.{rising, loading, learns_yes, change}
use Rattle.kt_protocol.specs.Runs.{nothing_done, one_more}
use Rattle.kt_protocol.proofs.Shared.{Invariant}
use Rattle.kt_refinement.proofs.Numbers.{peers}
use Rattle.kt_refinement.proofs.Reading.{Reads}
use Rattle.kt_refinement.proofs.Represents.{kept_from, carried, NodeIs, NodeIn, Stands, TentativeIs, undecided, Represents}
use Rattle.kt_refinement.proofs.Frames.{links-idle, CastSo, LinksLead, Refines, owner-in, nodes-at, votes-at, leads-represents}
use Rattle.kt_refinement.proofs.Silence.{IsSilent, links-silent}
use Rattle.kt_refinement.proofs.Links.{to}
use Rattle.kt_refinement.proofs.Known.{rolling-is, voting-begun, rollback-verdict}
use Rattle.kt_refinement.proofs.Loading.{LoadedAs, loaded-as, loaded-sent, loaded-received, log-cut, stands-cut, reads-cut}

-- the permanent checkpoint of a node that has no tentative one is the stored one
pub stored-stands : (s : World) (p : NodeId) (numbers : List ℕ) (acts : List Rattle.kt_protocol.specs.Logs.Act) → (row_of s.content p).tentative ≡ None
    → Stands s.scene s.history p numbers (permanent_by (verdict_on s.content (row_of s.content p).tentative) (row_of s.content p).tentative
    (row_of s.content p).permanent) acts
    → Stands s.scene s.history p numbers (row_of s.content p).permanent acts
stored-stands s p numbers acts none stands =
    let P : Option Tentative → Type 0 = λ t. Stands s.scene s.history p numbers (permanent_by (verdict_on s.content t) t (row_of s.content p).permanent) acts in
    subst P none stands

-- what stands for a node whose permanent checkpoint is loaded in the next incarnation
pub loading-is : (s : World) (c : State) → Represents s c → Holds s → (p : NodeId) (live : Live) (d : Content) → (row_of s.content p).tentative ≡ None
    → load (view s p) (stored_of s.content p) ≡ Ok live
    → NodeIs s.scene (noted s.history (cut_of (role_of s.scene p).id (acts_in (header_in (stored_of s.content p))))) p
    (log (noted s.history (cut_of (role_of s.scene p).id (acts_in (header_in (stored_of s.content p))))) p) (Some (Alive live))
    (record (row_of s.content p) { incarnation = (row_of s.content p).incarnation + 1 })
    (verdict_on d (row_of s.content p).tentative) (rising (loading (c.node (node_index p))))
unfolding kept_from
loading-is s c is h p live d none from =
    subst Numbers (sym (log-cut s.scene s.history p keep)) (record {
      log = subst (λ k. Reads h' (take k numbers) x.perm) (sym same) (reads-cut s.scene s.history cut p numbers row.permanent x.perm stored);
      life = let e = was.life in omega (arith, e);
      state = record {
        phase = subst (λ f. Rattle.kt_refinement.proofs.Represents.PhaseIs f (suc x.life) Rattle.kt_protocol.specs.Machine.Up) (sym loaded.up) refl;
        life = let e = was.life in let f = loaded.incarnation_is in omega (arith, e, f);
        count = loaded.count;
        sent = loaded-sent s.scene h.ready.scene s.history p numbers row.permanent _ live x.perm loaded stored;
        received = loaded-received s.scene h.ready.scene s.history p numbers row.permanent _ live x.perm loaded stored;
        kept = λ q. subst (λ k. [] ≡ kept_from q k) (sym loaded.kept) refl;
      };
      perm = subst Perm (sym none) (stands-cut s.scene s.history cut p numbers keep row.permanent x.perm (omega (arith, same)) stored);
      tent = subst Tent (sym none) (subst Was none was.tent);
      lower = was.lower;
    })
  where
    row : NodeRow
    row = row_of s.content p

    numbers : List ℕ
    numbers = log s.history p

    keep : ℕ
    keep = acts_in (option_map header_of (row_of s.content p).permanent)

    cut : Option Note
    cut = cut_of (role_of s.scene p).id (acts_in (option_map header_of (row_of s.content p).permanent))

    h' : List Note
    h' = noted s.history cut

    x : Node
    x = c.node (node_index p)

    was : NodeIn s.scene s.history s.content p (node s p) (c.node (node_index p))
    was = is.nodes p

    same : keep ≡ acts_held row.permanent
    same = held_header row.permanent

    stored : Stands s.scene s.history p numbers row.permanent x.perm
    stored = stored-stands s p numbers x.perm none was.perm

    loaded : LoadedAs row.permanent (row.incarnation + 1) live
    loaded = loaded-as (view s p) (stored_of s.content p) live from

    Numbers : List ℕ → Type 0
    Numbers l = NodeIs s.scene h' p l (Some (Alive live)) (record row { incarnation = row.incarnation + 1 }) (verdict_on d row.tentative) (rising (loading x))

    Perm : Option Tentative → Type 0
    Perm t = Stands s.scene h' p (take keep numbers) (permanent_by (verdict_on d t) t row.permanent) x.perm

    Tent : Option Tentative → Type 0
    Tent t = TentativeIs s.scene h' p (take keep numbers) (undecided (verdict_on d t) t) x.tent x.perm

    Was : Option Tentative → Type 0
    Was t = TentativeIs s.scene s.history p numbers (undecided (verdict_on s.content t) t) x.tent x.log

-- ---- the leaf, whether the verdict comes or is looked up

rolls : (s : World) (c : State) → Invariant (peers s.scene) c → Represents s c → Holds s
    → (step : Step) (n live : Live) (b : Poll) (send : List (NodeId × RealMessage))
    → IsAlive s (owner step) n → n.phase ≡ phases.Rolling b → verdict_of s.content b.instance ≡ Some verdicts.Yes
    → load (view s (owner step)) (stored_of s.content (owner step)) ≡ Ok live
    → MayNote s.scene s.history (owner step) (restoring_plan (view s (owner step)) (stored_of s.content (owner step)) send live).note
    → LinksLead s step (restoring_plan (view s (owner step)) (stored_of s.content (owner step)) send live) c c.link
    → AllByRecursion (CastSo (c.node (node_index (owner step))).votes) send
    → Refines s step (restoring_plan (view s (owner step)) (stored_of s.content (owner step)) send live) c
rolls s c inv is h step n live b send alive rolling decided from may links cast =
    let plan = restoring_plan (view s (owner step)) (stored_of s.content (owner step)) send live in
    let o = node_index (owner step) in
    let votes = rolling-is s c is (owner step) n b alive rolling in
    let begun = voting-begun (peers s.scene) c inv o (Rollback b.instance) votes.ballot votes.within in
    let none : (row_of s.content (owner step)).tentative ≡ None = backed-in s h.backed (owner step) n (phases.Rolling b) alive rolling in
    let new : Node = rising (loading (c.node o)) in
    let next : State = change o (λ x. rising (loading x)) c in
    record {
      next = next;
      run = one_more nothing_done
          (learns_yes o b.instance votes.ballot votes.within (rollback-verdict s c is b.instance verdicts.Yes begun decided));
      fresh = inl (tt, tt);
      stands = leads-represents s step plan c next is (record {
        nodes = nodes-at s step plan c new is may (λ r d. refl)
            (owner-in s step plan (Some (Alive n)) new alive
            (loading-is s c is h (owner step) live (content_after (owner step) plan.write s.content) none from));
        board = is.board;
        links = links;
        votes = votes-at c o new (λ v i. i);
        cast = subst (λ (x : Node). AllByRecursion (CastSo x.votes) send) (sym (at-here o new c.node)) cast;
      });
    }

pub verdicts-silent : (instance : ℕ) (agreed : Bool) (asked : List NodeId) → AllByRecursion IsSilent (verdict_to instance agreed asked)
verdicts-silent instance agreed [] = tt
verdicts-silent instance agreed (q ∷ asked) = (refl, verdicts-silent instance agreed asked)

pub verdicts-cast : (votes : List Vote) (instance : ℕ) (agreed : Bool) (asked : List NodeId) → AllByRecursion (CastSo votes) (verdict_to instance agreed asked)
verdicts-cast votes instance agreed [] = tt
verdicts-cast votes instance agreed (q ∷ asked) = (tt, verdicts-cast votes instance agreed asked)

pub told_to_roll : (s : World) (c : State) → Invariant (peers s.scene) c → Represents s c → Holds s → (p q : NodeId) (n live : Live) (b : Poll) (instance : ℕ)
    → (comes : Comes s p q (messages.Verdict instance true)) → IsAlive s q n → n.phase ≡ phases.Rolling b → b.instance ≡ instance
    → load (view s q) (store_reads s (Deliver p q)).stored ≡ Ok live
    → MayNote s.scene s.history q (restoring_plan (view s q) (store_reads s (Deliver p q)).stored (verdict_to instance true b.asked) live).note
    → Refines s (Deliver p q) (restoring_plan (view s q) (store_reads s (Deliver p q)).stored (verdict_to instance true b.asked) live) c
told_to_roll s c inv is h p q n live b instance comes alive rolling same from may =
    rolls s c inv is h (Deliver p q) n live b (verdict_to instance true b.asked) alive rolling
    (ap (verdict_of s.content) same ∙ first-holds s p q (messages.Verdict instance true) (IsBoards s.content) comes h.backed.messages) from may
    (links-silent s p q _ c (messages.Verdict instance true) is comes refl (verdicts-silent instance true b.asked))
    (verdicts-cast _ instance true b.asked)

-- what the board says is what was settled
settled-is : (v : Option RealVerdict) → settled v ≡ Some true → v ≡ Some verdicts.Yes
settled-is None e = absurd (cc (e))
settled-is (Some verdicts.Open) e = absurd (cc (e))
settled-is (Some verdicts.Yes) e = refl
settled-is (Some verdicts.No) e = absurd (cc (e))

-- a node that rolls back learns of its ballot's instance
pub learnt-of : (s : World) (p : NodeId) (n : Live) (b : Poll) → IsAlive s p n → n.phase ≡ phases.Rolling b → (store_reads s (Learn p)).verdict
    ≡ verdict_of s.content b.instance
learnt-of s p n b alive rolling =
    ap (λ r. to_learn s.content p (unwrap_or r IsDown)) alive ∙ ap (λ x. of_poll s.content (poll_in x)) rolling

pub learns_to_roll : (s : World) (c : State) → Invariant (peers s.scene) c → Represents s c → Holds s → (p : NodeId) (n live : Live) (b : Poll)
    → IsAlive s p n → n.phase ≡ phases.Rolling b → settled (store_reads s (Learn p)).verdict ≡ Some true
    → load (view s p) (store_reads s (Learn p)).stored ≡ Ok live
    → MayNote s.scene s.history p (restoring_plan (view s p) (store_reads s (Learn p)).stored [] live).note
    → Refines s (Learn p) (restoring_plan (view s p) (store_reads s (Learn p)).stored [] live) c
unfolding carried to
learns_to_roll s c inv is h p n live b alive rolling verdict from may =
    rolls s c inv is h (Learn p) n live b [] alive rolling
    (sym (learnt-of s p n b alive rolling) ∙ settled-is (store_reads s (Learn p)).verdict verdict) from may
    (links-idle s (Learn p) _ c (λ x y e. absurd (cc (e))) (λ r near. refl)) tt
