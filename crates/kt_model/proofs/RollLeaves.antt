-- The plans that load the permanent checkpoint keep a state sound: a node rolls back, and restarts.
-- Cited by StepSound.
use Rattle.std.proofs.Common.{◌≡◌, ℕ, ◌≤◌, ◌∷◌, ◌++◌, false, List, [], length, take, Option, Some, None, Ok, refl, sym, ap, subst, arith}
use Rattle.std.specs.Prelude.{is_some}
use Rattle.std.specs.Option.{option_map}
use Rattle.kt_tuple.specs.declared.node.NodeId.{NodeId}
use Rattle.kt_history.specs.declared.note.Act.{Act}
use Rattle.kt_history.specs.declared.note.Note.TheVariants as notes
use Rattle.kt_history.specs.Closed.{acts_in_log}
use Rattle.kt_ckpt.specs.declared.ckpt.Ckpt.{Ckpt}
use Rattle.kt_ckpt.specs.Header.{header_of}
use Rattle.kt_store.specs.declared.rows.NodeRow.{NodeRow}
use Rattle.kt_store.specs.declared.rows.Tentative.{Tentative}
use Rattle.kt_store.specs.Content.{Content, row_of, verdict_on}
use Rattle.kt_vote.specs.Poll.{Poll}
use Rattle.kt_state.specs.declared.message.Message.{Message}
use Rattle.kt_state.specs.declared.live.Phase.{Phase}
use Rattle.kt_state.specs.declared.live.Phase.TheVariants as phases
use Rattle.kt_state.specs.declared.change.Change.TheVariants as changes
use Rattle.kt_state.specs.declared.plan.Write.{Write}
use Rattle.kt_state.specs.declared.plan.Write.TheVariants as writes
use Rattle.kt_state.specs.Labels.{label_at}
use Rattle.kt_state.specs.Node.{Live, Node, Down, Alive, neighbours}
use Rattle.kt_state.specs.Stored.{acts_in}
use Rattle.kt_node.specs.Loading.{load}
use Rattle.kt_node.specs.Learning.{restoring_plan}
use Rattle.kt_node.specs.Failing.{restarter, restarting_plan}
use Rattle.kt_state.specs.Updating.{changed}
use Rattle.kt_model.specs.State.{State, node, view}
use Rattle.kt_model.specs.StoreReads.{tentative_in, stored_of}
use Rattle.kt_model.specs.Writing.{content_after}
use Rattle.kt_model.specs.auxiliary.Ready.{IsReady}
use Rattle.kt_model.specs.auxiliary.Backed.{IsBacked}
use Rattle.kt_model.proofs.Plans.{IsAlive}
use Rattle.kt_model.specs.Cut.{acts_held}
use Rattle.kt_model.specs.Like.{IsBodyLike, HoldsFront}
use Rattle.kt_model.proofs.Sound.{EndsDown, EndsRolling, IsNodeSound, NodeSoundIn, IsSound, SendWell}
use Rattle.kt_model.proofs.Writes.{own-row}
use Rattle.kt_model.proofs.Noes.{noes-stay}
use Rattle.kt_model.proofs.Applying.{Keeps, sound-later}
use Rattle.kt_model.proofs.StoredFronts.{stored-cut, loaded-front, loaded-whole}
use Rattle.kt_model.proofs.Cutting.{cut_keeps, held_header, IsLoaded, loaded, loaded_so}
use Rattle.kt_model.proofs.FailLeaves.{HasFallen}
use Rattle.kt_model.proofs.Updates.{alive_was, asks_well}
use Rattle.kt_model.proofs.Backs.{backed-in, none-tentative}

-- ---- a participant rolls back

pub rolls_back : (s : State) → IsReady s → IsBacked s → IsSound s → (p : NodeId) (n live : Live) (b : Poll) (send : List (NodeId × Message)) → IsAlive s p n
    → n.phase ≡ phases.Rolling b
    → load (view s p) (stored_of s.content p) ≡ Ok live
    → SendWell s.scene.shards (s.history ++ notes.Cut p (acts_in (option_map header_of (row_of s.content p).permanent)) ∷ []) p send
    → Keeps s p (restoring_plan (view s p) (stored_of s.content p) send live)
rolls_back s ready backed sound p n live b send alive rolling from_store well =
    cut_keeps s p keep (changes.Load live) send (Some writes.Bump) (Alive live) (ap (option_map (changed (changes.Load live))) alive) short well tt (record {
      like =
          subst (λ x. IsBodyLike s.scene.scripts p (take keep acts) x) (sym is.works)
          (subst (λ k. IsBodyLike s.scene.scripts p (take k acts) is.body) (sym held) (loaded-front s.scene ready.scene p acts old is.body is.is_body front));
      kept = loaded_so s.scene.shards (s.history ++ notes.Cut p keep ∷ []) p live.kept is.empty;
      stored =
          stored-cut s.scene p acts keep old (row_of s.content p).tentative _ (omega (arith, held)) short
          (λ fine t e. absurd (cc (backed-in s backed p n (phases.Rolling b) alive rolling, e)))
          (sound.nodes p).stored;
      ends = subst (EndsRolling (length (take keep acts)) (acts_held old)) (sym is.up) tt;
    })
  where
    old : Option Ckpt
    old = (row_of s.content p).permanent

    acts : List Act
    acts = acts_in_log s.history p

    keep : ℕ
    keep = acts_in (option_map header_of (row_of s.content p).permanent)

    held : acts_in (option_map header_of (row_of s.content p).permanent) ≡ acts_held (row_of s.content p).permanent
    held = held_header (row_of s.content p).permanent

    front : HoldsFront s.scene p (acts_in_log s.history p) (row_of s.content p).permanent
    front = (sound.nodes p).stored.permanent

    short : acts_in (option_map header_of (row_of s.content p).permanent) ≤ length (acts_in_log s.history p)
    short = omega (arith, held_header (row_of s.content p).permanent, (sound.nodes p).stored.permanent.short)

    is : IsLoaded s.scene p (row_of s.content p).permanent live
    is = loaded s.scene p (view s p) (stored_of s.content p) live refl from_store

-- ---- a node restarts

-- whose log ends where its permanent checkpoint does
restarting : (s : State) → IsReady s → IsSound s → (p : NodeId) (was : Node) (live : Live) (next : ℕ) → node s p ≡ Some was
    → length (acts_in_log s.history p) ≡ acts_held (row_of s.content p).permanent
    → load (view s p) (stored_of s.content p) ≡ Ok live → Keeps s p (restarting_plan (view s p) (stored_of s.content p) next live)
restarting s ready sound p was live next here long from_store =
    let write : Option Write = Some writes.BeginRestart in
    let c : Content = content_after p write s.content in
    let row : NodeRow = row_of s.content p in
    let acts : List Act = acts_in_log s.history p in
    let b : Poll = restarter (view s p) (stored_of s.content p) next in
    let new : Live = record live { phase = phases.Rolling b } in
    let is : IsLoaded s.scene p row.permanent live = loaded s.scene p (view s p) (stored_of s.content p) live refl from_store in
    let later = sound-later s.scene s.history s.content c None p acts (node s p) row (noes-stay p write s.content tt) (sound.nodes p) in
    let Of : Option Node → Type 0 = λ x. NodeSoundIn s.scene s.history c p (option_map (changed (changes.Load new)) x) in
    let Row : NodeRow → Type 0 = λ r. IsNodeSound s.scene s.history p acts (Some (Alive new)) r.permanent r.tentative (verdict_on c r.tentative) in
    record {
      may = tt;
      sends = asks_well s.scene.shards s.history p next _ (label_at live.sent) (neighbours (view s p).role);
      noes = noes-stay p write s.content tt;
      sound = subst Of (sym here) (subst Row (sym (own-row p write s.content)) (record {
        like =
            subst (IsBodyLike s.scene.scripts p acts) (sym is.works)
            (loaded-whole s.scene ready.scene p acts row.permanent is.body long is.is_body later.stored.permanent);
        kept = loaded_so s.scene.shards s.history p live.kept is.empty;
        stored = later.stored;
        ends = λ none. long;
      }));
    }

pub restarts : (s : State) → IsReady s → IsSound s → (p : NodeId) (live : Live) (next : ℕ) → HasFallen s p → is_some (tentative_in s.content p) ≡ false
    → load (view s p) (stored_of s.content p) ≡ Ok live → Keeps s p (restarting_plan (view s p) (stored_of s.content p) next live)
restarts s ready sound p live next down none from_store =
    let row : NodeRow = row_of s.content p in
    let was = subst (NodeSoundIn s.scene s.history s.content p) down (sound.nodes p) in
    let Taken : Option Tentative → Type 0 =
    λ o. EndsDown (length (acts_in_log s.history p)) (acts_held row.permanent) (verdict_on s.content row.tentative) o in
    restarting s ready sound p Down live next down (subst Taken (none-tentative s p none) was.ends) from_store

pub restarts_anew : (s : State) → IsReady s → IsSound s → (p : NodeId) (n live : Live) (b : Poll) (next : ℕ) → IsAlive s p n → n.phase ≡ phases.Rolling b
    → b.parent ≡ None
    → load (view s p) (stored_of s.content p) ≡ Ok live → Keeps s p (restarting_plan (view s p) (stored_of s.content p) next live)
restarts_anew s ready sound p n live b next alive rolling began from_store =
    let Ends : Phase → Type 0 = EndsRolling (length (acts_in_log s.history p)) (acts_held (row_of s.content p).permanent) in
    restarting s ready sound p (Alive n) live next alive (subst Ends rolling (alive_was s sound p n alive).ends began) from_store
