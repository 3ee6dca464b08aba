-- What was found of a node is what the content of what was found says of it, and how many acts there are of it.
-- Cited by `found::checkpoint_of`, `found::incarnation_of`, `judging::is_fit`, `logs::history_of`, `logs::logs_of`.
use Rattle.std.proofs.Common.{◌≡◌, ◌≢◌, ℕ, zero, suc, ◌+◌, ◌<◌, ◌≤◌, Bool, true, false, cond, List, [], ◌∷◌, ◌++◌, length, map, drop, Option, None, Some, refl}
use Rattle.std.proofs.Common.{sym, ap, ◌∙◌, subst, arith}
use Rattle.std.specs.List.{AllByRecursion, find}
use Rattle.std.specs.Option.{option_map}
use Rattle.std.proofs.lemmas.List.Elements.{All-head, All-tail}
use Rattle.std.specs.Prelude.{All, Err, IfOk, Ok, Result}
use Rattle.std.specs.declared.alloc.AllocError.{AllocError}
use Rattle.kt_history.specs.declared.history.History.{History}
use Rattle.kt_tuple.specs.declared.node.NodeId.{NodeId}
use Rattle.kt_tuple.specs.Node.{is_before, node_eq}
use Rattle.kt_history.specs.Log.{log}
use Rattle.kt_history.proofs.Logs.{log-empty}
use Rattle.kt_ckpt.specs.declared.acts.LogAct.{LogAct}
use Rattle.kt_ckpt.specs.declared.ckpt.Ckpt.{Ckpt}
use Rattle.kt_store.specs.declared.rows.NodeRow.{NodeRow}
use Rattle.kt_store.specs.Content.{Content, row_of, row_or, verdict_on}
use Rattle.kt_scenario.specs.Scene.{SceneModel}
use Rattle.kt_model.specs.Cut.{permanent_by, permanent_length, permanent_of}
use Rattle.kt_model.specs.Placing.{Acts, placed as all_placed}
use Rattle.kt_model.specs.Resumed.{acts_of, all_held, history_of, nodes_of, sum_of}
use Rattle.kt_model.proofs.Together.{scene-rises}
use Rattle.kt_model.proofs.Sums.{AreInOrder, not_before_itself}
use Rattle.kt_resume.specs.declared.found.Found.{Found}
use Rattle.kt_resume.specs.Found.{content_of, row_from}
use Rattle.kt_resume.specs.auxiliary.Found.{found_of}
use Rattle.kt_resume.specs.Turns.{AreApart, AreLeft, count_left, nodes_in}
use Rattle.kt_resume.specs.auxiliary.Next.{log_of}
use Rattle.kt_resume.specs.Unplaced.{Left}

-- ---- what was found of a node

found-row : (found : List Found) (p : NodeId) → find (λ (r : NodeRow). node_eq r.node p) (map row_from found) ≡ option_map row_from (found_of found p)
found-row [] p = refl
found-row (f ∷ later) p = by (node_eq f.node p) (found-row later p) where
  by : (b : Bool) → find (λ (r : NodeRow). node_eq r.node p) (map row_from later) ≡ option_map row_from (found_of later p)
      → cond b (Some (row_from f)) (find (λ (r : NodeRow). node_eq r.node p) (map row_from later)) ≡ option_map row_from (cond b (Some f) (found_of later p))
  by true rest = refl
  by false rest = rest

-- its row is that of what was found
pub row-found : (found : List Found) (p : NodeId) (o : Option Found) → found_of found p ≡ o → row_of (content_of found) p ≡ row_or p (option_map row_from o)
row-found found p o is = ap (row_or p) (found-row found p ∙ ap (option_map row_from) is)

abbrev checkpoint_in : Option Found → Option Ckpt
checkpoint_in None = None
checkpoint_in (Some f) = f.checkpoint

-- what counts as permanent is the checkpoint that was found
pub permanent-found : (found : List Found) (p : NodeId) (o : Option Found) → found_of found p ≡ o → permanent_of (content_of found) p ≡ checkpoint_in o
permanent-found found p o is =
    ap (λ (r : NodeRow). permanent_by (verdict_on (content_of found) r.tentative) r.tentative r.permanent) (row-found found p o is) ∙ by o where
      by : (o : Option Found)
          → permanent_by (verdict_on (content_of found) (row_or p (option_map row_from o)).tentative) (row_or p (option_map row_from o)).tentative
          (row_or p (option_map row_from o)).permanent
          ≡ checkpoint_in o
      by None = refl
      by (Some f) = refl

-- nothing of it is tentative
pub tentative-none : (found : List Found) (p : NodeId) → (row_of (content_of found) p).tentative ≡ None
tentative-none found p = ap (λ (r : NodeRow). r.tentative) (row-found found p (found_of found p) refl) ∙ by (found_of found p) where
  by : (o : Option Found) → (row_or p (option_map row_from o)).tentative ≡ None
  by None = refl
  by (Some f) = refl

-- ---- the logs that are to be placed

pub logs-nodes : (acts : Acts) (nodes : List NodeId) → nodes_in (map (log_of acts) nodes) ≡ nodes
logs-nodes acts [] = refl
logs-nodes acts (p ∷ later) = ap (λ l. p ∷ l) (logs-nodes acts later)

pub logs-left : (acts : Acts) (nodes : List NodeId) → AreLeft acts [] (map (log_of acts) nodes)
logs-left acts [] = tt
logs-left acts (p ∷ later) = (ap (λ (l : List ℕ). drop (length l) (acts p)) (sym (log-empty p)), logs-left acts later)

pub logs-count : (c : Content) (nodes : List NodeId) → All (λ p. length (acts_of c p) ≡ permanent_length c p) nodes
    → count_left (map (log_of (acts_of c)) nodes) ≡ all_held c nodes
unfolding count_left sum_of
logs-count c [] long = refl
logs-count c (p ∷ later) long =
    let Q : NodeId → Type 0 = λ q. length (acts_of c q) ≡ permanent_length c q in
    let here : length (acts_of c p) ≡ permanent_length c p = All-head Q p later long in
    let rest = logs-count c later (All-tail Q p later long) in
    omega (arith, here, rest)

-- nodes that rise are apart
pub apart-rising : (nodes : List NodeId) → AreInOrder nodes → AreApart nodes
apart-rising [] rise = tt
apart-rising (p ∷ later) rise = (others later rise.0, apart-rising later rise.1) where
  others : (xs : List NodeId) → AllByRecursion (λ q. is_before p q ≡ true) xs → AllByRecursion (λ q. q ≢ p) xs
  others [] all = tt
  others (q ∷ xs) all = (
    λ e. let back : is_before p p ≡ true = subst (λ n. is_before p n ≡ true) e all.0 in
        let apart : true ≡ false = sym back ∙ not_before_itself p in
        absurd (cc (apart)),
    others xs all.1,
  )

pub log-is : (acts : Acts) (p : NodeId) (x : Left) → x.node ≡ p → x.acts ≡ acts p → x ≡ log_of acts p
log-is acts p x node same = λ i. record { node = node i; acts = same i }

-- what is placed of all logs is the history of what was found
pub placed-history : (scene : SceneModel) (c : Content) (nodes : List NodeId) (logs : List Left) (r : Result History AllocError) → nodes ≡ nodes_of scene
    → logs ≡ map (log_of (acts_of c)) nodes → All (λ p. length (acts_of c p) ≡ permanent_length c p) nodes
    → IfOk r (λ (h : History). (acts : Acts) → AreApart (nodes_in logs) → AreLeft acts [] logs → h.notes ≡ all_placed acts (nodes_in logs) (count_left logs) [])
    → IfOk r (λ (h : History). h.notes ≡ history_of scene c)
placed-history scene c nodes logs (Err e) all is long placed = placed
placed-history scene c nodes logs (Ok h) all is long placed =
    let names : nodes_in logs ≡ nodes_of scene = ap nodes_in is ∙ logs-nodes (acts_of c) nodes ∙ all in
    let count : count_left logs ≡ all_held c (nodes_of scene) = ap count_left is ∙ logs-count c nodes long ∙ ap (all_held c) all in
    placed (acts_of c) (subst AreApart (sym names) (apart-rising (nodes_of scene) (scene-rises scene)))
    (subst (AreLeft (acts_of c) []) (sym is) (logs-left (acts_of c) nodes))
    ∙ ap (λ (l : List NodeId). all_placed (acts_of c) l (count_left logs) []) names
    ∙ ap (λ n. all_placed (acts_of c) (nodes_of scene) n []) count
