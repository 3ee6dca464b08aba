-- What a world goes on from stands for that state.
-- Cited by Resuming.
use Rattle.std.proofs.Common.{◌≡◌, ℕ, ◌-◌, ◌≤◌, Bool, true, false, if◌then◌else◌, List, [], ◌∷◌, length, take, take_all, replicate, Contains, Option, Some}
use Rattle.std.proofs.Common.{None, inl, inr, refl, sym, ap, subst, ◌∙◌, arith}
use Rattle.std.specs.Option.{option_map}
use Rattle.std.proofs.lemmas.Bool.{cases_eq}
use Rattle.kt_tuple.specs.declared.node.NodeId.{NodeId}
use Rattle.kt_tuple.specs.Node.{node_index}
use Rattle.kt_history.specs.declared.note.Act.{Act as Done}
use Rattle.kt_history.specs.declared.note.Note.{Note}
use Rattle.kt_history.specs.declared.note.Note.TheVariants as notes
use Rattle.kt_history.specs.Log.{note_at, log}
use Rattle.kt_history.specs.WellFormed.{CausesComeFirst}
use Rattle.kt_history.proofs.Shared.{CausesComeFirst-from_well_formed, Contains-none, Stands-no_cut, log-own, note_at-within, note_before}
use Rattle.kt_link.specs.Network.{entry_at}
use Rattle.kt_ckpt.specs.declared.ckpt.Ckpt.{Ckpt}
use Rattle.kt_ckpt.specs.Header.{header_of}
use Rattle.kt_store.specs.declared.rows.NodeRow.{NodeRow}
use Rattle.kt_store.specs.declared.rows.Tentative.{Tentative}
use Rattle.kt_store.specs.declared.rows.Verdict.{Verdict as RealVerdict}
use Rattle.kt_store.specs.declared.rows.Verdict.TheVariants as verdicts
use Rattle.kt_store.specs.Content.{Content, next_instance, instance_row, row_of, verdict_on}
use Rattle.kt_state.specs.declared.message.Message.{Message as RealMessage}
use Rattle.kt_state.specs.declared.message.Message.TheVariants as messages
use Rattle.kt_state.specs.Node.{Node as RealNode, Down as IsDown, node_number}
use Rattle.kt_state.specs.Stored.{sent_in, received_in}
use Rattle.kt_scenario.specs.Scene.{SceneModel, IsScene, is_node, are_neighbours}
use Rattle.kt_model.specs.Cut.{acts_held, permanent_by, permanent_of}
use Rattle.kt_model.specs.State.{node, link_place}
use Rattle.kt_model.specs.Resumed.{AllFit, heard_from, sent_to, history_of, down_row, resumed}
use Rattle.kt_model.specs.auxiliary.Ready.{AreNeighbours}
use Rattle.kt_model.proofs.Shared.{at-replicate, length-replicate, down-node, history-no_cut, history-well_formed}
use Rattle.kt_model.proofs.Shared.{all-settled, IsAllSettled, row-settled, settled, settled_content, settled_row}
use Rattle.kt_protocol.specs.Labels.{Label, no_label}
use Rattle.kt_protocol.specs.Logs.{IsIn, here, there, Act, Sends, Hears, Resumes, top_sent, top_heard}
use Rattle.kt_protocol.specs.Machine.{Open, Node}
use Rattle.kt_protocol.specs.Runs.{nothing_done}
use Rattle.kt_protocol.proofs.Shared.{UpTo-eq, IsGrounded, HasGround}
use Rattle.kt_refinement.proofs.Numbers.{named, named-index, index-named, label_of}
use Rattle.kt_refinement.proofs.Reading.{Reads, nothing, found, AreAll}
use Rattle.kt_refinement.proofs.Represents.{carried, LinkIs, Stands, NodeIs, InstanceIs, Represents}
use Rattle.kt_refinement.proofs.Letters.{a_letter}
use Rattle.kt_refinement.proofs.Refined.{peers-are, StandsFor}
use Rattle.kt_refinement.proofs.ResumedMachine.{sent_by, heard_by, ground, resumed_as, other_as, node_as, machine_of, machine-begins}

-- ---- what stands on the ground

abbrev pub OnlyGround : ℕ → NodeId → List Act → Type 0
OnlyGround f p acts = (x g : ℕ) (sent heard : ℕ → Label) → IsIn (Resumes x g sent heard) acts → (x ≡ node_index p) × (g ≡ f)

only-one : {a b : Act} → IsIn a (b ∷ []) → a ≡ b
only-one here = refl
only-one (there i) = elim i [ ]

on-one : (o f : ℕ) (s r : ℕ → Label) (x g : ℕ) (sent heard : ℕ → Label) → IsIn (Resumes x g sent heard) (Resumes o f s r ∷ []) → (x ≡ o) × (g ≡ f)
on-one o f s r x g sent heard i = (ap node_of (only-one i), ap first_of (only-one i)) where
  node_of : Act → ℕ
  node_of (Resumes y k _ _) = y
  node_of a = 0

  first_of : Act → ℕ
  first_of (Resumes y k _ _) = k
  first_of a = 0

talk-one : {o f : ℕ} {s r : ℕ → Label} (a : Act) → Rattle.kt_protocol.specs.Logs.IsTalk a → IsIn a (Resumes o f s r ∷ []) → ⊥
talk-one a talk i = subst Rattle.kt_protocol.specs.Logs.IsTalk (only-one i) talk

-- ---- the world stands for it

no-link : (n : ℕ) (o : Option ℕ) → entry_at {A = List RealMessage} [] (replicate n []) o ≡ []
no-link n None = refl
no-link n (Some k) = at-replicate {A = List RealMessage} [] n k

quiet-link : (q : NodeId) → LinkIs [] q [] []
unfolding carried
quiet-link q = record { carries = refl; cast = λ v c. absurd (Contains-none (messages.Vote v) c) }

empty-log : (xs : List ℕ) → length xs ≡ 0 → xs ≡ []
empty-log [] e = refl
empty-log (x ∷ xs) e = absurd (omega (arith, e))

-- the acts in the log of p are all that p made
log-all : (h : List Note) → CausesComeFirst h → Rattle.kt_history.specs.WellFormed.HasNoCut h → (p : NodeId) → AreAll h p (length h) (log h p)
log-all h causes none p = record {
  told = omega arith;
  below = λ n on. let own = log-own h p n on in let within = note_at-within h n (notes.Act own.act) own.is_act in omega (arith, within.1);
  causes = cause;
  whole = λ n a le is own.
      let stands = Stands-no_cut h n none (a, is) in
      let act = log-own h stands.0 n stands.1 in
      let both : Some (notes.Act a) ≡ Some (notes.Act act.act) = sym is ∙ act.is_act in
      let same : a ≡ act.act = cc (both) in
      subst (λ q. Contains (log h q) n) (sym act.own ∙ ap (λ (b : Done). b.node) (sym same) ∙ own) stands.1;
} where
  cause : (n : ℕ) (a : Done) → Contains (log h p) n → note_at h n ≡ Some (notes.Act a) → a.by ≤ length h
  cause n a on is = elim (cases_eq a.by 0) [
    | inl e ↦ omega (arith, e)
    | inr some ↦
        let act = causes.follows n (notes.Act a) is some in
        let was = note_before h n (notes.Act a) a.by (notes.Act act.0) is act.1 in
        let within = note_at-within h a.by (notes.Act act.0) was.1 in
        omega (arith, within.1)
  ]

module-board : (c : Content) (first : ℕ) (scene : SceneModel) (i : ℕ) → InstanceIs (instance_row c i) i (machine_of scene c first).board
module-board c first scene i = record { check = refl; rollback = refl; check_begun = refl; rollback_begun = refl }

-- a node of the scene that is down, or one that is not in it
stands-node : (scene : SceneModel) → IsScene scene → (c : Content) → AllFit scene c → (p : NodeId)
    → NodeIs scene (history_of scene c) p (log (history_of scene c) p) (down_row scene p)
    (settled_row (Some (next_instance c - 1)) c (row_of c p))
    (verdict_on c (settled_row (Some (next_instance c - 1)) c (row_of c p)).tentative)
    (node_as scene c (length (history_of scene c)) p)
unfolding top_sent top_heard
stands-node scene is c fit p = by (is_node scene p) refl where
  h : List Note
  h = history_of scene c

  f : ℕ
  f = length (history_of scene c)

  row : NodeRow
  row = settled_row (Some (next_instance c - 1)) c (row_of c p)

  all : IsAllSettled c (row_of c p) row
  all = all-settled c (row_of c p) (fit.instance_row p)

  causes : CausesComeFirst h
  causes = CausesComeFirst-from_well_formed h (history-well_formed scene c fit)

  -- nothing tentative counts
  counts : permanent_by (verdict_on c row.tentative) row.tentative row.permanent ≡ permanent_of c p
  counts =
      let P : Option Tentative → Type 0 = λ t. permanent_by (verdict_on c t) t row.permanent ≡ permanent_of c p in
      subst P (sym all.0) (none (verdict_on c None) row.permanent ∙ all.1)
    where
      none : (v : Option RealVerdict) (x : Option Ckpt) → permanent_by v None x ≡ x
      none None x = refl
      none (Some verdicts.Open) x = refl
      none (Some verdicts.Yes) x = refl
      none (Some verdicts.No) x = refl

  Tent : Node → Type 0
  Tent x = Rattle.kt_refinement.proofs.Represents.TentativeIs scene h p (log h p)
      (Rattle.kt_refinement.proofs.Represents.undecided (verdict_on c row.tentative) row.tentative) x.tent x.log

  tent : (x : Node) → x.tent ≡ None → Tent x
  tent x e =
      let T : Option Tentative → Type 0 =
      λ t. Rattle.kt_refinement.proofs.Represents.TentativeIs scene h p (log h p) (Rattle.kt_refinement.proofs.Represents.undecided (verdict_on c t) t) x.tent
      x.log in
      subst T (sym all.0) (bare (verdict_on c None))
    where
      bare : (v : Option RealVerdict)
          → Rattle.kt_refinement.proofs.Represents.TentativeIs scene h p (log h p) (Rattle.kt_refinement.proofs.Represents.undecided v None) x.tent x.log
      bare v = e

  whole : take (acts_held (permanent_of c p)) (log h p) ≡ log h p
  whole = take_all (acts_held (permanent_of c p)) (log h p) (let e = (fit.fits p).placed in omega (arith, e))

  -- the tables of the checkpoint, at a neighbour
  near-sent : (q : NodeId) → AreNeighbours scene p q → label_of (sent_in (option_map header_of (permanent_of c p)) (node_number q))
      ≡ sent_by scene c p (node_index q)
  near-sent q near =
      let P : NodeId → Type 0 = λ r. label_of (sent_in (option_map header_of (permanent_of c p)) (node_number q))
      ≡ (if are_neighbours scene p r then label_of (sent_to c p r) else no_label) in
      subst P (sym (named-index q)) (rw near refl)

  near-heard : (q : NodeId) → AreNeighbours scene p q
      → label_of (received_in (option_map header_of (permanent_of c p)) (node_number q)) ≡ heard_by scene c p (node_index q)
  near-heard q near =
      let P : NodeId → Type 0 = λ r. label_of (received_in (option_map header_of (permanent_of c p)) (node_number q))
      ≡ (if are_neighbours scene p r then label_of (heard_from c p r) else no_label) in
      subst P (sym (named-index q)) (rw near refl)

  Perm : Node → Option Ckpt → Type 0
  Perm x stored = Stands scene h p (log h p) stored x.perm

  by : (b : Bool) → is_node scene p ≡ b → NodeIs scene h p (log h p) (if b then Some IsDown else None) row (verdict_on c row.tentative)
      (if b then resumed_as scene c f p else other_as (row_of c p).incarnation)
  by true own = record {
    log = found (log h p) p f (sent_by scene c p) (heard_by scene c p) (log-all h causes (history-no_cut scene c) p);
    life = all.2;
    state = record { mode = refl; kept = λ q. refl };
    perm = subst (Perm (resumed_as scene c f p)) (sym counts) (record {
      reads = subst (λ (l : List ℕ). Reads h l (ground scene c f p ∷ [])) (sym whole)
          (found (log h p) p f (sent_by scene c p) (heard_by scene c p) (log-all h causes (history-no_cut scene c) p));
      sent = near-sent;
      received = near-heard;
    });
    tent = tent (resumed_as scene c f p) refl;
    lower = λ q near. UpTo-eq (ap (λ (o : Option Ckpt). label_of (sent_in (option_map header_of o) (node_number q))) all.1 ∙ near-sent q near);
  }
  by false out =
      let other = fit.others p out in
      let held : permanent_of c p ≡ None = ap (λ (r : NodeRow). permanent_by (verdict_on c r.tentative) r.tentative r.permanent) other in
      let bare : log h p ≡ [] = empty-log (log h p) ((fit.fits p).placed ∙ ap acts_held held) in
      let x : Node = other_as (row_of c p).incarnation in
      record {
        log = subst (λ (l : List ℕ). Reads h l []) (sym bare) nothing;
        life = all.2;
        state = refl;
        perm = subst (Perm x) (sym counts) (subst (λ (o : Option Ckpt). Perm x o) (sym held) (record {
          reads = nothing;
          sent = λ q near. refl;
          received = λ q near. refl;
        }));
        tent = tent x refl;
        lower = λ q near. UpTo-eq (ap (λ (o : Option Ckpt). label_of (sent_in (option_map header_of o) (node_number q))) (all.1 ∙ held));
      }

pub resumed-represents : (scene : SceneModel) → IsScene scene → (c : Content) → AllFit scene c
    → Represents (settled (resumed scene c)) (machine_of scene c (length (history_of scene c)))
resumed-represents scene is c fit = record {
  nodes = λ p.
      let h = history_of scene c in
      let f : ℕ = length (history_of scene c) in
      let R : NodeRow → Type 0 =
      λ r. NodeIs scene h p (log h p) (down_row scene p) r (verdict_on c r.tentative) (node_as scene c f p) in
      let N : Option RealNode → Type 0 =
      λ n. NodeIs scene h p (log h p) n (row_of (settled_content (Some (next_instance c - 1)) c) p)
      (verdict_on c (row_of (settled_content (Some (next_instance c - 1)) c) p).tentative) (node_as scene c f p) in
      let X : NodeId → Type 0 =
      λ q. NodeIs scene h p (log h p) (node (resumed scene c) p) (row_of (settled_content (Some (next_instance c - 1)) c) p)
      (verdict_on c (row_of (settled_content (Some (next_instance c - 1)) c) p).tentative) (node_as scene c f q) in
      subst X (sym (named-index p)) (subst N (sym (down-node scene is c p))
      (subst R (sym (row-settled (Some (next_instance c - 1)) c p)) (stands-node scene is c fit p)));
  links = λ p q near.
      let f : ℕ = length (history_of scene c) in
      subst (λ (l : List RealMessage). LinkIs l q (node_as scene c f (named (node_index p))).votes []) (sym (no-link _ (link_place scene p q)))
      (subst (λ v. LinkIs [] q v []) (no-votes f (named (node_index p))) (quiet-link q));
  board = λ i. module-board c (length (history_of scene c)) scene i;
  wide = length-replicate {A = List RealMessage} _ [];
} where
  no-votes : (f : ℕ) (p : NodeId) → [] ≡ (node_as scene c f p).votes
  no-votes f p = by (is_node scene p) where
    by : (b : Bool) → [] ≡ (if b then resumed_as scene c f p else other_as (row_of c p).incarnation).votes
    by true = refl
    by false = refl

pub resumed-stands : (scene : SceneModel) → IsScene scene → (c : Content) → AllFit scene c → StandsFor (settled (resumed scene c))
resumed-stands scene is c fit = record {
  state = machine_of scene c (length (history_of scene c));
  reached = record {
    near = peers-are scene;
    start = machine_of scene c (length (history_of scene c));
    begins = machine-begins scene c fit (length (history_of scene c));
    run = nothing_done;
  };
  stands = resumed-represents scene is c fit;
  letters = record {
    first = length (history_of scene c);
    told = omega arith;
    grounds = λ x. subst (λ j. IsGrounded f j (node_as scene c f (named x))) (index-named x) (grounded (named x));
    has = has;
    letter = λ n. a_letter 0 0 no_label;
    fit = record {
      nodes = λ o. record {
        sent = λ by y l i. absurd (silent (named o) (Sends by y l) tt i);
        heard = λ by y l i. absurd
            (silent (named o) (Hears by y l) tt i);
        keeps = λ x m i. absurd (keeps-none (named o) x m i);
      };
      links = λ p q m i. elim i [ ];
    };
  };
} where
  h : List Note
  h = history_of scene c

  f : ℕ
  f = length (history_of scene c)

  one : (p : NodeId) → Rattle.kt_refinement.proofs.Resumed.OnlyGround f p (ground scene c f p ∷ [])
  one p x g sent heard i = on-one (node_index p) f (sent_by scene c p) (heard_by scene c p) x g sent heard i

  grounded : (p : NodeId) → IsGrounded f (node_index p) (node_as scene c f p)
  grounded p = by (is_node scene p) where
    by : (b : Bool) → IsGrounded f (node_index p) (if b then resumed_as scene c f p else other_as (row_of c p).incarnation)
    by true = record { log = one p; perm = one p }
    by false = record { log = λ x g sent heard i. elim i [ ]; perm = λ x g sent heard i. elim i [ ] }

  has : (n : ℕ) (a : Done) → n ≤ f → note_at h n ≡ Some (notes.Act a) → HasGround f (node_index a.node) (node_as scene c f (named (node_index a.node))).perm
  has n a le e =
      subst (λ q. HasGround f (node_index a.node) (node_as scene c f q).perm) (sym (named-index a.node)) (by (is_node scene a.node) refl)
    where
      by : (b : Bool) → is_node scene a.node ≡ b
          → HasGround f (node_index a.node) (if b then resumed_as scene c f a.node else other_as (row_of c a.node).incarnation).perm
      by true own = record { sent = sent_by scene c a.node; heard = heard_by scene c a.node; among = here }
      by false out =
          let held : permanent_of c a.node ≡ None = ap (λ (r : NodeRow). permanent_by (verdict_on c r.tentative) r.tentative r.permanent)
          (fit.others a.node out) in
          let bare : log h a.node ≡ [] = empty-log (log h a.node) ((fit.fits a.node).placed ∙ ap acts_held held) in
          let stands = Stands-no_cut h n (history-no_cut scene c) (a, e) in
          let act = log-own h stands.0 n stands.1 in
          let both : Some (notes.Act a) ≡ Some (notes.Act act.act) = sym e ∙ act.is_act in
          let same : a ≡ act.act = cc (both) in
          let on : Contains (log h a.node) n = subst (λ q. Contains (log h q) n) (sym act.own ∙ ap (λ (b : Done). b.node) (sym same)) stands.1 in
          absurd (Contains-none n (subst (λ (l : List ℕ). Contains l n) bare on))

  silent : (p : NodeId) (a : Act) → Rattle.kt_protocol.specs.Logs.IsTalk a → IsIn a (node_as scene c f p).log → ⊥
  silent p a talk i = by (is_node scene p) i where
    by : (b : Bool) → IsIn a (if b then resumed_as scene c f p else other_as (row_of c p).incarnation).log → ⊥
    by true j = talk-one a talk j
    by false j = elim j [ ]

  keeps-none : (p : NodeId) (x : ℕ) (m : Rattle.kt_protocol.specs.Machine.AppMessage) → IsIn m ((node_as scene c f p).kept x) → ⊥
  keeps-none p x m i = by (is_node scene p) i where
    by : (b : Bool) → IsIn m ((if b then resumed_as scene c f p else other_as (row_of c p).incarnation).kept x) → ⊥
    by true j = elim j [ ]
    by false j = elim j [ ]
