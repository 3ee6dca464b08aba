-- A verdict is written. Yes on a check makes all its tentative checkpoints permanent at once, as does the machine; No gives
-- them up; a rollback's has nothing to do with any.
-- Cited by Decides, Denies.
use Rattle.std.proofs.Common.{◌≡◌, ◌≢◌, ℕ, Bool, true, false, List, Option, Some, None, inl, inr, refl, sym, ap, subst, ◌∙◌}
use Rattle.std.specs.Option.{option_map}
use Rattle.std.proofs.lemmas.Bool.{cases_eq, eq-eqb, ne_eqb}
use Rattle.kt_tuple.specs.declared.node.NodeId.{NodeId}
use Rattle.kt_tuple.specs.Node.{node_index}
use Rattle.kt_history.specs.declared.note.Note.{Note}
use Rattle.kt_ckpt.specs.declared.ckpt.Ckpt.{Ckpt}
use Rattle.kt_ckpt.specs.Header.{header_of}
use Rattle.kt_store.specs.declared.rows.NodeRow.{NodeRow}
use Rattle.kt_store.specs.declared.rows.InstanceRow.{InstanceRow}
use Rattle.kt_store.specs.declared.rows.Purpose.{Purpose}
use Rattle.kt_store.specs.declared.rows.Purpose.TheVariants as purposes
use Rattle.kt_store.specs.declared.rows.Tentative.{Tentative}
use Rattle.kt_store.specs.declared.rows.Verdict.{Verdict as RealVerdict}
use Rattle.kt_store.specs.declared.rows.Verdict.TheVariants as verdicts
use Rattle.kt_store.specs.Content.{Content, instance_row, verdict_of, verdict_on}
use Rattle.kt_store.specs.Changes.{decided}
use Rattle.kt_store.specs.Verdict.{verdict_from}
use Rattle.kt_store.proofs.Shared.{others_decided, decided_is_read}
use Rattle.kt_state.specs.Node.{Node as RealNode, Down as IsDown, Alive, node_number}
use Rattle.kt_state.specs.Stored.{sent_in}
use Rattle.kt_scenario.specs.Scene.{SceneModel}
use Rattle.kt_model.specs.Cut.{permanent_by}
use Rattle.kt_model.specs.auxiliary.Ready.{AreNeighbours}
use Rattle.kt_protocol.specs.Labels.{UpTo}
use Rattle.kt_protocol.specs.Logs.{Act, top_sent}
use Rattle.kt_protocol.specs.Machine.{Check, Rollback, Node, Board, at_instance}
use Rattle.kt_protocol.specs.Steps.{promoted, released}
use Rattle.kt_protocol.proofs.Shared.{UpTo-trans}
use Rattle.kt_refinement.proofs.Numbers.{label_of}
use Rattle.kt_refinement.proofs.Represents.{StateIs, Stands, TentativeIs, undecided, NodeIs, verdict_is, is_for, begun_as, InstanceIs}

-- ---- what is stored of one node

-- what a node's record says of checkpoints
pub record SavedIs (scene : SceneModel) (h : List Note) (p : NodeId) (numbers : List ℕ) (permanent : Option Ckpt) (t : Option Tentative)
    (v : Option RealVerdict)
    (bottom : List Act) (holds : Option ℕ) (acts : List Act) : Type 0 where
  pub perm : Stands scene h p numbers (permanent_by v t permanent) bottom
  pub tent : TentativeIs scene h p numbers (undecided v t) holds acts
  pub lower : (q : NodeId) → AreNeighbours scene p q → UpTo (label_of (sent_in (option_map header_of permanent) (node_number q)))
      (top_sent bottom (node_index q))

verdict-there : (i : ℕ) (agreed : Bool) (c : Content) (j : ℕ) (v : RealVerdict) → j ≡ i → verdict_of c i ≡ Some v
    → verdict_of (decided i agreed c) j ≡ Some (verdict_from agreed)
verdict-there i agreed c j v same e =
    ap (verdict_of (decided i agreed c)) same ∙ ap (option_map (λ (row : InstanceRow). row.verdict)) (decided_is_read i agreed c) ∙ by (instance_row c i) e
  where
    by : (o : Option InstanceRow) → option_map (λ (row : InstanceRow). row.verdict) o ≡ Some v
        → option_map (λ (row : InstanceRow). row.verdict) (option_map (λ (row : InstanceRow). record row { verdict = verdict_from agreed }) o)
        ≡ Some (verdict_from agreed)
    by None e = absurd (cc (e))
    by (Some row) e = refl

verdict-else : (i : ℕ) (agreed : Bool) (c : Content) (j : ℕ) → j ≢ i → verdict_of (decided i agreed c) j ≡ verdict_of c j
verdict-else i agreed c j d = ap (option_map (λ (row : InstanceRow). row.verdict)) (others_decided i agreed c j d)

-- a tentative checkpoint of another instance
tent-else : (scene : SceneModel) (h : List Note) (p : NodeId) (numbers : List ℕ) (i : ℕ) (t : Tentative) (v : Option RealVerdict) (tent : Option ℕ)
    (acts : List Act)
    → t.instance ≢ i → TentativeIs scene h p numbers (undecided v (Some t)) tent acts
    → (released i tent ≡ tent) × ((x : Node) → promoted i tent x ≡ x.perm)
tent-else scene h p numbers i t v tent acts d is = by v is where
  some : tent ≡ Some t.instance → (released i tent ≡ tent) × ((x : Node) → promoted i tent x ≡ x.perm)
  some e =
      let P : Option ℕ → Type 0 = λ o. (released i o ≡ o) × ((x : Node) → promoted i o x ≡ x.perm) in
      subst P (sym e) (rw (ne_eqb t.instance i d) (refl, λ x. refl))

  none : tent ≡ None → (released i tent ≡ tent) × ((x : Node) → promoted i tent x ≡ x.perm)
  none e =
      let P : Option ℕ → Type 0 = λ o. (released i o ≡ o) × ((x : Node) → promoted i o x ≡ x.perm) in
      subst P (sym e) (refl, λ x. refl)

  by : (v : Option RealVerdict) → TentativeIs scene h p numbers (undecided v (Some t)) tent acts → (released i tent ≡ tent) × ((x : Node)
      → promoted i tent x ≡ x.perm)
  by None is = some is.instance
  by (Some verdicts.Open) is = some is.instance
  by (Some verdicts.Yes) is = none is
  by (Some verdicts.No) is = none is

-- Yes on a check
pub saved-yes : (scene : SceneModel) (h : List Note) (p : NodeId) (numbers : List ℕ) (permanent : Option Ckpt) (t : Option Tentative) (c : Content) (i : ℕ)
    (tent : Option ℕ) (x : Node)
    → verdict_of c i ≡ Some verdicts.Open → ((q : ℕ) → UpTo (top_sent x.perm q) (top_sent x.log q))
    → SavedIs scene h p numbers permanent t (verdict_on c t) x.perm tent x.log
    → SavedIs scene h p numbers permanent t (verdict_on (decided i true c) t) (promoted i tent x) (released i tent) x.log
saved-yes scene h p numbers permanent None c i tent x opened longer was =
    let P : Option ℕ → Type 0 = λ o. SavedIs scene h p numbers permanent None None (promoted i o x) (released i o) x.log in
    subst P (sym was.tent) (record { perm = was.perm; tent = refl; lower = was.lower })
saved-yes scene h p numbers permanent (Some t) c i tent x opened longer was = elim (cases_eq t.instance i) [
  | inl same ↦ own same
  | inr d ↦
      let stays = tent-else scene h p numbers i t (verdict_of c t.instance) tent x.log d was.tent in
      let V : Option RealVerdict → Type 0 = λ v. SavedIs scene h p numbers permanent (Some t) v (promoted i tent x) (released i tent) x.log in
      let Q : List Act → Type 0 = λ l. SavedIs scene h p numbers permanent (Some t) (verdict_of c t.instance) l (released i tent) x.log in
      let R : Option ℕ → Type 0 = λ o. SavedIs scene h p numbers permanent (Some t) (verdict_of c t.instance) x.perm o x.log in
      subst V (sym (verdict-else i true c t.instance d)) (subst Q (sym (stays.1 x)) (subst R (sym stays.0) was))
] where
  own : t.instance ≡ i → SavedIs scene h p numbers permanent (Some t) (verdict_of (decided i true c) t.instance) (promoted i tent x) (released i tent) x.log
  own same =
      let V : Option RealVerdict → Type 0 = λ v. SavedIs scene h p numbers permanent (Some t) v (promoted i tent x) (released i tent) x.log in
      let W : Option RealVerdict → Type 0 = λ v. SavedIs scene h p numbers permanent (Some t) v x.perm tent x.log in
      let old = subst W (ap (verdict_of c) same ∙ opened) was in
      let O : Option ℕ → Type 0 = λ o. SavedIs scene h p numbers permanent (Some t) (Some verdicts.Yes) (promoted i o x) (released i o) x.log in
      subst V (sym (verdict-there i true c t.instance verdicts.Open same opened))
      (subst O (sym old.tent.instance) (rw (eq-eqb t.instance i same)
      (record { perm = old.tent.stands; tent = refl; lower = λ q near. UpTo-trans (old.lower q near) (longer (node_index q)) })))

-- No on a check
pub saved-no : (scene : SceneModel) (h : List Note) (p : NodeId) (numbers : List ℕ) (permanent : Option Ckpt) (t : Option Tentative) (c : Content) (i : ℕ)
    (tent : Option ℕ) (perm acts : List Act)
    → verdict_of c i ≡ Some verdicts.Open
    → SavedIs scene h p numbers permanent t (verdict_on c t) perm tent acts
    → SavedIs scene h p numbers permanent t (verdict_on (decided i false c) t) perm (released i tent) acts
saved-no scene h p numbers permanent None c i tent perm acts opened was =
    let P : Option ℕ → Type 0 = λ o. SavedIs scene h p numbers permanent None None perm (released i o) acts in
    subst P (sym was.tent) (record { perm = was.perm; tent = refl; lower = was.lower })
saved-no scene h p numbers permanent (Some t) c i tent perm acts opened was = elim (cases_eq t.instance i) [
  | inl same ↦ own same
  | inr d ↦
      let stays = tent-else scene h p numbers i t (verdict_of c t.instance) tent acts d was.tent in
      let V : Option RealVerdict → Type 0 = λ v. SavedIs scene h p numbers permanent (Some t) v perm (released i tent) acts in
      let R : Option ℕ → Type 0 = λ o. SavedIs scene h p numbers permanent (Some t) (verdict_of c t.instance) perm o acts in
      subst V (sym (verdict-else i false c t.instance d)) (subst R (sym stays.0) was)
] where
  own : t.instance ≡ i → SavedIs scene h p numbers permanent (Some t) (verdict_of (decided i false c) t.instance) perm (released i tent) acts
  own same =
      let V : Option RealVerdict → Type 0 = λ v. SavedIs scene h p numbers permanent (Some t) v perm (released i tent) acts in
      let W : Option RealVerdict → Type 0 = λ v. SavedIs scene h p numbers permanent (Some t) v perm tent acts in
      let old = subst W (ap (verdict_of c) same ∙ opened) was in
      let O : Option ℕ → Type 0 = λ o. SavedIs scene h p numbers permanent (Some t) (Some verdicts.No) perm (released i o) acts in
      subst V (sym (verdict-there i false c t.instance verdicts.Open same opened))
      (subst O (sym old.tent.instance) (rw (eq-eqb t.instance i same) (record { perm = old.perm; tent = refl; lower = old.lower })))

-- a verdict on an instance in which nobody has a tentative checkpoint
pub saved-else : (scene : SceneModel) (h : List Note) (p : NodeId) (numbers : List ℕ) (permanent : Option Ckpt) (t : Option Tentative) (c : Content) (i : ℕ)
    (agreed : Bool) (tent : Option ℕ)
    (perm acts : List Act) → verdict_of c i ≡ Some verdicts.Open → tent ≢ Some i
    → SavedIs scene h p numbers permanent t (verdict_on c t) perm tent acts
    → SavedIs scene h p numbers permanent t (verdict_on (decided i agreed c) t) perm tent acts
saved-else scene h p numbers permanent None c i agreed tent perm acts opened other was = was
saved-else scene h p numbers permanent (Some t) c i agreed tent perm acts opened other was = elim (cases_eq t.instance i) [
  | inl same ↦
      let W : Option RealVerdict → Type 0 = λ v. SavedIs scene h p numbers permanent (Some t) v perm tent acts in
      let old = subst W (ap (verdict_of c) same ∙ opened) was in
      absurd (other (old.tent.instance ∙ ap Some same))
  | inr d ↦
      let V : Option RealVerdict → Type 0 = λ v. SavedIs scene h p numbers permanent (Some t) v perm tent acts in
      subst V (sym (verdict-else i agreed c t.instance d)) was
]

-- ---- nodes

state-settled : (scene : SceneModel) (p : NodeId) (real : Option RealNode) (x : Node) (perm : List Act) (tent : Option ℕ) → StateIs scene p real x
    → StateIs scene p real (record x { perm = perm; tent = tent })
state-settled scene p None x perm tent is = is
state-settled scene p (Some IsDown) x perm tent is = record { mode = is.mode; kept = is.kept }
state-settled scene p (Some (Alive n)) x perm tent is =
    record { phase = is.phase; life = is.life; count = is.count; sent = is.sent; received = is.received; kept = is.kept }

saved-of : (scene : SceneModel) (h : List Note) (p : NodeId) (numbers : List ℕ) (real : Option RealNode) (row : NodeRow) (v : Option RealVerdict) (x : Node)
    → NodeIs scene h p numbers real row v x → SavedIs scene h p numbers row.permanent row.tentative v x.perm x.tent x.log
saved-of scene h p numbers real row v x is = record { perm = is.perm; tent = is.tent; lower = is.lower }

node-settled : (scene : SceneModel) (h : List Note) (p : NodeId) (numbers : List ℕ) (real : Option RealNode) (row : NodeRow) (v w : Option RealVerdict)
    (x : Node)
    (perm : List Act) (tent : Option ℕ)
    → NodeIs scene h p numbers real row v x → SavedIs scene h p numbers row.permanent row.tentative w perm tent x.log
    → NodeIs scene h p numbers real row w (record x { perm = perm; tent = tent })
node-settled scene h p numbers real row v w x perm tent is saved = record {
  log = is.log;
  life = is.life;
  state = state-settled scene p real x perm tent is.state;
  perm = saved.perm;
  tent = saved.tent;
  lower = saved.lower;
}

-- a node of the machine behind a verdict on a check
abbrev pub promoting : ℕ → Node → Node
promoting i x = record x { perm = promoted i x.tent x; tent = released i x.tent }

abbrev pub releasing : ℕ → Node → Node
releasing i x = record x { tent = released i x.tent }

pub node-yes : (scene : SceneModel) (h : List Note) (p : NodeId) (numbers : List ℕ) (real : Option RealNode) (row : NodeRow) (c : Content) (i : ℕ) (x : Node)
    → verdict_of c i ≡ Some verdicts.Open → ((q : ℕ) → UpTo (top_sent x.perm q) (top_sent x.log q))
    → NodeIs scene h p numbers real row (verdict_on c row.tentative) x
    → NodeIs scene h p numbers real row (verdict_on (decided i true c) row.tentative) (promoting i x)
node-yes scene h p numbers real row c i x opened longer is =
    node-settled scene h p numbers real row _ _ x (promoted i x.tent x) (released i x.tent) is
    (saved-yes scene h p numbers row.permanent row.tentative c i x.tent x opened longer (saved-of scene h p numbers real row _ x is))

pub node-no : (scene : SceneModel) (h : List Note) (p : NodeId) (numbers : List ℕ) (real : Option RealNode) (row : NodeRow) (c : Content) (i : ℕ) (x : Node)
    → verdict_of c i ≡ Some verdicts.Open → NodeIs scene h p numbers real row (verdict_on c row.tentative) x
    → NodeIs scene h p numbers real row (verdict_on (decided i false c) row.tentative) (releasing i x)
node-no scene h p numbers real row c i x opened is =
    node-settled scene h p numbers real row _ _ x x.perm (released i x.tent) is
    (saved-no scene h p numbers row.permanent row.tentative c i x.tent x.perm x.log opened (saved-of scene h p numbers real row _ x is))

pub node-else : (scene : SceneModel) (h : List Note) (p : NodeId) (numbers : List ℕ) (real : Option RealNode) (row : NodeRow) (c : Content) (i : ℕ)
    (agreed : Bool) (x : Node)
    → verdict_of c i ≡ Some verdicts.Open → x.tent ≢ Some i → NodeIs scene h p numbers real row (verdict_on c row.tentative) x
    → NodeIs scene h p numbers real row (verdict_on (decided i agreed c) row.tentative) x
node-else scene h p numbers real row c i agreed x opened other is =
    node-settled scene h p numbers real row _ _ x x.perm x.tent is
    (saved-else scene h p numbers row.permanent row.tentative c i agreed x.tent x.perm x.log opened other (saved-of scene h p numbers real row _ x is))

-- ---- the board

is-own : (i : ℕ) (agreed : Bool) (c : Content) (row : InstanceRow) → instance_row c i ≡ Some row → instance_row (decided i agreed c) i
    ≡ Some (record row { verdict = verdict_from agreed })
is-own i agreed c row e = decided_is_read i agreed c ∙ ap (option_map (λ (r : InstanceRow). record r { verdict = verdict_from agreed })) e

-- an instance of a check is none of a rollback
check-row : (row : InstanceRow) (i : ℕ) (B : Board) (agreed : Bool) → B.begun (Check i) ≡ true → InstanceIs (Some row) i B
    → InstanceIs (Some (record row { verdict = verdict_from agreed })) i
    record B { verdict = at_instance (Check i) (verdict_is (verdict_from agreed)) B.verdict }
check-row row i B agreed begun is = by row.purpose is (sym is.check_begun ∙ begun) where
  by : (purpose : Purpose) → InstanceIs (Some record row { purpose = purpose }) i B → is_for purposes.Check purpose ≡ true
      → InstanceIs (Some (record row { purpose = purpose; verdict = verdict_from agreed })) i
      record B { verdict = at_instance (Check i) (verdict_is (verdict_from agreed)) B.verdict }
  by purposes.Check is e =
      record { check = rw (eq-eqb i i refl) refl; rollback = is.rollback; check_begun = is.check_begun; rollback_begun = is.rollback_begun }
  by purposes.Rollback is e = absurd (cc (e))

rollback-row : (row : InstanceRow) (i : ℕ) (B : Board) (agreed : Bool) → B.begun (Rollback i) ≡ true → InstanceIs (Some row) i B
    → InstanceIs (Some (record row { verdict = verdict_from agreed })) i
    record B { verdict = at_instance (Rollback i) (verdict_is (verdict_from agreed)) B.verdict }
rollback-row row i B agreed begun is = by row.purpose is (sym is.rollback_begun ∙ begun) where
  by : (purpose : Purpose) → InstanceIs (Some record row { purpose = purpose }) i B → is_for purposes.Rollback purpose ≡ true
      → InstanceIs (Some (record row { purpose = purpose; verdict = verdict_from agreed })) i
      record B { verdict = at_instance (Rollback i) (verdict_is (verdict_from agreed)) B.verdict }
  by purposes.Rollback is e =
      record { check = is.check; rollback = rw (eq-eqb i i refl) refl; check_begun = is.check_begun; rollback_begun = is.rollback_begun }
  by purposes.Check is e = absurd (cc (e))

row-there : (o : Option InstanceRow) (purpose : Purpose) → begun_as purpose o ≡ true → (row : InstanceRow) × (o ≡ Some row)
row-there None purpose e = absurd (cc (e))
row-there (Some row) purpose e = (row, refl)

pub board-check : (c : Content) (i : ℕ) (agreed : Bool) (B : Board) → B.begun (Check i) ≡ true → ((j : ℕ) → InstanceIs (instance_row c j) j B)
    → (j : ℕ) → InstanceIs (instance_row (decided i agreed c) j) j record B { verdict = at_instance (Check i) (verdict_is (verdict_from agreed)) B.verdict }
board-check c i agreed B begun is j = elim (cases_eq j i) [
  | inl same ↦ subst Own (sym same) own
  | inr d ↦
      let old = is j in
      subst Row (sym (others_decided i agreed c j d)) (record {
        check = rw (ne_eqb j i d) old.check;
        rollback = old.rollback;
        check_begun = old.check_begun;
        rollback_begun = old.rollback_begun;
      })
] where
  new : Board
  new = record B { verdict = at_instance (Check i) (verdict_is (verdict_from agreed)) B.verdict }

  Own : ℕ → Type 0
  Own k = InstanceIs (instance_row (decided i agreed c) k) k new

  Row : Option InstanceRow → Type 0
  Row o = InstanceIs o j new

  own : InstanceIs (instance_row (decided i agreed c) i) i new
  own =
      let row = row-there (instance_row c i) purposes.Check (sym (is i).check_begun ∙ begun) in
      subst (λ o. InstanceIs o i new) (sym (is-own i agreed c row.0 row.1)) (check-row row.0 i B agreed begun (subst (λ o. InstanceIs o i B) row.1 (is i)))

pub board-rollback : (c : Content) (i : ℕ) (agreed : Bool) (B : Board) → B.begun (Rollback i) ≡ true → ((j : ℕ) → InstanceIs (instance_row c j) j B)
    → (j : ℕ) → InstanceIs (instance_row (decided i agreed c) j) j record B { verdict = at_instance (Rollback i) (verdict_is (verdict_from agreed)) B.verdict }
board-rollback c i agreed B begun is j = elim (cases_eq j i) [
  | inl same ↦ subst Own (sym same) own
  | inr d ↦
      let old = is j in
      subst Row (sym (others_decided i agreed c j d)) (record {
        check = old.check;
        rollback = rw (ne_eqb j i d) old.rollback;
        check_begun = old.check_begun;
        rollback_begun = old.rollback_begun;
      })
] where
  new : Board
  new = record B { verdict = at_instance (Rollback i) (verdict_is (verdict_from agreed)) B.verdict }

  Own : ℕ → Type 0
  Own k = InstanceIs (instance_row (decided i agreed c) k) k new

  Row : Option InstanceRow → Type 0
  Row o = InstanceIs o j new

  own : InstanceIs (instance_row (decided i agreed c) i) i new
  own =
      let row = row-there (instance_row c i) purposes.Rollback (sym (is i).rollback_begun ∙ begun) in
      subst (λ o. InstanceIs o i new) (sym (is-own i agreed c row.0 row.1)) (rollback-row row.0 i B agreed begun (subst (λ o. InstanceIs o i B) row.1 (is i)))
