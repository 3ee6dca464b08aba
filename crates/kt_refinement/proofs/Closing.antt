-- Where each message that the machine's acts have heard is one that they have sent, the acts of the history that they
-- stand for have with each act all of its past.
-- Cited by Agreeing, Forcing.
use Rattle.std.proofs.Common.{◌≡◌, ◌≢◌, ℕ, ◌≤◌, refl, List, [], ◌∷◌, ◌++◌, take, Contains, Some, inl, inr, sym, ap, subst, ◌∙◌, arith}
use Rattle.std.proofs.lemmas.List.Elements.{Contains-append_left, Contains-append_right}
use Rattle.kt_tuple.specs.declared.node.NodeId.{NodeId}
use Rattle.kt_tuple.specs.Node.{node_index}
use Rattle.kt_tuple.proofs.Shared.{node_index-injective}
use Rattle.kt_history.specs.declared.note.Act.{Act as Done}
use Rattle.kt_history.specs.declared.note.Note.{Note}
use Rattle.kt_history.specs.declared.note.Note.TheVariants as notes
use Rattle.kt_history.specs.Log.{note_at, before, log, IsAct}
use Rattle.kt_history.specs.WellFormed.{CausesComeFirst}
use Rattle.kt_history.specs.Past.{InPast, StoodBefore, IsCauseOf, itself, in_log, by_cause}
use Rattle.kt_history.proofs.Shared.{slice_get-from_Contains, slice_get-take, slice_get-take_below, Contains-from_slice_get, Contains-from_take, Contains-here}
use Rattle.kt_history.proofs.Shared.{log-own, log-stack, note_before}
use Rattle.kt_model.specs.Cut.{IsInCut, IsCausallyClosed}
use Rattle.kt_protocol.specs.Labels.{Label}
use Rattle.kt_protocol.specs.Logs.{IsIn, here, there, Act, Sends, Hears, Resumes}
use Rattle.kt_refinement.proofs.Numbers.{named, index-named}
use Rattle.kt_refinement.proofs.Mail.{in-parts}
use Rattle.kt_refinement.proofs.Reading.{Reads, nothing, found, one, WasHeard, IsFound, IsKnown, was_heard, was_before, AllTalk}
use Rattle.kt_refinement.proofs.Acting.{cause-heard}

-- ---- what was sent stands

-- what the machine's acts sent was sent by an act that stands among the numbers
pub sent-stands : {h : List Note} {numbers : List ℕ} {acts : List Act} → Reads h numbers acts → (b y : ℕ) (l : Label) → IsIn (Sends b y l) acts
    → Contains numbers b
sent-stands {h} nothing b y l i = elim i [ ]
sent-stands {h} (found numbers p first sent heard all) b y l (there i) = elim i [ ]
sent-stands {h} (one {numbers} {acts} n new reads act) b y l i = elim (in-parts new acts (Sends b y l) i) [
  | inl now ↦
      let P : ℕ → Type 0 = λ k. Contains (numbers ++ n ∷ []) k in
      subst P (sym (act.sends b y l now)) (Contains-append_right numbers (n ∷ []) n (Contains-here n []))
  | inr old ↦ Contains-append_left numbers (n ∷ []) b (sent-stands reads b y l old)
]

talk-apart : (acts : List Act) → AllTalk acts → (x g : ℕ) (sent heard : ℕ → Label) → IsIn (Resumes x g sent heard) acts → ⊥
talk-apart [] all x g sent heard i = elim i [ ]
talk-apart (Sends _ _ _ ∷ acts) all x g sent heard (there i) = talk-apart acts all.1 x g sent heard i
talk-apart (Hears _ _ _ ∷ acts) all x g sent heard (there i) = talk-apart acts all.1 x g sent heard i
talk-apart (Resumes _ _ _ _ ∷ acts) all x g sent heard i = absurd all.0

abbrev resumed_node : Act → ℕ
resumed_node (Resumes x g _ _) = x
resumed_node a = 0

abbrev resumed_first : Act → ℕ
resumed_first (Resumes x g _ _) = g
resumed_first a = 0

-- the acts of a node before it was resumed stand among the numbers
pub before-stands : {h : List Note} {numbers : List ℕ} {acts : List Act} → Reads h numbers acts → (p : NodeId) (first : ℕ) (sent heard : ℕ → Label)
    → IsIn (Resumes (node_index p) first sent heard) acts → (n : ℕ) (a : Done) → n ≤ first → note_at h n ≡ Some (notes.Act a) → a.node ≡ p
    → Contains numbers n
before-stands {h} nothing p first sent heard i n a le is own = elim i [ ]
before-stands {h} (found numbers q g s r all) p first sent heard i n a le is own = elim (in-parts (Resumes (node_index q) g s r ∷ []) [] _ i) [
  | inl now ↦
      let same : Resumes (node_index p) first sent heard ≡ Resumes (node_index q) g s r = only now in
      let node : p ≡ q = node_index-injective p q (ap resumed_node same) in
      let number : first ≡ g = ap resumed_first same in
      all.whole n a (omega (arith, le, number)) is (own ∙ node)
  | inr none ↦ elim none [ ]
] where
  only : {x y : Act} → IsIn x (y ∷ []) → x ≡ y
  only here = refl
  only (there i) = elim i [ ]
before-stands {h} (one {numbers} {acts} m new reads act) p first sent heard i n a le is own =
    elim (in-parts new acts (Resumes (node_index p) first sent heard) i) [
      | inl now ↦ absurd (talk-apart new act.talks (node_index p) first sent heard now)
      | inr old ↦ Contains-append_left numbers (m ∷ []) n (before-stands reads p first sent heard old n a le is own)
    ]

-- ---- the cut

-- an act that stood before one of the first so many is one of them
taken-before : (h : List Note) (p : NodeId) (k g f : ℕ) → Contains (take k (log h p)) f → Contains (log (before h f) p) g → Contains (take k (log h p)) g
taken-before h p k g f among stood =
    let j = slice_get-from_Contains (take k (log h p)) f among in
    let at_j = slice_get-take k (log h p) j.0 f j.1 in
    let front : log (before h f) p ≡ take j.0 (log h p) = log-stack h p j.0 f at_j.1 in
    let i = slice_get-from_Contains (take j.0 (log h p)) g (subst (λ (l : List ℕ). Contains l g) front stood) in
    let at_i = slice_get-take j.0 (log h p) i.0 g i.1 in
    Contains-from_slice_get (take k (log h p)) i.0 g (slice_get-take_below k (log h p) i.0 (omega (arith, at_i.0, at_j.0)) ∙ at_i.1)

-- the machine's acts of each node, and the first acts of its log that they stand for
pub closed-by : (h : List Note) (cut : NodeId → ℕ) (acts : ℕ → List Act) → ((p : NodeId) → Reads h (take (cut p) (log h p)) (acts (node_index p)))
    → ((p q by : ℕ) (l : Label) → IsIn (Hears by p l) (acts q) → IsIn (Sends by q l) (acts p))
    → ((q : NodeId) (g : ℕ) → IsFound g (acts (node_index q)) → IsAct h g → IsInCut h cut g) → CausesComeFirst h → IsCausallyClosed h cut
closed-by h cut acts reads sent early causes e f past among = by past among where
  stood-in : (g f : ℕ) → StoodBefore h g f → IsInCut h cut f → IsInCut h cut g
  stood-in g f s c =
      let own = log-own h c.0 f (Contains-from_take (cut c.0) (log h c.0) f c.1) in
      let both : Some (notes.Act s.act) ≡ Some (notes.Act own.act) = sym s.is_act ∙ own.is_act in
      let same : s.act ≡ own.act = cc (both) in
      let P : NodeId → Type 0 = λ q. Contains (log (before h f) q) g in
      (c.0, taken-before h c.0 (cut c.0) g f c.1 (subst P (ap (λ (a : Done). a.node) same ∙ own.own) s.stood))

  cause-in : (g f : ℕ) → IsCauseOf h g f → IsInCut h cut f → IsInCut h cut g
  cause-in g f s c =
      let some : s.act.by ≢ 0 = λ z. s.some (sym s.names ∙ z) in
      by_way (cause-heard (reads c.0) f s.act c.1 s.is_act some)
    where
      heard_so : WasHeard s.act.by (acts (node_index c.0)) → IsInCut h cut g
      heard_so heard =
          let from : IsIn (Sends s.act.by (node_index c.0) heard.label) (acts heard.from) =
          sent heard.from (node_index c.0) s.act.by heard.label heard.among in
          let x = named heard.from in
          let A : ℕ → Type 0 = λ k. IsIn (Sends s.act.by (node_index c.0) heard.label) (acts k) in
          let stands = sent-stands (reads x) s.act.by (node_index c.0) heard.label (subst A (sym (index-named heard.from)) from) in
          let G : ℕ → Type 0 = λ k. Contains (take (cut x) (log h x)) k in
          (x, subst G s.names stands)

      by_way : IsKnown s.act.by (acts (node_index c.0)) → IsInCut h cut g
      by_way (was_heard heard) = heard_so heard
      by_way (was_before first) =
          let cause : IsAct (before h f) s.act.by = causes.follows f (notes.Act s.act) s.is_act (λ z. s.some (sym s.names ∙ z)) in
          let act : IsAct h s.act.by = (cause.0, (note_before h f (notes.Act s.act) s.act.by (notes.Act cause.0) s.is_act cause.1).1) in
          subst (λ k. IsInCut h cut k) s.names (early c.0 s.act.by first act)

  by : {f : ℕ} → InPast h e f → IsInCut h cut f → IsInCut h cut e
  by itself c = c
  by (in_log {g} {f} s past) c = by past (stood-in g f s c)
  by (by_cause {g} {f} s past) c = by past (cause-in g f s c)
