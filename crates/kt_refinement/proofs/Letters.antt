-- Each message of the machine has its own letter: by the number of the act that sent it, who sent it, to whom, and under
-- which label. What is sent, heard, under way or kept by one act is one message.
-- Cited by Agreeing, Forcing, Frames, Hearing, LearnsFound, Refined, Resumed, Sending.
use Rattle.std.proofs.Common.{◌≡◌, ◌≢◌, ◌⊎◌, ◌<◌, ◌≤◌, ℕ, Bool, List, [], ◌∷◌, length, Option, Some, None, inl, inr, refl, sym, ap, ◌∙◌, arith, length-append}
use Rattle.kt_tuple.specs.Node.{node_index}
use Rattle.kt_history.specs.declared.note.Act.{Act as Done}
use Rattle.kt_history.specs.declared.note.Note.{Note}
use Rattle.kt_history.specs.declared.note.Note.TheVariants as notes
use Rattle.kt_history.specs.Log.{note_at}
use Rattle.kt_history.proofs.Shared.{note_at-old, note_at-within}
use Rattle.kt_model.specs.Effect.{noted}
use Rattle.kt_protocol.specs.Labels.{Label, at}
use Rattle.kt_protocol.specs.Machine.{State, next_label}
use Rattle.kt_protocol.specs.Steps.{Step, sends}
use Rattle.kt_protocol.specs.Runs.{AreNeighbours, Run, nothing_done, one_more}
use Rattle.kt_protocol.proofs.Shared.{at-here, at-else, Invariant, stays_through, IsGrounded, HasGround, grounded-through, run-has}
use Rattle.kt_refinement.proofs.Reading.{IsSaying}
use Rattle.kt_refinement.proofs.Mail.{Saying, AllFit, IsQuiet, fit-more, quiet-fits, sends-fits}

-- ---- letters

pub record Letter : Type 0 where
  pub from : ℕ
  pub to : ℕ
  pub label : Label

abbrev pub a_letter : ℕ → ℕ → Label → Letter
a_letter p q l = record { from = p; to = q; label = l }

-- this number names an act of the node p that sends a message
pub record IsSaid (h : List Note) (by p : ℕ) : Type 0 where
  pub act : Done
  pub is_act : note_at h by ≡ Some (notes.Act act)
  pub own : node_index act.node ≡ p
  pub saying : IsSaying act.what

-- the message of the act `by` is the one from p to q under this label
pub record Fits (h : List Note) (first : ℕ) (letter : ℕ → Letter) (by p q : ℕ) (l : Label) : Type 0 where
  pub is : letter by ≡ a_letter p q l
  pub said : IsSaid h by p
  -- it was sent since the nodes were resumed
  pub since : first < by

-- the letters, and the acts up to `first`: of each node its permanent checkpoint has them all
pub record Lettered (h : List Note) (c : State) : Type 0 where
  pub first : ℕ
  pub told : first ≤ length h
  pub grounds : (x : ℕ) → IsGrounded first x (c.node x)
  pub has : (n : ℕ) (a : Done) → n ≤ first → note_at h n ≡ Some (notes.Act a) → HasGround first (node_index a.node) (c.node (node_index a.node)).perm
  pub letter : ℕ → Letter
  pub fit : AllFit (Fits h first letter) c

-- two messages of one act are one
pub same-to : {h : List Note} {first : ℕ} {letter : ℕ → Letter} (by p q r : ℕ) (l m : Label) → Fits h first letter by p q l → Fits h first letter by p r m
    → q ≡ r
same-to by p q r l m f g = ap (λ (x : Letter). x.to) (sym f.is ∙ g.is)

pub same-label : {h : List Note} {first : ℕ} {letter : ℕ → Letter} (by p q r : ℕ) (l m : Label) → Fits h first letter by p q l → Fits h first letter by p r m
    → l ≡ m
same-label by p q r l m f g = ap (λ (x : Letter). x.label) (sym f.is ∙ g.is)

-- ---- the history grows

said-later : (h : List Note) (next : Option Note) (by p : ℕ) → IsSaid h by p → IsSaid (noted h next) by p
said-later h None by p s = s
said-later h (Some note) by p s = record {
  act = s.act;
  is_act = note_at-old h (note ∷ []) by (note_at-within h by (notes.Act s.act) s.is_act).1 ∙ s.is_act;
  own = s.own;
  saying = s.saying;
}

fits-later : (h : List Note) (next : Option Note) (first : ℕ) (letter : ℕ → Letter) (by p q : ℕ) (l : Label) → Fits h first letter by p q l
    → Fits (noted h next) first letter by p q l
fits-later h next first letter by p q l f = record { is = f.is; said = said-later h next by p f.said; since = f.since }

-- a number that no note had yet
fits-besides : (h : List Note) (next : Option Note) (first : ℕ) (letter : ℕ → Letter) (new : ℕ) (x : Letter) → length h < new
    → (by p q : ℕ) (l : Label) → Fits h first letter by p q l → Fits (noted h next) first (at new x letter) by p q l
fits-besides h next first letter new x above by p q l f =
    let within = note_at-within h by (notes.Act f.said.act) f.said.is_act in
    let apart : by ≢ new = λ e. omega (arith, above, within.1, e) in record {
      is = at-else new x letter by apart ∙ f.is;
      said = said-later h next by p f.said;
      since = f.since;
    }

-- ---- runs

-- the run sends nothing
abbrev pub Quiet : {peer : ℕ → ℕ → Bool} {s t : State} → Run peer s t → Type 0
Quiet nothing_done = Unit {0}
Quiet (one_more r x) = Quiet r × IsQuiet x

-- the step sends the message of the act that is noted next
abbrev pub SaysNext : {peer : ℕ → ℕ → Bool} {s t : State} → List Note → Option Note → Step peer s t → Type 0
SaysNext h next (sends o y by u up) = (length h < by) × IsSaid (noted h next) by o
SaysNext h next x = ⊥

abbrev pub SaysLast : {peer : ℕ → ℕ → Bool} {s t : State} → List Note → Option Note → Run peer s t → Type 0
SaysLast h next nothing_done = ⊥
SaysLast h next (one_more r x) = Quiet r × SaysNext h next x

-- the run sends nothing, or last the message of the act that is noted next
abbrev pub Fresh : {peer : ℕ → ℕ → Bool} {s t : State} → List Note → Option Note → Run peer s t → Type 0
Fresh h next r = Quiet r ⊎ SaysLast h next r

quiet-through : {peer : ℕ → ℕ → Bool} → AreNeighbours peer → {s t : State} → Invariant peer s → (P : Saying) → AllFit P s → (r : Run peer s t) → Quiet r
    → AllFit P t
quiet-through near inv P fit nothing_done quiet = fit
quiet-through {peer} near inv P fit (one_more {t} {u} r x) quiet =
    quiet-fits P peer t u (stays_through peer near inv r) (quiet-through near inv P fit r quiet.0) x quiet.1

-- the history grows, and what is known of its beginning stays
told-later : (h : List Note) (next : Option Note) (first : ℕ) → first ≤ length h → first ≤ length (noted h next)
told-later h None first le = le
told-later h (Some note) first le = let e = length-append h (note ∷ []) in omega (arith, e, le)

was-noted : (h : List Note) (next : Option Note) (n : ℕ) → n ≤ length h → note_at (noted h next) n ≡ note_at h n
was-noted h None n le = refl
was-noted h (Some note) n le = note_at-old h (note ∷ []) n le

has-through : {peer : ℕ → ℕ → Bool} → AreNeighbours peer → {s t : State} → Invariant peer s → (h : List Note) (next : Option Note)
    → (letters : Lettered h s) → Run peer s t → (n : ℕ) (a : Done) → n ≤ letters.first → note_at (noted h next) n ≡ Some (notes.Act a)
    → HasGround letters.first (node_index a.node) (t.node (node_index a.node)).perm
has-through near inv h next letters r n a le is =
    run-has near inv letters.first (node_index a.node)
    (letters.has n a le (sym (was-noted h next n (let f = letters.told in omega (arith, le, f))) ∙ is)) r

says-next : (peer : ℕ → ℕ → Bool) (h : List Note) (next : Option Note) (first : ℕ) (letter : ℕ → Letter) (s t : State) → first ≤ length h
    → AllFit (Fits h first letter) s → (x : Step peer s t) → SaysNext h next x
    → (letter : ℕ → Letter) × AllFit (Fits (noted h next) first letter) t
says-next peer h next first letter s t told fit (sends o y by u up) says =
    let x = a_letter o y (next_label (s.node o)) in
    let new : ℕ → Letter = at by x letter in (
      new,
      sends-fits (Fits (noted h next) first new) s o y by
          (fit-more (Fits h first letter) (Fits (noted h next) first new) s (fits-besides h next first letter by x says.0) fit)
          (record { is = at-here by x letter; said = says.1; since = let above = says.0 in omega (arith, above, told) }),
    )
says-next peer h next first letter s t told fit _ says = absurd says

letters-by : {peer : ℕ → ℕ → Bool} → AreNeighbours peer → {s t : State} → Invariant peer s → (h : List Note) (next : Option Note) (first : ℕ)
    (letter : ℕ → Letter) → first ≤ length h → AllFit (Fits h first letter) s → (r : Run peer s t) → Fresh h next r
    → (new : ℕ → Letter) × AllFit (Fits (noted h next) first new) t
letters-by near {t = t} inv h next first letter told fit r (inl quiet) = (
  letter,
  fit-more (Fits h first letter) (Fits (noted h next) first letter) t (fits-later h next first letter)
      (quiet-through near inv (Fits h first letter) fit r quiet),
)
letters-by near inv h next first letter told fit nothing_done (inr says) = absurd says
letters-by {peer} near inv h next first letter told fit (one_more {t} {u} r x) (inr says) =
    says-next peer h next first letter t u told (quiet-through near inv (Fits h first letter) fit r says.0) x says.1

pub letters-through : {peer : ℕ → ℕ → Bool} → AreNeighbours peer → {s t : State} → Invariant peer s → (h : List Note) (next : Option Note) → Lettered h s
    → (r : Run peer s t) → Fresh h next r → Lettered (noted h next) t
letters-through near inv h next letters r fresh =
    let new = letters-by near inv h next letters.first letters.letter letters.told letters.fit r fresh in record {
      first = letters.first;
      told = told-later h next letters.first letters.told;
      grounds = grounded-through letters.grounds r;
      has = has-through near inv h next letters r;
      letter = new.0;
      fit = new.1;
    }
