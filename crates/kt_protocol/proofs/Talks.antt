-- Steps on underlying messages.
-- Cited by Keeps, Main, Starts.
use Rattle.std.proofs.Common.{◌≡◌, ◌≢◌, ◌⊎◌, ℕ, suc, Bool, IsTrue, List, [], ◌∷◌, ◌++◌, Option, None, inl, inr, refl, sym, ap, subst, ◌∙◌, append_assoc}
use Rattle.std.proofs.Common.{append-nil, arith}
use Rattle.std.proofs.lemmas.Bool.{cases_eq, eq-eqb, ne_eqb}
use Rattle.kt_protocol.specs.Labels.{Label, Under, UpTo}
use Rattle.kt_protocol.specs.Logs.{IsIn, here, there, Act, Sends, Hears, Resumes, top_sent, top_heard, more}
use Rattle.kt_protocol.specs.Machine.{Instance, Check, Rollback, Mode, Up, AppMessage, Message, App, Ask, Member, Mark, Node, Board, State, instance_of}
use Rattle.kt_protocol.specs.Machine.{next_label}
use Rattle.kt_protocol.specs.Steps.{change, pull, push, only, sending, hearing}
use Rattle.kt_protocol.specs.Runs.{AreNeighbours}
use Rattle.kt_protocol.proofs.Labels.{UpTo-refl, Under-UpTo}
use Rattle.kt_protocol.proofs.Logs.{sent-here, sent-else, heard-here, heard-else, heard-sent, sent-heard}
use Rattle.kt_protocol.proofs.Streams.{in-append, in-one, in-cons, apps, apps-append, Rising, Rising-map, Rising-push, Rising-head, Asked, Asked-app}
use Rattle.kt_protocol.proofs.Invariant.{Core, core, Carried, sent, undone, Caused, made, lost, cut_soon, Behind, Calm, Cover, asked, waiting, voted, Away}
use Rattle.kt_protocol.proofs.Invariant.{Meant, FineAsk, top_of, Pair, Way, Local, Invariant}
use Rattle.kt_protocol.proofs.Frames.{lift, Later-refl, Trees-idle, Token-map}
use Rattle.kt_protocol.proofs.Cases.{some-none, up-voting, up-gone, push-else, push-here, lift_pull}

pub up-tent : {m : Mode} {tent : Option ℕ} → m ≡ Up → Way m tent → tent ≡ None
up-tent {tent = tent} e w = subst (λ k. Way k tent) e w

pub meant-up : {X : Type 0} (i : Instance) (c : Core) (q : ℕ) (l : Label) → c.mode ≡ Up → c.tent ≡ None → Meant i c q l → X
meant-up (Check k) c q l up none m = some-none (sym m.0 ∙ none)
meant-up (Rollback k) c q l up none m = absurd (subst (λ m. Away m k) up m.0)

pub fine-up : {B : Board} {J : List Member} {S : List Mark} {c d : Core} {q : ℕ} {i : Instance} {l : Label} {z : ℕ}
    → c.mode ≡ Up → c.tent ≡ None → FineAsk B J S c q i l z → FineAsk B J S d q i l z
fine-up {c = c} {q = q} {i} {l} up none f =
    record { member = f.member; unsaid = f.unsaid; meant = λ e. meant-up i c q l up none (f.meant e) }

abbrev act_by : Act → ℕ
act_by (Sends b x l) = b
act_by (Hears b x l) = b
act_by (Resumes _ _ _ _) = 0

abbrev act_peer : Act → ℕ
act_peer (Sends b x l) = x
act_peer (Hears b x l) = x
act_peer (Resumes _ _ _ _) = 0

abbrev act_label : Act → Label
act_label (Sends b x l) = l
act_label (Hears b x l) = l
act_label (Resumes _ _ _ _) = record { life = 0; count = 0 }

pub app-ask : {m : AppMessage} {i : Instance} {l : Label} {c : ℕ} {X : Type 0} → Ask i l c ≡ App m → X
app-ask e = absurd (subst IsAsk e tt) where
  IsAsk : Message → Type 0
  IsAsk (Ask i l c) = Unit {0}
  IsAsk (App m) = ⊥

-- o sends to q
sends_to : {B : Board} {p q : ℕ} {np nq : Node} {kept : List AppMessage} {link : List Message} (by : ℕ)
    → np.mode ≡ Up → np.tent ≡ None → Pair B p q np nq kept link
    → Pair B p q (sending by q np) nq kept (link ++ App record { by = by; label = next_label np } ∷ [])
sends_to {B} {p} {q} {np} {nq} {kept} {link} by up none o = record {
  agree = o.agree;
  caused = λ b l i. elim (o.caused b l i) [ made j ↦ made (there j) | lost u ↦ up-gone up u.gone | cut_soon s ↦ cut_soon s ];
  chain = subst (λ ms. Rising (Carried (core new) q) (next_label new) (top_heard nq.log p) ms) place
      (Rising-push m refl (omega arith) (sent here) old);
  asks = λ i l c j. fine-up up none (o.asks i l c (elim (in-append link (App m ∷ []) j) [ inl k ↦ k | inr k ↦ app-ask (in-one k) ]));
  token = λ i b e s. up-voting up e;
  votes = o.votes;
  cover = λ k e s. some-none (sym e ∙ none);
} where
  new : Node
  new = sending by q np

  m : AppMessage
  m = record { by = by; label = next_label np }

  place : (kept ++ apps link) ++ m ∷ [] ≡ kept ++ apps (link ++ App m ∷ [])
  place = append_assoc kept (apps link) (m ∷ []) ∙ ap (λ t. kept ++ t) (sym (apps-append link (App m ∷ [])))

  old : Rising (Carried (core new) q) (next_label np) (top_heard nq.log p) (kept ++ apps link)
  old = Rising-map (UpTo-refl (next_label np)) (λ k i c. elim c [ sent j ↦ sent (there j) | undone u ↦ up-gone up u.gone ]) o.chain

-- o sends to another
sends_else : {B : Board} {p q : ℕ} {np nq : Node} {kept : List AppMessage} {link : List Message} (by y : ℕ)
    → np.mode ≡ Up → np.tent ≡ None → Pair B p q np nq kept link → Pair B p q (sending by y np) nq kept link
sends_else {B} {p} {q} {np} {nq} {kept} {link} by y up none o = record {
  agree = o.agree;
  caused = λ b l i. elim (o.caused b l i) [ made j ↦ made (there j) | lost u ↦ up-gone up u.gone | cut_soon s ↦ cut_soon s ];
  chain = Rising-map (omega arith) (λ k i c. elim c [ sent j ↦ sent (there j) | undone u ↦ up-gone up u.gone ]) o.chain;
  asks = λ i l c j. fine-up up none (o.asks i l c j);
  token = λ i b e s. up-voting up e;
  votes = o.votes;
  cover = λ k e s. some-none (sym e ∙ none);
}

-- what a node that is Up covers, it covers after it acted, if it heard nothing above the label
pub cover-up : (i : Instance) (c d : Core) (p : ℕ) (top : Label) → c.tent ≡ None → c.perm ≡ d.perm → c.mode ≡ d.mode
    → (UpTo (top_heard c.log p) top → UpTo (top_heard d.log p) top) → Cover i c p top → Cover i d p top
cover-up (Check k) c d p top none e m f (inl u) = inl (subst (λ t. UpTo top (top_sent t p)) e u)
cover-up (Check k) c d p top none e m f (inr u) = some-none (sym u.0 ∙ none)
cover-up (Rollback k) c d p top none e m f (inl u) = inl (ap instance_of (sym m) ∙ u)
cover-up (Rollback k) c d p top none e m f (inr u) = inr (f u)

-- p sends to o, and o acts: the last label heard from p is the same
pub acts_else : {B : Board} {p q : ℕ} {np nq : Node} {kept : List AppMessage} {link : List Message} (count : ℕ) (log : List Act)
    → nq.tent ≡ None → top_heard nq.log p ≡ top_heard log p
    → ((by : ℕ) (l : Label) → IsIn (Hears by p l) log → IsIn (Hears by p l) nq.log)
    → Pair B p q np nq kept link → Pair B p q np record nq { count = count; log = log } kept link
acts_else {B} {p} {q} {np} {nq} {kept} {link} count log none same old o = record {
  agree = o.agree;
  caused = λ b l i. o.caused b l (old b l i);
  chain = subst (λ low. Rising (Carried (core np) q) (next_label np) low (kept ++ apps link)) same o.chain;
  asks = o.asks;
  token = λ i b e s. Token-map (λ a. a) (λ c. c) (covers i (top_of i np.log np.perm q)) (o.token i b e s);
  votes = o.votes;
  cover = λ k e s. covers (Check k) (top_heard np.log q) (o.cover k e s);
} where
  covers : (i : Instance) (top : Label) → Cover i (core nq) p top → Cover i (core record nq { count = count; log = log }) p top
  covers i top = cover-up i (core nq) (core record nq { count = count; log = log }) p top none refl refl
      (λ u. subst (λ l. UpTo l top) same u)

pub heard-one : {by p y : ℕ} {l m : Label} {b : ℕ} {log : List Act} → IsIn (Hears by p l) (Sends b y m ∷ log) → IsIn (Hears by p l) log
heard-one (there i) = i

pub heard-not : {by p x : ℕ} {l m : Label} {b : ℕ} {log : List Act} → p ≢ x → IsIn (Hears by p l) (Hears b x m ∷ log) → IsIn (Hears by p l) log
heard-not ne here = absurd (ne refl)
heard-not ne (there i) = i

pub step_sends : (peer : ℕ → ℕ → Bool) → AreNeighbours peer → (s : State) (o y by : ℕ) → IsTrue (peer o y) → (s.node o).mode ≡ Up
    → Invariant peer s
    → Invariant peer (change o (sending by y) (push o (only y (App record { by = by; label = next_label (s.node o) })) s))
step_sends peer near s o y by t up w = lift peer near s o new (push o (only y m) s).link s.board (Later-refl s.board) (λ k e. e) w.fresh
    (λ p q ne nf. push-else o (only y m) s p q ne) mine
    (λ q u ne. subst (λ link. Pair s.board o q new (s.node q) ((s.node q).kept o) link) (sym (push-here o (only y m) s q)) (out q u))
    (λ p u ne. subst (λ link. Pair s.board p o (s.node p) new (new.kept p) link) (sym (push-else o (only y m) s p o ne))
    (acts_else (suc n.count) new.log none (sym (heard-sent by y p (next_label n) n.log)) (λ b l i. heard-one i) (w.pair p o u)))
    (Trees-idle o new s.node refl refl w.trees) w
  where
    n : Node
    n = s.node o

    new : Node
    new = sending by y n

    m : Message
    m = App record { by = by; label = next_label n }

    was : Local peer s.board o n
    was = w.local o

    none : n.tent ≡ None
    none = up-tent up was.way

    out : (q : ℕ) → IsTrue (peer o q) → Pair s.board o q new (s.node q) ((s.node q).kept o) (s.link o q ++ only y m q)
    out q u = go (cases_eq q y) where
      go : (q ≡ y) ⊎ (q ≢ y) → Pair s.board o q new (s.node q) ((s.node q).kept o) (s.link o q ++ only y m q)
      go (inl e) = rw (eq-eqb q y e) (subst (λ z. Pair s.board o q (sending by z n) (s.node q) ((s.node q).kept o) (s.link o q ++ m ∷ [])) e
          (sends_to by up none (w.pair o q u)))
      go (inr ne) = rw (ne_eqb q y ne, append-nil (s.link o q)) (sends_else by y up none (w.pair o q u))

    mine : Local peer s.board o new
    mine = record {
      falls = (was.room y, was.falls);
      tail = more tt was.tail;
      room = λ q. room q (cases_eq y q);
      from = λ b x l i. was.from b x l (heard-one i);
      way = was.way;
      ballot = λ i b e. up-voting up e;
      root = λ k b e. up-voting up e;
      members = was.members;
      present = was.present;
      marks = was.marks;
      holding = was.holding;
    } where
      room : (q : ℕ) → (y ≡ q) ⊎ (y ≢ q) → Under (top_sent new.log q) (next_label new)
      room q (inl e) = subst (λ z. Under (top_sent new.log z) (next_label new)) e
          (rw (sent-here by y (next_label n) n.log) (omega arith))
      room q (inr ne) = rw (sent-else by y q (next_label n) n.log ne) (Under-UpTo (was.room q) (omega arith))

-- o, which is Up, acts without sending: its messages under way are as they were
pub up-out : {B : Board} {p q : ℕ} {np nq : Node} {kept : List AppMessage} {link : List Message} (log : List Act) (held : ℕ → List AppMessage)
    → np.mode ≡ Up → np.tent ≡ None → ((b : ℕ) (l : Label) → IsIn (Sends b q l) np.log → IsIn (Sends b q l) log)
    → Pair B p q np nq kept link → Pair B p q record np { log = log; kept = held } nq kept link
up-out {B} {p} {q} {np} {nq} log held up none f o = record {
  agree = o.agree;
  caused = λ b l i. elim (o.caused b l i) [ made j ↦ made (f b l j) | lost u ↦ up-gone up u.gone | cut_soon s ↦ cut_soon s ];
  chain = Rising-map (UpTo-refl (next_label np)) (λ k i c. elim c [ sent j ↦ sent (f k.by k.label j) | undone u ↦ up-gone up u.gone ]) o.chain;
  asks = λ i l c j. fine-up up none (o.asks i l c j);
  token = λ i b e s. up-voting up e;
  votes = o.votes;
  cover = λ k e s. some-none (sym e ∙ none);
}

pub cover-check : (k : ℕ) (c d : Core) (p : ℕ) (top : Label) → c.tent ≡ None → c.perm ≡ d.perm → Cover (Check k) c p top → Cover (Check k) d p top
cover-check k c d p top none e (inl u) = inl (subst (λ t. UpTo top (top_sent t p)) e u)
cover-check k c d p top none e (inr u) = some-none (sym u.0 ∙ none)

pub no-app : {m : AppMessage} {ms : List AppMessage} {X : Type 0} → m ∷ ms ≡ [] → X
no-app e = absurd (subst IsFull e tt) where
  IsFull : List AppMessage → Type 0
  IsFull [] = ⊥
  IsFull (m ∷ ms) = Unit {0}

-- o hears a message from p, the first that it keeps or that stands on the link: a token of p that stands is one
-- whose ask is still on the link, or the message is one up to its label
pub hears_from : {B : Board} {p q : ℕ} {np nq : Node} {kept old : List AppMessage} {link was : List Message} (m : AppMessage) (held : ℕ → List AppMessage)
    → nq.tent ≡ None → old ++ apps was ≡ m ∷ kept ++ apps link
    → ((i : Instance) (l : Label) (c : ℕ) → IsIn (Ask i l c) link → IsIn (Ask i l c) was)
    → ((i : Instance) (c : ℕ) (top : Label) → Asked i c top (Behind B i) was → Asked i c top (Behind B i) link)
    → ((i : Instance) (c : ℕ) (top : Label) → Calm B i c top old was
    → Calm B i c top kept link × (Cover i (core nq) p top → Cover i (core record nq { log = Hears m.by p m.label ∷ nq.log }) p top))
    → Pair B p q np nq old was → Pair B p q np record nq { log = Hears m.by p m.label ∷ nq.log; kept = held } kept link
hears_from {B} {p} {q} {np} {nq} {kept} {old} {link} {was} m held none split behind asks calm o = record {
  agree = o.agree;
  caused = λ b l i. heard b l i (head.1);
  chain = subst (λ low. Rising (Carried (core np) q) (next_label np) low (kept ++ apps link)) (sym (heard-here m.by p m.label nq.log)) head.2;
  asks = λ i l c j. o.asks i l c (behind i l c j);
  token = λ i b e s. elim (o.token i b e s) [
    | asked w a n c ↦ asked w (asks i np.life (top_of i np.log np.perm q) a) n c
    | waiting w c n k ↦ waiting w (calm i np.life (top_of i np.log np.perm q) c).0 n k
    | voted y c n f r v ↦ voted y (calm i np.life (top_of i np.log np.perm q) c).0 n
        (λ e. ((calm i np.life (top_of i np.log np.perm q) c).1 (f e).0, (f e).1)) r v
  ];
  votes = o.votes;
  cover = λ k e s. cover-check k (core nq) (core record nq { log = Hears m.by p m.label ∷ nq.log }) p (top_heard np.log q) none refl (o.cover k e s);
} where
  head : Under (top_heard nq.log p) m.label × Carried (core np) q m × Rising (Carried (core np) q) (next_label np) m.label (kept ++ apps link)
  head = Rising-head (subst (λ ms. Rising (Carried (core np) q) (next_label np) (top_heard nq.log p) ms) split o.chain)

  fresh : Carried (core np) q m → Caused B p q (core np) nq.mode nq.perm m.by m.label
  fresh (sent i) = made i
  fresh (undone u) = lost u

  heard : (b : ℕ) (l : Label) → IsIn (Hears b p l) (Hears m.by p m.label ∷ nq.log) → Carried (core np) q m
      → Caused B p q (core np) nq.mode nq.perm b l
  heard b l i c = pick (in-cons i) where
    pick : (Hears b p l ≡ Hears m.by p m.label) ⊎ IsIn (Hears b p l) nq.log → Caused B p q (core np) nq.mode nq.perm b l
    pick (inl e) = subst (λ b. Caused B p q (core np) nq.mode nq.perm b l) (sym (ap act_by e))
        (subst (λ l. Caused B p q (core np) nq.mode nq.perm m.by l) (sym (ap act_label e)) (fresh c))
    pick (inr j) = o.caused b l j

-- p sends to o, and o hears of another
pub hears_else : {B : Board} {p q : ℕ} {np nq : Node} {kept : List AppMessage} {link : List Message} (x : ℕ) (m : AppMessage) (held : ℕ → List AppMessage)
    → p ≢ x → nq.tent ≡ None → Pair B p q np nq kept link
    → Pair B p q np record nq { log = Hears m.by x m.label ∷ nq.log; kept = held } kept link
hears_else {B} {p} {q} {np} {nq} {kept} {link} x m held ne none o = record {
  agree = o.agree;
  caused = λ b l i. o.caused b l (heard-not ne i);
  chain = subst (λ low. Rising (Carried (core np) q) (next_label np) low (kept ++ apps link)) same o.chain;
  asks = o.asks;
  token = λ i b e s. Token-map (λ a. a) (λ c. c) (covers i (top_of i np.log np.perm q)) (o.token i b e s);
  votes = o.votes;
  cover = λ k e s. covers (Check k) (top_heard np.log q) (o.cover k e s);
} where
  same : top_heard nq.log p ≡ top_heard (Hears m.by x m.label ∷ nq.log) p
  same = sym (heard-else m.by x p m.label nq.log (λ e. ne (sym e)))

  covers : (i : Instance) (top : Label) → Cover i (core nq) p top → Cover i (core record nq { log = Hears m.by x m.label ∷ nq.log }) p top
  covers i top = cover-up i (core nq) (core record nq { log = Hears m.by x m.label ∷ nq.log }) p top none refl refl
      (λ u. subst (λ l. UpTo l top) same u)

pub hears-local : {peer : ℕ → ℕ → Bool} {B : Board} {o : ℕ} {n : Node} (x : ℕ) (m : AppMessage) (held : ℕ → List AppMessage) → n.mode ≡ Up
    → IsTrue (peer x o) → Under (top_heard n.log x) m.label → Local peer B o n
    → Local peer B o record n { log = Hears m.by x m.label ∷ n.log; kept = held }
hears-local {peer} {B} {o} {n} x m held up t u was = record {
  falls = (u, was.falls);
  tail = more tt was.tail;
  room = λ q. subst (λ l. Under l (next_label n)) (sym (sent-heard m.by x q m.label n.log)) (was.room q);
  from = λ b y l i. from b y l (in-cons i);
  way = was.way;
  ballot = λ i b e. up-voting up e;
  root = λ k b e. up-voting up e;
  members = was.members;
  present = was.present;
  marks = was.marks;
  holding = was.holding;
} where
  from : (b y : ℕ) (l : Label) → (Hears b y l ≡ Hears m.by x m.label) ⊎ IsIn (Hears b y l) n.log → IsTrue (peer y o)
  from b y l (inl e) = subst (λ z. IsTrue (peer z o)) (sym (ap act_peer e)) t
  from b y l (inr i) = was.from b y l i

pub step_hears : (peer : ℕ → ℕ → Bool) → AreNeighbours peer → (s : State) (o x : ℕ) (m : AppMessage) (rest : List Message)
    → IsTrue (peer x o) → (s.node o).mode ≡ Up → (s.node o).kept x ≡ [] → s.link x o ≡ App m ∷ rest
    → Invariant peer s → Invariant peer (change o (hearing x m) (pull x o rest s))
step_hears peer near s o x m rest t up bare front w =
    lift_pull peer near s o x rest (hearing x m n) refl refl t (λ p ne. refl)
    (hears-local x m n.kept up t (Rising-head pair.chain).0 was)
    (λ q u ne. up-out (hearing x m n).log n.kept up none (λ b l i. there i) (w.pair o q u))
    (subst (λ ks. Pair s.board x o (s.node x) (hearing x m n) ks rest) (sym bare)
    (hears_from {kept = []} {old = []} m n.kept none refl (λ i l c j. there j) (λ i c top a. Asked-app a)
    busy pair))
    (λ p u ne nf. hears_else x m n.kept nf none (w.pair p o u)) w
  where
    n : Node
    n = s.node o

    was : Local peer s.board o n
    was = w.local o

    none : n.tent ≡ None
    none = up-tent up was.way

    pair : Pair s.board x o (s.node x) n [] (App m ∷ rest)
    pair = subst (λ ks. Pair s.board x o (s.node x) n ks (App m ∷ rest)) bare
        (subst (λ link. Pair s.board x o (s.node x) n (n.kept x) link) front (w.pair x o t))

    busy : (i : Instance) (c : ℕ) (top : Label) → Calm s.board i c top [] (App m ∷ rest)
        → Calm s.board i c top [] rest × (Cover i (core n) x top → Cover i (core (hearing x m n)) x top)
    busy (Check k) c top calm = (
      record { none = λ l j. calm.none l (there j); behind = tt; low = tt },
      λ v. cover-check k (core n) (core (hearing x m n)) x top none refl v,
    )
    busy (Rollback k) c top calm = no-app calm.behind.bare
