-- What a step leaves as it was, once for all steps.
-- Cited by Cases, Casts, Checks, Main, Rises, Starts, Talks, Verdicts; other crates.
use Rattle.std.proofs.Common.{◌≡◌, ◌≢◌, ℕ, Bool, true, false, IsTrue, List, Option, refl, sym, ap, subst, ◌∙◌}
use Rattle.kt_protocol.specs.Labels.{Label, at}
use Rattle.kt_protocol.specs.Logs.{Act}
use Rattle.kt_protocol.specs.Machine.{Instance, Check, Rollback, Open, Yes, No, Key, Ballot, Mode, AppMessage, Message, Vote, Member, Mark, Node, Board, State}
use Rattle.kt_protocol.specs.Runs.{AreNeighbours}
use Rattle.kt_protocol.proofs.Labels.{at-both, at-here, at-else}
use Rattle.kt_protocol.proofs.Streams.{Asked-map}
use Rattle.kt_protocol.proofs.Invariant.{Core, CutSoon, Caused, made, lost, cut_soon, Quiet, Behind, Calm, Token, asked, waiting, voted, Standing, FineAsk}
use Rattle.kt_protocol.proofs.Invariant.{TokenOf, Pair, Local, Trees, Invariant}

-- the board may change so: open ones close, nothing else
pub record Later (B C : Board) : Type 0 where
  pub opened : (i : Instance) → C.verdict i ≡ Open → B.verdict i ≡ Open
  pub decided : (i : Instance) → B.verdict i ≡ Yes → C.verdict i ≡ Yes
  pub live : (i : Instance) → C.verdict i ≢ No → B.verdict i ≢ No
  pub begun : (i : Instance) → B.begun i ≡ true → C.begun i ≡ true

pub Later-refl : (B : Board) → Later B B
Later-refl B = record { opened = λ i e. e; decided = λ i e. e; live = λ i e. e; begun = λ i e. e }

pub Token-map : {i : Instance} {k : Key} {awaits refused : Bool} {A A' C C' V V' : Type 0} {mode : Mode} {votes : List Vote}
    {joined : List Member} {said : List Mark} → (A → A') → (C → C') → (V → V')
    → Token i k awaits refused A C V mode votes joined said → Token i k awaits refused A' C' V' mode votes joined said
Token-map f g h (asked w a n c) = asked w (f a) n c
Token-map f g h (waiting w c n o) = waiting w (g c) n o
Token-map f g h (voted y c o s r v) = voted y (g c) o (λ e. (h (s e).0, (s e).1)) r v

pub Quiet-later : {B C : Board} {link : List Message} → Later B C → Quiet B link → Quiet C link
Quiet-later l q = record { bare = q.bare; unasked = λ k m c i e. q.unasked k m c i (l.opened (Rollback k) e) }

pub Behind-later : {B C : Board} (i : Instance) (link : List Message) → Later B C → Behind B i link → Behind C i link
Behind-later (Check k) link l b = b
Behind-later (Rollback k) link l b = Quiet-later l b

pub Calm-later : {B C : Board} (i : Instance) {c : ℕ} {top : Label} {kept : List AppMessage} {link : List Message} → Later B C
    → Calm B i c top kept link → Calm C i c top kept link
Calm-later i {link = link} l c = record { none = c.none; behind = Behind-later i link l c.behind; low = c.low }

pub Standing-later : {B C : Board} (i : Instance) (tent : Option ℕ) → Later B C → Standing C i tent → Standing B i tent
Standing-later (Check k) tent l s = s
Standing-later (Rollback k) tent l s = l.live (Rollback k) s

pub CutSoon-later : {B C : Board} {mode : Mode} {perm : List Act} {p : ℕ} {l : Label} → Later B C → CutSoon B mode perm p l
    → CutSoon C mode perm p l
CutSoon-later later s = record { number = s.number; rolls = s.rolls; decided = later.decided (Rollback s.number) s.decided; above = s.above }

pub Caused-later : {B C : Board} {p q : ℕ} {cp : Core} {mode : Mode} {perm : List Act} {by : ℕ} {l : Label} → Later B C
    → Caused B p q cp mode perm by l → Caused C p q cp mode perm by l
Caused-later later (made i) = made i
Caused-later later (lost u) = lost u
Caused-later later (cut_soon s) = cut_soon (CutSoon-later later s)

pub FineAsk-later : {B C : Board} {joined : List Member} {said : List Mark} {cp : Core} {q : ℕ} {i : Instance} {l : Label} {c : ℕ}
    → Later B C → FineAsk B joined said cp q i l c → FineAsk C joined said cp q i l c
FineAsk-later {i = i} later f = record {
  member = f.member;
  unsaid = λ e. f.unsaid (later.opened i e);
  meant = λ e. f.meant (later.opened i e);
}

pub TokenOf-later : {B C : Board} (p q : ℕ) (np nq : Node) (kept : List AppMessage) (link : List Message) (i : Instance) (b : Ballot)
    → Later B C → TokenOf B p q np nq kept link i b → TokenOf C p q np nq kept link i b
TokenOf-later p q np nq kept link i b later t =
    Token-map (λ a. Asked-map (λ rest. Behind-later i rest later) a) (Calm-later i later) (λ v. v) t

pub Pair-later : {B C : Board} {p q : ℕ} {np nq : Node} {kept : List AppMessage} {link : List Message} → Later B C
    → Pair B p q np nq kept link → Pair C p q np nq kept link
Pair-later {p = p} {q} {np} {nq} {kept} {link} later o = record {
  agree = o.agree;
  caused = λ by l i. Caused-later later (o.caused by l i);
  chain = o.chain;
  asks = λ i l c m. FineAsk-later later (o.asks i l c m);
  token = λ i b e s. TokenOf-later p q np nq kept link i b later (o.token i b e (Standing-later i np.tent later s));
  votes = o.votes;
  cover = o.cover;
}

pub Local-later : {peer : ℕ → ℕ → Bool} {B C : Board} {o : ℕ} {n : Node} → Later B C
    → ((k : ℕ) → B.verdict (Check k) ≡ Open → C.verdict (Check k) ≡ Open) → Local peer B o n → Local peer C o n
Local-later {n = n} later checks w = record {
  falls = w.falls;
  tail = w.tail;
  room = w.room;
  from = w.from;
  way = w.way;
  ballot = w.ballot;
  root = w.root;
  members = λ i c m. ((w.members i c m).0, later.begun i (w.members i c m).1);
  present = λ i m e. w.present i m (later.opened i e);
  marks = w.marks;
  holding = λ k e. (checks k (w.holding k e).0, (w.holding k e).1);
}

-- the trees where the same joined and said the same
pub Trees-later : {peer : ℕ → ℕ → Bool} {B C : Board} {J : ℕ → List Member} {S : ℕ → List Mark} → Later B C
    → ((i : Instance) → C.verdict i ≡ Yes → B.verdict i ≡ Yes) → Trees peer B J S → Trees peer C J S
Trees-later later back w = record {
  descends = w.descends;
  below = λ x i c k m e. w.below x i c k m (later.opened i e);
  every = λ x i c m e. w.every x i c m (back i e);
  root = w.root;
  parents = w.parents;
  asker = w.asker;
}

pub Trees-same : {peer : ℕ → ℕ → Bool} {B : Board} {J K : ℕ → List Member} {S U : ℕ → List Mark}
    → ((x : ℕ) → J x ≡ K x) → ((x : ℕ) → S x ≡ U x) → Trees peer B J S → Trees peer B K U
Trees-same {peer} {B} {J} {K} {S} {U} e f w =
    subst (λ U. Trees peer B K U) (λ i x. f x i) (subst (λ K. Trees peer B K S) (λ i x. e x i) w)

-- a function of the nodes where one is changed
pub at-map : {A C : Type 0} (g : A → C) (o : ℕ) (new : A) (f : ℕ → A) (x : ℕ) → at o (g new) (λ y. g (f y)) x ≡ g (at o new f x)
at-map g o new f x = at-both o new f x (λ a. at o (g new) (λ y. g (f y)) x ≡ g a)
    (λ e. subst (λ y. at o (g new) (λ y. g (f y)) y ≡ g new) (sym e) (at-here o (g new) (λ y. g (f y))))
    (λ ne. at-else o (g new) (λ y. g (f y)) x ne)

pub at-same : {C : Type 0} (o : ℕ) (f : ℕ → C) (x : ℕ) → f x ≡ at o (f o) f x
at-same o f x = at-both o (f o) f x (λ a. f x ≡ a) (λ e. ap f e) (λ ne. refl)

pub Trees-idle : {peer : ℕ → ℕ → Bool} {B : Board} (o : ℕ) (new : Node) (f : ℕ → Node)
    → new.joined ≡ (f o).joined → new.said ≡ (f o).said
    → Trees peer B (λ x. (f x).joined) (λ x. (f x).said)
    → Trees peer B (λ x. (at o new f x).joined) (λ x. (at o new f x).said)
Trees-idle o new f e g w = Trees-same
    (λ x. at-same o (λ y. (f y).joined) x ∙ ap (λ a. at o a (λ y. (f y).joined) x) (sym e) ∙ at-map (λ n. n.joined) o new f x)
    (λ x. at-same o (λ y. (f y).said) x ∙ ap (λ a. at o a (λ y. (f y).said) x) (sym g) ∙ at-map (λ n. n.said) o new f x) w

-- the whole, from the owner's node and the pairs in which it stands
pub lift : (peer : ℕ → ℕ → Bool) → AreNeighbours peer → (s : State) (o : ℕ) (new : Node) (link : ℕ → ℕ → List Message) (C : Board)
    → Later s.board C → ((k : ℕ) → s.board.verdict (Check k) ≡ Open → C.verdict (Check k) ≡ Open)
    → ((i : Instance) → C.begun i ≡ false → C.verdict i ≡ Open)
    → ((p q : ℕ) → p ≢ o → q ≢ o → link p q ≡ s.link p q)
    → Local peer C o new
    → ((q : ℕ) → IsTrue (peer o q) → o ≢ q → Pair C o q new (s.node q) ((s.node q).kept o) (link o q))
    → ((p : ℕ) → IsTrue (peer p o) → p ≢ o → Pair C p o (s.node p) new (new.kept p) (link p o))
    → Trees peer C (λ x. (at o new s.node x).joined) (λ x. (at o new s.node x).said)
    → Invariant peer s → Invariant peer record { node = at o new s.node; link = link; board = C }
lift peer near s o new link C later checks fresh frame mine out into trees w = record {
  fresh = fresh;
  local = λ x. at-both o new s.node x (λ n. Local peer C x n)
      (λ e. subst (λ y. Local peer C y new) (sym e) mine)
      (λ ne. Local-later later checks (w.local x));
  pair = λ p q t. at-both o new s.node p (λ np. Pair C p q np (at o new s.node q) ((at o new s.node q).kept p) (link p q))
      (λ e. subst (λ y. Pair C y q new (at o new s.node q) ((at o new s.node q).kept y) (link y q)) (sym e)
      (from_o q (subst (λ y. IsTrue (peer y q)) e t)))
      (λ ne. at-both o new s.node q (λ nq. Pair C p q (s.node p) nq (nq.kept p) (link p q))
      (λ e. subst (λ y. Pair C p y (s.node p) new (new.kept p) (link p y)) (sym e)
      (into p (subst (λ y. IsTrue (peer p y)) e t) ne))
      (λ nf. subst (λ m. Pair C p q (s.node p) (s.node q) ((s.node q).kept p) m) (sym (frame p q ne nf))
      (Pair-later later (w.pair p q t))));
  trees = trees;
} where
  from_o : (q : ℕ) → IsTrue (peer o q) → Pair C o q new (at o new s.node q) ((at o new s.node q).kept o) (link o q)
  from_o q t = at-both o new s.node q (λ nq. Pair C o q new nq (nq.kept o) (link o q))
      (λ e. absurd (near.two o q t (sym e)))
      (λ ne. out q t (λ e. ne (sym e)))
