-- A verdict on a check stands for all nodes at once.
-- Cited by Main.
use Rattle.std.proofs.Common.{◌≡◌, ◌≢◌, ◌⊎◌, ℕ, Bool, true, IsTrue, List, Option, Some, None, inl, inr, refl, sym, ap, subst, ◌∙◌}
use Rattle.std.proofs.lemmas.Bool.{cases_eq, eq-eqb, ne_eqb}
use Rattle.kt_protocol.specs.Labels.{Label, Under, UpTo}
use Rattle.kt_protocol.specs.Logs.{IsIn, Act, IsTail, all, top_sent, top_heard}
use Rattle.kt_protocol.specs.Machine.{Instance, Check, Rollback, Verdict, Open, Yes, No, Ballot, Mode, Up, Within, Down, AppMessage, Message, Node, Board}
use Rattle.kt_protocol.specs.Machine.{State}
use Rattle.kt_protocol.specs.Machine.{instance_of, next_label}
use Rattle.kt_protocol.specs.Steps.{decide, released, promoted, promote, discard}
use Rattle.kt_protocol.specs.Runs.{AreNeighbours}
use Rattle.kt_protocol.proofs.Labels.{UpTo-trans, UpTo-refl}
use Rattle.kt_protocol.proofs.Logs.{sent-tail}
use Rattle.kt_protocol.proofs.Streams.{Rising-map, Asked, Asked-map}
use Rattle.kt_protocol.proofs.Invariant.{core, a_key, a_member, a_mark, IsMember, Undone, sent, undone, made, lost, cut_soon, Behind, Calm, Cover, Token}
use Rattle.kt_protocol.proofs.Invariant.{Standing, Meant, top_of, TokenOf, Pair, Way, Engaged, Local, Invariant}
use Rattle.kt_protocol.proofs.Frames.{Later, Trees-later, Token-map, Behind-later, Calm-later}
use Rattle.kt_protocol.proofs.Cases.{some-none, none-some, some-one, check-one, check-rollback}
use Rattle.kt_protocol.proofs.Trees.{all_said}
use Rattle.kt_protocol.proofs.Verdicts.{decide-cases, decide-at, decide-fresh, decide-opened, decide-decided, decide-live, decide-check, no-open, yes-open}
use Rattle.kt_protocol.proofs.Verdicts.{no-back}
use Rattle.kt_protocol.proofs.Cuts.{rolling-none}

released-some : (k : ℕ) (t : Option ℕ) (j : ℕ) → released k t ≡ Some j → (t ≡ Some j) × (j ≢ k)
released-some k None j e = none-some e
released-some k (Some m) j e = go (cases_eq m k) where
  go : (m ≡ k) ⊎ (m ≢ k) → (Some m ≡ Some j) × (j ≢ k)
  go (inl f) = none-some (sym (was f) ∙ e) where
    was : m ≡ k → released k (Some m) ≡ None
    was f = rw (eq-eqb m k f) refl
  go (inr ne) = let g : Some m ≡ Some j = sym kept ∙ e in (g, λ h. ne (some-one g ∙ h)) where
    kept : released k (Some m) ≡ Some m
    kept = rw (ne_eqb m k ne) refl

released-kept : (k : ℕ) (t : Option ℕ) (j : ℕ) → t ≡ Some j → j ≢ k → released k t ≡ Some j
released-kept k None j e ne = none-some e
released-kept k (Some m) j e ne = go (λ f. ne (sym (some-one e) ∙ f)) where
  go : m ≢ k → released k (Some m) ≡ Some j
  go nf = rw (ne_eqb m k nf) e

released-none : (k : ℕ) (t : Option ℕ) → t ≡ None → released k t ≡ None
released-none k None e = refl
released-none k (Some m) e = some-none e

-- the node once the check is decided, with this permanent checkpoint
abbrev settle : ℕ → List Act → Node → Node
settle k perm n = record n { perm = perm; tent = released k n.tent }

-- what the new permanent checkpoint may be
record Fits (n : Node) (perm : List Act) : Type 0 where
  same : n.tent ≡ None → perm ≡ n.perm
  grows : (q : ℕ) → UpTo (top_sent n.perm q) (top_sent perm q)
  tail : IsTail perm n.log
  bound : (q : ℕ) (l : Label) → Under (top_sent n.perm q) l → ((j : ℕ) → n.tent ≡ Some j → Under (top_sent n.log q) l) → Under (top_sent perm q) l

settle-pair : {B C : Board} {p q : ℕ} {np nq : Node} {kept : List AppMessage} {link : List Message} (k : ℕ) (pp pq : List Act) → Later B C
    → ((j : ℕ) → C.verdict (Check j) ≡ Open → j ≢ k) → Fits np pp → Fits nq pq → Way np.mode np.tent → Way nq.mode nq.tent
    → UpTo (top_heard pq p) (top_sent pp q)
    → Pair B p q np nq kept link → Pair C p q (settle k pp np) (settle k pq nq) kept link
settle-pair {B} {C} {p} {q} {np} {nq} {kept} {link} k pp pq later past fp fq wp wq agree o = record {
  agree = agree;
  caused = λ b l h. elim (o.caused b l h) [
    | made j ↦ made j
    | lost u ↦ lost (undo u)
    | cut_soon s ↦ cut_soon record {
      number = s.number;
      rolls = s.rolls;
      decided = later.decided (Rollback s.number) s.decided;
      above = subst (λ t. Under (top_heard t p) l) (sym (fq.same (rolling-none nq.mode nq.tent wq s.rolls))) s.above;
    }
  ];
  chain = Rising-map (UpTo-refl (next_label np)) (λ m h c. elim c [ sent j ↦ sent j | undone u ↦ undone (undo u) ]) o.chain;
  asks = λ j l c h. let f = o.asks j l c h in record {
    member = f.member;
    unsaid = λ e. f.unsaid (later.opened j e);
    meant = λ e. meant j l e (f.meant (later.opened j e));
  };
  token = λ i b e s. token i b e s;
  votes = o.votes;
  cover = λ j e s. let t = released-some k np.tent j e in cover (Check j) (λ m f. subst (λ z. z ≢ k) (check-one f) t.1) (top_heard np.log q) (o.cover j t.0 s);
} where
  undo : {l : Label} → Undone (core np) q l → Undone (core (settle k pp np)) q l
  undo {l} u = record {
    gone = u.gone;
    above = fp.bound q l u.above u.held;
    held = λ j e. u.held j (released-some k np.tent j e).0;
  }

  meant : (j : Instance) (l : Label) → C.verdict j ≡ Open → Meant j (core np) q l → Meant j (core (settle k pp np)) q l
  meant (Check j) l e m = (released-kept k np.tent j m.0 (past j e), m.1)
  meant (Rollback j) l e m = (m.0, released-none k np.tent m.1, m.2 ∙ ap (λ t. top_sent t q) (sym (fp.same m.1)))

  cover : (i : Instance) → ((m : ℕ) → i ≡ Check m → m ≢ k) → (top : Label) → Cover i (core nq) p top → Cover i (core (settle k pq nq)) p top
  cover (Check j) other top (inl u) = inl (UpTo-trans u (fq.grows p))
  cover (Check j) other top (inr u) = inr (released-kept k nq.tent j u.0 (other j refl), u.1)
  cover (Rollback j) other top c = c

  stands : (i : Instance) → Standing C i (released k np.tent) → Standing B i np.tent × ((m : ℕ) → i ≡ Check m → m ≢ k)
  stands (Check j) s = let t = released-some k np.tent j s in (t.0, λ m f. subst (λ z. z ≢ k) (check-one f) t.1)
  stands (Rollback j) s = (later.live (Rollback j) s, λ m f. check-rollback (sym f))

  same : (i : Instance) (b : Ballot) → np.mode ≡ Within i b → top_of i np.log np.perm q ≡ top_of i np.log pp q
  same (Check j) b e = refl
  same (Rollback j) b e = ap (λ t. top_sent t q) (sym (fp.same (rolling-none np.mode np.tent wp (ap instance_of e))))

  token : (i : Instance) (b : Ballot) → np.mode ≡ Within i b → Standing C i (released k np.tent) → TokenOf C p q (settle k pp np) (settle k pq nq) kept link i b
  token i b e s =
      let both = stands i s in
      subst (λ top. Token i (a_key p np.life) (b.awaited q) b.refused (Asked i np.life top (Behind C i) link) (Calm C i np.life top kept link)
      (Cover i (core (settle k pq nq)) p top) nq.mode nq.votes nq.joined nq.said) (same i b e)
      (Token-map (λ a. Asked-map (λ rest. Behind-later i rest later) a) (Calm-later i later)
      (cover i both.1 (top_of i np.log np.perm q)) (o.token i b e both.0))

settle-local : {peer : ℕ → ℕ → Bool} {B C : Board} {o : ℕ} {n : Node} (k : ℕ) (perm : List Act) → Later B C
    → ((j : ℕ) → C.verdict (Check j) ≡ Open → j ≢ k) → ((j : ℕ) → j ≢ k → B.verdict (Check j) ≡ Open → C.verdict (Check j) ≡ Open)
    → Fits n perm → Local peer B o n → Local peer C o (settle k perm n)
settle-local {peer} {B} {C} {o} {n} k perm later past back f w = record {
  falls = w.falls;
  tail = f.tail;
  room = w.room;
  from = w.from;
  way = way n.mode w.way;
  ballot = λ i b e. record { member = (w.ballot i b e).member; firm = (w.ballot i b e).firm };
  root = λ j b e par. w.root j b e par ∙ sym (f.same (rolling-none n.mode n.tent w.way (ap instance_of e)));
  members = λ i c m. ((w.members i c m).0, later.begun i (w.members i c m).1);
  present = λ i m e. present i e (w.present i m (later.opened i e));
  marks = w.marks;
  holding = λ j e. let t = released-some k n.tent j e in (back j t.1 (w.holding j t.0).0, (w.holding j t.0).1);
} where
  way : (m : Mode) → Way m n.tent → Way m (released k n.tent)
  way Up e = released-none k n.tent e
  way (Within (Check j) b) g = λ i e. g i (released-some k n.tent i e).0
  way (Within (Rollback j) b) e = released-none k n.tent e
  way Down e = e

  present : (i : Instance) → C.verdict i ≡ Open → Engaged i n.mode n.tent → Engaged i n.mode (released k n.tent)
  present (Check j) e g = released-kept k n.tent j g (past j e)
  present (Rollback j) e g = g

Later-check : (k : ℕ) (v : Verdict) (s : State) → v ≢ Open → s.board.verdict (Check k) ≡ Open → Later s.board (decide (Check k) v s).board
Later-check k v s ne opened = record {
  opened = decide-opened (Check k) v s ne;
  decided = decide-decided (Check k) v s opened;
  live = decide-live (Check k) v s opened;
  begun = λ j e. e;
}

closed-check : (k : ℕ) (v : Verdict) (s : State) → v ≢ Open → (j : ℕ) → (decide (Check k) v s).board.verdict (Check j) ≡ Open → j ≢ k
closed-check k v s ne j e f = ne (sym (decide-at (Check k) v s) ∙ subst (λ m. (decide (Check k) v s).board.verdict (Check m) ≡ Open) f e)

check-back : (k : ℕ) (v : Verdict) (s : State) (j : ℕ) → j ≢ k → s.board.verdict (Check j) ≡ Open → (decide (Check k) v s).board.verdict (Check j) ≡ Open
check-back k v s j ne e = decide-check (Check k) v s j (λ f. ne (check-one f)) e

fits-same : (n : Node) → IsTail n.perm n.log → Fits n n.perm
fits-same n tail = record { same = λ e. refl; grows = λ q. UpTo-refl (top_sent n.perm q); tail = tail; bound = λ q l u h. u }

pub step_gives_up_check : (peer : ℕ → ℕ → Bool) → (s : State) (k : ℕ) → s.board.begun (Check k) ≡ true
    → s.board.verdict (Check k) ≡ Open → Invariant peer s → Invariant peer (discard k (decide (Check k) No s))
step_gives_up_check peer s k begun opened w = record {
  fresh = decide-fresh (Check k) No s w.fresh begun;
  local = λ o. settle-local k (s.node o).perm later (closed-check k No s no-open) (check-back k No s) (fits o) (w.local o);
  pair = λ p q t. settle-pair k (s.node p).perm (s.node q).perm later (closed-check k No s no-open) (fits p) (fits q) (w.local p).way (w.local q).way
      (w.pair p q t).agree (w.pair p q t);
  trees = Trees-later later (no-back (Check k) s) w.trees;
} where
  later : Later s.board (decide (Check k) No s).board
  later = Later-check k No s no-open opened

  fits : (o : ℕ) → Fits (s.node o) (s.node o).perm
  fits o = fits-same (s.node o) (w.local o).tail

-- the permanent checkpoint with Yes: the log where this check holds, else the old one
promoted-cases : (k : ℕ) (t : Option ℕ) (n : Node) → ((t ≡ Some k) × (promoted k t n ≡ n.log)) ⊎ ((t ≢ Some k) × (promoted k t n ≡ n.perm))
promoted-cases k None n = inr (λ e. none-some e, refl)
promoted-cases k (Some j) n = go (cases_eq j k) where
  go : (j ≡ k) ⊎ (j ≢ k) → ((Some j ≡ Some k) × (promoted k (Some j) n ≡ n.log)) ⊎ ((Some j ≢ Some k) × (promoted k (Some j) n ≡ n.perm))
  go (inl e) = inl (ap Some e, rw (eq-eqb j k e) refl)
  go (inr ne) = inr (λ e. ne (some-one e), rw (ne_eqb j k ne) refl)

fits-promoted : {peer : ℕ → ℕ → Bool} {B : Board} {o : ℕ} (k : ℕ) (n : Node) → Local peer B o n → Fits n (promoted k n.tent n)
fits-promoted k n w = go (promoted k n.tent n) (promoted-cases k n.tent n) where
  go : (perm : List Act) → ((n.tent ≡ Some k) × (perm ≡ n.log)) ⊎ ((n.tent ≢ Some k) × (perm ≡ n.perm)) → Fits n perm
  go perm (inl e) = record {
    same = λ none. some-none (sym e.0 ∙ none);
    grows = λ q. subst (λ t. UpTo (top_sent n.perm q) (top_sent t q)) (sym e.1) (sent-tail q w.tail w.falls);
    tail = subst (λ t. IsTail t n.log) (sym e.1) all;
    bound = λ q l u h. subst (λ t. Under (top_sent t q) l) (sym e.1) (h k e.0);
  }
  go perm (inr e) = subst (Fits n) (sym e.1) (fits-same n w.tail)

pub step_promotes : (peer : ℕ → ℕ → Bool) → AreNeighbours peer → (s : State) (o k : ℕ) (b : Ballot) → (s.node o).mode ≡ Within (Check k) b → b.parent ≡ None
    → s.board.verdict (Check k) ≡ Open → IsIn (a_mark (Check k) (s.node o).life) (s.node o).said
    → Invariant peer s → Invariant peer (promote k (decide (Check k) Yes s))
step_promotes peer near s o k b e par opened said w = record {
  fresh = decide-fresh (Check k) Yes s w.fresh ((w.local o).members (Check k) (s.node o).life (b.parent, ((w.local o).ballot (Check k) b e).member)).1;
  local = λ x. settle-local k (new x) later (closed-check k Yes s yes-open) (check-back k Yes s) (fits x) (w.local x);
  pair = λ p q t. settle-pair k (new p) (new q) later (closed-check k Yes s yes-open) (fits p) (fits q) (w.local p).way (w.local q).way
      (agree p q t) (w.pair p q t);
  trees = record {
    descends = w.trees.descends;
    below = λ x i c k m e. w.trees.below x i c k m (later.opened i e);
    every = λ x i c m g. every x i c m (decide-cases (Check k) Yes s i) g;
    root = w.trees.root;
    parents = w.trees.parents;
    asker = w.trees.asker;
  };
} where
  C : Board
  C = (decide (Check k) Yes s).board

  later : Later s.board C
  later = Later-check k Yes s yes-open opened

  new : ℕ → List Act
  new x = promoted k (s.node x).tent (s.node x)

  fits : (x : ℕ) → Fits (s.node x) (new x)
  fits x = fits-promoted k (s.node x) (w.local x)

  top : IsIn (a_member (Check k) (s.node o).life None) (s.node o).joined
  top = subst (λ t. IsIn (a_member (Check k) (s.node o).life t) (s.node o).joined) par ((w.local o).ballot (Check k) b e).member

  all_yes : (x c : ℕ) → IsMember (s.node x).joined (Check k) c → IsIn (a_mark (Check k) c) (s.node x).said
  all_yes x c m = all_said o (Check k) (s.node o).life top opened said w.trees (w.trees.descends x (Check k) c m)

  every : (x : ℕ) (i : Instance) (c : ℕ) → IsMember (s.node x).joined i c
      → ((i ≡ Check k) × (C.verdict i ≡ Yes)) ⊎ (C.verdict i ≡ s.board.verdict i) → C.verdict i ≡ Yes → IsIn (a_mark i c) (s.node x).said
  every x i c m (inl f) g = subst (λ j. IsIn (a_mark j c) (s.node x).said) (sym f.0) (all_yes x c (subst (λ j. IsMember (s.node x).joined j c) f.0 m))
  every x i c m (inr f) g = w.trees.every x i c m (sym f ∙ g)

  agree : (p q : ℕ) → IsTrue (peer p q) → UpTo (top_heard (new q) p) (top_sent (new p) q)
  agree p q t = go (promoted-cases k (s.node q).tent (s.node q)) where
    reached : Cover (Check k) (core (s.node p)) q (top_heard (s.node q).log p) → UpTo (top_heard (s.node q).log p) (top_sent (new p) q)
    reached (inl u) = UpTo-trans u ((fits p).grows q)
    reached (inr u) = elim (promoted-cases k (s.node p).tent (s.node p)) [
      | inl f ↦ subst (λ a. UpTo (top_heard (s.node q).log p) (top_sent a q)) (sym f.1) u.1
      | inr f ↦ absurd (f.0 u.0)
    ]

    go : (((s.node q).tent ≡ Some k) × (new q ≡ (s.node q).log)) ⊎ (((s.node q).tent ≢ Some k) × (new q ≡ (s.node q).perm))
        → UpTo (top_heard (new q) p) (top_sent (new p) q)
    go (inl f) = subst (λ a. UpTo (top_heard a p) (top_sent (new p) q)) (sym f.1)
        (reached ((w.pair q p (near.both p q t)).cover k f.0 (all_yes q (s.node q).life ((w.local q).holding k f.0).1)))
    go (inr f) = subst (λ a. UpTo (top_heard a p) (top_sent (new p) q)) (sym f.1) (UpTo-trans (w.pair p q t).agree ((fits p).grows q))
