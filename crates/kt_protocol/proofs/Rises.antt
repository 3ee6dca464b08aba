-- Verdicts learnt, and nodes that are up again.
-- Cited by Main.
use Rattle.std.proofs.Common.{◌≡◌, ◌≢◌, ◌⊎◌, ℕ, suc, Bool, IsTrue, List, [], ◌++◌, Some, None, inl, inr, refl, sym, ap, subst, ◌∙◌, arith}
use Rattle.kt_protocol.specs.Labels.{Label, Under, UpTo}
use Rattle.kt_protocol.specs.Logs.{IsIn, Act, Sends, Hears, all, top_sent, top_heard}
use Rattle.kt_protocol.specs.Machine.{Instance, Check, Rollback, Open, Yes, No, Key, Ballot, Up, Within, Down, AppMessage, Message, Ask, Node, Board, State}
use Rattle.kt_protocol.specs.Machine.{instance_of, next_label}
use Rattle.kt_protocol.specs.Steps.{change, loading, rising, nothing_kept, decide}
use Rattle.kt_protocol.specs.Runs.{AreNeighbours}
use Rattle.kt_protocol.proofs.Labels.{UpTo-trans, UpTo-Under, Under-UpTo, Under-not, UpTo-refl}
use Rattle.kt_protocol.proofs.Logs.{Falls, Falls-tail, sent-tail, heard-top, sent-split, tail-in}
use Rattle.kt_protocol.proofs.Streams.{apps, in-append, Rising-map}
use Rattle.kt_protocol.proofs.Invariant.{core, a_member, a_mark, IsMember, Gone, sent, undone, CutSoon, made, lost, cut_soon, Calm, Cover, asked}
use Rattle.kt_protocol.proofs.Invariant.{waiting, voted, Standing, Away, Meant, top_of, TokenOf, Pair, Engaged, Local, Descends, Trees, Invariant}
use Rattle.kt_protocol.proofs.Frames.{Later, Later-refl, lift, Pair-later, Local-later, Trees-idle}
use Rattle.kt_protocol.proofs.Cases.{some-none, some-one, up-voting, down-voting, check-rollback, rollback-one, open-yes, open-no, yes-no, lift_own}
use Rattle.kt_protocol.proofs.Votes.{settled}
use Rattle.kt_protocol.proofs.Trees.{all_said}
use Rattle.kt_protocol.proofs.Verdicts.{decide-cases, decide-at, decide-fresh, decide-check, Later-decide, yes-open}
use Rattle.kt_protocol.proofs.Cuts.{rolling-none, cut-into}

-- a node whose rollback has Yes is up again: all whom it asked are covered
up-settled : {B C : Board} {p q : ℕ} {np nq : Node} {kept : List AppMessage} {link : List Message} (k life count : ℕ) (log : List Act)
    (held : ℕ → List AppMessage)
    → Later B C → C.verdict (Rollback k) ≡ Yes → np.tent ≡ None → Falls nq.log
    → UpTo (next_label np) record { life = life; count = suc count }
    → ((b : ℕ) (l : Label) → IsIn (Sends b q l) np.log → IsIn (Sends b q l) log ⊎ Under (top_sent np.perm q) l)
    → Calm B (Rollback k) np.life (top_sent np.perm q) kept link → Cover (Rollback k) (core nq) p (top_sent np.perm q)
    → Pair B p q np nq kept link → Pair C p q record np { mode = Up; life = life; count = count; log = log; kept = held } nq kept link
up-settled {B} {C} {p} {q} {np} {nq} {kept} {link} k life count log held later decided none falls grows keeps calm covered o = record {
  agree = o.agree;
  caused = λ b l h. elim (o.caused b l h) [
    | made j ↦ elim (keeps b l j) [ inl i ↦ made i | inr u ↦ cut_soon (soon h u covered) ]
    | lost u ↦ cut_soon (soon h u.above covered)
    | cut_soon s ↦ cut_soon record { number = s.number; rolls = s.rolls; decided = later.decided (Rollback s.number) s.decided; above = s.above }
  ];
  chain = Rising-map grows (λ m h c. elim c [
    | sent j ↦ elim (keeps m.by m.label j) [ inl i ↦ sent i | inr u ↦ absurd (Under-not u (low m h)) ]
    | undone u ↦ absurd (Under-not u.above (low m h))
  ]) o.chain;
  asks = λ j l c h. let f = o.asks j l c h in record {
    member = f.member;
    unsaid = λ e. f.unsaid (later.opened j e);
    meant = λ e. meant j l c h (later.opened j e) (f.meant (later.opened j e));
  };
  token = λ j b e s. up-voting refl e;
  votes = o.votes;
  cover = λ k e s. some-none (sym e ∙ none);
} where
  new : Node
  new = record np { mode = Up; life = life; count = count; log = log; kept = held }

  low : (m : AppMessage) → IsIn m (kept ++ apps link) → UpTo m.label (top_sent np.perm q)
  low m h = elim (in-append kept (apps link) h) [ inl i ↦ calm.low m i | inr i ↦ empty (subst (λ t. IsIn m t) calm.behind.bare i) ] where
    empty : IsIn m [] → UpTo m.label (top_sent np.perm q)
    empty i = elim i [ ]

  soon : {b : ℕ} {l : Label} → IsIn (Hears b p l) nq.log → Under (top_sent np.perm q) l → Cover (Rollback k) (core nq) p (top_sent np.perm q)
      → CutSoon C nq.mode nq.perm p l
  soon h u (inl r) = record { number = k; rolls = r; decided = decided; above = UpTo-Under o.agree u }
  soon h u (inr r) = absurd (Under-not u (UpTo-trans (heard-top nq.log falls h) r))

  meant : (j : Instance) (l : Label) (c : ℕ) → IsIn (Ask j l c) link → B.verdict j ≡ Open → Meant j (core np) q l → Meant j (core new) q l
  meant (Check m) l c h e f = some-none (sym f.0 ∙ none)
  meant (Rollback m) l c h e f = absurd (calm.behind.unasked m l c h e)

-- all that is known of a node that said yes in a rollback that is not given up
said_settled : {peer : ℕ → ℕ → Bool} {s : State} (o k q : ℕ) (b : Ballot) → (s.node o).mode ≡ Within (Rollback k) b → s.board.verdict (Rollback k) ≢ No
    → IsIn (a_mark (Rollback k) (s.node o).life) (s.node o).said → IsTrue (peer o q) → Invariant peer s
    → Calm s.board (Rollback k) (s.node o).life (top_sent (s.node o).perm q) ((s.node q).kept o) (s.link o q)
    × Cover (Rollback k) (core (s.node q)) o (top_sent (s.node o).perm q)
said_settled {peer} {s} o k q b e live said t w =
    let agreed = ((w.local o).ballot (Rollback k) b e).firm said in
    let both = settled (s.node o) (s.node q) (Rollback k) b (agreed.complete q t) agreed.none ((w.pair o q t).token (Rollback k) b e live) in
    (both.0, both.1)

pub step_learns_yes : (peer : ℕ → ℕ → Bool) → AreNeighbours peer → (s : State) (o k : ℕ) (b : Ballot) → (s.node o).mode ≡ Within (Rollback k) b
    → s.board.verdict (Rollback k) ≡ Yes → Invariant peer s → Invariant peer (change o (λ n. rising (loading n)) s)
step_learns_yes peer near s o k b e decided w =
    lift_own peer near s o (rising (loading n)) refl refl mine
    (λ q u ne. let both = said_settled o k q b e (λ f. yes-no decided f) said u w in
    up-settled k (suc n.life) 0 n.perm nothing_kept (Later-refl s.board) decided none (w.local q).falls (omega arith)
    (λ b l i. sent-split was.tail was.falls i) both.0 both.1 (w.pair o q u))
    (λ p u ne. cut-into Up (suc n.life) 0 refl none was.falls was.tail (w.pair p o u)) w
  where
    n : Node
    n = s.node o

    was : Local peer s.board o n
    was = w.local o

    none : n.tent ≡ None
    none = rolling-none n.mode n.tent was.way (ap instance_of e)

    said : IsIn (a_mark (Rollback k) n.life) n.said
    said = w.trees.every o (Rollback k) n.life (b.parent, (was.ballot (Rollback k) b e).member) decided

    alone : (j : Instance) → IsMember n.joined j (suc n.life) → ⊥
    alone j m = let le = (was.members j (suc n.life) m).0 in absurd (omega (arith, le))

    mine : Local peer s.board o (rising (loading n))
    mine = record {
      falls = Falls-tail was.tail was.falls;
      tail = all;
      room = λ q. Under-UpTo (UpTo-Under (sent-tail q was.tail was.falls) (was.room q)) (omega arith);
      from = λ b x l h. was.from b x l (tail-in was.tail h);
      way = none;
      ballot = λ i b e. up-voting refl e;
      root = λ k b e. up-voting refl e;
      members = λ i c m. let old = was.members i c m in (omega (arith, old.0), old.1);
      present = λ j m e. absurd (alone j m);
      marks = was.marks;
      holding = λ m e. some-none (sym e ∙ none);
    }

-- a node is up, its log as it was
rise-into : {B : Board} {p q : ℕ} {np nq : Node} {kept : List AppMessage} {link : List Message}
    → ((b : ℕ) (l : Label) → IsIn (Hears b p l) nq.log → CutSoon B nq.mode nq.perm p l → ⊥)
    → ((i : Instance) (b : Ballot) → np.mode ≡ Within i b → Standing B i np.tent → Cover i (core nq) p (top_of i np.log np.perm q)
    → Cover i (core (rising nq)) p (top_of i np.log np.perm q))
    → Pair B p q np nq kept link → Pair B p q np (rising nq) kept link
rise-into {B} {p} {q} {np} {nq} {kept} {link} uncut cover o = record {
  agree = o.agree;
  caused = λ b l h. elim (o.caused b l h) [ made j ↦ made j | lost u ↦ lost u | cut_soon s ↦ absurd (uncut b l h s) ];
  chain = o.chain;
  asks = o.asks;
  token = λ i b e s. token i b e s (o.token i b e s);
  votes = o.votes;
  cover = o.cover;
} where
  token : (i : Instance) (b : Ballot) → np.mode ≡ Within i b → Standing B i np.tent → TokenOf B p q np nq kept link i b
      → TokenOf B p q np (rising nq) kept link i b
  token i b e s (asked w a n c) = asked w a n c
  token i b e s (waiting w c n k) = waiting w c n k
  token i b e s (voted y c n f r v) = voted y c n (λ g. (cover i b e s (f g).0, (f g).1)) r (λ c e f. up-voting refl e)

rise-out : {B : Board} {p q : ℕ} {np nq : Node} {kept : List AppMessage} {link : List Message} → np.tent ≡ None → (Gone np.mode → ⊥)
    → ((k : ℕ) → B.verdict (Rollback k) ≡ Open → Away np.mode k → ⊥)
    → Pair B p q np nq kept link → Pair B p q (rising np) nq kept link
rise-out {B} {p} {q} {np} {nq} {kept} {link} none back away o = record {
  agree = o.agree;
  caused = λ b l h. elim (o.caused b l h) [ made j ↦ made j | lost u ↦ absurd (back u.gone) | cut_soon s ↦ cut_soon s ];
  chain = Rising-map (UpTo-refl (next_label np)) (λ m h c. elim c [ sent j ↦ sent j | undone u ↦ absurd (back u.gone) ]) o.chain;
  asks = λ j l c h. let f = o.asks j l c h in record { member = f.member; unsaid = f.unsaid; meant = λ e. meant j l e (f.meant e) };
  token = λ j b e s. up-voting refl e;
  votes = o.votes;
  cover = λ k e s. some-none (sym e ∙ none);
} where
  meant : (j : Instance) (l : Label) → B.verdict j ≡ Open → Meant j (core np) q l → Meant j (core (rising np)) q l
  meant (Check k) l e m = some-none (sym m.0 ∙ none)
  meant (Rollback k) l e m = absurd (away k e m.0)

rise-local : {peer : ℕ → ℕ → Bool} {B : Board} {o : ℕ} {n : Node} → n.tent ≡ None
    → ((k : ℕ) → B.verdict (Rollback k) ≡ Open → (instance_of n.mode ≡ Some (Rollback k)) ⊎ (n.mode ≡ Down) → ⊥)
    → Local peer B o n → Local peer B o (rising n)
rise-local {B = B} {n = n} none idle was = record {
  falls = was.falls;
  tail = was.tail;
  room = was.room;
  from = was.from;
  way = none;
  ballot = λ i b e. up-voting refl e;
  root = λ k b e. up-voting refl e;
  members = was.members;
  present = λ i m e. present i e (was.present i m e);
  marks = was.marks;
  holding = was.holding;
} where
  present : (i : Instance) → B.verdict i ≡ Open → Engaged i n.mode n.tent → Engaged i Up n.tent
  present (Check k) e g = g
  present (Rollback k) e g = absurd (idle k e g)

pub step_learns_no : (peer : ℕ → ℕ → Bool) → AreNeighbours peer → (s : State) (o k : ℕ) (b : Ballot) (p : Key) → (s.node o).mode ≡ Within (Rollback k) b
    → b.parent ≡ Some p → s.board.verdict (Rollback k) ≡ No → Invariant peer s → Invariant peer (change o rising s)
step_learns_no peer near s o k b p e par decided w =
    lift_own peer near s o (rising n) refl refl
    (rise-local none (λ m opened g. idle m opened g) was)
    (λ q u ne. rise-out none (λ g. some-none (sym par ∙ subst Gone e g)) (λ m opened a. away m opened (subst (λ t. Away t m) e a)) (w.pair o q u))
    (λ x u ne. rise-into
    (λ y l h c. yes-no c.decided (subst (λ m. s.board.verdict (Rollback m) ≡ No) (number c.number c.rolls) decided)) (cover x) (w.pair x o u)) w
  where
    n : Node
    n = s.node o

    was : Local peer s.board o n
    was = w.local o

    none : n.tent ≡ None
    none = rolling-none n.mode n.tent was.way (ap instance_of e)

    number : (m : ℕ) → instance_of n.mode ≡ Some (Rollback m) → k ≡ m
    number m g = rollback-one (some-one (sym (ap instance_of e) ∙ g))

    closed : (m : ℕ) → k ≡ m → s.board.verdict (Rollback m) ≡ Open → ⊥
    closed m f opened = open-no opened (subst (λ m. s.board.verdict (Rollback m) ≡ No) f decided)

    idle : (m : ℕ) → s.board.verdict (Rollback m) ≡ Open → (instance_of n.mode ≡ Some (Rollback m)) ⊎ (n.mode ≡ Down) → ⊥
    idle m opened (inl g) = closed m (number m g) opened
    idle m opened (inr g) = down-voting g e

    away : (m : ℕ) → s.board.verdict (Rollback m) ≡ Open → Away (Within (Rollback k) b) m → ⊥
    away m opened (inl g) = some-none (sym par ∙ g)
    away m opened (inr g) = closed m g opened

    cover : (x : ℕ) (i : Instance) (d : Ballot) → (s.node x).mode ≡ Within i d → Standing s.board i (s.node x).tent
        → Cover i (core n) x (top_of i (s.node x).log (s.node x).perm o) → Cover i (core (rising n)) x (top_of i (s.node x).log (s.node x).perm o)
    cover x (Check m) d f st c = c
    cover x (Rollback m) d f st (inl u) = absurd (st (subst (λ m. s.board.verdict (Rollback m) ≡ No) (number m u) decided))
    cover x (Rollback m) d f st (inr u) = inr u

pub step_releases : (peer : ℕ → ℕ → Bool) → AreNeighbours peer → (s : State) (o k : ℕ) (b : Ballot) → (s.node o).mode ≡ Within (Check k) b
    → (s.node o).tent ≡ None → Invariant peer s → Invariant peer (change o rising s)
step_releases peer near s o k b e none w =
    lift_own peer near s o (rising n) refl refl
    (rise-local none (λ m opened g. idle m g) (w.local o))
    (λ q u ne. rise-out none (λ g. subst Gone e g) (λ m opened a. subst (λ t. Away t m) e a) (w.pair o q u))
    (λ x u ne. rise-into (λ y l h c. other c.number c.rolls) (cover x) (w.pair x o u)) w
  where
    n : Node
    n = s.node o

    other : {X : Type 0} (m : ℕ) → instance_of n.mode ≡ Some (Rollback m) → X
    other m g = check-rollback (some-one (sym (ap instance_of e) ∙ g))

    idle : (m : ℕ) → (instance_of n.mode ≡ Some (Rollback m)) ⊎ (n.mode ≡ Down) → ⊥
    idle m (inl g) = other m g
    idle m (inr g) = down-voting g e

    cover : (x : ℕ) (i : Instance) (d : Ballot) → (s.node x).mode ≡ Within i d → Standing s.board i (s.node x).tent
        → Cover i (core n) x (top_of i (s.node x).log (s.node x).perm o) → Cover i (core (rising n)) x (top_of i (s.node x).log (s.node x).perm o)
    cover x (Check m) d f st c = c
    cover x (Rollback m) d f st (inl u) = other m u
    cover x (Rollback m) d f st (inr u) = inr u

-- the verdict Yes on a rollback whose initiator said yes
pub step_rises : (peer : ℕ → ℕ → Bool) → AreNeighbours peer → (s : State) (o k : ℕ) (b : Ballot) → (s.node o).mode ≡ Within (Rollback k) b
    → b.parent ≡ None → s.board.verdict (Rollback k) ≡ Open → IsIn (a_mark (Rollback k) (s.node o).life) (s.node o).said → Invariant peer s
    → Invariant peer (decide (Rollback k) Yes (change o rising s))
step_rises peer near s o k b e par opened said w =
    lift peer near s o (rising n) s.link C later checks
    (decide-fresh (Rollback k) Yes s w.fresh (was.members (Rollback k) n.life (b.parent, (was.ballot (Rollback k) b e).member)).1)
    (λ p q ne nf. refl)
    (rise-local none idle (Local-later later checks was))
    (λ q u ne. let both = said_settled o k q b e (λ f. open-no opened f) said u w in
    up-settled k n.life n.count n.log n.kept later decided none (w.local q).falls (UpTo-refl (next_label n)) (λ b l i. inl i) both.0 both.1 (w.pair o q u))
    (λ x u ne. Pair-later later (rise-into (λ y l h c. uncut x y l h c) (cover x u) (w.pair x o u)))
    (Trees-idle o (rising n) s.node refl refl trees) w
  where
    n : Node
    n = s.node o

    C : Board
    C = (decide (Rollback k) Yes s).board

    was : Local peer s.board o n
    was = w.local o

    later : Later s.board C
    later = Later-decide k Yes s yes-open opened

    checks : (m : ℕ) → s.board.verdict (Check m) ≡ Open → C.verdict (Check m) ≡ Open
    checks m f = decide-check (Rollback k) Yes s m (λ g. check-rollback g) f

    decided : C.verdict (Rollback k) ≡ Yes
    decided = decide-at (Rollback k) Yes s

    none : n.tent ≡ None
    none = rolling-none n.mode n.tent was.way (ap instance_of e)

    cut : n.log ≡ n.perm
    cut = was.root k b e par

    top : IsIn (a_member (Rollback k) n.life None) n.joined
    top = subst (λ t. IsIn (a_member (Rollback k) n.life t) n.joined) par (was.ballot (Rollback k) b e).member

    idle : (m : ℕ) → C.verdict (Rollback m) ≡ Open → (instance_of n.mode ≡ Some (Rollback m)) ⊎ (n.mode ≡ Down) → ⊥
    idle m f (inl g) = open-yes f (subst (λ m. C.verdict (Rollback m) ≡ Yes) (rollback-one (some-one (sym (ap instance_of e) ∙ g))) decided)
    idle m f (inr g) = down-voting g e

    uncut : (x y : ℕ) (l : Label) → IsIn (Hears y x l) n.log → CutSoon s.board n.mode n.perm x l → ⊥
    uncut x y l h c = Under-not c.above (heard-top n.perm (Falls-tail was.tail was.falls) (subst (λ t. IsIn (Hears y x l) t) cut h))

    cover : (x : ℕ) → IsTrue (peer x o) → (i : Instance) (d : Ballot) → (s.node x).mode ≡ Within i d → Standing s.board i (s.node x).tent
        → Cover i (core n) x (top_of i (s.node x).log (s.node x).perm o) → Cover i (core (rising n)) x (top_of i (s.node x).log (s.node x).perm o)
    cover x u (Check m) d f st c = c
    cover x u (Rollback m) d f st (inl g) = inr (subst (λ t. UpTo (top_heard t x) (top_sent (s.node x).perm o)) (sym cut) (w.pair x o u).agree)
    cover x u (Rollback m) d f st (inr g) = inr g

    trees : Trees peer C (λ x. (s.node x).joined) (λ x. (s.node x).said)
    trees = record {
      descends = w.trees.descends;
      below = λ x i c k m e. w.trees.below x i c k m (later.opened i e);
      every = λ x i c m g. every x i c m (decide-cases (Rollback k) Yes s i) g;
      root = w.trees.root;
      parents = w.trees.parents;
      asker = w.trees.asker;
    } where
      every : (x : ℕ) (i : Instance) (c : ℕ) → IsMember (s.node x).joined i c
          → ((i ≡ Rollback k) × (C.verdict i ≡ Yes)) ⊎ (C.verdict i ≡ s.board.verdict i) → C.verdict i ≡ Yes → IsIn (a_mark i c) (s.node x).said
      every x i c m (inl f) g = subst (λ j. IsIn (a_mark j c) (s.node x).said) (sym f.0)
          (all_said o (Rollback k) n.life top opened said w.trees (subst (λ j. Descends (λ x. (s.node x).joined) j x c) f.0 (w.trees.descends x i c m)))
      every x i c m (inr f) g = w.trees.every x i c m (sym f ∙ g)
