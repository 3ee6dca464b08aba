-- Votes counted, and what another ballot leaves as it was.
-- Cited by Casts, Main, Rises.
use Rattle.std.proofs.Common.{◌≡◌, ◌≢◌, ◌⊎◌, ℕ, Bool, true, false, not, ◌||◌, IsTrue, List, Some, inl, inr, refl, sym, ap, subst, ◌∙◌}
use Rattle.std.proofs.lemmas.Bool.{cases_eq, or_left}
use Rattle.kt_protocol.specs.Labels.{Label}
use Rattle.kt_protocol.specs.Logs.{IsIn, top_heard}
use Rattle.kt_protocol.specs.Machine.{Instance, Check, Rollback, Open, Ballot, Within, AppMessage, Message, Ask, Vote, Mark, Node, Board, State, instance_of}
use Rattle.kt_protocol.specs.Machine.{next_label}
use Rattle.kt_protocol.specs.Steps.{change, counted, counting, IsAgreed}
use Rattle.kt_protocol.specs.Runs.{AreNeighbours}
use Rattle.kt_protocol.proofs.Labels.{UpTo-refl, at-else}
use Rattle.kt_protocol.proofs.Streams.{Rising-map}
use Rattle.kt_protocol.proofs.Invariant.{core, a_vote, a_key, a_member, a_mark, IsMember, Gone, Undone, sent, undone, made, lost, cut_soon, Calm, Cover}
use Rattle.kt_protocol.proofs.Invariant.{ChildrenSaid, asked, waiting, voted, Standing, Away, Meant, top_of, TokenOf, Pair, Way}
use Rattle.kt_protocol.proofs.Invariant.{Engaged, BallotFits, Local, Invariant}
use Rattle.kt_protocol.proofs.Cases.{down-voting, voting-instance, voting-ballot, true-false, open-no}
use Rattle.kt_protocol.proofs.Cases.{lift_own}

-- the node with another ballot, of the same parent
gone-vote : (i : Instance) (b c : Ballot) → b.parent ≡ c.parent → Gone (Within i b) → Gone (Within i c)
gone-vote (Check k) b c e g = g
gone-vote (Rollback k) b c e g = sym e ∙ g

away-vote : (i : Instance) (b c : Ballot) (k : ℕ) → b.parent ≡ c.parent → Away (Within i b) k → Away (Within i c) k
away-vote (Check m) b c k e a = a
away-vote (Rollback m) b c k e (inl a) = inl (sym e ∙ a)
away-vote (Rollback m) b c k e (inr a) = inr a

abbrev pub voter : Instance → Ballot → List Vote → List Mark → Node → Node
voter i c vs ms n = record n { mode = Within i c; votes = vs; said = ms }

pub undone-vote : (i : Instance) (b c : Ballot) (n : Node) (vs : List Vote) (ms : List Mark) {q : ℕ} {l : Label} → n.mode ≡ Within i b → b.parent ≡ c.parent
    → Undone (core n) q l → Undone (core (voter i c vs ms n)) q l
undone-vote i b c n vs ms e p u = record { gone = gone-vote i b c p (subst Gone e u.gone); above = u.above; held = u.held }

pub meant-vote : (i : Instance) (b c : Ballot) (n : Node) (vs : List Vote) (ms : List Mark) (j : Instance) (q : ℕ) (l : Label) → n.mode ≡ Within i b
    → b.parent ≡ c.parent → Meant j (core n) q l → Meant j (core (voter i c vs ms n)) q l
meant-vote i b c n vs ms (Check k) q l e p m = m
meant-vote i b c n vs ms (Rollback k) q l e p m = (away-vote i b c k p (subst (λ t. Away t k) e m.0), m.1, m.2)

pub cover-vote : (i : Instance) (b c : Ballot) (n : Node) (vs : List Vote) (ms : List Mark) (j : Instance) (p : ℕ) (top : Label) → n.mode ≡ Within i b
    → Cover j (core n) p top → Cover j (core (voter i c vs ms n)) p top
cover-vote i b c n vs ms (Check k) p top e v = v
cover-vote i b c n vs ms (Rollback k) p top e (inl u) = inl (sym (ap instance_of e) ∙ u)
cover-vote i b c n vs ms (Rollback k) p top e (inr u) = inr u

pub vote-out : {B : Board} {p q : ℕ} {np nq : Node} {kept : List AppMessage} {link : List Message} (i : Instance) (b c : Ballot) (vs : List Vote)
    (ms : List Mark)
    → np.mode ≡ Within i b → b.parent ≡ c.parent
    → ((j : Instance) (l : Label) (z : ℕ) → IsIn (Ask j l z) link → B.verdict j ≡ Open → IsIn (a_mark j z) ms → ⊥)
    → (Standing B i np.tent → TokenOf B p q (voter i c vs ms np) nq kept link i c)
    → ((k : ℕ) → np.tent ≡ Some k → IsIn (a_mark (Check k) np.life) ms → Cover (Check k) (core nq) p (top_heard np.log q))
    → Pair B p q np nq kept link → Pair B p q (voter i c vs ms np) nq kept link
vote-out {B} {p} {q} {np} {nq} {kept} {link} i b c vs ms e par unsaid token cover o = record {
  agree = o.agree;
  caused = λ y l h. elim (o.caused y l h) [ made j ↦ made j | lost u ↦ lost (undone-vote i b c np vs ms e par u) | cut_soon s ↦ cut_soon s ];
  chain = Rising-map (UpTo-refl (next_label np)) (λ m h c'. elim c' [ sent j ↦ sent j | undone u ↦ undone (undone-vote i b c np vs ms e par u) ]) o.chain;
  asks = λ j l z h. let f = o.asks j l z h in record {
    member = f.member;
    unsaid = λ g. unsaid j l z h g;
    meant = λ g. meant-vote i b c np vs ms j q l e par (f.meant g);
  };
  token = λ j d g st. subst (λ k. TokenOf B p q new nq kept link k d) (voting-instance g)
      (subst (λ k. TokenOf B p q new nq kept link i k) (voting-ballot g) (token (subst (λ k. Standing B k np.tent) (sym (voting-instance g)) st)));
  votes = o.votes;
  cover = cover;
} where
  new : Node
  new = voter i c vs ms np

pub vote-into : {B : Board} {p q : ℕ} {np nq : Node} {kept : List AppMessage} {link : List Message} (i : Instance) (b c : Ballot) (vs : List Vote)
    (ms : List Mark)
    → nq.mode ≡ Within i b
    → ((j : Instance) (d : Ballot) → np.mode ≡ Within j d → Standing B j np.tent → TokenOf B p q np nq kept link j d
    → TokenOf B p q np (voter i c vs ms nq) kept link j d)
    → ((j : Instance) (z : ℕ) (y : Bool) → IsIn (a_vote j (a_key p z) y) vs → IsMember np.joined j z)
    → Pair B p q np nq kept link → Pair B p q np (voter i c vs ms nq) kept link
vote-into {B} {p} {q} {np} {nq} i b c vs ms e token votes o = record {
  agree = o.agree;
  caused = λ y l h. elim (o.caused y l h) [
    | made j ↦ made j
    | lost u ↦ lost u
    | cut_soon s ↦ cut_soon record { number = s.number; rolls = sym (ap instance_of e) ∙ s.rolls; decided = s.decided; above = s.above }
  ];
  chain = o.chain;
  asks = o.asks;
  token = λ j d g st. token j d g st (o.token j d g st);
  votes = votes;
  cover = λ k g s. cover-vote i b c nq vs ms (Check k) p (top_heard np.log q) e (o.cover k g s);
}

pub vote-local : {peer : ℕ → ℕ → Bool} {B : Board} {o : ℕ} {n : Node} (i : Instance) (b c : Ballot) (vs : List Vote) (ms : List Mark)
    → n.mode ≡ Within i b → b.parent ≡ c.parent → (IsIn (a_mark i n.life) ms → IsAgreed peer o c)
    → ((j : Instance) (z : ℕ) → IsIn (a_mark j z) ms → IsMember n.joined j z)
    → Local peer B o n → Local peer B o (voter i c vs ms n)
vote-local {peer} {B} {o} {n} i b c vs ms e par firm marks w = record {
  falls = w.falls;
  tail = w.tail;
  room = w.room;
  from = w.from;
  way = way i (subst (λ m. Way m n.tent) e w.way);
  ballot = λ j d g. subst (λ k. BallotFits peer o new k d) (voting-instance g) (subst (λ k. BallotFits peer o new i k) (voting-ballot g) record {
    member = subst (λ p. IsIn (a_member i n.life p) n.joined) par (w.ballot i b e).member;
    firm = firm;
  });
  root = λ k d g none. w.root k b (subst (λ j. n.mode ≡ Within j b) (voting-instance g) e) (par ∙ ap (λ d. d.parent) (voting-ballot g) ∙ none);
  members = w.members;
  present = λ j m g. present j (w.present j m g);
  marks = marks;
  holding = w.holding;
} where
  new : Node
  new = voter i c vs ms n

  way : (i : Instance) → Way (Within i b) n.tent → Way (Within i c) n.tent
  way (Check k) w = w
  way (Rollback k) w = w

  present : (j : Instance) → Engaged j n.mode n.tent → Engaged j (Within i c) n.tent
  present (Check k) g = g
  present (Rollback k) (inl g) = inl (sym (ap instance_of e) ∙ g)
  present (Rollback k) (inr g) = down-voting g e

-- a vote of q0 is counted
count-bits : (r y z : Bool) → y ≡ z → ((r || not y) ≡ true) ⊎ (z ≡ true)
count-bits r y true e = inr refl
count-bits r y false e = inl (rw e (or-true r)) where
  or-true : (r : Bool) → (r || true) ≡ true
  or-true true = refl
  or-true false = refl

pub step_counts : (peer : ℕ → ℕ → Bool) → AreNeighbours peer → (s : State) (o q : ℕ) (i : Instance) (b : Ballot) (y : Bool)
    → (s.node o).mode ≡ Within i b → b.awaited q ≡ true → IsTrue (peer o q)
    → IsIn (a_vote i (a_key o (s.node o).life) y) (s.node q).votes → Invariant peer s
    → Invariant peer (change o (counting i b q y) s)
step_counts peer near s o q i b y e waits t v w =
    lift_own peer near s o new refl refl
    (vote-local i b c n.votes n.said e refl (λ h. true-false waits ((((w.local o).ballot i b e).firm h).complete q t)) (w.local o).marks (w.local o))
    (λ x u ne. vote-out i b c n.votes n.said e refl (λ j l z h. ((w.pair o x u).asks j l z h).unsaid)
    (λ st. out x (cases_eq x q) ((w.pair o x u).token i b e st)) (w.pair o x u).cover (w.pair o x u))
    (λ p u ne. vote-into i b c n.votes n.said e (λ j d g st h. into p j d h) (w.pair p o u).votes (w.pair p o u)) w
  where
    n : Node
    n = s.node o

    c : Ballot
    c = counted q y b

    new : Node
    new = counting i b q y n

    out : (x : ℕ) → (x ≡ q) ⊎ (x ≢ q) → TokenOf s.board o x n (s.node x) ((s.node x).kept o) (s.link o x) i b
        → TokenOf s.board o x new (s.node x) ((s.node x).kept o) (s.link o x) i c
    out x (inl f) (asked a k none d) = absurd (none y (subst (λ z. IsIn (a_vote i (a_key o n.life) y) (s.node z).votes) (sym f) v))
    out x (inl f) (waiting a k none d) = absurd (none y (subst (λ z. IsIn (a_vote i (a_key o n.life) y) (s.node z).votes) (sym f) v))
    out x (inl f) (voted z k only g r h) = voted z k only g
        (λ a. count-bits b.refused y z (only y (subst (λ z. IsIn (a_vote i (a_key o n.life) y) (s.node z).votes) (sym f) v))) h
    out x (inr ne) (asked a k none d) = asked (at-else q false b.awaited x ne ∙ a) k none d
    out x (inr ne) (waiting a k none d) = waiting (at-else q false b.awaited x ne ∙ a) k none d
    out x (inr ne) (voted z k only g r h) = voted z k only g
        (λ a. elim (r (sym (at-else q false b.awaited x ne) ∙ a)) [ inl f ↦ inl (or_left b.refused (not y) f) | inr f ↦ inr f ]) h

    into : (p : ℕ) (j : Instance) (d : Ballot) → TokenOf s.board p o (s.node p) n (n.kept p) (s.link p o) j d
        → TokenOf s.board p o (s.node p) new (n.kept p) (s.link p o) j d
    into p j d (asked a k none f) = asked a k none f
    into p j d (waiting a k none f) = waiting a k none f
    into p j d (voted z k only g r h) = voted z k only
        (λ f. (cover-vote i b c n n.votes n.said j p (top_of j (s.node p).log (s.node p).perm o) e (g f).0, (g f).1)) r
        (λ x f par. ap (λ t. t.voted) (sym (voting-ballot f)) ∙ h b (e ∙ ap (λ j. Within j b) (voting-instance f))
        (ap (λ t. t.parent) (voting-ballot f) ∙ par))

-- a node whose instance is open stands
pub standing-open : {peer : ℕ → ℕ → Bool} {B : Board} {o : ℕ} {n : Node} (i : Instance) (b : Ballot) → n.mode ≡ Within i b → B.verdict i ≡ Open
    → Local peer B o n → Standing B i n.tent
standing-open {n = n} (Check k) b e g w = w.present (Check k) (b.parent, (w.ballot (Check k) b e).member) g
standing-open (Rollback k) b e g w = λ f. open-no g f

-- a vote that was counted, and no no
pub settled : {B : Board} {p q : ℕ} (np nq : Node) {kept : List AppMessage} {link : List Message} (i : Instance) (b : Ballot)
    → b.awaited q ≡ false → b.refused ≡ false → TokenOf B p q np nq kept link i b
    → Calm B i np.life (top_of i np.log np.perm q) kept link × Cover i (core nq) p (top_of i np.log np.perm q)
    × ChildrenSaid nq.joined nq.said i (a_key p np.life)
settled np nq i b a r (asked w k none d) = true-false w a
settled np nq i b a r (waiting w k none d) = true-false w a
settled np nq i b a r (voted z k only g s h) =
    let e : z ≡ true = elim (s a) [ inl f ↦ true-false f r | inr f ↦ f ] in
    (k, (g e).0, (g e).1)
