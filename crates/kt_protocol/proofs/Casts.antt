-- Votes cast.
-- Cited by Main.
use Rattle.std.proofs.Common.{◌≡◌, ◌⊎◌, ℕ, Bool, true, false, IsTrue, List, ◌∷◌, Some, None, inl, inr, refl, sym, ap, subst, ◌∙◌}
use Rattle.std.proofs.lemmas.Bool.{cases_eq}
use Rattle.kt_protocol.specs.Labels.{Label, Under, UpTo, at}
use Rattle.kt_protocol.specs.Logs.{IsIn, here, there, top_sent, top_heard}
use Rattle.kt_protocol.specs.Machine.{Instance, Check, Rollback, Open, Key, Ballot, Within, AppMessage, Message, Ask, Vote, Mark, Node, Board, State}
use Rattle.kt_protocol.specs.Machine.{instance_of}
use Rattle.kt_protocol.specs.Steps.{change, casting, saying, answering, IsAgreed}
use Rattle.kt_protocol.specs.Runs.{AreNeighbours}
use Rattle.kt_protocol.proofs.Labels.{UpTo-trans, Label-cases}
use Rattle.kt_protocol.proofs.Logs.{sent-tail, sent-top, heard-attained}
use Rattle.kt_protocol.proofs.Streams.{in-cons}
use Rattle.kt_protocol.proofs.Invariant.{core, a_vote, a_key, a_member, a_mark, IsMember, Gone, Caused, made, lost, cut_soon, Calm, Cover}
use Rattle.kt_protocol.proofs.Invariant.{NoVote, OneChild, ChildrenSaid, HasVoted, asked, waiting, voted, Standing, top_of, TokenOf, Pair}
use Rattle.kt_protocol.proofs.Invariant.{Local, Trees, Invariant}
use Rattle.kt_protocol.proofs.Frames.{Later-refl, lift, Trees-same, at-map, at-same}
use Rattle.kt_protocol.proofs.Cases.{some-one, voting-ballot, check-one, check-rollback, rollback-one, true-false}
use Rattle.kt_protocol.proofs.Cases.{lift_own}
use Rattle.kt_protocol.proofs.Trees.{Trees-say}
use Rattle.kt_protocol.proofs.Votes.{voter, cover-vote, vote-out, vote-into, vote-local, standing-open, settled}

cases_instance : (i j : Instance) → (i ≡ j) ⊎ (i ≡ j → ⊥)
cases_instance (Check k) (Check m) = elim (cases_eq k m) [ inl e ↦ inl (ap Check e) | inr ne ↦ inr (λ f. ne (check-one f)) ]
cases_instance (Rollback k) (Rollback m) = elim (cases_eq k m) [ inl e ↦ inl (ap Rollback e) | inr ne ↦ inr (λ f. ne (rollback-one f)) ]
cases_instance (Check k) (Rollback m) = inr (λ e. check-rollback e)
cases_instance (Rollback k) (Check m) = inr (λ e. check-rollback (sym e))

cases_key : (k m : Key) → (k ≡ m) ⊎ (k ≡ m → ⊥)
cases_key k m = go (cases_eq k.node m.node) (cases_eq k.life m.life) where
  go : (k.node ≡ m.node) ⊎ (k.node ≡ m.node → ⊥) → (k.life ≡ m.life) ⊎ (k.life ≡ m.life → ⊥) → (k ≡ m) ⊎ (k ≡ m → ⊥)
  go (inl e) (inl f) = inl (λ i. record { node = e i; life = f i })
  go (inl e) (inr f) = inr (λ g. f (ap (λ t. t.life) g))
  go (inr e) _ = inr (λ g. e (ap (λ t. t.node) g))

-- the ballot once it is cast
abbrev pub cast : Ballot → Ballot
cast b = record b { voted = true }

-- a participant casts its vote: the token of the asker
cast_token : (B : Board) (p o : ℕ) (np n : Node) (kept : List AppMessage) (link : List Message) (i : Instance) (b : Ballot) (k : Key) (y : Bool)
    (ms : List Mark)
    (j : Instance) (d : Ballot) → n.mode ≡ Within i b → b.parent ≡ Some k → b.voted ≡ false → IsIn (a_member i n.life (Some k)) n.joined
    → ((m : Mark) → IsIn m n.said → IsIn m ms) → (y ≡ true → IsIn (a_mark i n.life) ms)
    → (y ≡ true → j ≡ i → k ≡ a_key p np.life → Cover j (core n) p (top_of j np.log np.perm o))
    → TokenOf B p o np n kept link j d → TokenOf B p o np (voter i (cast b) (a_vote i k y ∷ n.votes) ms n) kept link j d
cast_token B p o np n kept link i b k y ms j d e par unvoted member grows said covers t = go t where
  new : Node
  new = voter i (cast b) (a_vote i k y ∷ n.votes) ms n

  key : Key
  key = a_key p np.life

  other : (j ≡ i → k ≡ key → ⊥) → (z : Bool) → IsIn (a_vote j key z) (a_vote i k y ∷ n.votes) → IsIn (a_vote j key z) n.votes
  other ne z h = elim (in-cons h) [ inl f ↦ absurd (ne (ap (λ v. v.instance) f) (sym (ap (λ v. v.asker) f))) | inr r ↦ r ]

  has : HasVoted new.mode j key
  has c f g = sym (ap (λ t. t.voted) (voting-ballot f))

  hit : d.awaited o ≡ true → Calm B j np.life (top_of j np.log np.perm o) kept link → NoVote n.votes j key → OneChild n.joined j key → j ≡ i → k ≡ key
      → TokenOf B p o np new kept link j d
  hit w a none one f g = voted y a
      (λ z h. elim (in-cons h) [ inl e ↦ ap (λ v. v.agrees) e | inr r ↦ absurd (none z r) ])
      (λ yes. (
        cover-vote i b (cast b) n new.votes ms j p (top_of j np.log np.perm o) e (covers yes f g),
        λ c m. subst (λ t. IsIn (a_mark t c) ms) (sym f) (subst (λ t. IsIn (a_mark i t) ms) (one.1 n.life own ∙ sym (one.1 c m)) (said yes)),
      ))
      (λ f. true-false w f) has
    where
      own : IsIn (a_member j n.life (Some key)) n.joined
      own = subst (λ t. IsIn (a_member t n.life (Some key)) n.joined) (sym f) (subst (λ t. IsIn (a_member i n.life (Some t)) n.joined) g member)

  go : TokenOf B p o np n kept link j d → TokenOf B p o np new kept link j d
  go (asked w a none c) = asked w a (λ z h. none z (other ne z h)) c where
    ne : j ≡ i → k ≡ key → ⊥
    ne f g = c n.life (subst (λ t. IsIn (a_member t n.life (Some key)) n.joined) (sym f) (subst (λ t. IsIn (a_member i n.life (Some t)) n.joined) g member))
  go (waiting w a none one) = pick (cases_instance j i) (cases_key k key) where
    pick : (j ≡ i) ⊎ (j ≡ i → ⊥) → (k ≡ key) ⊎ (k ≡ key → ⊥) → TokenOf B p o np new kept link j d
    pick (inl f) (inl g) = hit w a none one f g
    pick (inr f) _ = waiting w a (λ z h. none z (other (λ x y. f x) z h)) one
    pick (inl f) (inr g) = waiting w a (λ z h. none z (other (λ x y. g y) z h)) one
  go (voted z a only f r h) = voted z a (λ u v. only u (other ne u v))
      (λ g. (cover-vote i b (cast b) n new.votes ms j p (top_of j np.log np.perm o) e (f g).0, λ c m. grows (a_mark j c) ((f g).1 c m))) r has
    where
      ne : j ≡ i → k ≡ key → ⊥
      ne f g = true-false (h b (e ∙ ap (λ j. Within j b) (sym f)) (par ∙ ap Some g)) unvoted

-- what a holder heard from a node that holds in the same check, that node's tentative checkpoint has sent
held_cover : {peer : ℕ → ℕ → Bool} {B : Board} {p o : ℕ} {np n : Node} {kept : List AppMessage} {link : List Message} (k : ℕ) (b d : Ballot)
    → n.mode ≡ Within (Check k) b → np.mode ≡ Within (Check k) d → np.tent ≡ Some k → B.verdict (Check k) ≡ Open
    → Local peer B o n → Local peer B p np → Pair B o p n np kept link → Cover (Check k) (core n) p (top_heard np.log o)
held_cover {B = B} {p} {o} {np} {n} k b d e f tent opened w v r = inr (
  w.present (Check k) (b.parent, (w.ballot (Check k) b e).member) opened,
  go (Label-cases (top_heard np.log o) (top_heard np.perm o)),
) where
  caused : (y : ℕ) → Caused B o p (core n) np.mode np.perm y (top_heard np.log o) → UpTo (top_heard np.log o) (top_sent n.log p)
  caused y (made j) = sent-top n.log w.falls j
  caused y (lost u) = absurd (subst Gone e u.gone)
  caused y (cut_soon c) = check-rollback (some-one (sym (ap instance_of f) ∙ c.rolls))

  go : UpTo (top_heard np.log o) (top_heard np.perm o) ⊎ Under (top_heard np.perm o) (top_heard np.log o)
      → UpTo (top_heard np.log o) (top_sent n.log p)
  go (inl u) = UpTo-trans u (UpTo-trans r.agree (sent-tail p w.tail w.falls))
  go (inr u) = let h = heard-attained o v.tail u in caused h.0 (r.caused h.0 (top_heard np.log o) h.1)

-- who stands behind a node whose ballot is agreed
agreed_token : {peer : ℕ → ℕ → Bool} {s : State} (o : ℕ) (i : Instance) (b : Ballot) (q : ℕ) → (s.node o).mode ≡ Within i b → s.board.verdict i ≡ Open
    → IsAgreed peer o b → IsTrue (peer o q) → Invariant peer s
    → Calm s.board i (s.node o).life (top_of i (s.node o).log (s.node o).perm q) ((s.node q).kept o) (s.link o q)
    × Cover i (core (s.node q)) o (top_of i (s.node o).log (s.node o).perm q)
    × ChildrenSaid (s.node q).joined (s.node q).said i (a_key o (s.node o).life)
agreed_token {s = s} o i b q e opened agreed t w = settled (s.node o) (s.node q) i b (agreed.complete q t) agreed.none
    ((w.pair o q t).token i b e (standing-open i b e opened (w.local o)))

-- a node whose ballot is agreed says yes: all but the pairs in which it is the asked
says_unsaid : {peer : ℕ → ℕ → Bool} {s : State} (o : ℕ) (i : Instance) (b : Ballot) (q : ℕ) → (s.node o).mode ≡ Within i b → IsAgreed peer o b
    → IsTrue (peer o q) → Invariant peer s → (j : Instance) (l : Label) (z : ℕ) → IsIn (Ask j l z) (s.link o q) → s.board.verdict j ≡ Open
    → IsIn (a_mark j z) (a_mark i (s.node o).life ∷ (s.node o).said) → ⊥
says_unsaid {s = s} o i b q e agreed t w j l z h opened m = go (in-cons m) where
  go : (a_mark j z ≡ a_mark i (s.node o).life) ⊎ IsIn (a_mark j z) (s.node o).said → ⊥
  go (inl f) = (agreed_token o i b q e (subst (λ k. s.board.verdict k ≡ Open) (ap (λ m. m.instance) f) opened) agreed t w).0.none l
      (subst (λ (m : Mark). IsIn (Ask m.instance l m.life) (s.link o q)) f h)
  go (inr r) = ((w.pair o q t).asks j l z h).unsaid opened r

says_cover : {peer : ℕ → ℕ → Bool} {s : State} (o : ℕ) (i : Instance) (b : Ballot) (q : ℕ) → (s.node o).mode ≡ Within i b → IsAgreed peer o b
    → IsTrue (peer o q) → Invariant peer s → (k : ℕ) → (s.node o).tent ≡ Some k
    → IsIn (a_mark (Check k) (s.node o).life) (a_mark i (s.node o).life ∷ (s.node o).said)
    → Cover (Check k) (core (s.node q)) o (top_heard (s.node o).log q)
says_cover {s = s} o i b q e agreed t w k tent m = go (in-cons m) where
  go : (a_mark (Check k) (s.node o).life ≡ a_mark i (s.node o).life) ⊎ IsIn (a_mark (Check k) (s.node o).life) (s.node o).said
      → Cover (Check k) (core (s.node q)) o (top_heard (s.node o).log q)
  go (inl f) = let same : Check k ≡ i = ap (λ m. m.instance) f in
      subst (λ i. Cover i (core (s.node q)) o (top_of i (s.node o).log (s.node o).perm q)) (sym same)
      (agreed_token o i b q e (subst (λ k. s.board.verdict k ≡ Open) same ((w.local o).holding k tent).0) agreed t w).1
  go (inr r) = (w.pair o q t).cover k tent r

says_firm : {peer : ℕ → ℕ → Bool} (o : ℕ) (b : Ballot) → IsAgreed peer o b → IsAgreed peer o (cast b)
says_firm o b agreed = record { complete = agreed.complete; none = agreed.none }

says_marks : {peer : ℕ → ℕ → Bool} {s : State} (o : ℕ) (i : Instance) (b : Ballot) → (s.node o).mode ≡ Within i b → Invariant peer s
    → (j : Instance) (z : ℕ) → IsIn (a_mark j z) (a_mark i (s.node o).life ∷ (s.node o).said) → IsMember (s.node o).joined j z
says_marks {s = s} o i b e w j z m = go (in-cons m) where
  go : (a_mark j z ≡ a_mark i (s.node o).life) ⊎ IsIn (a_mark j z) (s.node o).said → IsMember (s.node o).joined j z
  go (inl f) = subst (λ (m : Mark). IsMember (s.node o).joined m.instance m.life) (sym f) (b.parent, ((w.local o).ballot i b e).member)
  go (inr r) = (w.local o).marks j z r

says_trees : {peer : ℕ → ℕ → Bool} {s : State} (o : ℕ) (i : Instance) (b : Ballot) (new : Node) → (s.node o).mode ≡ Within i b → IsAgreed peer o b
    → new.joined ≡ (s.node o).joined → new.said ≡ a_mark i (s.node o).life ∷ (s.node o).said → Invariant peer s
    → Trees peer s.board (λ x. (at o new s.node x).joined) (λ x. (at o new s.node x).said)
says_trees {peer} {s} o i b new e agreed same_joined same_said w = Trees-same
    (λ x. at-same o (λ y. (s.node y).joined) x ∙ ap (λ a. at o a (λ y. (s.node y).joined) x) (sym same_joined) ∙ at-map (λ n. n.joined) o new s.node x)
    (λ x. ap (λ a. at o a (λ y. (s.node y).said) x) (sym same_said) ∙ at-map (λ n. n.said) o new s.node x)
    (Trees-say o i (s.node o).life children w.trees)
  where
    children : (x d : ℕ) (k : Key) → k.node ≡ o → k.life ≡ (s.node o).life → IsIn (a_member i d (Some k)) (s.node x).joined → s.board.verdict i ≡ Open
        → IsIn (a_mark i d) (s.node x).said
    children x d k f g m opened =
        (agreed_token o i b x e opened agreed (subst (λ y. IsTrue (peer y x)) f (w.trees.asker x i d k m)) w).2 d
        (subst (λ k. IsIn (a_member i d (Some k)) (s.node x).joined) same m) where
          same : k ≡ a_key o (s.node o).life
          same = λ i. record { node = f i; life = g i }

-- the votes of a participant after it cast
cast_member : {B : Board} {p o : ℕ} {np n : Node} {kept : List AppMessage} {link : List Message} (i : Instance) (k : Key) (y : Bool)
    → (k.node ≡ p → IsMember np.joined i k.life) → Pair B p o np n kept link
    → (j : Instance) (z : ℕ) (v : Bool) → IsIn (a_vote j (a_key p z) v) (a_vote i k y ∷ n.votes) → IsMember np.joined j z
cast_member {p = p} {np = np} {n} i k y parent r j z v h = go (in-cons h) where
  go : (a_vote j (a_key p z) v ≡ a_vote i k y) ⊎ IsIn (a_vote j (a_key p z) v) n.votes → IsMember np.joined j z
  go (inl f) = subst (λ t. IsMember np.joined t z) (sym (ap (λ v. v.instance) f))
      (subst (λ t. IsMember np.joined i t) (sym (ap (λ v. v.asker.life) f)) (parent (sym (ap (λ v. v.asker.node) f))))
  go (inr m) = r.votes j z v m

parent_member : {peer : ℕ → ℕ → Bool} {s : State} (o : ℕ) (i : Instance) (k : Key) (c p : ℕ) → IsIn (a_member i c (Some k)) (s.node o).joined → Invariant peer s
    → k.node ≡ p → IsMember (s.node p).joined i k.life
parent_member {s = s} o i k c p m w e = subst (λ x. IsMember (s.node x).joined i k.life) e (w.trees.parents o i c k m)

pub step_agrees : (peer : ℕ → ℕ → Bool) → AreNeighbours peer → (s : State) (o : ℕ) (i : Instance) (b : Ballot) (k : Key)
    → (s.node o).mode ≡ Within i b → b.parent ≡ Some k → b.voted ≡ false → IsAgreed peer o b → Invariant peer s
    → Invariant peer (change o (λ n. answering i k true (saying i (casting i b n))) s)
step_agrees peer near s o i b k e par unvoted agreed w =
    lift peer near s o new s.link s.board (Later-refl s.board) (λ k e. e) w.fresh (λ p q ne nf. refl)
    (vote-local i b (cast b) vs ms e refl (λ h. says_firm o b agreed) (says_marks o i b e w) (w.local o))
    (λ q u ne. vote-out i b (cast b) vs ms e refl (says_unsaid o i b q e agreed u w) (λ st. (w.pair o q u).token i b e st)
    (says_cover o i b q e agreed u w) (w.pair o q u))
    (λ p u ne. vote-into i b (cast b) vs ms e
    (λ j d g st h. cast_token s.board p o (s.node p) n (n.kept p) (s.link p o) i b k true ms j d e par unvoted member (λ m r. there r) (λ f. here)
    (λ f same key. covers p u j d g st same) h)
    (cast_member i k true (parent_member o i k n.life p member w) (w.pair p o u)) (w.pair p o u))
    (says_trees o i b new e agreed refl refl w) w
  where
    n : Node
    n = s.node o

    vs : List Vote
    vs = a_vote i k true ∷ n.votes

    ms : List Mark
    ms = a_mark i n.life ∷ n.said

    new : Node
    new = voter i (cast b) vs ms n

    member : IsIn (a_member i n.life (Some k)) n.joined
    member = subst (λ t. IsIn (a_member i n.life t) n.joined) par ((w.local o).ballot i b e).member

    covers : (p : ℕ) → IsTrue (peer p o) → (j : Instance) (d : Ballot) → (s.node p).mode ≡ Within j d → Standing s.board j (s.node p).tent → j ≡ i
        → Cover j (core n) p (top_of j (s.node p).log (s.node p).perm o)
    covers p u (Check m) d g st same = held_cover m b d (e ∙ ap (λ j. Within j b) (sym same)) g st ((w.local p).holding m st).0 (w.local o) (w.local p)
        (w.pair o p (near.both p o u))
    covers p u (Rollback m) d g st same = inl (ap instance_of e ∙ ap Some (sym same))

pub step_declines : (peer : ℕ → ℕ → Bool) → AreNeighbours peer → (s : State) (o : ℕ) (i : Instance) (b : Ballot) (k : Key)
    → (s.node o).mode ≡ Within i b → b.parent ≡ Some k → b.voted ≡ false → Invariant peer s
    → Invariant peer (change o (λ n. answering i k false (casting i b n)) s)
step_declines peer near s o i b k e par unvoted w =
    lift_own peer near s o new refl refl
    (vote-local i b (cast b) vs n.said e refl (λ h. says_firm o b (((w.local o).ballot i b e).firm h)) (w.local o).marks (w.local o))
    (λ q u ne. vote-out i b (cast b) vs n.said e refl (λ j l z h. ((w.pair o q u).asks j l z h).unsaid) (λ st. (w.pair o q u).token i b e st)
    (w.pair o q u).cover (w.pair o q u))
    (λ p u ne. vote-into i b (cast b) vs n.said e
    (λ j d g st h. cast_token s.board p o (s.node p) n (n.kept p) (s.link p o) i b k false n.said j d e par unvoted member (λ m r. r)
    (λ f. true-false f refl) (λ f. true-false f refl) h)
    (cast_member i k false (parent_member o i k n.life p member w) (w.pair p o u)) (w.pair p o u)) w
  where
    n : Node
    n = s.node o

    vs : List Vote
    vs = a_vote i k false ∷ n.votes

    new : Node
    new = voter i (cast b) vs n.said n

    member : IsIn (a_member i n.life (Some k)) n.joined
    member = subst (λ t. IsIn (a_member i n.life t) n.joined) par ((w.local o).ballot i b e).member

-- the initiator says yes
pub step_says : (peer : ℕ → ℕ → Bool) → AreNeighbours peer → (s : State) (o : ℕ) (i : Instance) (b : Ballot)
    → (s.node o).mode ≡ Within i b → b.parent ≡ None → IsAgreed peer o b → Invariant peer s
    → Invariant peer (change o (λ n. saying i (casting i b n)) s)
step_says peer near s o i b e par agreed w =
    lift peer near s o new s.link s.board (Later-refl s.board) (λ k e. e) w.fresh (λ p q ne nf. refl)
    (vote-local i b (cast b) n.votes ms e refl (λ h. says_firm o b agreed) (says_marks o i b e w) (w.local o))
    (λ q u ne. vote-out i b (cast b) n.votes ms e refl (says_unsaid o i b q e agreed u w) (λ st. (w.pair o q u).token i b e st)
    (says_cover o i b q e agreed u w) (w.pair o q u))
    (λ p u ne. vote-into i b (cast b) n.votes ms e (λ j d g st h. token p j d h) (w.pair p o u).votes (w.pair p o u))
    (says_trees o i b new e agreed refl refl w) w
  where
    n : Node
    n = s.node o

    ms : List Mark
    ms = a_mark i n.life ∷ n.said

    new : Node
    new = voter i (cast b) n.votes ms n

    token : (p : ℕ) (j : Instance) (d : Ballot) → TokenOf s.board p o (s.node p) n (n.kept p) (s.link p o) j d
        → TokenOf s.board p o (s.node p) new (n.kept p) (s.link p o) j d
    token p j d (asked a k none f) = asked a k none f
    token p j d (waiting a k none f) = waiting a k none f
    token p j d (voted z k only g r h) = voted z k only
        (λ f. (cover-vote i b (cast b) n n.votes ms j p (top_of j (s.node p).log (s.node p).perm o) e (g f).0, λ c m. there ((g f).1 c m))) r
        (λ x f q. sym (ap (λ t. t.voted) (voting-ballot f)))
