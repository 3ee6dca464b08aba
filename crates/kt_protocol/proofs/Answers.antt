-- Asks dropped, refused and granted.
-- Cited by Joins, Main, Starts.
use Rattle.std.proofs.Common.{◌≡◌, ◌≢◌, ◌⊎◌, ℕ, Bool, true, false, IsTrue, List, ◌∷◌, ◌++◌, inl, inr, refl, sym, ap, subst}
use Rattle.kt_protocol.specs.Labels.{Label}
use Rattle.kt_protocol.specs.Logs.{IsIn, here, there}
use Rattle.kt_protocol.specs.Machine.{Instance, Check, Rollback, Key, Ballot, AppMessage, Message, App, Ask, Vote, Member, Node, Board, State}
use Rattle.kt_protocol.specs.Steps.{change, pull, sieved, sifting, answering, MayAgree}
use Rattle.kt_protocol.specs.Runs.{AreNeighbours}
use Rattle.kt_protocol.proofs.Labels.{at-here, at-else}
use Rattle.kt_protocol.proofs.Streams.{in-cons, apps, Sub, Sub-app, Sub-refl, Sub-in, sieve-part, sieve-in, NoAsk, Asked, front, later}
use Rattle.kt_protocol.proofs.Invariant.{core, a_vote, a_key, a_member, IsMember, Behind, KeptUpTo, Calm, Cover, NoVote, NoChild, HasVoted, asked, waiting}
use Rattle.kt_protocol.proofs.Invariant.{voted, top_of, TokenOf, Pair, Local, Invariant}
use Rattle.kt_protocol.proofs.Cases.{lift_pull, true-false}
use Rattle.kt_protocol.proofs.Keeps.{passes, idle-out, idle-local}

pub ask-front : {i j : Instance} {c z : ℕ} {top l : Label} {Past : List Message → Type 0} {rest : List Message}
    → Asked i c top Past (Ask j l z ∷ rest)
    → ((Ask i top c ≡ Ask j l z) × NoAsk i c rest × Past rest) ⊎ (((m : Label) → Ask i m c ≢ Ask j l z) × Asked i c top Past rest)
ask-front (front none b) = inl (refl, none, b)
ask-front (later ne a) = inr (ne, a)

pub no-ask-front : {i : Instance} {c : ℕ} {m : Message} {rest : List Message} → NoAsk i c (m ∷ rest) → (l : Label) → Ask i l c ≢ m
no-ask-front {i} {c} {m} {rest} none l e = none l (subst (λ a. IsIn (Ask i l c) (a ∷ rest)) e here)

pub sieved-part : (i : Instance) (l : Label) (ks : List AppMessage) → Sub (sieved i l ks) ks
sieved-part (Check k) l ks = Sub-refl ks
sieved-part (Rollback k) l ks = sieve-part l ks

abbrev sieved_by : Message → List AppMessage → List AppMessage
sieved_by (App m) ks = ks
sieved_by (Ask i l c) ks = sieved i l ks

low-sieved : (i : Instance) (top : Label) (ks : List AppMessage) → KeptUpTo i top (sieved i top ks)
low-sieved (Check k) top ks = tt
low-sieved (Rollback k) top ks = sieve-in top ks

low-part : (i : Instance) (top : Label) {xs ys : List AppMessage} → Sub xs ys → KeptUpTo i top ys → KeptUpTo i top xs
low-part (Check k) top s f = tt
low-part (Rollback k) top s f = λ m i. f m (Sub-in s i)

behind-ask : (B : Board) (i j : Instance) (l : Label) (z : ℕ) (rest : List Message) → Behind B i (Ask j l z ∷ rest) → Behind B i rest
behind-ask B (Check k) j l z rest b = tt
behind-ask B (Rollback k) j l z rest b = record { bare = b.bare; unasked = λ m n c i. b.unasked m n c (there i) }

pub calm-ask : {B : Board} (i : Instance) {c : ℕ} {top : Label} {j : Instance} {l : Label} {z : ℕ} {rest : List Message} (kept : List AppMessage)
    → Calm B i c top kept (Ask j l z ∷ rest) → Calm B i c top (sieved j l kept) rest
calm-ask {B} i {top = top} {j} {l} {z} {rest} kept calm = record {
  none = λ m k. calm.none m (there k);
  behind = behind-ask B i j l z rest calm.behind;
  low = low-part i top (sieved-part j l kept) calm.low;
}

pub calm-asked : {B : Board} (i : Instance) {c : ℕ} {top : Label} {j : Instance} {l : Label} {z : ℕ} {rest : List Message} (kept : List AppMessage)
    → Ask i top c ≡ Ask j l z → NoAsk i c rest → Behind B i rest → Calm B i c top (sieved j l kept) rest
calm-asked i {top = top} kept e none b = record {
  none = none;
  behind = b;
  low = subst (λ m. KeptUpTo i top (sieved_by m kept)) e (low-sieved i top kept);
}

abbrev ask_instance : Instance → Message → Instance
ask_instance j (App m) = j
ask_instance j (Ask i l c) = i

abbrev ask_life : Message → ℕ
ask_life (App m) = 0
ask_life (Ask i l c) = c

abbrev label_asked : Label → Message → Label
label_asked m (App k) = m
label_asked m (Ask i l c) = l

pub ask-label : {i j : Instance} {l m : Label} {c z : ℕ} → Ask i l c ≡ Ask j m z → l ≡ m
ask-label {l = l} e = ap (label_asked l) e

-- a vote of another key
pub other-key : {i j : Instance} {x c z : ℕ} {y v : Bool} {l : Label} → ((m : Label) → Ask i m c ≢ Ask j l z)
    → a_vote i (a_key x c) y ≡ a_vote j (a_key x z) v → ⊥
other-key {i} {j} {x} {c} {z} {l = l} ne e =
    let same : i ≡ j = ap (λ v. v.instance) e in
    let life : c ≡ z = ap (λ v. v.asker.life) e in
    ne l (subst (λ k. Ask i l c ≡ Ask k l z) same (ap (λ n. Ask i l n) life))

-- the ask at the front of the link is taken off: what becomes of the token of its key
pub ask_token : (B : Board) (p q : ℕ) (np nq : Node) (kept : List AppMessage) (j : Instance) (l : Label) (z : ℕ) (rest : List Message)
    (held : ℕ → List AppMessage)
    (vs : List Vote) (i : Instance) (b : Ballot)
    → (((m : Label) → Ask i m np.life ≢ Ask j l z) → (y : Bool) → IsIn (a_vote i (a_key p np.life) y) vs → IsIn (a_vote i (a_key p np.life) y) nq.votes)
    → (b.awaited q ≡ true → Ask i (top_of i np.log np.perm q) np.life ≡ Ask j l z → Calm B i np.life (top_of i np.log np.perm q) (sieved j l kept) rest
    → NoVote nq.votes i (a_key p np.life) → NoChild nq.joined i (a_key p np.life)
    → TokenOf B p q np record nq { kept = held; votes = vs } (sieved j l kept) rest i b)
    → TokenOf B p q np nq kept (Ask j l z ∷ rest) i b
    → TokenOf B p q np record nq { kept = held; votes = vs } (sieved j l kept) rest i b
ask_token B p q np nq kept j l z rest held vs i b other mine (asked w a n c) = elim (ask-front a) [
  | inl f ↦ mine w f.0 (calm-asked i kept f.0 f.1 f.2) n c
  | inr g ↦ asked w g.1 (λ y v. n y (other g.0 y v)) c
]
ask_token B p q np nq kept j l z rest held vs i b other mine (waiting w c n k) =
    waiting w (calm-ask i kept c) (λ y v. n y (other (no-ask-front c.none) y v)) k
ask_token B p q np nq kept j l z rest held vs i b other mine (voted y c n f r v) =
    voted y (calm-ask i kept c) (λ u v. n u (other (no-ask-front c.none) u v)) f r v

votes-token : (B : Board) (p q : ℕ) (np nq : Node) (kept : List AppMessage) (link : List Message) (held : ℕ → List AppMessage)
    (vs : List Vote) (i : Instance) (b : Ballot)
    → ((y : Bool) → IsIn (a_vote i (a_key p np.life) y) vs → IsIn (a_vote i (a_key p np.life) y) nq.votes)
    → TokenOf B p q np nq kept link i b → TokenOf B p q np record nq { kept = held; votes = vs } kept link i b
votes-token B p q np nq kept link held vs i b other (asked w a n c) = asked w a (λ y v. n y (other y v)) c
votes-token B p q np nq kept link held vs i b other (waiting w c n k) = waiting w c (λ y v. n y (other y v)) k
votes-token B p q np nq kept link held vs i b other (voted y c n f r v) = voted y c (λ u v. n u (other u v)) f r v

-- o takes an ask of x off the link, and these are its votes afterwards
step_answer : (peer : ℕ → ℕ → Bool) → AreNeighbours peer → (s : State) (o x : ℕ) (j : Instance) (l : Label) (z : ℕ) (rest : List Message)
    (vs : List Vote)
    → IsTrue (peer x o) → s.link x o ≡ Ask j l z ∷ rest
    → ((p : ℕ) (i : Instance) (c : ℕ) (y : Bool) → p ≢ x → IsIn (a_vote i (a_key p c) y) vs → IsIn (a_vote i (a_key p c) y) (s.node o).votes)
    → (IsMember (s.node x).joined j z → (i : Instance) (c : ℕ) (y : Bool) → IsIn (a_vote i (a_key x c) y) vs
    → IsIn (a_vote i (a_key x c) y) (s.node o).votes ⊎ IsMember (s.node x).joined i c)
    → ((i : Instance) (c : ℕ) → ((m : Label) → Ask i m c ≢ Ask j l z) → (y : Bool) → IsIn (a_vote i (a_key x c) y) vs
    → IsIn (a_vote i (a_key x c) y) (s.node o).votes)
    → ((kept : List AppMessage) (held : ℕ → List AppMessage) (i : Instance) (b : Ballot)
    → b.awaited o ≡ true → Ask i (top_of i (s.node x).log (s.node x).perm o) (s.node x).life ≡ Ask j l z
    → Calm s.board i (s.node x).life (top_of i (s.node x).log (s.node x).perm o) kept rest
    → NoVote (s.node o).votes i (a_key x (s.node x).life) → NoChild (s.node o).joined i (a_key x (s.node x).life)
    → TokenOf s.board x o (s.node x) record (s.node o) { kept = held; votes = vs } kept rest i b)
    → Invariant peer s → Invariant peer (change o (λ n. record (sifting j x l n) { votes = vs }) (pull x o rest s))
step_answer peer near s o x j l z rest vs t first others members different mine w =
    lift_pull peer near s o x rest new refl refl t (λ p ne. at-else x ks n.kept p ne)
    (idle-local new.kept vs (w.local o))
    (λ q u ne. idle-out new.kept vs (w.pair o q u))
    (subst (λ k. Pair s.board x o (s.node x) new k rest) (sym (at-here x ks n.kept))
    (passes new.kept vs (Sub-app (apps rest) (sieved-part j l (n.kept x))) (λ i l c k. there k)
    (λ i b e g. ask_token s.board x o (s.node x) n (n.kept x) j l z rest new.kept vs i b
    (different i (s.node x).life) (mine ks new.kept i b))
    (λ i c y v. elim (members (pair.asks j l z here).member i c y v) [ inl k ↦ pair.votes i c y k | inr k ↦ k ]) pair))
    (λ p u ne nf. passes new.kept vs (Sub-refl (n.kept p ++ apps (s.link p o))) (λ i l c k. k)
    (λ i b e g. votes-token s.board p o (s.node p) n (n.kept p) (s.link p o) new.kept vs i b (λ y v. others p i (s.node p).life y nf v))
    (λ i c y v. (w.pair p o u).votes i c y (others p i c y nf v)) (w.pair p o u)) w
  where
    n : Node
    n = s.node o

    ks : List AppMessage
    ks = sieved j l (n.kept x)

    new : Node
    new = record (sifting j x l n) { votes = vs }

    pair : Pair s.board x o (s.node x) n (n.kept x) (Ask j l z ∷ rest)
    pair = subst (λ link. Pair s.board x o (s.node x) n (n.kept x) link) first (w.pair x o t)

pub step_ignores : (peer : ℕ → ℕ → Bool) → AreNeighbours peer → (s : State) (o x : ℕ) (j : Instance) (l : Label) (z : ℕ) (rest : List Message)
    → IsTrue (peer x o) → s.link x o ≡ Ask j l z ∷ rest
    → Invariant peer s → Invariant peer (change o (sifting j x l) (pull x o rest s))
step_ignores peer near s o x j l z rest t first w =
    step_answer peer near s o x j l z rest (s.node o).votes t first (λ p i c y ne v. v) (λ m i c y v. inl v) (λ i c ne y v. v)
    (λ kept held i b a e calm n c. waiting a calm n (0, λ d m. absurd (c d m))) w

-- the votes with one more of this ask
more-votes : (o x : ℕ) (j : Instance) (z : ℕ) (v : Bool) (old : List Vote) (p : ℕ) (i : Instance) (c : ℕ) (y : Bool) → p ≢ x
    → IsIn (a_vote i (a_key p c) y) (a_vote j (a_key x z) v ∷ old) → IsIn (a_vote i (a_key p c) y) old
more-votes o x j z v old p i c y ne k = go (in-cons k) where
  go : (a_vote i (a_key p c) y ≡ a_vote j (a_key x z) v) ⊎ IsIn (a_vote i (a_key p c) y) old → IsIn (a_vote i (a_key p c) y) old
  go (inl e) = absurd (ne (ap (λ u. u.asker.node) e))
  go (inr r) = r

vote-member : (J : List Member) (x : ℕ) (j : Instance) (z : ℕ) (v : Bool) (old : List Vote) → IsMember J j z → (i : Instance) (c : ℕ) (y : Bool)
    → IsIn (a_vote i (a_key x c) y) (a_vote j (a_key x z) v ∷ old) → IsIn (a_vote i (a_key x c) y) old ⊎ IsMember J i c
vote-member J x j z v old m i c y k = go (in-cons k) where
  go : (a_vote i (a_key x c) y ≡ a_vote j (a_key x z) v) ⊎ IsIn (a_vote i (a_key x c) y) old → IsIn (a_vote i (a_key x c) y) old ⊎ IsMember J i c
  go (inl e) = inr (subst (λ (u : Vote). IsMember J u.instance u.asker.life) (sym e) m)
  go (inr r) = inl r

vote-other : (x : ℕ) (j : Instance) (l : Label) (z : ℕ) (v : Bool) (old : List Vote) (i : Instance) (c : ℕ) → ((m : Label) → Ask i m c ≢ Ask j l z)
    → (y : Bool) → IsIn (a_vote i (a_key x c) y) (a_vote j (a_key x z) v ∷ old) → IsIn (a_vote i (a_key x c) y) old
vote-other x j l z v old i c ne y k = elim (in-cons k) [ inl e ↦ absurd (other-key ne e) | inr r ↦ r ]

-- the only vote of the key
one-vote : (x : ℕ) (j : Instance) (z : ℕ) (v : Bool) (old : List Vote) (i : Instance) (c : ℕ) → NoVote old i (a_key x c)
    → (y : Bool) → IsIn (a_vote i (a_key x c) y) (a_vote j (a_key x z) v ∷ old) → y ≡ v
one-vote x j z v old i c none y k = elim (in-cons k) [ inl e ↦ ap (λ u. u.agrees) e | inr r ↦ absurd (none y r) ]

pub childless : {peer : ℕ → ℕ → Bool} {B : Board} {o : ℕ} {n : Node} → Local peer B o n → (i : Instance) (k : Key) → NoChild n.joined i k → HasVoted n.mode i k
childless {n = n} w i k none b e par =
    absurd (none n.life (subst (λ r. IsIn (a_member i n.life r) n.joined) par (w.ballot i b e).member))

pub step_refuses : (peer : ℕ → ℕ → Bool) → AreNeighbours peer → (s : State) (o x : ℕ) (j : Instance) (l : Label) (z : ℕ) (rest : List Message)
    → IsTrue (peer x o) → s.link x o ≡ Ask j l z ∷ rest
    → Invariant peer s → Invariant peer (change o (λ n. answering j (a_key x z) false (sifting j x l n)) (pull x o rest s))
step_refuses peer near s o x j l z rest t first w =
    step_answer peer near s o x j l z rest (a_vote j (a_key x z) false ∷ (s.node o).votes) t first
    (λ p i c y ne v. more-votes o x j z false (s.node o).votes p i c y ne v)
    (λ m. vote-member (s.node x).joined x j z false (s.node o).votes m)
    (λ i c. vote-other x j l z false (s.node o).votes i c)
    (λ kept held i b a e calm n c. voted false calm (one-vote x j z false (s.node o).votes i (s.node x).life n)
    (λ f. true-false f refl) (λ f. true-false a f) (childless (w.local o) i (a_key x (s.node x).life) c)) w

grant-cover : (i : Instance) (n : Node) (x : ℕ) (l : Label) → MayAgree i n x l → Cover i (core n) x l
grant-cover (Check k) n x l m = m
grant-cover (Rollback k) n x l m = m

abbrev CoveredBy : Message → Node → ℕ → Type 0
CoveredBy (App m) n x = Unit {0}
CoveredBy (Ask i l c) n x = Cover i (core n) x l

pub step_grants : (peer : ℕ → ℕ → Bool) → AreNeighbours peer → (s : State) (o x : ℕ) (j : Instance) (l : Label) (z : ℕ) (rest : List Message)
    → IsTrue (peer x o) → s.link x o ≡ Ask j l z ∷ rest → MayAgree j (s.node o) x l
    → Invariant peer s → Invariant peer (change o (λ n. answering j (a_key x z) true (sifting j x l n)) (pull x o rest s))
step_grants peer near s o x j l z rest t first may w =
    step_answer peer near s o x j l z rest (a_vote j (a_key x z) true ∷ (s.node o).votes) t first
    (λ p i c y ne v. more-votes o x j z true (s.node o).votes p i c y ne v)
    (λ m. vote-member (s.node x).joined x j z true (s.node o).votes m)
    (λ i c. vote-other x j l z true (s.node o).votes i c)
    (λ kept held i b a e calm n c. voted true calm (one-vote x j z true (s.node o).votes i (s.node x).life n)
    (λ f. (subst (λ m. CoveredBy m (s.node o) x) (sym e) (grant-cover j (s.node o) x l may), λ d m. absurd (c d m)))
    (λ f. true-false a f) (childless (w.local o) i (a_key x (s.node x).life) c)) w
