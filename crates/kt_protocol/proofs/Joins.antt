-- A node begins to vote in an instance: what stays as it was.
-- Cited by Starts.
use Rattle.std.proofs.Common.{◌≡◌, ◌≢◌, ◌⊎◌, ◌≤◌, ℕ, Bool, true, false, List, [], ◌∷◌, ◌++◌, Option, Some, None, inl, inr, refl, sym, ap, subst, ◌∙◌}
use Rattle.std.proofs.Common.{append-nil, le_of_eq, if◌then◌else◌}
use Rattle.kt_protocol.specs.Labels.{Label}
use Rattle.kt_protocol.specs.Logs.{IsIn, here, there, top_heard}
use Rattle.kt_protocol.specs.Machine.{Instance, Check, Rollback, Open, Key, Ballot, Within, AppMessage, Message, App, Ask, Node, Board, instance_of, next_label}
use Rattle.kt_protocol.specs.Steps.{stored, sieved, joining, ask_label, asking}
use Rattle.kt_protocol.proofs.Labels.{UpTo-refl}
use Rattle.kt_protocol.proofs.Streams.{in-append, in-one, in-cons, apps, apps-append, Rising, Rising-map, Rising-sub, Sub, Sub-refl, Sub-app, NoAsk, Asked}
use Rattle.kt_protocol.proofs.Streams.{Asked-push}
use Rattle.kt_protocol.proofs.Invariant.{core, a_key, a_member, a_mark, IsMember, Gone, Undone, Carried, sent, undone, made, lost, cut_soon, Behind, KeptUpTo}
use Rattle.kt_protocol.proofs.Invariant.{Cover, NoVote, NoChild, HasVoted, asked, waiting, voted, Away, Meant, FineAsk, top_of, TokenOf, Pair, Way, Engaged}
use Rattle.kt_protocol.proofs.Invariant.{BallotFits, Local}
use Rattle.kt_protocol.proofs.Cases.{some-none, none-some, some-one, voting-instance, voting-ballot}
use Rattle.kt_protocol.proofs.Answers.{ask-front, no-ask-front, calm-ask, calm-asked, sieved-part}

-- the ballot of a node that joins
abbrev pub first_ballot : Option Key → (ℕ → Bool) → Ballot
first_ballot par cohort = record { parent = par; awaited = cohort; refused = false; voted = false }

-- the node may join: it votes in nothing, holds nothing, and is no member in this incarnation of an open instance
pub record IsFree (B : Board) (i : Instance) (b : Ballot) (n : Node) : Type 0 where
  pub free : instance_of n.mode ≡ None
  pub none : n.tent ≡ None
  pub opened : B.verdict i ≡ Open
  pub alone : (j : Instance) → IsMember n.joined j n.life → B.verdict j ≡ Open → ⊥
  pub marks : (j : Instance) (c : ℕ) → IsIn (a_mark j c) n.said → IsMember n.joined j c
  pub gone : Gone n.mode → Gone (Within i b)
  pub away : (k : ℕ) → Away n.mode k → Away (Within i b) k

pub label-top : (i : Instance) (n : Node) (q : ℕ) → ask_label i n q ≡ top_of i n.log n.perm q
label-top (Check k) n q = refl
label-top (Rollback k) n q = refl

undone-join : {B : Board} (i : Instance) (par : Option Key) (cohort : ℕ → Bool) (n : Node) {q : ℕ} {l : Label}
    → IsFree B i (first_ballot par cohort) n → Undone (core n) q l → Undone (core (joining i par cohort n)) q l
undone-join (Check k) par cohort n f u = absurd (f.gone u.gone)
undone-join (Rollback k) par cohort n f u = record { gone = f.gone u.gone; above = u.above; held = u.held }

meant-join : {B : Board} (i : Instance) (par : Option Key) (cohort : ℕ → Bool) (n : Node) (j : Instance) (q : ℕ) (l : Label)
    → IsFree B i (first_ballot par cohort) n → Meant j (core n) q l → Meant j (core (joining i par cohort n)) q l
meant-join i par cohort n (Check k) q l f m = some-none (sym m.0 ∙ f.none)
meant-join (Check k) par cohort n (Rollback j) q l f m = absurd (f.away j m.0)
meant-join (Rollback k) par cohort n (Rollback j) q l f m = (f.away j m.0, m.1, m.2)

meant-new : {B : Board} (i : Instance) (par : Option Key) (cohort : ℕ → Bool) (n : Node) (q : ℕ)
    → IsFree B i (first_ballot par cohort) n → Meant i (core (joining i par cohort n)) q (ask_label i n q)
meant-new (Check k) par cohort n q f = (refl, refl)
meant-new (Rollback k) par cohort n q f = (inr refl, f.none, refl)

cover-join : {B : Board} (i : Instance) (par : Option Key) (cohort : ℕ → Bool) (n : Node) (j : Instance) (p : ℕ) (top : Label)
    → IsFree B i (first_ballot par cohort) n → Cover j (core n) p top → Cover j (core (joining i par cohort n)) p top
cover-join i par cohort n (Check k) p top f (inl u) = inl u
cover-join i par cohort n (Check k) p top f (inr u) = some-none (sym u.0 ∙ f.none)
cover-join i par cohort n (Rollback k) p top f (inl u) = none-some (sym f.free ∙ u)
cover-join i par cohort n (Rollback k) p top f (inr u) = inr u

uncovered : {B : Board} (i : Instance) (par : Option Key) (cohort : ℕ → Bool) (n : Node) (k : ℕ) {X : Type 0}
    → IsFree B i (first_ballot par cohort) n → stored i n.tent ≡ Some k → IsIn (a_mark (Check k) n.life) n.said → X
uncovered {B} (Check m) par cohort n k f e s =
    absurd (f.alone (Check k) (f.marks (Check k) n.life s) (subst (λ j. B.verdict (Check j) ≡ Open) (some-one e) f.opened))
uncovered (Rollback m) par cohort n k f e s = some-none (sym e ∙ f.none)

-- o joins and sends this to q
join-pair : {B : Board} {p q : ℕ} {np nq : Node} {kept : List AppMessage} {link : List Message} (i : Instance) (par : Option Key) (cohort : ℕ → Bool)
    → IsFree B i (first_ballot par cohort) np → (ms : List Message) → apps ms ≡ []
    → ((j : Instance) (l : Label) (c : ℕ) → IsIn (Ask j l c) ms
    → FineAsk B (joining i par cohort np).joined np.said (core (joining i par cohort np)) q j l c)
    → TokenOf B p q (joining i par cohort np) nq kept (link ++ ms) i (first_ballot par cohort)
    → Pair B p q np nq kept link → Pair B p q (joining i par cohort np) nq kept (link ++ ms)
join-pair {B} {p} {q} {np} {nq} {kept} {link} i par cohort f ms bare fine token o = record {
  agree = o.agree;
  caused = λ b l h. elim (o.caused b l h) [ made j ↦ made j | lost u ↦ lost (undone-join i par cohort np f u) | cut_soon s ↦ cut_soon s ];
  chain = subst (λ t. Rising (Carried (core new) q) (next_label np) (top_heard nq.log p) (kept ++ t)) (sym place)
      (Rising-map (UpTo-refl (next_label np)) (λ m h c. elim c [ sent j ↦ sent j | undone u ↦ undone (undone-join i par cohort np f u) ]) o.chain);
  asks = λ j l c h. elim (in-append link ms h) [ inl k ↦ old j l c (o.asks j l c k) | inr k ↦ fine j l c k ];
  token = λ j b e s. subst (λ k. TokenOf B p q new nq kept (link ++ ms) k b) (voting-instance e)
      (subst (λ k. TokenOf B p q new nq kept (link ++ ms) i k) (voting-ballot e) token);
  votes = λ j c y v. let m = o.votes j c y v in (m.0, there m.1);
  cover = λ k e s. uncovered i par cohort np k f e s;
} where
  new : Node
  new = joining i par cohort np

  place : apps (link ++ ms) ≡ apps link
  place = apps-append link ms ∙ ap (λ t. apps link ++ t) bare ∙ append-nil (apps link)

  old : (j : Instance) (l : Label) (c : ℕ) → FineAsk B np.joined np.said (core np) q j l c → FineAsk B new.joined new.said (core new) q j l c
  old j l c g = record {
    member = (g.member.0, there g.member.1);
    unsaid = g.unsaid;
    meant = λ e. meant-join i par cohort np j q l f (g.meant e);
  }

quiet-none : (B : Board) (i : Instance) → Behind B i []
quiet-none B (Check k) = tt
quiet-none B (Rollback k) = record { bare = refl; unasked = λ m l c i. elim i [ ] }

ask-one : {i j : Instance} {l m : Label} {c z : ℕ} (P : Instance → Label → ℕ → Type 0) → IsIn (Ask j l c) (Ask i m z ∷ []) → P i m z → P j l c
ask-one {i} {j} {l} {m} {c} {z} P k h = subst Q (sym (in-one k)) h where
  Q : Message → Type 0
  Q (App a) = P j l c
  Q (Ask a b d) = P a b d

pub join-out : {B : Board} {p q : ℕ} {np nq : Node} {kept : List AppMessage} {link : List Message} (i : Instance) (par : Option Key) (cohort : ℕ → Bool)
    → IsFree B i (first_ballot par cohort) np → NoChild nq.joined i (a_key p np.life) → HasVoted nq.mode i (a_key p np.life)
    → (cohort q ≡ false → (k : ℕ) × (i ≡ Check k) × Cover (Check k) (core nq) p (top_heard np.log q))
    → Pair B p q np nq kept link → Pair B p q (joining i par cohort np) nq kept (link ++ asking i cohort np q)
join-out {B} {p} {q} {np} {nq} {kept} {link} i par cohort f childless silent left o = go (cohort q) refl where
  new : Node
  new = joining i par cohort np

  unknown : (d : ℕ) → IsMember np.joined i d → d ≡ np.life → ⊥
  unknown d m e = f.alone i (subst (λ k. IsMember np.joined i k) e m) f.opened

  unvoted : NoVote nq.votes i (a_key p np.life)
  unvoted y v = unknown np.life (o.votes i np.life y v) refl

  unasked : NoAsk i np.life link
  unasked l h = unknown np.life (o.asks i l np.life h).member refl

  go : (t : Bool) → cohort q ≡ t → Pair B p q new nq kept (link ++ (if t then Ask i (ask_label i np q) np.life ∷ [] else []))
  go true e = join-pair i par cohort f (Ask i (ask_label i np q) np.life ∷ []) refl
      (λ j l c h. ask-one (λ j l c. FineAsk B new.joined np.said (core new) q j l c) h record {
        member = (par, here);
        unsaid = λ e s. unknown np.life (f.marks i np.life s) refl;
        meant = λ e. meant-new i par cohort np q f;
      })
      (asked e (subst (λ l. Asked i np.life (top_of i np.log np.perm q) (Behind B i) (link ++ Ask i l np.life ∷ [])) (sym (label-top i np q))
      (Asked-push link unasked (quiet-none B i))) unvoted childless) o
  go false e = join-pair i par cohort f [] refl (λ j l c h. elim h [ ])
      (let c = left e in voted true
      record {
        none = λ l h. unasked l (subst (λ m. IsIn (Ask i l np.life) m) (append-nil link) h);
        behind = subst (λ j. Behind B j (link ++ [])) (sym c.1) tt;
        low = subst (λ j. KeptUpTo j (top_of i np.log np.perm q) kept) (sym c.1) tt;
      }
      (λ y v. absurd (unvoted y v))
      (λ g. (covers c, λ d m. absurd (childless d m))) (λ g. inr refl)
      silent) o
    where
      covers : (k : ℕ) × (i ≡ Check k) × Cover (Check k) (core nq) p (top_heard np.log q) → Cover i (core nq) p (top_of i np.log np.perm q)
      covers c = subst (λ j. Cover j (core nq) p (top_of j np.log np.perm q)) (sym c.1) c.2

-- a token of another key does not see that q joined
token-join : {B : Board} (p q : ℕ) (np nq : Node) (kept : List AppMessage) (link : List Message) (i : Instance) (par : Option Key) (cohort : ℕ → Bool)
    (j : Instance) (b : Ballot) → IsFree B i (first_ballot par cohort) nq → (j ≡ i → par ≡ Some (a_key p np.life) → ⊥)
    → TokenOf B p q np nq kept link j b → TokenOf B p q np (joining i par cohort nq) kept link j b
token-join {B} p q np nq kept link i par cohort j b f other t = go t where
  was : (c : ℕ) → IsIn (a_member j c (Some (a_key p np.life))) (a_member i nq.life par ∷ nq.joined) → IsIn (a_member j c (Some (a_key p np.life))) nq.joined
  was c h = elim (in-cons h) [ inl e ↦ absurd (other (ap (λ m. m.instance) e) (sym (ap (λ m. m.parent) e))) | inr k ↦ k ]

  go : TokenOf B p q np nq kept link j b → TokenOf B p q np (joining i par cohort nq) kept link j b
  go (asked w a n c) = asked w a n (λ d m. c d (was d m))
  go (waiting w c n k) = waiting w c n (k.0, λ d m. k.1 d (was d m))
  go (voted y c n g r v) = voted y c n
      (λ e. (cover-join i par cohort nq j p (top_of j np.log np.perm q) f (g e).0, λ d m. (g e).1 d (was d m))) r
      (λ d e g. absurd (other (sym (voting-instance e)) (ap (λ c. c.parent) (voting-ballot e) ∙ g)))

-- p sends to o, and o joins
pub join-into : {B : Board} {p q : ℕ} {np nq : Node} {kept old : List AppMessage} {link was : List Message} (i : Instance) (par : Option Key)
    (cohort : ℕ → Bool)
    (held : ℕ → List AppMessage)
    → IsFree B i (first_ballot par cohort) nq → Sub (kept ++ apps link) (old ++ apps was)
    → ((j : Instance) (l : Label) (c : ℕ) → IsIn (Ask j l c) link → IsIn (Ask j l c) was)
    → ((j : Instance) (b : Ballot) → TokenOf B p q np nq old was j b → TokenOf B p q np (joining i par cohort nq) kept link j b)
    → Pair B p q np nq old was → Pair B p q np (joining i par cohort record nq { kept = held }) kept link
join-into {B} {p} {q} {np} {nq} i par cohort held f part behind token o = record {
  agree = o.agree;
  caused = λ b l h. elim (o.caused b l h) [ made j ↦ made j | lost u ↦ lost u | cut_soon s ↦ none-some (sym f.free ∙ s.rolls) ];
  chain = Rising-sub part o.chain;
  asks = λ j l c h. o.asks j l c (behind j l c h);
  token = λ j b e s. token j b (o.token j b e s);
  votes = o.votes;
  cover = λ k e s. cover-join i par cohort nq (Check k) p (top_heard np.log q) f (o.cover k e s);
}

pub join-else : {B : Board} {p q : ℕ} {np nq : Node} {kept : List AppMessage} {link : List Message} (i : Instance) (par : Option Key) (cohort : ℕ → Bool)
    (held : ℕ → List AppMessage)
    → IsFree B i (first_ballot par cohort) nq → ((j : Instance) → j ≡ i → par ≡ Some (a_key p np.life) → ⊥)
    → Pair B p q np nq kept link → Pair B p q np (joining i par cohort record nq { kept = held }) kept link
join-else {B} {p} {q} {np} {nq} {kept} {link} i par cohort held f other o = join-into i par cohort held f (Sub-refl (kept ++ apps link)) (λ j l c h. h)
    (λ j b t. token-join p q np nq kept link i par cohort j b f (other j) t) o

-- o joins by an ask of p: the token of the ask's key waits now
pub join-hit : {B : Board} {p q : ℕ} {np nq : Node} {old : List AppMessage} (j : Instance) (l : Label) (z : ℕ) (rest : List Message) (cohort : ℕ → Bool)
    (held : ℕ → List AppMessage)
    → IsFree B j (first_ballot (Some (a_key p z)) cohort) nq
    → Pair B p q np nq old (Ask j l z ∷ rest) → Pair B p q np (joining j (Some (a_key p z)) cohort record nq { kept = held }) (sieved j l old) rest
join-hit {B} {p} {q} {np} {nq} {old} j l z rest cohort held f o =
    join-into j par cohort held f (Sub-app (apps rest) (sieved-part j l old)) (λ i m c h. there h) token o
  where
    par : Option Key
    par = Some (a_key p z)

    other : (i : Instance) (c : ℕ) → ((m : Label) → Ask i m c ≢ Ask j l z) → i ≡ j → par ≡ Some (a_key p c) → ⊥
    other i c ne e g = ne l (subst (λ k. Ask i l c ≡ Ask k l z) e (ap (λ n. Ask i l n) (sym (ap (λ k. k.life) (some-one g)))))

    token : (i : Instance) (b : Ballot) → TokenOf B p q np nq old (Ask j l z ∷ rest) i b → TokenOf B p q np (joining j par cohort nq) (sieved j l old) rest i b
    token i b (asked w a n c) = elim (ask-front a) [
      | inl g ↦ waiting w (calm-asked i old g.0 g.1 g.2) n (nq.life, λ d m. elim (in-cons m) [ inl e ↦ ap (λ m. m.life) e | inr k ↦ absurd (c d k) ])
      | inr g ↦ token-join p q np nq (sieved j l old) rest j par cohort i b f (other i np.life g.0) (asked w g.1 n c)
    ]
    token i b (waiting w c n k) = token-join p q np nq (sieved j l old) rest j par cohort i b f (other i np.life (no-ask-front c.none))
        (waiting w (calm-ask i old c) n k)
    token i b (voted y c n g r v) = token-join p q np nq (sieved j l old) rest j par cohort i b f (other i np.life (no-ask-front c.none))
        (voted y (calm-ask i old c) n g r v)

pub join-local : {peer : ℕ → ℕ → Bool} {B : Board} {o : ℕ} {n : Node} (i : Instance) (par : Option Key) (cohort : ℕ → Bool)
    → IsFree B i (first_ballot par cohort) n → B.begun i ≡ true → ((k : ℕ) → i ≡ Rollback k → par ≡ None → n.log ≡ n.perm)
    → Local peer B o n → Local peer B o (joining i par cohort n)
join-local {peer} {B} {o} {n} i par cohort f begun root w = record {
  falls = w.falls;
  tail = w.tail;
  room = w.room;
  from = w.from;
  way = way i;
  ballot = λ j b e. subst (λ k. BallotFits peer o new k b) (voting-instance e) (subst (λ k. BallotFits peer o new i k) (voting-ballot e) record {
    member = here;
    firm = λ s. absurd (f.alone i (w.marks i n.life s) f.opened);
  });
  root = λ k b e none. root k (voting-instance e) (ap (λ c. c.parent) (voting-ballot e) ∙ none);
  members = λ j c m. members j c m.0 (in-cons m.1);
  present = λ j m e. present j m.0 (in-cons m.1) e;
  marks = λ j c s. let m = w.marks j c s in (m.0, there m.1);
  holding = λ k e. holding i k e f.opened (par, here);
} where
  new : Node
  new = joining i par cohort n

  way : (i : Instance) → Way (Within i (first_ballot par cohort)) (stored i n.tent)
  way (Check k) = λ j e. sym (some-one e)
  way (Rollback k) = f.none

  members : (j : Instance) (c : ℕ) (p : Option Key) → (a_member j c p ≡ a_member i n.life par) ⊎ IsIn (a_member j c p) n.joined
      → (c ≤ n.life) × (B.begun j ≡ true)
  members j c p (inl e) = (le_of_eq (ap (λ m. m.life) e), subst (λ k. B.begun k ≡ true) (sym (ap (λ m. m.instance) e)) begun)
  members j c p (inr m) = w.members j c (p, m)

  engaged : (i : Instance) → Engaged i (Within i (first_ballot par cohort)) (stored i n.tent)
  engaged (Check k) = refl
  engaged (Rollback k) = inl refl

  present : (j : Instance) (p : Option Key) → (a_member j n.life p ≡ a_member i n.life par) ⊎ IsIn (a_member j n.life p) n.joined → B.verdict j ≡ Open
      → Engaged j new.mode new.tent
  present j p (inl e) g = subst (λ k. Engaged k new.mode new.tent) (sym (ap (λ m. m.instance) e)) (engaged i)
  present j p (inr m) g = absurd (f.alone j (p, m) g)

  holding : (i : Instance) (k : ℕ) → stored i n.tent ≡ Some k → B.verdict i ≡ Open → IsMember new.joined i n.life
      → (B.verdict (Check k) ≡ Open) × IsMember new.joined (Check k) n.life
  holding (Check m) k e g h = subst (λ j. (B.verdict (Check j) ≡ Open) × IsMember new.joined (Check j) n.life) (some-one e) (g, h)
  holding (Rollback m) k e g h = some-none (sym e ∙ f.none)
