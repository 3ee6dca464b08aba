-- Messages kept, taken from what is kept, and dropped.
-- Cited by Answers, Main, Starts.
use Rattle.std.proofs.Common.{◌≡◌, ◌≢◌, ◌⊎◌, ℕ, Bool, IsTrue, List, [], ◌∷◌, ◌++◌, None, inl, inr, refl, sym, subst, append_assoc}
use Rattle.std.proofs.lemmas.Bool.{cases_eq}
use Rattle.kt_protocol.specs.Labels.{Label}
use Rattle.kt_protocol.specs.Logs.{IsIn, here, there}
use Rattle.kt_protocol.specs.Machine.{Instance, Check, Rollback, Ballot, Up, Within, AppMessage, Message, App, Ask, Vote, Node, Board, State}
use Rattle.kt_protocol.specs.Steps.{change, pull, hearing, keeping}
use Rattle.kt_protocol.specs.Runs.{AreNeighbours}
use Rattle.kt_protocol.proofs.Labels.{UpTo-eq, UpTo-trans, at-here, at-else}
use Rattle.kt_protocol.proofs.Logs.{heard-here}
use Rattle.kt_protocol.proofs.Streams.{apps, Rising-head, Rising-sub, Sub, Sub-under, skip, Sub-refl, Asked-app}
use Rattle.kt_protocol.proofs.Invariant.{core, a_vote, a_key, IsMember, Calm, Cover, asked, waiting, voted, Standing, TokenOf, Pair, Local, Invariant}
use Rattle.kt_protocol.proofs.Cases.{lift_pull, lift_own}
use Rattle.kt_protocol.proofs.Talks.{up-tent, up-out, hears_from, hears_else, hears-local, cover-check, no-app}

-- q keeps and votes otherwise, and the link is shorter
pub passes : {B : Board} {p q : ℕ} {np nq : Node} {kept old : List AppMessage} {link was : List Message} (held : ℕ → List AppMessage) (vs : List Vote)
    → Sub (kept ++ apps link) (old ++ apps was)
    → ((i : Instance) (l : Label) (c : ℕ) → IsIn (Ask i l c) link → IsIn (Ask i l c) was)
    → ((i : Instance) (b : Ballot) → np.mode ≡ Within i b → Standing B i np.tent → TokenOf B p q np nq old was i b
    → TokenOf B p q np record nq { kept = held; votes = vs } kept link i b)
    → ((i : Instance) (c : ℕ) (y : Bool) → IsIn (a_vote i (a_key p c) y) vs → IsMember np.joined i c)
    → Pair B p q np nq old was → Pair B p q np record nq { kept = held; votes = vs } kept link
passes held vs part behind token votes o = record {
  agree = o.agree;
  caused = o.caused;
  chain = Rising-sub part o.chain;
  asks = λ i l c j. o.asks i l c (behind i l c j);
  token = λ i b e s. token i b e s (o.token i b e s);
  votes = votes;
  cover = o.cover;
}

pub idle-out : {B : Board} {p q : ℕ} {np nq : Node} {kept : List AppMessage} {link : List Message} (held : ℕ → List AppMessage) (vs : List Vote)
    → Pair B p q np nq kept link → Pair B p q record np { kept = held; votes = vs } nq kept link
idle-out held vs o = record {
  agree = o.agree;
  caused = o.caused;
  chain = o.chain;
  asks = o.asks;
  token = o.token;
  votes = o.votes;
  cover = o.cover;
}

pub idle-local : {peer : ℕ → ℕ → Bool} {B : Board} {o : ℕ} {n : Node} (held : ℕ → List AppMessage) (vs : List Vote)
    → Local peer B o n → Local peer B o record n { kept = held; votes = vs }
idle-local held vs was = record {
  falls = was.falls;
  tail = was.tail;
  room = was.room;
  from = was.from;
  way = was.way;
  ballot = λ i b e. record { member = (was.ballot i b e).member; firm = (was.ballot i b e).firm };
  root = was.root;
  members = was.members;
  present = was.present;
  marks = was.marks;
  holding = was.holding;
}

-- a message at the front of the link goes
calm-app : {B : Board} (i : Instance) {c : ℕ} {top : Label} {m : AppMessage} {rest : List Message} (kept old : List AppMessage)
    → Calm B i c top old (App m ∷ rest) → Calm B i c top kept rest
calm-app (Check k) kept old calm = record { none = λ l j. calm.none l (there j); behind = tt; low = tt }
calm-app (Rollback k) kept old calm = no-app calm.behind.bare

token-app : {B : Board} {p q : ℕ} (np nq : Node) {old : List AppMessage} {m : AppMessage} {rest : List Message} (kept : List AppMessage)
    (held : ℕ → List AppMessage)
    (i : Instance) (b : Ballot)
    → TokenOf B p q np nq old (App m ∷ rest) i b → TokenOf B p q np record nq { kept = held; votes = nq.votes } kept rest i b
token-app np nq {old = old} kept held i b (asked w a n c) = asked w (Asked-app a) n c
token-app np nq {old = old} kept held i b (waiting w c n k) = waiting w (calm-app i kept old c) n k
token-app np nq {old = old} kept held i b (voted y c n f r v) = voted y (calm-app i kept old c) n f r v

pub step_keeps : (peer : ℕ → ℕ → Bool) → AreNeighbours peer → (s : State) (o x : ℕ) (m : AppMessage) (rest : List Message)
    → IsTrue (peer x o) → s.link x o ≡ App m ∷ rest
    → Invariant peer s → Invariant peer (change o (λ n. keeping x (n.kept x ++ m ∷ []) n) (pull x o rest s))
step_keeps peer near s o x m rest t front w =
    lift_pull peer near s o x rest new refl refl t (λ p ne. at-else x ks n.kept p ne)
    (idle-local new.kept n.votes (w.local o))
    (λ q u ne. idle-out new.kept n.votes (w.pair o q u))
    (subst (λ k. Pair s.board x o (s.node x) new k rest) (sym (at-here x ks n.kept))
    (passes new.kept n.votes part (λ i l c j. there j) (λ i b e g. token-app (s.node x) n ks new.kept i b) pair.votes pair))
    (λ p u ne nf. passes new.kept n.votes (Sub-refl (n.kept p ++ apps (s.link p o))) (λ i l c j. j) (λ i b e g h. h)
    (w.pair p o u).votes (w.pair p o u)) w
  where
    n : Node
    n = s.node o

    ks : List AppMessage
    ks = n.kept x ++ m ∷ []

    new : Node
    new = keeping x ks n

    pair : Pair s.board x o (s.node x) n (n.kept x) (App m ∷ rest)
    pair = subst (λ link. Pair s.board x o (s.node x) n (n.kept x) link) front (w.pair x o t)

    part : Sub (ks ++ apps rest) (n.kept x ++ m ∷ apps rest)
    part = subst (λ l. Sub l (n.kept x ++ m ∷ apps rest)) (sym (append_assoc (n.kept x) (m ∷ []) (apps rest))) (Sub-refl (n.kept x ++ m ∷ apps rest))

pub step_drops : (peer : ℕ → ℕ → Bool) → AreNeighbours peer → (s : State) (o x : ℕ) (m : AppMessage) (rest : List Message)
    → IsTrue (peer x o) → s.link x o ≡ App m ∷ rest
    → Invariant peer s → Invariant peer (change o (λ n. n) (pull x o rest s))
step_drops peer near s o x m rest t front w =
    lift_pull peer near s o x rest n refl refl t (λ p ne. refl)
    (w.local o)
    (λ q u ne. w.pair o q u)
    (passes n.kept n.votes (Sub-under (n.kept x) (skip (Sub-refl (apps rest)))) (λ i l c j. there j)
    (λ i b e g. token-app (s.node x) n (n.kept x) n.kept i b) pair.votes pair)
    (λ p u ne nf. w.pair p o u) w
  where
    n : Node
    n = s.node o

    pair : Pair s.board x o (s.node x) n (n.kept x) (App m ∷ rest)
    pair = subst (λ link. Pair s.board x o (s.node x) n (n.kept x) link) front (w.pair x o t)

pub step_takes : (peer : ℕ → ℕ → Bool) → AreNeighbours peer → (s : State) (o x : ℕ) (m : AppMessage) (ks : List AppMessage)
    → IsTrue (peer x o) → (s.node o).mode ≡ Up → (s.node o).kept x ≡ m ∷ ks
    → Invariant peer s → Invariant peer (change o (λ n. hearing x m (keeping x ks n)) s)
step_takes peer near s o x m ks t up first w =
    lift_own peer near s o new refl refl
    (hears-local x m new.kept up t (Rising-head pair.chain).0 (w.local o))
    (λ q u ne. up-out new.log new.kept up none (λ b l i. there i) (w.pair o q u))
    (λ p u ne. into p u (cases_eq p x)) w
  where
    n : Node
    n = s.node o

    new : Node
    new = hearing x m (keeping x ks n)

    none : n.tent ≡ None
    none = up-tent up (w.local o).way

    pair : Pair s.board x o (s.node x) n (m ∷ ks) (s.link x o)
    pair = subst (λ k. Pair s.board x o (s.node x) n k (s.link x o)) first (w.pair x o t)

    heard : (i : Instance) (c : ℕ) (top : Label) → Calm s.board i c top (m ∷ ks) (s.link x o)
        → Calm s.board i c top ks (s.link x o) × (Cover i (core n) x top → Cover i (core new) x top)
    heard (Check k) c top calm = (
      record { none = calm.none; behind = calm.behind; low = tt },
      λ v. cover-check k (core n) (core new) x top none refl v,
    )
    heard (Rollback k) c top calm = (
      record { none = calm.none; behind = calm.behind; low = λ k i. calm.low k (there i) },
      λ v. inr (UpTo-trans (UpTo-eq (heard-here m.by x m.label n.log)) (calm.low m here)),
    )

    into : (p : ℕ) → IsTrue (peer p o) → (p ≡ x) ⊎ (p ≢ x) → Pair s.board p o (s.node p) new (new.kept p) (s.link p o)
    into p u (inl e) = subst (λ y. Pair s.board y o (s.node y) new (new.kept y) (s.link y o)) (sym e)
        (subst (λ k. Pair s.board x o (s.node x) new k (s.link x o)) (sym (at-here x ks n.kept))
        (hears_from {kept = ks} {old = m ∷ ks} m new.kept none refl (λ i l c j. j) (λ i c top a. a) heard pair))
    into p u (inr ne) = subst (λ k. Pair s.board p o (s.node p) new k (s.link p o)) (sym (at-else x ks n.kept p ne))
        (hears_else x m new.kept ne none (w.pair p o u))
