-- Steps by which a node begins to vote: an ask makes it join, it begins a check, it restarts.
-- Cited by Consequences, Main.
use Rattle.std.proofs.Common.{◌≡◌, ◌≢◌, ◌⊎◌, ℕ, suc, Bool, true, false, IsTrue, List, [], ◌∷◌, ◌++◌, Option, Some, None, inl, inr, refl, sym, ap, subst, ◌∙◌}
use Rattle.std.proofs.Common.{arith, if◌then◌else◌}
use Rattle.std.proofs.lemmas.Bool.{cases_eq}
use Rattle.kt_protocol.specs.Labels.{Label, Under, UpTo, at}
use Rattle.kt_protocol.specs.Logs.{IsIn, here, Sends, Hears, all, top_sent, top_heard}
use Rattle.kt_protocol.specs.Machine.{Instance, Check, Rollback, Open, Key, Ballot, Up, Down, AppMessage, Message, Ask, Node, Board, State, instance_of}
use Rattle.kt_protocol.specs.Machine.{next_label}
use Rattle.kt_protocol.specs.Machine.{same_instance}
use Rattle.kt_protocol.specs.Steps.{change, pull, push, begin, sifting, sieved, joining, loading, asking, IsCohort}
use Rattle.kt_protocol.specs.Runs.{AreNeighbours}
use Rattle.kt_protocol.proofs.Labels.{UpTo-trans, Label-cases, at-here, at-else, Under-UpTo}
use Rattle.kt_protocol.proofs.Logs.{Falls}
use Rattle.kt_protocol.proofs.Streams.{apps, Rising, Rising-map, Rising-sub, Sub-right}
use Rattle.kt_protocol.proofs.Invariant.{core, a_key, a_member, a_mark, IsMember, Undone, Carried, sent, undone, made, lost, cut_soon, Cover, Calm, NoChild}
use Rattle.kt_protocol.proofs.Invariant.{Away, Meant, top_of, TokenOf, Pair, Engaged, Local, Trees, Invariant}
use Rattle.kt_protocol.proofs.Frames.{Later, Later-refl, Token-map, lift, Pair-later, Local-later, Trees-later, Trees-same, at-map, at-same}
use Rattle.kt_protocol.proofs.Cases.{some-none, none-some, some-one, up-down, up-gone, down-voting, check-rollback, true-false, pull-else, pull-here}
use Rattle.kt_protocol.proofs.Cases.{pull-other, push-else, push-here}
use Rattle.kt_protocol.proofs.Verdicts.{same_instance-refl}
use Rattle.kt_protocol.proofs.Talks.{up-tent}
use Rattle.kt_protocol.proofs.Keeps.{idle-out, idle-local}
use Rattle.kt_protocol.proofs.Answers.{childless}
use Rattle.kt_protocol.proofs.Trees.{Trees-join}
use Rattle.kt_protocol.proofs.Joins.{first_ballot, IsFree, join-out, join-else, join-hit, join-local}

-- a node that is Up may join
pub free-up : {peer : ℕ → ℕ → Bool} {B : Board} {o : ℕ} {n : Node} (i : Instance) (b : Ballot) → n.mode ≡ Up → B.verdict i ≡ Open
    → Local peer B o n → IsFree B i b n
free-up {B = B} {n = n} i b up e w = record {
  free = ap instance_of up;
  none = none;
  opened = e;
  alone = λ j m g. alone j (w.present j m g);
  marks = w.marks;
  gone = λ g. up-gone up g;
  away = λ k a. absurd (subst (λ m. Away m k) up a);
} where
  none : n.tent ≡ None
  none = up-tent up w.way

  alone : (j : Instance) → Engaged j n.mode n.tent → ⊥
  alone (Check k) g = some-none (sym g ∙ none)
  alone (Rollback k) (inl g) = none-some (sym (ap instance_of up) ∙ g)
  alone (Rollback k) (inr g) = up-down up g

Trees-joined : {peer : ℕ → ℕ → Bool} {B : Board} (o : ℕ) (new : Node) (f : ℕ → Node) → new.said ≡ (f o).said
    → Trees peer B (at o new.joined (λ x. (f x).joined)) (λ x. (f x).said)
    → Trees peer B (λ x. (at o new f x).joined) (λ x. (at o new f x).said)
Trees-joined o new f g w = Trees-same (at-map (λ n. n.joined) o new f)
    (λ x. at-same o (λ y. (f y).said) x ∙ ap (λ a. at o a (λ y. (f y).said) x) (sym g) ∙ at-map (λ n. n.said) o new f x) w

-- whom a node that joins need not ask
unasked : {peer : ℕ → ℕ → Bool} (i : Instance) (o q : ℕ) (n nq : Node) (cohort : ℕ → Bool) → IsCohort peer i o n cohort → IsTrue (peer o q)
    → UpTo (top_heard n.perm q) (top_sent nq.perm o) → cohort q ≡ false
    → (k : ℕ) × (i ≡ Check k) × Cover (Check k) (core nq) o (top_heard n.log q)
unasked (Check k) o q n nq cohort c t agree e = (k, refl, go (Label-cases (top_heard n.log q) (top_heard n.perm q))) where
  go : UpTo (top_heard n.log q) (top_heard n.perm q) ⊎ Under (top_heard n.perm q) (top_heard n.log q) → Cover (Check k) (core nq) o (top_heard n.log q)
  go (inl u) = inl (UpTo-trans u agree)
  go (inr u) = true-false (c.covers q t u) e
unasked (Rollback k) o q n nq cohort c t agree e = true-false (c.covers q t tt) e

pub step_joins : (peer : ℕ → ℕ → Bool) → AreNeighbours peer → (s : State) (o x : ℕ) (i : Instance) (l : Label) (z : ℕ) (rest : List Message) (cohort : ℕ → Bool)
    → IsTrue (peer x o) → s.link x o ≡ Ask i l z ∷ rest → (s.node o).mode ≡ Up → s.board.verdict i ≡ Open
    → IsCohort peer i o (s.node o) cohort → Invariant peer s
    → Invariant peer (change o (λ n. joining i (Some (a_key x z)) cohort (sifting i x l n)) (push o (asking i cohort (s.node o)) (pull x o rest s)))
step_joins peer near s o x i l z rest cohort t first up opened asked w =
    lift peer near s o new link s.board (Later-refl s.board) (λ k e. e) w.fresh
    (λ p q ne nf. push-else o send mid p q ne ∙ pull-else x o rest s p q nf)
    (join-local i par cohort free_sifted begun (λ k e none. some-none none) (idle-local held n.votes was))
    out
    (λ p u ne. subst (λ m. Pair s.board p o (s.node p) new (new.kept p) m) (sym (push-else o send mid p o ne)) (into p u ne (cases_eq p x)))
    (Trees-joined o new s.node refl (Trees-join o i n.life par opened fits (λ e. some-none e) w.trees)) w
  where
    n : Node
    n = s.node o

    par : Option Key
    par = Some (a_key x z)

    held : ℕ → List AppMessage
    held = at x (sieved i l (n.kept x)) n.kept

    new : Node
    new = joining i par cohort (sifting i x l n)

    mid : State
    mid = pull x o rest s

    send : ℕ → List Message
    send = asking i cohort n

    link : ℕ → ℕ → List Message
    link = (push o send mid).link

    was : Local peer s.board o n
    was = w.local o

    free : IsFree s.board i (first_ballot par cohort) n
    free = free-up i (first_ballot par cohort) up opened was

    free_sifted : IsFree s.board i (first_ballot par cohort) (sifting i x l n)
    free_sifted = free-up i (first_ballot par cohort) up opened (idle-local held n.votes was)

    pair : Pair s.board x o (s.node x) n (n.kept x) (Ask i l z ∷ rest)
    pair = subst (λ m. Pair s.board x o (s.node x) n (n.kept x) m) first (w.pair x o t)

    begun : s.board.begun i ≡ true
    begun = ((w.local x).members i z (pair.asks i l z here).member).1

    fits : (k : Key) → par ≡ Some k → IsMember (s.node k.node).joined i k.life × (IsIn (a_mark i k.life) (s.node k.node).said → ⊥) × IsTrue (peer k.node o)
    fits k e = subst (λ k. IsMember (s.node k.node).joined i k.life × (IsIn (a_mark i k.life) (s.node k.node).said → ⊥) × IsTrue (peer k.node o)) (some-one e)
        ((pair.asks i l z here).member, (pair.asks i l z here).unsaid opened, t)

    out : (q : ℕ) → IsTrue (peer o q) → o ≢ q → Pair s.board o q new (s.node q) ((s.node q).kept o) (link o q)
    out q u ne = subst (λ m. Pair s.board o q new (s.node q) ((s.node q).kept o) m)
        (sym (push-here o send mid q ∙ ap (λ t. t ++ send q) (pull-else x o rest s o q (λ e. ne (sym e)))))
        (idle-out held n.votes (join-out i par cohort free none (childless (w.local q) i (a_key o n.life) none)
        (unasked i o q n (s.node q) cohort asked u (w.pair q o (near.both o q u)).agree) (w.pair o q u)))
      where
        none : NoChild (s.node q).joined i (a_key o n.life)
        none d m = free.alone i (w.trees.parents q i d (a_key o n.life) m) opened

    into : (p : ℕ) → IsTrue (peer p o) → p ≢ o → (p ≡ x) ⊎ (p ≢ x) → Pair s.board p o (s.node p) new (new.kept p) (mid.link p o)
    into p u ne (inl e) = subst (λ y. Pair s.board y o (s.node y) new (new.kept y) (mid.link y o)) (sym e)
        (subst (λ k. Pair s.board x o (s.node x) new k (mid.link x o)) (sym (at-here x (sieved i l (n.kept x)) n.kept))
        (subst (λ m. Pair s.board x o (s.node x) new (sieved i l (n.kept x)) m) (sym (pull-here x o rest s))
        (join-hit i l z rest cohort held free pair)))
    into p u ne (inr nf) = subst (λ k. Pair s.board p o (s.node p) new k (mid.link p o)) (sym (at-else x (sieved i l (n.kept x)) n.kept p nf))
        (subst (λ m. Pair s.board p o (s.node p) new (n.kept p) m) (sym (pull-other x o rest s p nf))
        (join-else i par cohort held free (λ j e g. nf (sym (ap (λ k. k.node) (some-one g)))) (w.pair p o u)))

-- an instance is begun
pub begun-now : (i : Instance) (s : State) → (begin i s).board.begun i ≡ true
begun-now i s = rw (same_instance-refl i) refl

begin-grows : (i : Instance) (s : State) (j : Instance) → s.board.begun j ≡ true → (begin i s).board.begun j ≡ true
begin-grows i s j e = go (same_instance j i) where
  go : (t : Bool) → (if t then true else s.board.begun j) ≡ true
  go true = refl
  go false = e

begin-fresh : (i : Instance) (s : State) (j : Instance) → (begin i s).board.begun j ≡ false → s.board.begun j ≡ false
begin-fresh i s j e = go (same_instance j i) e where
  go : (t : Bool) → (if t then true else s.board.begun j) ≡ false → s.board.begun j ≡ false
  go true e = true-false refl e
  go false e = e

Later-begin : (i : Instance) (s : State) → Later s.board (begin i s).board
Later-begin i s = record { opened = λ j e. e; decided = λ j e. e; live = λ j e. e; begun = λ j e. begin-grows i s j e }

free-begin : (i : Instance) (s : State) {j : Instance} {b : Ballot} {n : Node} → IsFree s.board j b n → IsFree (begin i s).board j b n
free-begin i s f = record {
  free = f.free;
  none = f.none;
  opened = f.opened;
  alone = f.alone;
  marks = f.marks;
  gone = f.gone;
  away = f.away;
}

-- a node begins an instance; `n` is its node before it joins
step_begun : (peer : ℕ → ℕ → Bool) → AreNeighbours peer → (s : State) (o : ℕ) (i : Instance) (cohort : ℕ → Bool) (n : Node)
    → n.joined ≡ (s.node o).joined → n.said ≡ (s.node o).said
    → IsFree s.board i (first_ballot None cohort) n → s.board.begun i ≡ false → ((k : ℕ) → i ≡ Rollback k → n.log ≡ n.perm)
    → IsCohort peer i o n cohort
    → Local peer s.board o n
    → ((q : ℕ) → IsTrue (peer o q) → Pair s.board o q n (s.node q) ((s.node q).kept o) (s.link o q))
    → ((p : ℕ) → IsTrue (peer p o) → Pair s.board p o (s.node p) n (n.kept p) (s.link p o))
    → Invariant peer s
    → Invariant peer (begin i record { node = at o (joining i None cohort n) s.node; link = (push o (asking i cohort n) s).link; board = s.board })
step_begun peer near s o i cohort n same_joined same_said free unbegun root asked mine outs ins w =
    lift peer near s o new (push o send s).link (begin i s).board (Later-begin i s) (λ k e. e) (λ j e. w.fresh j (begin-fresh i s j e))
    (λ p q ne nf. push-else o send s p q ne)
    (join-local i None cohort (free-begin i s free) (begun-now i s) (λ k e none. root k e) (Local-later (Later-begin i s) (λ k e. e) mine))
    (λ q u ne. subst (λ m. Pair (begin i s).board o q new (s.node q) ((s.node q).kept o) m) (sym (push-here o send s q))
    (Pair-later (Later-begin i s) (join-out i None cohort free (none q) (childless (w.local q) i (a_key o n.life) (none q))
    (unasked i o q n (s.node q) cohort asked u (ins q (near.both o q u)).agree) (outs q u))))
    (λ p u ne. subst (λ m. Pair (begin i s).board p o (s.node p) new (new.kept p) m) (sym (push-else o send s p o ne))
    (Pair-later (Later-begin i s) (join-else i None cohort n.kept free (λ j e g. none-some g) (ins p u))))
    (Trees-joined o new s.node same_said (Trees-later (Later-begin i s) (λ j e. e)
    (subst (λ l. Trees peer s.board (at o (a_member i n.life None ∷ l) (λ x. (s.node x).joined)) (λ x. (s.node x).said)) (sym same_joined)
    (Trees-join o i n.life None free.opened (λ k e. none-some e) (λ e x d m. new_to x d (None, m)) w.trees)))) w
  where
    new : Node
    new = joining i None cohort n

    send : ℕ → List Message
    send = asking i cohort n

    new_to : (x d : ℕ) → IsMember (s.node x).joined i d → ⊥
    new_to x d m = true-false ((w.local x).members i d m).1 unbegun

    none : (q : ℕ) → NoChild (s.node q).joined i (a_key o n.life)
    none q d m = new_to o n.life (w.trees.parents q i d (a_key o n.life) m)

pub step_begins : (peer : ℕ → ℕ → Bool) → AreNeighbours peer → (s : State) (o k : ℕ) (cohort : ℕ → Bool)
    → (s.node o).mode ≡ Up → s.board.begun (Check k) ≡ false → IsCohort peer (Check k) o (s.node o) cohort → Invariant peer s
    → Invariant peer (begin (Check k) (change o (joining (Check k) None cohort) (push o (asking (Check k) cohort (s.node o)) s)))
step_begins peer near s o k cohort up unbegun asked w =
    step_begun peer near s o (Check k) cohort (s.node o) refl refl
    (free-up (Check k) (first_ballot None cohort) up (w.fresh (Check k) unbegun) (w.local o)) unbegun (λ m e. check-rollback e) asked
    (w.local o) (λ q u. w.pair o q u) (λ p u. w.pair p o u) w

-- a node that is down loads its permanent checkpoint in a new incarnation
load-out : {B : Board} {p q : ℕ} {np nq : Node} {kept : List AppMessage} {link : List Message} → np.mode ≡ Down → np.tent ≡ None → np.log ≡ np.perm
    → Pair B p q np nq kept link → Pair B p q (loading np) nq kept link
load-out {B} {p} {q} {np} {nq} {kept} {link} down none cut o = record {
  agree = o.agree;
  caused = λ b l h. elim (o.caused b l h) [ made j ↦ made (subst (λ t. IsIn (Sends b q l) t) cut j) | lost u ↦ lost (undo u) | cut_soon s ↦ cut_soon s ];
  chain = Rising-map (omega arith) (λ m h c. elim c [ sent j ↦ sent (subst (λ t. IsIn (Sends m.by q m.label) t) cut j) | undone u ↦ undone (undo u) ]) o.chain;
  asks = λ j l c h. let f = o.asks j l c h in record { member = f.member; unsaid = f.unsaid; meant = λ e. meant j l (f.meant e) };
  token = λ j b e s. down-voting down e;
  votes = o.votes;
  cover = λ k e s. some-none (sym e ∙ none);
} where
  undo : {l : Label} → Undone (core np) q l → Undone (core (loading np)) q l
  undo u = record { gone = u.gone; above = u.above; held = λ k e. some-none (sym e ∙ none) }

  meant : (j : Instance) (l : Label) → Meant j (core np) q l → Meant j (core (loading np)) q l
  meant (Check k) l m = some-none (sym m.0 ∙ none)
  meant (Rollback k) l m = m

cover-load : (i : Instance) (n : Node) (p : ℕ) (top : Label) → n.log ≡ n.perm → n.tent ≡ None → Cover i (core n) p top → Cover i (core (loading n)) p top
cover-load (Check k) n p top cut none (inl u) = inl u
cover-load (Check k) n p top cut none (inr u) = some-none (sym u.0 ∙ none)
cover-load (Rollback k) n p top cut none (inl u) = inl u
cover-load (Rollback k) n p top cut none (inr u) = inr (subst (λ t. UpTo (top_heard t p) top) cut u)

load-into : {B : Board} {p q : ℕ} {np nq : Node} {kept : List AppMessage} {link : List Message} → nq.mode ≡ Down → nq.tent ≡ None → nq.log ≡ nq.perm
    → Pair B p q np nq kept link → Pair B p q np (loading nq) [] link
load-into {B} {p} {q} {np} {nq} {kept} {link} down none cut o = record {
  agree = o.agree;
  caused = λ b l h. o.caused b l (subst (λ t. IsIn (Hears b p l) t) (sym cut) h);
  chain = Rising-sub (Sub-right kept (apps link)) (subst (λ t. Rising (Carried (core np) q) (next_label np) (top_heard t p) (kept ++ apps link)) cut o.chain);
  asks = o.asks;
  token = λ i b e s. go i b (o.token i b e s);
  votes = o.votes;
  cover = λ k e s. cover-load (Check k) nq p (top_heard np.log q) cut none (o.cover k e s);
} where
  calm : (i : Instance) {c : ℕ} {top : Label} → Calm B i c top kept link → Calm B i c top [] link
  calm (Check k) c = record { none = c.none; behind = tt; low = tt }
  calm (Rollback k) c = record { none = c.none; behind = c.behind; low = λ m h. elim h [ ] }

  go : (i : Instance) (b : Ballot) → TokenOf B p q np nq kept link i b → TokenOf B p q np (loading nq) [] link i b
  go i b t = Token-map (λ a. a) (calm i) (cover-load i nq p (top_of i np.log np.perm q) cut none) t

pub step_restarts : (peer : ℕ → ℕ → Bool) → AreNeighbours peer → (s : State) (o k : ℕ) (cohort : ℕ → Bool)
    → (s.node o).mode ≡ Down → (s.node o).tent ≡ None → (s.node o).log ≡ (s.node o).perm → s.board.begun (Rollback k) ≡ false
    → IsCohort peer (Rollback k) o (s.node o) cohort → Invariant peer s
    → Invariant peer (begin (Rollback k) (change o (λ n. joining (Rollback k) None cohort (loading n))
    (push o (asking (Rollback k) cohort (loading (s.node o))) s)))
step_restarts peer near s o k cohort down none cut unbegun asked w =
    step_begun peer near s o (Rollback k) cohort (loading n) refl refl free unbegun (λ m e. refl) record { within = asked.within; covers = asked.covers } mine
    (λ q u. load-out down none cut (w.pair o q u)) (λ p u. load-into down none cut (w.pair p o u)) w
  where
    n : Node
    n = s.node o

    was : Local peer s.board o n
    was = w.local o

    alone : (j : Instance) → IsMember n.joined j (suc n.life) → ⊥
    alone j m = let le = (was.members j (suc n.life) m).0 in absurd (omega (arith, le))

    free : IsFree s.board (Rollback k) (first_ballot None cohort) (loading n)
    free = record {
      free = ap instance_of down;
      none = none;
      opened = w.fresh (Rollback k) unbegun;
      alone = λ j m e. alone j m;
      marks = was.marks;
      gone = λ g. refl;
      away = λ m a. inl refl;
    }

    mine : Local peer s.board o (loading n)
    mine = record {
      falls = subst Falls cut was.falls;
      tail = all;
      room = λ q. Under-UpTo (subst (λ t. Under (top_sent t q) (next_label n)) cut (was.room q)) (omega arith);
      from = λ b x l h. was.from b x l (subst (λ t. IsIn (Hears b x l) t) (sym cut) h);
      way = was.way;
      ballot = λ i b e. down-voting down e;
      root = λ m b e. down-voting down e;
      members = λ i c m. let old = was.members i c m in (omega (arith, old.0), old.1);
      present = λ j m e. absurd (alone j m);
      marks = was.marks;
      holding = λ m e. some-none (sym e ∙ none);
    }
