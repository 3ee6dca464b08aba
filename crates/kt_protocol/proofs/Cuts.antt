-- Failures, and logs cut to the permanent checkpoint.
-- Cited by Checks, Consequences, Main, Rises; other crates.
use Rattle.std.proofs.Common.{◌≡◌, ℕ, Bool, List, [], Option, Some, None, inl, inr, refl, sym, ap, ◌∙◌}
use Rattle.kt_protocol.specs.Labels.{Label, Under}
use Rattle.kt_protocol.specs.Logs.{IsTail, all, top_sent}
use Rattle.kt_protocol.specs.Machine.{Instance, Check, Rollback, Ballot, Mode, Up, Within, Down, AppMessage, Message, Node, Board, State}
use Rattle.kt_protocol.specs.Machine.{instance_of, next_label}
use Rattle.kt_protocol.specs.Steps.{change, cutting, falling, nothing_kept}
use Rattle.kt_protocol.specs.Runs.{AreNeighbours}
use Rattle.kt_protocol.proofs.Labels.{UpTo-trans, UpTo-Under, Under-not, UpTo-refl}
use Rattle.kt_protocol.proofs.Logs.{Falls, Falls-tail, sent-tail, heard-tail, heard-top, sent-split, tail-in}
use Rattle.kt_protocol.proofs.Streams.{apps, Rising-map, Rising-low, Rising-sub, Sub-right}
use Rattle.kt_protocol.proofs.Invariant.{core, Undone, sent, undone, made, lost, cut_soon, Calm, Cover, asked}
use Rattle.kt_protocol.proofs.Invariant.{waiting, voted, Meant, top_of, TokenOf, Pair, Way, Engaged, Local, Invariant}
use Rattle.kt_protocol.proofs.Cases.{some-none, none-some, some-one, down-voting, check-rollback, lift_own}

-- who rolls back holds no tentative checkpoint
pub rolling-none : (m : Mode) (tent : Option ℕ) {k : ℕ} → Way m tent → instance_of m ≡ Some (Rollback k) → tent ≡ None
rolling-none Up tent w e = none-some e
rolling-none (Within (Check j) b) tent w e = check-rollback (some-one e)
rolling-none (Within (Rollback j) b) tent w e = w
rolling-none Down tent w e = none-some e

-- the log is cut, the node is in no instance and keeps nothing
pub cut-into : {B : Board} {p q : ℕ} {np nq : Node} {kept : List AppMessage} {link : List Message} (m : Mode) (life count : ℕ)
    → instance_of m ≡ None → nq.tent ≡ None → Falls nq.log → IsTail nq.perm nq.log
    → Pair B p q np nq kept link → Pair B p q np record nq { mode = m; life = life; count = count; log = nq.perm; kept = nothing_kept } [] link
cut-into {B} {p} {q} {np} {nq} {kept} {link} m life count idle none falls tail o = record {
  agree = o.agree;
  caused = λ b l h. elim (o.caused b l (tail-in tail h)) [
    | made j ↦ made j
    | lost u ↦ lost u
    | cut_soon s ↦ absurd (Under-not s.above (heard-top nq.perm (Falls-tail tail falls) h))
  ];
  chain = Rising-low (heard-tail p tail falls) (Rising-sub (Sub-right kept (apps link)) o.chain);
  asks = o.asks;
  token = λ i b e s. token i b (o.token i b e s);
  votes = o.votes;
  cover = λ k e s. cover (Check k) (o.cover k e s);
} where
  new : Node
  new = record nq { mode = m; life = life; count = count; log = nq.perm; kept = nothing_kept }

  cover : (i : Instance) → Cover i (core nq) p (top_of i np.log np.perm q) → Cover i (core new) p (top_of i np.log np.perm q)
  cover (Check k) (inl u) = inl u
  cover (Check k) (inr u) = some-none (sym u.0 ∙ none)
  cover (Rollback k) (inl u) = inr o.agree
  cover (Rollback k) (inr u) = inr (UpTo-trans (heard-tail p tail falls) u)

  calm : (i : Instance) {c : ℕ} {top : Label} → Calm B i c top kept link → Calm B i c top [] link
  calm (Check k) c = record { none = c.none; behind = tt; low = tt }
  calm (Rollback k) c = record { none = c.none; behind = c.behind; low = λ m h. elim h [ ] }

  token : (i : Instance) (b : Ballot) → TokenOf B p q np nq kept link i b → TokenOf B p q np new [] link i b
  token i b (asked w a n c) = asked w a n c
  token i b (waiting w c n k) = waiting w (calm i c) n k
  token i b (voted y c n f r v) = voted y (calm i c) n (λ e. (cover i (f e).0, (f e).1)) r (λ c e f. none-some (sym idle ∙ ap instance_of e))

-- the sender is down: what its permanent checkpoint did not send is undone
cut-out : {B : Board} {p q : ℕ} {np nq : Node} {kept : List AppMessage} {link : List Message} → np.tent ≡ None → Falls np.log → IsTail np.perm np.log
    → Pair B p q np nq kept link → Pair B p q (falling (cutting np)) nq kept link
cut-out {B} {p} {q} {np} {nq} {kept} {link} none falls tail o = record {
  agree = o.agree;
  caused = λ b l h. elim (o.caused b l h) [
    | made j ↦ elim (sent-split tail falls j) [ inl k ↦ made k | inr u ↦ lost (undo u) ]
    | lost u ↦ lost (undo u.above)
    | cut_soon s ↦ cut_soon s
  ];
  chain = Rising-map (UpTo-refl (next_label np)) (λ m h c. elim c [
    | sent j ↦ elim (sent-split tail falls j) [ inl k ↦ sent k | inr u ↦ undone (undo u) ]
    | undone u ↦ undone (undo u.above)
  ]) o.chain;
  asks = λ j l c h. let f = o.asks j l c h in record { member = f.member; unsaid = f.unsaid; meant = λ e. meant j l (f.meant e) };
  token = λ j b e s. down-voting refl e;
  votes = o.votes;
  cover = λ k e s. some-none (sym e ∙ none);
} where
  new : Node
  new = falling (cutting np)

  undo : {l : Label} → Under (top_sent np.perm q) l → Undone (core new) q l
  undo u = record { gone = tt; above = u; held = λ k e. some-none (sym e ∙ none) }

  meant : (j : Instance) (l : Label) → Meant j (core np) q l → Meant j (core new) q l
  meant (Check k) l m = some-none (sym m.0 ∙ none)
  meant (Rollback k) l m = (tt, m.1, m.2)

pub step_fails : (peer : ℕ → ℕ → Bool) → AreNeighbours peer → (s : State) (o : ℕ) → (s.node o).tent ≡ None → Invariant peer s
    → Invariant peer (change o (λ n. falling (cutting n)) s)
step_fails peer near s o none w =
    lift_own peer near s o (falling (cutting n)) refl refl mine
    (λ q u ne. cut-out none was.falls was.tail (w.pair o q u))
    (λ p u ne. cut-into Down n.life n.count refl none was.falls was.tail (w.pair p o u)) w
  where
    n : Node
    n = s.node o

    was : Local peer s.board o n
    was = w.local o

    present : (i : Instance) → Engaged i n.mode n.tent → Engaged i Down n.tent
    present (Check k) g = g
    present (Rollback k) g = inr refl

    mine : Local peer s.board o (falling (cutting n))
    mine = record {
      falls = Falls-tail was.tail was.falls;
      tail = all;
      room = λ q. UpTo-Under (sent-tail q was.tail was.falls) (was.room q);
      from = λ b x l h. was.from b x l (tail-in was.tail h);
      way = tt;
      ballot = λ i b e. down-voting refl e;
      root = λ k b e. down-voting refl e;
      members = was.members;
      present = λ i m e. present i (was.present i m e);
      marks = was.marks;
      holding = was.holding;
    }

-- a node fails with its tentative checkpoint
hold-out : {B : Board} {p q : ℕ} {np nq : Node} {kept : List AppMessage} {link : List Message} (k : ℕ) → np.tent ≡ Some k
    → Pair B p q np nq kept link → Pair B p q (falling np) nq kept link
hold-out {B} {p} {q} {np} {nq} {kept} {link} k held o = record {
  agree = o.agree;
  caused = λ b l h. elim (o.caused b l h) [ made j ↦ made j | lost u ↦ lost (undo u) | cut_soon s ↦ cut_soon s ];
  chain = Rising-map (UpTo-refl (next_label np)) (λ m h c. elim c [ sent j ↦ sent j | undone u ↦ undone (undo u) ]) o.chain;
  asks = λ j l c h. let f = o.asks j l c h in record { member = f.member; unsaid = f.unsaid; meant = λ e. meant j l (f.meant e) };
  token = λ j b e s. down-voting refl e;
  votes = o.votes;
  cover = o.cover;
} where
  undo : {l : Label} → Undone (core np) q l → Undone (core (falling np)) q l
  undo u = record { gone = tt; above = u.above; held = u.held }

  meant : (j : Instance) (l : Label) → Meant j (core np) q l → Meant j (core (falling np)) q l
  meant (Check k) l m = m
  meant (Rollback j) l m = some-none (sym held ∙ m.1)

hold-into : {B : Board} {p q : ℕ} {np nq : Node} {kept : List AppMessage} {link : List Message} (k : ℕ) → nq.tent ≡ Some k → Way nq.mode nq.tent
    → Pair B p q np nq kept link → Pair B p q np (falling nq) [] link
hold-into {B} {p} {q} {np} {nq} {kept} {link} k held way o = record {
  agree = o.agree;
  caused = λ b l h. elim (o.caused b l h) [ made j ↦ made j | lost u ↦ lost u | cut_soon s ↦ some-none (sym held ∙ rolling-none nq.mode nq.tent way s.rolls) ];
  chain = Rising-sub (Sub-right kept (apps link)) o.chain;
  asks = o.asks;
  token = λ i b e s. token i b (o.token i b e s);
  votes = o.votes;
  cover = o.cover;
} where
  cover : (i : Instance) (top : Label) → Cover i (core nq) p top → Cover i (core (falling nq)) p top
  cover (Check k) top c = c
  cover (Rollback j) top (inl u) = some-none (sym held ∙ rolling-none nq.mode nq.tent way u)
  cover (Rollback j) top (inr u) = inr u

  calm : (i : Instance) {c : ℕ} {top : Label} → Calm B i c top kept link → Calm B i c top [] link
  calm (Check k) c = record { none = c.none; behind = tt; low = tt }
  calm (Rollback k) c = record { none = c.none; behind = c.behind; low = λ m h. elim h [ ] }

  token : (i : Instance) (b : Ballot) → TokenOf B p q np nq kept link i b → TokenOf B p q np (falling nq) [] link i b
  token i b (asked w a n c) = asked w a n c
  token i b (waiting w c n k) = waiting w (calm i c) n k
  token i b (voted y c n f r v) = voted y (calm i c) n (λ e. (cover i (top_of i np.log np.perm q) (f e).0, (f e).1)) r (λ c e f. down-voting refl e)

pub step_fails_holding : (peer : ℕ → ℕ → Bool) → AreNeighbours peer → (s : State) (o k : ℕ) → (s.node o).tent ≡ Some k → Invariant peer s
    → Invariant peer (change o falling s)
step_fails_holding peer near s o k held w =
    lift_own peer near s o (falling n) refl refl mine
    (λ q u ne. hold-out k held (w.pair o q u)) (λ p u ne. hold-into k held was.way (w.pair p o u)) w
  where
    n : Node
    n = s.node o

    was : Local peer s.board o n
    was = w.local o

    present : (i : Instance) → Engaged i n.mode n.tent → Engaged i Down n.tent
    present (Check k) g = g
    present (Rollback k) g = inr refl

    mine : Local peer s.board o (falling n)
    mine = record {
      falls = was.falls;
      tail = was.tail;
      room = was.room;
      from = was.from;
      way = tt;
      ballot = λ i b e. down-voting refl e;
      root = λ k b e. down-voting refl e;
      members = was.members;
      present = λ i m e. present i (was.present i m e);
      marks = was.marks;
      holding = was.holding;
    }
