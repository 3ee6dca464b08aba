-- The invariant holds in every state that is reached, and what follows from it.
-- Cited by Grounds, `laws::held_is_forced`, `laws::nothing_remembered_is_undone`,
--   `laws::permanent_checkpoints_agree`, `laws::rolling_is_forced`; other crates.
use Rattle.std.proofs.Common.{◌≡◌, ◌⊎◌, ℕ, Bool, true, List, [], ◌∷◌, ◌++◌, Option, Some, None, inl, inr, sym, ap, subst, ◌∙◌, arith}
use Rattle.kt_protocol.specs.Labels.{Label, Under, UpTo}
use Rattle.kt_protocol.specs.Logs.{IsIn, here, there, Hears, Resumes, IsTail, all, top_sent, top_heard}
use Rattle.kt_protocol.specs.Machine.{Instance, Check, Rollback, Ballot, Mode, Up, Within, Down, AppMessage, Message, Ask, Member, Node, Board, State}
use Rattle.kt_protocol.specs.Machine.{next_label}
use Rattle.kt_protocol.specs.Steps.{Step, sends, hears, keeps, takes, drops, ignores, refuses, grants, joins, begins, restarts, counts, agrees, declines}
use Rattle.kt_protocol.specs.Steps.{decides_rollback, decides_check, gives_up_rollback, gives_up_check, learns_yes, learns_no, releases, fails, fails_holding}
use Rattle.kt_protocol.specs.Steps.{change, pull, consenting}
use Rattle.kt_protocol.specs.Runs.{AreNeighbours, IsNew, IsResumed, IsFirst, new, resumed, IsBeginning, Run, nothing_done, one_more}
use Rattle.kt_protocol.specs.Laws.{IsReached}
use Rattle.kt_protocol.proofs.Labels.{at-here, UpTo-Under, UpTo-least}
use Rattle.kt_protocol.proofs.Logs.{Falls}
use Rattle.kt_protocol.proofs.Streams.{apps, Rising, ends}
use Rattle.kt_protocol.proofs.Invariant.{core, a_vote, a_key, a_member, a_mark, Carried, Pair, Way, Local, Invariant}
use Rattle.kt_protocol.proofs.Frames.{at-same}
use Rattle.kt_protocol.proofs.Cases.{up-voting, down-voting, some-none}
use Rattle.kt_protocol.proofs.Talks.{step_sends, step_hears}
use Rattle.kt_protocol.proofs.Keeps.{step_keeps, step_takes, step_drops}
use Rattle.kt_protocol.proofs.Answers.{step_ignores, step_refuses, step_grants}
use Rattle.kt_protocol.proofs.Starts.{step_joins, step_begins, step_restarts}
use Rattle.kt_protocol.proofs.Votes.{step_counts}
use Rattle.kt_protocol.proofs.Casts.{step_agrees, step_declines, step_says}
use Rattle.kt_protocol.proofs.Verdicts.{step_gives_up_rollback}
use Rattle.kt_protocol.proofs.Cuts.{step_fails, step_fails_holding}
use Rattle.kt_protocol.proofs.Rises.{step_learns_yes, step_learns_no, step_releases, step_rises}
use Rattle.kt_protocol.proofs.Checks.{step_gives_up_check, step_promotes}

-- the beginning
empty : {A : Type 0} {x : A} → IsIn x [] → ⊥
empty i = elim i [ ]

-- a node at rest: nothing is to be cut off its log, and it knows nothing of the others but the last labels
record IsAtRest (n : Node) : Type 0 where
  mode : (n.mode ≡ Up) ⊎ (n.mode ≡ Down)
  cut : n.log ≡ n.perm
  falls : Falls n.log
  room : (q : ℕ) → Under (top_sent n.log q) (next_label n)
  silent : (b x : ℕ) (l : Label) → IsIn (Hears b x l) n.log → ⊥
  tent : n.tent ≡ None
  kept : (x : ℕ) → n.kept x ≡ []
  votes : n.votes ≡ []
  joined : n.joined ≡ []
  said : n.said ≡ []

new-rests : (n : Node) → IsNew n → IsAtRest n
unfolding top_sent
new-rests n w = record {
  mode = inl w.mode;
  cut = w.log ∙ sym w.perm;
  falls = subst Falls (sym w.log) tt;
  room = λ q. subst (λ t. Under (top_sent t q) (next_label n)) (sym w.log) (first q);
  silent = λ b x l i. empty (subst (λ t. IsIn (Hears b x l) t) w.log i);
  tent = w.tent;
  kept = w.kept;
  votes = w.votes;
  joined = w.joined;
  said = w.said;
} where
  first : (q : ℕ) → Under (top_sent [] q) (next_label n)
  first q = omega arith

resumed-rests : (first o : ℕ) (n : Node) → IsResumed first o n → IsAtRest n
unfolding top_sent top_heard
resumed-rests first o n w = record {
  mode = inr w.mode;
  cut = w.log ∙ sym w.perm;
  falls = subst Falls (sym w.log) (λ q. UpTo-least (w.sent q), λ q. UpTo-least (w.heard q), tt);
  room = λ q. subst (λ t. Under (top_sent t q) (next_label n)) (sym w.log) (w.room q);
  silent = λ b x l i. only b x l (subst (λ t. IsIn (Hears b x l) t) w.log i);
  tent = w.tent;
  kept = w.kept;
  votes = w.votes;
  joined = w.joined;
  said = w.said;
} where
  only : (b x : ℕ) (l : Label) → IsIn (Hears b x l) (Resumes o first w.sent w.heard ∷ []) → ⊥
  only b x l (there i) = empty i

rests : (first o : ℕ) (n : Node) → IsFirst first o n → IsAtRest n
rests first o n (new w) = new-rests n w
rests first o n (resumed w) = resumed-rests first o n w

unvoting : {X : Type 0} {m : Mode} {i : Instance} {b : Ballot} → (m ≡ Up) ⊎ (m ≡ Down) → m ≡ Within i b → X
unvoting (inl up) e = up-voting up e
unvoting (inr down) e = down-voting down e

rest-way : {m : Mode} {tent : Option ℕ} → (m ≡ Up) ⊎ (m ≡ Down) → tent ≡ None → Way m tent
rest-way {tent = tent} (inl up) e = subst (λ m. Way m tent) (sym up) e
rest-way {tent = tent} (inr down) e = subst (λ m. Way m tent) (sym down) tt

rest-local : (peer : ℕ → ℕ → Bool) (B : Board) (o : ℕ) (n : Node) → IsAtRest n → Local peer B o n
rest-local peer B o n w = record {
  falls = w.falls;
  tail = subst (λ t. IsTail n.perm t) (sym w.cut) all;
  room = w.room;
  from = λ b x l i. absurd (w.silent b x l i);
  way = rest-way w.mode w.tent;
  ballot = λ i b e. unvoting w.mode e;
  root = λ k b e. unvoting w.mode e;
  members = λ i c m. absurd (empty (subst (λ t. IsIn (a_member i c m.0) t) w.joined m.1));
  present = λ i m e. absurd (empty (subst (λ t. IsIn (a_member i n.life m.0) t) w.joined m.1));
  marks = λ i c m. absurd (empty (subst (λ t. IsIn (a_mark i c) t) w.said m));
  holding = λ k e. some-none (sym e ∙ w.tent);
}

rest-pair : (B : Board) (p q : ℕ) (np nq : Node) (kept : List AppMessage) (link : List Message) → IsAtRest np → IsAtRest nq → kept ≡ [] → link ≡ []
    → UpTo (top_heard nq.perm p) (top_sent np.perm q) → Pair B p q np nq kept link
rest-pair B p q np nq kept link u v e f agree = record {
  agree = agree;
  caused = λ b l i. absurd (v.silent b p l i);
  chain = subst (λ k. Rising (Carried (core np) q) (next_label np) (top_heard nq.log p) (k ++ apps link)) (sym e)
      (subst (λ m. Rising (Carried (core np) q) (next_label np) (top_heard nq.log p) ([] ++ apps m)) (sym f) (ends below));
  asks = λ i l c m. absurd (empty (subst (λ t. IsIn (Ask i l c) t) f m));
  token = λ i b g. unvoting u.mode g;
  votes = λ i c y m. absurd (empty (subst (λ t. IsIn (a_vote i (a_key p c) y) t) v.votes m));
  cover = λ k g. some-none (sym g ∙ u.tent);
} where
  below : Under (top_heard nq.log p) (next_label np)
  below = UpTo-Under (subst (λ t. UpTo (top_heard t p) (top_sent np.log q)) (sym v.cut)
      (subst (λ t. UpTo (top_heard nq.perm p) (top_sent t q)) (sym u.cut) agree)) (u.room q)

beginning : (peer : ℕ → ℕ → Bool) (s : State) → IsBeginning peer s → Invariant peer s
beginning peer s w = record {
  fresh = w.fresh;
  local = λ o. rest-local peer s.board o (s.node o) (at_rest o);
  pair = λ p q t. rest-pair s.board p q (s.node p) (s.node q) ((s.node q).kept p) (s.link p q) (at_rest p) (at_rest q)
      ((at_rest q).kept p) (w.empty p q) (w.agree p q t);
  trees = record {
    descends = λ x i c m. absurd (nobody x (a_member i c m.0) m.1);
    below = λ x i c k m. absurd (nobody x (a_member i c (Some k)) m);
    every = λ x i c m. absurd (nobody x (a_member i c m.0) m.1);
    root = λ x y i c d m. absurd (nobody x (a_member i c None) m);
    parents = λ x i c k m. absurd (nobody x (a_member i c (Some k)) m);
    asker = λ x i c k m. absurd (nobody x (a_member i c (Some k)) m);
  };
} where
  at_rest : (p : ℕ) → IsAtRest (s.node p)
  at_rest p = rests w.first p (s.node p) (w.nodes p)

  nobody : (x : ℕ) (m : Member) → IsIn m (s.node x).joined → ⊥
  nobody x m i = empty (subst (λ t. IsIn m t) (at_rest x).joined i)

-- each step
stays : (peer : ℕ → ℕ → Bool) → AreNeighbours peer → (s t : State) → Invariant peer s → Step peer s t → Invariant peer t
stays peer near s t w (sends o y by u up) = step_sends peer near s o y by u up w
stays peer near s t w (hears o x m rest u up bare front) = step_hears peer near s o x m rest u up bare front w
stays peer near s t w (keeps o x m rest u front) = step_keeps peer near s o x m rest u front w
stays peer near s t w (takes o x m ks u up front) = step_takes peer near s o x m ks u up front w
stays peer near s t w (drops o x m rest u front) = subst (λ f. Invariant peer record (pull x o rest s) { node = f })
    (λ i z. sym (at-same o s.node z) i) (step_drops peer near s o x m rest u front w)
stays peer near s t w (ignores o x i l c rest u front) = step_ignores peer near s o x i l c rest u front w
stays peer near s t w (refuses o x i l c rest u front) = step_refuses peer near s o x i l c rest u front w
stays peer near s t w (grants o x i l c rest u front opened may) = step_grants peer near s o x i l c rest u front may w
stays peer near s t w (joins o x i l c rest cohort u front up opened must asked) = step_joins peer near s o x i l c rest cohort u front up opened asked w
stays peer near s t w (begins o k cohort up unbegun asked) = step_begins peer near s o k cohort up unbegun asked w
stays peer near s t w (restarts o k cohort down none cut unbegun asked) = step_restarts peer near s o k cohort down none cut unbegun asked w
stays peer near s t w (counts o q i b y u e a v) = step_counts peer near s o q i b y e a u v w
stays peer near s t w (agrees o i b k e par unvoted agreed) = step_agrees peer near s o i b k e par unvoted agreed w
stays peer near s t w (declines o i b k e par unvoted) = step_declines peer near s o i b k e par unvoted w
stays peer near s t w (decides_rollback o k b e par opened agreed) = decided where
  mid : State
  mid = change o (consenting (Rollback k) b) s

  now : Node
  now = consenting (Rollback k) b (s.node o)

  is_now : mid.node o ≡ now
  is_now = at-here o now s.node

  decided : Invariant peer t
  decided = step_rises peer near mid o k record b { voted = true } (ap (λ n. n.mode) is_now) par opened
      (subst (λ (n : Node). IsIn (a_mark (Rollback k) n.life) n.said) (sym is_now) here)
      (step_says peer near s o (Rollback k) b e par agreed w)
stays peer near s t w (decides_check o k b e par opened agreed) = decided where
  mid : State
  mid = change o (consenting (Check k) b) s

  now : Node
  now = consenting (Check k) b (s.node o)

  is_now : mid.node o ≡ now
  is_now = at-here o now s.node

  decided : Invariant peer t
  decided = step_promotes peer near mid o k record b { voted = true } (ap (λ n. n.mode) is_now) par opened
      (subst (λ (n : Node). IsIn (a_mark (Check k) n.life) n.said) (sym is_now) here)
      (step_says peer near s o (Check k) b e par agreed w)
stays peer near s t w (gives_up_rollback k begun opened) = step_gives_up_rollback peer s k begun opened w
stays peer near s t w (gives_up_check k begun opened) = step_gives_up_check peer s k begun opened w
stays peer near s t w (learns_yes o k b e decided) = step_learns_yes peer near s o k b e decided w
stays peer near s t w (learns_no o k b p e par decided) = step_learns_no peer near s o k b p e par decided w
stays peer near s t w (releases o k b e none) = step_releases peer near s o k b e none w
stays peer near s t w (fails o none) = step_fails peer near s o none w
stays peer near s t w (fails_holding o k held) = step_fails_holding peer near s o k held w

pub stays_through : (peer : ℕ → ℕ → Bool) → AreNeighbours peer → {s t : State} → Invariant peer s → Run peer s t → Invariant peer t
stays_through peer near w nothing_done = w
stays_through peer near w (one_more {t} {u} r x) = stays peer near t u (stays_through peer near w r) x

pub holds_where_reached : {peer : ℕ → ℕ → Bool} (t : State) → IsReached peer t → Invariant peer t
holds_where_reached {peer} t r = stays_through peer r.near (beginning peer r.start r.begins) r.run

pub run-trans : {peer : ℕ → ℕ → Bool} {s t u : State} → Run peer s t → Run peer t u → Run peer s u
run-trans r nothing_done = r
run-trans r (one_more q x) = one_more (run-trans r q) x

pub reached-run : {peer : ℕ → ℕ → Bool} {s t : State} → IsReached peer s → Run peer s t → IsReached peer t
reached-run r q = record { near = r.near; start = r.start; begins = r.begins; run = run-trans r.run q }
