-- The rows of the two asks are steps.
-- Cited by `laws::the_row_of_a_check_ask_is_a_step`, `laws::the_row_of_a_rollback_ask_is_a_step`; other crates.
use Rattle.std.proofs.Common.{◌≡◌, ◌⊎◌, ℕ, Bool, true, false, not, ◌&&◌, IsTrue, ◌∷◌, Option, Some, None, inl, inr, refl, ap, ◌∙◌, eqb, ltb, leb, ◌<◌, ◌≤◌}
use Rattle.std.proofs.Common.{if◌then◌else◌, arith}
use Rattle.std.proofs.lemmas.Bool.{cases_lt, and_parts, and_from, or_left, or_right, eqb-true, eq-eqb, lt-ltb, le-leb}
use Rattle.kt_protocol.specs.Labels.{Label, Under, UpTo, up_to}
use Rattle.kt_protocol.specs.Logs.{top_sent, top_heard}
use Rattle.kt_protocol.specs.Machine.{Check, Rollback, Verdict, Open, Yes, No, Mode, Up, Within, Down, Ask, Node, State, instance_of}
use Rattle.kt_protocol.specs.Steps.{Step, ignores, refuses, grants, joins, IsCohort}
use Rattle.kt_protocol.specs.Rows.{Asking, is_open, roll_in_mode, roll_row, hear_roll_ask, check_cohort, reaches, holds, check_in_mode, check_row}
use Rattle.kt_protocol.specs.Rows.{hear_check_ask, answer_ask, join_by_ask}
use Rattle.kt_protocol.proofs.Labels.{Label-cases, Under-not}
use Rattle.kt_protocol.proofs.Streams.{up_to-true}
use Rattle.kt_protocol.proofs.Cases.{true-false}

open-true : (v : Verdict) → is_open v ≡ true → v ≡ Open
open-true Open e = refl
open-true Yes e = true-false e refl
open-true No e = true-false e refl

pub up_to-holds : (a b : Label) → UpTo a b → up_to a b ≡ true
up_to-holds a b u = go (cases_lt a.life b.life) where
  go : (a.life < b.life) ⊎ (b.life ≤ a.life) → up_to a b ≡ true
  go (inl less) = or_left (ltb a.life b.life) (eqb a.life b.life && leb a.count b.count) (lt-ltb a.life b.life less)
  go (inr le) =
      let same : a.life ≡ b.life = omega arith in
      or_right (ltb a.life b.life) (eqb a.life b.life && leb a.count b.count)
      (and_from (eqb a.life b.life) (leb a.count b.count) (eq-eqb a.life b.life same) (le-leb a.count b.count (u.counts same)))

pub up_to-false : (a b : Label) → up_to a b ≡ false → Under b a
up_to-false a b e = elim (Label-cases a b) [ inl u ↦ true-false (up_to-holds a b u) e | inr u ↦ u ]

-- the ask of a rollback
roll-in-mode : (peer : ℕ → ℕ → Bool) (k o x : ℕ) (a : Asking) (s : State) → IsTrue (peer x o) → s.link x o ≡ Ask (Rollback k) a.label a.life ∷ a.rest
    → s.board.verdict (Rollback k) ≡ Open → Under a.label (top_heard (s.node o).log x) → (m : Mode) → (s.node o).mode ≡ m
    → Step peer s (roll_in_mode peer k o x a s m)
roll-in-mode peer k o x a s t front opened u Up e =
    joins o x (Rollback k) a.label a.life a.rest (peer o) t front e opened u record { within = λ q f. f; covers = λ q f g. f }
roll-in-mode peer k o x a s t front opened u (Within (Rollback m) b) e = go (eqb m k) refl where
  go : (y : Bool) → eqb m k ≡ y → Step peer s (answer_ask (Rollback k) o x a y s)
  go true f = grants o x (Rollback k) a.label a.life a.rest t front opened (inl (ap instance_of e ∙ ap (λ n. Some (Rollback n)) (eqb-true m k f)))
  go false f = refuses o x (Rollback k) a.label a.life a.rest t front
roll-in-mode peer k o x a s t front opened u (Within (Check m) b) e = refuses o x (Rollback k) a.label a.life a.rest t front
roll-in-mode peer k o x a s t front opened u Down e = refuses o x (Rollback k) a.label a.life a.rest t front

roll-row : (peer : ℕ → ℕ → Bool) (k o x : ℕ) (a : Asking) (s : State) → IsTrue (peer x o) → s.link x o ≡ Ask (Rollback k) a.label a.life ∷ a.rest
    → Step peer s (roll_row peer k o x a s)
roll-row peer k o x a s t front = go (is_open (s.board.verdict (Rollback k))) refl (up_to (top_heard (s.node o).log x) a.label) refl where
  go : (v : Bool) → is_open (s.board.verdict (Rollback k)) ≡ v → (h : Bool) → up_to (top_heard (s.node o).log x) a.label ≡ h
      → Step peer s (if not v then answer_ask (Rollback k) o x a false s else (if h then answer_ask (Rollback k) o x a true s
      else roll_in_mode peer k o x a s (s.node o).mode))
  go false e h f = refuses o x (Rollback k) a.label a.life a.rest t front
  go true e true f = grants o x (Rollback k) a.label a.life a.rest t front (open-true (s.board.verdict (Rollback k)) e)
      (inr (up_to-true (top_heard (s.node o).log x) a.label f))
  go true e false f = roll-in-mode peer k o x a s t front (open-true (s.board.verdict (Rollback k)) e)
      (up_to-false (top_heard (s.node o).log x) a.label f) (s.node o).mode refl

pub roll-ask-step : (peer : ℕ → ℕ → Bool) (k o x : ℕ) (a : Asking) (s : State) → IsTrue (peer x o)
    → s.link x o ≡ Ask (Rollback k) a.label a.life ∷ a.rest → Step peer s (hear_roll_ask peer k o x a s (s.node o).mode)
roll-ask-step peer k o x a s t front = go (s.node o).mode where
  go : (m : Mode) → Step peer s (hear_roll_ask peer k o x a s m)
  go Up = roll-row peer k o x a s t front
  go (Within i b) = roll-row peer k o x a s t front
  go Down = ignores o x (Rollback k) a.label a.life a.rest t front

-- the ask of a check
check-cohort : (peer : ℕ → ℕ → Bool) (k o : ℕ) (n : Node) → IsCohort peer (Check k) o n (check_cohort peer o n)
check-cohort peer k o n = record {
  within = λ q e. (and_parts (peer o q) (not (up_to (top_heard n.log q) (top_heard n.perm q))) e).0;
  covers = λ q t u. and_from (peer o q) (not (up_to (top_heard n.log q) (top_heard n.perm q))) t
      (negated (up_to (top_heard n.log q) (top_heard n.perm q)) (λ e. Under-not u (up_to-true (top_heard n.log q) (top_heard n.perm q) e)));
} where
  negated : (b : Bool) → (b ≡ true → ⊥) → not b ≡ true
  negated true ne = absurd (ne refl)
  negated false ne = refl

check-holds : (t : Option ℕ) (k : ℕ) → holds t k ≡ true → t ≡ Some k
check-holds None k e = true-false e refl
check-holds (Some j) k e = ap Some (eqb-true j k e)

check-held : (peer : ℕ → ℕ → Bool) (k o x : ℕ) (a : Asking) (s : State) → IsTrue (peer x o) → s.link x o ≡ Ask (Check k) a.label a.life ∷ a.rest
    → s.board.verdict (Check k) ≡ Open
    → Step peer s (answer_ask (Check k) o x a (holds (s.node o).tent k && up_to a.label (top_sent (s.node o).log x)) s)
check-held peer k o x a s t front opened = go (holds (s.node o).tent k && up_to a.label (top_sent (s.node o).log x)) refl where
  go : (y : Bool) → (holds (s.node o).tent k && up_to a.label (top_sent (s.node o).log x)) ≡ y → Step peer s (answer_ask (Check k) o x a y s)
  go true e = let parts = and_parts (holds (s.node o).tent k) (up_to a.label (top_sent (s.node o).log x)) e in
      grants o x (Check k) a.label a.life a.rest t front opened
      (inr (check-holds (s.node o).tent k parts.0, up_to-true a.label (top_sent (s.node o).log x) parts.1))
  go false e = refuses o x (Check k) a.label a.life a.rest t front

check-in-mode : (peer : ℕ → ℕ → Bool) (k o x : ℕ) (a : Asking) (first : Option Label) (s : State) → IsTrue (peer x o)
    → s.link x o ≡ Ask (Check k) a.label a.life ∷ a.rest → s.board.verdict (Check k) ≡ Open → Under (top_sent (s.node o).perm x) a.label
    → (m : Mode) → (s.node o).mode ≡ m → Step peer s (check_in_mode peer k o x a first s m)
check-in-mode peer k o x a first s t front opened u Up e = go (reaches first a.label && up_to a.label (top_sent (s.node o).log x)) where
  go : (y : Bool) → Step peer s (if y then join_by_ask (Check k) o x a (check_cohort peer o (s.node o)) s else answer_ask (Check k) o x a false s)
  go true = joins o x (Check k) a.label a.life a.rest (check_cohort peer o (s.node o)) t front e opened u (check-cohort peer k o (s.node o))
  go false = refuses o x (Check k) a.label a.life a.rest t front
check-in-mode peer k o x a first s t front opened u (Within i b) e = check-held peer k o x a s t front opened
check-in-mode peer k o x a first s t front opened u Down e = check-held peer k o x a s t front opened

check-row : (peer : ℕ → ℕ → Bool) (k o x : ℕ) (a : Asking) (first : Option Label) (s : State) → IsTrue (peer x o)
    → s.link x o ≡ Ask (Check k) a.label a.life ∷ a.rest → Step peer s (check_row peer k o x a first s)
check-row peer k o x a first s t front = go (is_open (s.board.verdict (Check k))) refl (up_to a.label (top_sent (s.node o).perm x)) refl where
  go : (v : Bool) → is_open (s.board.verdict (Check k)) ≡ v → (h : Bool) → up_to a.label (top_sent (s.node o).perm x) ≡ h
      → Step peer s (if not v then answer_ask (Check k) o x a false s else (if h then answer_ask (Check k) o x a true s
      else check_in_mode peer k o x a first s (s.node o).mode))
  go false e h f = refuses o x (Check k) a.label a.life a.rest t front
  go true e true f = grants o x (Check k) a.label a.life a.rest t front (open-true (s.board.verdict (Check k)) e)
      (inl (up_to-true a.label (top_sent (s.node o).perm x) f))
  go true e false f = check-in-mode peer k o x a first s t front (open-true (s.board.verdict (Check k)) e)
      (up_to-false a.label (top_sent (s.node o).perm x) f) (s.node o).mode refl

pub check-ask-step : (peer : ℕ → ℕ → Bool) (k o x : ℕ) (a : Asking) (first : Option Label) (s : State) → IsTrue (peer x o)
    → s.link x o ≡ Ask (Check k) a.label a.life ∷ a.rest → Step peer s (hear_check_ask peer k o x a first s (s.node o).mode)
check-ask-step peer k o x a first s t front = go (s.node o).mode where
  go : (m : Mode) → Step peer s (hear_check_ask peer k o x a first s m)
  go Up = check-row peer k o x a first s t front
  go (Within i b) = check-row peer k o x a first s t front
  go Down = ignores o x (Check k) a.label a.life a.rest t front
