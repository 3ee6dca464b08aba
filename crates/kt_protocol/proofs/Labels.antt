-- The order of labels, and functions changed at a place.
-- Cited by Answers, Casts, Checks, Consequences, Cuts, Examples, Frames, Grounds, Joins, Keeps, Logs, Main, Rises,
--   Rows, Starts, Streams, Talks, Trees, Votes; other crates.
use Rattle.std.proofs.Common.{◌≡◌, ◌≢◌, ◌⊎◌, ℕ, ◌<◌, ◌≤◌, inl, inr, refl, sym, subst, arith}
use Rattle.std.proofs.lemmas.Bool.{cases_lt, cases_eq, cases_order, eq-eqb, ne_eqb}
use Rattle.kt_protocol.specs.Labels.{Label, no_label, Under, UpTo, at}

pub Under-UpTo : {a b c : Label} → Under a b → UpTo b c → Under a c
Under-UpTo u v = omega arith

pub UpTo-Under : {a b c : Label} → UpTo a b → Under b c → Under a c
UpTo-Under u v = omega arith

pub UpTo-trans : {a b c : Label} → UpTo a b → UpTo b c → UpTo a c
UpTo-trans u v = omega arith

pub UpTo-refl : (a : Label) → UpTo a a
UpTo-refl a = omega arith

pub Under-weak : {a b : Label} → Under a b → UpTo a b
Under-weak u = omega arith

pub UpTo-eq : {a b : Label} → a ≡ b → UpTo a b
UpTo-eq {a} e = subst (UpTo a) e (UpTo-refl a)

pub Under-not : {a b : Label} → Under a b → UpTo b a → ⊥
Under-not {a} {b} u v = let e : a.life ≡ b.life = omega arith in omega (arith, u.counts e, v.counts (sym e))

pub UpTo-least : (a : Label) → UpTo no_label a
UpTo-least a = omega arith

pub Label-cases : (a b : Label) → UpTo a b ⊎ Under b a
Label-cases a b = lives (cases_order a.life b.life) where
  counts : a.life ≡ b.life → (b.count < a.count) ⊎ (a.count ≤ b.count) → UpTo a b ⊎ Under b a
  counts e (inl less) = inr (omega arith)
  counts e (inr le) = inl (omega arith)

  lives : (a.life ≡ b.life) ⊎ ((a.life < b.life) ⊎ (b.life < a.life)) → UpTo a b ⊎ Under b a
  lives (inl e) = counts e (cases_lt b.count a.count)
  lives (inr (inl less)) = inl (omega arith)
  lives (inr (inr more)) = inr (omega arith)

-- a function changed at a place
pub at-here : {A : Type 0} (k : ℕ) (new : A) (old : ℕ → A) → at k new old k ≡ new
at-here k new old = rw (eq-eqb k k refl) refl

pub at-else : {A : Type 0} (k : ℕ) (new : A) (old : ℕ → A) (x : ℕ) → x ≢ k → at k new old x ≡ old x
at-else k new old x ne = rw (ne_eqb x k ne) refl

pub at-both : {A : Type 0} (k : ℕ) (new : A) (old : ℕ → A) (x : ℕ) (P : A → Type 0)
    → (x ≡ k → P new) → (x ≢ k → P (old x)) → P (at k new old x)
at-both k new old x P f g = go (cases_eq x k) where
  go : (x ≡ k) ⊎ (x ≢ k) → P (at k new old x)
  go (inl e) = rw (eq-eqb x k e) (f e)
  go (inr ne) = rw (ne_eqb x k ne) (g ne)
