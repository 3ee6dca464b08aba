-- Messages in order: their labels rise, and an ask flushes the link.
-- Cited by Answers, Casts, Checks, Cuts, Frames, Grounds, Invariant, Joins, Keeps, Main, Rises, Rows, Starts, Talks,
--   Trees, Votes; other crates.
use Rattle.std.proofs.Common.{◌≡◌, ◌≢◌, ◌⊎◌, ℕ, Bool, true, false, if◌then◌else◌, inl, inr, refl, sym, ap, subst, arith, List, [], ◌∷◌, ◌++◌, ◌&&◌, ltb, leb}
use Rattle.std.proofs.Common.{eqb}
use Rattle.std.proofs.lemmas.Bool.{ltb-true, leb-true, eqb-true, or_cases, and_parts}
use Rattle.kt_protocol.specs.Labels.{Label, Under, UpTo, up_to}
use Rattle.kt_protocol.specs.Logs.{IsIn, here, there}
use Rattle.kt_protocol.specs.Machine.{Instance, AppMessage, Message, App, Ask}
use Rattle.kt_protocol.specs.Steps.{sieve}
use Rattle.kt_protocol.proofs.Labels.{Under-UpTo, UpTo-Under, Under-weak}

-- where a member of two lists joined stands
pub in-append : {A : Type 0} {x : A} (xs ys : List A) → IsIn x (xs ++ ys) → IsIn x xs ⊎ IsIn x ys
in-append [] ys i = inr i
in-append (y ∷ xs) ys here = inl here
in-append {x = x} (y ∷ xs) ys (there i) = go (in-append xs ys i) where
  go : IsIn x xs ⊎ IsIn x ys → IsIn x (y ∷ xs) ⊎ IsIn x ys
  go (inl j) = inl (there j)
  go (inr j) = inr j

pub in-left : {A : Type 0} {x : A} {xs : List A} (ys : List A) → IsIn x xs → IsIn x (xs ++ ys)
in-left ys here = here
in-left ys (there i) = there (in-left ys i)

pub in-right : {A : Type 0} {x : A} (xs : List A) {ys : List A} → IsIn x ys → IsIn x (xs ++ ys)
in-right [] i = i
in-right (y ∷ xs) i = there (in-right xs i)

pub in-cons : {A : Type 0} {x y : A} {xs : List A} → IsIn x (y ∷ xs) → (x ≡ y) ⊎ IsIn x xs
in-cons here = inl refl
in-cons (there i) = inr i

pub in-one : {A : Type 0} {x y : A} → IsIn x (y ∷ []) → x ≡ y
in-one here = refl
in-one (there i) = elim i [ ]

-- part of a list, in its order
pub data Sub {A : Type 0} : List A → List A → Type 0 where
  done : Sub [] []
  skip : {y : A} {xs ys : List A} → Sub xs ys → Sub xs (y ∷ ys)
  keep : {y : A} {xs ys : List A} → Sub xs ys → Sub (y ∷ xs) (y ∷ ys)

pub Sub-refl : {A : Type 0} (xs : List A) → Sub xs xs
Sub-refl [] = done
Sub-refl (x ∷ xs) = keep (Sub-refl xs)

pub Sub-app : {A : Type 0} {xs ys : List A} (zs : List A) → Sub xs ys → Sub (xs ++ zs) (ys ++ zs)
Sub-app zs done = Sub-refl zs
Sub-app zs (skip s) = skip (Sub-app zs s)
Sub-app zs (keep s) = keep (Sub-app zs s)

pub Sub-under : {A : Type 0} (zs : List A) {xs ys : List A} → Sub xs ys → Sub (zs ++ xs) (zs ++ ys)
Sub-under [] s = s
Sub-under (z ∷ zs) s = keep (Sub-under zs s)

pub Sub-right : {A : Type 0} (xs ys : List A) → Sub ys (xs ++ ys)
Sub-right [] ys = Sub-refl ys
Sub-right (x ∷ xs) ys = skip (Sub-right xs ys)

pub Sub-in : {A : Type 0} {x : A} {xs ys : List A} → Sub xs ys → IsIn x xs → IsIn x ys
Sub-in (skip s) i = there (Sub-in s i)
Sub-in (keep s) here = here
Sub-in (keep s) (there i) = there (Sub-in s i)
Sub-in done i = elim i [ ]

-- the underlying messages of a link
abbrev pub apps : List Message → List AppMessage
apps [] = []
apps (App m ∷ link) = m ∷ apps link
apps (Ask i l c ∷ link) = apps link

pub apps-append : (xs ys : List Message) → apps (xs ++ ys) ≡ apps xs ++ apps ys
apps-append [] ys = refl
apps-append (App m ∷ xs) ys = ap (λ t. m ∷ t) (apps-append xs ys)
apps-append (Ask i l c ∷ xs) ys = apps-append xs ys

-- labels rise from low, each message is as C says, and all stand below next
pub data Rising (C : AppMessage → Type 0) (next : Label) : Label → List AppMessage → Type 0 where
  ends : {low : Label} → Under low next → Rising C next low []
  over : {low : Label} (m : AppMessage) {ms : List AppMessage} → Under low m.label → C m → Rising C next m.label ms → Rising C next low (m ∷ ms)

pub Rising-map : {C D : AppMessage → Type 0} {next next' low : Label} {ms : List AppMessage} → UpTo next next'
    → ((m : AppMessage) → IsIn m ms → C m → D m) → Rising C next low ms → Rising D next' low ms
Rising-map u f (ends v) = ends (Under-UpTo v u)
Rising-map u f (over m v c r) = over m v (f m here c) (Rising-map u (λ k i. f k (there i)) r)

pub Rising-low : {C : AppMessage → Type 0} {next low low' : Label} {ms : List AppMessage} → UpTo low' low → Rising C next low ms
    → Rising C next low' ms
Rising-low u (ends v) = ends (UpTo-Under u v)
Rising-low u (over m v c r) = over m (UpTo-Under u v) c r

pub Rising-sub : {C : AppMessage → Type 0} {next low : Label} {ks ms : List AppMessage} → Sub ks ms → Rising C next low ms
    → Rising C next low ks
Rising-sub done r = r
Rising-sub (skip s) (over m v c r) = Rising-sub s (Rising-low (Under-weak v) r)
Rising-sub (keep s) (over m v c r) = over m v c (Rising-sub s r)

pub Rising-push : {C : AppMessage → Type 0} {next next' low : Label} {ms : List AppMessage} (m : AppMessage) → m.label ≡ next
    → Under next next' → C m → Rising C next low ms → Rising C next' low (ms ++ m ∷ [])
Rising-push {next' = next'} m e u c (ends {low} v) =
    over m (subst (Under low) (sym e) v) c (ends (subst (λ l. Under l next') (sym e) u))
Rising-push m e u c (over k v d r) = over k v d (Rising-push m e u c r)

pub Rising-head : {C : AppMessage → Type 0} {next low : Label} {m : AppMessage} {ms : List AppMessage} → Rising C next low (m ∷ ms)
    → Under low m.label × C m × Rising C next m.label ms
Rising-head (over m v c r) = (v, c, r)

pub up_to-true : (a b : Label) → up_to a b ≡ true → UpTo a b
up_to-true a b e = go (or_cases (ltb a.life b.life) (eqb a.life b.life && leb a.count b.count) e) where
  go : (ltb a.life b.life ≡ true) ⊎ ((eqb a.life b.life && leb a.count b.count) ≡ true) → UpTo a b
  go (inl less) = let f = ltb-true a.life b.life less in omega arith
  go (inr same) =
      let parts = and_parts (eqb a.life b.life) (leb a.count b.count) same in
      let f = eqb-true a.life b.life parts.0 in
      let g = leb-true a.count b.count parts.1 in
      omega arith

-- what a sieve leaves is part of what was there, up to the label
pub sieve-part : (l : Label) (ks : List AppMessage) → Sub (sieve l ks) ks
unfolding sieve
sieve-part l [] = done
sieve-part l (m ∷ ks) = go (up_to m.label l) (sieve-part l ks) where
  go : (t : Bool) → Sub (sieve l ks) ks → Sub (if t then m ∷ sieve l ks else sieve l ks) (m ∷ ks)
  go true s = keep s
  go false s = skip s

pub sieve-in : (l : Label) (ks : List AppMessage) (m : AppMessage) → IsIn m (sieve l ks) → UpTo m.label l
unfolding sieve
sieve-in l [] m i = elim i [ ]
sieve-in l (k ∷ ks) m i = go (up_to k.label l) refl (sieve-in l ks m) i where
  go : (t : Bool) → up_to k.label l ≡ t → (IsIn m (sieve l ks) → UpTo m.label l)
      → IsIn m (if t then k ∷ sieve l ks else sieve l ks) → UpTo m.label l
  go true e old j = pick (in-cons j) where
    pick : (m ≡ k) ⊎ IsIn m (sieve l ks) → UpTo m.label l
    pick (inl same) = subst (λ (n : AppMessage). UpTo n.label l) (sym same) (up_to-true k.label l e)
    pick (inr rest) = old rest
  go false e old j = old j

-- no ask of this key
abbrev pub NoAsk : Instance → ℕ → List Message → Type 0
NoAsk i c link = (l : Label) → IsIn (Ask i l c) link → ⊥

-- just one ask of this key stands on the link, with this label, and what stands behind it is as Behind says
pub data Asked (i : Instance) (c : ℕ) (top : Label) (Behind : List Message → Type 0) : List Message → Type 0 where
  front : {rest : List Message} → NoAsk i c rest → Behind rest → Asked i c top Behind (Ask i top c ∷ rest)
  later : {m : Message} {rest : List Message} → ((l : Label) → Ask i l c ≢ m) → Asked i c top Behind rest
      → Asked i c top Behind (m ∷ rest)

pub Asked-push : {i : Instance} {c : ℕ} {top : Label} {Behind : List Message → Type 0} (link : List Message)
    → NoAsk i c link → Behind [] → Asked i c top Behind (link ++ Ask i top c ∷ [])
Asked-push [] none b = front (λ l i. elim i [ ]) b
Asked-push {i} {c} (m ∷ link) none b =
    later (λ l e. none l (subst (λ k. IsIn (Ask i l c) (k ∷ link)) e here)) (Asked-push link (λ l j. none l (there j)) b)

pub Asked-map : {i : Instance} {c : ℕ} {top : Label} {Behind Past : List Message → Type 0} {link : List Message}
    → ((rest : List Message) → Behind rest → Past rest) → Asked i c top Behind link → Asked i c top Past link
Asked-map f (front {rest} none b) = front none (f rest b)
Asked-map f (later ne a) = later ne (Asked-map f a)

pub Asked-app : {i : Instance} {c : ℕ} {top : Label} {Behind : List Message → Type 0} {m : AppMessage} {rest : List Message}
    → Asked i c top Behind (App m ∷ rest) → Asked i c top Behind rest
Asked-app (later ne a) = a
