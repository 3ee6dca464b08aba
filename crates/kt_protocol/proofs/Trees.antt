-- The trees of those who joined an instance: they grow, and where the root said yes all said yes.
-- Cited by Casts, Checks, Rises, Starts.
use Rattle.std.proofs.Common.{◌≡◌, ◌⊎◌, ℕ, Bool, IsTrue, List, ◌∷◌, Option, Some, None, inl, inr, refl, sym, ap, subst, ◌∙◌}
use Rattle.kt_protocol.specs.Labels.{at}
use Rattle.kt_protocol.specs.Logs.{IsIn, here, there}
use Rattle.kt_protocol.specs.Machine.{Instance, Open, Yes, Key, Member, Mark, Board}
use Rattle.kt_protocol.proofs.Labels.{at-both, at-here}
use Rattle.kt_protocol.proofs.Streams.{in-cons}
use Rattle.kt_protocol.proofs.Invariant.{a_member, a_mark, IsMember, Descends, first, child, Trees}
use Rattle.kt_protocol.proofs.Cases.{open-yes}

-- an element more at a place
pub at-there : {A : Type 0} {y : A} (o : ℕ) (new : A) (J : ℕ → List A) (x : ℕ) → IsIn y (J x) → IsIn y (at o (new ∷ J o) J x)
at-there {y = y} o new J x i = at-both o (new ∷ J o) J x (λ l. IsIn y l)
    (λ e. there (subst (λ z. IsIn y (J z)) e i)) (λ ne. i)

pub at-new : {A : Type 0} (o : ℕ) (new : A) (J : ℕ → List A) → IsIn new (at o (new ∷ J o) J o)
at-new o new J = subst (λ l. IsIn new l) (sym (at-here o (new ∷ J o) J)) here

pub at-cases : {A : Type 0} {y : A} (o : ℕ) (new : A) (J : ℕ → List A) (x : ℕ) → IsIn y (at o (new ∷ J o) J x)
    → IsIn y (J x) ⊎ ((x ≡ o) × (y ≡ new))
at-cases {A} {y} o new J x = at-both o (new ∷ J o) J x (λ l. IsIn y l → IsIn y (J x) ⊎ ((x ≡ o) × (y ≡ new))) hit (λ ne i. inl i) where
  hit : x ≡ o → IsIn y (new ∷ J o) → IsIn y (J x) ⊎ ((x ≡ o) × (y ≡ new))
  hit e i = elim (in-cons i) [ inl f ↦ inr (e, f) | inr j ↦ inl (subst (λ z. IsIn y (J z)) (sym e) j) ]

pub Descends-grow : {J K : ℕ → List Member} {i : Instance} {x c : ℕ} → ((x : ℕ) (m : Member) → IsIn m (J x) → IsIn m (K x))
    → Descends J i x c → Descends K i x c
Descends-grow {i = i} f (first {x} {c} m) = first (f x (a_member i c None) m)
Descends-grow {i = i} f (child {x} {c} k m d) = child k (f x (a_member i c (Some k)) m) (Descends-grow f d)

abbrev parent_of : Member → Option Key
parent_of m = m.parent

-- a node joins
pub Trees-join : {peer : ℕ → ℕ → Bool} {B : Board} {J : ℕ → List Member} {S : ℕ → List Mark} (o : ℕ) (i : Instance) (c : ℕ) (par : Option Key)
    → B.verdict i ≡ Open
    → ((k : Key) → par ≡ Some k → IsMember (J k.node) i k.life × (IsIn (a_mark i k.life) (S k.node) → ⊥) × IsTrue (peer k.node o))
    → (par ≡ None → (x d : ℕ) → IsIn (a_member i d None) (J x) → ⊥)
    → Trees peer B J S → Trees peer B (at o (a_member i c par ∷ J o) J) S
Trees-join {peer} {B} {J} {S} o i c par opened fits alone w = record {
  descends = λ x j d m. descends x j d m.0 (at-cases o new J x m.1);
  below = λ x j d k m e said. below x j d k e said (at-cases o new J x m);
  every = λ x j d m e. every x j d e m.0 (at-cases o new J x m.1);
  root = λ x y j d e m n. root x y j d e (at-cases o new J x m) (at-cases o new J y n);
  parents = λ x j d k m. parents x j d k (at-cases o new J x m);
  asker = λ x j d k m. asker x j d k (at-cases o new J x m);
} where
  new : Member
  new = a_member i c par

  K : ℕ → List Member
  K = at o (new ∷ J o) J

  grows : (x : ℕ) (m : Member) → IsIn m (J x) → IsIn m (K x)
  grows x m k = at-there o new J x k

  rooted : (p : Option Key) → par ≡ p → Descends K i o c
  rooted None e = first (subst (λ p. IsIn (a_member i c p) (K o)) e (at-new o new J))
  rooted (Some k) e = child k (subst (λ p. IsIn (a_member i c p) (K o)) e (at-new o new J))
      (Descends-grow grows (w.descends k.node i k.life (fits k e).0))

  descends : (x : ℕ) (j : Instance) (d : ℕ) (p : Option Key) → IsIn (a_member j d p) (J x) ⊎ ((x ≡ o) × (a_member j d p ≡ new)) → Descends K j x d
  descends x j d p (inl m) = Descends-grow grows (w.descends x j d (p, m))
  descends x j d p (inr e) = subst (λ y. Descends K j y d) (sym e.0)
      (subst (λ (m : Member). Descends K m.instance o m.life) (sym e.1) (rooted par refl))

  par_is : {j : Instance} {d : ℕ} {k : Key} → a_member j d (Some k) ≡ new → par ≡ Some k
  par_is e = sym (ap parent_of e)

  below : (x : ℕ) (j : Instance) (d : ℕ) (k : Key) → B.verdict j ≡ Open → IsIn (a_mark j k.life) (S k.node)
      → IsIn (a_member j d (Some k)) (J x) ⊎ ((x ≡ o) × (a_member j d (Some k) ≡ new)) → IsIn (a_mark j d) (S x)
  below x j d k e said (inl m) = w.below x j d k m e said
  below x j d k e said (inr f) = absurd ((fits k (par_is f.1)).1
      (subst (λ (m : Member). IsIn (a_mark m.instance k.life) (S k.node)) f.1 said))

  every : (x : ℕ) (j : Instance) (d : ℕ) → B.verdict j ≡ Yes → (p : Option Key)
      → IsIn (a_member j d p) (J x) ⊎ ((x ≡ o) × (a_member j d p ≡ new)) → IsIn (a_mark j d) (S x)
  every x j d e p (inl m) = w.every x j d (p, m) e
  every x j d e p (inr f) = open-yes opened (subst (λ (m : Member). B.verdict m.instance ≡ Yes) f.1 e)

  root : (x y : ℕ) (j : Instance) (d e : ℕ) → IsIn (a_member j d None) (J x) ⊎ ((x ≡ o) × (a_member j d None ≡ new))
      → IsIn (a_member j e None) (J y) ⊎ ((y ≡ o) × (a_member j e None ≡ new)) → (x ≡ y) × (d ≡ e)
  root x y j d e (inl m) (inl n) = w.root x y j d e m n
  root x y j d e (inr f) (inr g) = (f.0 ∙ sym g.0, ap (λ m. m.life) (f.1 ∙ sym g.1))
  root x y j d e (inl m) (inr g) = absurd (alone (sym (ap parent_of g.1)) x d
      (subst (λ (m : Member). IsIn (a_member m.instance d None) (J x)) g.1 m))
  root x y j d e (inr f) (inl n) = absurd (alone (sym (ap parent_of f.1)) y e
      (subst (λ (m : Member). IsIn (a_member m.instance e None) (J y)) f.1 n))

  parents : (x : ℕ) (j : Instance) (d : ℕ) (k : Key) → IsIn (a_member j d (Some k)) (J x) ⊎ ((x ≡ o) × (a_member j d (Some k) ≡ new))
      → IsMember (K k.node) j k.life
  parents x j d k (inl m) = let old = w.parents x j d k m in (old.0, grows k.node (a_member j k.life old.0) old.1)
  parents x j d k (inr f) =
      let old : IsMember (J k.node) j k.life = subst (λ (m : Member). IsMember (J k.node) m.instance k.life) (sym f.1) (fits k (par_is f.1)).0 in
      (old.0, grows k.node (a_member j k.life old.0) old.1)

  asker : (x : ℕ) (j : Instance) (d : ℕ) (k : Key) → IsIn (a_member j d (Some k)) (J x) ⊎ ((x ≡ o) × (a_member j d (Some k) ≡ new))
      → IsTrue (peer k.node x)
  asker x j d k (inl m) = w.asker x j d k m
  asker x j d k (inr f) = subst (λ y. IsTrue (peer k.node y)) (sym f.0) (fits k (par_is f.1)).2

-- a node says yes
pub Trees-say : {peer : ℕ → ℕ → Bool} {B : Board} {J : ℕ → List Member} {S : ℕ → List Mark} (o : ℕ) (i : Instance) (c : ℕ)
    → ((x d : ℕ) (k : Key) → k.node ≡ o → k.life ≡ c → IsIn (a_member i d (Some k)) (J x) → B.verdict i ≡ Open → IsIn (a_mark i d) (S x))
    → Trees peer B J S → Trees peer B J (at o (a_mark i c ∷ S o) S)
Trees-say {peer} {B} {J} {S} o i c children w = record {
  descends = w.descends;
  below = λ x j d k m e said. at-there o new S x (below x j d k m e (at-cases o new S k.node said));
  every = λ x j d m e. at-there o new S x (w.every x j d m e);
  root = w.root;
  parents = w.parents;
  asker = w.asker;
} where
  new : Mark
  new = a_mark i c

  below : (x : ℕ) (j : Instance) (d : ℕ) (k : Key) → IsIn (a_member j d (Some k)) (J x) → B.verdict j ≡ Open
      → IsIn (a_mark j k.life) (S k.node) ⊎ ((k.node ≡ o) × (a_mark j k.life ≡ new)) → IsIn (a_mark j d) (S x)
  below x j d k m e (inl said) = w.below x j d k m e said
  below x j d k m e (inr f) =
      let same : j ≡ i = ap (λ m. m.instance) f.1 in
      subst (λ h. IsIn (a_mark h d) (S x)) (sym same)
      (children x d k f.0 (ap (λ m. m.life) f.1) (subst (λ h. IsIn (a_member h d (Some k)) (J x)) same m) (subst (λ h. B.verdict h ≡ Open) same e))

-- the root said yes: so did all below
pub all_said : {peer : ℕ → ℕ → Bool} {B : Board} {J : ℕ → List Member} {S : ℕ → List Mark} (o : ℕ) (i : Instance) (c : ℕ)
    → IsIn (a_member i c None) (J o) → B.verdict i ≡ Open → IsIn (a_mark i c) (S o) → Trees peer B J S
    → {x d : ℕ} → Descends J i x d → IsIn (a_mark i d) (S x)
all_said {S = S} o i c top opened said w (first {x = x} {c = d} m) =
    let same = w.root x o i d c m top in
    subst (λ y. IsIn (a_mark i d) (S y)) (sym same.0) (subst (λ e. IsIn (a_mark i e) (S o)) (sym same.1) said)
all_said o i c top opened said w (child {x = x} {c = d} k m r) = w.below x i d k m opened (all_said o i c top opened said w r)
