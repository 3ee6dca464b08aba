-- Lists of acts in which each node did the same have the same services, in some order.
-- Cited by other crates.
use Rattle.std.proofs.Common.{◌≡◌, ◌⊎◌, ℕ, Bool, true, false, List, [], ◌∷◌, ◌++◌, cond, filter, Option, Some, None, inl, inr, refl, sym, ap, ◌∙◌, subst}
use Rattle.std.specs.Prelude.{IsPermutation}
use Rattle.std.specs.List.{cons_option, filter_map}
use Rattle.std.proofs.lemmas.Bool.{cases_Bool}
use Rattle.std.proofs.lemmas.List.Sorted.{IsPermutation-refl, IsPermutation-sym, IsPermutation-trans, IsPermutation-cons, IsPermutation-middle}
use Rattle.kt_tuple.specs.declared.node.NodeId.{NodeId}
use Rattle.kt_tuple.specs.declared.service.Service.{Service}
use Rattle.kt_history.specs.declared.note.Act.{Act}
use Rattle.kt_history.specs.declared.note.What.{What}
use Rattle.kt_history.specs.declared.note.What.TheVariants as whats
use Rattle.kt_history.specs.Log.{same_node}
use Rattle.kt_history.specs.Closed.{own}
use Rattle.kt_history.specs.Survival.{service_of, services_of}
use Rattle.kt_history.proofs.Shared.{same_node-refl, same_node-true}
use Rattle.kt_logs.proofs.Renamed.{IsAs, AreAs}

-- ---- one node's acts among others

own-same : (p : NodeId) (a : Act) (acts : List Act) → same_node a.node p ≡ true → own p (a ∷ acts) ≡ a ∷ own p acts
own-same p a acts e = ap (λ b. cond b (a ∷ own p acts) (own p acts)) e

own-other : (p : NodeId) (a : Act) (acts : List Act) → same_node a.node p ≡ false → own p (a ∷ acts) ≡ own p acts
own-other p a acts e = ap (λ b. cond b (a ∷ own p acts) (own p acts)) e

own-append : (p : NodeId) (xs ys : List Act) → own p (xs ++ ys) ≡ own p xs ++ own p ys
own-append p [] ys = refl
own-append p (a ∷ xs) ys = by (same_node a.node p) refl (own-append p xs ys)
  where
    by : (r : Bool) → same_node a.node p ≡ r → own p (xs ++ ys) ≡ own p xs ++ own p ys → own p (a ∷ (xs ++ ys)) ≡ own p (a ∷ xs) ++ own p ys
    by true e rest = own-same p a (xs ++ ys) e ∙ ap (λ l. a ∷ l) rest ∙ ap (λ l. l ++ own p ys) (sym (own-same p a xs e))
    by false e rest = own-other p a (xs ++ ys) e ∙ rest ∙ ap (λ l. l ++ own p ys) (sym (own-other p a xs e))

-- where the node's first act stands
record Split (p : NodeId) (acts : List Act) (b : Act) (rest : List Act) : Type 0 where
  before : List Act
  behind : List Act
  is : acts ≡ before ++ b ∷ behind
  none : own p before ≡ []
  later : own p behind ≡ rest
  node : same_node b.node p ≡ true

split : (p : NodeId) (acts : List Act) (b : Act) (rest : List Act) → own p acts ≡ b ∷ rest → Split p acts b rest
split p [] b rest e = absurd (cc (e))
split p (a ∷ acts) b rest e = by (same_node a.node p) refl (λ x. split p acts b rest x)
  where
    by : (r : Bool) → same_node a.node p ≡ r → (own p acts ≡ b ∷ rest → Split p acts b rest) → Split p (a ∷ acts) b rest
    by true same again =
        let here : a ∷ own p acts ≡ b ∷ rest = sym (own-same p a acts same) ∙ e in
        let head : a ≡ b = cc (here) in
        let tail : own p acts ≡ rest = cc (here) in
        record {
          before = [];
          behind = acts;
          is = ap (λ x. x ∷ acts) head;
          none = refl;
          later = tail;
          node = ap (λ (x : Act). same_node x.node p) (sym head) ∙ same;
        }
    by false other again =
        let rec = again (sym (own-other p a acts other) ∙ e) in record {
          before = a ∷ rec.before;
          behind = rec.behind;
          is = ap (λ l. a ∷ l) rec.is;
          none = own-other p a rec.before other ∙ rec.none;
          later = rec.later;
          node = rec.node;
        }

-- ---- services

module _ (R : ℕ → ℕ → Type 0) where
  as-service : (a b : Act) → IsAs R a b → service_of a a.what ≡ service_of b b.what
  as-service a b same = by a.what refl
    where
      by : (what : What) → a.what ≡ what → service_of a a.what ≡ service_of b b.what
      by (whats.Served answer) e =
          ap (service_of a) e
          ∙ ap (λ (s : Service). Some s) (cc (same.worker, same.number, same.op))
          ∙ ap (service_of b) (sym e ∙ same.what)
      by whats.Issue e = ap (service_of a) e ∙ ap (service_of b) (sym e ∙ same.what)
      by whats.Repeat e = ap (service_of a) e ∙ ap (service_of b) (sym e ∙ same.what)
      by whats.Heard e = ap (service_of a) e ∙ ap (service_of b) (sym e ∙ same.what)
      by (whats.Again answer) e = ap (service_of a) e ∙ ap (service_of b) (sym e ∙ same.what)
      by (whats.Accepted answer) e = ap (service_of a) e ∙ ap (service_of b) (sym e ∙ same.what)
      by (whats.Ignored answer) e = ap (service_of a) e ∙ ap (service_of b) (sym e ∙ same.what)

  services-append : (xs ys : List Act) → services_of (xs ++ ys) ≡ services_of xs ++ services_of ys
  services-append [] ys = refl
  services-append (a ∷ xs) ys = by (service_of a a.what) (services-append xs ys)
    where
      by : (o : Option Service) → services_of (xs ++ ys) ≡ services_of xs ++ services_of ys
          → cons_option o (services_of (xs ++ ys)) ≡ cons_option o (services_of xs) ++ services_of ys
      by None rest = rest
      by (Some s) rest = ap (λ l. s ∷ l) rest

  -- an act more in front, and the same one in between
  one-more : (o : Option Service) (m xs ys : List Service) → IsPermutation m (xs ++ ys) → IsPermutation (cons_option o m) (xs ++ cons_option o ys)
  one-more None m xs ys perm = perm
  one-more (Some s) m xs ys perm =
      IsPermutation-trans (s ∷ m) (s ∷ (xs ++ ys)) (xs ++ s ∷ ys) (IsPermutation-cons s m (xs ++ ys) perm)
      (IsPermutation-sym (xs ++ s ∷ ys) (s ∷ (xs ++ ys)) (IsPermutation-middle xs s ys))

  -- what an act leaves of the acts of each node
  others : (M N : List Act) (a b : Act) (xs ys : List Act) → N ≡ xs ++ b ∷ ys → same_node b.node a.node ≡ true → own a.node xs ≡ []
      → AreAs R (own a.node M) (own a.node ys) → ((q : NodeId) → AreAs R (own q (a ∷ M)) (own q N)) → (q : NodeId) → AreAs R (own q M) (own q (xs ++ ys))
  others M N a b xs ys is node none mine all q = elim (cases_Bool (same_node a.node q)) [
    | inl e ↦
        let P : NodeId → Type 0 = λ r. AreAs R (own r M) (own r (xs ++ ys)) in
        let here : own a.node (xs ++ ys) ≡ own a.node ys = own-append a.node xs ys ∙ ap (λ l. l ++ own a.node ys) none in
        subst P (same_node-true a.node q e) (subst (AreAs R (own a.node M)) (sym here) mine)
    | inr e ↦
        let apart : same_node b.node q ≡ false = ap (λ r. same_node r q) (same_node-true b.node a.node node) ∙ e in
        let there : own q N ≡ own q (xs ++ ys) =
        ap (own q) is ∙ own-append q xs (b ∷ ys) ∙ ap (λ l. own q xs ++ l) (own-other q b ys apart) ∙ sym (own-append q xs ys) in
        subst (λ l. AreAs R l (own q (xs ++ ys))) (own-other q a M e) (subst (AreAs R (own q (a ∷ M))) there (all q))
  ]

  no-acts : (N : List Act) → ((q : NodeId) → AreAs R [] (own q N)) → N ≡ []
  no-acts [] all = refl
  no-acts (b ∷ N) all = absurd (subst (AreAs R []) (own-same b.node b N (same_node-refl b.node)) (all b.node))

  -- the first act of these has its like among those
  record First (a : Act) (M N : List Act) : Type 0 where
    like : Act
    rest : List Act
    is : own a.node N ≡ like ∷ rest
    alike : IsAs R a like
    later : AreAs R (own a.node M) rest

  first : (a : Act) (M N : List Act) → AreAs R (own a.node (a ∷ M)) (own a.node N) → First a M N
  first a M N all = by (own a.node N) refl (subst (λ l. AreAs R l (own a.node N)) (own-same a.node a M (same_node-refl a.node)) all)
    where
      by : (l : List Act) → own a.node N ≡ l → AreAs R (a ∷ own a.node M) (own a.node N) → First a M N
      by [] e same = absurd (subst (AreAs R (a ∷ own a.node M)) e same)
      by (b ∷ rest) e same =
          let both : AreAs R (a ∷ own a.node M) (b ∷ rest) = subst (AreAs R (a ∷ own a.node M)) e same in
          record { like = b; rest = rest; is = e; alike = both.0; later = both.1 }

  pub same-services : (M N : List Act) → ((q : NodeId) → AreAs R (own q M) (own q N)) → IsPermutation (services_of M) (services_of N)
  same-services [] N all = subst (λ l. IsPermutation [] (services_of l)) (sym (no-acts N all)) (IsPermutation-refl [])
  same-services (a ∷ M) N all =
      let f = first a M N (all a.node) in
      let at = split a.node N f.like f.rest f.is in
      let mine : AreAs R (own a.node M) (own a.node at.behind) = subst (AreAs R (own a.node M)) (sym at.later) f.later in
      let rest = same-services M (at.before ++ at.behind) (others M N a f.like at.before at.behind at.is at.node at.none mine all) in
      let perm : IsPermutation (services_of M) (services_of at.before ++ services_of at.behind) =
      subst (IsPermutation (services_of M)) (services-append at.before at.behind) rest in
      let more = one-more (service_of a a.what) (services_of M) (services_of at.before) (services_of at.behind) perm in
      let there : services_of at.before ++ cons_option (service_of a a.what) (services_of at.behind) ≡ services_of N =
      ap (λ o. services_of at.before ++ cons_option o (services_of at.behind)) (as-service a f.like f.alike)
      ∙ sym (services-append at.before (f.like ∷ at.behind)) ∙ ap services_of (sym at.is) in
      subst (IsPermutation (services_of (a ∷ M))) there more
