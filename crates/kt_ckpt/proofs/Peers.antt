-- The labels of the neighbours are a field.
-- Cited by Checkpoints, OldCheckpoints, OldParts, decode.rt, `encode::push_labels`, `encode::push_peers`.
use Rattle.std.proofs.Common.{◌≡◌, ℕ, ◌^◌, ◌≤◌, List, [], ◌∷◌, ◌++◌, length, map, Result, refl, sym, ap, ◌∙◌, arith}
use Rattle.std.specs.Prelude.{All}
use Rattle.std.specs.List.{flat_map, zip}
use Rattle.std.specs.Int.{w64, to_be_bytes}
use Rattle.std.proofs.lemmas.List.{length-map}
use Rattle.std.proofs.lemmas.List.Elements.{All-nil, All-cons, All-head, All-tail}
use Rattle.kt_link.specs.declared.label.Label.{Label}
use Rattle.kt_ckpt.specs.declared.error.CkptError.{CkptError}
use Rattle.kt_ckpt.specs.declared.limits.TheConstants.{MAX_PEERS}
use Rattle.kt_ckpt.specs.Reading.{made, number_at}
use Rattle.kt_ckpt.specs.Checkpoint.{ArePeers, IsLabel, label_bytes, peer_bytes, peers_bytes, label_at, peer_at, peers_at}
use Rattle.kt_ckpt.proofs.Field.{IsField, Lasts}
use Rattle.kt_ckpt.proofs.Combined.{behind, behind_lasts, made_field, made_lasts}
use Rattle.kt_ckpt.proofs.Primitive.{wide64, number_field, number_lasts}
use Rattle.kt_ckpt.proofs.Loop.{both_appended}
use Rattle.kt_ckpt.proofs.Tuples.{counted_field, counted_lasts}

abbrev label_of : ℕ → ℕ → Label
label_of incarnation count = record { incarnation = incarnation; count = count }

abbrev label_with : ℕ → List ℕ → Result (Label × List ℕ) CkptError
label_with incarnation bytes = made (label_of incarnation) (number_at w64 bytes)

label_field : IsField label_bytes IsLabel label_at
unfolding label_at
label_field =
    let f = behind (number_field w64 (2 ^ 64) wide64) (λ (l : Label). l.incarnation) (λ l. to_be_bytes w64 l.count) IsLabel label_with (λ l h. h.0)
    (λ n hn. made_field (number_field w64 (2 ^ 64) wide64) (label_of n) (λ l. to_be_bytes w64 l.count) (λ l. IsLabel l × (n ≡ l.incarnation)) (λ k h. refl)
    (λ k h. ((hn, h), refl))
    (λ l h. (l.count, (h.0.1, ap (λ (m : ℕ). label_of m l.count) h.1)))) in
    record { again = f.again; takes = f.takes }

label_lasts : Lasts label_at
unfolding label_at
label_lasts = let l = behind_lasts label_with (number_lasts w64) (λ n. made_lasts (label_of n) (number_lasts w64)) in record { goes_on = l.goes_on }

abbrev pub IsPeer : Label × Label → Type 0
IsPeer p = IsLabel p.0 × IsLabel p.1

abbrev peer_of : Label → Label → Label × Label
peer_of sent received = (sent, received)

abbrev peer_with : Label → List ℕ → Result ((Label × Label) × List ℕ) CkptError
peer_with sent bytes = made (peer_of sent) (label_at bytes)

peer_field : IsField peer_bytes IsPeer peer_at
unfolding peer_at
peer_field =
    let f = behind label_field (λ (p : Label × Label). p.0) (λ p. label_bytes p.1) IsPeer peer_with (λ p h. h.0)
    (λ s hs. made_field label_field (peer_of s) (λ p. label_bytes p.1) (λ p. IsPeer p × (s ≡ p.0)) (λ r h. refl) (λ r h. ((hs, h), refl))
    (λ p h. (p.1, (h.0.1, ap (λ (m : Label). peer_of m p.1) h.1)))) in
    record { again = f.again; takes = f.takes }

peer_lasts : Lasts peer_at
unfolding peer_at
peer_lasts = let l = behind_lasts peer_with label_lasts (λ s. made_lasts (peer_of s) label_lasts) in record { goes_on = l.goes_on }

abbrev pub HavePeers : List (Label × Label) → Type 0
HavePeers ps = ((1 ≤ length ps) × (length ps ≤ MAX_PEERS)) × All IsPeer ps

pub peers_field : IsField peers_bytes HavePeers peers_at
unfolding peers_at
peers_field = let f = counted_field peer_field 1 MAX_PEERS (omega arith) in record { again = f.again; takes = f.takes }

pub peers_lasts : Lasts peers_at
unfolding peers_at
peers_lasts = let l = counted_lasts peer_lasts 1 MAX_PEERS in record { goes_on = l.goes_on }

pub firsts : (a b : List Label) → length a ≡ length b → map (λ p. p.0) (zip a b) ≡ a
firsts [] b e = refl
firsts (x ∷ a) [] e = absurd (omega arith)
firsts (x ∷ a) (y ∷ b) e = ap (λ (l : List Label). x ∷ l) (firsts a b (omega arith))

pub seconds : (a b : List Label) → length a ≡ length b → map (λ p. p.1) (zip a b) ≡ b
seconds [] [] e = refl
seconds [] (y ∷ b) e = absurd (omega arith)
seconds (x ∷ a) [] e = absurd (omega arith)
seconds (x ∷ a) (y ∷ b) e = ap (λ (l : List Label). y ∷ l) (seconds a b (omega arith))

pub zipped : (ps : List (Label × Label)) → ps ≡ zip (map (λ p. p.0) ps) (map (λ p. p.1) ps)
zipped [] = refl
zipped (p ∷ ps) = ap (λ (l : List (Label × Label)). p ∷ l) (zipped ps)

pub zip_len : (a b : List Label) → length a ≡ length b → length (zip a b) ≡ length a
zip_len [] b e = refl
zip_len (x ∷ a) [] e = absurd (omega arith)
zip_len (x ∷ a) (y ∷ b) e = let rest = zip_len a b (omega arith) in omega (arith, rest)

pub zip_all : (a b : List Label) → All IsLabel a → All IsLabel b → All IsPeer (zip a b)
zip_all [] b h k = All-nil IsPeer
zip_all (x ∷ a) [] h k = All-nil IsPeer
zip_all (x ∷ a) (y ∷ b) h k = All-cons IsPeer (x, y) (zip a b) (All-head IsLabel x a h, All-head IsLabel y b k)
    (zip_all a b (All-tail IsLabel x a h) (All-tail IsLabel y b k))

-- ---- what the code does step by step

pub counted_peers : (ps : List (Label × Label)) → (1 ≤ length ps) × (length ps ≤ MAX_PEERS) → ArePeers (map (λ p. p.0) ps) (map (λ p. p.1) ps)
counted_peers ps h =
    let a = length-map ps (λ (p : Label × Label). p.0) in
    let b = length-map ps (λ (p : Label × Label). p.1) in
    (omega (arith, a, h.0), omega (arith, a, h.1), a ∙ sym b)

pub labels_out : (old o1 o2 new : List ℕ) (x y : Label) (xs ys sent received : List Label) → sent ≡ x ∷ xs → received ≡ y ∷ ys → o1 ≡ old ++ label_bytes x
    → o2 ≡ o1 ++ label_bytes y → new ≡ o2 ++ flat_map peer_bytes (zip xs ys)
    → new ≡ old ++ flat_map peer_bytes (zip sent received)
labels_out old o1 o2 new x y xs ys sent received a b e f g =
    both_appended old o2 new (label_bytes x ++ label_bytes y) (flat_map peer_bytes (zip xs ys))
    (both_appended old o1 o2 (label_bytes x) (label_bytes y) e f) g
    ∙ ap (λ (s : List Label). old ++ flat_map peer_bytes (zip s (y ∷ ys))) (sym a) ∙ ap (λ (r : List Label). old ++ flat_map peer_bytes (zip sent r)) (sym b)
