-- The reader of a word reads just that word.
-- Cited by FormalShapes, Layouts, PlaceShapes.
use Rattle.std.proofs.Common.{◌≡◌, ℕ, Bool, true, false, cond, eqb, List, [], ◌∷◌, ◌++◌, Ok, Err, refl, sym, ap, ◌∙◌}
use Rattle.std.proofs.lemmas.Bool.{eqb-true}
use Rattle.kt_tuple.specs.Reading.{word_at, up_to, spelled_at}
use Rattle.kt_tuple.proofs.IntLaws.{split_front}
use Rattle.kt_tuple.proofs.IntShapes.{up_to_ok, up_to_err}
use Rattle.kt_tuple.proofs.ValueLaws.{word_taken}
use Rattle.kt_tuple.proofs.Shapes.{Again, Halts, Took, Stops, took_split, stops_nil, stops_here}

word_halts : (w : ℕ) (word : List ℕ) (c : ℕ) → eqb w c ≡ true → (front rest : List ℕ) → Halts (λ t. word_at t word) front rest
    → Halts (λ t. word_at t (w ∷ word)) (c ∷ front) rest
word_halts w word c e front [] h = tt
word_halts w word c e front (d ∷ ds) h = λ more. rw e (h more)

word_by_test : (b : Bool) (w : ℕ) (word : List ℕ) (c : ℕ) (cs rest : List ℕ) → eqb w c ≡ b
    → (word_at cs word ≡ Err rest → Stops (λ t. word_at t word) (λ t. t ≡ word) cs rest)
    → cond b (word_at cs word) (Err (c ∷ cs)) ≡ Err rest → Stops (λ t. word_at t (w ∷ word)) (λ t. t ≡ w ∷ word) (c ∷ cs) rest
word_by_test true w word c cs rest e behind read =
    let h = behind read in
    let whole : c ∷ (h.0 ++ h.2.0) ≡ w ∷ word = ap (λ k. k ∷ (h.0 ++ h.2.0)) (sym (eqb-true w c e)) ∙ ap (λ (t : List ℕ). w ∷ t) h.2.1 in
    (c ∷ h.0, ap (λ (t : List ℕ). c ∷ t) h.1, (h.2.0, whole), word_halts w word c e h.0 rest h.3)
word_by_test false w word c cs rest e behind read =
    stops_here (λ t. word_at t (w ∷ word)) (λ t. t ≡ w ∷ word) c cs rest (w ∷ word, refl) (cc) (λ more. rw e refl)

-- what stands before the rest begins the word
pub word_stops : (word text rest : List ℕ) → word_at text word ≡ Err rest → Stops (λ t. word_at t word) (λ t. t ≡ word) text rest
word_stops [] text rest e = absurd cc
word_stops (w ∷ word) [] rest e = stops_nil (λ t. word_at t (w ∷ word)) (λ t. t ≡ w ∷ word) rest (w ∷ word, refl) cc
word_stops (w ∷ word) (c ∷ cs) rest e = word_by_test (eqb w c) w word c cs rest refl (word_stops word cs rest) e

-- the word itself is read, whatever follows
abbrev pub IsRead : List ℕ → Type 0
IsRead word = (w : List ℕ) → word_at (word ++ w) word ≡ Ok w

pub spelled_read : (word rest : List ℕ) → IsRead word → spelled_at (word ++ rest) word ≡ Ok (word, rest)
spelled_read word rest read = ap (up_to (word ++ rest)) (read rest) ∙ ap (λ (x : List ℕ × List ℕ). Ok x) (split_front word rest)

spelled_again : (word rest : List ℕ) → IsRead word → Again (λ t. spelled_at t word) word rest
spelled_again word [] read = tt
spelled_again word (d ∷ ds) read = λ w. spelled_read word (d ∷ w) read

pub spelled_takes : (word text : List ℕ) (x : List ℕ × List ℕ) → IsRead word → spelled_at text word ≡ Ok x
    → Took (λ t. spelled_at t word) (λ t. t ≡ word) text x
spelled_takes word text x read e =
    let up = up_to_ok text (word_at text word) x e in
    took_split (λ t. spelled_at t word) (λ t. t ≡ word) text word up.0 x (word_taken text word up.0 up.1) up.2 refl (spelled_again word up.0 read)

spelled_halts : (word front rest : List ℕ) → Halts (λ t. word_at t word) front rest → Halts (λ t. spelled_at t word) front rest
spelled_halts word front [] h = tt
spelled_halts word front (d ∷ ds) h = λ w. ap (up_to (front ++ d ∷ w)) (h w)

pub spelled_stops : (word text rest : List ℕ) → spelled_at text word ≡ Err rest → Stops (λ t. spelled_at t word) (λ t. t ≡ word) text rest
spelled_stops word text rest e =
    let h = word_stops word text rest (up_to_err text (word_at text word) rest e) in
    (h.0, h.1, h.2, spelled_halts word h.0 rest h.3)
