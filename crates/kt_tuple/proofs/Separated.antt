-- One text more behind the texts so far.
-- Cited by `writing::push_in_parentheses`, `writing::push_service`, `writing::push_string`.
use Rattle.std.proofs.Common.{◌≡◌, ℕ, ◌+◌, ◌<◌, List, [], ◌∷◌, ◌++◌, length, get_or, take, map, refl, sym, ap, ◌∙◌, append_assoc, drop}
use Rattle.std.proofs.lemmas.Grind.{flat_map-append}
use Rattle.std.proofs.lemmas.List.{append-nil, map-append, take_more, take-append-drop}
use Rattle.std.proofs.Math.Seq.{take-append_seam}
use Rattle.std.specs.List.{flat_map}
use Rattle.std.specs.Io.{StartsWith}
use Rattle.kt_tuple.specs.Spelling.{further, separated}

-- what stands in front of a text that comes behind these
abbrev pub separator_after : {A : Type 0} → List A → List ℕ
separator_after [] = []
separator_after (x ∷ xs) = 44 ∷ 32 ∷ []

separated-push : (texts : List (List ℕ)) (text : List ℕ) → separated (texts ++ text ∷ []) ≡ separated texts ++ (separator_after texts ++ text)
separated-push [] text = append-nil text
separated-push (first ∷ others) text =
    ap (λ (t : List ℕ). first ++ t) (flat_map-append further others (text ∷ []) ∙ ap (λ (t : List ℕ). flat_map further others ++ t) (append-nil (further text)))
    ∙ sym (append_assoc first (flat_map further others) (44 ∷ 32 ∷ text))

separator_after-map : {A : Type 0} (f : A → List ℕ) (xs : List A) → separator_after (map f xs) ≡ separator_after xs
separator_after-map f [] = refl
separator_after-map f (x ∷ xs) = refl

separator_after-push : {A : Type 0} (xs : List A) (x : A) → separator_after (xs ++ x ∷ []) ≡ 44 ∷ 32 ∷ []
separator_after-push [] x = refl
separator_after-push (y ∷ ys) x = refl

-- with one place more
pub separated_more : {A : Type 0} (f : A → List ℕ) (xs : List A) (i : ℕ) (x : A) → i < length xs → x ≡ get_or xs i x
    → separated (map f (take (i + 1) xs)) ≡ separated (map f (take i xs)) ++ (separator_after (take i xs) ++ f x)
separated_more f xs i x lt is =
    let one : take (i + 1) xs ≡ take i xs ++ x ∷ [] = take_more xs i x lt ∙ ap (λ y. take i xs ++ y ∷ []) (sym is) in
    ap (λ ys. separated (map f ys)) one ∙ ap separated (map-append f (take i xs) (x ∷ [])) ∙ separated-push (map f (take i xs)) (f x)
    ∙ ap (λ (t : List ℕ). separated (map f (take i xs)) ++ (t ++ f x)) (separator_after-map f (take i xs))

pub separator_after_more : {A : Type 0} (xs : List A) (i : ℕ) (x : A) → i < length xs → separator_after (take (i + 1) xs) ≡ 44 ∷ 32 ∷ []
separator_after_more xs i x lt = ap separator_after (take_more xs i x lt) ∙ separator_after-push (take i xs) (get_or xs i x)

-- what begins with a whole begins with its front
pub front_of : (old text mid new : List ℕ) → mid ≡ old ++ text → StartsWith new mid → StartsWith new old
front_of old text mid new whole begins =
    let rest = drop (length mid) new in
    let parts : new ≡ old ++ (text ++ rest) =
    sym (take-append-drop (length mid) new) ∙ ap (λ (t : List ℕ). t ++ rest) (begins ∙ whole) ∙ append_assoc old text rest in
    ap (take (length old)) parts ∙ take-append_seam old (text ++ rest)

-- what is written with one place more
pub written_more : {A : Type 0} (f : A → List ℕ) (xs : List A) (i : ℕ) (x : A) (old out separator between new : List ℕ) → i < length xs → x ≡ get_or xs i x
    → out ≡ old ++ 40 ∷ separated (map f (take i xs)) → separator ≡ separator_after (take i xs) → between ≡ out ++ separator → new ≡ between ++ f x
    → new ≡ old ++ 40 ∷ separated (map f (take (i + 1) xs))
written_more f xs i x old out separator between new lt is written sep extended pushed =
    let so_far = 40 ∷ separated (map f (take i xs)) in
    pushed ∙ ap (λ (t : List ℕ). t ++ f x) (extended ∙ ap (λ (t : List ℕ). t ++ separator) written)
    ∙ ap (λ (t : List ℕ). t ++ f x) (append_assoc old so_far separator)
    ∙ append_assoc old (so_far ++ separator) (f x)
    ∙ ap (λ (t : List ℕ). old ++ t) (append_assoc so_far separator (f x) ∙ ap (λ (t : List ℕ). so_far ++ (t ++ f x)) sep
    ∙ ap (λ (t : List ℕ). 40 ∷ t) (sym (separated_more f xs i x lt is)))
