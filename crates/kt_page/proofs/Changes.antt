-- What two lists of lines begin with and end with, and the change between them.
-- Cited by `splice::splice_of`.
use Rattle.std.proofs.Common.{◌≡◌, ℕ, zero, suc, ◌+◌, ◌-◌, ◌<◌, ◌≤◌, List, [], ◌∷◌, ◌++◌, length, get_or, take, drop, refl, sym, ap, subst, ◌∙◌, arith}
use Rattle.std.proofs.Common.{append_assoc, drop-cons, take-append-drop}
use Rattle.std.specs.Global.{Vec}
use Rattle.std.proofs.lemmas.List.{drop_all, take_all, take_more}
use Rattle.kt_cells.specs.Cells.{Lines}
use Rattle.kt_cells.specs.Texts.{text_of}
use Rattle.kt_page.specs.auxiliary.Splice.{put}

text-append : (xs : List (Vec ℕ)) (x : Vec ℕ) → text_of (xs ++ x ∷ []) ≡ text_of xs ++ x.items ∷ []
text-append [] x = refl
text-append (first ∷ xs) x = ap (λ (ls : Lines). first.items ∷ ls) (text-append xs x)

text-more : (xs : List (Vec ℕ)) (i : ℕ) (x : Vec ℕ) → i < length xs → x ≡ get_or xs i x
    → text_of (take (i + 1) xs) ≡ text_of (take i xs) ++ x.items ∷ []
text-more xs i x lt at =
    ap text_of (take_more xs i x lt) ∙ text-append (take i xs) (get_or xs i x)
    ∙ ap (λ (y : Vec ℕ). text_of (take i xs) ++ y.items ∷ []) (sym at)

-- both begin with one line more
pub begins_more : (xs ys : List (Vec ℕ)) (i : ℕ) (x y : Vec ℕ) → i < length xs → i < length ys → x ≡ get_or xs i x → y ≡ get_or ys i y
    → x.items ≡ y.items → text_of (take i xs) ≡ text_of (take i ys) → text_of (take (i + 1) xs) ≡ text_of (take (i + 1) ys)
begins_more xs ys i x y in_xs in_ys at_x at_y same so_far =
    text-more xs i x in_xs at_x ∙ ap (λ (ls : Lines). ls ++ x.items ∷ []) so_far
    ∙ ap (λ (l : List ℕ). text_of (take i ys) ++ l ∷ []) same ∙ sym (text-more ys i y in_ys at_y)

text-before : (xs : List (Vec ℕ)) (i : ℕ) (x : Vec ℕ) → i < length xs → x ≡ get_or xs (length xs - 1 - i) x
    → text_of (drop (length xs - (i + 1)) xs) ≡ x.items ∷ text_of (drop (length xs - i) xs)
text-before xs i x lt at =
    let k : ℕ = length xs - 1 - i in
    let here : length xs - (i + 1) ≡ k = omega (arith, lt) in
    let next : suc k ≡ length xs - i = omega (arith, lt) in
    let within : k < length xs = omega (arith, lt) in
    ap (λ (n : ℕ). text_of (drop n xs)) here ∙ ap text_of (drop-cons xs k x within)
    ∙ ap (λ (y : Vec ℕ). y.items ∷ text_of (drop (suc k) xs)) (sym at) ∙ ap (λ (n : ℕ). x.items ∷ text_of (drop n xs)) next

-- both end with one line more
pub ends_more : (xs ys : List (Vec ℕ)) (i : ℕ) (x y : Vec ℕ) → i < length xs → i < length ys → x ≡ get_or xs (length xs - 1 - i) x
    → y ≡ get_or ys (length ys - 1 - i) y → x.items ≡ y.items
    → text_of (drop (length xs - i) xs) ≡ text_of (drop (length ys - i) ys)
    → text_of (drop (length xs - (i + 1)) xs) ≡ text_of (drop (length ys - (i + 1)) ys)
ends_more xs ys i x y in_xs in_ys at_x at_y same so_far =
    text-before xs i x in_xs at_x ∙ ap (λ (ls : Lines). x.items ∷ ls) so_far
    ∙ ap (λ (l : List ℕ). l ∷ text_of (drop (length ys - i) ys)) same ∙ sym (text-before ys i y in_ys at_y)

-- nothing is left of a list behind its end
pub ends_none : (xs ys : List (Vec ℕ)) → text_of (drop (length xs - 0) xs) ≡ text_of (drop (length ys - 0) ys)
ends_none xs ys =
    let all_xs : length xs ≤ length xs - 0 = omega arith in
    let all_ys : length ys ≤ length ys - 0 = omega arith in
    ap text_of (drop_all (length xs - 0) xs all_xs) ∙ ap text_of (sym (drop_all (length ys - 0) ys all_ys))

text-take : (xs : List (Vec ℕ)) (n : ℕ) → text_of (take n xs) ≡ take n (text_of xs)
text-take xs zero = refl
text-take [] (suc n) = refl
text-take (x ∷ xs) (suc n) = ap (λ (ls : Lines). x.items ∷ ls) (text-take xs n)

text-drop : (xs : List (Vec ℕ)) (n : ℕ) → text_of (drop n xs) ≡ drop n (text_of xs)
text-drop xs zero = refl
text-drop [] (suc n) = refl
text-drop (x ∷ xs) (suc n) = text-drop xs n

drop-nothing : {A : Type 0} (k l : ℕ) → drop {A = A} k [] ≡ drop l []
drop-nothing zero zero = refl
drop-nothing zero (suc l) = refl
drop-nothing (suc k) zero = refl
drop-nothing (suc k) (suc l) = refl

drop-drop : {A : Type 0} (xs : List A) (m n : ℕ) → drop n (drop m xs) ≡ drop (m + n) xs
drop-drop xs zero n = ap (λ (k : ℕ). drop k xs) (omega arith)
drop-drop [] (suc m) n = drop-nothing n (suc m + n)
drop-drop (x ∷ xs) (suc m) n =
    let more : suc m + n ≡ suc (m + n) = omega arith in
    drop-drop xs m n ∙ ap (λ (k : ℕ). drop k (x ∷ xs)) (sym more)

-- what both begin with, what comes, and what both end with
pub put_is : (old new : List (Vec ℕ)) (front back : ℕ) → text_of (take front old) ≡ text_of (take front new)
    → text_of (drop (length (drop front old) - back) (drop front old)) ≡ text_of (drop (length (drop front new) - back) (drop front new))
    → text_of new ≡ put front (length (drop front old) - back) (text_of (take (length (drop front new) - back) (drop front new))) (text_of old)
put_is old new front back begins ends =
    let mid : List (Vec ℕ) = drop front new in
    let k : ℕ = length (drop front new) - back in
    let gone : ℕ = length (drop front old) - back in
    let tail : Lines = drop (front + gone) (text_of old) in
    let ending : text_of (drop k mid) ≡ tail =
    sym ends ∙ text-drop (drop front old) gone ∙ ap (drop gone) (text-drop old front) ∙ drop-drop (text_of old) front gone in
    let middle : text_of mid ≡ text_of (take k mid) ++ tail =
    sym (take-append-drop k (text_of mid)) ∙ ap (λ (ls : Lines). ls ++ drop k (text_of mid)) (sym (text-take mid k))
    ∙ ap (λ (ls : Lines). text_of (take k mid) ++ ls) (sym (text-drop mid k) ∙ ending) in
    sym (take-append-drop front (text_of new))
    ∙ ap (λ (ls : Lines). ls ++ drop front (text_of new)) (sym (text-take new front) ∙ sym begins ∙ text-take old front)
    ∙ ap (λ (ls : Lines). take front (text_of old) ++ ls) (sym (text-drop new front) ∙ middle)
    ∙ sym (append_assoc (take front (text_of old)) (text_of (take k mid)) tail)

-- the same of what is left of both behind what they begin with
pub put_of : (old new rest left come : List (Vec ℕ)) (front back : ℕ) → rest ≡ drop front old → left ≡ drop front new → come ≡ take (length left - back) left
    → text_of (take front old) ≡ text_of (take front new) → text_of (drop (length rest - back) rest) ≡ text_of (drop (length left - back) left)
    → text_of new ≡ put front (length rest - back) (text_of come) (text_of old)
put_of old new rest left come front back rest_is left_is come_is begins ends =
    let here = subst (λ (l : List (Vec ℕ)). text_of (drop (length rest - back) rest) ≡ text_of (drop (length l - back) l)) left_is ends in
    let there = subst (λ (r : List (Vec ℕ)). text_of (drop (length r - back) r) ≡ text_of (drop (length (drop front new) - back) (drop front new))) rest_is
    here in
    put_is old new front back begins there
    ∙ ap (λ (r : List (Vec ℕ)). put front (length r - back) (text_of (take (length (drop front new) - back) (drop front new))) (text_of old)) (sym rest_is)
    ∙ ap (λ (l : List (Vec ℕ)). put front (length rest - back) (text_of (take (length l - back) l)) (text_of old)) (sym left_is)
    ∙ ap (λ (c : List (Vec ℕ)). put front (length rest - back) (text_of c) (text_of old)) (sym come_is)

-- all lines are alike
pub none_changed : (old new : List (Vec ℕ)) (front : ℕ) → front ≡ length old → front ≡ length new → text_of (take front old) ≡ text_of (take front new)
    → text_of old ≡ text_of new
none_changed old new front all_old all_new begins =
    let in_old : length old ≤ front = omega (arith, all_old) in
    let in_new : length new ≤ front = omega (arith, all_new) in
    ap text_of (sym (take_all front old in_old)) ∙ begins ∙ ap text_of (take_all front new in_new)
