-- Services counted and listed by the marks.
-- Cited by `History::add_act`, `History::lost_count`, `History::survivors`.
use Rattle.std.proofs.Common.{◌≡◌, ℕ, suc, ◌+◌, ◌<◌, ◌≤◌, ◌&&◌, not, Bool, true, false, cond, List, [], ◌∷◌}
use Rattle.std.proofs.Common.{◌++◌, take, length, get_or, Option, None, Some, refl, sym, ap, ◌∙◌, arith, add-zero}
use Rattle.std.specs.List.{cons_option}
use Rattle.std.specs.Option.{option_to_list}
use Rattle.std.proofs.lemmas.List.{length-take-le, take_more}
use Rattle.std.proofs.lemmas.List.Elements.{filter_map-append}
use Rattle.kt_tuple.specs.declared.service.Service.{Service}
use Rattle.kt_history.specs.declared.note.What.{What}
use Rattle.kt_history.specs.declared.note.What.TheVariants as whats
use Rattle.kt_history.specs.declared.note.Act.{Act}
use Rattle.kt_history.specs.declared.note.Note.{Note}
use Rattle.kt_history.specs.declared.note.Note.TheVariants as notes
use Rattle.kt_history.specs.declared.mark.Mark.{Mark}
use Rattle.kt_history.specs.Survival.{survives, service_of, services_of, marked_from, marked_acts, lost_count, note_service, is_served}
use Rattle.kt_history.specs.auxiliary.Marks.{mark_at, lost_among, Agrees}
use Rattle.kt_history.proofs.Fronts.{marked_from-append}
use Rattle.kt_history.proofs.MarkSteps.{lost_among-at_most}

-- how many are lost is the number of services that do not survive
count_served : (a : Act) (w : What) (xs : List Service) → length (cons_option (service_of a w) xs) ≡ cond (is_served w) 1 0 + length xs
count_served a (whats.Served answer) xs = omega arith
count_served a whats.Issue xs = omega arith
count_served a whats.Repeat xs = omega arith
count_served a whats.Heard xs = omega arith
count_served a (whats.Again answer) xs = omega arith
count_served a (whats.Accepted answer) xs = omega arith
count_served a (whats.Ignored answer) xs = omega arith

never : (b : Bool) → ◌≡◌ {A = ℕ} (cond (b && false) 1 0) 0
never true = refl
never false = refl

pub lost_among-services : (m : ℕ → Bool) (n : ℕ) (h : List Note) (ms : List Mark) → length ms ≡ length h
    → ((k : ℕ) → k < length h → (mark_at ms k).survives ≡ m (n + k)) → lost_among h ms ≡ length (services_of (marked_from (λ j. not (m j)) n h))
unfolding marked_from
lost_among-services m n [] ms e same = refl
lost_among-services m n (x ∷ h) [] e same = absurd (omega (arith, e))
lost_among-services m n (notes.Cut p keep ∷ h) (k ∷ ms) e same =
    let len : length ms ≡ length h = omega (arith, e) in
    let rest =
    lost_among-services m (suc n) h ms len (λ j lt. let there : n + suc j ≡ suc n + j = omega arith in same (suc j) (omega (arith, lt)) ∙ ap m there) in
    omega (arith, never (not k.survives), rest)
lost_among-services m n (notes.Act a ∷ h) (k ∷ ms) e same =
    let len : length ms ≡ length h = omega (arith, e) in
    let rest =
    lost_among-services m (suc n) h ms len (λ j lt. let there : n + suc j ≡ suc n + j = omega arith in same (suc j) (omega (arith, lt)) ∙ ap m there) in
    let first : k.survives ≡ m n = same 0 (omega arith) ∙ ap m (add-zero n) in
    ap (λ b. cond (not b && is_served a.what) 1 0 + lost_among h ms) first
    ∙ ap (λ t. cond (not (m n) && is_served a.what) 1 0 + t) rest
    ∙ go (not (m n)) where
      go : (b : Bool) → cond (b && is_served a.what) 1 0 + length (services_of (marked_from (λ j. not (m j)) (suc n) h)) ≡ length
          (services_of (cond b (a ∷ marked_from (λ j. not (m j)) (suc n) h) (marked_from (λ j. not (m j)) (suc n) h)))
      go true = sym (count_served a a.what (services_of (marked_from (λ j. not (m j)) (suc n) h)))
      go false = omega arith

pub lost_count-is : (h : List Note) (rows : List (List ℕ)) (marks : List Mark) (lost : ℕ) → Agrees h rows marks lost → lost ≡ lost_count h
unfolding lost_count
lost_count-is h rows marks lost a =
    a.counted ∙ lost_among-services (survives h) 1 h marks a.lengths (λ k lt. let there : suc k ≡ 1 + k = omega arith in a.survive k lt ∙ ap (survives h) there)

-- the services among the first notes, one further
single : (o : Option Service) → cons_option o [] ≡ option_to_list o
single None = refl
single (Some s) = refl

nothing : (b : Bool) → ◌≡◌ {A = List Service} [] (cond b [] [])
nothing true = refl
nothing false = refl

one_service : (m : ℕ → Bool) (n : ℕ) (x : Note) → services_of (marked_from m n (x ∷ [])) ≡ cond (m n) (option_to_list (note_service x)) []
unfolding marked_from
one_service m n (notes.Cut p keep) = nothing (m n)
one_service m n (notes.Act a) = go (m n) where
  go : (b : Bool) → services_of (cond b (a ∷ []) []) ≡ cond b (option_to_list (service_of a a.what)) []
  go true = single (service_of a a.what)
  go false = refl

pub services-more : (m : ℕ → Bool) (h : List Note) (i : ℕ) (x : Note) → i < length h → x ≡ get_or h i x
    → services_of (marked_acts m (take (i + 1) h)) ≡ services_of (marked_acts m (take i h)) ++ cond (m (suc i)) (option_to_list (note_service x)) []
services-more m h i x lt e =
    let len : 1 + length (take i h) ≡ suc i = omega (arith, len_take) in
    ap (λ g. services_of (marked_acts m g)) (take_more h i x lt ∙ ap (λ y. take i h ++ y ∷ []) (sym e))
    ∙ ap services_of (marked_from-append m 1 (take i h) (x ∷ []) ∙ ap (λ n. marked_acts m (take i h) ++ marked_from m n (x ∷ [])) len)
    ∙ filter_map-append (λ (a : Act). service_of a a.what) (marked_acts m (take i h)) (marked_from m (suc i) (x ∷ []))
    ∙ ap (λ ys. services_of (marked_acts m (take i h)) ++ ys) (one_service m (suc i) x) where
      len_take : length (take i h) ≡ i
      len_take = length-take-le i h (omega (arith, lt))

-- how many are lost leaves room for one more
pub lost_with_room : (h : List Note) (rows : List (List ℕ)) (marks : List Mark) (lost : ℕ) → Agrees h rows marks lost → lost ≤ length h
lost_with_room h rows marks lost a = omega (arith, a.counted, lost_among-at_most h marks)
