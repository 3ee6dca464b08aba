-- One report more in a tally.
-- Cited by `tally::push_new`, `tally::tally_of`.
use Rattle.std.proofs.Common.{◌≡◌, ℕ, ◌+◌, ◌<◌, length, Bool, true, false, List, [], ◌∷◌, ◌++◌, refl, sym, ap, ◌∙◌, append-nil, append_assoc}
use Rattle.std.specs.Result.{is_ok}
use Rattle.std.specs.Prelude.{OnOk, Result, Ok, Err, not, ◌||◌, cond, filter, fold, take, get_or, count_by, if◌then◌else◌, bytes_eq}
use Rattle.std.specs.Global.{Vec}
use Rattle.std.specs.List.{flat_map, list_any}
use Rattle.std.proofs.lemmas.Grind.{flat_map-append}
use Rattle.std.proofs.lemmas.List.{length-map, map-append, take_more}
use Rattle.std.proofs.lemmas.List.Elements.{filter-append}
use Rattle.kt_trials.specs.Tally.{firsts, times_in, times_line, told}
use Rattle.kt_trials.specs.auxiliary.Telling.{has, items_of}

-- ---- texts as the code has them

has_items : (reports : List (Vec ℕ)) (report : List ℕ) → list_any (λ other. bytes_eq other.items report) reports ≡ has (items_of reports) report
has_items [] report = refl
has_items (first ∷ later) report = ap (λ (b : Bool). bytes_eq first.items report || b) (has_items later report)

count_from : (reports : List (Vec ℕ)) (report : List ℕ) (n : ℕ)
    → fold (λ (a : ℕ) (x : Vec ℕ). a + cond (bytes_eq x.items report) 1 0) n reports
    ≡ fold (λ (a : ℕ) (x : List ℕ). a + cond (bytes_eq x report) 1 0) n (items_of reports)
count_from [] report n = refl
count_from (first ∷ later) report n = count_from later report (n + cond (bytes_eq first.items report) 1 0)

-- how often a report is among all, as the code counts it
pub times_items : (reports : List (Vec ℕ)) (report : List ℕ)
    → count_by (λ other. bytes_eq other.items report) reports ≡ times_in (items_of reports) report
times_items reports report = count_from reports report 0

-- a report that is among those before is told no more
pub none_new : (out old : List ℕ) (before all : List (Vec ℕ)) (report : List ℕ) → out ≡ old
    → list_any (λ other. bytes_eq other.items report) before ≡ true
    → out ≡ old ++ (if has (items_of before) report then [] else told (items_of all) report)
none_new out old before all report same is =
    let there : has (items_of before) report ≡ true = sym (has_items before report) ∙ is in
    same ∙ sym (append-nil old) ∙ sym (ap (λ (b : Bool). old ++ (if b then [] else told (items_of all) report)) there)

-- one that is not is told with how often it is among all
one-new : (out line old : List ℕ) (before all : List (Vec ℕ)) (report : List ℕ) (times : ℕ) → out ≡ line ++ report
    → line ≡ old ++ times_line times (length all) → times ≡ count_by (λ other. bytes_eq other.items report) all
    → list_any (λ other. bytes_eq other.items report) before ≡ false
    → out ≡ old ++ (if has (items_of before) report then [] else told (items_of all) report)
one-new out line old before all report times is begins counted none =
    let there : has (items_of before) report ≡ false = sym (has_items before report) ∙ none in
    let often : times ≡ times_in (items_of all) report = counted ∙ times_items all report in
    let many : length all ≡ length (items_of all) = sym (length-map all (λ (t : Vec ℕ). t.items)) in
    is
    ∙ ap (λ (l : List ℕ). l ++ report) begins
    ∙ ap (λ (n : ℕ). (old ++ times_line n (length all)) ++ report) often
    ∙ ap (λ (n : ℕ). (old ++ times_line (times_in (items_of all) report) n) ++ report) many
    ∙ append_assoc old (times_line (times_in (items_of all) report) (length (items_of all))) report
    ∙ sym (ap (λ (b : Bool). old ++ (if b then [] else told (items_of all) report)) there)

-- the same where the report is added last, if there is memory for it
pub one_new : {X E : Type 0} (r : Result X E) (out line old : List ℕ) (before all : List (Vec ℕ)) (report : List ℕ) (times : ℕ)
    → out ≡ (if is_ok r then line ++ report else line) → line ≡ old ++ times_line times (length all)
    → times ≡ count_by (λ other. bytes_eq other.items report) all → list_any (λ other. bytes_eq other.items report) before ≡ false
    → OnOk r (out ≡ old ++ (if has (items_of before) report then [] else told (items_of all) report))
one_new (Ok x) out line old before all report times is begins counted none = one-new out line old before all report times is begins counted none
one_new (Err e) out line old before all report times is begins counted none = tt

-- ---- the first of each

-- those that are not like the first
abbrev unlike : List ℕ → List (List ℕ) → List (List ℕ)
unlike first later = filter (λ other. not (bytes_eq first other)) later

-- the report, unless it came before
abbrev unless : Bool → List ℕ → List (List ℕ)
unless came report = if came then [] else report ∷ []

unlike-more : (first report : List ℕ) (came : Bool) → unlike first (unless came report) ≡ unless (bytes_eq first report || came) report
unlike-more first report true = by (bytes_eq first report)
  where
    by : (same : Bool) → [] ≡ unless (same || true) report
    by true = refl
    by false = refl
unlike-more first report false = by (bytes_eq first report)
  where
    by : (same : Bool) → cond (not same) (report ∷ []) [] ≡ unless (same || false) report
    by true = refl
    by false = refl

-- one report more is a first where it did not come before
firsts-more : (reports : List (List ℕ)) (report : List ℕ) → firsts (reports ++ report ∷ []) ≡ firsts reports ++ unless (has reports report) report
firsts-more [] report = refl
firsts-more (first ∷ later) report =
    ap (λ (xs : List (List ℕ)). first ∷ unlike first xs) (firsts-more later report)
    ∙ ap (λ (xs : List (List ℕ)). first ∷ xs) (filter-append (λ other. not (bytes_eq first other)) (firsts later) (unless (has later report) report))
    ∙ ap (λ (xs : List (List ℕ)). first ∷ (unlike first (firsts later) ++ xs)) (unlike-more first report (has later report))

-- what is told of the reports so far, and of one more
told-more : (all reports : List (List ℕ)) (report : List ℕ)
    → flat_map (told all) (firsts (reports ++ report ∷ []))
    ≡ flat_map (told all) (firsts reports) ++ (if has reports report then [] else told all report)
told-more all reports report =
    ap (flat_map (told all)) (firsts-more reports report)
    ∙ flat_map-append (told all) (firsts reports) (unless (has reports report) report)
    ∙ ap (λ (xs : List ℕ). flat_map (told all) (firsts reports) ++ xs) (by (has reports report))
  where
    by : (came : Bool) → flat_map (told all) (unless came report) ≡ (if came then [] else told all report)
    by true = refl
    by false = append-nil (told all report)

-- the report at the next place
pub tally-more : (out old : List ℕ) (reports before : List (Vec ℕ)) (i : ℕ) (held : Vec ℕ) (report : List ℕ) → i < length reports
    → held ≡ get_or reports i held → before ≡ take i reports → report ≡ held.items
    → old ≡ flat_map (told (items_of reports)) (firsts (items_of (take i reports)))
    → out ≡ old ++ (if has (items_of before) report then [] else told (items_of reports) report)
    → out ≡ flat_map (told (items_of reports)) (firsts (items_of (take (i + 1) reports)))
tally-more out old reports before i held report lt at fronts same so_far is =
    let all : List (List ℕ) = items_of reports in
    let front : List (List ℕ) = items_of (take i reports) in
    let one : take (i + 1) reports ≡ take i reports ++ held ∷ [] =
    take_more reports i held lt ∙ ap (λ (t : Vec ℕ). take i reports ++ t ∷ []) (sym at) in
    let more : items_of (take (i + 1) reports) ≡ front ++ held.items ∷ [] =
    ap items_of one ∙ map-append (λ (t : Vec ℕ). t.items) (take i reports) (held ∷ []) in
    is
    ∙ ap (λ (xs : List (Vec ℕ)). old ++ (if has (items_of xs) report then [] else told all report)) fronts
    ∙ ap (λ (r : List ℕ). old ++ (if has front r then [] else told all r)) same
    ∙ ap (λ (xs : List ℕ). xs ++ (if has front held.items then [] else told all held.items)) so_far
    ∙ sym (told-more all front held.items)
    ∙ sym (ap (λ (xs : List (List ℕ)). flat_map (told all) (firsts xs)) more)
