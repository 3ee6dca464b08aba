-- Messages that are gone through one behind the other, each with the first arrival that is left on its link.
-- Cited by `arrow::arrivals_of`, `arrow::arrows`, `arrow::checks_in`, `arrow::push_arrow`, `arrow::push_arrows`,
--   `arrow::put_arrival`.
use Rattle.std.proofs.Common.{◌≡◌, ℕ, zero, suc, ◌+◌, ◌<◌, ◌≤◌, Bool, true, false, cond, List, [], ◌∷◌, ◌++◌, take, drop, length, map, get_or, Option}
use Rattle.std.proofs.Common.{Some, None, refl, sym, ap, ◌∙◌, subst, arith, append_assoc, append-nil}
use Rattle.std.specs.Prelude.{◌&&◌, filter, is_some, replicate, slice_index_or}
use Rattle.std.specs.List.{cons_option, filter_map}
use Rattle.std.proofs.lemmas.Bool.{false≢true}
use Rattle.std.proofs.lemmas.Grind.{flat_map-append}
use Rattle.std.proofs.lemmas.List.{length-append, map-append, take_all, take_more}
use Rattle.std.proofs.lemmas.List.Elements.{filter-append, filter_map-append}
use Rattle.kt_tuple.specs.declared.node.NodeId.{NodeId}
use Rattle.kt_tuple.specs.Node.{node_eq, node_eq_decides}
use Rattle.kt_link.specs.Network.{AreNeighbours, ChangesOnly, Network, entry_at, place, queue}
use Rattle.kt_link.proofs.Others.{other_queue}
use Rattle.kt_link.proofs.Places.{has_place, neighbours-from}
use Rattle.kt_scenario.specs.declared.step.Step.TheVariants.{Deliver}
use Rattle.kt_state.specs.declared.message.Message.{Message}
use Rattle.kt_trace.specs.declared.traced.TracedStep.{TracedStep}
use Rattle.kt_story.specs.declared.arrow.Arrow.{Arrow}
use Rattle.kt_story.specs.Messages.{Sent, all_sent, arrivals, arrivals_in, arrow_of, arrows_behind, begun_check, came_by, checks_in, delivered, goes}
use Rattle.kt_story.specs.Messages.{is_pair, sent_by, sent_on}
use Rattle.kt_story.specs.Story.{StoryModel}
use Rattle.kt_story.specs.auxiliary.Waiting.{HasArrivals, HasArrived, Waits}
use Rattle.kt_story.proofs.Blaming.{both}

-- ---- pairs of nodes

is_pair-same : (p q a b : NodeId) → is_pair p q a b ≡ true → (a ≡ p) × (b ≡ q)
is_pair-same p q a b e =
    let tests = both (node_eq a p) (node_eq b q) e in
    ((node_eq_decides a p).0 tests.0, (node_eq_decides b q).0 tests.1)

is_pair-own : (p q : NodeId) → is_pair p q p q ≡ true
is_pair-own p q =
    ap (λ (t : Bool). t && node_eq q q) ((node_eq_decides p p).1 refl) ∙ (node_eq_decides q q).1 refl

is_pair-other : (p q a b : NodeId) → is_pair p q a b ≡ false → ¬ ((a ≡ p) × (b ≡ q))
is_pair-other p q a b e = λ same.
    let P : NodeId → NodeId → Type 0 = λ x y. is_pair p q x y ≡ true in
    false≢true (sym e ∙ subst (λ (x : NodeId). P x b) (sym same.0) (subst (λ (y : NodeId). P p y) (sym same.1) (is_pair-own p q)))

-- ---- arrivals

arrivals-by : (link : Bool) (p q : NodeId) (xs ys : List TracedStep) → cond link (filter_map (came_by p q) (xs ++ ys)) []
    ≡ cond link (filter_map (came_by p q) xs) [] ++ cond link (filter_map (came_by p q) ys) []
arrivals-by true p q xs ys = filter_map-append (came_by p q) xs ys
arrivals-by false p q xs ys = refl

arrivals-append : (workers shards : ℕ) (xs ys : List TracedStep) (p q : NodeId)
    → arrivals_in workers shards (xs ++ ys) p q ≡ arrivals_in workers shards xs p q ++ arrivals_in workers shards ys p q
arrivals-append workers shards xs ys p q = arrivals-by (is_some (place workers shards p q)) p q xs ys

-- what comes by one row, where it is this
abbrev one : Bool → Option ℕ → List ℕ
one link o = cond link (cons_option o []) []

one-none : (link : Bool) → one link None ≡ []
one-none true = refl
one-none false = refl

arrival-is : (workers shards : ℕ) (row : TracedStep) (p q : NodeId) (o : Option ℕ) → came_by p q row ≡ o
    → arrivals_in workers shards (row ∷ []) p q ≡ one (is_some (place workers shards p q)) o
arrival-is workers shards row p q o is = ap (one (is_some (place workers shards p q))) is

-- nothing comes by a row of another step
pub none_arrived : (row : TracedStep) (ways : Network ℕ) → ((p q : NodeId) → came_by p q row ≡ None) → HasArrived row ways ways
none_arrived row ways other = record {
  workers = refl;
  shards = refl;
  each = λ p q.
      sym (append-nil (queue ways p q))
      ∙ ap (λ (xs : List ℕ). queue ways p q ++ xs)
      (sym (arrival-is ways.workers ways.shards row p q None (other p q) ∙ one-none (is_some (place ways.workers ways.shards p q))));
}

came-delivered : (row : TracedStep) (a b p q : NodeId) (t : Bool) → row.step ≡ Deliver a b → is_pair p q a b ≡ t
    → came_by p q row ≡ cond t (Some row.number) None
came-delivered row a b p q t is pair =
    ap (delivered p q row.number) is ∙ ap (λ (x : Bool). cond x (Some row.number) None) pair

-- what is delivered between two who are no neighbours comes by no link
pub no_link : (row : TracedStep) (ways : Network ℕ) (a b : NodeId) → row.step ≡ Deliver a b
    → ¬ (AreNeighbours ways.workers ways.shards a b) → HasArrived row ways ways
no_link row ways a b is apart = record {
  workers = refl;
  shards = refl;
  each = λ p q. by p q (is_pair p q a b) refl (place ways.workers ways.shards p q) refl;
}
  where
    none : (p q : NodeId) → arrivals_in ways.workers ways.shards (row ∷ []) p q ≡ []
        → queue ways p q ≡ queue ways p q ++ arrivals_in ways.workers ways.shards (row ∷ []) p q
    none p q e = sym (append-nil (queue ways p q)) ∙ ap (λ (xs : List ℕ). queue ways p q ++ xs) (sym e)

    by : (p q : NodeId) (t : Bool) → is_pair p q a b ≡ t → (o : Option ℕ) → place ways.workers ways.shards p q ≡ o
        → queue ways p q ≡ queue ways p q ++ arrivals_in ways.workers ways.shards (row ∷ []) p q
    by p q false pair o at =
        none p q (arrival-is ways.workers ways.shards row p q None (came-delivered row a b p q false is pair)
        ∙ one-none (is_some (place ways.workers ways.shards p q)))
    by p q true pair None at =
        none p q (ap (λ (x : Option ℕ). one (is_some x) (came_by p q row)) at)
    by p q true pair (Some k) at =
        let same = is_pair-same p q a b pair in
        let there = neighbours-from ways.workers ways.shards p q k at in
        let P : NodeId → NodeId → Type 0 = λ x y. AreNeighbours ways.workers ways.shards x y in
        absurd (apart (subst (λ (x : NodeId). P x b) (sym same.0) (subst (λ (y : NodeId). P p y) (sym same.1) there)))

-- what is delivered on a link stands behind the others there
pub has_arrived : (row : TracedStep) (old new : Network ℕ) (a b : NodeId) → row.step ≡ Deliver a b
    → AreNeighbours old.workers old.shards a b → queue new a b ≡ queue old a b ++ row.number ∷ [] → ChangesOnly old new a b
    → HasArrived row old new
has_arrived row old new a b is there put only = record {
  workers = ap (λ (n : Network ℕ). n.workers) only;
  shards = ap (λ (n : Network ℕ). n.shards) only;
  each = λ p q. by p q (is_pair p q a b) refl;
}
  where
    by : (p q : NodeId) (t : Bool) → is_pair p q a b ≡ t
        → queue new p q ≡ queue old p q ++ arrivals_in old.workers old.shards (row ∷ []) p q
    by p q false pair =
        other_queue old new a b p q only (is_pair-other p q a b pair)
        ∙ sym (append-nil (queue old p q))
        ∙ ap (λ (xs : List ℕ). queue old p q ++ xs)
        (sym (arrival-is old.workers old.shards row p q None (came-delivered row a b p q false is pair)
        ∙ one-none (is_some (place old.workers old.shards p q))))
    by p q true pair =
        let same = is_pair-same p q a b pair in
        let P : NodeId → NodeId → Type 0 = λ x y. queue new x y ≡ queue old x y ++ row.number ∷ [] in
        let Q : NodeId → NodeId → Type 0 = λ x y. AreNeighbours old.workers old.shards x y in
        let near : Q p q = subst (λ (x : NodeId). Q x q) same.0 (subst (λ (y : NodeId). Q a y) same.1 there) in
        subst (λ (x : NodeId). P x q) same.0 (subst (λ (y : NodeId). P a y) same.1 put)
        ∙ ap (λ (xs : List ℕ). queue old p q ++ xs)
        (sym (arrival-is old.workers old.shards row p q (Some row.number) (came-delivered row a b p q true is pair)
        ∙ ap (λ (t : Bool). one t (Some row.number)) (has_place old.workers old.shards p q near)))

abbrev nothing : List ℕ
nothing = []

index-none : (n k : ℕ) → slice_index_or (replicate n nothing) k nothing ≡ nothing
index-none zero k = refl
index-none (suc n) zero = refl
index-none (suc n) (suc k) = index-none n k

entry-none : (n : ℕ) (o : Option ℕ) → entry_at nothing (replicate n nothing) o ≡ nothing
entry-none n None = refl
entry-none n (Some k) = index-none n k

none-in : (link : Bool) (p q : NodeId) → cond link (filter_map (came_by p q) []) [] ≡ []
none-in true p q = refl
none-in false p q = refl

-- no row has none
pub arrivals_none : (workers shards n : ℕ) (ways : Network ℕ) → ways.workers ≡ workers → ways.shards ≡ shards
    → ways.queues ≡ replicate n [] → HasArrivals workers shards [] ways
arrivals_none workers shards n ways ws ss empty = record {
  workers = ws;
  shards = ss;
  each = λ p q.
      ap (λ (qs : List (List ℕ)). entry_at [] qs (place ways.workers ways.shards p q)) empty
      ∙ entry-none n (place ways.workers ways.shards p q) ∙ sym (none-in (is_some (place workers shards p q)) p q);
}

-- the arrivals of one row more
pub arrivals_more : (workers shards : ℕ) (rows : List TracedStep) (i : ℕ) (row : TracedStep) (old new : Network ℕ) → i < length rows
    → row ≡ get_or rows i row → HasArrivals workers shards (take i rows) old → HasArrived row old new
    → HasArrivals workers shards (take (i + 1) rows) new
arrivals_more workers shards rows i row old new lt at are more = record {
  workers = more.workers ∙ are.workers;
  shards = more.shards ∙ are.shards;
  each = λ p q.
      more.each p q
      ∙ ap (λ (xs : List ℕ). xs ++ arrivals_in old.workers old.shards (row ∷ []) p q) (are.each p q)
      ∙ ap (λ (w : ℕ). arrivals_in workers shards (take i rows) p q ++ arrivals_in w old.shards (row ∷ []) p q) are.workers
      ∙ ap (λ (s : ℕ). arrivals_in workers shards (take i rows) p q ++ arrivals_in workers s (row ∷ []) p q) are.shards
      ∙ sym (arrivals-append workers shards (take i rows) (row ∷ []) p q)
      ∙ ap (λ (xs : List TracedStep). arrivals_in workers shards xs p q) (front rows i row lt at);
}
  where
    front : (rows : List TracedStep) (i : ℕ) (row : TracedStep) → i < length rows → row ≡ get_or rows i row
        → take i rows ++ row ∷ [] ≡ take (i + 1) rows
    front rows i row lt at = ap (λ (x : TracedStep). take i rows ++ x ∷ []) at ∙ sym (take_more rows i row lt)

-- ---- what is left of them

-- before all messages all are
pub waits_first : (story : StoryModel) (workers shards : ℕ) (ways : Network ℕ) → workers ≡ length story.state.scene.scripts
    → shards ≡ story.state.scene.shards → HasArrivals workers shards story.rows ways → Waits story [] ways
waits_first story workers shards ways ws ss are = record {
  each = λ p q.
      are.each p q ∙ ap (λ (w : ℕ). arrivals_in w shards story.rows p q) ws
      ∙ ap (λ (s : ℕ). arrivals_in (length story.state.scene.scripts) s story.rows p q) ss;
}

drop-suc : (xs : List ℕ) (k : ℕ) → drop 1 (drop k xs) ≡ drop (suc k) xs
drop-suc [] zero = refl
drop-suc [] (suc k) = refl
drop-suc (x ∷ xs) zero = refl
drop-suc (x ∷ xs) (suc k) = drop-suc xs k

drop-one : (xs : List ℕ) (k : ℕ) → drop 1 (drop k xs) ≡ drop (k + 1) xs
drop-one xs k = let next : suc k ≡ k + 1 = omega arith in drop-suc xs k ∙ ap (λ (n : ℕ). drop n xs) next

-- behind one message more the first of its link is gone
pub waits_more : (story : StoryModel) (earlier : List Sent) (row : TracedStep) (to : NodeId) (message : Message) (old new : Network ℕ)
    → queue new row.node to ≡ drop 1 (queue old row.node to) → ChangesOnly old new row.node to → Waits story earlier old
    → Waits story (earlier ++ (row, (to, message)) ∷ []) new
waits_more story earlier row to message old new rest only waits = record {
  each = λ p q. by p q (is_pair p q row.node to) refl;
}
  where
    x : Sent
    x = (row, (to, message))

    count : (p q : NodeId) (t : Bool) → is_pair p q row.node to ≡ t
        → sent_on p q (earlier ++ x ∷ []) ≡ sent_on p q earlier + length (cond t (x ∷ []) [])
    count p q t pair =
        ap length (filter-append (goes p q) earlier (x ∷ [])) ∙ length-append (filter (goes p q) earlier) (filter (goes p q) (x ∷ []))
        ∙ ap (λ (b : Bool). sent_on p q earlier + length (cond b (x ∷ []) [])) pair

    by : (p q : NodeId) (t : Bool) → is_pair p q row.node to ≡ t → queue new p q ≡ drop (sent_on p q (earlier ++ x ∷ [])) (arrivals story p q)
    by p q true pair =
        let same = is_pair-same p q row.node to pair in
        let P : NodeId → NodeId → Type 0 = λ a b. queue new a b ≡ drop 1 (queue old a b) in
        let less : P p q = subst (λ (a : NodeId). P a q) same.0 (subst (λ (b : NodeId). P row.node b) same.1 rest) in
        less ∙ ap (drop 1) (waits.each p q) ∙ drop-one (arrivals story p q) (sent_on p q earlier)
        ∙ ap (λ (k : ℕ). drop k (arrivals story p q)) (sym (count p q true pair))
    by p q false pair =
        let none : sent_on p q earlier + 0 ≡ sent_on p q earlier = omega arith in
        other_queue old new row.node to p q only (is_pair-other p q row.node to pair) ∙ waits.each p q
        ∙ ap (λ (k : ℕ). drop k (arrivals story p q)) (sym (count p q false pair ∙ none))

-- ---- one behind the other

arrows-append : (story : StoryModel) (earlier xs ys : List Sent)
    → arrows_behind story earlier (xs ++ ys) ≡ arrows_behind story earlier xs ++ arrows_behind story (earlier ++ xs) ys
arrows-append story earlier [] ys = ap (λ (e : List Sent). arrows_behind story e ys) (sym (append-nil earlier))
arrows-append story earlier (x ∷ xs) ys =
    ap (λ (l : List Arrow). arrow_of story earlier x ∷ l)
    (arrows-append story (earlier ++ x ∷ []) xs ys
    ∙ ap (λ (e : List Sent). arrows_behind story (earlier ++ x ∷ []) xs ++ arrows_behind story e ys) (append_assoc earlier (x ∷ []) xs))

-- the messages of a row so far
abbrev pub so_far : TracedStep → List (NodeId × Message) → ℕ → List Sent
so_far row sent i = map (λ (x : NodeId × Message). (row, x)) (take i sent)

so-far-more : (row : TracedStep) (sent : List (NodeId × Message)) (i : ℕ) (x : NodeId × Message) → i < length sent → x ≡ get_or sent i x
    → so_far row sent i ++ (row, x) ∷ [] ≡ so_far row sent (i + 1)
so-far-more row sent i x lt at =
    let f : NodeId × Message → Sent = λ y. (row, y) in
    sym (map-append f (take i sent) (x ∷ []))
    ∙ ap (map f) (ap (λ (y : NodeId × Message). take i sent ++ y ∷ []) at ∙ sym (take_more sent i x lt))

-- the arrows and the arrivals behind the messages so far
pub record Goes (story : StoryModel) (row : TracedStep) (sent : List (NodeId × Message)) (i : ℕ) (before after : List Arrow) (old new : Network ℕ)
    : Type 0 where
  pub found : (earlier : List Sent) → Waits story earlier old → after ≡ before ++ arrows_behind story earlier (so_far row sent i)
  pub ways : (earlier : List Sent) → Waits story earlier old → Waits story (earlier ++ so_far row sent i) new

pub goes_none : (story : StoryModel) (row : TracedStep) (sent : List (NodeId × Message)) (arrows : List Arrow) (ways : Network ℕ)
    → Goes story row sent 0 arrows arrows ways ways
goes_none story row sent arrows ways = record {
  found = λ earlier waits. sym (append-nil arrows);
  ways = λ earlier waits. subst (λ (e : List Sent). Waits story e ways) (sym (append-nil earlier)) waits;
}

pub goes_more : (story : StoryModel) (row : TracedStep) (sent : List (NodeId × Message)) (i : ℕ) (to : NodeId) (message : Message)
    (before middle after : List Arrow) (old between new : Network ℕ) → i < length sent → (to, message) ≡ get_or sent i (to, message)
    → Goes story row sent i before middle old between
    → ((earlier : List Sent) → Waits story earlier between → after ≡ middle ++ arrow_of story earlier (row, (to, message)) ∷ [])
    → ((earlier : List Sent) → Waits story earlier between → Waits story (earlier ++ (row, (to, message)) ∷ []) new)
    → Goes story row sent (i + 1) before after old new
goes_more story row sent i to message before middle after old between new lt at so put next =
    let x : Sent = (row, (to, message)) in
    let all = so-far-more row sent i (to, message) lt at in record {
      found = λ earlier waits.
          let e = earlier ++ so_far row sent i in
          put e (so.ways earlier waits) ∙ ap (λ (l : List Arrow). l ++ arrow_of story e x ∷ []) (so.found earlier waits)
          ∙ append_assoc before (arrows_behind story earlier (so_far row sent i)) (arrow_of story e x ∷ [])
          ∙ ap (λ (l : List Arrow). before ++ l) (sym (arrows-append story earlier (so_far row sent i) (x ∷ [])))
          ∙ ap (λ (l : List Sent). before ++ arrows_behind story earlier l) all;
      ways = λ earlier waits.
          subst (λ (l : List Sent). Waits story l new)
          (append_assoc earlier (so_far row sent i) (x ∷ []) ∙ ap (λ (l : List Sent). earlier ++ l) all)
          (next (earlier ++ so_far row sent i) (so.ways earlier waits));
    }

pub goes_all : (story : StoryModel) (row : TracedStep) (sent : List (NodeId × Message)) (i : ℕ) (before after : List Arrow) (old new : Network ℕ)
    → length sent ≤ i → sent ≡ row.sent → Goes story row sent i before after old new
    → (((earlier : List Sent) → Waits story earlier old → after ≡ before ++ arrows_behind story earlier (sent_by row))
    × ((earlier : List Sent) → Waits story earlier old → Waits story (earlier ++ sent_by row) new))
goes_all story row sent i before after old new end are so =
    let f : NodeId × Message → Sent = λ y. (row, y) in
    let all : so_far row sent i ≡ sent_by row = ap (map f) (take_all i sent end ∙ are) in (
      λ earlier waits. so.found earlier waits ∙ ap (λ (l : List Sent). before ++ arrows_behind story earlier l) all,
      λ earlier waits. subst (λ (l : List Sent). Waits story (earlier ++ l) new) all (so.ways earlier waits),
    )

-- ---- row behind row

sent-more : (rows : List TracedStep) (i : ℕ) (row : TracedStep) → i < length rows → row ≡ get_or rows i row
    → all_sent (take i rows) ++ sent_by row ≡ all_sent (take (i + 1) rows)
sent-more rows i row lt at =
    ap (λ (l : List Sent). all_sent (take i rows) ++ l) (sym (append-nil (sent_by row)))
    ∙ sym (flat_map-append sent_by (take i rows) (row ∷ []))
    ∙ ap all_sent (ap (λ (x : TracedStep). take i rows ++ x ∷ []) at ∙ sym (take_more rows i row lt))

pub record Drawn (story : StoryModel) (rows : List TracedStep) (i : ℕ) (arrows : List Arrow) (left : Network ℕ) : Type 0 where
  pub found : arrows ≡ arrows_behind story [] (all_sent (take i rows))
  pub waits : Waits story (all_sent (take i rows)) left

-- before all rows there is no arrow, and all arrivals are left
pub drawn_none : (story : StoryModel) (workers shards : ℕ) (rows : List TracedStep) (arrows : List Arrow) (ways : Network ℕ)
    → workers ≡ length story.state.scene.scripts → shards ≡ story.state.scene.shards → rows ≡ story.rows → arrows ≡ []
    → HasArrivals workers shards rows ways → Drawn story rows 0 arrows ways
drawn_none story workers shards rows arrows ways ws ss same none are = record {
  found = none;
  waits = waits_first story workers shards ways ws ss (subst (λ (l : List TracedStep). HasArrivals workers shards l ways) same are);
}

pub drawn_more : (story : StoryModel) (rows : List TracedStep) (i : ℕ) (row : TracedStep) (before after : List Arrow) (old new : Network ℕ)
    → i < length rows → row ≡ get_or rows i row → Drawn story rows i before old
    → ((earlier : List Sent) → Waits story earlier old → after ≡ before ++ arrows_behind story earlier (sent_by row))
    → ((earlier : List Sent) → Waits story earlier old → Waits story (earlier ++ sent_by row) new)
    → Drawn story rows (i + 1) after new
drawn_more story rows i row before after old new lt at drawn put next =
    let e = all_sent (take i rows) in
    let all = sent-more rows i row lt at in record {
      found =
          put e drawn.waits ∙ ap (λ (l : List Arrow). l ++ arrows_behind story e (sent_by row)) drawn.found
          ∙ sym (arrows-append story [] e (sent_by row)) ∙ ap (arrows_behind story []) all;
      waits = subst (λ (l : List Sent). Waits story l new) all (next e drawn.waits);
    }

pub drawn_all : (story : StoryModel) (rows : List TracedStep) (i : ℕ) (arrows : List Arrow) (ways : Network ℕ) → length rows ≤ i
    → rows ≡ story.rows → Drawn story rows i arrows ways → arrows ≡ arrows_behind story [] (all_sent story.rows)
drawn_all story rows i arrows ways end are drawn =
    drawn.found ∙ ap (λ (l : List TracedStep). arrows_behind story [] (all_sent l)) (take_all i rows end ∙ are)

-- ---- checks

pub checks_more : (rows : List TracedStep) (i : ℕ) (row : TracedStep) (before after : List Bool) → i < length rows → row ≡ get_or rows i row
    → before ≡ checks_in (take i rows) → after ≡ before ++ checks_in (row ∷ []) → after ≡ checks_in (take (i + 1) rows)
checks_more rows i row before after lt at is put =
    put ∙ ap (λ (l : List Bool). l ++ checks_in (row ∷ [])) is ∙ sym (filter_map-append begun_check (take i rows) (row ∷ []))
    ∙ ap checks_in (ap (λ (x : TracedStep). take i rows ++ x ∷ []) at ∙ sym (take_more rows i row lt))
