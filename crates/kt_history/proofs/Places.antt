-- A place stays as the history grows; and in a log the places are 1, 2, .. in order.
-- Cited by other crates.
use Rattle.std.proofs.Common.{◌≡◌, ℕ, zero, suc, ◌+◌, ◌<◌, ◌≤◌, List, [], ◌∷◌, ◌++◌, take, length, Option, Some, None, refl, sym, ap, ◌∙◌, subst, arith}
use Rattle.std.specs.List.{slice_get}
use Rattle.std.proofs.lemmas.List.{length-take-le}
use Rattle.std.proofs.lemmas.Option.{slice_get_within}
use Rattle.kt_tuple.specs.declared.node.NodeId.{NodeId}
use Rattle.kt_history.specs.declared.note.Act.{Act}
use Rattle.kt_history.specs.declared.note.Note.{Note}
use Rattle.kt_history.specs.declared.note.Note.TheVariants as notes
use Rattle.kt_history.specs.Log.{note_at, before, log}
use Rattle.kt_history.specs.Place.{place_of, place}
use Rattle.kt_history.proofs.Lists.{Contains-from_slice_get}
use Rattle.kt_history.proofs.Logs.{before-old, note_at-old, log-own, log-stack}

place_of-old : (h g : List Note) (n : ℕ) → n ≤ length h → (o : Option Note) → place_of (h ++ g) n o ≡ place_of h n o
place_of-old h g n le None = refl
place_of-old h g n le (Some (notes.Act a)) = ap (λ f. Some (length (log f a.node) + 1)) (before-old h g n (omega (arith, le)))
place_of-old h g n le (Some (notes.Cut p keep)) = refl

-- what a number named keeps its place
pub place-old : (h g : List Note) (n : ℕ) → n ≤ length h → place (h ++ g) n ≡ place h n
place-old h g n le = ap (place_of (h ++ g) n) (note_at-old h g n le) ∙ place_of-old h g n le (note_at h n)

-- the place of an act that stands in a log is where it stands
pub place-stands : (h : List Note) (p : NodeId) (i e : ℕ) → slice_get (log h p) i ≡ Some e → place h e ≡ Some (suc i)
place-stands h p i e at =
    let own = log-own h p e (Contains-from_slice_get (log h p) i e at) in
    let Of : NodeId → Type 0 = λ q. slice_get (log h q) i ≡ Some e in
    let here : slice_get (log h own.act.node) i ≡ Some e = subst Of (sym own.own) at in
    let stack : log (before h e) own.act.node ≡ take i (log h own.act.node) = log-stack h own.act.node i e here in
    let within = slice_get_within (log h own.act.node) i e here in
    let long : length (take i (log h own.act.node)) ≡ i = length-take-le i (log h own.act.node) (omega (arith, within)) in
    let one : length (log (before h e) own.act.node) + 1 ≡ suc i = let same = ap (λ (l : List ℕ). length l) stack in omega (arith, same, long) in
    ap (place_of h e) own.is_act ∙ ap (λ k. Some k) one
