use Rattle.std.proofs.Common.{sym, subst, ◌∙◌}
use Rattle.std.specs.Prelude.{List, ℕ, IsPermutation}
use Rattle.std.specs.List.Sorted.{IsSorted}
use Rattle.std.specs.Ordering.{nat_cmp}
use Rattle.std.specs.Cmp.Lexicographic.{slice_cmp}
use Rattle.std.specs.Global.{Vec}
use Rattle.kt_scene.proofs.TupleLists.{texts_listed, ok_then}
use Rattle.kt_scene.proofs.report.push_sorted.Goals as goal

pub returns : goal.returns
returns c =
    let Same : List (Vec ℕ) → Type 0 = IsPermutation c.args.texts.items in
    let Rises : List (Vec ℕ) → Type 0 = IsSorted (λ (a b : Vec ℕ). slice_cmp nat_cmp a.items b.items) in
    let value = c.deref.ensures.value in
    ok_then c.push_texts.result
    (λ second. texts_listed c.args.word.now c.args.out.now.items c.push_count.new.out.items _ c.args.texts.items c.deref.result.now c.len.result
    (subst Same (sym value) c.in_ok-sort.ensures.permutation) (subst Rises (sym value) c.in_ok-sort.ensures.sorted)
    (c.len.ensures ∙ sym c.deref.ensures.len) c.in_ok-push_count.ensures second)
    c.push_texts.ensures
