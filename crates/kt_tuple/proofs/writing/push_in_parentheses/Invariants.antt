use Rattle.std.proofs.Common.{◌≡◌, ◌∷◌, ◌++◌, take, map}
use Rattle.std.specs.Prelude.{All}
use Rattle.kt_tuple.specs.Spelling.{separated}
use Rattle.kt_tuple.proofs.Separated.{separator_after}
use Rattle.kt_tuple.proofs.writing.push_in_parentheses.Given as goal

abbrev pub invariant-loop-item : goal.invariant-loop-item
invariant-loop-item g l = record {
  written : l.out.items ≡ l.fn.out.items ++ 40 ∷ separated (map g.T.Spelled.text_of (take l.item-index l.items));
  between : l.separator ≡ separator_after (take l.item-index l.items);
  held : All g.T.Spelled.is_held (take l.item-index l.items);
}
