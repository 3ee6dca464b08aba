use Rattle.std.proofs.Common.{◌≡◌, []}
use Rattle.kt_model.specs.Placing.{Acts, placed}
use Rattle.kt_resume.specs.Turns.{AreApart, AreLeft, count_left, nodes_in}
use Rattle.kt_resume.proofs.placing.place_all.Given as goal

-- what is placed of what is left is what was to be placed of all
abbrev pub invariant-places : goal.invariant-places
invariant-places l = record {
  nodes : nodes_in l.logs ≡ nodes_in l.initial.logs;
  left : (acts : Acts) → AreApart (nodes_in l.initial.logs) → AreLeft acts [] l.initial.logs → AreLeft acts l.history.notes l.logs;
  due : (acts : Acts) → AreApart (nodes_in l.initial.logs) → AreLeft acts [] l.initial.logs
      → placed acts (nodes_in l.logs) (count_left l.logs) l.history.notes ≡ placed acts (nodes_in l.initial.logs) (count_left l.initial.logs) [];
}

abbrev pub decreases-places : goal.decreases-places
decreases-places l = count_left l.logs
