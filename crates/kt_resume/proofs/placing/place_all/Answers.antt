use Rattle.std.proofs.Common.{◌≡◌, ◌+◌, true, false, sym, ap, ◌∙◌, subst, None}
use Rattle.std.specs.Prelude.{if◌then◌else◌}
use Rattle.kt_resume.specs.Turns.{AreApart, count_left, nodes_in}
use Rattle.kt_resume.specs.auxiliary.Next.{first_in}
use Rattle.kt_resume.proofs.Turned.{due-more, due-none, none-found}
use Rattle.kt_resume.proofs.placing.place_all.Goals as goal

pub places-preserved : goal.places-preserved
places-preserved c =
    let inv = c.places.invariant in
    let out = c.in_ok-place_next.ensures in
    let count : count_left c.places.logs ≡ 1 + count_left c.place_next.new.logs = out.count
    ∙ ap (λ b. (if b then 1 else 0) + count_left c.place_next.new.logs) c.if-branch.true in
    record {
      nodes = c.place_next.ensures.nodes ∙ inv.nodes;
      left = λ acts apart left. out.left acts (subst AreApart (sym inv.nodes) apart) (inv.left acts apart left);
      due = λ acts apart left.
          due-more acts c.places.history.notes c.place_next.new.history.notes c.places.logs c.place_next.new.logs (inv.left acts apart left) out.notes
          c.place_next.ensures.nodes count
          ∙ inv.due acts apart left;
    }

pub returns-clause-placed : goal.returns-clause-placed
returns-clause-placed c = λ acts apart left.
    let inv = c.places.invariant in
    let out = c.in_ok-place_next.ensures in
    due-none acts c.places.history.notes c.place_next.new.history.notes c.places.logs (inv.left acts apart left) out.notes
    (none-found (first_in c.places.history.notes c.places.logs) (sym out.any ∙ c.if-branch.false))
    ∙ inv.due acts apart left

pub returns-clause-left : goal.returns-clause-left
returns-clause-left c = λ acts apart left.
    let inv = c.places.invariant in c.in_ok-place_next.ensures.left acts (subst AreApart (sym inv.nodes) apart) (inv.left acts apart left)
