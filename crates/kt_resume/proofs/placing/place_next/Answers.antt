use Rattle.std.proofs.Common.{◌≡◌, Option, Some, get_or, slice_get, subst}
use Rattle.std.specs.Prelude.{is_some, IsTrue}
use Rattle.std.proofs.lemmas.Option.{slice_get-get_or}
use Rattle.kt_resume.specs.Unplaced.{Left}
use Rattle.kt_resume.specs.auxiliary.Next.{next_at}
use Rattle.kt_resume.proofs.Turned.{count-set, nodes-set, ready-within, turned}
use Rattle.kt_resume.proofs.placing.place_next.Goals as goal

-- the list that was chosen
at-is : (c : goal.In_ok-place-in-Some) → slice_get c.args.logs.now c.in-Some.at ≡ Some (get_or c.args.logs.now c.in-Some.at c.index-logs-at.result)
at-is c =
    slice_get-get_or c.args.logs.now c.in-Some.at c.index-logs-at.result
    (ready-within c.args.history.now.notes c.args.logs.now c.in-Some.at c.in-Some.ensures.ready)

pub returns-in_ok-place-in-Some-clause-left : goal.returns-in_ok-place-in-Some-clause-left
returns-in_ok-place-in-Some-clause-left c = λ acts apart left.
    turned acts c.args.history.now.notes c.place.new.history.notes c.args.logs.now c.in-Some.at
    (get_or c.args.logs.now c.in-Some.at c.index-logs-at.result) c.place.new.log apart left (at-is c)
    (subst (λ (o : Option Left). IsTrue (is_some (next_at c.args.history.now.notes o))) (at-is c) c.in-Some.ensures.ready)
    c.in_ok-place-in-Some.ensures.notes c.place.ensures.node c.in_ok-place-in-Some.ensures.rest

pub returns-in_ok-place-in-Some-clause-nodes : goal.returns-in_ok-place-in-Some-clause-nodes
returns-in_ok-place-in-Some-clause-nodes c =
    nodes-set c.args.logs.now c.in-Some.at (get_or c.args.logs.now c.in-Some.at c.index-logs-at.result) c.place.new.log (at-is c) c.place.ensures.node

pub returns-in_ok-place-in-Some-clause-count : goal.returns-in_ok-place-in-Some-clause-count
returns-in_ok-place-in-Some-clause-count c =
    count-set c.args.logs.now c.in-Some.at (get_or c.args.logs.now c.in-Some.at c.index-logs-at.result) c.place.new.log (at-is c)
    c.in_ok-place-in-Some.ensures.one
