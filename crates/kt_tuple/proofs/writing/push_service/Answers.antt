use Rattle.kt_tuple.proofs.Separated.{front_of}
use Rattle.kt_tuple.proofs.writing.push_service.Goals as goal

pub returns-clause-front : goal.returns-clause-front
returns-clause-front c =
    let answered = front_of _ _ _ _ c.in_ok-push-2.ensures.items c.push_answer.ensures.front in
    let asked = front_of _ _ _ _ c.in_ok-push_op.ensures.ok answered in
    front_of _ _ _ _ c.in_ok-push_request.ensures.ok (front_of _ _ _ _ c.in_ok-push.ensures.items asked)
