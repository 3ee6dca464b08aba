use Rattle.std.proofs.Common.{◌∷◌, ◌++◌, []}
use Rattle.std.specs.Prelude.{codes}
use Rattle.json.specs.Token.{begin_object, key, string}
use Rattle.json.specs.Tree.{json_tokens}
use Rattle.kt_show.specs.ShownJson.{count, op_json}
use Rattle.kt_tell.proofs.Chains.{last_piece}
use Rattle.kt_tell.proofs.Pieces.{then_more}
use Rattle.kt_tell.proofs.events_json.push_request.Goals as goal

pub returns : goal.returns
returns c =
    let r = c.args.request.now in
    then_more c.args.out.now (begin_object ∷ key (codes "word") ∷ string (codes "request") ∷ []) _ c.begin_worded.new.out c.push_member-2.new.out
    c.in_ok-begin_worded.ensures
    (then_more c.begin_worded.new.out (key (codes "request") ∷ json_tokens (count r.number)) _ c.push_member.new.out c.push_member-2.new.out
    c.in_ok-push_member.ensures
    (last_piece c.push_member.new.out c.push_member-2.new.out (key (codes "operation") ∷ json_tokens (op_json r.op)) c.in_ok-push_member-2.ensures))
