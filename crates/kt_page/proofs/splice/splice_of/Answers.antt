use Rattle.kt_page.proofs.Changes.{put_of}
use Rattle.kt_page.proofs.splice.splice_of.Goals as goal

pub returns-clause-put : goal.returns-clause-put
returns-clause-put c =
    put_of c.args.old.now c.args.new.now c.split_at.result.1.now c.split_at-2.result.1.now c.split_at-3.result.0.now c.front_len-front.result
    c.back_len-back.result c.split_at.ensures.back c.split_at-2.ensures.back c.split_at-3.ensures.front c.front_len-front.ensures.same
    c.back_len-back.ensures.same
