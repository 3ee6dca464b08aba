use Rattle.std.proofs.Common.{◌≡◌, Option, subst}
use Rattle.std.specs.Prelude.{IfSome}
use Rattle.kt_tuple.specs.declared.node.NodeId.TheVariants as ids
use Rattle.kt_history.specs.Closed.{acts_in_log}
use Rattle.kt_logs.specs.ShardLog.{ShardLog, new_shard, shard_of_acts}
use Rattle.kt_resume.specs.Remade.{IsRemade, RemadeShard}
use Rattle.kt_resume.proofs.Fits.{shard-suited}
use Rattle.kt_resume.proofs.leads.shard_leads_to.Goals as goal

pub returns-in-Some : goal.returns-in-Some
returns-in-Some c =
    let name = c.args.name in
    let acts = acts_in_log c.args.history.now.notes (ids.Shard name) in
    let legal : ShardLog c.args.shards name new_shard acts =
    subst (λ (o : Option RemadeShard). IfSome o (λ r. ShardLog c.args.shards name new_shard acts)) c.in-Some.is c.in_ok-remade.ensures.made in
    let like : IsRemade (shard_of_acts new_shard acts) c.in-Some.remade =
    subst (λ (o : Option RemadeShard). IfSome o (λ r. IsRemade (shard_of_acts new_shard acts) r)) c.in-Some.is c.in_ok-remade.ensures.like in
    shard-suited c.args.shards c.args.workers name acts c.args.stored.now c.in-Some.remade c.suits_shard.result legal like c.suits_shard.ensures
