use Rattle.std.proofs.Common.{◌≡◌, ◌+◌, ◌<◌, ◌++◌, List, [], ◌∷◌, length, map, take, get_or, sym, ap, ◌∙◌, subst}
use Rattle.std.proofs.lemmas.List.{map_more}
use Rattle.std.proofs.lemmas.List.Elements.{All-more}
use Rattle.kt_tuple.specs.declared.node.NodeId.{NodeId}
use Rattle.kt_model.specs.Cut.{permanent_length}
use Rattle.kt_model.specs.Resumed.{acts_of}
use Rattle.kt_resume.specs.Found.{content_of}
use Rattle.kt_resume.specs.auxiliary.Next.{log_of}
use Rattle.kt_resume.specs.Unplaced.{Left}
use Rattle.kt_resume.proofs.Founds.{log-is}
use Rattle.kt_resume.proofs.logs.logs_of.Goals as goal

pub loop-node-preserved : goal.loop-node-preserved
loop-node-preserved c =
    let store = content_of c.args.found.now in
    let nodes = c.args.nodes.now in
    let i = c.loop-node.node-index in
    let lt : i < length nodes = c.loop-node-test.true in
    let new = log-is (acts_of store) _ c.new.result c.new.ensures.node (c.new.ensures.acts ∙ c.in_ok-acts.ensures.acts) in
    record {
      logs =
          c.in_ok-push.ensures.items ∙ ap (λ (l : List Left). l ++ c.new.result ∷ []) c.loop-node.invariant.logs
          ∙ ap (λ (x : Left). map (log_of (acts_of store)) (take i nodes) ++ x ∷ []) new
          ∙ sym (map_more (log_of (acts_of store)) nodes i _ lt);
      long = All-more (λ (p : NodeId). length (acts_of store p) ≡ permanent_length store p) nodes i _ lt c.loop-node.invariant.long c.in_ok-acts.ensures.long;
    }
