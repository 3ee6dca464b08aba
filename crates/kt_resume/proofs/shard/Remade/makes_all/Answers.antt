use Rattle.std.proofs.Common.{◌≡◌, ◌+◌, ◌<◌, ◌∙◌, List, ℕ, Some, None, false, true, sym, ap, subst, take, get_or, length, arith}
use Rattle.std.specs.Option.{option_copied}
use Rattle.kt_history.specs.declared.note.Act.{Act}
use Rattle.kt_history.specs.Closed.{act_of, acts_at}
use Rattle.kt_history.specs.Log.{log, note_at}
use Rattle.kt_tuple.specs.declared.node.NodeId.TheVariants as ids
use Rattle.kt_logs.specs.ShardLog.{MadeShard, ShardLog, new_shard, shard_of_acts}
use Rattle.kt_logs.proofs.Shared.{shard_of_acts-push}
use Rattle.kt_shard.specs.Limits.{sessions}
use Rattle.kt_resume.specs.Remade.{IsRemade, RemadeShard}
use Rattle.kt_resume.proofs.Remakes.{ShardLog-more, all_act, log_act}
use Rattle.kt_resume.proofs.Workers.{acts-more, acts-none}
use Rattle.kt_resume.proofs.shard.Remade.makes_all.Goals as goal
use Rattle.kt_resume.proofs.shard.Remade.makes_all.Goals.{in-Some+in_ok-makes+else-not-branch, in_default}

pub returns-then-not-branch-clause-none : goal.returns-then-not-branch-clause-none
returns-then-not-branch-clause-none c = λ e all legal.
    let h = c.args.history.now.notes in
    let xs = log h (ids.Shard c.args.name) in
    let i = c.loop-number.number-index in
    let items : c.line-number-items.result.now ≡ xs = c.line-number-items.ensures in
    let lt : i < length xs = let below = c.loop-number-test.true in let long = ap (λ (l : List ℕ). length l) items in omega (arith, below, long) in
    let is : act_of (note_at h (get_or xs i 0)) ≡ Some c.in-Some.act.now =
    ap (λ (l : List ℕ). act_of (note_at h (get_or l i 0))) (sym items) ∙ sym c.act.ensures ∙ ap option_copied c.in-Some.is in
    let makes = log_act c.args.shards c.args.name new_shard h xs i c.in-Some.act.now lt is legal in
    let known = all_act (λ (a : Act). a.worker < sessions) h xs i c.in-Some.act.now lt is all in
    let is_true = c.in_ok-makes.ensures.all (shard_of_acts new_shard (acts_at h (take i xs))) c.loop-number.invariant.like known makes in
    let apart : false ≡ true = sym c.if-not-branch.true ∙ is_true in
    absurd (cc (apart))

pub loop-number-preserved : goal.loop-number-preserved
loop-number-preserved c = elim c.match-act.branch [
  | in-Some+in_ok-makes+else-not-branch w ↦
      let h = c.args.history.now.notes in
      let xs = log h (ids.Shard c.args.name) in
      let i = c.loop-number.number-index in
      let made = shard_of_acts new_shard (acts_at h (take i xs)) in
      let items : c.line-number-items.result.now ≡ xs = c.line-number-items.ensures in
      let lt : i < length xs = let below = c.loop-number-test.true in let long = ap (λ (l : List ℕ). length l) items in omega (arith, below, long) in
      let is : act_of (note_at h (get_or xs i 0)) ≡ Some w.in-Some.act.now =
      ap (λ (l : List ℕ). act_of (note_at h (get_or l i 0))) (sym items) ∙ sym c.act.ensures ∙ ap option_copied w.in-Some.is in
      let more = acts-more h xs i w.in-Some.act.now lt is in
      let inv = c.loop-number.invariant in
      let makes = w.in_ok-makes.ensures.may made inv.like w.if-not-branch.false in
      let like = w.in_ok-makes.ensures.after made inv.like w.if-not-branch.false in
      record {
        legal = subst (ShardLog c.args.shards c.args.name new_shard) (sym more)
            (ShardLog-more c.args.shards c.args.name new_shard (acts_at h (take i xs)) w.in-Some.act.now inv.legal makes);
        like = subst (λ (x : RemadeShard). IsRemade (shard_of_acts new_shard (acts_at h (take (i + 1) xs))) x) (sym w.self-is)
            (subst (λ (m : MadeShard). IsRemade m w.makes.new.self)
            (sym (ap (shard_of_acts new_shard) more ∙ shard_of_acts-push new_shard (acts_at h (take i xs)) w.in-Some.act.now)) like);
      }
  | in_default w ↦
      let h = c.args.history.now.notes in
      let xs = log h (ids.Shard c.args.name) in
      let i = c.loop-number.number-index in
      let items : c.line-number-items.result.now ≡ xs = c.line-number-items.ensures in
      let lt : i < length xs = let below = c.loop-number-test.true in let long = ap (λ (l : List ℕ). length l) items in omega (arith, below, long) in
      let is : act_of (note_at h (get_or xs i 0)) ≡ None = ap (λ (l : List ℕ). act_of (note_at h (get_or l i 0))) (sym items) ∙ sym w.in_default.ensures in
      let same = acts-none h xs i lt is in
      let inv = c.loop-number.invariant in
      record {
        legal = subst (ShardLog c.args.shards c.args.name new_shard) (sym same) inv.legal;
        like = subst (λ (x : RemadeShard). IsRemade (shard_of_acts new_shard (acts_at h (take (i + 1) xs))) x) (sym w.self-is)
            (subst (λ (l : List Act). IsRemade (shard_of_acts new_shard l) c.loop-number.self) (sym same) inv.like);
      }
]
