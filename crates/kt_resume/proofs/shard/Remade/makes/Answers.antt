use Rattle.std.proofs.Common.{◌≡◌, ◌∙◌, ◌+◌, ◌%◌, ◌<◌, ℕ, IsTrue, List, length, Some, None, IsPermutation, get_or, set, ap, refl, subst, sym, arith}
use Rattle.kt_tuple.specs.declared.tuple.Tuple.{Tuple}
use Rattle.kt_tuple.specs.Signature.{kinds_of_op, shard_of}
use Rattle.kt_tuple.specs.declared.op.Answer.{Answer}
use Rattle.kt_tuple.specs.Space.{SpaceStep}
use Rattle.kt_history.specs.declared.note.What.{What}
use Rattle.kt_history.specs.declared.note.What.TheVariants as whats
use Rattle.kt_logs.specs.Bag.{served_bag}
use Rattle.kt_logs.specs.ShardLog.{bag_after, request_of, shard_after}
use Rattle.kt_shard.specs.Limits.{sessions}
use Rattle.kt_shard.specs.Table.{at}
use Rattle.kt_resume.specs.Remade.{IsRemade, RemadeShard, Slot, empty_slot}
use Rattle.kt_resume.specs.auxiliary.Slots.{slot_after}
use Rattle.kt_resume.proofs.Remakes.{allows, answered, answers, makes_where, remade_after, slot_found}
use Rattle.kt_resume.proofs.shard.Remade.makes.Goals as goal

pub returns-in_ok-may-in-Served-clause-may : goal.returns-in_ok-may-in-Served-clause-may
returns-in_ok-may-in-Served-clause-may c = λ made like may.
    let a = c.args.act.now in
    let r = c.args.self.now in
    let told : Answer = c.in-Served.told in
    let what : a.what ≡ whats.Served told = c.in-Served.is in
    let slot = c.index_mut-in-Served.result.now in
    let home : shard_of c.args.shards (kinds_of_op a.op) ≡ c.args.name =
    sym (c.shard_of.ensures ∙ ap (λ n. n % c.args.shards + 1) c.signature.ensures) ∙ c.if-shard_of-name.false in
    let slots : c.self.inside.slots.items ≡ r.slots = ap (λ (x : RemadeShard). x.slots) c.self.view_is in
    let is : slot ≡ at empty_slot r.slots a.worker =
    slot_found r.slots c.self.inside.slots.items a.worker c.from-worker.result sessions slot slots c.self.invariant c.from-worker.ensures
    c.if-act-ge-SESSIONS.false c.index_mut-in-Served.ensures.value in
    let bags : c.self.inside.bag.tuples ≡ r.bag = ap (λ (x : RemadeShard). x.bag) c.self.view_is in
    let step : SpaceStep c.self.inside.bag.tuples a.op told c.answer.new.bag.tuples = c.in_ok-may-in-Served.ensures.step may in
    let mine = answered made.bag r.bag c.answer.new.bag.tuples a.op told like.bag
    (subst (λ (l : List Tuple). SpaceStep l a.op told c.answer.new.bag.tuples) bags step) in
    let session : (slot.session.waiting ≡ Some (request_of a)) × (a.by ≡ slot.cause) = c.in_ok-serve-in-Served.ensures.may.0 c.if-not-branch.false in
    makes_where c.args.shards c.args.name made r a (whats.Served told) slot like is what home (session.0, session.1, mine.0)

pub returns-in_ok-may-in-Served-clause-all : goal.returns-in_ok-may-in-Served-clause-all
returns-in_ok-may-in-Served-clause-all c = λ made like lt makes.
    let a = c.args.act.now in
    let r = c.args.self.now in
    let told : Answer = c.in-Served.told in
    let what : a.what ≡ whats.Served told = c.in-Served.is in
    let slot = c.index_mut-in-Served.result.now in
    let slots : c.self.inside.slots.items ≡ r.slots = ap (λ (x : RemadeShard). x.slots) c.self.view_is in
    let is : slot ≡ at empty_slot r.slots a.worker =
    slot_found r.slots c.self.inside.slots.items a.worker c.from-worker.result sessions slot slots c.self.invariant c.from-worker.ensures
    c.if-act-ge-SESSIONS.false c.index_mut-in-Served.ensures.value in
    let bags : c.self.inside.bag.tuples ≡ r.bag = ap (λ (x : RemadeShard). x.bag) c.self.view_is in
    let may = allows c.args.shards c.args.name made r a (whats.Served told) slot like is what makes in
    let mine = answers made.bag r.bag a.op told like.bag may.2 in
    let step : SpaceStep c.self.inside.bag.tuples a.op told (served_bag r.bag a.op told) =
    subst (λ (l : List Tuple). SpaceStep l a.op told (served_bag r.bag a.op told)) (sym bags) mine in
    c.in_ok-may-in-Served.ensures.all (served_bag r.bag a.op told) step

pub returns-in_ok-may-in-Served-clause-after : goal.returns-in_ok-may-in-Served-clause-after
returns-in_ok-may-in-Served-clause-after c = λ made like may.
    let a = c.args.act.now in
    let r = c.args.self.now in
    let told : Answer = c.in-Served.told in
    let what : a.what ≡ whats.Served told = c.in-Served.is in
    let slot = c.index_mut-in-Served.result.now in
    let slots : c.self.inside.slots.items ≡ r.slots = ap (λ (x : RemadeShard). x.slots) c.self.view_is in
    let long : length c.self.inside.slots.items ≡ sessions = c.self.invariant in
    let lt : a.worker < length r.slots = subst (λ k. a.worker < k) (sym long ∙ ap (λ (l : List Slot). length l) slots) c.if-act-ge-SESSIONS.false in
    let is : slot ≡ at empty_slot r.slots a.worker =
    slot_found r.slots c.self.inside.slots.items a.worker c.from-worker.result sessions slot slots long c.from-worker.ensures c.if-act-ge-SESSIONS.false
    c.index_mut-in-Served.ensures.value in
    let bags : c.self.inside.bag.tuples ≡ r.bag = ap (λ (x : RemadeShard). x.bag) c.self.view_is in
    let new = c.answer.new.bag.tuples in
    let step : SpaceStep c.self.inside.bag.tuples a.op told new = c.in_ok-may-in-Served.ensures.step may in
    let mine = answered made.bag r.bag new a.op told like.bag (subst (λ (l : List Tuple). SpaceStep l a.op told new) bags step) in
    let kept : c.serve.new.self ≡ slot_after slot a (whats.Served told) = c.in_ok-serve-in-Served.ensures.after c.if-not-branch.false in
    let after : c.serve.new.self ≡ slot_after slot a a.what = kept ∙ ap (λ (w : What). slot_after slot a w) (sym what) in
    let bag : IsPermutation (bag_after made.bag a a.what) new = subst (λ (w : What). IsPermutation (bag_after made.bag a w) new) (sym what) mine.1 in
    let done = remade_after made r a slot c.serve.new.self new like lt is after bag in
    let items : set r.slots a.worker c.serve.new.self ≡ set c.self.inside.slots.items c.from-worker.result c.serve.new.self =
    ap (λ (l : List Slot). set l a.worker c.serve.new.self) (sym slots)
    ∙ ap (λ k. set c.self.inside.slots.items k c.serve.new.self) (sym c.from-worker.ensures) in
    subst (λ (l : List Slot). IsRemade (shard_after made a) (record { bag = new; slots = l })) items done
