-- Each plan of a step is a run of the machine: one leaf after the other.
-- Cited by Refined.
use Rattle.kt_state.specs.declared.plan.Plan.{Plan}
use Rattle.kt_scenario.specs.declared.step.Step.{Step}
use Rattle.kt_scenario.specs.declared.step.Step.TheVariants.{Issue, Repeat, Deliver, Take, Serve, Check, Decide, Abandon, Learn, Fail, Restart}
use Rattle.kt_scenario.specs.Step.{owner}
use Rattle.kt_model.specs.State.{State as World}
use Rattle.kt_model.specs.StoreReads.{store_reads}
use Rattle.kt_model.proofs.Plans as plans
use Rattle.kt_model.proofs.Shared.{PlanOf, MayNote, step_keeps, Holds}
use Rattle.kt_protocol.specs.Machine.{State}
use Rattle.kt_protocol.proofs.Shared.{Invariant}
use Rattle.kt_refinement.proofs.Numbers.{peers}
use Rattle.kt_refinement.proofs.Represents.{Represents}
use Rattle.kt_refinement.proofs.Frames.{Refines}
use Rattle.kt_refinement.proofs.Answering.{answers_check, answers_rollback}
use Rattle.kt_refinement.proofs.JoinsRollback.{joins_rollback}
use Rattle.kt_refinement.proofs.JoinsCheck.{joins_check}
use Rattle.kt_refinement.proofs.Dropping.{drops}
use Rattle.kt_refinement.proofs.RollsBack.{told_to_roll, learns_to_roll}
use Rattle.kt_refinement.proofs.Verdicts.{decides, gives_up, gives_up_down}
use Rattle.kt_refinement.proofs.Voting.{declines_of_itself}
use Rattle.kt_refinement.proofs.CountsVote.{counts_vote}
use Rattle.kt_refinement.proofs.Falling.{fails_so}
use Rattle.kt_refinement.proofs.BeginsCheck.{begins_check}
use Rattle.kt_refinement.proofs.Issuing.{issues, repeats}
use Rattle.kt_refinement.proofs.Restarting.{restarts, restarts_anew}
use Rattle.kt_refinement.proofs.Releases.{told_when_held, learns_when_held}
use Rattle.kt_refinement.proofs.GoesOn.{told_to_go_on, learns_to_go_on}
use Rattle.kt_refinement.proofs.LearnsDown.{learns_yes_down, learns_no_down}
use Rattle.kt_refinement.proofs.Serving.{serves}
use Rattle.kt_refinement.proofs.PutsBy.{puts_by}
use Rattle.kt_refinement.proofs.Hears.{hears, takes}

by-leaf : (s : World) (c : State) → Invariant (peers s.scene) c → Represents s c → Holds s → (step : Step) (plan : Plan)
    → MayNote s.scene s.history (owner step) plan.note → PlanOf s (store_reads s step) step plan → Refines s step plan c
by-leaf s c inv is h (Issue p) plan may (plans.issues {n = n} {x = x} {r = r} there alive up works kept next) = issues s c is h p n r _ there alive up may
by-leaf s c inv is h (Repeat p) plan may (plans.repeats {n = n} {r = r} there alive up works again) = repeats s c is h p n r there alive up may
by-leaf s c inv is h (Serve p w place) plan may (plans.serves {n = n} {service = v} there worker alive up works chosen) =
    serves s c is h p w n place v there worker alive up may
by-leaf s c inv is h (Take p) plan may (plans.takes {from = from} {n = n} {app = app} {later = later} there alive up first) =
    takes s c is h p from n app later alive up first may
by-leaf s c inv is h (Deliver p q) plan may (plans.hears {n = n} {app = app} comes alive up empty) = hears s c is h p q n app comes alive up empty may
by-leaf s c inv is h (Deliver p q) plan may (plans.puts_by {n = n} {app = app} comes alive not_rolling) = puts_by s c is p q n app comes alive
by-leaf s c inv is h (Deliver p q) plan may (plans.drops {message = message} comes dropped) = drops s c is h p q message comes dropped
by-leaf s c inv is h (Deliver p q) plan may (plans.answers_check {n = n} {ask = ask} {agreed = agreed} comes alive says) =
    answers_check s c is h p q n ask agreed comes alive says
by-leaf s c inv is h (Deliver p q) plan may (plans.joins_check {n = n} {ask = ask} comes alive up undecided joins fit fits shaped) =
    joins_check s c is h p q n ask comes alive up undecided joins
by-leaf s c inv is h (Deliver p q) plan may (plans.answers_rollback {n = n} {ask = ask} {agreed = agreed} comes alive says) =
    answers_rollback s c is p q n ask agreed comes alive says
by-leaf s c inv is h (Deliver p q) plan may (plans.joins_rollback {n = n} {ask = ask} comes alive up undecided above fit) =
    joins_rollback s c is h p q n ask comes alive up undecided above
by-leaf s c inv is h (Deliver p q) plan may (plans.counts_vote {n = n} {vote = vote} {b = b} {phase = phase} comes alive votes_so counts_it) =
    counts_vote s c inv is p q n vote b phase comes alive votes_so counts_it
by-leaf s c inv is h (Deliver p q) plan may (plans.told_when_held {n = n} {b = b} {instance = instance} {agreed = agreed} comes alive held same) =
    told_when_held s c is h p q n b instance agreed comes alive held same
by-leaf s c inv is h (Deliver p q) plan may
    (plans.told_to_roll {n = n} {live = live} {b = b} {instance = instance} comes alive rolling joined same from_store) =
    told_to_roll s c inv is h p q n live b instance comes alive rolling same from_store may
by-leaf s c inv is h (Deliver p q) plan may
    (plans.told_to_go_on {n = n} {b = b} {parent = parent} {instance = instance} comes alive rolling joined same) =
    told_to_go_on s c inv is h p q n b parent instance comes alive rolling joined same
by-leaf s c inv is h (Check p) plan may (plans.begins_check {n = n} there alive up fit shaped) = begins_check s c inv is h p n there alive up
by-leaf s c inv is h (Decide p) plan may (plans.decides {n = n} {b = b} {phase = phase} {agreed = agreed} there alive votes_so began undecided outcome) =
    decides s c inv is p n b phase agreed alive votes_so began undecided outcome
by-leaf s c inv is h (Abandon p) plan may (plans.gives_up {n = n} {b = b} {phase = phase} there alive votes_so began undecided) =
    gives_up s c inv is p n b phase alive votes_so undecided
by-leaf s c inv is h (Abandon p) plan may (plans.gives_up_down {instance = instance} there down undecided) =
    gives_up_down s c inv is h p instance undecided
by-leaf s c inv is h (Abandon p) plan may (plans.declines {n = n} {b = b} {phase = phase} {parent = parent} there alive votes_so joined unvoted) =
    declines_of_itself s c is p n b phase parent alive votes_so joined unvoted
by-leaf s c inv is h (Learn p) plan may (plans.learns_when_held {n = n} {b = b} {agreed = agreed} there alive held verdict) =
    learns_when_held s c is h p n b agreed alive held verdict
by-leaf s c inv is h (Learn p) plan may (plans.learns_to_roll {n = n} {live = live} {b = b} there alive rolling joined verdict from_store) =
    learns_to_roll s c inv is h p n live b alive rolling verdict from_store may
by-leaf s c inv is h (Learn p) plan may (plans.learns_to_go_on {n = n} {b = b} {parent = parent} there alive rolling joined verdict) =
    learns_to_go_on s c inv is p n b parent alive rolling joined verdict
by-leaf s c inv is h (Learn p) plan may (plans.learns_yes_down there down some verdict) = learns_yes_down s c is h p there down verdict
by-leaf s c inv is h (Learn p) plan may (plans.learns_no_down there down some verdict fit) = learns_no_down s c is h p there down verdict may
by-leaf s c inv is h (Fail p) plan may (plans.fails {n = n} there alive fit fits) = fails_so s c is p n alive may
by-leaf s c inv is h (Restart p) plan may (plans.restarts {live = live} there down none undecided from_store) =
    restarts s c inv is h p live there down none from_store
by-leaf s c inv is h (Restart p) plan may (plans.restarts_anew {n = n} {live = live} {b = b} there alive rolling began verdict from_store) =
    restarts_anew s c inv is h p n live b there alive rolling began from_store

pub step-refines : (s : World) (c : State) → Invariant (peers s.scene) c → Represents s c → Holds s → (step : Step) (plan : Plan)
    → PlanOf s (store_reads s step) step plan → Refines s step plan c
step-refines s c inv is h step plan of =
    by-leaf s c inv is h step plan (step_keeps s h.ready h.backed h.sound step plan of).may of
