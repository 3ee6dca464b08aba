-- Each plan of a step keeps a sound state sound: one leaf of the tables after the other.
-- Cited by Holding, Lasting; other crates.
use Rattle.std.proofs.Common.{true, false, []}
use Rattle.kt_state.specs.declared.plan.Plan.{Plan}
use Rattle.kt_scenario.specs.declared.step.Step.{Step}
use Rattle.kt_scenario.specs.declared.step.Step.TheVariants.{Issue, Repeat, Deliver, Take, Serve, Check, Decide, Abandon, Learn, Fail, Restart}
use Rattle.kt_scenario.specs.Step.{owner}
use Rattle.kt_model.specs.State.{State}
use Rattle.kt_model.specs.StoreReads.{store_reads}
use Rattle.kt_model.specs.Effect.{applied}
use Rattle.kt_model.specs.auxiliary.Ready.{IsReady}
use Rattle.kt_model.specs.auxiliary.Backed.{IsBacked}
use Rattle.kt_model.proofs.Plans as plans
use Rattle.kt_model.proofs.Plans.{PlanOf}
use Rattle.kt_model.proofs.Sound.{IsSound}
use Rattle.kt_model.proofs.Applying.{Keeps, applied-sound}
use Rattle.kt_model.proofs.ActLeaves.{issues, repeats, serves, hears, takes}
use Rattle.kt_model.proofs.Updates.{verdicts_well, idle_keeps}
use Rattle.kt_model.proofs.QuietLeaves.{puts_by, answers_check, answers_rollback, joins_rollback, counts_vote}
use Rattle.kt_model.proofs.QuietLeaves.{declines, goes_on, decides, gives_up, gives_up_down}
use Rattle.kt_model.proofs.CheckLeaves.{begins_check, joins_check, told_when_held, learns_when_held}
use Rattle.kt_model.proofs.FailLeaves.{has_fallen, fails, learns_no_down, learns_yes_down}
use Rattle.kt_model.proofs.RollLeaves.{rolls_back, restarts, restarts_anew}

pub step_keeps : (s : State) → IsReady s → IsBacked s → IsSound s → (step : Step) (plan : Plan) → PlanOf s (store_reads s step) step plan
    → Keeps s (owner step) plan
step_keeps s ready backed sound (Issue p) plan (plans.issues {n = n} {x = x} {r = r} is alive up works kept next) =
    issues s sound p n x r is alive up works next
step_keeps s ready backed sound (Repeat p) plan (plans.repeats {n = n} {x = x} {r = r} is alive up works again) =
    repeats s sound p n x r is alive up works again
step_keeps s ready backed sound (Serve p w place) plan (plans.serves {n = n} {y = y} {service = v} is there alive up works chosen) =
    serves s sound p w n y place v is there alive up works chosen
step_keeps s ready backed sound (Take p) plan (plans.takes {from = from} {n = n} {app = app} {later = later} is alive up first) =
    takes s ready sound p from n app later alive up first
step_keeps s ready backed sound (Deliver p q) plan (plans.hears {n = n} {app = app} comes alive up empty) = hears s sound p q n app comes alive up
step_keeps s ready backed sound (Deliver p q) plan (plans.puts_by {n = n} {app = app} comes alive not_rolling) = puts_by s sound p q n app comes alive
step_keeps s ready backed sound (Deliver p q) plan (plans.drops comes may) = idle_keeps s q sound
step_keeps s ready backed sound (Deliver p q) plan (plans.answers_check {n = n} {ask = ask} {agreed = agreed} comes alive says) =
    answers_check s sound p q n ask agreed alive
step_keeps s ready backed sound (Deliver p q) plan (plans.joins_check {n = n} {ask = ask} comes alive up undecided joins fit fits shaped) =
    joins_check s sound p q n ask _ alive
step_keeps s ready backed sound (Deliver p q) plan (plans.answers_rollback {n = n} {ask = ask} {agreed = agreed} comes alive says) =
    answers_rollback s sound p q n ask agreed alive
step_keeps s ready backed sound (Deliver p q) plan (plans.joins_rollback {n = n} {ask = ask} comes alive up undecided above fit) =
    joins_rollback s sound p q n ask _ alive
step_keeps s ready backed sound (Deliver p q) plan (plans.counts_vote {n = n} {vote = vote} {b = b} {phase = phase} comes alive votes_so counts_it) =
    counts_vote s sound p q n vote.yes b phase alive votes_so
step_keeps s ready backed sound (Deliver p q) plan (plans.told_when_held {n = n} {b = b} {instance = instance} {agreed = agreed} comes alive holds same) =
    told_when_held s backed sound p q n b instance agreed _ comes alive holds same (verdicts_well s.scene.shards s.history q instance agreed b.asked)
step_keeps s ready backed sound (Deliver p q) plan
    (plans.told_to_roll {n = n} {live = live} {b = b} {instance = instance} comes alive rolling joined same from_store) =
    rolls_back s ready backed sound q n live b _ alive rolling from_store (verdicts_well s.scene.shards _ q instance true b.asked)
step_keeps s ready backed sound (Deliver p q) plan (plans.told_to_go_on {n = n} {b = b} {instance = instance} comes alive rolling joined same) =
    goes_on s sound q n _ alive (verdicts_well s.scene.shards s.history q instance false b.asked)
step_keeps s ready backed sound (Check p) plan (plans.begins_check {n = n} is alive up fit shaped) = begins_check s sound p n _ _ alive
step_keeps s ready backed sound (Decide p) plan (plans.decides {n = n} {b = b} {phase = phase} {agreed = agreed} is alive votes_so began undecided outcome) =
    decides s sound p n b phase agreed alive votes_so undecided
step_keeps s ready backed sound (Abandon p) plan (plans.gives_up {n = n} {b = b} is alive votes_so began undecided) = gives_up s sound p n b alive
step_keeps s ready backed sound (Abandon p) plan (plans.gives_up_down {instance = instance} is down undecided) = gives_up_down s sound p instance
step_keeps s ready backed sound (Abandon p) plan (plans.declines {n = n} {b = b} {phase = phase} {parent = parent} is alive votes_so joined unvoted) =
    declines s sound p n b phase parent alive votes_so
step_keeps s ready backed sound (Learn p) plan (plans.learns_when_held {n = n} {b = b} {agreed = agreed} is alive holds verdict) =
    learns_when_held s backed sound p n b agreed alive holds verdict
step_keeps s ready backed sound (Learn p) plan (plans.learns_to_roll {n = n} {live = live} {b = b} is alive rolling joined verdict from_store) =
    rolls_back s ready backed sound p n live b [] alive rolling from_store tt
step_keeps s ready backed sound (Learn p) plan (plans.learns_to_go_on {n = n} is alive rolling joined verdict) = goes_on s sound p n [] alive tt
step_keeps s ready backed sound (Learn p) plan (plans.learns_yes_down is down some verdict) = learns_yes_down s sound p (has_fallen s ready p is down) verdict
step_keeps s ready backed sound (Learn p) plan (plans.learns_no_down is down some verdict fit) = learns_no_down s sound p (has_fallen s ready p is down)
step_keeps s ready backed sound (Fail p) plan (plans.fails {n = n} is alive fit fits) = fails s sound p n alive
step_keeps s ready backed sound (Restart p) plan (plans.restarts {live = live} is down none undecided from_store) =
    restarts s ready sound p live _ (has_fallen s ready p is down) none from_store
step_keeps s ready backed sound (Restart p) plan (plans.restarts_anew {n = n} {live = live} {b = b} is alive rolling began verdict from_store) =
    restarts_anew s ready sound p n live b _ alive rolling began from_store

-- a state stays sound
pub step_sound : (s : State) → IsReady s → IsBacked s → IsSound s → (step : Step) (plan : Plan) → PlanOf s (store_reads s step) step plan
    → IsSound (applied s step plan)
step_sound s ready backed sound step plan of = applied-sound s step plan sound (step_keeps s ready backed sound step plan of)
