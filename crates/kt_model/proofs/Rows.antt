-- The worked rows, computed by the definitions.
-- Cited by ResumedRows.
use Rattle.std.proofs.Common.{refl}
use Rattle.std.specs.Prelude.{◌≡◌, ℕ, List, [], ◌∷◌, ◌++◌, pos, None}
use Rattle.kt_tuple.specs.declared.node.NodeId.{NodeId}
use Rattle.kt_tuple.specs.declared.node.NodeId.TheVariants as ids
use Rattle.kt_state.specs.declared.node.Mode.{Mode}
use Rattle.kt_state.specs.declared.node.Mode.TheVariants as modes
use Rattle.kt_model.specs.declared.error.StepError.TheVariants as refusals
use Rattle.kt_tuple.specs.declared.value.Value.TheVariants as values
use Rattle.kt_tuple.specs.declared.value.Kind.TheVariants as kinds
use Rattle.kt_script.specs.declared.command.Command.{Command}
use Rattle.kt_script.specs.declared.command.Command.TheVariants as commands
use Rattle.kt_script.specs.declared.command.Operation.TheVariants as operations
use Rattle.kt_script.specs.declared.command.Actual.{Actual}
use Rattle.kt_script.specs.declared.command.Actual.TheVariants as actuals
use Rattle.kt_script.specs.declared.command.Slot.{Slot}
use Rattle.kt_script.specs.declared.command.Slot.TheVariants as slots
use Rattle.kt_scenario.specs.declared.step.Step.{Step}
use Rattle.kt_scenario.specs.declared.step.Step.TheVariants.{Issue, Repeat, Deliver, Take, Serve, Check, Decide, Abandon, Learn, Fail, Restart}
use Rattle.kt_model.specs.Effect.{sent}
use Rattle.kt_model.specs.Reached.{opening, opening_rows}
use Rattle.kt_model.proofs.Small.{Seen, Report, Says, Stops, run, report, put_one}
use Rattle.kt_state.specs.Labels.{numbers}
use Rattle.kt_shard.specs.Table.{put}
use Rattle.kt_history.specs.Log.{log, log_from}
use Rattle.kt_space.specs.Picking.{without_match}

abbrev pub w : NodeId
w = ids.Worker 1

abbrev v : NodeId
v = ids.Worker 2

abbrev pub s : NodeId
s = ids.Shard 1

abbrev pub both : List NodeId
both = w ∷ s ∷ []

abbrev row : List Step → Report
row steps = report both (run 0 (opening record { shards = 1; scripts = put_one ∷ [] }) steps)

abbrev pub a : List Step
a = Issue w ∷ Deliver w s ∷ Serve s w 0 ∷ Deliver s w ∷ []

abbrev pub is : Mode → List ℕ → ℕ → ℕ → ℕ → Seen
is mode log incarnation permanent tuples =
    record { mode = mode; log = log; incarnation = incarnation; permanent = permanent; tuples = tuples }

abbrev served : Report
served = Says (is modes.Up (1 ∷ 4 ∷ []) 1 0 0 ∷ is modes.Up (2 ∷ 3 ∷ []) 1 0 1 ∷ [])

pub put_and_take : row a ≡ served
unfolding run sent opening_rows numbers put log log_from
put_and_take = refl

pub shard_fails : row (a ++ Fail s ∷ []) ≡ Says (is modes.Up (1 ∷ 4 ∷ []) 1 0 0 ∷ is modes.Down [] 1 0 0 ∷ [])
unfolding run sent opening_rows numbers put log log_from
shard_fails = refl

-- s1 restarts, w1 joins, both vote, w1 is cut and passes the verdict on, and asks again in its next incarnation
pub shard_fails_and_restarts : row (a ++ Fail s ∷ Restart s ∷ Deliver s w ∷ Deliver w s ∷ Deliver s w ∷ Deliver w s
    ∷ Decide s ∷ Deliver s w ∷ Issue w ∷ Deliver w s ∷ Deliver w s ∷ Serve s w 0 ∷ [])
    ≡ Says (is modes.Up (7 ∷ []) 2 0 0 ∷ is modes.Up (8 ∷ 9 ∷ []) 2 0 1 ∷ [])
unfolding run sent opening_rows numbers put log log_from
shard_fails_and_restarts = refl

abbrev pub votes_of_two : List Step
votes_of_two = a ++ Check w ∷ Deliver w s ∷ Deliver s w ∷ Deliver w s ∷ Deliver s w ∷ Decide w ∷ []

pub checkpoint_of_two : row (votes_of_two ++ Learn w ∷ Deliver w s ∷ Deliver s w ∷ Fail s ∷ [])
    ≡ Says (is modes.Up (1 ∷ 4 ∷ []) 1 2 0 ∷ is modes.Down (2 ∷ 3 ∷ []) 1 2 0 ∷ [])
unfolding run sent opening_rows numbers put log log_from
checkpoint_of_two = refl

pub checkpoint_of_two_but_the_last : row (votes_of_two ++ Learn w ∷ Deliver w s ∷ Deliver s w ∷ [])
    ≡ Says (is modes.Up (1 ∷ 4 ∷ []) 1 2 0 ∷ is modes.Up (2 ∷ 3 ∷ []) 1 2 1 ∷ [])
unfolding run sent opening_rows numbers put log log_from
checkpoint_of_two_but_the_last = refl

pub abandoned_check : row (a ++ Check w ∷ Fail s ∷ Deliver w s ∷ Abandon w ∷ Learn w ∷ [])
    ≡ Says (is modes.Up (1 ∷ 4 ∷ []) 1 0 0 ∷ is modes.Down [] 1 0 0 ∷ [])
unfolding run sent opening_rows numbers put log log_from
abandoned_check = refl

pub fails_after_yes : row (votes_of_two ++ Fail s ∷ [])
    ≡ Says (is modes.Held (1 ∷ 4 ∷ []) 1 0 0 ∷ is modes.Down (2 ∷ 3 ∷ []) 1 0 0 ∷ [])
unfolding run sent opening_rows numbers put log log_from
fails_after_yes = refl

pub fails_after_yes_and_restarts : row (votes_of_two ++ Fail s ∷ Restart s ∷ []) ≡ Stops 12 refusals.Unresolved
unfolding run sent opening_rows numbers put log log_from
fails_after_yes_and_restarts = refl

pub fails_after_yes_and_goes_on : row (votes_of_two ++ Fail s ∷ Learn s ∷ Restart s ∷ [])
    ≡ Says (is modes.Held (1 ∷ 4 ∷ []) 1 0 0 ∷ is modes.Rolling (2 ∷ 3 ∷ []) 2 2 1 ∷ [])
unfolding run sent opening_rows numbers put log log_from
fails_after_yes_and_goes_on = refl

pub request_in_checkpoint : row (Issue w ∷ Check w ∷ Decide w ∷ Learn w ∷ Deliver w s ∷ Serve s w 0 ∷ Deliver s w ∷ Fail w
    ∷ Restart w ∷ Deliver w s ∷ Deliver s w ∷ Decide w ∷ Repeat w ∷ Deliver w s ∷ Deliver w s ∷ Deliver s w ∷ [])
    ≡ Says (is modes.Up (1 ∷ 6 ∷ 8 ∷ []) 2 1 0 ∷ is modes.Up (2 ∷ 3 ∷ 7 ∷ []) 1 0 1 ∷ [])
unfolding run sent opening_rows numbers put log log_from
request_in_checkpoint = refl

abbrev kept_reply : List Step
kept_reply = Issue w ∷ Deliver w s ∷ Serve s w 0 ∷ Check w ∷ Deliver s w ∷ Fail s ∷ Restart s ∷ Deliver s w ∷ Abandon w ∷ Learn w ∷ []

pub kept_reply_dropped : row kept_reply ≡ Says (is modes.Up (1 ∷ []) 1 0 0 ∷ is modes.Rolling [] 2 0 0 ∷ [])
unfolding run sent opening_rows numbers put log log_from
kept_reply_dropped = refl

pub kept_reply_dropped_and_taken : row (kept_reply ++ Take w ∷ []) ≡ Stops 11 refusals.NothingThere
unfolding run sent opening_rows numbers put log log_from
kept_reply_dropped_and_taken = refl

abbrev both_down : List Step
both_down = Issue w ∷ Fail w ∷ Fail s ∷ Restart w ∷ Restart s ∷ Deliver w s ∷ Deliver w s ∷ Deliver s w ∷ Deliver s w
    ∷ Decide w ∷ Deliver w s ∷ Decide s ∷ []

pub both_fail : row both_down ≡ Says (is modes.Up [] 2 0 0 ∷ is modes.Up [] 2 0 0 ∷ [])
unfolding run sent opening_rows numbers put log log_from
both_fail = refl

pub both_fail_and_go_on : row (both_down ++ Issue w ∷ Deliver w s ∷ Deliver w s ∷ Serve s w 0 ∷ [])
    ≡ Says (is modes.Up (4 ∷ []) 2 0 0 ∷ is modes.Up (5 ∷ 6 ∷ []) 2 0 1 ∷ [])
unfolding run sent opening_rows numbers put log log_from
both_fail_and_go_on = refl

pub refused_vote : row (a ++ Check w ∷ Abandon w ∷ Learn w ∷ Deliver w s ∷ Deliver s w ∷ []) ≡ served
unfolding run sent opening_rows numbers put log log_from
refused_vote = refl

pub reply_kept_and_taken : row (Issue w ∷ Deliver w s ∷ Serve s w 0 ∷ Check w ∷ Deliver s w ∷ Decide w ∷ Learn w ∷ Take w ∷ [])
    ≡ Says (is modes.Up (1 ∷ 4 ∷ []) 1 1 0 ∷ is modes.Up (2 ∷ 3 ∷ []) 1 0 1 ∷ [])
unfolding run sent opening_rows numbers put log log_from
reply_kept_and_taken = refl

pub votes_missing : row (a ++ Check w ∷ Decide w ∷ []) ≡ Stops 6 refusals.NotDecided
unfolding run sent opening_rows numbers put log log_from
votes_missing = refl

-- two checks at once, of two workers and one shard
abbrev overlapping : List Step
overlapping = a ++ Issue v ∷ Deliver v s ∷ Serve s v 0 ∷ Deliver s v ∷ Check w ∷ Check v ∷ Deliver w s ∷ Deliver v s
    ∷ Deliver s w ∷ Deliver s v ∷ Deliver s v ∷ Decide v ∷ Deliver w s ∷ Deliver v s ∷ Deliver s w ∷ Decide w
    ∷ Learn w ∷ Learn v ∷ Learn s ∷ []

pub overlapping_instances : report (w ∷ v ∷ s ∷ []) (run 0 (opening record { shards = 1; scripts = put_one ∷ put_one ∷ [] }) overlapping)
    ≡ Says (is modes.Up (1 ∷ 4 ∷ []) 1 0 0 ∷ is modes.Up (5 ∷ 8 ∷ []) 1 0 0 ∷ is modes.Up (2 ∷ 3 ∷ 6 ∷ 7 ∷ []) 1 0 2 ∷ [])
unfolding run sent opening_rows numbers put log log_from
overlapping_instances = refl

-- three workers and three shards: what w1 put is withdrawn by w2, which puts something elsewhere; then w1 fails
abbrev w1 : NodeId
w1 = ids.Worker 1

abbrev w2 : NodeId
w2 = ids.Worker 2

abbrev w3 : NodeId
w3 = ids.Worker 3

abbrev s1 : NodeId
s1 = ids.Shard 1

abbrev s2 : NodeId
s2 = ids.Shard 2

abbrev s3 : NodeId
s3 = ids.Shard 3

abbrev int : ℕ → Actual
int n = actuals.Literal (values.Int (pos n))

abbrev any_int : Slot
any_int = slots.Formal kinds.Int None

abbrev scripts : List (List Command)
scripts = (commands.Ask (operations.Out (int 1 ∷ int 2 ∷ [])) ∷ [])
    ∷ (commands.Ask (operations.In (any_int ∷ any_int ∷ [])) ∷ commands.Ask (operations.Out (int 5 ∷ [])) ∷ [])
    ∷ (commands.Ask (operations.Out (actuals.Literal (values.Str (122 ∷ [])) ∷ [])) ∷ [])
    ∷ []

abbrev work : List Step
work = Issue w1 ∷ Deliver w1 s1 ∷ Serve s1 w1 0 ∷ Issue w2 ∷ Deliver w2 s1 ∷ Serve s1 w2 0 ∷ Deliver s1 w2 ∷ Issue w2
    ∷ Deliver w2 s2 ∷ Serve s2 w2 0 ∷ Issue w3 ∷ Deliver w3 s3 ∷ Serve s3 w3 0 ∷ Fail w1 ∷ []

abbrev rolled : List Step
rolled = work ++ Restart w1
    ∷ Deliver w1 s1 ∷ Deliver w1 s2 ∷ Deliver w1 s3 ∷ Deliver s1 w1 ∷ Deliver s1 w1 ∷ Deliver s1 w2 ∷ Deliver s1 w3
    ∷ Deliver w2 s1 ∷ Deliver w2 s2 ∷ Deliver w2 s3 ∷ Deliver s2 w1 ∷ Deliver s2 w1 ∷ Deliver s2 w2 ∷ Deliver s2 w2
    ∷ Deliver s2 w3
    ∷ Deliver w1 s2 ∷ Deliver w2 s2 ∷ Deliver w3 s2 ∷ Deliver s2 w2 ∷ Deliver s1 w2 ∷ Deliver s3 w2 ∷ Deliver w1 s1
    ∷ Deliver w3 s1 ∷ Deliver w2 s1 ∷ Deliver s1 w1 ∷ Deliver s3 w1
    ∷ Decide w1 ∷ Learn s1 ∷ Learn w2 ∷ Learn s2 ∷ []

abbrev six : List NodeId
six = w1 ∷ w2 ∷ w3 ∷ s1 ∷ s2 ∷ s3 ∷ []

-- w1 remembers nothing, and nobody else forgot anything yet
pub cascade_begins : report six (run 0 (opening record { shards = 3; scripts = scripts }) work)
    ≡ Says (is modes.Down [] 1 0 0 ∷ is modes.Up (4 ∷ 7 ∷ 8 ∷ []) 1 0 0 ∷ is modes.Up (11 ∷ []) 1 0 0
    ∷ is modes.Up (2 ∷ 3 ∷ 5 ∷ 6 ∷ []) 1 0 0 ∷ is modes.Up (9 ∷ 10 ∷ []) 1 0 1 ∷ is modes.Up (12 ∷ 13 ∷ []) 1 0 1 ∷ [])
unfolding run sent opening_rows numbers put log log_from without_match
cascade_begins = refl

-- w1, s1, w2, s2 are cut, and w3 and s3 are not
pub cascade : report six (run 0 (opening record { shards = 3; scripts = scripts }) rolled)
    ≡ Says (is modes.Up [] 2 0 0 ∷ is modes.Up [] 2 0 0 ∷ is modes.Up (11 ∷ []) 1 0 0
    ∷ is modes.Up [] 2 0 0 ∷ is modes.Up [] 2 0 0 ∷ is modes.Up (12 ∷ 13 ∷ []) 1 0 1 ∷ [])
unfolding run sent opening_rows numbers put log log_from
cascade = refl
