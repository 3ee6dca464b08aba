-- What the code lends and prepares, as plain data.
-- Cited by service.rt, shard.rt, `Shard::serve`.
use Rattle.std.specs.Prelude.{◌≡◌, Result, Ok, Err}
use Rattle.kt_tuple.specs.declared.op.Answer.{Answer}
use Rattle.kt_tuple.specs.declared.op.Answer.TheVariants as answers
use Rattle.kt_shard.specs.declared.service.Reply.{Reply as ReplyCode}
use Rattle.kt_shard.specs.declared.service.Reply.TheVariants as replies
use Rattle.kt_shard.specs.declared.service.Choice.{Choice as ChoiceCode}
use Rattle.kt_shard.specs.declared.error.ServeError.{ServeError}
use Rattle.kt_shard.specs.Service.{Service}

abbrev pub reply_view : ReplyCode → Answer
reply_view replies.Done = answers.Done
reply_view (replies.Got u) = answers.Got u.now
reply_view replies.None = answers.None

abbrev pub choice_view : ChoiceCode → Service
choice_view c = record { request = c.request.now; place = c.place; answer = reply_view c.reply }

-- what was chosen is what is due
abbrev pub Chooses : Result ChoiceCode ServeError → Result Service ServeError → Type 0
Chooses (Ok choice) due = due ≡ Ok (choice_view choice)
Chooses (Err refusal) due = due ≡ Err refusal
