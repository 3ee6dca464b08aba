use Rattle.std.proofs.Common.{◌≡◌, ◌++◌, take}
use Rattle.std.specs.List.{flat_map}
use Rattle.kt_story.specs.Said.{vote_text}
use Rattle.kt_story.proofs.words.push_votes.Given as goal

abbrev pub invariant-loop-to : goal.invariant-loop-to
invariant-loop-to l = l.out.items ≡ l.initial.out.items ++ flat_map vote_text (take l.to-index l.sent)
