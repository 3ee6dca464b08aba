-- Acts that were caused: what is served was asked for before, what is accepted was served before.
-- Cited by Causes, Follows.
use Rattle.std.proofs.Common.{◌≡◌, List, [], ◌∷◌, Contains}
use Rattle.kt_tuple.specs.declared.op.Answer.{Answer}
use Rattle.kt_history.specs.declared.note.Act.{Act}
use Rattle.kt_history.specs.declared.note.What.{What}
use Rattle.kt_history.specs.declared.note.What.TheVariants as whats
use Rattle.kt_history.specs.WellFormed.{IsAsking, SameRequest}

-- one of these acts asked for the request of a
pub record IsRequested (past : List Act) (a : Act) : Type 0 where
  pub request : Act
  pub earlier : Contains past request
  pub asking : IsAsking request.what
  pub same : SameRequest a request

-- one of these acts served the request of a so
pub record IsServed (past : List Act) (a : Act) (answer : Answer) : Type 0 where
  pub service : Act
  pub earlier : Contains past service
  pub served : service.what ≡ whats.Served answer
  pub same : SameRequest a service

-- what is served was asked for before, what is accepted was served before
abbrev pub IsCaused : List Act → Act → What → Type 0
IsCaused past a (whats.Served answer) = IsRequested past a
IsCaused past a (whats.Accepted answer) = IsServed past a answer
IsCaused past a _ = Unit {0}

-- so for each of these acts, those of past coming before them
abbrev pub CausedFrom : List Act → List Act → Type 0
CausedFrom past [] = Unit {0}
CausedFrom past (a ∷ later) = IsCaused past a a.what × CausedFrom (a ∷ past) later
