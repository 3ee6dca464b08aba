-- What a step does to the state of a world. A step is a refusal, or one plan of its owner that is put into effect.
-- Then the owner changes, what was heard is off its link, and what is sent is on its way. At most one note is made, and
-- at most one write of the store.
-- Cited by AllInstanceRows, AllPlaced, Applying, Backs, CanApplies, FirstCut, Fit, Fitting, Frames, Good, GoodAsks,
--   Growing, HeldActs, Holding, Kept, Lasting, Leaves, LogActs, LogsAfter, Newer, NoteSound, OnLinks, OwnRows, Placed
--   and 12 more; other crates.
use Rattle.std.specs.Prelude.{ℕ, ◌+◌, List, [], ◌∷◌, ◌++◌, drop, Option, None, Some, Result, Ok, Err}
use Rattle.std.specs.Option.{option_map}
use Rattle.kt_tuple.specs.declared.node.NodeId.{NodeId}
use Rattle.kt_tuple.specs.Node.{node_index}
use Rattle.kt_history.specs.declared.note.Note.{Note}
use Rattle.kt_link.specs.Network.{entry_at, with_entry}
use Rattle.kt_shard.specs.Table.{at, put}
use Rattle.kt_state.specs.declared.message.Message.{Message}
use Rattle.kt_state.specs.declared.plan.Plan.{Plan}
use Rattle.kt_state.specs.Updating.{changed}
use Rattle.kt_model.specs.Writing.{content_after}
use Rattle.kt_scenario.specs.declared.step.Step.{Step}
use Rattle.kt_scenario.specs.declared.step.Step.TheVariants.{Deliver}
use Rattle.kt_model.specs.declared.error.StepError.{StepError}
use Rattle.kt_scenario.specs.Step.{owner}
use Rattle.kt_model.specs.State.{State, node, link_place}
use Rattle.kt_model.specs.StepPlan.{step_plan}

-- where the link of an ordered pair of nodes stands, if they are neighbours
abbrev pub Way : Type 0
Way = NodeId → NodeId → Option ℕ

-- the links with one message more at the end of the one from p to its receiver
abbrev pub sent_one : Way → List (List Message) → NodeId → NodeId × Message → List (List Message)
sent_one way links p message =
    with_entry links (way p message.0) (entry_at [] links (way p message.0) ++ message.1 ∷ [])

-- and with all of these
unfoldable pub sent : Way → List (List Message) → NodeId → List (NodeId × Message) → List (List Message)
sent way links p [] = links
sent way links p (message ∷ later) = sent way (sent_one way links p message) p later

-- the links with the first message taken off the one that a delivery comes by
abbrev pub taken_off : Way → List (List Message) → Step → List (List Message)
taken_off way links (Deliver p q) = with_entry links (way p q) (drop 1 (entry_at [] links (way p q)))
taken_off way links step = links

-- the notes with at most one more
abbrev pub noted : List Note → Option Note → List Note
noted h None = h
noted h (Some note) = h ++ note ∷ []

-- the state with the step's plan carried out; all else stays
abbrev pub applied : State → Step → Plan → State
applied s step plan =
    let p = owner step in record {
      scene = s.scene;
      nodes = put None s.nodes (node_index p) (option_map (changed plan.change) (node s p));
      links = sent (link_place s.scene) (taken_off (link_place s.scene) s.links step) p plan.send;
      content = content_after p plan.write s.content;
      history = noted s.history plan.note;
      own = put 0 s.own (node_index p) (at 0 s.own (node_index p) + 1);
      made = s.made + 1;
      found = s.found;
    }

abbrev pub applied_if : State → Step → Result Plan StepError → Result State StepError
applied_if s step (Ok plan) = Ok (applied s step plan)
applied_if s step (Err refusal) = Err refusal

-- the state that a step leads to, or its refusal
abbrev pub step_result : State → Step → Result State StepError
step_result s step = applied_if s step (step_plan s step)
