-- Each state of a world that steps lead to stands for a state of the machine that is reached, so the machine's theorem
-- holds of what it stands for.
-- Cited by Lasting, LearnsFound, Leaving, Resumed, Resuming, Whole.
use Rattle.std.proofs.Common.{[], ap, subst, arith}
use Rattle.kt_history.specs.declared.note.Note.TheVariants as notes
use Rattle.kt_history.proofs.Shared.{note_at-within}
use Rattle.kt_scenario.specs.declared.step.Step.{Step}
use Rattle.kt_scenario.specs.Scene.{SceneModel, IsScene}
use Rattle.kt_model.specs.State.{State as World}
use Rattle.kt_model.specs.Reached.{opening}
use Rattle.kt_model.proofs.Shared.{neighbours-turned, Holds, IsMade}
use Rattle.kt_protocol.specs.Labels.{no_label}
use Rattle.kt_protocol.specs.Machine.{State}
use Rattle.kt_protocol.specs.Runs.{AreNeighbours, nothing_done}
use Rattle.kt_protocol.specs.Laws.{IsReached as IsMachineReached}
use Rattle.kt_protocol.proofs.Shared.{Invariant, holds_where_reached, reached-run}
use Rattle.kt_refinement.proofs.Numbers.{named, peers}
use Rattle.kt_refinement.proofs.Represents.{Represents}
use Rattle.kt_refinement.proofs.Opened.{beginning, beginning-begins, opening-represents}
use Rattle.kt_refinement.proofs.Letters.{a_letter, Lettered, letters-through}
use Rattle.kt_refinement.proofs.Frames.{neighbours-apart}
use Rattle.kt_refinement.proofs.Refining.{step-refines}

-- neighbours of a scene are the machine's
pub peers-are : (scene : SceneModel) → AreNeighbours (peers scene)
peers-are scene = record {
  two = λ m n near e. neighbours-apart scene (named m) (named n) near (ap named e);
  both = λ m n near. neighbours-turned scene (named m) (named n) near;
}

-- what a state stands for
pub record StandsFor (s : World) : Type 0 where
  pub state : State
  pub reached : IsMachineReached (peers s.scene) state
  pub stands : Represents s state
  pub letters : Lettered s.history state

pub stands-invariant : (s : World) (f : StandsFor s) → Invariant (peers s.scene) f.state
stands-invariant s f = holds_where_reached f.state f.reached

pub opening-stands : (scene : SceneModel) → IsScene scene → StandsFor (opening scene)
opening-stands scene is = record {
  state = beginning;
  reached = record { near = peers-are scene; start = beginning; begins = beginning-begins (peers scene); run = nothing_done };
  stands = opening-represents scene is;
  letters = record {
    first = 0;
    told = omega arith;
    grounds = λ x. record { log = λ y g sent heard i. elim i [ ]; perm = λ y g sent heard i. elim i [ ] };
    has = λ n a le is. absurd (let within = note_at-within [] n (notes.Act a) is in omega (arith, within, le));
    letter = λ n. a_letter 0 0 no_label;
    fit = record {
      nodes = λ o. record { sent = λ by y l i. elim i [ ]; heard = λ by x l i. elim i [ ]; keeps = λ x m i. elim i [ ] };
      links = λ p q m i. elim i [ ];
    };
  };
}

pub made-stands : (s : World) (step : Step) (new : World) → Holds s → StandsFor s → IsMade s step new → StandsFor new
made-stands s step new h f m =
    let inv = stands-invariant s f in
    let next = step-refines s f.state inv f.stands h step m.plan m.is_plan in
    subst StandsFor m.leads (record {
      state = next.next;
      reached = reached-run f.reached next.run;
      stands = next.stands;
      letters = letters-through (peers-are s.scene) inv s.history m.plan.note f.letters next.run next.fresh;
    })
