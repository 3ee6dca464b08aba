-- A node that is up hears a message, from a link or from the front of what is kept: the machine hears it. Where the kept
-- answer is sent again, the machine then sends.
-- Cited by Hears.
use Rattle.std.proofs.Common.{◌≡◌, ℕ, suc, ◌+◌, List, [], ◌∷◌, ◌++◌, length, Some, None, inl, inr, refl, sym, ap, subst, ◌∙◌, arith}
use Rattle.kt_tuple.specs.declared.node.NodeId.{NodeId}
use Rattle.kt_tuple.specs.Node.{node_index}
use Rattle.kt_history.specs.declared.note.Act.{Act as Done}
use Rattle.kt_history.specs.declared.note.Note.TheVariants as notes
use Rattle.kt_history.specs.Log.{log}
use Rattle.kt_shard.specs.Table.{put}
use Rattle.kt_store.specs.Content.{row_of, verdict_on}
use Rattle.kt_state.specs.declared.message.AppMessage.{AppMessage as RealAppMessage}
use Rattle.kt_state.specs.declared.message.Message.TheVariants as messages
use Rattle.kt_state.specs.declared.live.Phase.TheVariants as phases
use Rattle.kt_state.specs.declared.change.BodyChange.{BodyChange}
use Rattle.kt_state.specs.declared.change.BodyChange.TheVariants as bodies
use Rattle.kt_state.specs.declared.change.KeptChange.{KeptChange}
use Rattle.kt_state.specs.declared.change.Change.TheVariants as changes
use Rattle.kt_state.specs.declared.plan.Plan.{Plan}
use Rattle.kt_state.specs.Labels.{no_label, label_at}
use Rattle.kt_state.specs.Node.{Live, Alive, node_number, next_label}
use Rattle.kt_state.specs.Updating.{changed_kept, updated}
use Rattle.kt_scenario.specs.declared.step.Step.{Step}
use Rattle.kt_scenario.specs.Step.{owner}
use Rattle.kt_model.specs.State.{State as World, node}
use Rattle.kt_model.specs.Effect.{applied}
use Rattle.kt_model.specs.auxiliary.Ready.{AreNeighbours}
use Rattle.kt_model.proofs.Shared.{IsAlive, MayNote, Holds}
use Rattle.kt_protocol.specs.Labels.{Label, at}
use Rattle.kt_protocol.specs.Logs.{IsIn, here, there, Act, Sends, Hears, top_sent}
use Rattle.kt_protocol.specs.Machine.{App, Node, State, Message, AppMessage, next_label as next_of}
use Rattle.kt_protocol.specs.Steps.{sends, sending, only, change, push}
use Rattle.kt_protocol.specs.Runs.{Run, one_more}
use Rattle.kt_protocol.proofs.Shared.{at-here}
use Rattle.kt_refinement.proofs.Numbers.{peers, label_of}
use Rattle.kt_refinement.proofs.Reading.{IsSaying, IsKnown, was_heard}
use Rattle.kt_refinement.proofs.Letters.{Quiet}
use Rattle.kt_refinement.proofs.Represents.{carried, kept_from, LabelsAre, NodeIn, NodeIs, Represents}
use Rattle.kt_refinement.proofs.Links.{to}
use Rattle.kt_refinement.proofs.Denies.{twice}
use Rattle.kt_refinement.proofs.Frames.{LinksLead, Refines, owner-in, nodes-at, votes-at, leads-represents}
use Rattle.kt_refinement.proofs.Known.{alive-is, up-is, near-is}
use Rattle.kt_refinement.proofs.Acting.{sent-more, sent-unheard, heard-more, heard-unsent}
use Rattle.kt_refinement.proofs.Acted.{act_update, acted, acted-is}
use Rattle.kt_refinement.proofs.Sending.{next-same, sent-alone, says-here, said-next}

-- ---- the message is heard

-- what stands on the stack of who heard it
abbrev pub hearing_of : NodeId → RealAppMessage → Act
hearing_of from app = Hears app.by (node_index from) (label_of app.label)

-- the machine has heard it: the node keeps this, and these are the links
abbrev pub heard_state : State → ℕ → NodeId → RealAppMessage → (ℕ → List AppMessage) → (ℕ → ℕ → List Message) → State
heard_state c o from app kept links =
    record c { node = at o (acted (hearing_of from app ∷ []) (c.node o).count kept (c.node o)) c.node; link = links }

-- how the machine hears it, and what that leaves on the links, be something sent then or nothing
pub record HearsAs (s : World) (step : Step) (c : State) (n : Live) (turn : KeptChange) (from : NodeId) (app : RealAppMessage) : Type 0 where
  pub near : AreNeighbours s.scene (owner step) from
  pub kept : ℕ → List AppMessage
  pub links : ℕ → ℕ → List Message
  pub run : Run (peers s.scene) c (heard_state c (node_index (owner step)) from app kept links)
  pub still : Quiet run
  pub keeps : (q : NodeId) → kept (node_index q) ≡ kept_from q (changed_kept n.kept turn)
  pub quiet : (plan : Plan) → ((r : NodeId) → AreNeighbours s.scene (owner step) r → carried (to r plan.send) ≡ []) → LinksLead s step plan c links
  pub telling : (plan : Plan) (send : ℕ → List Message)
      → ((r : NodeId) → AreNeighbours s.scene (owner step) r → send (node_index r) ≡ carried (to r plan.send))
      → LinksLead s step plan c (push (node_index (owner step)) send record c { link = links }).link

-- the plan of an act that hears a message
abbrev pub hearing_plan : KeptChange → NodeId → RealAppMessage → BodyChange → Done → Plan
hearing_plan turn from app body a =
    record { change = changes.Update (act_update body turn (Some (from, app.label)) None); send = []; note = Some (notes.Act a); write = None }

-- and of one that answers it at once
abbrev pub answering_plan : KeptChange → NodeId → RealAppMessage → RealAppMessage → Done → Plan
answering_plan turn from app reply a = record {
  change = changes.Update (act_update bodies.Stay turn (Some (from, app.label)) (Some from));
  send = (from, messages.App reply) ∷ [];
  note = Some (notes.Act a);
  write = None;
}

none-sent : (n x : ℕ) (m : Label) (by b y : ℕ) (l : Label) → IsIn (Sends b y l) (Hears by x m ∷ []) → b ≡ n
none-sent n x m by b y l (there i) = elim i [ ]

one-sent : (n by y x : ℕ) (l m : Label) (cause b z : ℕ) (k : Label) → IsIn (Sends b z k) (Sends by y l ∷ Hears cause x m ∷ []) → by ≡ n → b ≡ n
one-sent n by y x l m cause b z k here e = e
one-sent n by y x l m cause b z k (there i) e = none-sent n x m cause b z k i

heard-here : (by x : ℕ) (l : Label) (cause b z : ℕ) (m : Label) → cause ≡ by → IsIn (Hears b z m) (Hears by x l ∷ []) → cause ≡ b
heard-here by x l cause b z m e here = e
heard-here by x l cause b z m e (there i) = elim i [ ]

heard-behind : (n y : ℕ) (k : Label) (by x : ℕ) (l : Label) (cause b z : ℕ) (m : Label) → cause ≡ by
    → IsIn (Hears b z m) (Sends n y k ∷ Hears by x l ∷ []) → cause ≡ b
heard-behind n y k by x l cause b z m e (there i) = heard-here by x l cause b z m e i

-- ---- nothing is said

pub hears_only : (s : World) (c : State) → Represents s c → Holds s → (step : Step) (n : Live) (turn : KeptChange) (from : NodeId) (app : RealAppMessage)
    (body : BodyChange) (a : Done) → IsAlive s (owner step) n → n.phase ≡ phases.Up → HearsAs s step c n turn from app
    → a.node ≡ owner step → (IsSaying a.what → ⊥) → a.by ≡ app.by → MayNote s.scene s.history (owner step) (Some (notes.Act a))
    → Refines s step (hearing_plan turn from app body a) c
unfolding carried to
hears_only s c is h step n turn from app body a alive up heard_so own silent by may = record {
  next = heard_state c o from app heard_so.kept heard_so.links;
  run = heard_so.run;
  fresh = inl heard_so.still;
  stands = leads-represents s step plan c _ is (record {
    nodes = nodes-at s step plan c new is may (λ r d. refl) (owner-in s step plan (Some (Alive n)) new alive becomes);
    board = is.board;
    links = heard_so.quiet plan (λ r near. refl);
    votes = votes-at c o new (λ v i. i);
    cast = tt;
  });
} where
  o : ℕ
  o = node_index (owner step)

  plan : Plan
  plan = hearing_plan turn from app body a

  new : Node
  new = acted (hearing_of from app ∷ []) (c.node o).count heard_so.kept (c.node o)

  was : NodeIn s.scene s.history s.content (owner step) (Some (Alive n)) (c.node (node_index (owner step)))
  was = alive-is s c is (owner step) n alive

  Cause : ℕ → Type 0
  Cause k = IsKnown k (hearing_of from app ∷ (c.node o).log)

  becomes : NodeIs s.scene (s.history ++ notes.Act a ∷ []) (owner step) (log (s.history ++ notes.Act a ∷ []) (owner step))
      (Some (Alive (updated (act_update body turn (Some (from, app.label)) None) n))) (row_of s.content (owner step))
      (verdict_on s.content (row_of s.content (owner step)).tentative) new
  becomes = acted-is s c is h (owner step) n body turn (Some (from, app.label)) None a (hearing_of from app ∷ []) (c.node o).count heard_so.kept
      alive up (record {
        own = own;
        sends = none-sent (length s.history + 1) (node_index from) (label_of app.label) app.by;
        says = λ t. absurd (silent t);
        hears = λ b x l i. heard-here app.by (node_index from) (label_of app.label) a.by b x l by i;
        cause = λ some. subst Cause (sym by) (was_heard (record { from = node_index from; label = label_of app.label; among = here }));
        talks = (tt, tt);
        counted = was.state.count;
        sent = sent-unheard s.scene (owner step) (label_at n.sent) app.by (node_index from) (label_of app.label) (c.node o).log was.state.sent;
        received = heard-more s.scene (owner step) from n.received app.label app.by (c.node o).log heard_so.near was.state.received;
        keeps = heard_so.keeps;
      })

-- ---- the answer that is kept is sent again

pub hears_again : (s : World) (c : State) → Represents s c → Holds s → (step : Step) (n : Live) (turn : KeptChange) (from : NodeId)
    (app reply : RealAppMessage) (a : Done) → IsAlive s (owner step) n → n.phase ≡ phases.Up → HearsAs s step c n turn from app
    → a.node ≡ owner step → IsSaying a.what → a.by ≡ app.by → reply.by ≡ length s.history + 1 → reply.label ≡ next_label n
    → MayNote s.scene s.history (owner step) (Some (notes.Act a)) → Refines s step (answering_plan turn from app reply a) c
hears_again s c is h step n turn from app reply a alive up heard_so own saying by by_is label_is may = record {
  next = next;
  run = one_more heard_so.run (sends o (node_index from) reply.by (near-is s (owner step) from heard_so.near)
      (ap (λ (x : Node). x.mode) (at-here o heard c.node) ∙ up-is s c is (owner step) n alive up));
  fresh = inr (heard_so.still, said-next s.history a (owner step) reply.by own saying by_is);
  stands = leads-represents s step plan c next is (record {
    nodes = λ r.
        let X : Node → Type 0 = λ x. NodeIn s.scene (s.history ++ notes.Act a ∷ []) s.content r (node (applied s step plan) r) x in
        subst X (sym (twice o (sending reply.by (node_index from)) heard c.node (node_index r)))
        (nodes-at s step plan c new is may (λ q d. refl) (owner-in s step plan (Some (Alive n)) new alive becomes) r);
    board = is.board;
    links = heard_so.telling plan (only (node_index from) message) (λ r far. sent-alone (owner step) from r reply message same);
    votes = λ m v i.
        let X : Node → Type 0 = λ x. IsIn v x.votes in
        subst X (sym (twice o (sending reply.by (node_index from)) heard c.node m)) (votes-at c o new (λ w l. l) m v i);
    cast = (tt, tt);
  });
} where
  o : ℕ
  o = node_index (owner step)

  plan : Plan
  plan = answering_plan turn from app reply a

  heard : Node
  heard = acted (hearing_of from app ∷ []) (c.node o).count heard_so.kept (c.node o)

  middle : State
  middle = heard_state c o from app heard_so.kept heard_so.links

  message : Message
  message = App record { by = reply.by; label = next_of (middle.node o) }

  new : Node
  new = sending reply.by (node_index from) heard

  next : State
  next = change o (sending reply.by (node_index from)) (push o (only (node_index from) message) middle)

  was : NodeIn s.scene s.history s.content (owner step) (Some (Alive n)) (c.node (node_index (owner step)))
  was = alive-is s c is (owner step) n alive

  label : label_of (next_label n) ≡ next_of (c.node o)
  label = next-same n (c.node o) was.state.life was.state.count

  same : message ≡ App record { by = reply.by; label = label_of reply.label }
  same = ap (λ l. App record { by = reply.by; label = l }) (ap next_of (at-here o heard c.node) ∙ sym label ∙ ap label_of (sym label_is))

  told : Act
  told = Sends reply.by (node_index from) (next_of (c.node o))

  Cause : ℕ → Type 0
  Cause k = IsKnown k (told ∷ hearing_of from app ∷ (c.node o).log)

  Sent : Label → Type 0
  Sent l = LabelsAre s.scene (owner step) (label_at (put no_label n.sent (node_number from) (next_label n))) top_sent
      (Sends reply.by (node_index from) l ∷ hearing_of from app ∷ (c.node o).log)

  becomes : NodeIs s.scene (s.history ++ notes.Act a ∷ []) (owner step) (log (s.history ++ notes.Act a ∷ []) (owner step))
      (Some (Alive (updated (act_update bodies.Stay turn (Some (from, app.label)) (Some from)) n))) (row_of s.content (owner step))
      (verdict_on s.content (row_of s.content (owner step)).tentative) new
  becomes = acted-is s c is h (owner step) n bodies.Stay turn (Some (from, app.label)) (Some from) a (told ∷ hearing_of from app ∷ [])
      (suc (c.node o).count) heard_so.kept alive up (record {
        own = own;
        sends = λ b z l i.
            one-sent (length s.history + 1) reply.by (node_index from) (node_index from) (next_of (c.node o)) (label_of app.label) app.by b z l i by_is;
        says = λ t. says-here reply.by (length s.history + 1) (node_index from) (next_of (c.node o)) (hearing_of from app ∷ []) by_is;
        hears = λ b x l i.
            heard-behind reply.by (node_index from) (next_of (c.node o)) app.by (node_index from) (label_of app.label) a.by b x l by i;
        cause = λ some. subst Cause (sym by) (was_heard (record { from = node_index from; label = label_of app.label; among = there here }));
        talks = (tt, (tt, tt));
        counted = let e = was.state.count in omega (arith, e);
        sent = subst Sent label (sent-more s.scene (owner step) from n.sent (next_label n) reply.by (hearing_of from app ∷ (c.node o).log) heard_so.near
            (sent-unheard s.scene (owner step) (label_at n.sent) app.by (node_index from) (label_of app.label) (c.node o).log was.state.sent));
        received = heard-unsent s.scene (owner step) (label_at (put no_label n.received (node_number from) app.label)) reply.by (node_index from)
            (next_of (c.node o)) (hearing_of from app ∷ (c.node o).log)
            (heard-more s.scene (owner step) from n.received app.label app.by (c.node o).log heard_so.near was.state.received);
        keeps = heard_so.keeps;
      })
