-- A node that is up sends a message of itself: the machine sends.
-- Cited by Hearing, Issuing, Serving.
use Rattle.std.proofs.Common.{◌≡◌, ◌≢◌, ℕ, suc, ◌+◌, ◌<◌, List, [], ◌∷◌}
use Rattle.std.proofs.Common.{◌++◌, length, Some, None, inl, inr, refl, sym, ap, subst, ◌∙◌, arith}
use Rattle.std.proofs.lemmas.Bool.{eq-eqb, ne_eqb}
use Rattle.kt_tuple.specs.declared.node.NodeId.{NodeId}
use Rattle.kt_tuple.specs.Node.{node_index, node_eq}
use Rattle.kt_history.specs.declared.note.Act.{Act as Done}
use Rattle.kt_history.specs.declared.note.Note.{Note}
use Rattle.kt_history.specs.declared.note.Note.TheVariants as notes
use Rattle.kt_history.specs.Log.{note_at, log}
use Rattle.kt_store.specs.Content.{row_of, verdict_on}
use Rattle.kt_state.specs.declared.message.AppMessage.{AppMessage as RealAppMessage}
use Rattle.kt_state.specs.declared.message.Message.TheVariants as messages
use Rattle.kt_state.specs.declared.live.Phase.TheVariants as phases
use Rattle.kt_state.specs.declared.change.BodyChange.{BodyChange}
use Rattle.kt_state.specs.declared.change.KeptChange.TheVariants as keeps
use Rattle.kt_state.specs.declared.change.Change.TheVariants as changes
use Rattle.kt_state.specs.declared.plan.Plan.{Plan}
use Rattle.kt_state.specs.Node.{Live, Alive, next_label, node_number}
use Rattle.kt_state.specs.Labels.{no_label, label_at}
use Rattle.kt_shard.specs.Table.{put}
use Rattle.kt_state.specs.Updating.{no_update}
use Rattle.kt_state.specs.Updating.{updated}
use Rattle.kt_scenario.specs.declared.step.Step.{Step}
use Rattle.kt_scenario.specs.declared.step.Step.TheVariants.{Deliver}
use Rattle.kt_scenario.specs.Step.{owner}
use Rattle.kt_model.specs.State.{State as World}
use Rattle.kt_model.specs.Effect.{noted}
use Rattle.kt_model.specs.auxiliary.Ready.{AreNeighbours}
use Rattle.kt_model.proofs.Shared.{IsAlive, note_at-next, MayNote, Holds}
use Rattle.kt_protocol.specs.Labels.{Label}
use Rattle.kt_protocol.specs.Logs.{IsIn, here, there, Act, Sends, Hears, top_sent}
use Rattle.kt_protocol.specs.Machine.{App, Node, State, Message, next_label as next_of}
use Rattle.kt_protocol.specs.Steps.{sends, sending, only, change, push}
use Rattle.kt_protocol.specs.Runs.{nothing_done, one_more}
use Rattle.kt_refinement.proofs.Numbers.{label_of}
use Rattle.kt_refinement.proofs.Reading.{IsSaying, Says, IsKnown}
use Rattle.kt_refinement.proofs.Letters.{IsSaid}
use Rattle.kt_refinement.proofs.Represents.{carried, LabelsAre, NodeIs, NodeIn, Represents}
use Rattle.kt_refinement.proofs.Links.{to}
use Rattle.kt_refinement.proofs.Frames.{cases-node, apart-index, Refines, owner-in, nodes-at, votes-at, sends-only, leads-represents}
use Rattle.kt_refinement.proofs.Known.{alive-is, up-is, near-is}
use Rattle.kt_refinement.proofs.Acting.{sent-more, heard-unsent, known-more}
use Rattle.kt_refinement.proofs.Acted.{act_update, acted-is}
use Rattle.kt_tuple.proofs.Shared.{node_eq-refl}
use Rattle.kt_refinement.proofs.Kept.{node-else}

-- the plan of an act that sends to q
abbrev pub saying_plan : BodyChange → NodeId → RealAppMessage → Done → Plan
saying_plan body q app a = record {
  change = changes.Update record no_update { body = body; said = Some q };
  send = (q, messages.App app) ∷ [];
  note = Some (notes.Act a);
  write = None;
}

-- labels agree
pub next-same : (n : Live) (x : Node) → n.incarnation ≡ x.life → n.count ≡ x.count → label_of (next_label n) ≡ next_of x
next-same n x life count =
    let more : n.count + 1 ≡ suc x.count = omega (arith, count) in
    ap (λ (i : ℕ). record { life = i; count = n.count + 1 }) life ∙ ap (λ (k : ℕ). record { life = x.life; count = k }) more

pub sent-alone : (o : NodeId) (q r : NodeId) (app : RealAppMessage) (m : Message) → m ≡ App record { by = app.by; label = label_of app.label }
    → only (node_index q) m (node_index r) ≡ carried (to r ((q, messages.App app) ∷ []))
unfolding carried to
sent-alone o q r app m same = elim (cases-node r q) [
  | inl e ↦ rw (eq-eqb (node_index r) (node_index q) (ap node_index e)) (rw (ap (node_eq q) e ∙ node_eq-refl q) (ap (λ x. x ∷ []) same))
  | inr d ↦ rw (ne_eqb (node_index r) (node_index q) (apart-index r q d)) (rw (node-else q r (λ e. d (sym e))) refl)
]

only-its-own : (n by y : ℕ) (l : Label) (b z : ℕ) (m : Label) → IsIn (Sends b z m) (Sends by y l ∷ []) → by ≡ n → b ≡ n
only-its-own n by y l b z m here e = e
only-its-own n by y l b z m (there x) e = elim x [ ]

none-heard : (by y : ℕ) (l : Label) (cause b x : ℕ) (m : Label) → IsIn (Hears b x m) (Sends by y l ∷ []) → cause ≡ b
none-heard by y l cause b x m (there i) = elim i [ ]

pub says-here : (by n y : ℕ) (l : Label) (acts : List Act) → by ≡ n → Says n (Sends by y l ∷ acts)
says-here by n y l acts e = subst (λ k. Says k (Sends by y l ∷ acts)) e (record { to = y; label = l; among = here })

-- the act that is noted next says the message that bears the next number
pub said-next : (h : List Note) (a : Done) (p : NodeId) (by : ℕ) → a.node ≡ p → IsSaying a.what → by ≡ length h + 1
    → (length h < by) × IsSaid (noted h (Some (notes.Act a))) by (node_index p)
said-next h a p by own saying is = (
  omega (arith, is),
  record { act = a; is_act = ap (note_at (h ++ notes.Act a ∷ [])) is ∙ note_at-next h (notes.Act a); own = ap node_index own; saying = saying },
)

pub says_so : (s : World) (c : State) → Represents s c → Holds s → (step : Step) (n : Live) (body : BodyChange) (q : NodeId) (app : RealAppMessage) (a : Done)
    → ((x y : NodeId) → step ≡ Deliver x y → ⊥) → IsAlive s (owner step) n → n.phase ≡ phases.Up → AreNeighbours s.scene (owner step) q
    → a.node ≡ owner step → IsSaying a.what → (a.by ≢ 0 → IsKnown a.by (c.node (node_index (owner step))).log)
    → app.by ≡ length s.history + 1 → app.label ≡ next_label n
    → MayNote s.scene s.history (owner step) (Some (notes.Act a)) → Refines s step (saying_plan body q app a) c
says_so s c is h step n body q app a no_delivery alive up near own saying cause by_is label_is may = record {
  next = next;
  run = one_more nothing_done (sends o (node_index q) app.by (near-is s p q near) (up-is s c is p n alive up));
  fresh = inr (tt, said-next s.history a p app.by own saying by_is);
  stands = leads-represents s step plan c next is (record {
    nodes = nodes-at s step plan c new is may (λ r d. refl) (owner-in s step plan (Some (Alive n)) new alive becomes);
    board = is.board;
    links = sends-only s step plan c (only (node_index q) message) no_delivery (λ r far. sent-alone p q r app message same);
    votes = votes-at c o new (λ v i. i);
    cast = (tt, tt);
  });
} where
  p : NodeId
  p = owner step

  o : ℕ
  o = node_index (owner step)

  plan : Plan
  plan = saying_plan body q app a

  message : Message
  message = App record { by = app.by; label = next_of (c.node o) }

  new : Node
  new = sending app.by (node_index q) (c.node o)

  next : State
  next = change o (sending app.by (node_index q)) (push o (only (node_index q) message) c)

  was : NodeIn s.scene s.history s.content (owner step) (Some (Alive n)) (c.node (node_index (owner step)))
  was = alive-is s c is p n alive

  label : label_of (next_label n) ≡ next_of (c.node o)
  label = next-same n (c.node o) was.state.life was.state.count

  same : message ≡ App record { by = app.by; label = label_of app.label }
  same = ap (λ l. App record { by = app.by; label = l }) (sym label ∙ ap label_of (sym label_is))

  heard : IsKnown a.by (c.node o).log → IsKnown a.by (Sends app.by (node_index q) (next_of (c.node o)) ∷ (c.node o).log)
  heard k = known-more (Sends app.by (node_index q) (next_of (c.node o)) ∷ []) (c.node o).log a.by k

  Sent : Label → Type 0
  Sent l = LabelsAre s.scene p (label_at (put no_label n.sent (node_number q) (next_label n))) top_sent (Sends app.by (node_index q) l ∷ (c.node o).log)

  becomes : NodeIs s.scene (s.history ++ notes.Act a ∷ []) p (log (s.history ++ notes.Act a ∷ []) p)
      (Some (Alive (updated (act_update body keeps.Stay None (Some q)) n))) (row_of s.content p) (verdict_on s.content (row_of s.content p).tentative) new
  becomes = acted-is s c is h p n body keeps.Stay None (Some q) a (Sends app.by (node_index q) (next_of (c.node o)) ∷ []) (suc (c.node o).count)
      (c.node o).kept alive up (record {
        own = own;
        sends = λ b z l i. only-its-own (length s.history + 1) app.by (node_index q) (next_of (c.node o)) b z l i by_is;
        says = λ t. says-here app.by (length s.history + 1) (node_index q) (next_of (c.node o)) [] by_is;
        hears = λ b x l i. none-heard app.by (node_index q) (next_of (c.node o)) a.by b x l i;
        cause = λ some. heard (cause some);
        talks = (tt, tt);
        counted = let e = was.state.count in omega (arith, e);
        sent = subst Sent label (sent-more s.scene p q n.sent (next_label n) app.by (c.node o).log near was.state.sent);
        received = heard-unsent s.scene p (label_at n.received) app.by (node_index q) (next_of (c.node o)) (c.node o).log was.state.received;
        keeps = was.state.kept;
      })
