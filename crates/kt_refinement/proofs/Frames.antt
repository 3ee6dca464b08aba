-- What a step leaves of what is represented: only its owner, the owner's links and the instance that it writes of are to
-- be looked at.
-- Cited by Acting, Answering, BeginsCheck, Checking, CountsVote, Decides, Denies, Dropping, Falling, GoesOn, Hearing,
--   Hears, Issuing, JoinsCheck, JoinsRollback, Kept, LearnsDown, LearnsFound, PutsBy, Refined, Refining, Releases,
--   Restarting, Restarts and 7 more.
use Rattle.std.proofs.Common.{◌≡◌, ◌≢◌, ◌⊎◌, ℕ, List, [], ◌∷◌, ◌++◌, drop}
use Rattle.std.proofs.Common.{Contains, Option, Some, None, inl, inr, refl, sym, ap, subst, ◌∙◌, append_assoc, append-nil}
use Rattle.std.specs.List.{AllByRecursion}
use Rattle.std.specs.Option.{option_map}
use Rattle.std.proofs.lemmas.Bool.{cases_eq, eq-eqb, ne_eqb}
use Rattle.kt_tuple.specs.declared.node.NodeId.{NodeId}
use Rattle.kt_tuple.specs.Node.{node_index}
use Rattle.kt_tuple.proofs.Shared.{node_index-injective}
use Rattle.kt_history.specs.declared.note.Note.{Note}
use Rattle.kt_history.specs.Log.{log}
use Rattle.kt_logs.proofs.Shared.{all-at}
use Rattle.kt_ckpt.specs.declared.ckpt.Ckpt.{Ckpt}
use Rattle.kt_store.specs.declared.rows.NodeRow.{NodeRow}
use Rattle.kt_store.specs.declared.rows.Verdict.{Verdict as RealVerdict}
use Rattle.kt_store.specs.declared.rows.Tentative.{Tentative}
use Rattle.kt_store.specs.Content.{row_of, instance_row, verdict_on}
use Rattle.kt_vote.specs.declared.vote.Vote.{Vote as RealVote}
use Rattle.kt_state.specs.declared.message.Message.{Message as RealMessage}
use Rattle.kt_state.specs.declared.message.Message.TheVariants as messages
use Rattle.kt_state.specs.declared.plan.Plan.{Plan}
use Rattle.kt_state.specs.Node.{Node as RealNode}
use Rattle.kt_state.specs.Updating.{changed}
use Rattle.kt_scenario.specs.declared.step.Step.{Step}
use Rattle.kt_scenario.specs.declared.step.Step.TheVariants.{Issue, Repeat, Deliver, Take, Serve, Check, Decide, Abandon, Learn, Fail, Restart}
use Rattle.kt_scenario.specs.Scene.{SceneModel}
use Rattle.kt_scenario.specs.Step.{owner}
use Rattle.kt_model.specs.State.{State as World, node, link, link_place}
use Rattle.kt_model.specs.Writing.{content_after}
use Rattle.kt_model.specs.Effect.{noted, applied, taken_off}
use Rattle.kt_model.specs.auxiliary.Ready.{AreNeighbours}
use Rattle.kt_model.proofs.Shared.{applied-owner, applied-other, taken_off-was, sent-cases, sent_between, Ends, to_shard, to_worker, ends, apart}
use Rattle.kt_model.proofs.Shared.{row_after, own-row, other-rows, log-others, Comes, MayNote}
use Rattle.kt_protocol.specs.Labels.{at}
use Rattle.kt_protocol.specs.Logs.{IsIn, Act}
use Rattle.kt_protocol.specs.Machine.{Vote, Message, Node, State}
use Rattle.kt_protocol.specs.Runs.{Run}
use Rattle.kt_protocol.specs.Steps.{pull, push}
use Rattle.kt_protocol.proofs.Shared.{at-both, at-here, at-else, pull-else, pull-here, push-else, push-here}
use Rattle.kt_refinement.proofs.Numbers.{peers}
use Rattle.kt_refinement.proofs.Reading.{reads-later}
use Rattle.kt_refinement.proofs.Letters.{Fresh}
use Rattle.kt_refinement.proofs.Represents.{carried_one, carried, WasCast, Stands, TentativeIs, NodeIs, NodeIn, undecided, InstanceIs, Represents}
use Rattle.kt_refinement.proofs.Links.{to, sent-long, taken-long, link-own, link-other, link-taken}

-- ---- two nodes

pub apart-index : (p q : NodeId) → p ≢ q → node_index p ≢ node_index q
apart-index p q d e = d (node_index-injective p q e)

pub neighbours-apart : (scene : SceneModel) (p q : NodeId) → AreNeighbours scene p q → p ≢ q
neighbours-apart scene p q near = by p q (ends scene p q near) where
  by : (p q : NodeId) → Ends scene p q → p ≢ q
  by p q (to_shard a b c d) e = absurd (cc (e))
  by p q (to_worker a b c d) e = absurd (cc (e))

-- ---- the machine's links

pub pull-from : (x o : ℕ) (rest : List Message) (c : State) (p q : ℕ) → p ≢ x → (pull x o rest c).link p q ≡ c.link p q
pull-from x o rest c p q d = elim (cases_eq q o) [
  | inl e ↦ rw (eq-eqb q o e) (rw (ne_eqb p x d) refl)
  | inr ne ↦ rw (ne_eqb q o ne) refl
]

-- ---- what links carry

pub carried-append : (xs ys : List RealMessage) → carried (xs ++ ys) ≡ carried xs ++ carried ys
unfolding carried
carried-append [] ys = refl
carried-append (m ∷ xs) ys = ap (λ l. carried_one m ++ l) (carried-append xs ys) ∙ sym (append_assoc (carried_one m) (carried xs) (carried ys))

-- ---- nodes that do nothing

stands-later : (scene : SceneModel) (h : List Note) (note : Option Note) (p : NodeId) (numbers : List ℕ) (stored : Option Ckpt)
    (acts : List Act) → Stands scene h p numbers stored acts → Stands scene (noted h note) p numbers stored acts
stands-later scene h note p numbers stored acts s = record { reads = reads-later note s.reads; sent = s.sent; received = s.received }

tentative-later : (scene : SceneModel) (h : List Note) (next : Option Note) (p : NodeId) (numbers : List ℕ) (o : Option Tentative) (tent : Option ℕ)
    (acts : List Act)
    → TentativeIs scene h p numbers o tent acts → TentativeIs scene (noted h next) p numbers o tent acts
tentative-later scene h next p numbers None tent acts is = is
tentative-later scene h next p numbers (Some t) tent acts is =
    record { instance = is.instance; whole = is.whole; stands = stands-later scene h next p numbers (Some t.checkpoint) acts is.stands }

-- the history grows, and the log stays
pub node-later : (scene : SceneModel) (h : List Note) (note : Option Note) (p : NodeId) (numbers : List ℕ) (real : Option RealNode) (row : NodeRow)
    (verdict : Option RealVerdict) (x : Node)
    → NodeIs scene h p numbers real row verdict x → NodeIs scene (noted h note) p numbers real row verdict x
node-later scene h note p numbers real row verdict x is = record {
  log = reads-later note is.log;
  life = is.life;
  state = is.state;
  perm = stands-later scene h note p numbers _ x.perm is.perm;
  tent = tentative-later scene h note p numbers (undecided verdict row.tentative) x.tent x.log is.tent;
  lower = is.lower;
}

-- who is not the owner, and whose tentative checkpoint has the verdict that it had, stands for what it stood for
pub node-stays : (s : World) (step : Step) (plan : Plan) → MayNote s.scene s.history (owner step) plan.note → (q : NodeId) → owner step ≢ q
    → verdict_on (content_after (owner step) plan.write s.content) (row_of s.content q).tentative ≡ verdict_on s.content (row_of s.content q).tentative
    → (x : Node) → NodeIn s.scene s.history s.content q (node s q) x
    → NodeIn s.scene (noted s.history plan.note) (content_after (owner step) plan.write s.content) q (node (applied s step plan) q) x
node-stays s step plan may q d verdict x is =
    let h = noted s.history plan.note in
    let c = content_after (owner step) plan.write s.content in
    let R : Option RealNode → Type 0 = λ real. NodeIn s.scene h c q real x in
    let L : List ℕ → Type 0 = λ numbers. NodeIs s.scene h q numbers (node s q) (row_of c q) (verdict_on c (row_of c q).tentative) x in
    let W : NodeRow → Type 0 = λ row. NodeIs s.scene h q (log s.history q) (node s q) row (verdict_on c row.tentative) x in
    let V : Option RealVerdict → Type 0 = λ v. NodeIs s.scene h q (log s.history q) (node s q) (row_of s.content q) v x in
    subst R (sym (applied-other s step plan q d))
    (subst L (sym (log-others s.scene s.history (owner step) plan.note may q d))
    (subst W (sym (other-rows (owner step) plan.write s.content q (λ e. d (sym e))))
    (subst V (sym verdict)
    (node-later s.scene s.history plan.note q (log s.history q) (node s q) (row_of s.content q) _ x is))))

-- ---- all

-- what is said of a vote that is sent to q
abbrev pub CastSo : List Vote → NodeId × RealMessage → Type 0
CastSo votes (q, messages.Vote v) = WasCast votes q v
CastSo votes (q, messages.App app) = Unit {0}
CastSo votes (q, messages.CheckAsk ask) = Unit {0}
CastSo votes (q, messages.RollAsk ask) = Unit {0}
CastSo votes (q, messages.Verdict instance agreed) = Unit {0}

-- no vote is lost
abbrev pub VotesStay : State → State → Type 0
VotesStay c d = (p : ℕ) (v : Vote) → IsIn v (c.node p).votes → IsIn v (d.node p).votes

-- links of the machine that are those behind a step
pub record LinksLead (s : World) (step : Step) (plan : Plan) (c : State) (links : ℕ → ℕ → List Message) : Type 0 where
  pub own : (q : NodeId) → AreNeighbours s.scene (owner step) q
      → links (node_index (owner step)) (node_index q) ≡ c.link (node_index (owner step)) (node_index q) ++ carried (to q plan.send)
  pub taken : (x y : NodeId) → step ≡ Deliver x y → AreNeighbours s.scene x y → links (node_index x) (node_index y) ≡ carried (drop 1 (link s x y))
  pub others : (p q : NodeId) → AreNeighbours s.scene p q → p ≢ owner step → ((x y : NodeId) → step ≡ Deliver x y → (p ≡ x) × (q ≡ y) → ⊥)
      → links (node_index p) (node_index q) ≡ c.link (node_index p) (node_index q)
  pub apart : (x : NodeId) → step ≡ Deliver x (owner step) → owner step ≢ x

-- what a machine's state d has to be for a step
pub record Leads (s : World) (step : Step) (plan : Plan) (c d : State) : Type 0 where
  pub nodes : (q : NodeId)
      → NodeIn s.scene (noted s.history plan.note) (content_after (owner step) plan.write s.content) q (node (applied s step plan) q) (d.node (node_index q))
  pub board : (i : ℕ) → InstanceIs (instance_row (content_after (owner step) plan.write s.content) i) i d.board
  pub links : LinksLead s step plan c d.link
  pub votes : VotesStay c d
  pub cast : AllByRecursion (CastSo (d.node (node_index (owner step))).votes) plan.send

cast-later : (d c : State) (p q : ℕ) (to : NodeId) (v : RealVote) → VotesStay c d → WasCast (c.node p).votes to v → WasCast (d.node p).votes to v
cast-later d c p q to v stay (inl i) = inl (stay p _ i)
cast-later d c p q to v stay (inr i) = inr (stay p _ i)

after-cast : (s : World) (step : Step) (plan : Plan) (c d : State) → Represents s c → Leads s step plan c d → (p q : NodeId) → AreNeighbours s.scene p q
    → (v : RealVote) → Contains (link (applied s step plan) p q) (messages.Vote v) → WasCast (d.node (node_index p)).votes q v
after-cast s step plan c d is leads p q near v on =
    elim (sent-cases (link_place s.scene) (taken_off (link_place s.scene) s.links step) (owner step) plan.send (link_place s.scene p q) (messages.Vote v) on) [
      | inl old ↦
          cast-later d c (node_index p) (node_index q) q v leads.votes
          ((is.links p q near).cast v (taken_off-was (link_place s.scene) s.links step (link_place s.scene p q) (messages.Vote v) old))
      | inr new ↦
          let ends = sent_between s.scene (owner step) plan.send p q (messages.Vote v) new in
          let so : CastSo (d.node (node_index (owner step))).votes (new.to, messages.Vote v) =
          all-at (CastSo (d.node (node_index (owner step))).votes) plan.send (new.to, messages.Vote v) leads.cast new.among in
          subst (λ (x : NodeId). WasCast (d.node (node_index x)).votes q v) ends.0
          (subst (λ (x : NodeId). WasCast (d.node (node_index (owner step))).votes x v) ends.1 so)
    ]

pub cases-node : (p q : NodeId) → (p ≡ q) ⊎ (p ≢ q)
cases-node p q = elim (cases_eq (node_index p) (node_index q)) [
  | inl e ↦ inl (node_index-injective p q e)
  | inr d ↦ inr (λ e. d (ap node_index e))
]

-- the message came by this link, or did not
data Came (step : Step) (p q : NodeId) : Type 0 where
  so : step ≡ Deliver p q → Came step p q
  not_so : ((x y : NodeId) → step ≡ Deliver x y → (p ≡ x) × (q ≡ y) → ⊥) → Came step p q

came : (step : Step) (p q : NodeId) → Came step p q
came (Deliver x y) p q = elim (cases-node p x) [
  | inl e ↦ elim (cases-node q y) [
    | inl f ↦ so (ap (λ z. Deliver z y) (sym e) ∙ ap (Deliver p) (sym f))
    | inr d ↦ not_so (λ a b g both. d (both.1 ∙ ends-of x y a b (sym g)))
  ]
  | inr d ↦ not_so (λ a b g both. d (both.0 ∙ starts-of x y a b (sym g)))
] where
  ends-of : (x y a b : NodeId) → Deliver a b ≡ Deliver x y → b ≡ y
  ends-of x y a b e = cc (e)

  starts-of : (x y a b : NodeId) → Deliver a b ≡ Deliver x y → a ≡ x
  starts-of x y a b e = cc (e)
came (Issue r) p q = not_so (λ x y e both. absurd (cc (e)))
came (Repeat r) p q = not_so (λ x y e both. absurd (cc (e)))
came (Take r) p q = not_so (λ x y e both. absurd (cc (e)))
came (Serve r w n) p q = not_so (λ x y e both. absurd (cc (e)))
came (Check r) p q = not_so (λ x y e both. absurd (cc (e)))
came (Decide r) p q = not_so (λ x y e both. absurd (cc (e)))
came (Abandon r) p q = not_so (λ x y e both. absurd (cc (e)))
came (Learn r) p q = not_so (λ x y e both. absurd (cc (e)))
came (Fail r) p q = not_so (λ x y e both. absurd (cc (e)))
came (Restart r) p q = not_so (λ x y e both. absurd (cc (e)))

after-carries : (s : World) (step : Step) (plan : Plan) (c d : State) → Represents s c → Leads s step plan c d → (p q : NodeId) → AreNeighbours s.scene p q
    → d.link (node_index p) (node_index q) ≡ carried (link (applied s step plan) p q)
after-carries s step plan c d is leads p q near = elim (cases-node (owner step) p) [
  | inl e ↦
      let P : NodeId → Type 0 = λ x. AreNeighbours s.scene x q → d.link (node_index x) (node_index q) ≡ carried (link (applied s step plan) x q) in
      subst P e (λ n.
      leads.links.own q n
      ∙ ap (λ l. l ++ carried (to q plan.send)) (is.links (owner step) q n).carries
      ∙ sym (carried-append (link s (owner step) q) (to q plan.send))
      ∙ ap carried (sym (link-own s step plan is.wide q n leads.links.apart))) near
  | inr d_ ↦ by (came step p q) (λ f. d_ (sym f))
] where
  by : Came step p q → p ≢ owner step → d.link (node_index p) (node_index q) ≡ carried (link (applied s step plan) p q)
  by (so e) other =
      let P : Step → Type 0 = λ x. carried (link (applied s x plan) p q) ≡ carried (drop 1 (link s p q)) in
      leads.links.taken p q e near ∙ sym (subst P (sym e) (ap carried (link-taken s p q plan is.wide near (neighbours-apart s.scene p q near))))
  by (not_so apart) other =
      leads.links.others p q near other apart ∙ (is.links p q near).carries ∙ ap carried (sym (link-other s step plan is.wide p q near other apart))

pub leads-represents : (s : World) (step : Step) (plan : Plan) (c d : State) → Represents s c → Leads s step plan c d → Represents (applied s step plan) d
leads-represents s step plan c d is leads = record {
  nodes = leads.nodes;
  links = λ p q near. record { carries = after-carries s step plan c d is leads p q near; cast = after-cast s step plan c d is leads p q near };
  board = leads.board;
  wide = sent-long (link_place s.scene) (taken_off (link_place s.scene) s.links step) (owner step) plan.send ∙ taken-long (link_place s.scene) s.links step
      ∙ is.wide;
}

-- ---- the owner

-- the owner as it becomes
pub owner-in : (s : World) (step : Step) (plan : Plan) (real : Option RealNode) (x : Node) → node s (owner step) ≡ real
    → NodeIs s.scene (noted s.history plan.note) (owner step) (log (noted s.history plan.note) (owner step)) (option_map (changed plan.change) real)
    (row_after s.content (row_of s.content (owner step)) plan.write)
    (verdict_on (content_after (owner step) plan.write s.content) (row_after s.content (row_of s.content (owner step)) plan.write).tentative) x
    → NodeIn s.scene (noted s.history plan.note) (content_after (owner step) plan.write s.content) (owner step) (node (applied s step plan) (owner step)) x
owner-in s step plan real x was is =
    let h = noted s.history plan.note in
    let c = content_after (owner step) plan.write s.content in
    let N : Option RealNode → Type 0 = λ r. NodeIn s.scene h c (owner step) r x in
    let W : NodeRow → Type 0 =
    λ row. NodeIs s.scene h (owner step) (log h (owner step)) (option_map (changed plan.change) real) row (verdict_on c row.tentative) x in
    subst N (sym (applied-owner s step plan ∙ ap (option_map (changed plan.change)) was)) (subst W (sym (own-row (owner step) plan.write s.content)) is)

-- the owner becomes another, the others stay
pub nodes-at : (s : World) (step : Step) (plan : Plan) (c : State) (new : Node) → Represents s c → MayNote s.scene s.history (owner step) plan.note
    → ((q : NodeId) → owner step ≢ q
    → verdict_on (content_after (owner step) plan.write s.content) (row_of s.content q).tentative ≡ verdict_on s.content (row_of s.content q).tentative)
    → NodeIn s.scene (noted s.history plan.note) (content_after (owner step) plan.write s.content) (owner step) (node (applied s step plan) (owner step)) new
    → (q : NodeId)
    → NodeIn s.scene (noted s.history plan.note) (content_after (owner step) plan.write s.content) q (node (applied s step plan) q)
    (at (node_index (owner step)) new c.node (node_index q))
nodes-at s step plan c new is may verdicts own q =
    let h = noted s.history plan.note in
    let d = content_after (owner step) plan.write s.content in
    elim (cases-node (owner step) q) [
      | inl e ↦
          let P : NodeId → Type 0 = λ r. NodeIn s.scene h d r (node (applied s step plan) r) (at (node_index (owner step)) new c.node (node_index r)) in
          let X : Node → Type 0 = λ x. NodeIn s.scene h d (owner step) (node (applied s step plan) (owner step)) x in
          subst P e (subst X (sym (at-here (node_index (owner step)) new c.node)) own)
      | inr ne ↦
          let X : Node → Type 0 = λ x. NodeIn s.scene h d q (node (applied s step plan) q) x in
          subst X (sym (at-else (node_index (owner step)) new c.node (node_index q) (λ f. ne (node_index-injective (owner step) q (sym f)))))
          (node-stays s step plan may q ne (verdicts q ne) (c.node (node_index q)) (is.nodes q))
    ]

-- a node that changes loses no vote
pub votes-at : (c : State) (o : ℕ) (new : Node) → ((v : Vote) → IsIn v (c.node o).votes → IsIn v new.votes)
    → (p : ℕ) (v : Vote) → IsIn v (c.node p).votes → IsIn v (at o new c.node p).votes
votes-at c o new stay p v i = at-both o new c.node p (λ (x : Node). IsIn v x.votes)
    (λ e. stay v (subst (λ k. IsIn v (c.node k).votes) e i))
    (λ ne. i)

-- ---- a message comes

pub delivers-from : (p q x y : NodeId) → Deliver p q ≡ Deliver x y → p ≡ x
delivers-from p q x y e = cc (e)

pub delivers-to : (p q x y : NodeId) → Deliver p q ≡ Deliver x y → q ≡ y
delivers-to p q x y e = cc (e)

-- the machine takes a message off and sends
pub delivered : (s : World) (p q : NodeId) (plan : Plan) (c : State) (m : RealMessage) (send : ℕ → List Message) → Represents s c → (comes : Comes s p q m)
    → ((r : NodeId) → AreNeighbours s.scene q r → send (node_index r) ≡ carried (to r plan.send))
    → LinksLead s (Deliver p q) plan c (push (node_index q) send (pull (node_index p) (node_index q) (carried comes.later) c)).link
delivered s p q plan c m send is comes sends =
    let d = neighbours-apart s.scene p q comes.neighbours in
    let o = node_index q in
    let x = node_index p in
    let rest = carried comes.later in record {
      own = λ r near.
          push-here o send (pull x o rest c) (node_index r)
          ∙ ap (λ l. l ++ send (node_index r)) (pull-from x o rest c o (node_index r) (λ e. apart-index p q d (sym e)))
          ∙ ap (λ l. c.link o (node_index r) ++ l) (sends r near);
      taken = λ a b e near.
          let P : NodeId → Type 0 = λ z. (push o send (pull x o rest c)).link (node_index z) (node_index b) ≡ carried (drop 1 (link s z b)) in
          let Q : NodeId → Type 0 = λ z. (push o send (pull x o rest c)).link x (node_index z) ≡ carried (drop 1 (link s p z)) in
          subst P (delivers-from p q a b e) (subst Q (delivers-to p q a b e)
          (push-else o send (pull x o rest c) x o (apart-index p q d) ∙ pull-here x o rest c ∙ ap (λ l. carried (drop 1 l)) (sym comes.on)));
      others = λ a b near ne apart.
          push-else o send (pull x o rest c) (node_index a) (node_index b) (apart-index a q ne) ∙ pulled a b (apart p q refl);
      apart = λ a e f. d (delivers-from p q a q e ∙ sym f);
    }
  where
    pulled : (a b : NodeId) → ((a ≡ p) × (b ≡ q) → ⊥)
        → (pull (node_index p) (node_index q) (carried comes.later) c).link (node_index a) (node_index b) ≡ c.link (node_index a) (node_index b)
    pulled a b none = elim (cases-node a p) [
      | inl e ↦ pull-else (node_index p) (node_index q) (carried comes.later) c (node_index a) (node_index b) (apart-index b q (λ f. none (e, f)))
      | inr ne ↦ pull-from (node_index p) (node_index q) (carried comes.later) c (node_index a) (node_index b) (apart-index a p ne)
    ]

-- the machine takes a message off, and what is sent is nothing to it
pub delivered-quietly : (s : World) (p q : NodeId) (plan : Plan) (c : State) (m : RealMessage) → Represents s c → (comes : Comes s p q m)
    → ((r : NodeId) → AreNeighbours s.scene q r → carried (to r plan.send) ≡ [])
    → LinksLead s (Deliver p q) plan c (pull (node_index p) (node_index q) (carried comes.later) c).link
delivered-quietly s p q plan c m is comes silent =
    let d = neighbours-apart s.scene p q comes.neighbours in
    let o = node_index q in
    let x = node_index p in
    let rest = carried comes.later in
    let more = delivered s p q plan c m (λ r. []) is comes (λ r near. sym (silent r near)) in record {
      own = λ r near. sym (append-nil _) ∙ sym (push-here o (λ k. []) (pull x o rest c) (node_index r)) ∙ more.own r near;
      taken = λ a b e near.
          let P : NodeId → Type 0 = λ z. (pull x o rest c).link (node_index a) (node_index z) ≡ carried (drop 1 (link s a z)) in
          subst P (delivers-to p q a b e) (sym (push-else o (λ k. []) (pull x o rest c) (node_index a) o
          (apart-index a q (λ f. d (delivers-from p q a b e ∙ f)))) ∙ from a b e near);
      others = λ a b near ne apart. sym (push-else o (λ k. []) (pull x o rest c) (node_index a) (node_index b) (apart-index a q ne))
          ∙ more.others a b near ne apart;
      apart = more.apart;
    }
  where
    from : (a b : NodeId) → Deliver p q ≡ Deliver a b → AreNeighbours s.scene a b
        → (push (node_index q) (λ k. []) (pull (node_index p) (node_index q) (carried comes.later) c)).link (node_index a) (node_index q)
        ≡ carried (drop 1 (link s a q))
    from a b e near =
        let more = delivered s p q plan c m (λ r. []) is comes (λ r near. sym (silent r near)) in
        more.taken a q (ap (λ z. Deliver z q) (delivers-from p q a b e)) (subst (λ z. AreNeighbours s.scene a z) (sym (delivers-to p q a b e)) near)

-- no message comes, and the machine sends
pub sends-only : (s : World) (step : Step) (plan : Plan) (c : State) (send : ℕ → List Message) → ((x y : NodeId) → step ≡ Deliver x y → ⊥)
    → ((r : NodeId) → AreNeighbours s.scene (owner step) r → send (node_index r) ≡ carried (to r plan.send))
    → LinksLead s step plan c (push (node_index (owner step)) send c).link
sends-only s step plan c send none sends = record {
  own = λ r near. push-here (node_index (owner step)) send c (node_index r) ∙ ap (λ l. c.link (node_index (owner step)) (node_index r) ++ l) (sends r near);
  taken = λ x y e. absurd (none x y e);
  others = λ p q near ne apart. push-else (node_index (owner step)) send c (node_index p) (node_index q) (apart-index p (owner step) ne);
  apart = λ x e. absurd (none x (owner step) e);
}

-- no message comes, and what is sent is nothing to the machine
pub links-idle : (s : World) (step : Step) (plan : Plan) (c : State) → ((x y : NodeId) → step ≡ Deliver x y → ⊥)
    → ((r : NodeId) → AreNeighbours s.scene (owner step) r → carried (to r plan.send) ≡ [])
    → LinksLead s step plan c c.link
links-idle s step plan c none silent = record {
  own = λ r near. sym (append-nil _) ∙ ap (λ l. c.link (node_index (owner step)) (node_index r) ++ l) (sym (silent r near));
  taken = λ x y e. absurd (none x y e);
  others = λ p q near ne apart. refl;
  apart = λ x e. absurd (none x (owner step) e);
}

-- ---- a step of the world is a run of the machine

pub record Refines (s : World) (step : Step) (plan : Plan) (c : State) : Type 0 where
  pub next : State
  pub run : Run (peers s.scene) c next
  -- it sends no more than the message of the act that the step notes
  pub fresh : Fresh s.history plan.note run
  pub stands : Represents (applied s step plan) next
