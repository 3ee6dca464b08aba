-- A node that is up rolls back, or takes a checkpoint that it was asked for, only where it has to: it heard what the
-- asker's permanent checkpoint lacks, or the asker heard what its own lacks.
-- Cited by Lasting.
use Rattle.std.proofs.Common.{◌≡◌, ◌≢◌, ℕ, false, IsTrue, List, [], ◌∷◌, Contains, Some, inl, inr, refl, sym, subst, ◌∙◌, arith}
use Rattle.std.proofs.lemmas.List.Elements.{Contains-append_left, Contains-append_right, Contains-push_cases}
use Rattle.kt_tuple.specs.declared.node.NodeId.{NodeId}
use Rattle.kt_tuple.specs.Node.{node_index}
use Rattle.kt_tuple.proofs.Shared.{node_index-injective}
use Rattle.kt_history.specs.declared.note.Act.{Act as Done}
use Rattle.kt_history.specs.declared.note.Note.{Note}
use Rattle.kt_history.specs.declared.note.Note.TheVariants as notes
use Rattle.kt_history.specs.Log.{note_at, log}
use Rattle.kt_history.proofs.Shared.{Contains-here, Contains-none, note_at-within}
use Rattle.kt_store.specs.Content.{permanent_header}
use Rattle.kt_state.specs.declared.message.Ask.{Ask as RealAsk}
use Rattle.kt_state.specs.declared.message.Message.TheVariants as messages
use Rattle.kt_state.specs.declared.live.Phase.TheVariants as phases
use Rattle.kt_state.specs.declared.node.Mode.TheVariants as modes
use Rattle.kt_state.specs.declared.plan.Plan.{Plan}
use Rattle.kt_node.specs.declared.reaction.Reaction.TheVariants as reactions
use Rattle.kt_state.specs.Labels.{up_to, label_at}
use Rattle.kt_state.specs.Node.{Live, node_number}
use Rattle.kt_state.specs.Stored.{is_undecided, sent_in}
use Rattle.kt_node.specs.Arrivals.{check_in, check_reaction}
use Rattle.kt_scenario.specs.declared.step.Step.{Step}
use Rattle.kt_scenario.specs.declared.step.Step.TheVariants.{Deliver}
use Rattle.kt_model.specs.Forced.{HasHeardBeyond, HasHeardAhead, MustRoll, WhyHeld, began, forced, IsForced}
use Rattle.kt_model.specs.State.{State as World}
use Rattle.kt_model.specs.Cut.{permanent_length}
use Rattle.kt_model.specs.StoreReads.{store_reads, tentative_in}
use Rattle.kt_model.specs.Effect.{applied}
use Rattle.kt_model.proofs.Shared.{IsAlive, Comes, PlanOf, neighbours-turned, Holds}
use Rattle.kt_protocol.specs.Labels.{Label, Under, UpTo}
use Rattle.kt_protocol.specs.Logs.{IsIn, here, there, Act, Sends, Hears, Resumes, top_sent, top_heard}
use Rattle.kt_protocol.specs.Machine.{Check, Rollback, Ask, Message, State}
use Rattle.kt_protocol.proofs.Shared.{Under-not, Under-UpTo, UpTo-Under, UpTo-trans, UpTo-eq, Falls-tail, sent-top, heard-attained, tail-in, up-gone, some-none}
use Rattle.kt_protocol.proofs.Shared.{rolling-none}
use Rattle.kt_protocol.proofs.Shared.{up_to-false, core, Caused, made, lost, cut_soon, Invariant}
use Rattle.kt_refinement.proofs.Numbers.{peers, label_of}
use Rattle.kt_refinement.proofs.Reading.{IsSaying, Says, Reads, nothing, found, one, IsFound}
use Rattle.kt_refinement.proofs.Mail.{in-front, in-parts}
use Rattle.kt_refinement.proofs.Letters.{IsSaid, Fits, Lettered, same-to, same-label}
use Rattle.kt_refinement.proofs.Represents.{carried, Represents}
use Rattle.kt_refinement.proofs.Acting.{in-append, same-act}
use Rattle.kt_refinement.proofs.Closing.{sent-stands}
use Rattle.kt_refinement.proofs.Answering.{asked-open}
use Rattle.kt_refinement.proofs.JoinsCheck.{joins-above, stored-is}
use Rattle.kt_refinement.proofs.Turned.{Starts, begins, joins_check, joins_rollback, why_votes}
use Rattle.kt_refinement.proofs.Known.{alive-is, up-is, near-is, comes-is, rollback-open, check-open}

-- ---- what the machine's acts tell of the history

-- an act among the numbers has this cause
pub record WasCaused (h : List Note) (numbers : List ℕ) (by : ℕ) : Type 0 where
  pub act : ℕ
  pub among : Contains numbers act
  pub done : Done
  pub is_act : note_at h act ≡ Some (notes.Act done)
  pub names : done.by ≡ by

-- what the machine's acts heard is the cause of an act
pub heard-stands : {h : List Note} {numbers : List ℕ} {acts : List Act} → Reads h numbers acts → (by x : ℕ) (l : Label) → IsIn (Hears by x l) acts
    → WasCaused h numbers by
heard-stands nothing by x l i = elim i [ ]
heard-stands (found numbers p first sent heard all) by x l (there i) = elim i [ ]
heard-stands (one {numbers} {acts} n new reads act) by x l i = elim (in-parts new acts (Hears by x l) i) [
  | inl now ↦ record {
    act = n;
    among = Contains-append_right numbers (n ∷ []) n (Contains-here n []);
    done = act.act;
    is_act = act.is_act;
    names = act.hears by x l now;
  }
  | inr old ↦
      let w = heard-stands reads by x l old in record {
        act = w.act;
        among = Contains-append_left numbers (n ∷ []) w.act w.among;
        done = w.done;
        is_act = w.is_act;
        names = w.names;
      }
]

-- an act among the numbers that sends by its kind has sent, if it came since its node was resumed
pub said-stands : {h : List Note} {numbers : List ℕ} {acts : List Act} → Reads h numbers acts → (by p : ℕ) → IsSaid h by p → (IsFound by acts → ⊥)
    → Contains numbers by → Says by acts
said-stands nothing by p said since among = absurd (Contains-none by among)
said-stands (found numbers q first sent heard all) by p said since among =
    absurd (since (record { node = node_index q; first = first; sent = sent; heard = heard; among = here; below = all.below by among }))
said-stands {h} (one {numbers} {acts} n new reads act) by p said since among = elim (Contains-push_cases numbers n by among) [
  | inl old ↦
      let later : IsFound by acts → ⊥ = λ f. since (record {
        node = f.node;
        first = f.first;
        sent = f.sent;
        heard = f.heard;
        among = in-append new acts (Resumes f.node f.first f.sent f.heard) f.among;
        below = f.below;
      }) in
      let w = said-stands reads by p said later old in record { to = w.to; label = w.label; among = in-append new acts (Sends by w.to w.label) w.among }
  | inr e ↦
      let same : act.act ≡ said.act = same-act h by n act.act said.act e act.is_act said.is_act in
      let w : Says n new = act.says (subst (λ (a : Done). IsSaying a.what) (sym same) said.saying) in
      let now : Says by new = subst (λ k. Says k new) e w in
      record { to = now.to; label = now.label; among = in-front new acts (Sends by now.to now.label) now.among }
]

-- what the hearer's acts have heard of the sender above all that the sender's permanent acts have sent to it is beyond the
-- sender's permanent checkpoint
beyond : (s : World) (c : State) → Invariant (peers s.scene) c → Represents s c → Lettered s.history c → (hearer sender : NodeId) (by : ℕ) (l : Label)
    → IsIn (Hears by (node_index sender) l) (c.node (node_index hearer)).log
    → Under (top_sent (c.node (node_index sender)).perm (node_index hearer)) l
    → (heard : HasHeardBeyond s.history hearer sender (permanent_length s.content sender)) × (heard.cause ≡ by)
beyond s c inv is letters hearer sender by l i above = (
  record {
    act = w.act;
    stands = w.among;
    cause = by;
    heard = record { act = w.done; is_act = w.is_act; names = w.names; some = some };
    sent = record { act = fits.said.act; is_act = fits.said.is_act; own = node_index-injective fits.said.act.node sender fits.said.own };
    beyond = λ among. lacks (said-stands (is.nodes sender).perm.reads by x fits.said since among);
  },
  refl,
) where
  x : ℕ
  x = node_index sender

  o : ℕ
  o = node_index hearer

  w : WasCaused s.history (log s.history hearer) by
  w = heard-stands (is.nodes hearer).log by (node_index sender) l i

  fits : Fits s.history letters.first letters.letter by (node_index sender) (node_index hearer) l
  fits = (letters.fit.nodes (node_index hearer)).heard by (node_index sender) l i

  since : IsFound by (c.node (node_index sender)).perm → ⊥
  since f =
      let ground = (letters.grounds (node_index sender)).perm f.node f.first f.sent f.heard f.among in
      let low = f.below in
      let high = fits.since in
      let e = ground.1 in
      omega (arith, low, high, e)

  some : by ≢ 0
  some e = let within = note_at-within s.history by (notes.Act fits.said.act) fits.said.is_act in omega (arith, within.0, e)

  lacks : Says by (c.node (node_index sender)).perm → ⊥
  lacks said =
      let own = inv.local x in
      let other : Fits s.history letters.first letters.letter by x said.to said.label =
      (letters.fit.nodes x).sent by said.to said.label (tail-in own.tail said.among) in
      let P : ℕ → Type 0 = λ k. IsIn (Sends by k said.label) (c.node x).perm in
      let Q : Label → Type 0 = λ m. IsIn (Sends by o m) (c.node x).perm in
      let there : IsIn (Sends by o l) (c.node x).perm =
      subst Q (same-label by x said.to o said.label l other fits) (subst P (same-to by x said.to o said.label l other fits) said.among) in
      Under-not above (sent-top (c.node x).perm (Falls-tail own.tail own.falls) there)

-- ---- an ask to roll back

pub has-to-roll : (s : World) (c : State) → Invariant (peers s.scene) c → Represents s c → Lettered s.history c → (p q : NodeId) (n : Live) (ask : RealAsk)
    → Comes s p q (messages.RollAsk ask) → IsAlive s q n → IsTrue (is_undecided (store_reads s (Deliver p q)).verdict)
    → up_to (label_at n.received (node_number p)) ask.label ≡ false → HasHeardBeyond s.history q p (permanent_length s.content p)
has-to-roll s c inv is letters p q n ask comes alive undecided above =
    let heard = heard-attained (node_index p) (inv.local (node_index q)).tail (UpTo-Under low over) in
    (beyond s c inv is letters q p heard.0 (top_heard (c.node (node_index q)).log (node_index p)) heard.1
    (subst (λ l. Under l (top_heard (c.node (node_index q)).log (node_index p))) meant over)).0
  where
    front : c.link (node_index p) (node_index q) ≡ Ask (Rollback ask.instance) (label_of ask.label) ask.incarnation ∷ carried comes.later
    front = comes-is s c is p q (messages.RollAsk ask) comes

    over : Under (label_of ask.label) (top_heard (c.node (node_index q)).log (node_index p))
    over = subst (λ l. Under (label_of ask.label) l) ((alive-is s c is q n alive).state.received p (neighbours-turned s.scene p q comes.neighbours))
        (up_to-false (label_of (label_at n.received (node_number p))) (label_of ask.label) above)

    -- the asker asks with what its permanent checkpoint has sent
    meant : label_of ask.label ≡ top_sent (c.node (node_index p)).perm (node_index q)
    meant =
        let on = subst (λ (l : List Message). IsIn (Ask (Rollback ask.instance) (label_of ask.label) ask.incarnation) l) (sym front) here in
        let fine = (inv.pair (node_index p) (node_index q) (near-is s p q comes.neighbours)).asks (Rollback ask.instance)
        (label_of ask.label) ask.incarnation on in
        (fine.meant (rollback-open s c is ask.instance (asked-open s p q (messages.RollAsk ask) ask.instance comes refl undecided))).2

    -- what its own permanent checkpoint has heard, the asker's has sent
    low : UpTo (top_heard (c.node (node_index q)).perm (node_index p)) (label_of ask.label)
    low = UpTo-trans (inv.pair (node_index p) (node_index q) (near-is s p q comes.neighbours)).agree (UpTo-eq (sym meant))

-- ---- an ask to take a checkpoint

pub has-to-hold : (s : World) (c : State) → Invariant (peers s.scene) c → Represents s c → Holds s → Lettered s.history c → (p q : NodeId) (n : Live)
    (ask : RealAsk) → Comes s p q (messages.CheckAsk ask) → IsAlive s q n → n.phase ≡ phases.Up → IsTrue (is_undecided (store_reads s (Deliver p q)).verdict)
    → check_reaction n p ask (store_reads s (Deliver p q)).verdict (store_reads s (Deliver p q)).permanent (store_reads s (Deliver p q)).tentative
    ≡ reactions.Joins
    → HasHeardAhead s.history p q (permanent_length s.content q)
has-to-hold s c inv is h letters p q n ask comes alive up undecided reacts =
    let heard = heard-attained o (inv.local x).tail (UpTo-Under (inv.pair o x (near-is s q p (neighbours-turned s.scene p q comes.neighbours))).agree over) in
    let more = beyond s c inv is letters p q heard.0 (top_heard (c.node x).log o) heard.1 over in
    let sent = by_whom heard.0 (top_heard (c.node x).log o)
    ((inv.pair o x (near-is s q p (neighbours-turned s.scene p q comes.neighbours))).caused heard.0 (top_heard (c.node x).log o) heard.1) in
    let C : ℕ → Type 0 = λ k. Contains (log s.history q) k in
    record {
      beyond = more.0;
      remembered = subst C (sym more.1) (sent-stands (is.nodes q).log heard.0 x (top_heard (c.node x).log o) sent);
    }
  where
    x : ℕ
    x = node_index p

    o : ℕ
    o = node_index q

    front : c.link (node_index p) (node_index q) ≡ Ask (Check ask.instance) (label_of ask.label) ask.incarnation ∷ carried comes.later
    front = comes-is s c is p q (messages.CheckAsk ask) comes

    -- the asker asks with what it has heard, and holds the check
    meant : ((c.node (node_index p)).tent ≡ Some ask.instance) × (label_of ask.label ≡ top_heard (c.node (node_index p)).log (node_index q))
    meant =
        let on = subst (λ (l : List Message). IsIn (Ask (Check ask.instance) (label_of ask.label) ask.incarnation) l) (sym front) here in
        let fine = (inv.pair (node_index p) (node_index q) (near-is s p q comes.neighbours)).asks (Check ask.instance)
        (label_of ask.label) ask.incarnation on in
        fine.meant (check-open s c is ask.instance (asked-open s p q (messages.CheckAsk ask) ask.instance comes refl undecided))

    above : up_to ask.label (sent_in (permanent_header s.content q) (node_number p)) ≡ false
    above = joins-above (is_undecided (store_reads s (Deliver p q)).verdict) (up_to ask.label (sent_in (permanent_header s.content q) (node_number p)))
        (check_in n p ask (tentative_in s.content q) n.phase) reacts

    over : Under (top_sent (c.node o).perm x) (top_heard (c.node x).log o)
    over =
        let stored = (stored-is s c is h q n alive up).sent p (neighbours-turned s.scene p q comes.neighbours) in
        Under-UpTo (subst (λ l. Under l (label_of ask.label)) stored
        (up_to-false (label_of ask.label) (label_of (sent_in (permanent_header s.content q) (node_number p))) above)) (UpTo-eq meant.1)

    -- who is up has not lost what the asker heard
    by_whom : (by : ℕ) (l : Label) → Caused c.board o x (core (c.node o)) (c.node x).mode (c.node x).perm by l → IsIn (Sends by x l) (c.node o).log
    by_whom by l (made i) = i
    by_whom by l (lost u) = up-gone (up-is s c is q n alive up) u.gone
    by_whom by l (cut_soon u) = some-none (sym meant.0 ∙ rolling-none (c.node x).mode (c.node x).tent (inv.local x).way u.rolls)

-- ---- each step

pub forced-so : (s : World) (c : State) → Invariant (peers s.scene) c → Represents s c → Holds s → Lettered s.history c → (step : Step) (plan : Plan)
    → PlanOf s (store_reads s step) step plan → IsForced s step (applied s step plan)
forced-so s c inv is h letters step plan of = record {
  rolls = λ p was now. roll step p (why_votes s (store_reads s step) step plan of p was modes.Rolling tt now);
  holds = λ p was now. hold step p (why_votes s (store_reads s step) step plan of p was modes.Held tt now);
} where
  roll : (step : Step) (p : NodeId) → Starts s (store_reads s step) p step modes.Rolling → MustRoll s step p
  roll step p (joins_rollback {x} {n} {ask} comes alive up undecided above) =
      record { asker = x; came = refl; heard = has-to-roll s c inv is letters x p n ask comes alive undecided above }

  hold : (step : Step) (p : NodeId) → Starts s (store_reads s step) p step modes.Held → WhyHeld s step p
  hold step p begins = began refl
  hold step p (joins_check {x} {n} {ask} comes alive up undecided reacts) =
      forced (record { asker = x; came = refl; heard = has-to-hold s c inv is h letters x p n ask comes alive up undecided reacts })
