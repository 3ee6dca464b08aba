-- What holds in every state that the machine reaches: of one node, of an ordered pair of neighbours, of the trees
-- of those who joined an instance.
-- Cited by Answers, Cases, Casts, Checks, Consequences, Cuts, Frames, Grounds, Joins, Keeps, Main, Rises, Starts,
--   Talks, Trees, Verdicts, Votes; other crates.
use Rattle.std.proofs.Common.{◌≡◌, ◌≢◌, ◌⊎◌, ◌≤◌, ℕ, Bool, true, false, IsTrue, List, [], ◌++◌, Option, Some, None}
use Rattle.kt_protocol.specs.Labels.{Label, Under, UpTo}
use Rattle.kt_protocol.specs.Logs.{IsIn, Act, Sends, Hears, top_sent, top_heard, IsTail}
use Rattle.kt_protocol.specs.Machine.{Instance, Check, Rollback, Open, Yes, No, Key, Ballot, Mode, Up, Within, Down, AppMessage, Message, Ask, Vote, Member}
use Rattle.kt_protocol.specs.Machine.{Mark}
use Rattle.kt_protocol.specs.Machine.{Node, Board, State, instance_of, next_label}
use Rattle.kt_protocol.specs.Steps.{IsAgreed}
use Rattle.kt_protocol.proofs.Logs.{Falls}
use Rattle.kt_protocol.proofs.Streams.{apps, Rising, NoAsk, Asked}

-- what most facts about a node read of it
pub record Core : Type 0 where
  pub mode : Mode
  pub log : List Act
  pub perm : List Act
  pub tent : Option ℕ

abbrev pub core : Node → Core
core n = record { mode = n.mode; log = n.log; perm = n.perm; tent = n.tent }

abbrev pub a_vote : Instance → Key → Bool → Vote
a_vote i k y = record { instance = i; asker = k; agrees = y }

abbrev pub a_member : Instance → ℕ → Option Key → Member
a_member i c par = record { instance = i; life = c; parent = par }

abbrev pub a_mark : Instance → ℕ → Mark
a_mark i c = record { instance = i; life = c }

abbrev pub a_key : ℕ → ℕ → Key
a_key p c = record { node = p; life = c }

-- the node joined the instance in this incarnation
abbrev pub IsMember : List Member → Instance → ℕ → Type 0
IsMember joined i c = (par : Option Key) × IsIn (a_member i c par) joined

-- down, or the initiator of a rollback that is under way
abbrev pub Gone : Mode → Type 0
Gone Up = ⊥
Gone (Within (Check k) b) = ⊥
Gone (Within (Rollback k) b) = b.parent ≡ None
Gone Down = Unit {0}

-- the message to q was sent by an act that is cut off for good
pub record Undone (c : Core) (q : ℕ) (l : Label) : Type 0 where
  pub gone : Gone c.mode
  pub above : Under (top_sent c.perm q) l
  pub held : (k : ℕ) → c.tent ≡ Some k → Under (top_sent c.log q) l

-- a message to q under way or kept: the act that sent it stands in the log, or it is undone
pub data Carried (c : Core) (q : ℕ) (m : AppMessage) : Type 0 where
  sent : IsIn (Sends m.by q m.label) c.log → Carried c q m
  undone : Undone c q m.label → Carried c q m

-- what was heard from p under this label is about to be cut: the node rolls in an instance that has Yes
pub record CutSoon (B : Board) (mode : Mode) (perm : List Act) (p : ℕ) (l : Label) : Type 0 where
  pub number : ℕ
  pub rolls : instance_of mode ≡ Some (Rollback number)
  pub decided : B.verdict (Rollback number) ≡ Yes
  pub above : Under (top_heard perm p) l

-- an act in q's log heard the act `by` of p
pub data Caused (B : Board) (p q : ℕ) (cp : Core) (mode : Mode) (perm : List Act) (by : ℕ) (l : Label) : Type 0 where
  made : IsIn (Sends by q l) cp.log → Caused B p q cp mode perm by l
  lost : Undone cp q l → Caused B p q cp mode perm by l
  cut_soon : CutSoon B mode perm p l → Caused B p q cp mode perm by l

-- nothing underlying and no open ask of a rollback
pub record Quiet (B : Board) (link : List Message) : Type 0 where
  pub bare : apps link ≡ []
  pub unasked : (k : ℕ) (l : Label) (c : ℕ) → IsIn (Ask (Rollback k) l c) link → B.verdict (Rollback k) ≡ Open → ⊥

abbrev pub Behind : Board → Instance → List Message → Type 0
Behind B (Check k) rest = Unit {0}
Behind B (Rollback k) rest = Quiet B rest

abbrev pub KeptUpTo : Instance → Label → List AppMessage → Type 0
KeptUpTo (Check k) top kept = Unit {0}
KeptUpTo (Rollback k) top kept = (m : AppMessage) → IsIn m kept → UpTo m.label top

-- the ask of this key has passed; one of a rollback flushed the link
pub record Calm (B : Board) (i : Instance) (c : ℕ) (top : Label) (kept : List AppMessage) (link : List Message) : Type 0 where
  pub none : NoAsk i c link
  pub behind : Behind B i link
  pub low : KeptUpTo i top kept

-- the asker p need not fear the node: its permanent checkpoint has sent what p heard, or its tentative one in this very
-- check has; or it rolls in this very rollback, or heard nothing above p's label
abbrev pub Cover : Instance → Core → ℕ → Label → Type 0
Cover (Check k) c p top = UpTo top (top_sent c.perm p) ⊎ (c.tent ≡ Some k × UpTo top (top_sent c.log p))
Cover (Rollback k) c p top = (instance_of c.mode ≡ Some (Rollback k)) ⊎ UpTo (top_heard c.log p) top

abbrev pub NoVote : List Vote → Instance → Key → Type 0
NoVote votes i k = (y : Bool) → IsIn (a_vote i k y) votes → ⊥

abbrev pub NoChild : List Member → Instance → Key → Type 0
NoChild joined i k = (c : ℕ) → IsIn (a_member i c (Some k)) joined → ⊥

abbrev pub OneChild : List Member → Instance → Key → Type 0
OneChild joined i k = (life : ℕ) × ((c : ℕ) → IsIn (a_member i c (Some k)) joined → c ≡ life)

abbrev pub ChildrenSaid : List Member → List Mark → Instance → Key → Type 0
ChildrenSaid joined said i k = (c : ℕ) → IsIn (a_member i c (Some k)) joined → IsIn (a_mark i c) said

-- a ballot under this key has been cast
abbrev pub HasVoted : Mode → Instance → Key → Type 0
HasVoted mode i k = (b : Ballot) → mode ≡ Within i b → b.parent ≡ Some k → b.voted ≡ true

-- how far the ask of this key to q has come
pub data Token (i : Instance) (k : Key) (awaits : Bool) (refused : Bool) (IsAsked IsCalm IsCovered : Type 0)
    (mode : Mode) (votes : List Vote) (joined : List Member) (said : List Mark) : Type 0 where
  asked : awaits ≡ true → IsAsked → NoVote votes i k → NoChild joined i k
      → Token i k awaits refused IsAsked IsCalm IsCovered mode votes joined said
  waiting : awaits ≡ true → IsCalm → NoVote votes i k → OneChild joined i k
      → Token i k awaits refused IsAsked IsCalm IsCovered mode votes joined said
  voted : (y : Bool) → IsCalm → ((z : Bool) → IsIn (a_vote i k z) votes → z ≡ y)
      → (y ≡ true → IsCovered × ChildrenSaid joined said i k) → (awaits ≡ false → (refused ≡ true) ⊎ (y ≡ true))
      → HasVoted mode i k
      → Token i k awaits refused IsAsked IsCalm IsCovered mode votes joined said

-- the ballot still counts for the proof
abbrev pub Standing : Board → Instance → Option ℕ → Type 0
Standing B (Check k) tent = tent ≡ Some k
Standing B (Rollback k) tent = B.verdict (Rollback k) ≢ No

-- who sent an open ask of this rollback rolls in it, began a rollback, or is down
abbrev pub Away : Mode → ℕ → Type 0
Away Up k = ⊥
Away (Within (Check m) b) k = ⊥
Away (Within (Rollback m) b) k = (b.parent ≡ None) ⊎ (m ≡ k)
Away Down k = Unit {0}

abbrev pub Meant : Instance → Core → ℕ → Label → Type 0
Meant (Check k) c q l = (c.tent ≡ Some k) × (l ≡ top_heard c.log q)
Meant (Rollback k) c q l = Away c.mode k × (c.tent ≡ None) × (l ≡ top_sent c.perm q)

-- an ask under way to q
pub record FineAsk (B : Board) (joined : List Member) (said : List Mark) (cp : Core) (q : ℕ) (i : Instance) (l : Label) (c : ℕ) : Type 0 where
  pub member : IsMember joined i c
  pub unsaid : B.verdict i ≡ Open → IsIn (a_mark i c) said → ⊥
  pub meant : B.verdict i ≡ Open → Meant i cp q l

-- the label with which an ask is made
abbrev pub top_of : Instance → List Act → List Act → ℕ → Label
top_of (Check k) log perm q = top_heard log q
top_of (Rollback k) log perm q = top_sent perm q

-- the token of p's ballot towards q
abbrev pub TokenOf : Board → ℕ → ℕ → Node → Node → List AppMessage → List Message → Instance → Ballot → Type 0
TokenOf B p q np nq kept link i b = Token i (a_key p np.life) (b.awaited q) b.refused
    (Asked i np.life (top_of i np.log np.perm q) (Behind B i) link) (Calm B i np.life (top_of i np.log np.perm q) kept link)
    (Cover i (core nq) p (top_of i np.log np.perm q)) nq.mode nq.votes nq.joined nq.said

-- p sends to q: what q keeps from p and what stands on the link from p to q
pub record Pair (B : Board) (p q : ℕ) (np nq : Node) (kept : List AppMessage) (link : List Message) : Type 0 where
  -- what q's permanent checkpoint heard, p's has sent
  pub agree : UpTo (top_heard nq.perm p) (top_sent np.perm q)
  pub caused : (by : ℕ) (l : Label) → IsIn (Hears by p l) nq.log → Caused B p q (core np) nq.mode nq.perm by l
  pub chain : Rising (Carried (core np) q) (next_label np) (top_heard nq.log p) (kept ++ apps link)
  pub asks : (i : Instance) (l : Label) (c : ℕ) → IsIn (Ask i l c) link → FineAsk B np.joined np.said (core np) q i l c
  pub token : (i : Instance) (b : Ballot) → np.mode ≡ Within i b → Standing B i np.tent → TokenOf B p q np nq kept link i b
  pub votes : (i : Instance) (c : ℕ) (y : Bool) → IsIn (a_vote i (a_key p c) y) nq.votes → IsMember np.joined i c
  -- a tentative checkpoint whose node said yes: what it heard from q is sent
  pub cover : (k : ℕ) → np.tent ≡ Some k → IsIn (a_mark (Check k) np.life) np.said
      → Cover (Check k) (core nq) p (top_heard np.log q)

abbrev pub Way : Mode → Option ℕ → Type 0
Way Up tent = tent ≡ None
Way (Within (Check k) b) tent = (j : ℕ) → tent ≡ Some j → j ≡ k
Way (Within (Rollback k) b) tent = tent ≡ None
Way Down tent = Unit {0}

-- a member in the present incarnation of an open instance
abbrev pub Engaged : Instance → Mode → Option ℕ → Type 0
Engaged (Check k) mode tent = tent ≡ Some k
Engaged (Rollback k) mode tent = (instance_of mode ≡ Some (Rollback k)) ⊎ (mode ≡ Down)

pub record BallotFits (peer : ℕ → ℕ → Bool) (o : ℕ) (n : Node) (i : Instance) (b : Ballot) : Type 0 where
  pub member : IsIn (a_member i n.life b.parent) n.joined
  pub firm : IsIn (a_mark i n.life) n.said → IsAgreed peer o b

-- one node
pub record Local (peer : ℕ → ℕ → Bool) (B : Board) (o : ℕ) (n : Node) : Type 0 where
  pub falls : Falls n.log
  pub tail : IsTail n.perm n.log
  pub room : (q : ℕ) → Under (top_sent n.log q) (next_label n)
  pub from : (by x : ℕ) (l : Label) → IsIn (Hears by x l) n.log → IsTrue (peer x o)
  pub way : Way n.mode n.tent
  pub ballot : (i : Instance) (b : Ballot) → n.mode ≡ Within i b → BallotFits peer o n i b
  pub root : (k : ℕ) (b : Ballot) → n.mode ≡ Within (Rollback k) b → b.parent ≡ None → n.log ≡ n.perm
  pub members : (i : Instance) (c : ℕ) → IsMember n.joined i c → (c ≤ n.life) × (B.begun i ≡ true)
  pub present : (i : Instance) → IsMember n.joined i n.life → B.verdict i ≡ Open → Engaged i n.mode n.tent
  pub marks : (i : Instance) (c : ℕ) → IsIn (a_mark i c) n.said → IsMember n.joined i c
  pub holding : (k : ℕ) → n.tent ≡ Some k → (B.verdict (Check k) ≡ Open) × IsMember n.joined (Check k) n.life

-- the parents of a member lead to the initiator
pub data Descends (J : ℕ → List Member) (i : Instance) : ℕ → ℕ → Type 0 where
  first : {x c : ℕ} → IsIn (a_member i c None) (J x) → Descends J i x c
  child : {x c : ℕ} (k : Key) → IsIn (a_member i c (Some k)) (J x) → Descends J i k.node k.life → Descends J i x c

-- who joined and who said yes
pub record Trees (peer : ℕ → ℕ → Bool) (B : Board) (J : ℕ → List Member) (S : ℕ → List Mark) : Type 0 where
  pub descends : (x : ℕ) (i : Instance) (c : ℕ) → IsMember (J x) i c → Descends J i x c
  pub below : (x : ℕ) (i : Instance) (c : ℕ) (k : Key) → IsIn (a_member i c (Some k)) (J x) → B.verdict i ≡ Open
      → IsIn (a_mark i k.life) (S k.node) → IsIn (a_mark i c) (S x)
  pub every : (x : ℕ) (i : Instance) (c : ℕ) → IsMember (J x) i c → B.verdict i ≡ Yes → IsIn (a_mark i c) (S x)
  pub root : (x y : ℕ) (i : Instance) (c d : ℕ) → IsIn (a_member i c None) (J x) → IsIn (a_member i d None) (J y)
      → (x ≡ y) × (c ≡ d)
  pub parents : (x : ℕ) (i : Instance) (c : ℕ) (k : Key) → IsIn (a_member i c (Some k)) (J x) → IsMember (J k.node) i k.life
  pub asker : (x : ℕ) (i : Instance) (c : ℕ) (k : Key) → IsIn (a_member i c (Some k)) (J x) → IsTrue (peer k.node x)

-- the invariant
pub record Invariant (peer : ℕ → ℕ → Bool) (s : State) : Type 0 where
  pub fresh : (i : Instance) → s.board.begun i ≡ false → s.board.verdict i ≡ Open
  pub local : (o : ℕ) → Local peer s.board o (s.node o)
  pub pair : (p q : ℕ) → IsTrue (peer p q) → Pair s.board p q (s.node p) (s.node q) ((s.node q).kept p) (s.link p q)
  pub trees : Trees peer s.board (λ x. (s.node x).joined) (λ x. (s.node x).said)
