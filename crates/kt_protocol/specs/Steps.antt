-- The steps of the machine: what a node may do, when, and what becomes of the state. The machine may do all that the
-- tables of steps and arrivals allow, and more. A vote or a verdict has no message of its own that must be taken off a
-- link. A message may be kept or dropped, a no said, an open instance given up at any time.
-- Cited by Answers, Cases, Casts, Checks, Consequences, Cuts, Examples, Grounds, Invariant, Joins, Keeps, Main,
--   Rises, Rows, Starts, Streams, Talks, Verdicts, Votes, laws.rt, specs/Rows, specs/Runs; other crates.
use Rattle.std.specs.Prelude.{◌≡◌, ◌⊎◌, ℕ, suc, eqb, Bool, true, false, not, ◌||◌, if◌then◌else◌, IsTrue, List, [], ◌∷◌}
use Rattle.std.specs.Prelude.{◌++◌, Option, Some, None, ⊤}
use Rattle.kt_protocol.specs.Labels.{Label, Under, UpTo, up_to, at}
use Rattle.kt_protocol.specs.Logs.{IsIn, Act, Sends, Hears, top_sent, top_heard}
use Rattle.kt_protocol.specs.Machine.{Instance, Check, Rollback, Verdict, Open, Yes, No, Key, key_of, Ballot, Up}
use Rattle.kt_protocol.specs.Machine.{Within, Down, AppMessage, Message, App, Ask, Node, State, at_instance}
use Rattle.kt_protocol.specs.Machine.{instance_of}
use Rattle.kt_protocol.specs.Machine.{next_label}

-- the owner's node becomes another
abbrev pub change : ℕ → (Node → Node) → State → State
change o f s = record s { node = at o (f (s.node o)) s.node }

-- the front of the link from x to o is taken off, and this is left
abbrev pub pull : ℕ → ℕ → List Message → State → State
pull x o rest s = record s { link = λ p q. if eqb q o then (if eqb p x then rest else s.link p q) else s.link p q }

-- what o sends to each node is put on its links
abbrev pub push : ℕ → (ℕ → List Message) → State → State
push o send s = record s { link = λ p q. if eqb p o then s.link p q ++ send q else s.link p q }

-- the verdict is written
abbrev pub decide : Instance → Verdict → State → State
decide i v s = record s { board = record s.board { verdict = at_instance i v s.board.verdict } }

-- the instance is begun
abbrev pub begin : Instance → State → State
begin i s = record s { board = record s.board { begun = at_instance i true s.board.begun } }

-- the message goes to y alone
abbrev pub only : ℕ → Message → ℕ → List Message
only y m q = if eqb q y then m ∷ [] else []

-- an act of the node sends the next message to y
abbrev pub sending : ℕ → ℕ → Node → Node
sending by y n = record n { count = suc n.count; log = Sends by y (next_label n) ∷ n.log }

-- an act of the node hears the message from x
abbrev pub hearing : ℕ → AppMessage → Node → Node
hearing x m n = record n { log = Hears m.by x m.label ∷ n.log }

-- what the node keeps from x becomes this
abbrev pub keeping : ℕ → List AppMessage → Node → Node
keeping x ks n = record n { kept = at x ks n.kept }

-- the kept messages up to this label
unfoldable pub sieve : Label → List AppMessage → List AppMessage
sieve l [] = []
sieve l (m ∷ ks) = if up_to m.label l then m ∷ sieve l ks else sieve l ks

-- an ask of a rollback drops what is kept above its label, one of a check drops nothing
abbrev pub sieved : Instance → Label → List AppMessage → List AppMessage
sieved (Check k) l ks = ks
sieved (Rollback k) l ks = sieve l ks

-- the ask drops what it drops of what is kept from x
abbrev pub sifting : Instance → ℕ → Label → Node → Node
sifting i x l n = keeping x (sieved i l (n.kept x)) n

-- the node answers the ask of this key
abbrev pub answering : Instance → Key → Bool → Node → Node
answering i k y n = record n { votes = record { instance = i; asker = k; agrees = y } ∷ n.votes }

-- a check stores a tentative checkpoint
abbrev pub stored : Instance → Option ℕ → Option ℕ
stored (Check k) old = Some k
stored (Rollback k) old = old

-- the node begins to vote in the instance
abbrev pub joining : Instance → Option Key → (ℕ → Bool) → Node → Node
joining i parent cohort n = record n {
  mode = Within i record { parent = parent; awaited = cohort; refused = false; voted = false };
  tent = stored i n.tent;
  joined = record { instance = i; life = n.life; parent = parent } ∷ n.joined;
}

-- the label with which the node asks q: the last label heard from q, or the last sent to q before the permanent
-- checkpoint
abbrev pub ask_label : Instance → Node → ℕ → Label
ask_label (Check k) n q = top_heard n.log q
ask_label (Rollback k) n q = top_sent n.perm q

-- the asks of the cohort
abbrev pub asking : Instance → (ℕ → Bool) → Node → ℕ → List Message
asking i cohort n q = if cohort q then Ask i (ask_label i n q) n.life ∷ [] else []

-- whom the node has to ask: all neighbours in a rollback; in a check those of whom it heard something since its
-- permanent checkpoint
abbrev pub MustAsk : Instance → Node → ℕ → Type 0
MustAsk (Check k) n q = Under (top_heard n.perm q) (top_heard n.log q)
MustAsk (Rollback k) n q = ⊤

-- the cohort: neighbours, and at least those whom the node has to ask
pub record IsCohort (peer : ℕ → ℕ → Bool) (i : Instance) (o : ℕ) (n : Node) (cohort : ℕ → Bool) : Type 0 where
  pub within : (q : ℕ) → cohort q ≡ true → IsTrue (peer o q)
  pub covers : (q : ℕ) → IsTrue (peer o q) → MustAsk i n q → cohort q ≡ true

-- the ask makes a node that is Up join: it heard from x above the label; or the label is above what it sent to x
-- before its permanent checkpoint
abbrev pub MustJoin : Instance → Node → ℕ → Label → Type 0
MustJoin (Check k) n x l = Under (top_sent n.perm x) l
MustJoin (Rollback k) n x l = Under l (top_heard n.log x)

-- the ask is answered yes at once: its permanent checkpoint holds what was heard, or its tentative one of this very
-- check does; or it rolls back in this very instance, or heard nothing above the label
abbrev pub MayAgree : Instance → Node → ℕ → Label → Type 0
MayAgree (Check k) n x l = UpTo l (top_sent n.perm x) ⊎ (n.tent ≡ Some k × UpTo l (top_sent n.log x))
MayAgree (Rollback k) n x l = (instance_of n.mode ≡ Some (Rollback k)) ⊎ UpTo (top_heard n.log x) l

-- a vote of q is counted
abbrev pub counted : ℕ → Bool → Ballot → Ballot
counted q y b = record b { awaited = at q false b.awaited; refused = b.refused || not y }

-- the node counts a vote of q
abbrev pub counting : Instance → Ballot → ℕ → Bool → Node → Node
counting i b q y n = record n { mode = Within i (counted q y b) }

-- nothing is awaited and none refused
pub record IsAgreed (peer : ℕ → ℕ → Bool) (o : ℕ) (b : Ballot) : Type 0 where
  pub complete : (q : ℕ) → IsTrue (peer o q) → b.awaited q ≡ false
  pub none : b.refused ≡ false

-- the node says yes
abbrev pub saying : Instance → Node → Node
saying i n = record n { said = record { instance = i; life = n.life } ∷ n.said }

-- the node has voted
abbrev pub casting : Instance → Ballot → Node → Node
casting i b n = record n { mode = Within i record b { voted = true } }

-- the node votes yes, and says so to itself
abbrev pub consenting : Instance → Ballot → Node → Node
consenting i b n = saying i (casting i b n)

-- the node is up
abbrev pub rising : Node → Node
rising n = record n { mode = Up }

-- no message is kept
abbrev pub nothing_kept : ℕ → List AppMessage
nothing_kept x = []

-- the node is down, with the log that it has
abbrev pub falling : Node → Node
falling n = record n { mode = Down; kept = nothing_kept }

-- the log is cut to the permanent checkpoint
abbrev pub cutting : Node → Node
cutting n = record n { log = n.perm }

-- the permanent checkpoint is loaded in a new incarnation
abbrev pub loading : Node → Node
loading n = record n { life = suc n.life; count = 0; log = n.perm; kept = nothing_kept }

-- what a decided check leaves of a node's tentative checkpoint
abbrev pub released : ℕ → Option ℕ → Option ℕ
released k None = None
released k (Some j) = if eqb j k then None else Some j

-- the permanent checkpoint once this check has Yes
abbrev pub promoted : ℕ → Option ℕ → Node → List Act
promoted k None n = n.perm
promoted k (Some j) n = if eqb j k then n.log else n.perm

-- Yes on a check stands for every node at once, before the node learns of it: its tentative checkpoint is the
-- permanent one
abbrev pub promote : ℕ → State → State
promote k s = record s {
  node = λ x. record (s.node x) { perm = promoted k (s.node x).tent (s.node x); tent = released k (s.node x).tent };
}

-- No on a check stands for every node at once: its tentative checkpoint is given up
abbrev pub discard : ℕ → State → State
discard k s = record s { node = λ x. record (s.node x) { tent = released k (s.node x).tent } }

-- one step, by the node o; `peer` says who are neighbours
pub data Step (peer : ℕ → ℕ → Bool) (s : State) : State → Type 0 where
  -- an act sends a message
  sends : (o y by : ℕ) → IsTrue (peer o y) → (s.node o).mode ≡ Up
      → Step peer s (change o (sending by y)
      (push o (only y (App record { by = by; label = next_label (s.node o) })) s))
  -- a message from x is heard
  hears : (o x : ℕ) (m : AppMessage) (rest : List Message) → IsTrue (peer x o) → (s.node o).mode ≡ Up
      → (s.node o).kept x ≡ [] → s.link x o ≡ App m ∷ rest
      → Step peer s (change o (hearing x m) (pull x o rest s))
  -- a message from x is put behind what is kept
  keeps : (o x : ℕ) (m : AppMessage) (rest : List Message) → IsTrue (peer x o) → s.link x o ≡ App m ∷ rest
      → Step peer s (change o (λ n. keeping x (n.kept x ++ m ∷ []) n) (pull x o rest s))
  -- the first kept message from x is heard
  takes : (o x : ℕ) (m : AppMessage) (ks : List AppMessage) → IsTrue (peer x o) → (s.node o).mode ≡ Up
      → (s.node o).kept x ≡ m ∷ ks
      → Step peer s (change o (λ n. hearing x m (keeping x ks n)) s)
  -- a message is dropped
  drops : (o x : ℕ) (m : AppMessage) (rest : List Message) → IsTrue (peer x o) → s.link x o ≡ App m ∷ rest
      → Step peer s (pull x o rest s)
  -- an ask is dropped
  ignores : (o x : ℕ) (i : Instance) (l : Label) (c : ℕ) (rest : List Message) → IsTrue (peer x o)
      → s.link x o ≡ Ask i l c ∷ rest
      → Step peer s (change o (sifting i x l) (pull x o rest s))
  -- an ask is answered no, at any time
  refuses : (o x : ℕ) (i : Instance) (l : Label) (c : ℕ) (rest : List Message) → IsTrue (peer x o)
      → s.link x o ≡ Ask i l c ∷ rest
      → Step peer s (change o (λ n. answering i (key_of x c) false (sifting i x l n)) (pull x o rest s))
  -- an ask is answered yes at once
  grants : (o x : ℕ) (i : Instance) (l : Label) (c : ℕ) (rest : List Message) → IsTrue (peer x o)
      → s.link x o ≡ Ask i l c ∷ rest → s.board.verdict i ≡ Open → MayAgree i (s.node o) x l
      → Step peer s (change o (λ n. answering i (key_of x c) true (sifting i x l n)) (pull x o rest s))
  -- an ask makes the node join, and ask in its turn
  joins : (o x : ℕ) (i : Instance) (l : Label) (c : ℕ) (rest : List Message) (cohort : ℕ → Bool) → IsTrue (peer x o)
      → s.link x o ≡ Ask i l c ∷ rest → (s.node o).mode ≡ Up → s.board.verdict i ≡ Open → MustJoin i (s.node o) x l
      → IsCohort peer i o (s.node o) cohort
      → Step peer s (change o (λ n. joining i (Some (key_of x c)) cohort (sifting i x l n))
      (push o (asking i cohort (s.node o)) (pull x o rest s)))
  -- a check begins
  begins : (o k : ℕ) (cohort : ℕ → Bool) → (s.node o).mode ≡ Up → s.board.begun (Check k) ≡ false
      → IsCohort peer (Check k) o (s.node o) cohort
      → Step peer s (begin (Check k) (change o (joining (Check k) None cohort)
      (push o (asking (Check k) cohort (s.node o)) s)))
  -- a node that is down begins a rollback, in a new incarnation, from its permanent checkpoint
  restarts : (o k : ℕ) (cohort : ℕ → Bool) → (s.node o).mode ≡ Down → (s.node o).tent ≡ None
      → (s.node o).log ≡ (s.node o).perm → s.board.begun (Rollback k) ≡ false
      → IsCohort peer (Rollback k) o (s.node o) cohort
      → Step peer s (begin (Rollback k) (change o (λ n. joining (Rollback k) None cohort (loading n))
      (push o (asking (Rollback k) cohort (loading (s.node o))) s)))
  -- a vote of q on the node's ask is counted
  counts : (o q : ℕ) (i : Instance) (b : Ballot) (y : Bool) → IsTrue (peer o q) → (s.node o).mode ≡ Within i b
      → b.awaited q ≡ true
      → IsIn record { instance = i; asker = key_of o (s.node o).life; agrees = y } (s.node q).votes
      → Step peer s (change o (counting i b q y) s)
  -- a participant votes yes
  agrees : (o : ℕ) (i : Instance) (b : Ballot) (k : Key) → (s.node o).mode ≡ Within i b → b.parent ≡ Some k
      → b.voted ≡ false → IsAgreed peer o b
      → Step peer s (change o (λ n. answering i k true (consenting i b n)) s)
  -- a participant votes no, at any time
  declines : (o : ℕ) (i : Instance) (b : Ballot) (k : Key) → (s.node o).mode ≡ Within i b → b.parent ≡ Some k
      → b.voted ≡ false
      → Step peer s (change o (λ n. answering i k false (casting i b n)) s)
  -- the initiator of a rollback decides Yes and is up
  decides_rollback : (o k : ℕ) (b : Ballot) → (s.node o).mode ≡ Within (Rollback k) b → b.parent ≡ None
      → s.board.verdict (Rollback k) ≡ Open → IsAgreed peer o b
      → Step peer s (decide (Rollback k) Yes (change o rising (change o (consenting (Rollback k) b) s)))
  -- the initiator of a check decides Yes
  decides_check : (o k : ℕ) (b : Ballot) → (s.node o).mode ≡ Within (Check k) b → b.parent ≡ None
      → s.board.verdict (Check k) ≡ Open → IsAgreed peer o b
      → Step peer s (promote k (decide (Check k) Yes (change o (consenting (Check k) b) s)))
  -- an instance that is not decided gets No
  gives_up_rollback : (k : ℕ) → s.board.begun (Rollback k) ≡ true → s.board.verdict (Rollback k) ≡ Open
      → Step peer s (decide (Rollback k) No s)
  gives_up_check : (k : ℕ) → s.board.begun (Check k) ≡ true → s.board.verdict (Check k) ≡ Open
      → Step peer s (discard k (decide (Check k) No s))
  -- a participant of a rollback learns Yes: it loads its permanent checkpoint
  learns_yes : (o k : ℕ) (b : Ballot) → (s.node o).mode ≡ Within (Rollback k) b
      → s.board.verdict (Rollback k) ≡ Yes
      → Step peer s (change o (λ n. rising (loading n)) s)
  -- a participant of a rollback learns No
  learns_no : (o k : ℕ) (b : Ballot) (p : Key) → (s.node o).mode ≡ Within (Rollback k) b → b.parent ≡ Some p
      → s.board.verdict (Rollback k) ≡ No
      → Step peer s (change o rising s)
  -- a node whose check is decided is up
  releases : (o k : ℕ) (b : Ballot) → (s.node o).mode ≡ Within (Check k) b → (s.node o).tent ≡ None
      → Step peer s (change o rising s)
  -- a node fails, or is down and learns that its tentative checkpoint is given up
  fails : (o : ℕ) → (s.node o).tent ≡ None
      → Step peer s (change o (λ n. falling (cutting n)) s)
  -- a node fails with a tentative checkpoint of a check that is not decided
  fails_holding : (o k : ℕ) → (s.node o).tent ≡ Some k
      → Step peer s (change o falling s)
