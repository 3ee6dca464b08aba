-- A checkpoint is a field, and is all of its bytes.
-- Cited by `Ckpt::decode`, `Ckpt::encode`, `CkptHeader::decode`, `decode::checkpoint_at`, `encode::encode_parts`;
--   other crates.
use Rattle.std.proofs.Common.{append_assoc, ◌≡◌, ℕ, ◌^◌, ◌<◌, Bool, true, false, cond, eqb, List, [], ◌∷◌, ◌++◌, length, map, Result, Ok, Err, refl, sym, ap}
use Rattle.std.proofs.Common.{◌≤◌, take, subst, ◌∙◌, arith}
use Rattle.std.specs.Prelude.{◌≢◌, All, IfOk, OnOk}
use Rattle.std.specs.Global.{Vec}
use Rattle.std.specs.declared.alloc.AllocError.{AllocError}
use Rattle.std.specs.List.{flat_map, zip}
use Rattle.std.specs.Int.{w64, to_be_bytes}
use Rattle.std.proofs.lemmas.Bool.{eqb-true, ne_eqb}
use Rattle.std.proofs.lemmas.List.{append-nil, length-map, nil_from_length}
use Rattle.std.proofs.lemmas.List.Elements.{All-cons, All-head, All-map, All-nil, All-tail, All-weaker}
use Rattle.kt_tuple.specs.declared.node.NodeId.{NodeId}
use Rattle.kt_tuple.specs.declared.node.NodeId.TheVariants.{Worker, Shard}
use Rattle.kt_link.specs.declared.label.Label.{Label}
use Rattle.kt_ckpt.specs.declared.error.CkptError.{CkptError}
use Rattle.kt_ckpt.specs.declared.error.CkptError.TheVariants.{Cut, Extra, Magic, Version}
use Rattle.kt_ckpt.specs.declared.state.State.{State}
use Rattle.kt_ckpt.specs.declared.state.State.TheVariants as states
use Rattle.kt_ckpt.specs.Fields.{WorkerFields, ShardFields}
use Rattle.kt_ckpt.specs.Limits.{magic, version}
use Rattle.kt_ckpt.specs.declared.acts.LogAct.{LogAct}
use Rattle.kt_ckpt.specs.Acts.{IsActOf, IsSpelledAct, act_bytes, act_at}
use Rattle.kt_ckpt.specs.Reading.{◌>>=◌, Gives, made, number_at, list_at}
use Rattle.kt_ckpt.proofs.ActFields.{IsHeldAct, act_field, act_lasts}
use Rattle.kt_ckpt.specs.State.{IsWorker, IsShard}
use Rattle.kt_ckpt.specs.Node.{IsNode, node_bytes, node_at}
use Rattle.kt_ckpt.specs.Checkpoint.{Checkpoint, Suits, IsLabel, IsState, IsCheckpoint, peers_bytes, state_bytes, spelling, magic_at}
use Rattle.kt_ckpt.specs.Header.{HeaderFields, fields_of, header_at, header_of}
use Rattle.kt_ckpt.specs.Checkpoint.{version_at, peers_at, state_at, checkpoint_of, checkpoint_at, read}
use Rattle.kt_ckpt.proofs.Field.{IsBytes, Takes, IsField, Lasts, the_ok, bind_ok, front_is_cut}
use Rattle.kt_ckpt.proofs.Combined.{behind, behind_lasts, made_field, made_lasts}
use Rattle.kt_ckpt.proofs.Primitive.{wide64, number_field, number_lasts, list_field, list_lasts}
use Rattle.kt_ckpt.proofs.Loop.{both_appended}
use Rattle.kt_ckpt.proofs.States.{worker_field, worker_lasts, shard_field, shard_lasts}
use Rattle.kt_ckpt.proofs.Front.{magic_field, magic_lasts, version_field, version_lasts, too_few, other_magic, other_version}
use Rattle.kt_ckpt.proofs.Nodes.{node_field, node_lasts}
use Rattle.kt_ckpt.proofs.Peers.{IsPeer, HavePeers, peers_field, peers_lasts, firsts, seconds, zipped, zip_len, zip_all}

-- ---- the state

worker_state : (i : ℕ) (s : State) → Suits (Worker i) s × IsState s → (w : WorkerFields) × (IsWorker w × (states.Worker w ≡ s))
worker_state i (states.Worker w) h = (w, (h.1, refl))
worker_state i (states.Shard s) h = absurd h.0

shard_state : (i : ℕ) (s : State) → Suits (Shard i) s × IsState s → (w : ShardFields) × (IsShard w × (states.Shard w ≡ s))
shard_state i (states.Worker w) h = absurd h.0
shard_state i (states.Shard s) h = (s, (h.1, refl))

state_field : (n : NodeId) → IsField state_bytes (λ s. Suits n s × IsState s) (state_at n)
unfolding state_at
state_field (Worker i) =
    let f = made_field worker_field states.Worker state_bytes (λ s. Suits (Worker i) s × IsState s) (λ w h. refl) (λ w h. (tt, h)) (worker_state i) in
    record { again = f.again; takes = f.takes }
state_field (Shard i) =
    let f = made_field shard_field states.Shard state_bytes (λ s. Suits (Shard i) s × IsState s) (λ w h. refl) (λ w h. (tt, h)) (shard_state i) in
    record { again = f.again; takes = f.takes }

state_lasts : (n : NodeId) → Lasts (state_at n)
unfolding state_at
state_lasts (Worker i) = let l = made_lasts states.Worker worker_lasts in record { goes_on = l.goes_on }
state_lasts (Shard i) = let l = made_lasts states.Shard shard_lasts in record { goes_on = l.goes_on }

-- ---- a checkpoint

-- the acts behind the state
abbrev with_state : NodeId → ℕ → List (Label × Label) → State → List ℕ → Result (Checkpoint × List ℕ) CkptError
with_state n l ps s bytes = made (checkpoint_of n l ps s) (list_at (act_at n) l bytes)

abbrev with_peers : NodeId → ℕ → List (Label × Label) → List ℕ → Result (Checkpoint × List ℕ) CkptError
with_peers n l ps bytes = state_at n bytes >>= λ s. with_state n l ps s.0 s.1

abbrev with_log : NodeId → ℕ → List ℕ → Result (Checkpoint × List ℕ) CkptError
with_log n l bytes = peers_at bytes >>= λ ps. with_peers n l ps.0 ps.1

abbrev with_node : NodeId → List ℕ → Result (Checkpoint × List ℕ) CkptError
with_node n bytes = number_at w64 bytes >>= λ l. with_log n l.0 l.1

abbrev with_version : ℕ → List ℕ → Result (Checkpoint × List ℕ) CkptError
with_version v bytes = node_at bytes >>= λ n. with_node n.0 n.1

abbrev with_magic : List ℕ → List ℕ → Result (Checkpoint × List ℕ) CkptError
with_magic m bytes = version_at bytes >>= λ v. with_version v.0 v.1

abbrev from_state : Checkpoint → List ℕ
from_state c = state_bytes c.state ++ flat_map act_bytes c.acts

abbrev from_peers : Checkpoint → List ℕ
from_peers c = peers_bytes (zip c.sent c.received) ++ from_state c

abbrev from_log : Checkpoint → List ℕ
from_log c = to_be_bytes w64 c.line_len ++ from_peers c

abbrev from_node : Checkpoint → List ℕ
from_node c = node_bytes c.node ++ from_log c

have_peers : (c : Checkpoint) → IsCheckpoint c → HavePeers (zip c.sent c.received)
have_peers c h =
    let len = zip_len c.sent c.received h.peers.2 in
    ((omega (arith, len, h.peers.0), omega (arith, len, h.peers.1)), zip_all c.sent c.received h.sent h.received)

checkpoint_is : (n : NodeId) (l : ℕ) (ps : List (Label × Label)) (s : State) (c : Checkpoint) → n ≡ c.node → l ≡ c.line_len → ps ≡ zip c.sent c.received
    → s ≡ c.state → length c.sent ≡ length c.received → checkpoint_of n l ps s c.acts ≡ c
checkpoint_is n l ps s c a b d g e =
    let of : NodeId → ℕ → List Label → List Label → Checkpoint =
    λ n l s r. record { node = n; line_len = l; sent = s; received = r; state = c.state; acts = c.acts } in
    ap (λ (n : NodeId). checkpoint_of n l ps s c.acts) a ∙ ap (λ (l : ℕ). checkpoint_of c.node l ps s c.acts) b
    ∙ ap (λ (ps : List (Label × Label)). checkpoint_of c.node c.line_len ps s c.acts) d
    ∙ ap (λ (s : State). checkpoint_of c.node c.line_len (zip c.sent c.received) s c.acts) g
    ∙ ap (λ (s : List Label). of c.node c.line_len s (map (λ p. p.1) (zip c.sent c.received))) (firsts c.sent c.received e)
    ∙ ap (λ (r : List Label). of c.node c.line_len c.sent r) (seconds c.sent c.received e)

made_checkpoint : (n : NodeId) (l : ℕ) (ps : List (Label × Label)) (s : State) (acts : List LogAct) → IsNode n → l < 2 ^ 64 → HavePeers ps
    → Suits n s × IsState s → (length acts ≡ l) × All (IsHeldAct n) acts → IsCheckpoint (checkpoint_of n l ps s acts)
made_checkpoint n l ps s acts hn hl hp hs ha = record {
  node = hn;
  line_len = hl;
  peers = (
    omega (arith, length-map ps (λ (p : Label × Label). p.0), hp.0.0),
    omega (arith, length-map ps (λ (p : Label × Label). p.0), hp.0.1),
    length-map ps (λ (p : Label × Label). p.0) ∙ sym (length-map ps (λ (p : Label × Label). p.1)),
  );
  sent = All-map IsLabel (λ (p : Label × Label). p.0) ps (All-weaker IsPeer (λ p. IsLabel p.0) (λ p h. h.0) ps hp.1);
  received = All-map IsLabel (λ (p : Label × Label). p.1) ps (All-weaker IsPeer (λ p. IsLabel p.1) (λ p h. h.1) ps hp.1);
  suits = hs.0;
  state = hs.1;
  long = ha.0;
  acts = All-weaker (IsHeldAct n) (IsActOf n) (λ a h. h.0) acts ha.1;
  spelled = All-weaker (IsHeldAct n) IsSpelledAct (λ a h. h.1) acts ha.1;
}

all-both : (n : NodeId) (acts : List LogAct) → All (IsActOf n) acts → All IsSpelledAct acts → All (IsHeldAct n) acts
all-both n [] a b = All-nil (IsHeldAct n)
all-both n (x ∷ xs) a b =
    All-cons (IsHeldAct n) x xs (All-head (IsActOf n) x xs a, All-head IsSpelledAct x xs b)
    (all-both n xs (All-tail (IsActOf n) x xs a) (All-tail IsSpelledAct x xs b))

checkpoint_field : IsField spelling IsCheckpoint checkpoint_at
unfolding checkpoint_at
checkpoint_field =
    let f = behind magic_field (λ (c : Checkpoint). magic) (λ c. version ∷ from_node c) IsCheckpoint with_magic (λ c h. refl)
    (λ m hm. behind version_field (λ (c : Checkpoint). version) from_node (λ c. IsCheckpoint c × (m ≡ magic)) with_version (λ c h. refl)
    (λ v hv. behind node_field (λ (c : Checkpoint). c.node) from_log (λ c. (IsCheckpoint c × (m ≡ magic)) × (v ≡ version)) with_node (λ c h. h.0.0.node)
    (λ n hn. behind (number_field w64 (2 ^ 64) wide64) (λ (c : Checkpoint). c.line_len) from_peers
    (λ c. ((IsCheckpoint c × (m ≡ magic)) × (v ≡ version)) × (n ≡ c.node)) (with_log n) (λ c h. h.0.0.0.line_len)
    (λ l hl. behind peers_field (λ (c : Checkpoint). zip c.sent c.received) from_state
    (λ c. (((IsCheckpoint c × (m ≡ magic)) × (v ≡ version)) × (n ≡ c.node)) × (l ≡ c.line_len)) (with_peers n l) (λ c h. have_peers c h.0.0.0.0)
    (λ ps hp. behind (state_field n) (λ (c : Checkpoint). c.state) (λ c. flat_map act_bytes c.acts)
    (λ c. ((((IsCheckpoint c × (m ≡ magic)) × (v ≡ version)) × (n ≡ c.node)) × (l ≡ c.line_len)) × (ps ≡ zip c.sent c.received)) (with_state n l ps)
    (λ c h. (subst (λ (k : NodeId). Suits k c.state) (sym h.0.0.1) h.0.0.0.0.0.suits, h.0.0.0.0.0.state))
    (λ s hs. made_field (list_field (act_field n hn) l) (checkpoint_of n l ps s) (λ c. flat_map act_bytes c.acts)
    (λ c. (((((IsCheckpoint c × (m ≡ magic)) × (v ≡ version)) × (n ≡ c.node)) × (l ≡ c.line_len)) × (ps ≡ zip c.sent c.received)) × (s ≡ c.state))
    (λ acts h. refl)
    (λ acts h. ((((((made_checkpoint n l ps s acts hn hl hp hs h, hm), hv), refl), refl), zipped ps), refl))
    (λ c h. (
      c.acts,
      (
        (
          h.0.0.0.0.0.0.long ∙ sym h.0.0.1,
          all-both n c.acts (subst (λ (k : NodeId). All (IsActOf k) c.acts) (sym h.0.0.0.1) h.0.0.0.0.0.0.acts) h.0.0.0.0.0.0.spelled,
        ),
        checkpoint_is n l ps s c h.0.0.0.1 h.0.0.1 h.0.1 h.1 h.0.0.0.0.0.0.peers.2,
      ),
    )))))))) in
    record { again = f.again; takes = f.takes }

checkpoint_lasts : Lasts checkpoint_at
unfolding checkpoint_at
checkpoint_lasts =
    let l = behind_lasts with_magic magic_lasts
    (λ m. behind_lasts with_version version_lasts
    (λ v. behind_lasts with_node node_lasts
    (λ n. behind_lasts (with_log n) (number_lasts w64)
    (λ l. behind_lasts (with_peers n l) peers_lasts
    (λ ps. behind_lasts (with_state n l ps) (state_lasts n)
    (λ s. made_lasts (checkpoint_of n l ps s) (list_lasts (act_lasts n) l))))))) in
    record { goes_on = l.goes_on }

-- ---- its header

abbrev header_peers : NodeId → ℕ → List (Label × Label) → Result HeaderFields CkptError
header_peers n l ps = Ok (fields_of n l (map (λ p. p.0) ps) (map (λ p. p.1) ps))

abbrev header_log : NodeId → ℕ → List ℕ → Result HeaderFields CkptError
header_log n l bytes = peers_at bytes >>= λ ps. header_peers n l ps.0

abbrev header_node : NodeId → List ℕ → Result HeaderFields CkptError
header_node n bytes = number_at w64 bytes >>= λ l. header_log n l.0 l.1

abbrev header_version : List ℕ → Result HeaderFields CkptError
header_version bytes = node_at bytes >>= λ n. header_node n.0 n.1

abbrev header_magic : List ℕ → Result HeaderFields CkptError
header_magic bytes = version_at bytes >>= λ v. header_version v.1

-- ---- all of the bytes

abbrev if_ended : Checkpoint × List ℕ → Result Checkpoint CkptError
if_ended c = cond (eqb (length c.1) 0) (Ok c.0) (Err Extra)

ended : (x : Checkpoint × List ℕ) (c : Checkpoint) → if_ended x ≡ Ok c → x.0 ≡ c
ended x c e = by (eqb (length x.1) 0) e where
  by : (b : Bool) → cond b (the_ok x.0) (Err Extra) ≡ Ok c → x.0 ≡ c
  by true e = cc
  by false e = absurd cc

same_checkpoint : {k c : Checkpoint} {rest : List ℕ} {x : Checkpoint × List ℕ} → the_ok (k, rest) ≡ Ok x → x.0 ≡ c → k ≡ c
same_checkpoint e same = cc

pub read_again : (c : Checkpoint) → IsCheckpoint c → read (spelling c) ≡ Ok c
unfolding read
read_again c h =
    ap (λ (r : Result (Checkpoint × List ℕ) CkptError). r >>= if_ended) (ap checkpoint_at (sym (append-nil (spelling c))) ∙ checkpoint_field.again c [] h)

pub read_takes : (bytes : List ℕ) (c : Checkpoint) → IsBytes bytes → read bytes ≡ Ok c → IsCheckpoint c × (bytes ≡ spelling c)
unfolding read
read_takes bytes c fits e =
    let a = bind_ok (checkpoint_at bytes) if_ended c e in
    let t = checkpoint_field.takes bytes a.0.0 a.0.1 fits a.1 in
    by a.0.0 a.0.1 t (eqb (length a.0.1) 0) refl a.2 where
      by : (x : Checkpoint) (rest : List ℕ) → Takes bytes (spelling x) rest × IsCheckpoint x → (b : Bool) → eqb (length rest) 0 ≡ b
          → cond b (the_ok x) (Err Extra) ≡ Ok c → IsCheckpoint c × (bytes ≡ spelling c)
      by x rest t true p e =
          let same : x ≡ c = cc in
          let nothing : rest ≡ [] = nil_from_length rest (eqb-true _ _ p) in
          subst (λ (y : Checkpoint). IsCheckpoint y × (bytes ≡ spelling y)) same
          (t.1, t.0.parts ∙ ap (λ (r : List ℕ). spelling x ++ r) nothing ∙ append-nil (spelling x))
      by x rest t false p e = absurd cc

pub front_cut : (c : Checkpoint) (front : List ℕ) (b : ℕ) (more : List ℕ) → IsCheckpoint c → spelling c ≡ front ++ b ∷ more → read front ≡ Err Cut
unfolding read
front_cut c front b more h e = ap (λ (r : Result (Checkpoint × List ℕ) CkptError). r >>= if_ended)
    (front_is_cut checkpoint_field checkpoint_lasts c front b more h e)

pub more_extra : (c : Checkpoint) (bytes : List ℕ) (b : ℕ) (more : List ℕ) → IsCheckpoint c → bytes ≡ spelling c ++ b ∷ more → read bytes ≡ Err Extra
unfolding read
more_extra c bytes b more h e =
    ap (λ (r : Result (Checkpoint × List ℕ) CkptError). r >>= if_ended) (ap checkpoint_at e ∙ checkpoint_field.again c (b ∷ more) h)
    ∙ ap (λ (t : Bool). cond t (the_ok c) (Err Extra)) (ne_eqb (length (b ∷ more)) 0 (λ z. omega (arith, z)))

-- ---- bytes that do not begin as a checkpoint does

abbrev from_magic : Result (List ℕ × List ℕ) CkptError → Result Checkpoint CkptError
from_magic front = (front >>= λ m. with_magic m.0 m.1) >>= if_ended

pub begins_short : (bytes : List ℕ) → length bytes < 4 → read bytes ≡ Err Cut
unfolding read checkpoint_at
begins_short bytes h = ap from_magic (too_few bytes h)

pub begins_otherwise : (bytes : List ℕ) → 4 ≤ length bytes → take 4 bytes ≢ magic → read bytes ≡ Err Magic
unfolding read checkpoint_at
begins_otherwise bytes h never = ap from_magic (other_magic bytes h never)

pub is_otherwise : (bytes : List ℕ) (v : ℕ) (more : List ℕ) → bytes ≡ magic ++ v ∷ more → v ≢ version → read bytes ≡ Err Version
unfolding read checkpoint_at
is_otherwise bytes v more e never =
    ap from_magic (ap magic_at e ∙ magic_field.again magic (v ∷ more) refl)
    ∙ ap (λ (r : Result (ℕ × List ℕ) CkptError). (r >>= λ u. with_version u.0 u.1) >>= if_ended) (other_version v more never)

-- ---- what the code answers

pub is_found : (bytes : List ℕ) (r : Result Checkpoint CkptError) → IsBytes bytes → Gives (λ (c : Checkpoint). c) r (read bytes)
    → IfOk r (λ c. IsCheckpoint c × (bytes ≡ spelling c))
is_found bytes (Ok c) fits given = read_takes bytes c fits given
is_found bytes (Err e) fits given = tt

pub is_read_back : (r : Result (Vec ℕ) AllocError) (c : Checkpoint) → IfOk r (λ v. v.items ≡ spelling c) → OnOk r (IsCheckpoint c)
    → IfOk r (λ v. read v.items ≡ Ok c)
is_read_back (Ok v) c e h = ap read e ∙ read_again c h
is_read_back (Err x) c e h = tt

-- ---- what the code does step by step

pub read_checkpoint : (bytes r1 r2 : List ℕ) (n : NodeId) (r3 : List ℕ) (l : ℕ) (r4 : List ℕ) (ps : List (Label × Label)) (r5 : List ℕ) (s : State)
    (r6 : List ℕ) (acts : List LogAct) (r7 : List ℕ)
    → magic_at bytes ≡ Ok (magic, r1) → version_at r1 ≡ Ok (version, r2) → node_at r2 ≡ Ok (n, r3) → number_at w64 r3 ≡ Ok (l, r4)
    → peers_at r4 ≡ Ok (ps, r5) → state_at n r5 ≡ Ok (s, r6)
    → list_at (act_at n) l r6 ≡ Ok (acts, r7) → checkpoint_at bytes ≡ Ok (checkpoint_of n l ps s acts, r7)
unfolding checkpoint_at
read_checkpoint bytes r1 r2 n r3 l r4 ps r5 s r6 acts r7 a b c d e f g =
    ap (λ (r : Result (List ℕ × List ℕ) CkptError). r >>= λ m. with_magic m.0 m.1) a
    ∙ ap (λ (r : Result (ℕ × List ℕ) CkptError). r >>= λ v. with_version v.0 v.1) b
    ∙ ap (λ (r : Result (NodeId × List ℕ) CkptError). r >>= λ n. with_node n.0 n.1) c
    ∙ ap (λ (r : Result (ℕ × List ℕ) CkptError). r >>= λ l. with_log n l.0 l.1) d
    ∙ ap (λ (r : Result (List (Label × Label) × List ℕ) CkptError). r >>= λ ps. with_peers n l ps.0 ps.1) e
    ∙ ap (λ (r : Result (State × List ℕ) CkptError). r >>= λ s. with_state n l ps s.0 s.1) f
    ∙ ap (made (checkpoint_of n l ps s)) g

-- the header of a checkpoint are read of its spelling
pub header_again : (c : Checkpoint) → IsCheckpoint c → header_at (spelling c) ≡ Ok (header_of c)
unfolding header_at read checkpoint_at
header_again c h =
    let all = bind_ok (checkpoint_at (spelling c)) if_ended c (read_again c h) in
    let m = bind_ok (magic_at (spelling c)) (λ m. with_magic m.0 m.1) all.0 all.1 in
    let v = bind_ok (version_at m.0.1) (λ v. with_version v.0 v.1) all.0 m.2 in
    let n = bind_ok (node_at v.0.1) (λ n. with_node n.0 n.1) all.0 v.2 in
    let l = bind_ok (number_at w64 n.0.1) (λ l. with_log n.0.0 l.0 l.1) all.0 n.2 in
    let ps = bind_ok (peers_at l.0.1) (λ ps. with_peers n.0.0 l.0.0 ps.0 ps.1) all.0 l.2 in
    let s = bind_ok (state_at n.0.0 ps.0.1) (λ s. with_state n.0.0 l.0.0 ps.0.0 s.0 s.1) all.0 ps.2 in
    let acts = bind_ok (list_at (act_at n.0.0) l.0.0 s.0.1) (λ a. the_ok (checkpoint_of n.0.0 l.0.0 ps.0.0 s.0.0 a.0, a.1)) all.0 s.2 in
    ap (λ (r : Result (List ℕ × List ℕ) CkptError). r >>= λ m. header_magic m.1) m.1
    ∙ ap (λ (r : Result (ℕ × List ℕ) CkptError). r >>= λ v. header_version v.1) v.1
    ∙ ap (λ (r : Result (NodeId × List ℕ) CkptError). r >>= λ n. header_node n.0 n.1) n.1
    ∙ ap (λ (r : Result (ℕ × List ℕ) CkptError). r >>= λ l. header_log n.0.0 l.0 l.1) l.1
    ∙ ap (λ (r : Result (List (Label × Label) × List ℕ) CkptError). r >>= λ ps. header_peers n.0.0 l.0.0 ps.0) ps.1
    ∙ ap (λ (k : Checkpoint). the_ok (header_of k)) (same_checkpoint acts.2 (ended all.0 c all.2))

pub spelled_out : (o0 o1 o2 o3 o4 o5 o6 : List ℕ) (c : Checkpoint) → o0 ≡ [] → o1 ≡ o0 ++ (magic ++ version ∷ []) → o2 ≡ o1 ++ node_bytes c.node
    → o3 ≡ o2 ++ to_be_bytes w64 c.line_len → o4 ≡ o3 ++ peers_bytes (zip c.sent c.received) → o5 ≡ o4 ++ state_bytes c.state
    → o6 ≡ o5 ++ flat_map act_bytes c.acts → o6 ≡ spelling c
spelled_out o0 o1 o2 o3 o4 o5 o6 c e0 e1 e2 e3 e4 e5 e6 =
    let more : o6 ≡ o4 ++ from_state c = both_appended o4 o5 o6 (state_bytes c.state) (flat_map act_bytes c.acts) e5 e6 in
    let a1 : o1 ≡ magic ++ version ∷ [] = e1 ∙ ap (λ (o : List ℕ). o ++ (magic ++ version ∷ [])) e0 in
    let a2 = both_appended [] o1 o2 (magic ++ version ∷ []) (node_bytes c.node) a1 e2 in
    let a3 = both_appended [] o2 o3 ((magic ++ version ∷ []) ++ node_bytes c.node) (to_be_bytes w64 c.line_len) a2 e3 in
    let a4 = both_appended [] o3 o4 (((magic ++ version ∷ []) ++ node_bytes c.node) ++ to_be_bytes w64 c.line_len)
    (peers_bytes (zip c.sent c.received)) a3 e4 in
    let a5 = both_appended [] o4 o6 ((((magic ++ version ∷ []) ++ node_bytes c.node) ++ to_be_bytes w64 c.line_len) ++ peers_bytes (zip c.sent c.received))
    (from_state c) a4 more in
    a5 ∙ regrouped (magic ++ version ∷ []) (node_bytes c.node) (to_be_bytes w64 c.line_len) (peers_bytes (zip c.sent c.received)) (from_state c)
  where
    regrouped : (a b c d e : List ℕ) → (((a ++ b) ++ c) ++ d) ++ e ≡ a ++ (b ++ (c ++ (d ++ e)))
    regrouped a b c d e = simp append_assoc
