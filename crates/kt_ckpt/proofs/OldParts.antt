-- The parts of a checkpoint of format 1 but for its state: the node, the length of its log, labels, the version.
-- Cited by OldCheckpoints.
use Rattle.std.proofs.Common.{◌≡◌, ℕ, ◌^◌, ◌<◌, ◌≤◌, Bool, true, false, cond, eqb, leb, ◌&&◌, List, [], ◌∷◌, ◌++◌, length, Result, Ok, Err}
use Rattle.std.proofs.Common.{refl, sym, ap, subst, ◌∙◌, arith}
use Rattle.std.specs.Prelude.{◌≢◌, All}
use Rattle.std.specs.Bool.{Decides}
use Rattle.std.specs.List.{list_all}
use Rattle.std.specs.Int.{w64, to_be_bytes}
use Rattle.std.proofs.lemmas.Bool.{and_parts, and_from, eqb-true, eqb-false, eq-eqb, ne_eqb, leb-true, le-leb}
use Rattle.std.proofs.lemmas.List.Elements.{All-nil, All-cons, All-head, All-tail}
use Rattle.kt_tuple.specs.declared.node.NodeId.{NodeId}
use Rattle.kt_tuple.specs.declared.node.NodeId.TheVariants.{Worker, Shard}
use Rattle.kt_tuple.specs.declared.node.TheConstants.{MAX_SHARDS}
use Rattle.kt_link.specs.declared.label.Label.{Label}
use Rattle.kt_ckpt.specs.declared.acts.LogAct.{LogAct}
use Rattle.kt_ckpt.specs.declared.error.CkptError.{CkptError}
use Rattle.kt_ckpt.specs.declared.error.CkptError.TheVariants.{Field, Version}
use Rattle.kt_ckpt.specs.declared.old_limits.TheConstants.{OLD_WORKERS, OLD_PEERS}
use Rattle.kt_ckpt.specs.Acts.{IsActOf, is_act_of}
use Rattle.kt_ckpt.specs.Checkpoint.{IsLabel, peers_bytes, label_at, peer_at, label_bytes}
use Rattle.kt_ckpt.specs.Checkpoint.{peer_bytes}
use Rattle.kt_ckpt.specs.Limits.{worker_code, shard_code}
use Rattle.kt_ckpt.specs.Node.{IsNode, node_bytes}
use Rattle.kt_ckpt.specs.Old.{log_if, log_at, old_node_at, old_node_behind, old_peers_at, old_version_at}
use Rattle.kt_ckpt.specs.OldLimits.{is_old_node, old_version}
use Rattle.kt_ckpt.specs.Reading.{◌>>=◌, made, byte_at, byte_within, number_at}
use Rattle.kt_ckpt.proofs.Field.{IsBytes, Takes, IsField, Lasts, the_ok, pair_of_ok, bind_ok}
use Rattle.kt_ckpt.proofs.Combined.{known_lasts, fault, refused, refused_lasts, same_field, either_lasts, behind, behind_lasts, made_field, made_lasts}
use Rattle.kt_ckpt.proofs.Ops.{coded}
use Rattle.kt_ckpt.proofs.Tuples.{counted_field, counted_lasts}
use Rattle.kt_ckpt.proofs.Peers.{IsPeer}
use Rattle.kt_ckpt.proofs.Primitive.{byte_field, byte_lasts, byte_within_field, byte_within_lasts, wide64, number_field, number_lasts}

-- ---- a node

abbrev pub IsOldNode : NodeId → Type 0
IsOldNode n = IsNode n × (is_old_node n ≡ true)

abbrev node_code : NodeId → ℕ
node_code (Worker i) = worker_code
node_code (Shard i) = shard_code

abbrev index_bytes : NodeId → List ℕ
index_bytes (Worker i) = i ∷ []
index_bytes (Shard i) = i ∷ []

abbrev IsNodeBehind : ℕ → NodeId → Type 0
IsNodeBehind code n = IsOldNode n × (code ≡ node_code n)

worker_to : (i : ℕ) → (1 ≤ i) × (i ≤ OLD_WORKERS) → IsNodeBehind worker_code (Worker i)
worker_to i h = (((h.0, omega (arith, h.1)), le-leb i OLD_WORKERS h.1), refl)

worker_from : (n : NodeId) → IsNodeBehind worker_code n → (i : ℕ) × (((1 ≤ i) × (i ≤ OLD_WORKERS)) × (Worker i ≡ n))
worker_from (Worker i) h = (i, ((h.0.0.0, leb-true i OLD_WORKERS h.0.1), refl))
worker_from (Shard i) h = absurd (omega (arith, h.1))

shard_from : (n : NodeId) → IsNodeBehind shard_code n → (i : ℕ) × (((1 ≤ i) × (i ≤ MAX_SHARDS)) × (Shard i ≡ n))
shard_from (Worker i) h = absurd (omega (arith, h.1))
shard_from (Shard i) h = (i, (h.0.0, refl))

no_node : (code : ℕ) (n : NodeId) → eqb code worker_code ≡ false → eqb code shard_code ≡ false → (IsNodeBehind code n → ⊥)
no_node code (Worker i) a b h = eqb-false code worker_code a h.1
no_node code (Shard i) a b h = eqb-false code shard_code b h.1

abbrev a_worker : List ℕ → Result (NodeId × List ℕ) CkptError
a_worker bytes = made Worker (byte_within 1 OLD_WORKERS bytes)

abbrev a_shard : List ℕ → Result (NodeId × List ℕ) CkptError
a_shard bytes = made Shard (byte_within 1 MAX_SHARDS bytes)

old_node_behind_field : (code : ℕ) → IsField index_bytes (IsNodeBehind code) (old_node_behind code)
old_node_behind_field code =
    let f = coded IsNodeBehind a_worker (λ bytes. cond (eqb code shard_code) (a_shard bytes) (fault Field bytes)) code worker_code
    (made_field (byte_within_field 1 OLD_WORKERS (omega arith)) Worker index_bytes (IsNodeBehind worker_code) (λ i h. refl) worker_to worker_from)
    (λ a. coded IsNodeBehind a_shard (fault Field) code shard_code
    (made_field (byte_within_field 1 MAX_SHARDS (omega arith)) Shard index_bytes (IsNodeBehind shard_code) (λ i h. refl) (λ i h. ((h, refl), refl)) shard_from)
    (λ b. refused index_bytes (IsNodeBehind code) Field (λ n. no_node code n a b))) in
    record { again = f.again; takes = f.takes }

old_node_behind_lasts : (code : ℕ) → Lasts (old_node_behind code)
old_node_behind_lasts code =
    let l = either_lasts a_worker (λ bytes. cond (eqb code shard_code) (a_shard bytes) (fault Field bytes)) (eqb code worker_code)
    (made_lasts Worker (byte_within_lasts 1 OLD_WORKERS))
    (either_lasts a_shard (fault Field) (eqb code shard_code) (made_lasts Shard (byte_within_lasts 1 MAX_SHARDS)) (refused_lasts Field)) in
    record { goes_on = l.goes_on }

node_code_is_byte : (n : NodeId) → node_code n < 256
node_code_is_byte (Worker i) = omega arith
node_code_is_byte (Shard i) = omega arith

node_same : (n : NodeId) → node_code n ∷ index_bytes n ≡ node_bytes n
node_same (Worker i) = refl
node_same (Shard i) = refl

pub old_node_field : IsField node_bytes IsOldNode old_node_at
unfolding old_node_at
old_node_field =
    let f = same_field (behind byte_field node_code index_bytes IsOldNode old_node_behind (λ n h. node_code_is_byte n) (λ code lt. old_node_behind_field code))
    node_bytes IsOldNode (λ n h. h) (λ n h. h) (λ n h. node_same n) in
    record { again = f.again; takes = f.takes }

pub old_node_lasts : Lasts old_node_at
unfolding old_node_at
old_node_lasts = let l = behind_lasts old_node_behind byte_lasts old_node_behind_lasts in record { goes_on = l.goes_on }

-- ---- the length of the log, by which the acts are judged

abbrev pub fits_log : List LogAct → NodeId → ℕ → Bool
fits_log acts n l = eqb (length acts) l && list_all (is_act_of n) acts

abbrev pub IsLogOf : List LogAct → NodeId → ℕ → Type 0
IsLogOf acts n l = (l < 2 ^ 64) × (fits_log acts n l ≡ true)

pub log_field : (acts : List LogAct) (n : NodeId) → IsField (λ l. to_be_bytes w64 l) (IsLogOf acts n) (log_at acts n)
unfolding log_at
log_field acts n = record { again = λ l rest h. again l rest h; takes = λ bytes l rest fits e. takes bytes l rest fits e } where
  number : IsField (λ l. to_be_bytes w64 l) (λ l. l < 2 ^ 64) (number_at w64)
  number = number_field w64 (2 ^ 64) wide64

  again : (l : ℕ) (rest : List ℕ) → IsLogOf acts n l → log_at acts n (to_be_bytes w64 l ++ rest) ≡ Ok (l, rest)
  again l rest h =
      ap (λ (r : Result (ℕ × List ℕ) CkptError). r >>= log_if acts n) (number.again l rest h.0)
      ∙ ap (λ (b : Bool). cond b (the_ok {X = ℕ × List ℕ} (l, rest)) (Err Field)) h.1

  takes : (bytes : List ℕ) (l : ℕ) (rest : List ℕ) → IsBytes bytes → log_at acts n bytes ≡ Ok (l, rest)
      → Takes bytes (to_be_bytes w64 l) rest × IsLogOf acts n l
  takes bytes l rest fits e =
      let a = bind_ok (number_at w64 bytes) (log_if acts n) (l, rest) e in
      by a.0 (number.takes bytes a.0.0 a.0.1 fits a.1) (fits_log acts n a.0.0) refl a.2 where
        by : (a : ℕ × List ℕ) → Takes bytes (to_be_bytes w64 a.0) a.1 × (a.0 < 2 ^ 64) → (b : Bool) → fits_log acts n a.0 ≡ b
            → cond b (the_ok {X = ℕ × List ℕ} a) (Err Field) ≡ Ok (l, rest) → Takes bytes (to_be_bytes w64 l) rest × IsLogOf acts n l
        by a t true p e =
            let s = pair_of_ok a (l, rest) e in
            let Both : ℕ → List ℕ → Type 0 = λ k r. Takes bytes (to_be_bytes w64 k) r × IsLogOf acts n k in
            subst (λ (k : ℕ). Both k rest) s.0 (subst (λ (r : List ℕ). Both a.0 r) s.1 (t.0, (t.1, p)))
        by a t false p e = absurd cc

pub log_lasts : (acts : List LogAct) (n : NodeId) → Lasts (log_at acts n)
unfolding log_at
log_lasts acts n =
    let l = behind_lasts (λ l bytes. log_if acts n (l, bytes)) (number_lasts w64)
    (λ l. either_lasts (λ bytes. the_ok {X = ℕ × List ℕ} (l, bytes)) (fault Field) (fits_log acts n l) (known_lasts l) (refused_lasts Field)) in
    record { goes_on = l.goes_on }

pub log_of : (acts : List LogAct) (n : NodeId) (l : ℕ) → fits_log acts n l ≡ true → (length acts ≡ l) × All (IsActOf n) acts
log_of acts n l p =
    let parts = and_parts (eqb (length acts) l) (list_all (is_act_of n) acts) p in
    (eqb-true (length acts) l parts.0, each acts parts.1)
  where
    each : (acts : List LogAct) → list_all (is_act_of n) acts ≡ true → All (IsActOf n) acts
    each [] p = All-nil (IsActOf n)
    each (a ∷ acts) p =
        let parts = and_parts (is_act_of n a) (list_all (is_act_of n) acts) p in
        All-cons (IsActOf n) a acts parts.0 (each acts parts.1)

pub of_log : (acts : List LogAct) (n : NodeId) (l : ℕ) → length acts ≡ l → All (IsActOf n) acts → fits_log acts n l ≡ true
of_log acts n l len all = and_from _ _ (eq-eqb (length acts) l len) (each acts all) where
  each : (acts : List LogAct) → All (IsActOf n) acts → list_all (is_act_of n) acts ≡ true
  each [] h = refl
  each (a ∷ acts) h = and_from _ _ (All-head (IsActOf n) a acts h) (each acts (All-tail (IsActOf n) a acts h))

-- ---- the labels of the neighbours

abbrev label_of : ℕ → ℕ → Label
label_of incarnation count = record { incarnation = incarnation; count = count }

abbrev label_with : ℕ → List ℕ → Result (Label × List ℕ) CkptError
label_with incarnation bytes = made (label_of incarnation) (number_at w64 bytes)

label_field : IsField label_bytes IsLabel label_at
unfolding label_at
label_field =
    let f = behind (number_field w64 (2 ^ 64) wide64) (λ (l : Label). l.incarnation) (λ l. to_be_bytes w64 l.count) IsLabel label_with (λ l h. h.0)
    (λ n hn. made_field (number_field w64 (2 ^ 64) wide64) (label_of n) (λ l. to_be_bytes w64 l.count) (λ l. IsLabel l × (n ≡ l.incarnation)) (λ k h. refl)
    (λ k h. ((hn, h), refl))
    (λ l h. (l.count, (h.0.1, ap (λ (m : ℕ). label_of m l.count) h.1)))) in
    record { again = f.again; takes = f.takes }

label_lasts : Lasts label_at
unfolding label_at
label_lasts = let l = behind_lasts label_with (number_lasts w64) (λ n. made_lasts (label_of n) (number_lasts w64)) in record { goes_on = l.goes_on }

abbrev peer_of : Label → Label → Label × Label
peer_of sent received = (sent, received)

abbrev peer_with : Label → List ℕ → Result ((Label × Label) × List ℕ) CkptError
peer_with sent bytes = made (peer_of sent) (label_at bytes)

peer_field : IsField peer_bytes IsPeer peer_at
unfolding peer_at
peer_field =
    let f = behind label_field (λ (p : Label × Label). p.0) (λ p. label_bytes p.1) IsPeer peer_with (λ p h. h.0)
    (λ s hs. made_field label_field (peer_of s) (λ p. label_bytes p.1) (λ p. IsPeer p × (s ≡ p.0)) (λ r h. refl) (λ r h. ((hs, h), refl))
    (λ p h. (p.1, (h.0.1, ap (λ (m : Label). peer_of m p.1) h.1)))) in
    record { again = f.again; takes = f.takes }

peer_lasts : Lasts peer_at
unfolding peer_at
peer_lasts = let l = behind_lasts peer_with label_lasts (λ s. made_lasts (peer_of s) label_lasts) in record { goes_on = l.goes_on }

abbrev pub HaveOldPeers : List (Label × Label) → Type 0
HaveOldPeers ps = ((1 ≤ length ps) × (length ps ≤ OLD_PEERS)) × All IsPeer ps

pub old_peers_field : IsField peers_bytes HaveOldPeers old_peers_at
unfolding old_peers_at
old_peers_field = let f = counted_field peer_field 1 OLD_PEERS (omega arith) in record { again = f.again; takes = f.takes }

pub old_peers_lasts : Lasts old_peers_at
unfolding old_peers_at
old_peers_lasts = let l = counted_lasts peer_lasts 1 OLD_PEERS in record { goes_on = l.goes_on }

-- ---- the version

is_old_version_decides : (v : ℕ) → Decides (eqb v old_version) (v ≡ old_version)
is_old_version_decides v = (λ e. eqb-true v old_version e, λ e. eq-eqb v old_version e)

abbrev if_old : ℕ × List ℕ → Result (ℕ × List ℕ) CkptError
if_old v = cond (eqb v.0 old_version) (Ok (old_version, v.1)) (Err Version)

pub old_version_field : IsField (λ (v : ℕ). v ∷ []) (λ v. v ≡ old_version) old_version_at
unfolding old_version_at
old_version_field = record { again = λ v rest h. again v rest h; takes = λ bytes v rest fits e. takes bytes v rest fits e } where
  again : (v : ℕ) (rest : List ℕ) → v ≡ old_version → old_version_at (v ∷ rest) ≡ Ok (v, rest)
  again v rest h =
      ap (λ (b : Bool). cond b (the_ok {X = ℕ × List ℕ} (old_version, rest)) (Err Version)) ((is_old_version_decides v).1 h)
      ∙ ap (λ (k : ℕ). the_ok {X = ℕ × List ℕ} (k, rest)) (sym h)

  takes : (bytes : List ℕ) (v : ℕ) (rest : List ℕ) → IsBytes bytes → old_version_at bytes ≡ Ok (v, rest) → Takes bytes (v ∷ []) rest × (v ≡ old_version)
  takes bytes v rest fits e =
      let a = bind_ok (byte_at bytes) if_old (v, rest) e in
      by a.0 (byte_field.takes bytes a.0.0 a.0.1 fits a.1).0 (eqb a.0.0 old_version) refl a.2 where
        by : (a : ℕ × List ℕ) → Takes bytes (a.0 ∷ []) a.1 → (b : Bool) → eqb a.0 old_version ≡ b
            → cond b (the_ok {X = ℕ × List ℕ} (old_version, a.1)) (Err Version) ≡ Ok (v, rest) → Takes bytes (v ∷ []) rest × (v ≡ old_version)
        by a t true p e =
            let s = pair_of_ok (old_version, a.1) (v, rest) e in
            let same : a.0 ≡ v = eqb-true a.0 old_version p ∙ s.0 in
            (subst (λ (k : ℕ). Takes bytes (k ∷ []) rest) same (subst (λ (r : List ℕ). Takes bytes (a.0 ∷ []) r) s.1 t), sym s.0)
        by a t false p e = absurd cc

pub old_version_lasts : Lasts old_version_at
unfolding old_version_at
old_version_lasts =
    let l = behind_lasts (λ v bytes. if_old (v, bytes)) byte_lasts
    (λ v. either_lasts (λ bytes. the_ok {X = ℕ × List ℕ} (old_version, bytes)) (fault Version) (eqb v old_version) (known_lasts old_version)
    (refused_lasts Version)) in
    record { goes_on = l.goes_on }

pub other_old_version : (v : ℕ) (more : List ℕ) → v ≢ old_version → old_version_at (v ∷ more) ≡ Err Version
unfolding old_version_at
other_old_version v more never =
    ap (λ (b : Bool). cond b (the_ok {X = ℕ × List ℕ} (old_version, more)) (Err Version)) (ne_eqb v old_version never)
