-- A checkpoint of format 1 is read as its spelling says.
-- Cited by `Ckpt::decode_old`, `Ckpt::encode_old`, `old::encode_old`, `old::old_checkpoint_at`.
use Rattle.std.proofs.Common.{append_assoc, ◌≡◌, ℕ, ◌≤◌, Bool, true, false, cond, eqb, leb, ◌&&◌, List, [], ◌∷◌, ◌++◌, length, map, Result, Ok, Err}
use Rattle.std.proofs.Common.{refl, sym, ap, subst, ◌∙◌, arith}
use Rattle.std.specs.Prelude.{◌≢◌, All, IfOk}
use Rattle.std.specs.List.{zip}
use Rattle.std.specs.Int.{w64, to_be_bytes}
use Rattle.std.proofs.lemmas.Bool.{and_parts, and_from, eqb-true, ne_eqb, leb-true, le-leb}
use Rattle.std.proofs.lemmas.List.{append-nil, length-map, nil_from_length}
use Rattle.std.proofs.lemmas.List.Elements.{All-map, All-weaker}
use Rattle.kt_tuple.specs.declared.node.NodeId.{NodeId}
use Rattle.kt_link.specs.declared.label.Label.{Label}
use Rattle.kt_ckpt.specs.declared.acts.LogAct.{LogAct}
use Rattle.kt_ckpt.specs.declared.error.CkptError.{CkptError}
use Rattle.kt_ckpt.specs.declared.error.CkptError.TheVariants.{Cut, Extra, Version}
use Rattle.kt_ckpt.specs.declared.old_limits.TheConstants.{OLD_PEERS}
use Rattle.kt_ckpt.specs.declared.state.State.{State}
use Rattle.kt_ckpt.specs.Acts.{IsActOf}
use Rattle.kt_ckpt.specs.Checkpoint.{Checkpoint, Suits, IsLabel, peers_bytes, state_bytes, magic_at, checkpoint_of}
use Rattle.kt_ckpt.specs.Limits.{magic}
use Rattle.kt_ckpt.specs.Node.{node_bytes}
use Rattle.kt_ckpt.specs.Old.{IsOldCheckpoint, spelling_old, log_at, old_checkpoint_at, old_node_at, old_peers_at, old_version_at}
use Rattle.kt_ckpt.specs.Old.{read_old}
use Rattle.kt_ckpt.specs.OldLimits.{is_old_node, is_old_state, old_version}
use Rattle.kt_ckpt.specs.OldState.{old_state_at}
use Rattle.kt_ckpt.specs.Reading.{◌>>=◌, Gives, made}
use Rattle.kt_ckpt.proofs.Field.{IsBytes, Takes, IsField, Lasts, the_ok, bind_ok, front_is_cut}
use Rattle.kt_ckpt.proofs.Combined.{behind, behind_lasts, made_field, made_lasts}
use Rattle.kt_ckpt.proofs.Front.{magic_field, magic_lasts}
use Rattle.kt_ckpt.proofs.Loop.{both_appended}
use Rattle.kt_ckpt.proofs.OldStates.{IsOldStateOf, old_state_field, old_state_lasts}
use Rattle.kt_ckpt.proofs.Peers.{IsPeer, firsts, seconds, zipped, zip_len, zip_all}
use Rattle.kt_ckpt.proofs.OldParts.{IsOldNode, old_node_field, old_node_lasts, IsLogOf, log_field, log_lasts, log_of, of_log, HaveOldPeers}
use Rattle.kt_ckpt.proofs.OldParts.{old_peers_field, old_peers_lasts, old_version_field, old_version_lasts, other_old_version}

-- ---- a checkpoint

module _ (acts : List LogAct) where
  abbrev with_peers : NodeId → ℕ → List (Label × Label) → List ℕ → Result (Checkpoint × List ℕ) CkptError
  with_peers n l ps bytes = made (λ s. checkpoint_of n l ps s acts) (old_state_at n bytes)

  abbrev with_log : NodeId → ℕ → List ℕ → Result (Checkpoint × List ℕ) CkptError
  with_log n l bytes = old_peers_at bytes >>= λ ps. with_peers n l ps.0 ps.1

  abbrev with_node : NodeId → List ℕ → Result (Checkpoint × List ℕ) CkptError
  with_node n bytes = log_at acts n bytes >>= λ l. with_log n l.0 l.1

  abbrev with_version : ℕ → List ℕ → Result (Checkpoint × List ℕ) CkptError
  with_version v bytes = old_node_at bytes >>= λ n. with_node n.0 n.1

  abbrev with_magic : List ℕ → List ℕ → Result (Checkpoint × List ℕ) CkptError
  with_magic m bytes = old_version_at bytes >>= λ v. with_version v.0 v.1

  -- what has an old spelling, with these acts
  abbrev IsOldWith : Checkpoint → Type 0
  IsOldWith c = IsOldCheckpoint c × (c.acts ≡ acts)

  checkpoint_is : (n : NodeId) (l : ℕ) (ps : List (Label × Label)) (s : State) (c : Checkpoint) → n ≡ c.node → l ≡ c.line_len
      → ps ≡ zip c.sent c.received → s ≡ c.state → length c.sent ≡ length c.received → c.acts ≡ acts → checkpoint_of n l ps s acts ≡ c
  checkpoint_is n l ps s c a b d g e k =
      let of : List Label → List Label → List LogAct → Checkpoint =
      λ s r us. record { node = c.node; line_len = c.line_len; sent = s; received = r; state = c.state; acts = us } in
      ap (λ (n : NodeId). checkpoint_of n l ps s acts) a ∙ ap (λ (l : ℕ). checkpoint_of c.node l ps s acts) b
      ∙ ap (λ (ps : List (Label × Label)). checkpoint_of c.node c.line_len ps s acts) d
      ∙ ap (λ (s : State). checkpoint_of c.node c.line_len (zip c.sent c.received) s acts) g
      ∙ ap (λ (s : List Label). of s (map (λ p. p.1) (zip c.sent c.received)) acts) (firsts c.sent c.received e)
      ∙ ap (λ (r : List Label). of c.sent r acts) (seconds c.sent c.received e) ∙ ap (of c.sent c.received) (sym k)

  made_old : (n : NodeId) (l : ℕ) (ps : List (Label × Label)) (s : State) → IsOldNode n → IsLogOf acts n l → HaveOldPeers ps → IsOldStateOf n s
      → IsOldCheckpoint (checkpoint_of n l ps s acts)
  made_old n l ps s hn hl hp hs =
      let log = log_of acts n l hl.1 in
      let len = length-map ps (λ (p : Label × Label). p.0) in
      record {
        node = hn.0;
        line_len = hl.0;
        peers = (omega (arith, len, hp.0.0), omega (arith, len, hp.0.1), len ∙ sym (length-map ps (λ (p : Label × Label). p.1)));
        sent = All-map IsLabel (λ (p : Label × Label). p.0) ps (All-weaker IsPeer (λ p. IsLabel p.0) (λ p h. h.0) ps hp.1);
        received = All-map IsLabel (λ (p : Label × Label). p.1) ps (All-weaker IsPeer (λ p. IsLabel p.1) (λ p h. h.1) ps hp.1);
        suits = hs.0;
        state = hs.1.0;
        limits = and_from _ _ hn.1 (and_from _ _ (le-leb (length (map (λ (p : Label × Label). p.0) ps)) OLD_PEERS (omega (arith, len, hp.0.1))) hs.1.1);
        long = log.0;
        acts = log.1;
      }

  -- the limits of its parts
  limits_of : (c : Checkpoint) → IsOldCheckpoint c → (is_old_node c.node ≡ true) × (length c.sent ≤ OLD_PEERS) × (is_old_state c.state ≡ true)
  limits_of c h =
      let few = leb (length c.sent) OLD_PEERS in
      let parts = and_parts (is_old_node c.node) (few && is_old_state c.state) h.limits in
      let more = and_parts few (is_old_state c.state) parts.1 in
      (parts.0, leb-true (length c.sent) OLD_PEERS more.0, more.1)

  have_old_peers : (c : Checkpoint) → IsOldCheckpoint c → HaveOldPeers (zip c.sent c.received)
  have_old_peers c h =
      let len = zip_len c.sent c.received h.peers.2 in
      ((omega (arith, len, h.peers.0), omega (arith, len, (limits_of c h).1)), zip_all c.sent c.received h.sent h.received)

  abbrev from_peers : Checkpoint → List ℕ
  from_peers c = peers_bytes (zip c.sent c.received) ++ state_bytes c.state

  abbrev from_log : Checkpoint → List ℕ
  from_log c = to_be_bytes w64 c.line_len ++ from_peers c

  abbrev from_node : Checkpoint → List ℕ
  from_node c = node_bytes c.node ++ from_log c

  log_is : (n : NodeId) (c : Checkpoint) → IsOldWith c → n ≡ c.node → IsLogOf acts n c.line_len
  log_is n c h e = (
    h.0.line_len,
    of_log acts n c.line_len (ap length (sym h.1) ∙ h.0.long)
        (subst (λ (us : List LogAct). All (IsActOf n) us) h.1 (subst (λ (k : NodeId). All (IsActOf k) c.acts) (sym e) h.0.acts)),
  )

  old_checkpoint_field : IsField spelling_old IsOldWith (old_checkpoint_at acts)
  unfolding old_checkpoint_at
  old_checkpoint_field =
      let f = behind magic_field (λ (c : Checkpoint). magic) (λ c. old_version ∷ from_node c) IsOldWith with_magic (λ c h. refl)
      (λ m hm. behind old_version_field (λ (c : Checkpoint). old_version) from_node (λ c. IsOldWith c × (m ≡ magic)) with_version (λ c h. refl)
      (λ v hv. behind old_node_field (λ (c : Checkpoint). c.node) from_log (λ c. (IsOldWith c × (m ≡ magic)) × (v ≡ old_version)) with_node
      (λ c h. (h.0.0.0.node, (limits_of c h.0.0.0).0))
      (λ n hn. behind (log_field acts n) (λ (c : Checkpoint). c.line_len) from_peers
      (λ c. ((IsOldWith c × (m ≡ magic)) × (v ≡ old_version)) × (n ≡ c.node)) (with_log n) (λ c h. log_is n c h.0.0.0 h.1)
      (λ l hl. behind old_peers_field (λ (c : Checkpoint). zip c.sent c.received) (λ c. state_bytes c.state)
      (λ c. (((IsOldWith c × (m ≡ magic)) × (v ≡ old_version)) × (n ≡ c.node)) × (l ≡ c.line_len)) (with_peers n l) (λ c h. have_old_peers c h.0.0.0.0.0)
      (λ ps hp. made_field (old_state_field n) (λ s. checkpoint_of n l ps s acts) (λ c. state_bytes c.state)
      (λ c. ((((IsOldWith c × (m ≡ magic)) × (v ≡ old_version)) × (n ≡ c.node)) × (l ≡ c.line_len)) × (ps ≡ zip c.sent c.received)) (λ s h. refl)
      (λ s hs. ((((((made_old n l ps s hn hl hp hs, refl), hm), hv), refl), refl), zipped ps))
      (λ c h. (
        c.state,
        (
          (
            subst (λ (k : NodeId). Suits k c.state) (sym h.0.0.1) h.0.0.0.0.0.0.suits,
            (h.0.0.0.0.0.0.state, (limits_of c h.0.0.0.0.0.0).2),
          ),
          checkpoint_is n l ps c.state c h.0.0.1 h.0.1 h.1 refl h.0.0.0.0.0.0.peers.2 h.0.0.0.0.0.1,
        ),
      ))))))) in
      record { again = f.again; takes = f.takes }

  old_checkpoint_lasts : Lasts (old_checkpoint_at acts)
  unfolding old_checkpoint_at
  old_checkpoint_lasts =
      let l = behind_lasts with_magic magic_lasts
      (λ m. behind_lasts with_version old_version_lasts
      (λ v. behind_lasts with_node old_node_lasts
      (λ n. behind_lasts (with_log n) (log_lasts acts n)
      (λ l. behind_lasts (with_peers n l) old_peers_lasts
      (λ ps. made_lasts (λ s. checkpoint_of n l ps s acts) (old_state_lasts n)))))) in
      record { goes_on = l.goes_on }

  -- ---- all of the bytes

  abbrev if_ended : Checkpoint × List ℕ → Result Checkpoint CkptError
  if_ended c = cond (eqb (length c.1) 0) (Ok c.0) (Err Extra)

  pub old_read_again : (c : Checkpoint) → IsOldCheckpoint c → c.acts ≡ acts → read_old acts (spelling_old c) ≡ Ok c
  unfolding read_old
  old_read_again c h k =
      ap (λ (r : Result (Checkpoint × List ℕ) CkptError). r >>= if_ended)
      (ap (old_checkpoint_at acts) (sym (append-nil (spelling_old c))) ∙ old_checkpoint_field.again c [] (h, k))

  pub old_read_takes : (bytes : List ℕ) (c : Checkpoint) → IsBytes bytes → read_old acts bytes ≡ Ok c
      → IsOldCheckpoint c × (c.acts ≡ acts) × (bytes ≡ spelling_old c)
  unfolding read_old
  old_read_takes bytes c fits e =
      let a = bind_ok (old_checkpoint_at acts bytes) if_ended c e in
      let t = old_checkpoint_field.takes bytes a.0.0 a.0.1 fits a.1 in
      by a.0.0 a.0.1 t (eqb (length a.0.1) 0) refl a.2 where
        by : (x : Checkpoint) (rest : List ℕ) → Takes bytes (spelling_old x) rest × IsOldWith x → (b : Bool) → eqb (length rest) 0 ≡ b
            → cond b (the_ok x) (Err Extra) ≡ Ok c → IsOldCheckpoint c × (c.acts ≡ acts) × (bytes ≡ spelling_old c)
        by x rest t true p e =
            let same : x ≡ c = cc in
            let nothing : rest ≡ [] = nil_from_length rest (eqb-true _ _ p) in
            subst (λ (y : Checkpoint). IsOldCheckpoint y × (y.acts ≡ acts) × (bytes ≡ spelling_old y)) same
            (t.1.0, t.1.1, t.0.parts ∙ ap (λ (r : List ℕ). spelling_old x ++ r) nothing ∙ append-nil (spelling_old x))
        by x rest t false p e = absurd cc

  pub old_front_cut : (c : Checkpoint) (front : List ℕ) (b : ℕ) (more : List ℕ) → IsOldCheckpoint c → c.acts ≡ acts → spelling_old c ≡ front ++ b ∷ more
      → read_old acts front ≡ Err Cut
  unfolding read_old
  old_front_cut c front b more h k e = ap (λ (r : Result (Checkpoint × List ℕ) CkptError). r >>= if_ended)
      (front_is_cut old_checkpoint_field old_checkpoint_lasts c front b more (h, k) e)

  pub old_more_extra : (c : Checkpoint) (bytes : List ℕ) (b : ℕ) (more : List ℕ) → IsOldCheckpoint c → c.acts ≡ acts
      → bytes ≡ spelling_old c ++ b ∷ more → read_old acts bytes ≡ Err Extra
  unfolding read_old
  old_more_extra c bytes b more h k e =
      ap (λ (r : Result (Checkpoint × List ℕ) CkptError). r >>= if_ended)
      (ap (old_checkpoint_at acts) e ∙ old_checkpoint_field.again c (b ∷ more) (h, k))
      ∙ ap (λ (t : Bool). cond t (the_ok c) (Err Extra)) (ne_eqb (length (b ∷ more)) 0 (λ z. omega (arith, z)))

  pub is_other_version : (bytes : List ℕ) (v : ℕ) (more : List ℕ) → bytes ≡ magic ++ v ∷ more → v ≢ old_version → read_old acts bytes ≡ Err Version
  unfolding read_old old_checkpoint_at
  is_other_version bytes v more e never =
      ap (λ (r : Result (List ℕ × List ℕ) CkptError). (r >>= λ m. with_magic m.0 m.1) >>= if_ended)
      (ap magic_at e ∙ magic_field.again magic (v ∷ more) refl)
      ∙ ap (λ (r : Result (ℕ × List ℕ) CkptError). (r >>= λ u. with_version u.0 u.1) >>= if_ended) (other_old_version v more never)

  -- ---- what the code answers

  pub old_is_found : (bytes : List ℕ) (r : Result Checkpoint CkptError) → IsBytes bytes → Gives (λ (c : Checkpoint). c) r (read_old acts bytes)
      → IfOk r (λ c. IsOldCheckpoint c × (c.acts ≡ acts) × (bytes ≡ spelling_old c))
  old_is_found bytes (Ok c) fits given = old_read_takes bytes c fits given
  old_is_found bytes (Err e) fits given = tt

  -- what the code does step by step
  pub old_read_checkpoint : (bytes r1 r2 : List ℕ) (n : NodeId) (r3 : List ℕ) (l : ℕ) (r4 : List ℕ) (ps : List (Label × Label)) (r5 : List ℕ) (s : State)
      (r6 : List ℕ) → magic_at bytes ≡ Ok (magic, r1) → old_version_at r1 ≡ Ok (old_version, r2) → old_node_at r2 ≡ Ok (n, r3)
      → log_at acts n r3 ≡ Ok (l, r4) → old_peers_at r4 ≡ Ok (ps, r5) → old_state_at n r5 ≡ Ok (s, r6)
      → old_checkpoint_at acts bytes ≡ Ok (checkpoint_of n l ps s acts, r6)
  unfolding old_checkpoint_at
  old_read_checkpoint bytes r1 r2 n r3 l r4 ps r5 s r6 a b c d e f =
      ap (λ (r : Result (List ℕ × List ℕ) CkptError). r >>= λ m. with_magic m.0 m.1) a
      ∙ ap (λ (r : Result (ℕ × List ℕ) CkptError). r >>= λ v. with_version v.0 v.1) b
      ∙ ap (λ (r : Result (NodeId × List ℕ) CkptError). r >>= λ n. with_node n.0 n.1) c
      ∙ ap (λ (r : Result (ℕ × List ℕ) CkptError). r >>= λ l. with_log n l.0 l.1) d
      ∙ ap (λ (r : Result (List (Label × Label) × List ℕ) CkptError). r >>= λ ps. with_peers n l ps.0 ps.1) e
      ∙ ap (made (λ s. checkpoint_of n l ps s acts)) f

pub spelled_old : (o0 o1 o2 o3 o4 o5 : List ℕ) (c : Checkpoint) → o0 ≡ [] → o1 ≡ o0 ++ (magic ++ old_version ∷ []) → o2 ≡ o1 ++ node_bytes c.node
    → o3 ≡ o2 ++ to_be_bytes w64 c.line_len → o4 ≡ o3 ++ peers_bytes (zip c.sent c.received) → o5 ≡ o4 ++ state_bytes c.state → o5 ≡ spelling_old c
spelled_old o0 o1 o2 o3 o4 o5 c e0 e1 e2 e3 e4 e5 =
    let front = magic ++ old_version ∷ [] in
    let a1 : o1 ≡ front = e1 ∙ ap (λ (o : List ℕ). o ++ front) e0 in
    let a2 = both_appended [] o1 o2 front (node_bytes c.node) a1 e2 in
    let a3 = both_appended [] o2 o3 (front ++ node_bytes c.node) (to_be_bytes w64 c.line_len) a2 e3 in
    let a4 = both_appended [] o3 o4 ((front ++ node_bytes c.node) ++ to_be_bytes w64 c.line_len) (peers_bytes (zip c.sent c.received)) a3 e4 in
    let a5 = both_appended [] o4 o5 (((front ++ node_bytes c.node) ++ to_be_bytes w64 c.line_len) ++ peers_bytes (zip c.sent c.received))
    (state_bytes c.state) a4 e5 in
    a5 ∙ regrouped front (node_bytes c.node) (to_be_bytes w64 c.line_len) (peers_bytes (zip c.sent c.received)) (state_bytes c.state)
  where
    regrouped : (a b c d e : List ℕ) → (((a ++ b) ++ c) ++ d) ++ e ≡ a ++ (b ++ (c ++ (d ++ e)))
    regrouped a b c d e = simp append_assoc
