-- Two contents of which the same counts as permanent: what fits a scene in one fits it in the other.
-- Cited by Founds, Resumes.
use Rattle.std.proofs.Common.{◌≡◌, ℕ, true, zero, suc, ◌+◌, ◌<◌, ◌≤◌, ◌^◌, List, [], ◌∷◌, map, filter, Option, None, Some, refl, sym, ap, ◌∙◌, subst, slice_get}
use Rattle.std.proofs.Common.{length}
use Rattle.std.specs.Prelude.{IfSome, IsTrue, is_some}
use Rattle.std.specs.List.{list_all}
use Rattle.std.specs.Option.{option_map}
use Rattle.kt_tuple.specs.declared.node.NodeId.{NodeId}
use Rattle.kt_tuple.specs.Node.{is_before}
use Rattle.kt_history.specs.declared.note.Note.{Note}
use Rattle.kt_history.specs.Closed.{acts_in_log}
use Rattle.kt_history.specs.Log.{log}
use Rattle.kt_link.specs.declared.label.Label.{Label}
use Rattle.kt_ckpt.specs.Acts.{is_act_of}
use Rattle.kt_ckpt.specs.Header.{header_of}
use Rattle.kt_ckpt.specs.declared.acts.LogAct.{LogAct}
use Rattle.kt_ckpt.specs.declared.ckpt.Ckpt.{Ckpt}
use Rattle.kt_store.specs.Content.{Content, instance_row, row_of}
use Rattle.kt_logs.specs.Legal.{IsLog}
use Rattle.kt_state.specs.Labels.{up_to}
use Rattle.kt_state.specs.Node.{node_number}
use Rattle.kt_state.specs.Stored.{sent_in, received_in}
use Rattle.kt_model.specs.Asks.{setting_of}
use Rattle.kt_scenario.specs.Scene.{SceneModel, are_neighbours}
use Rattle.kt_model.specs.Cut.{acts_held, permanent_length, permanent_of}
use Rattle.kt_model.specs.Effect.{noted}
use Rattle.kt_model.specs.Like.{HoldsFront, acts_stored}
use Rattle.kt_model.specs.Placing.{Acts, next_note, note_of, or_else, placed}
use Rattle.kt_model.specs.Resumed.{FitsIn, IsFit, IsOf, MakesSense, acts_of, all_held, heard_from, history_of, nodes_of, sent_to, sum_of}

-- the same counts as permanent, and the incarnations are the same
pub record AreAlike (c d : Content) : Type 0 where
  pub permanent : (p : NodeId) → permanent_of d p ≡ permanent_of c p
  pub incarnation : (p : NodeId) → (row_of d p).incarnation ≡ (row_of c p).incarnation

pub turned : (c d : Content) → AreAlike c d → AreAlike d c
turned c d same = record { permanent = λ p. sym (same.permanent p); incarnation = λ p. sym (same.incarnation p) }

-- ---- the history

next-same : (a b : Acts) → ((p : NodeId) → a p ≡ b p) → (h : List Note) (nodes : List NodeId) → next_note a h nodes ≡ next_note b h nodes
unfolding next_note
next-same a b same h [] = refl
next-same a b same h (p ∷ later) =
    ap (λ (l : List LogAct). or_else (note_of h p (slice_get l (length (log h p)))) (next_note a h later)) (same p)
    ∙ ap (or_else (note_of h p (slice_get (b p) (length (log h p))))) (next-same a b same h later)

placed-same : (a b : Acts) → ((p : NodeId) → a p ≡ b p) → (nodes : List NodeId) (n : ℕ) (h : List Note) → placed a nodes n h ≡ placed b nodes n h
unfolding placed
placed-same a b same nodes zero h = refl
placed-same a b same nodes (suc n) h =
    placed-same a b same nodes n (noted h (next_note a h nodes)) ∙ ap (λ o. placed b nodes n (noted h o)) (next-same a b same h nodes)

held-same : (c d : Content) → AreAlike c d → (nodes : List NodeId) → all_held d nodes ≡ all_held c nodes
unfolding sum_of
held-same c d same [] = refl
held-same c d same (p ∷ later) =
    ap (λ o. acts_held o + all_held d later) (same.permanent p) ∙ ap (λ n. permanent_length c p + n) (held-same c d same later)

pub history-same : (scene : SceneModel) (c d : Content) → AreAlike c d → history_of scene d ≡ history_of scene c
history-same scene c d same =
    placed-same (acts_of d) (acts_of c) (λ p. ap acts_stored (same.permanent p)) (nodes_of scene) (all_held d (nodes_of scene)) []
    ∙ ap (λ n. placed (acts_of c) (nodes_of scene) n []) (held-same c d same (nodes_of scene))

-- ---- what fits

fits-same : (scene : SceneModel) (c d : Content) → AreAlike c d → (h k : List Note) → k ≡ h → (p : NodeId) → FitsIn scene d k p → FitsIn scene c h p
fits-same scene c d same h k is p fits = record {
  of = subst (λ o. IfSome o (IsOf scene p)) e fits.of;
  whole = subst (λ o. length (acts_stored o) ≡ acts_held o) e fits.whole;
  shaped = subst (λ o. list_all (is_act_of p) (acts_stored o) ≡ true) e fits.shaped;
  placed = subst (λ (l : List Note). length (log l p) ≡ permanent_length c p) is (subst (λ o. length (log k p) ≡ acts_held o) e fits.placed);
  sense = subst (λ (l : List Note). MakesSense l p) is fits.sense;
  allowed = subst (λ (l : List Note). IsLog (setting_of scene) p (acts_in_log l p)) is fits.allowed;
  leads = subst (λ (l : List Note). HoldsFront scene p (acts_in_log l p) (permanent_of c p)) is (subst (HoldsFront scene p (acts_in_log k p)) e fits.leads);
} where
  e : permanent_of d p ≡ permanent_of c p
  e = same.permanent p

sent-same : (c d : Content) → AreAlike c d → (p q : NodeId) → sent_to d p q ≡ sent_to c p q
sent-same c d same p q = ap (λ o. sent_in (option_map header_of o) (node_number q)) (same.permanent p)

heard-same : (c d : Content) → AreAlike c d → (p q : NodeId) → heard_from d p q ≡ heard_from c p q
heard-same c d same p q = ap (λ o. received_in (option_map header_of o) (node_number q)) (same.permanent p)

-- what fits in one fits in the other, where its tentative checkpoint's instance is on the board there too
pub fit-alike : (scene : SceneModel) (c d : Content) → AreAlike c d → (p : NodeId)
    → IfSome (row_of c p).tentative (λ t. IsTrue (is_some (instance_row c t.instance)))
    → IsFit scene d p → IsFit scene c p
fit-alike scene c d same p instance_row fit = record {
  there = fit.there;
  short = subst (λ n. n + permanent_length c p < 2 ^ 32) (held-same c d same earlier)
      (subst (λ o. all_held d earlier + acts_held o < 2 ^ 32) (same.permanent p) fit.short);
  fits = fits-same scene c d same (history_of scene c) (history_of scene d) (history-same scene c d same) p fit.fits;
  agree = λ q near. subst (λ (l : Label). IsTrue (up_to l (sent_to c q p))) (heard-same c d same p q)
      (subst (λ (l : Label). IsTrue (up_to (heard_from d p q) l)) (sent-same c d same q p) (fit.agree q near));
  lives = λ q near. subst (λ (l : Label). l.incarnation ≤ (row_of c p).incarnation) (sent-same c d same p q)
      (subst (λ n. (sent_to d p q).incarnation ≤ n) (same.incarnation p) (fit.lives q near));
  instance_row = instance_row;
} where
  earlier : List NodeId
  earlier = filter (λ q. is_before q p) (nodes_of scene)
