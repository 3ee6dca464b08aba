use Rattle.std.proofs.Common.{◌≡◌, ◌+◌, ◌<◌, ◌^◌, List, filter, Option, sym, ap, ◌∙◌, subst}
use Rattle.std.specs.Prelude.{IfSome, IsTrue, is_some}
use Rattle.kt_tuple.specs.declared.node.NodeId.{NodeId}
use Rattle.kt_tuple.specs.Node.{is_before}
use Rattle.kt_history.specs.declared.note.Note.{Note}
use Rattle.kt_store.specs.declared.rows.Tentative.{Tentative}
use Rattle.kt_store.specs.Content.{instance_row}
use Rattle.kt_model.specs.Cut.{permanent_length}
use Rattle.kt_model.specs.Resumed.{FitsIn, all_held}
use Rattle.kt_resume.specs.Found.{scene_of, content_of}
use Rattle.kt_resume.proofs.Founds.{tentative-none}
use Rattle.kt_resume.proofs.judging.is_fit.Goals as goal

pub returns : goal.returns
returns c =
    let scene = scene_of c.args.shards c.args.scripts.now in
    let store = content_of c.args.found.now in
    let p = c.args.node in
    let there = sym c.is_in_scene.ensures ∙ c.if-not-is_in_scene.false in
    let nodes = c.deref.ensures.value ∙ c.in_ok-nodes.ensures in
    let labels = c.labels_fit.ensures scene (c.deref-2.ensures.value ∙ c.in_ok-nodes.ensures) there in (
      λ t.
          let fit = labels.0 t in record {
            there = there;
            short = subst (λ (l : List NodeId). all_held store (filter (λ q. is_before q p) l) + permanent_length store p < 2 ^ 32) nodes
                (c.is_short.ensures.0 c.if-not-is_short.false);
            fits = subst (λ (h : List Note). FitsIn scene store h p) c.requires.notes (c.in_ok-fits_in.ensures.0 c.if-not-branch.false);
            agree = fit.agree;
            lives = fit.lives;
            instance_row = subst (λ (o : Option Tentative). IfSome o (λ t. IsTrue (is_some (instance_row store t.instance))))
                (sym (tentative-none c.args.found.now p)) tt;
          },
      λ fit. labels.1 (record { agree = fit.agree; lives = fit.lives }),
    )
