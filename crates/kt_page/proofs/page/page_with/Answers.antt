use Rattle.std.proofs.Common.{ℕ, List, ◌++◌, ap, refl}
use Rattle.std.proofs.lemmas.Result.{IfOk-weaker}
use Rattle.kt_draw.specs.Rows.{picture_head}
use Rattle.kt_draw.specs.declared.picture.Form.TheVariants.{InPage}
use Rattle.kt_page.specs.Head.{page_head}
use Rattle.kt_page.proofs.Pictured.{within_page}
use Rattle.kt_page.proofs.page.page_with.Goals as goal

pub returns : goal.returns
returns c =
    let front = c.deref.result.now in
    let ahead : List ℕ = page_head ++ front in
    IfOk-weaker c.joined-text.result _ _ (λ text is.
    within_page page_head (picture_head InPage) c.args.watched.now.story c.args.first front c.in_ok-picture.picture.items c.deref-3.result.now
    ahead (ahead ++ c.deref-2.result.now) text.items c.in_ok-picture.ensures.drawn refl
    (ap (λ (t : List ℕ). ahead ++ t) c.deref-2.ensures.value) is)
    c.joined-text.ensures
