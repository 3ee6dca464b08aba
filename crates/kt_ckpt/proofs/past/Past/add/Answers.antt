use Rattle.std.proofs.Common.{◌++◌, ◌∷◌, [], subst, sym, List}
use Rattle.kt_history.specs.declared.note.Note.{Note}
use Rattle.kt_history.specs.Chronicle.{Chronicle}
use Rattle.kt_history.specs.WellFormed.{MayFollow}
use Rattle.kt_history.proofs.Shared.{CausesComeFirst-push}
use Rattle.kt_ckpt.specs.auxiliary.Gathered.{IsPast}
use Rattle.kt_ckpt.proofs.Gatherings.{gathered-noted}
use Rattle.kt_ckpt.proofs.past.Past.add.Goals as goal

pub invariant_of-self : goal.invariant_of-self
invariant_of-self c =
    let h : List Note = c.self.inside.history.notes in
    let follows : MayFollow h c.args.note =
    subst (λ (x : Chronicle). MayFollow x.notes c.args.note) (sym c.self.view_is) c.requires.follows in
    let whole : IsPast (h ++ c.args.note ∷ []) c.give_up.new.gathered.items = record {
      causes = CausesComeFirst-push h c.args.note c.self.invariant.causes follows;
      gathered = λ p. gathered-noted h c.args.note p _ _ c.self.invariant.causes (c.self.invariant.gathered p) (c.give_up.ensures p);
    } in
    subst (λ (g : List Note). IsPast g c.give_up.new.gathered.items) (sym c.add.ensures) whole
