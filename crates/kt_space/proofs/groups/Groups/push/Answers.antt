use Rattle.std.proofs.Common.{◌<◌, Some, [], ◌∷◌, ◌++◌, subst, sym, ap, ◌∙◌}
use Rattle.kt_space.specs.auxiliary.Grouping.{Grouped, keys_at, key_eq, key_eq_decides}
use Rattle.kt_space.proofs.Numbered.{inserted, keys_kept, keys_more, numbers_more}
use Rattle.kt_space.proofs.groups.Groups.push.Goals as goal

pub invariant_of-self : goal.invariant_of-self
invariant_of-self c =
    let s = c.in-Ok.ensures.stored in
    let old = c.self.invariant in
    let h = inserted key_eq key_eq_decides c.self.inside.keys.keys c.insert_full.new.self.keys c.args.key s.0 c.in-Ok.group c.self.inside.chains.count
    old.counted old.unique c.in-Ok.ensures.keys c.in-Ok.ensures.within s.1 s.2 in
    numbers_more c.self.inside.keys.keys c.insert_full.new.self.keys c.self.inside.chains.groups c.push.new.self.groups c.in-Ok.group
    c.self.inside.chains.count c.push.new.self.count old h.0 h.3 c.push.ensures.groups c.push.ensures.count

pub returns-in-Ok : goal.returns-in-Ok
returns-in-Ok c =
    let s = c.in-Ok.ensures.stored in
    let old = c.self.invariant in
    let h = inserted key_eq key_eq_decides c.self.inside.keys.keys c.insert_full.new.self.keys c.args.key s.0 c.in-Ok.group c.self.inside.chains.count
    old.counted old.unique c.in-Ok.ensures.keys c.in-Ok.ensures.within s.1 s.2 in
    ap (keys_at c.insert_full.new.self.keys) c.push.ensures.groups
    ∙ keys_more c.insert_full.new.self.keys c.self.inside.chains.groups c.in-Ok.group c.args.key h.1
    ∙ ap (λ l. l ++ Some c.args.key ∷ [])
    (keys_kept c.self.inside.keys.keys c.insert_full.new.self.keys c.self.inside.chains.groups
    (λ m g has. subst (λ n. g < n) (sym old.counted) (old.known m g has)) h.2)
    ∙ ap (λ (v : Grouped). v.keys ++ Some c.args.key ∷ []) c.self.view_is
