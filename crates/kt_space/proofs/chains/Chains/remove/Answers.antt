use Rattle.std.proofs.Common.{◌≡◌, List, Option, None, set, sym, subst, ap, ◌∙◌}
use Rattle.kt_space.specs.declared.chains.Ends.{Ends}
use Rattle.kt_space.specs.declared.chains.Link.{Link}
use Rattle.kt_space.specs.auxiliary.Chaining.{Chained, after_changed, before_changed, last_changed, changed, groups_of}
use Rattle.kt_space.proofs.Tables.{table_unlinked, unlinked_groups, group_at, no_group, tables_as}
use Rattle.kt_space.proofs.chains.Chains.remove.Goals as goal

-- the links as they are at last
links_are : (links l2 l3 l4 : List Link) (a b : Option _) (place : _) → l2 ≡ after_changed links a b → l3 ≡ before_changed l2 b a
    → l4 ≡ changed (λ (l : Link). record l { group = None }) l3 place
    → l4 ≡ changed (λ (l : Link). record l { group = None }) (before_changed (after_changed links a b) b a) place
links_are links l2 l3 l4 a b place e f h = h ∙ ap (λ ls. changed (λ (l : Link). record l { group = None }) ls place) (f ∙ ap (λ ls. before_changed ls b a) e)

pub invariant_of-self : goal.invariant_of-self
invariant_of-self c =
    tables_as _ _ _ _
    (c.leave_group.ensures.ends ∙ c.set_before.ensures.ends ∙ ap (λ (es : List Ends). last_changed es c.in-Some.group c.after-after.result
    c.before-before.result) c.set_after.ensures.ends)
    (links_are c.self.inside.table.links.items _ _ _ c.before-before.result c.after-after.result c.args.place c.set_after.ensures.links
    c.set_before.ensures.links c.leave_group.ensures.links)
    (table_unlinked c.self.inside.table.ends.items c.self.inside.table.links.items c.args.place c.in-Some.group c.self.invariant
    (group_at c.self.inside.table.links.items c.args.place c.in-Some.group (sym c.in-Some.ensures))
    c.before-before.result c.after-after.result c.before-before.ensures c.after-after.ensures)

pub returns-in-Some-clause-groups : goal.returns-in-Some-clause-groups
returns-in-Some-clause-groups c =
    ap groups_of (links_are c.self.inside.table.links.items _ _ _ c.before-before.result c.after-after.result c.args.place c.set_after.ensures.links
    c.set_before.ensures.links c.leave_group.ensures.links)
    ∙ unlinked_groups c.self.inside.table.links.items c.args.place c.before-before.result c.after-after.result
    ∙ ap (λ (v : Chained). set v.groups c.args.place None) c.self.view_is

pub returns-in_default-clause-groups : goal.returns-in_default-clause-groups
returns-in_default-clause-groups c =
    subst (λ (v : Chained). v.groups ≡ set v.groups c.args.place None) c.self.view_is
    (sym (no_group c.self.inside.table.links.items c.args.place (sym c.in_default.ensures)))
