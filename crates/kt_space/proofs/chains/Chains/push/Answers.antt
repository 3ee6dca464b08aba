use Rattle.std.proofs.Common.{rules, ◌≡◌, ℕ, ◌≤◌, ◌<◌, List, Option, None, Some, [], ◌∷◌, ◌++◌, length, sym, subst, ap, ◌∙◌}
use Rattle.kt_space.specs.declared.chains.Ends.{Ends}
use Rattle.kt_space.specs.declared.chains.Link.{Link}
use Rattle.kt_space.specs.auxiliary.Chaining.{Chained, after_changed, first_changed, last_changed, groups_of, opened, before_of}
use Rattle.kt_space.proofs.Tables.{AreTables, table_pushed, table_opened, pushed_groups, tables_as}
use Rattle.kt_space.proofs.chains.Chains.push.Goals as goal

-- the tables as they are at last
after_all : (ends e1 e2 e3 : List Ends) (links l1 l2 l3 : List Link) (g n : ℕ) (a : Option ℕ) → AreTables ends links → g ≤ length ends
    → e1 ≡ opened ends g → l1 ≡ links → n ≡ length l1 → a ≡ before_of e1 l1 g None
    → e2 ≡ first_changed e1 g a (Some n) → l2 ≡ after_changed l1 a (Some n)
    → e3 ≡ last_changed e2 g None (Some n) → l3 ≡ l2 ++ record { group = Some g; before = a; after = None } ∷ []
    → AreTables e3 l3 × (groups_of l3 ≡ groups_of links ++ Some g ∷ [])
after_all ends e1 e2 e3 links l1 l2 l3 g n a tables le ie1 il1 in_ ia ie2 il2 ie3 il3 =
    let open_ = table_opened ends links g tables le in
    let t1 : AreTables e1 l1 = tables_as (opened ends g) e1 links l1 ie1 il1 open_.0 in
    let e : e3 ≡ last_changed (first_changed e1 g a (Some (length l1))) g None (Some (length l1)) =
    ie3 ∙ ap (λ es. last_changed es g None (Some n)) ie2 ∙ ap (λ k. last_changed (first_changed e1 g a (Some k)) g None (Some k)) in_ in
    let l : l3 ≡ after_changed l1 a (Some (length l1)) ++ record { group = Some g; before = a; after = None } ∷ [] =
    il3 ∙ ap (λ ls. ls ++ record { group = Some g; before = a; after = None } ∷ []) (il2 ∙ ap (λ k. after_changed l1 a (Some k)) in_) in (
      tables_as _ e3 _ l3 e l (table_pushed e1 l1 g t1 (subst (λ es. g < length es) (sym ie1) open_.1) a ia),
      ap groups_of l ∙ pushed_groups l1 g a (Some (length l1)) ∙ ap (λ ls. groups_of ls ++ Some g ∷ []) il1,
    )

pub invariant_of-self : goal.invariant_of-self
invariant_of-self c = (after_all c.self.inside.table.ends.items _ _ _ c.self.inside.table.links.items _ _ _ c.args.group c.len-place.result
    c.before-last.result c.self.invariant
    (subst (λ (v : Chained). c.args.group ≤ v.count) (sym c.self.view_is) c.requires.known)
    c.open.ensures.ends c.open.ensures.links (search rules) c.before-last.ensures c.set_after.ensures.ends c.set_after.ensures.links c.set_before.ensures.ends
    (c.push_reserved.ensures.items ∙ ap (λ (ls : List Link). ls ++ record { group = Some c.args.group; before = c.before-last.result; after = None } ∷ [])
    c.set_before.ensures.links)).0

pub returns-clause-groups : goal.returns-clause-groups
returns-clause-groups c = (after_all c.self.inside.table.ends.items _ _ _ c.self.inside.table.links.items _ _ _ c.args.group c.len-place.result
    c.before-last.result c.self.invariant
    (subst (λ (v : Chained). c.args.group ≤ v.count) (sym c.self.view_is) c.requires.known)
    c.open.ensures.ends c.open.ensures.links (search rules) c.before-last.ensures c.set_after.ensures.ends c.set_after.ensures.links c.set_before.ensures.ends
    (c.push_reserved.ensures.items ∙ ap (λ (ls : List Link). ls ++ record { group = Some c.args.group; before = c.before-last.result; after = None } ∷ [])
    c.set_before.ensures.links)).1
    ∙ ap (λ (v : Chained). v.groups ++ Some c.args.group ∷ []) c.self.view_is
