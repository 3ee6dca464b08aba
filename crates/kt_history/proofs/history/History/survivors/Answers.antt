use Rattle.std.proofs.Common.{◌≡◌, ap, sym, ◌∙◌, [], arith, take, cond, ◌++◌, length, get_or, suc, ◌≤◌, ◌<◌}
use Rattle.std.specs.Option.{option_to_list}
use Rattle.std.proofs.lemmas.List.{take_all, get_or_default}
use Rattle.kt_history.specs.declared.mark.Mark.{Mark}
use Rattle.kt_history.specs.Survival.{services, survives, services_of, marked_acts, marked_from, note_service}
use Rattle.kt_history.specs.auxiliary.Marks.{no_mark}
use Rattle.kt_history.proofs.Room.{shown_notes}
use Rattle.kt_history.proofs.Survivors.{AreSurvivors-from}
use Rattle.kt_history.proofs.Counts.{services-more}
use Rattle.kt_history.proofs.history.History.survivors.Goals as goal

pub loop-place-init : goal.loop-place-init
unfolding marked_from
loop-place-init c = c.new-services.ensures.items

pub loop-place-preserved : goal.loop-place-preserved
loop-place-preserved c =
    let h = c.self.inside.notes.items in
    let i = c.loop-place.place in
    let items = c.deref-note-items.ensures.value in
    let lt : i < length h = omega (arith, c.loop-place-test.true, ap length items) in
    let at = c.note-item.is ∙ ap (λ xs. get_or xs i c.note-item.result) items in
    let here : i < length c.self.inside.marks.items = omega (arith, lt, c.self.invariant.lengths) in
    let mark = c.index.ensures ∙ get_or_default c.self.inside.marks.items i c.index.result.now no_mark here in
    let lives = ap (λ (m : Mark). m.survives) mark ∙ c.self.invariant.survive i lt ∙ ap (λ g. survives g (suc i)) (shown_notes c.self.view_is) in
    c.in_ok-keep_service.ensures
    ∙ ap (λ xs. xs ++ cond c.index.result.now.survives (option_to_list (note_service c.note-item.result)) []) c.loop-place.invariant
    ∙ ap (λ b. services_of (marked_acts (survives c.args.self.now.notes) (take i h)) ++ cond b (option_to_list (note_service c.note-item.result)) []) lives
    ∙ sym (services-more (survives c.args.self.now.notes) h i c.note-item.result lt at)

found_is : (c : goal.After-loop-place) → c.loop-place.services.items ≡ services c.args.self.now.notes
unfolding services
found_is c =
    let h = c.self.inside.notes.items in
    let le : length h ≤ c.loop-place.place = omega (arith, c.loop-place-test.false, ap length c.deref-note-items.ensures.value) in
    c.loop-place.invariant ∙ ap (λ g. services_of (marked_acts (survives c.args.self.now.notes) g))
    (take_all c.loop-place.place h le ∙ shown_notes c.self.view_is)

pub returns-clause-services : goal.returns-clause-services
returns-clause-services c = found_is c

pub returns-clause-survive : goal.returns-clause-survive
returns-clause-survive c =
    AreSurvivors-from c.self.inside.notes.items c.args.self.now.notes c.loop-place.services.items (shown_notes c.self.view_is) c.self.invariant.causes
    (found_is c)
