use Rattle.std.proofs.Common.{◌≡◌, ◌==◌, ◌∙◌, [], IfOk, ap, arith, codes, length, option_map, subst, sym, vec_len}
use Rattle.cal_model.specs.Calendar.{bad_properties, stored}
use Rattle.cal_model.specs.Operations.{has_other_zone, with_name_if}
use Rattle.spec_json.specs.Data.{members_of, object}
use Rattle.spec_json.specs.TreeData.{data_of}
use Rattle.object_outcomes.specs.declared.setting.Judged.{Judged}
use Rattle.object_outcomes.proofs.CalendarLemmas.{bad_calendar, good_calendar}
use Rattle.object_outcomes.proofs.NameLemmas.{none_left, some_named}
use Rattle.object_outcomes.proofs.calendar.stored_outcome.Goals as goal

pub returns-in_ok-names-in-Err-BadCalendar-2-clause-exact : goal.returns-in_ok-names-in-Err-BadCalendar-2-clause-exact
returns-in_ok-names-in-Err-BadCalendar-2-clause-exact g c =
    let zones = c.args.zones.now in
    let cs = g.V.CalendarsView.changes c.args.view.now in
    let before = option_map (λ t. t.now) c.args.before in
    let d = data_of c.args.tree.now in
    let bad = rw c.in-Err-BadCalendar.field-0-is at c.in-Err-BadCalendar.ensures.err in
    let read : c.in_ok-names-in-Err-BadCalendar.names.items ≡ bad_properties zones d = c.in_ok-names-in-Err-BadCalendar.ensures ∙ c.deref.ensures.value ∙ c.items.ensures ∙ bad.0 in
    let named = c.in_ok-names-in-Err-BadCalendar-2.ensures in
    ap (λ (j : Judged). j.outcome) c.refused_for-in-Err-BadCalendar.ensures
    ∙ bad_calendar zones cs c.args.number before c.args.names_id d c.in_ok-names-in-Err-BadCalendar-2.names.items
    (named ∙ ap (λ ns. with_name_if c.args.names_id (codes "id") (with_name_if (has_other_zone before d) (codes "resourceZone") ns)) read)
    (λ h. some_named c.args.names_id (codes "id") _ (λ i. some_named (has_other_zone before d) (codes "resourceZone") _ (λ j. bad.1 (sym read ∙ j)) i) (sym named ∙ h))

pub returns-then-is_empty-clause-exact : goal.returns-then-is_empty-clause-exact
returns-then-is_empty-clause-exact g c =
    let zones = c.args.zones.now in
    let cs = g.V.CalendarsView.changes c.args.view.now in
    let before = option_map (λ t. t.now) c.args.before in
    let d = data_of c.args.tree.now in
    let names = c.in_ok-names-in-Ok.names in
    let same : vec_len names ≡ length names.items = omega (arith, names.ok) in
    let none = none_left names.items c.is_empty.result c.if-is_empty.true (c.is_empty.ensures ∙ ap (λ n. n == 0) same) in
    let good = good_calendar zones cs c.args.number before c.args.names_id d
    (sym none ∙ c.in_ok-names-in-Ok.ensures
    ∙ ap (λ ns. with_name_if c.args.names_id (codes "id") (with_name_if (has_other_zone before d) (codes "resourceZone") ns)) (c.new.ensures.items ∙ sym c.in-Ok.ensures.valid)) in
    subst (λ o. IfOk c.store.result (λ j. j.outcome ≡ o)) good c.store.ensures.exact

pub store-requires-clause-valid : goal.store-requires-clause-valid
store-requires-clause-valid g c = subst (λ zs. bad_properties zs (object (members_of (stored c.in-Ok.calendar))) ≡ []) (sym c.requires.zones) c.in-Ok.ensures.stored
