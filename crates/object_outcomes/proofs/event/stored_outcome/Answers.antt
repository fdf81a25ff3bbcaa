use Rattle.std.proofs.Common.{◌≡◌, ◌==◌, ◌∙◌, [], false, IfOk, ap, arith, length, option_map, subst, sym, vec_len}
use Rattle.cal_model.specs.Operations.{bad_of_event, put, within_quota}
use Rattle.event_series.proofs.SeriesLemmas.{series_is_valid}
use Rattle.spec_bookings.specs.BookedResources.{clash_of_event, has_full_resource}
use Rattle.spec_history.specs.History.{live_object}
use Rattle.spec_history.specs.declared.entry.Kind.TheVariants.{Event}
use Rattle.spec_json.specs.Data.{members_of, object}
use Rattle.object_outcomes.specs.Judging.{IsStorable}
use Rattle.object_outcomes.specs.declared.setting.Judged.{Judged}
use Rattle.object_outcomes.proofs.BookingLemmas.{long_of_series}
use Rattle.object_outcomes.proofs.EventLemmas.{all_names, bad_event, some_bad, storable, stored_event}
use Rattle.object_outcomes.proofs.NameLemmas.{none_left, some_left}
use Rattle.object_outcomes.proofs.SoundLemmas.{again_valid, number_of}
use Rattle.object_outcomes.proofs.event.stored_outcome.Goals as goal

pub store-requires-clause-event : goal.store-requires-clause-event
store-requires-clause-event g c =
    let zones = c.args.zones.now in
    let cs = g.V.CalendarsView.changes c.args.view.now in
    let before = option_map (λ t. t.now) c.args.before in
    let d = object (members_of c.args.members) in
    let series = c.in-Ok.series in
    let names = c.in_ok-names-in-Ok.names in
    let long = c.has_long_exception-is_long.ensures ∙ long_of_series zones cs d series _ c.in-Ok.ensures.value (c.deref.ensures.value ∙ c.in_ok-resources.ensures) in
    let own = c.new-none.ensures.items ∙ sym (series_is_valid zones d series c.in-Ok.ensures.value) in
    let told = all_names zones cs before c.args.names_id c.has_long_exception-is_long.result d _ names.items own long c.in_ok-names-in-Ok.ensures in
    let same : vec_len names ≡ length names.items = omega (arith, names.ok) in
    let none = none_left names.items c.is_empty.result c.if-is_empty.true (c.is_empty.ensures ∙ ap (λ n. n == 0) same) in
    subst (λ zs. IsStorable zs cs d series) (sym c.requires.zones) (storable zones cs before c.args.names_id d series c.in-Ok.ensures.value (sym told ∙ none))

pub store-requires-clause-valid : goal.store-requires-clause-valid
store-requires-clause-valid g c =
    let zones = c.args.zones.now in
    let cs = g.V.CalendarsView.changes c.args.view.now in
    let before = option_map (λ t. t.now) c.args.before in
    let d = object (members_of c.args.members) in
    let series = c.in-Ok.series in
    let names = c.in_ok-names-in-Ok.names in
    let long = c.has_long_exception-is_long.ensures ∙ long_of_series zones cs d series _ c.in-Ok.ensures.value (c.deref.ensures.value ∙ c.in_ok-resources.ensures) in
    let own = c.new-none.ensures.items ∙ sym (series_is_valid zones d series c.in-Ok.ensures.value) in
    let told = all_names zones cs before c.args.names_id c.has_long_exception-is_long.result d _ names.items own long c.in_ok-names-in-Ok.ensures in
    let same : vec_len names ≡ length names.items = omega (arith, names.ok) in
    let none = none_left names.items c.is_empty.result c.if-is_empty.true (c.is_empty.ensures ∙ ap (λ n. n == 0) same) in
    subst (λ zs. bad_of_event zs cs (live_object cs Event c.args.number) false d ≡ []) (sym c.requires.zones)
    (again_valid zones cs c.args.number before c.args.names_id d c.requires.before (sym told ∙ none))

pub store-requires-clause-number : goal.store-requires-clause-number
store-requires-clause-number g c = number_of (g.V.CalendarsView.changes c.args.view.now) Event c.args.number (option_map (λ t. t.now) c.args.before) c.requires.before

pub returns-then-is_empty-clause-exact : goal.returns-then-is_empty-clause-exact
returns-then-is_empty-clause-exact g c =
    let zones = c.args.zones.now in
    let cs = g.V.CalendarsView.changes c.args.view.now in
    let before = option_map (λ t. t.now) c.args.before in
    let d = object (members_of c.args.members) in
    let series = c.in-Ok.series in
    let names = c.in_ok-names-in-Ok.names in
    let long = c.has_long_exception-is_long.ensures ∙ long_of_series zones cs d series _ c.in-Ok.ensures.value (c.deref.ensures.value ∙ c.in_ok-resources.ensures) in
    let own = c.new-none.ensures.items ∙ sym (series_is_valid zones d series c.in-Ok.ensures.value) in
    let told = all_names zones cs before c.args.names_id c.has_long_exception-is_long.result d _ names.items own long c.in_ok-names-in-Ok.ensures in
    let same : vec_len names ≡ length names.items = omega (arith, names.ok) in
    let none = none_left names.items c.is_empty.result c.if-is_empty.true (c.is_empty.ensures ∙ ap (λ n. n == 0) same) in
    let stored = subst (λ zs. IfOk c.store.result (λ j. j.outcome ≡ within_quota cs (has_full_resource zs cs c.args.number d) (clash_of_event zs cs c.args.number d) (put Event c.args.number c.args.members)))
    c.requires.zones c.store.ensures.exact in
    subst (λ o. IfOk c.store.result (λ j. j.outcome ≡ o)) (stored_event zones cs c.args.number before c.args.names_id c.args.members (sym none ∙ told)) stored

pub returns-in-Ok-clause-exact : goal.returns-in-Ok-clause-exact
returns-in-Ok-clause-exact g c =
    let zones = c.args.zones.now in
    let cs = g.V.CalendarsView.changes c.args.view.now in
    let before = option_map (λ t. t.now) c.args.before in
    let d = object (members_of c.args.members) in
    let series = c.in-Ok.series in
    let names = c.in_ok-names-in-Ok.names in
    let long = c.has_long_exception-is_long.ensures ∙ long_of_series zones cs d series _ c.in-Ok.ensures.value (c.deref.ensures.value ∙ c.in_ok-resources.ensures) in
    let own = c.new-none.ensures.items ∙ sym (series_is_valid zones d series c.in-Ok.ensures.value) in
    let told = all_names zones cs before c.args.names_id c.has_long_exception-is_long.result d _ names.items own long c.in_ok-names-in-Ok.ensures in
    let same : vec_len names ≡ length names.items = omega (arith, names.ok) in
    let some = some_left names.items c.is_empty.result c.if-is_empty.false (c.is_empty.ensures ∙ ap (λ n. n == 0) same) in
    ap (λ (j : Judged). j.outcome) c.refused_for.ensures ∙ bad_event zones cs c.args.number before c.args.names_id c.args.members names.items told some

pub returns-in-Err-BadEvent-clause-exact : goal.returns-in-Err-BadEvent-clause-exact
returns-in-Err-BadEvent-clause-exact g c =
    let zones = c.args.zones.now in
    let cs = g.V.CalendarsView.changes c.args.view.now in
    let before = option_map (λ t. t.now) c.args.before in
    let d = object (members_of c.args.members) in
    let bad = rw c.in-Err-BadEvent.field-0-is at c.in-Err-BadEvent.ensures.err in
    let own = c.in_ok-names-in-Err-BadEvent.ensures ∙ c.deref-in-Err-BadEvent-2.ensures.value ∙ c.items.ensures ∙ bad.0 in
    let names = c.in_ok-names-in-Err-BadEvent-2.names.items in
    let told = all_names zones cs before c.args.names_id c.in_ok-is_long-in-Err-BadEvent.is_long d _ names own c.in_ok-is_long-in-Err-BadEvent.ensures c.in_ok-names-in-Err-BadEvent-2.ensures in
    ap (λ (j : Judged). j.outcome) c.refused_for-in-Err-BadEvent.ensures
    ∙ bad_event zones cs c.args.number before c.args.names_id c.args.members names told (λ h. some_bad zones cs before c.args.names_id d bad.1 (sym told ∙ h))
