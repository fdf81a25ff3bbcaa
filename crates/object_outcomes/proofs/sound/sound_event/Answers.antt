use Rattle.std.proofs.Common.{◌≡◌, ◌==◌, ◌∙◌, None, ap, arith, false, length, sym, vec_len}
use Rattle.std.proofs.lemmas.Bool.{and_from, and_left, and_right}
use Rattle.cal_model.specs.Operations.{bad_of_event}
use Rattle.cal_model.specs.Sound.{has_server_values}
use Rattle.event_series.proofs.SeriesLemmas.{series_is_valid}
use Rattle.spec_history.specs.declared.entry.Kind.TheVariants.{Event}
use Rattle.spec_json.specs.TreeData.{data_of}
use Rattle.object_outcomes.proofs.BookingLemmas.{long_of_series}
use Rattle.object_outcomes.proofs.EventLemmas.{all_names, some_bad, storable}
use Rattle.object_outcomes.proofs.NameLemmas.{none_left, not_none}
use Rattle.object_outcomes.proofs.sound.sound_event.Goals as goal

pub returns-then-not-branch-clause-unsound : goal.returns-then-not-branch-clause-unsound
returns-then-not-branch-clause-unsound g c =
    and_left (has_server_values Event c.args.number (data_of c.args.event.now)) _ (sym c.in_ok-has_server_values.ensures ∙ c.if-not-branch.true)

pub returns-then-is_empty-clause-sound : goal.returns-then-is_empty-clause-sound
returns-then-is_empty-clause-sound g c =
    let zones = c.args.zones.now in
    let cs = g.V.CalendarsView.changes c.args.view.now in
    let d = data_of c.args.event.now in
    let series = c.in-Ok.series in
    let names = c.in_ok-names-in-Ok.names in
    let long = c.has_long_exception-is_long.ensures ∙ long_of_series zones cs d series _ c.in-Ok.ensures.value c.requires.resources in
    let own = c.new-none.ensures.items ∙ sym (series_is_valid zones d series c.in-Ok.ensures.value) in
    let told = all_names zones cs None false c.has_long_exception-is_long.result d _ names.items own long c.in_ok-names-in-Ok.ensures in
    let same : vec_len names ≡ length names.items = omega (arith, names.ok) in
    let none = none_left names.items c.is_empty.result c.if-is_empty.true (c.is_empty.ensures ∙ ap (λ n. n == 0) same) in
    and_from (has_server_values Event c.args.number d) _ (sym c.in_ok-has_server_values.ensures ∙ c.if-not-branch.false) (ap (λ ns. length ns == 0) (sym told ∙ none))

pub returns-then-is_empty-clause-storable : goal.returns-then-is_empty-clause-storable
returns-then-is_empty-clause-storable g c =
    let zones = c.args.zones.now in
    let cs = g.V.CalendarsView.changes c.args.view.now in
    let d = data_of c.args.event.now in
    let series = c.in-Ok.series in
    let names = c.in_ok-names-in-Ok.names in
    let long = c.has_long_exception-is_long.ensures ∙ long_of_series zones cs d series _ c.in-Ok.ensures.value c.requires.resources in
    let own = c.new-none.ensures.items ∙ sym (series_is_valid zones d series c.in-Ok.ensures.value) in
    let told = all_names zones cs None false c.has_long_exception-is_long.result d _ names.items own long c.in_ok-names-in-Ok.ensures in
    let same : vec_len names ≡ length names.items = omega (arith, names.ok) in
    let none = none_left names.items c.is_empty.result c.if-is_empty.true (c.is_empty.ensures ∙ ap (λ n. n == 0) same) in
    storable zones cs None false d series c.in-Ok.ensures.value (sym told ∙ none)

pub returns-in-Ok-clause-unsound : goal.returns-in-Ok-clause-unsound
returns-in-Ok-clause-unsound g c =
    let zones = c.args.zones.now in
    let cs = g.V.CalendarsView.changes c.args.view.now in
    let d = data_of c.args.event.now in
    let series = c.in-Ok.series in
    let names = c.in_ok-names-in-Ok.names in
    let long = c.has_long_exception-is_long.ensures ∙ long_of_series zones cs d series _ c.in-Ok.ensures.value c.requires.resources in
    let own = c.new-none.ensures.items ∙ sym (series_is_valid zones d series c.in-Ok.ensures.value) in
    let told = all_names zones cs None false c.has_long_exception-is_long.result d _ names.items own long c.in_ok-names-in-Ok.ensures in
    let same : vec_len names ≡ length names.items = omega (arith, names.ok) in
    and_right (has_server_values Event c.args.number d) _ (ap (λ ns. length ns == 0) (sym told) ∙ sym (c.is_empty.ensures ∙ ap (λ n. n == 0) same) ∙ c.if-is_empty.false)

pub returns-in-Err-BadEvent-clause-unsound : goal.returns-in-Err-BadEvent-clause-unsound
returns-in-Err-BadEvent-clause-unsound g c =
    let zones = c.args.zones.now in
    let cs = g.V.CalendarsView.changes c.args.view.now in
    let d = data_of c.args.event.now in
    let bad = rw c.in-Err-BadEvent.field-0-is at c.in-Err-BadEvent.ensures.err in
    and_right (has_server_values Event c.args.number d) _ (not_none (bad_of_event zones cs None false d) (some_bad zones cs None false d bad.1))
