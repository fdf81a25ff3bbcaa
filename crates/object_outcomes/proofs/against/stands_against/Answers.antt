use Rattle.std.proofs.Common.{◌∙◌, sym}
use Rattle.event_series.proofs.SeriesLemmas.{series_parts_of}
use Rattle.spec_json.specs.TreeData.{data_of}
use Rattle.object_outcomes.proofs.BookingLemmas.{all_resources, no_resources, some_resources, takes_booking, takes_none, week_long}
use Rattle.object_outcomes.proofs.against.stands_against.Goals as goal

pub returns-then-is_empty-clause-nothing : goal.returns-then-is_empty-clause-nothing
returns-then-is_empty-clause-nothing g c room clear =
    let cs = g.V.CalendarsView.changes c.args.view.now in
    let d = data_of c.args.event.now in
    takes_none (g.V.CalendarsView.base c.args.view.now).zones cs c.args.number d (no_resources cs d c.args.resources.now c.requires.resources (sym c.if-is_empty.true ∙ c.is_empty.ensures))

pub is_any_full-requires : goal.is_any_full-requires
is_any_full-requires g c =
    rw c.requires.resources (all_resources (g.V.CalendarsView.changes c.args.view.now) (data_of c.args.event.now))

pub first_clash-requires-clause-resources : goal.first_clash-requires-clause-resources
first_clash-requires-clause-resources g c =
    rw c.requires.resources (all_resources (g.V.CalendarsView.changes c.args.view.now) (data_of c.args.event.now))

pub first_clash-requires-clause-week : goal.first_clash-requires-clause-week
first_clash-requires-clause-week g c =
    let cs = g.V.CalendarsView.changes c.args.view.now in
    let zones = (g.V.CalendarsView.base c.args.view.now).zones in
    let d = data_of c.args.event.now in
    let some = some_resources cs d c.args.resources.now c.requires.resources (sym c.if-is_empty.false ∙ c.is_empty.ensures) in
    week_long zones cs d c.args.series.now (series_parts_of zones d c.args.series.now c.requires.event.valid) some c.requires.event.length c.requires.event.overrides

pub returns-clause-nothing : goal.returns-clause-nothing
returns-clause-nothing g c full clear =
    let cs = g.V.CalendarsView.changes c.args.view.now in
    let zones = (g.V.CalendarsView.base c.args.view.now).zones in
    let d = data_of c.args.event.now in
    let some = some_resources cs d c.args.resources.now c.requires.resources (sym c.if-is_empty.false ∙ c.is_empty.ensures) in
    let room = rw c.requires.resources at (sym c.is_any_full.ensures ∙ full) in
    let clears = rw clear at c.first_clash.ensures.clear in
    takes_booking zones cs c.args.number d c.args.series.now c.requires.event.valid
    (week_long zones cs d c.args.series.now (series_parts_of zones d c.args.series.now c.requires.event.valid) some c.requires.event.length c.requires.event.overrides)
    room (rw c.requires.resources at clears)
