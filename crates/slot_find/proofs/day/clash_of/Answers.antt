-- The series is the wished one, so what is found of it stands against the wish.
use Rattle.std.proofs.Common.{ap, ◌∙◌}
use Rattle.slot_find.proofs.Looks.{clash_is, week_long}
use Rattle.spec_bookings.specs.Clashes.{first_clash}
use Rattle.spec_json.specs.TreeData.{data_of}
use Rattle.slot_find.proofs.day.clash_of.Goals as goal

pub with_maps-timetable-requires-clause-week : goal.with_maps-timetable-requires-clause-week
with_maps-timetable-requires-clause-week c = week_long c.args.wish.now.length (data_of c.args.wish.now.rules) c.args.series.now c.args.wish.now.length_in c.requires.wished

pub returns : goal.returns
returns c =
    clash_is c.args.room.now.bookings c.args.wish.now.length (data_of c.args.wish.now.rules) c.args.series.now c.check_by.result c.requires.wished
    (c.check_by.ensures.exact ∙ ap (first_clash c.args.room.now.bookings) c.with_maps-timetable.ensures)
