use Rattle.std.proofs.Common.{◌≡◌, Some, subst, sym}
use Rattle.cal_model.specs.Operations.{within_quota}
use Rattle.cal_model.specs.declared.outcome.Outcome.TheVariants.{Accepted}
use Rattle.spec_bookings.specs.BookedResources.{clash_of_event}
use Rattle.spec_history.specs.declared.entry.Change.{Change}
use Rattle.spec_history.specs.declared.entry.Kind.TheVariants.{Event}
use Rattle.spec_json.specs.TreeData.{data_of}
use Rattle.object_outcomes.proofs.SoundLemmas.{tree_sound}
use Rattle.object_outcomes.proofs.event.store.Goals as goal

pub within_quota-requires-clause-fit : goal.within_quota-requires-clause-fit
within_quota-requires-clause-fit g c full clash = record { calendars = c.requires.event.calendars; bookings = c.stands_against-against.ensures.nothing full clash }

pub within_quota-requires-clause-series : goal.within_quota-requires-clause-series
within_quota-requires-clause-series g c = sym c.requires.event.valid

pub within_quota-requires-clause-sound : goal.within_quota-requires-clause-sound
within_quota-requires-clause-sound g c fits =
    let zones = (g.V.CalendarsView.base c.args.view.now).zones in
    let cs = g.V.CalendarsView.changes c.args.view.now in
    let change : Change = record { kind = Event; id = c.args.number; object = Some c.args.event } in
    let against = c.stands_against-against.result in
    tree_sound zones cs c.args.number c.args.event c.requires.number c.requires.form c.requires.valid
    (subst (λ b. within_quota cs b (clash_of_event zones cs c.args.number (data_of c.args.event)) change ≡ Accepted change) c.stands_against-against.ensures.full
    (subst (λ q. within_quota cs against.is_full q change ≡ Accepted change) c.stands_against-against.ensures.clash fits))
