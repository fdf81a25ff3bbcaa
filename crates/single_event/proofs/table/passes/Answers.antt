use Rattle.std.proofs.Common.{⊎_elim}
use Rattle.property_table.proofs.TableLemmas.{unlike}
use Rattle.spec_events.specs.Events.{event_table}
use Rattle.single_event.proofs.table.passes.Goals as goal

pub returns-in-timeZone : goal.returns-in-timeZone
unfolding event_table
returns-in-timeZone c = rw c.in-timeZone.is c.is_zone.ensures

pub returns-in-title : goal.returns-in-title
unfolding event_table
returns-in-title c = ⊎_elim (λ e. rw e c.is_text.ensures) (λ e. rw e c.is_text.ensures) c.in-title.is

pub returns-in-participants : goal.returns-in-participants
unfolding event_table
returns-in-participants c = rw c.in-participants.is c.are_shallow_participants.ensures

pub returns-in-excludedRecurrenceRules : goal.returns-in-excludedRecurrenceRules
unfolding event_table
returns-in-excludedRecurrenceRules c = rw c.in-excludedRecurrenceRules.is c.is_empty_list.ensures

pub returns-in_default : goal.returns-in_default
unfolding event_table
returns-in_default c =
    let d = c.in_default in
    rw (unlike d.not-text, unlike d.not-uid, unlike d.not-calendarIds, unlike d.not-start, unlike d.not-duration, unlike d.not-timeZone, unlike d.not-status, unlike d.not-freeBusyStatus, unlike d.not-title, unlike d.not-description, unlike d.not-participants, unlike d.not-excluded, unlike d.not-excludedRecurrenceRules, unlike d.not-recurrenceId, unlike d.not-baseEventId) c.is_other_property.ensures
