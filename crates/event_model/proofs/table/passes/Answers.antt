use Rattle.spec_recurrence.specs.Recurrence.{recurring_event_table}
use Rattle.event_model.proofs.table.passes.Goals as goal

pub returns-in-recurrenceRules : goal.returns-in-recurrenceRules
unfolding recurring_event_table
returns-in-recurrenceRules c = rw c.in-recurrenceRules.is c.are_rules.ensures

pub returns-in-recurrenceOverrides : goal.returns-in-recurrenceOverrides
unfolding recurring_event_table
returns-in-recurrenceOverrides c = rw c.in-recurrenceOverrides.is c.are_overrides.ensures
