use Rattle.spec_history.specs.History.{changes_of}
use Rattle.spec_history.specs.declared.entry.Kind.TheVariants.{Event}
use Rattle.store_opening.specs.Puts.{puts_by, with_series}
use Rattle.store_opening.proofs.logs.event_log.Given as goal

abbrev pub ghost-of : goal.ghost-of
ghost-of a = λ read. puts_by (with_series read.zones.now) Event (changes_of read.past.now.items)
