use Rattle.spec_history.specs.History.{changes_of}
use Rattle.spec_history.specs.declared.entry.Kind.TheVariants.{Calendar}
use Rattle.store_opening.specs.Puts.{puts_by}
use Rattle.store_opening.proofs.logs.calendar_log.Given as goal

abbrev pub ghost-of : goal.ghost-of
ghost-of a = λ past. puts_by (λ t. t) Calendar (changes_of past.items)
