use Rattle.std.proofs.Common.{◌++◌, List, ap, ◌∙◌}
use Rattle.account_store.specs.Kept.{event_put}
use Rattle.account_store.specs.Opening.{opening_puts}
use Rattle.account_store.specs.declared.kept.KeptEvent.{KeptEvent}
use Rattle.object_log.specs.declared.put.Put.{Put}
use Rattle.store_opening.proofs.ReadLemmas.{more_read}
use Rattle.store_opening.proofs.open.push.Goals as goal

pub returns-clause-read : goal.returns-clause-read
returns-clause-read c = λ read.
    more_read c.args.zones.now (opening_puts c.args.opening.now) (opening_puts c.push_reserved.new.self) c.args.entry.change c.in_ok-series.series read c.in_ok-series.ensures
    (c.push_reserved.ensures.events ∙ ap (λ (ps : List (Put KeptEvent)). ps ++ event_put c.args.entry.change c.in_ok-series.series) c.in_ok-reserve.ensures.events)
