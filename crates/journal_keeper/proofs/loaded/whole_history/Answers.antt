use Rattle.journal_keeper.proofs.WholeLemmas.{whole_kept}
use Rattle.journal_keeper.proofs.loaded.whole_history.Goals as goal

pub returns-clause-kept : goal.returns-clause-kept
returns-clause-kept c = whole_kept (record { calendars = c.no_floor.result; events = c.no_floor-2.result; behind = c.args.entries }) c.of-told.result.items c.of-told.ensures
    (record { state = c.no_floor.ensures.state; created = c.no_floor.ensures.created; live = c.no_floor.ensures.live })
    (record { state = c.no_floor-2.ensures.state; created = c.no_floor-2.ensures.created; live = c.no_floor-2.ensures.live })
