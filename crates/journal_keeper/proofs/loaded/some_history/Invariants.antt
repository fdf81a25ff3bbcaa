use Rattle.spec_snapshots.proofs.SomeHistory.{some_history}
use Rattle.journal_keeper.proofs.loaded.some_history.Given as goal

abbrev pub ghost-of : goal.ghost-of
ghost-of a = some_history
