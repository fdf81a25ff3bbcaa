use Rattle.std.proofs.Common.{length}
use Rattle.store_opening.specs.Puts.{in_front}
use Rattle.store_opening.proofs.open.open_store.Given as goal

abbrev pub ghost-of : goal.ghost-of
ghost-of a = λ loaded. in_front (length loaded.kept.behind.items) loaded.told.items
