use Rattle.std.proofs.Common.{rules, Some, ap, sym, ◌∙◌, ◌∷◌}
use Rattle.atomic_table.specs.Table.{rest}
use Rattle.account_lock.proofs.steps.take_book.Goals as goal

pub exchange-requires : goal.exchange-requires
exchange-requires g c = let full = c.requires.full in (search rules, (Some full.0, full.1 ∙ ap (λ slots. (0, Some full.0) ∷ rest slots) (sym full.1)))
