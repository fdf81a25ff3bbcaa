use Rattle.std.proofs.Common.{rules}
use Rattle.std.proofs.lemmas.List.Elements.{filter_from_retain}
use Rattle.account_rooms.proofs.slot.drop_closed.Goals as goal

pub returns : goal.returns
returns c = filter_from_retain _ (λ s. s.live) (λ p x b q h. search rules) _ _ _ c.retain.ensures.filtered
