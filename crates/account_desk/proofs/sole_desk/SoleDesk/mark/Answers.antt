use Rattle.std.proofs.Common.{List, ap, subst, sym, ◌∙◌}
use Rattle.account_desk.specs.SoleDesk.{IsSoleDesk}
use Rattle.spec_history.specs.Base.{Base}
use Rattle.spec_history.specs.declared.entry.Entry.{Entry}
use Rattle.account_desk.proofs.sole_desk.SoleDesk.mark.Goals as goal

pub invariant_of-self : goal.invariant_of-self
invariant_of-self c = subst (λ (accounts : List (Base × List Entry)). IsSoleDesk accounts c.self.inside.turns) (sym c.mark_all.ensures) c.self.invariant

pub returns : goal.returns
returns c = ap (λ (accounts : List (Base × List Entry)). (accounts, c.self.inside.turns)) c.mark_all.ensures ∙ c.self.view_is
