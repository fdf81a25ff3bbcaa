use Rattle.spec_recurrence.proofs.RuleLemmas.{parts_back, rule_back}
use Rattle.spec_recurrence.proofs.laws.rules_are_their_parts.Goals as goal

pub returns-clause-parts : goal.returns-clause-parts
returns-clause-parts c = parts_back

pub returns-clause-one : goal.returns-clause-one
returns-clause-one c = rule_back
