-- The law of written rules, by the lemma that proves it.
use Rattle.rule_read.proofs.WrittenRules.{read_back}
use Rattle.rule_read.proofs.laws.written_rules_are_read.Goals as goal

pub returns : goal.returns
returns c = read_back
