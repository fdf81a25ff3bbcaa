use Rattle.rule_read.proofs.MeantRules.{meant}
use Rattle.rule_read.proofs.laws.read_rules_are_meant.Goals as goal

pub returns : goal.returns
returns c = meant
