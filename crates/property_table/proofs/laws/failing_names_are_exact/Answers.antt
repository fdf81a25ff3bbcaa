use Rattle.property_table.proofs.TableLemmas.{all_failing}
use Rattle.property_table.proofs.laws.failing_names_are_exact.Goals as goal

pub returns : goal.returns
returns c = all_failing
