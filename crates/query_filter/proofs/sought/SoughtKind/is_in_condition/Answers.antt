use Rattle.spec_filters.specs.Members.{condition_table}
use Rattle.query_filter.proofs.sought.SoughtKind.is_in_condition.Goals as goal

pub returns-in-Unknown : goal.returns-in-Unknown
unfolding condition_table
returns-in-Unknown c = rw c.in-Unknown.is c.has_other_than.ensures
