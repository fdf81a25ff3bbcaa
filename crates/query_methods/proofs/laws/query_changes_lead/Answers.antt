use Rattle.spec_queries.specs.Criteria.{order_of, sight_of}
use Rattle.query_methods.proofs.laws.query_changes_lead.Goals as goal
use Rattle.query_order.proofs.Histories.{results_lead_at}

pub returns : goal.returns
returns c = λ zones criteria cs k. results_lead_at (sight_of zones criteria) (order_of criteria) cs k
