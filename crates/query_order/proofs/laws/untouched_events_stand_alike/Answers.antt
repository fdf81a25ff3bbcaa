use Rattle.query_order.proofs.Histories.{untouched_agree}
use Rattle.query_order.proofs.laws.untouched_events_stand_alike.Goals as goal

pub returns : goal.returns
returns c = λ see k. untouched_agree see c.args.order.now c.args.changes.now k
