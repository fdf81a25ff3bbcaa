use Rattle.http_edge.proofs.Refusals.{refused_status}
use Rattle.http_edge.proofs.laws.refusals_are_answered.Goals as goal

pub returns : goal.returns
returns c = refused_status
