use Rattle.http_edge.proofs.Once.{once}
use Rattle.http_edge.proofs.laws.begins_once.Goals as goal

pub returns : goal.returns
returns c = once
