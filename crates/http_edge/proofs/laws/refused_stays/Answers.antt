use Rattle.http_edge.proofs.Stays.{refused_more}
use Rattle.http_edge.proofs.laws.refused_stays.Goals as goal

pub returns : goal.returns
returns c = refused_more
