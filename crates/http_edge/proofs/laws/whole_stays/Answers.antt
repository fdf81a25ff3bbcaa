use Rattle.http_edge.proofs.Stays.{whole_more}
use Rattle.http_edge.proofs.laws.whole_stays.Goals as goal

pub returns : goal.returns
returns c = whole_more
