use Rattle.http_edge.proofs.Printed.{printed_begins}
use Rattle.http_edge.proofs.laws.printed_begins.Goals as goal

pub returns : goal.returns
returns c = printed_begins
