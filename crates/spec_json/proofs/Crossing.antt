-- A text may go to another thread, and be lent to one.
use denote.Param.Send.{IsSend, IsSync, sendable}
use Rattle.std.proofs.Crossing.{crosses}
use Rattle.spec_json.specs.contracts.text.Text as text

pub text_sent : IsSend text.the_row
text_sent = search (crosses, sendable) depth 60 fits 20000

pub text_shared : IsSync text.the_row
text_shared = search (crosses, sendable) depth 60 fits 20000
