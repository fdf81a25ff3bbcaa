use Rattle.std.proofs.Common.{ap}
use Rattle.conn_serve.proofs.Messaging.{answered_at_once, not_answered}
use Rattle.conn_serve.specs.Answering.{route_shown}
use Rattle.conn_serve.proofs.answer.answer.Goals as goal

pub returns-in-Ok : goal.returns-in-Ok
returns-in-Ok g c = answered_at_once c.in-Ok.bytes c.in-Ok-Direct.ensures.route (ap route_shown c.in-Ok-Direct.field-0-is) c.in-Ok.ensures

pub returns-in-Ok-Direct : goal.returns-in-Ok-Direct
returns-in-Ok-Direct g c = not_answered

pub returns : goal.returns
returns g c = not_answered
