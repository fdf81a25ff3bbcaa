use Rattle.ws_serve.proofs.Turning.{unswitched}
use Rattle.ws_serve.proofs.turn.answer.Goals as goal

pub returns-in-Err-switch : goal.returns-in-Err-switch
returns-in-Err-switch g c = (let h = rw c.in-Ok-Switch.field-0-is at c.in-Ok-Switch.ensures in unswitched c.args.text.now h.1 h.2)
