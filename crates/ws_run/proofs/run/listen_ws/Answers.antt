use Rattle.std.proofs.Common.{inr}
use Rattle.command_line.specs.Shown.{websocket_shown}
use Rattle.ws_run.proofs.RunLemmas.{not_loaded}
use Rattle.ws_run.proofs.run.listen_ws.Goals as goal

pub returns-in-Err-clause-runs : goal.returns-in-Err-clause-runs
returns-in-Err-clause-runs g c =
    not_loaded (websocket_shown c.args.asked.now) (g.O.Opener.shown c.args.opener.now) (g.O.Opener.shown c.load_site.new.opener) (g.A.WsAccept.shown c.args.accepter.now)
    (g.C.Clock.moments c.args.clock.now) c.in-Err.status c.in-Err.ensures.how

pub returns-clause-runs : goal.returns-clause-runs
returns-clause-runs g c = inr (c.in-Ok.site, c.in-Ok.ensures.how, c.host_site.ensures)
