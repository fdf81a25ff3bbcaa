use Rattle.std.specs.Prelude.{option_map}
use Rattle.command_line.specs.Shown.{command_shown}
use Rattle.jmapd_run.specs.Runs.{streamed}
use Rattle.jmapd_run.proofs.Starting.{not_started}
use Rattle.jmapd_run.proofs.run.run.Goals as goal

pub returns-in-Err-clause-runs : goal.returns-in-Err-clause-runs
returns-in-Err-clause-runs g c = not_started _ (g.O.Opener.shown c.args.opener.now) (g.O.Opener.shown c.start_from.new.opener) (streamed (option_map command_shown c.args.command)) c.in-Err.status c.in-Err.ensures.how
