-- What a request comes to under its configuration.
use Rattle.std.proofs.Common.{Some, subst, sym}
use Rattle.command_line.specs.Shown.{command_shown}
use Rattle.jmapd_run.proofs.Starting.{batch_started}
use Rattle.jmapd_run.specs.Runs.{streamed}
use Rattle.jmapd_run.specs.Shown.{StartHow}
use Rattle.jmapd_run.proofs.start.start_of.Goals as goal

pub returns-in-Batch-clause-how : goal.returns-in-Batch-clause-how
returns-in-Batch-clause-how g c =
    let before = g.O.Opener.shown c.args.opener.now in
    let after = g.O.Opener.shown c.start_batch.new.opener in
    subst (λ x. StartHow before after (streamed (Some (command_shown x))) c.start_batch.result) (sym c.in-Batch.is)
    (batch_started before after _ _ c.start_batch.result c.start_batch.ensures.how)

pub returns-in-Stdio-clause-how : goal.returns-in-Stdio-clause-how
returns-in-Stdio-clause-how g c =
    let before = g.O.Opener.shown c.args.opener.now in
    let after = g.O.Opener.shown c.start_stdio.new.opener in
    subst (λ x. StartHow before after (streamed (Some (command_shown x))) c.start_stdio.result) (sym c.in-Stdio.is) c.start_stdio.ensures.how
