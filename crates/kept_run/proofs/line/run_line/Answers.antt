use Rattle.std.proofs.Common.{subst}
use Rattle.kept_run.specs.Lines.{Accounts}
use Rattle.kept_run.specs.Steps.{RunsLine}
use Rattle.kept_run.proofs.line.run_line.Goals as goal

-- marks leave the accounts as they are
pub returns : goal.returns
returns g c =
    subst (λ (d : Accounts). RunsLine c.args.site.now c.args.user c.args.line.now d c.answer_line.new.desk (g.C.Clock.moments c.args.clock.now) (g.C.Clock.moments c.answer_line.new.clock)
    (g.K.Sink.shown c.args.output.now) (g.K.Sink.shown c.answer_line.new.output) (g.J.Keeper.shown c.args.keeper.now) (g.J.Keeper.shown c.answer_line.new.keeper) c.answer_line.result) c.mark.ensures c.answer_line.ensures
