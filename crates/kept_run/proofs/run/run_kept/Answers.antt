use Rattle.kept_run.proofs.RunLemmas.{all_on_desk, lines_run, no_accounts}
use Rattle.kept_run.proofs.run.run_kept.Goals as goal

pub run_lines-requires-clause-all : goal.run_lines-requires-clause-all
run_lines-requires-clause-all g c κs within =
    all_on_desk c.in-Ok.site (g.J.Keeper.shown c.args.keeper.now).told c.in-Ok-open_accounts.accounts.items c.with-desk.result c.in-Ok-open_accounts.ensures.opened c.with-desk.ensures

pub returns-in-Ok-open_accounts-clause-runs : goal.returns-in-Ok-open_accounts-clause-runs
returns-in-Ok-open_accounts-clause-runs g c =
    let opened = c.in-Ok-open_accounts.ensures in
    lines_run _ _ _ _ c.in-Ok.site c.in-Ok.ensures.how (g.J.Keeper.shown c.open_accounts.new.keeper) opened.loads c.in-Some.user c.in-Some.ensures.user
    c.in-Ok-open_accounts.accounts.items opened.opened opened.undamaged c.with-desk.result c.with-desk.ensures _ c.run_lines.result c.run_lines.ensures

pub returns-clause-runs : goal.returns-clause-runs
returns-clause-runs g c =
    let refused = c.in-Err-open_accounts.ensures in
    no_accounts _ _ _ _ c.in-Ok.site c.in-Ok.ensures.how (g.J.Keeper.shown c.open_accounts.new.keeper) refused.loads c.not_begun-in-Err-open_accounts.result c.in-Err-open_accounts.status refused.refused
    c.not_begun-in-Err-open_accounts.ensures
