use Rattle.std.proofs.Common.{◌<◌, ◌^◌, ◌∙◌, length, arith, rules}
use Rattle.kept_run.proofs.StartLemmas.{all_opened, count_opened, first_more, loads_more, loads_none, none_at_first, not_opened, refused_so}
use Rattle.kept_run.specs.Steps.{NotOpened}
use Rattle.kept_run.proofs.TextLemmas.{nameless}
use Rattle.kept_run.proofs.accounts.open_accounts.Goals as goal

pub loop-n-init : goal.loop-n-init
loop-n-init g c = record {
  loads = loads_none _;
  undamaged = search rules;
  first = none_at_first _ _ c.in_ok-accounts.ensures.items;
}

pub loop-n-preserved : goal.loop-n-preserved
loop-n-preserved g c =
    let there : c.loop-n.n < length c.args.site.now.accounts = omega (arith, c.accounts-count.ensures) in
    let how = c.in_ok-account.ensures.how nameless in
    record {
      loads = loads_more _ _ _ c.loop-n.invariant.loads c.in_ok-account.ensures.loads;
      undamaged = how.3 ∙ c.loop-n.invariant.undamaged;
      first = first_more c.args.site.now c.loop-n.n (g.J.Keeper.shown c.args.keeper.now) (g.J.Keeper.shown c.loop-n.keeper) (g.J.Keeper.shown c.load_account.new.keeper) there c.loop-n.invariant.loads _ _ _ c.loop-n.invariant.first c.in_ok-push.ensures.items how;
    }

pub returns-in_err-account-clause-loads : goal.returns-in_err-account-clause-loads
returns-in_err-account-clause-loads g c = loads_more _ _ _ c.loop-n.invariant.loads c.in_err-account.ensures.loads

pub returns-in_err-account-clause-refused : goal.returns-in_err-account-clause-refused
returns-in_err-account-clause-refused g c =
    let there : c.loop-n.n < length c.args.site.now.accounts = omega (arith, c.accounts-count.ensures) in
    let refused = not_opened c.args.site.now c.loop-n.n (g.J.Keeper.shown c.args.keeper.now) (g.J.Keeper.shown c.loop-n.keeper) (g.J.Keeper.shown c.load_account.new.keeper) there c.loop-n.invariant.loads c.in_err-account.field-0.0 (c.in_err-account.ensures.how nameless) in
    refused_so c.from_residual-in_err-account.result c.in_err-account.field-0.0 (NotOpened c.args.site.now (g.J.Keeper.shown c.args.keeper.now) (g.J.Keeper.shown c.load_account.new.keeper)) c.from_residual-in_err-account.ensures.1 refused

pub returns-clause-opened : goal.returns-clause-opened
returns-clause-opened g c = all_opened _ _ c.loop-n.n _ (omega (arith, c.accounts-count.ensures)) c.loop-n.invariant.first

pub returns-clause-few : goal.returns-clause-few
returns-clause-few g c =
    let fits : c.accounts-count.result < 2 ^ 32 = search rules in
    let count = count_opened _ _ _ (all_opened _ _ c.loop-n.n _ (omega (arith, c.accounts-count.ensures)) c.loop-n.invariant.first) in
    omega (arith, fits, count, c.accounts-count.ensures)
