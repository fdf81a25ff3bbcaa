use Rattle.std.proofs.Common.{◌<◌, ◌^◌, arith, rules}
use Rattle.account_desk.proofs.FreshLemmas.{all_opened, count_fresh, opened_more}
use Rattle.account_desk.proofs.sole_desk.fresh_accounts.Goals as goal

pub loop-n-preserved : goal.loop-n-preserved
loop-n-preserved c =
    opened_more c.args.site.now c.loop-n.n c.loop-n.accounts.items c.push.new.self.items c.in_ok-open_account.field-0 (search rules) c.loop-n.invariant c.in_ok-open_account.ensures c.in_ok-push.ensures.items

pub returns-clause-fresh : goal.returns-clause-fresh
returns-clause-fresh c = all_opened c.args.site.now c.loop-n.n c.accounts-count.result c.loop-n.accounts.items c.accounts-count.ensures c.loop-n-test.false c.loop-n.invariant

pub returns-clause-few : goal.returns-clause-few
returns-clause-few c =
    let all = all_opened c.args.site.now c.loop-n.n c.accounts-count.result c.loop-n.accounts.items c.accounts-count.ensures c.loop-n-test.false c.loop-n.invariant in
    let fits : c.accounts-count.result < 2 ^ 32 = search rules in
    let count = count_fresh c.args.site.now c.loop-n.accounts.items all in
    omega (arith, fits, count, c.accounts-count.ensures)
