use Rattle.std.proofs.Common.{codes}
use Rattle.spec_calls.specs.Asking.{text_argument}
use Rattle.batch_exec.proofs.Granting.{grant_is_below}
use Rattle.batch_exec.proofs.meaning.judge_call.Goals as goal

pub returns-clause-account : goal.returns-clause-account
returns-clause-account c = λ accounts all. grant_is_below accounts (text_argument c.args.arguments (codes "accountId")) c.args.user.now.grants c.in-Some.grant.now c.in-Some.ensures all
