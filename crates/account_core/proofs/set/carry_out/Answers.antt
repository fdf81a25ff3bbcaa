use Rattle.std.proofs.Common.{List, ap, arith, length}
use Rattle.account_core.proofs.FewChanges.{few_changes, within_most}
use Rattle.account_core.specs.Ledger.{base, history}
use Rattle.cal_model.specs.Sets.{objects_of}
use Rattle.set_methods.specs.Grounds.{ground_at}
use Rattle.spec_history.specs.declared.entry.Change.{Change}
use Rattle.account_core.proofs.set.carry_out.Goals as goal

-- a set that isn't refused makes no more changes than it may name objects
pub keep_and_commit-requires-clause-parts : goal.keep_and_commit-requires-clause-parts
keep_and_commit-requires-clause-parts g c =
    let l = c.args.ledger.now in
    let q = c.args.arguments.now in
    let within = within_most (base l).generation q.kind (history l) (objects_of q) q.if_in_state q.remove_events c.in-Ok.ensures.carried_out in
    let few = few_changes (ground_at (base l) c.args.stamp.now.moment) q.kind c.args.created.now (history l) (objects_of q) in
    omega (arith, ap (λ (cs : List Change). length cs) c.in-Ok.ensures.staged, few, within)
