use Rattle.std.proofs.Common.{rules, ◌≡◌, ◌∷◌, [], ◌++◌}
use Rattle.batch_exec.proofs.Asking.{asking_ok, asking_err}
use Rattle.batch_exec.proofs.batch.ask.Goals as goal

pub returns-in-Ok : goal.returns-in-Ok
returns-in-Ok g c =
    let front : c.push_reserved.new.self.items ≡ c.args.fronts.now.items ++ record { account = c.args.account; place = c.in-Ok.reply.place } ∷ [] = search rules in
    asking_ok c.args.moment c.in-Ok.ensures.called front

pub returns-in-Err : goal.returns-in-Err
returns-in-Err g c = asking_err _ _ c.args.account c.args.call.now c.args.moment c.in-Err.error c.in-Err.ensures.called (search rules)
