use Rattle.std.proofs.Common.{◌≡◌, Err, List, rules, subst}
use Rattle.spec_push.specs.declared.watched.Watched.{Watched}
use Rattle.state_watch.proofs.Seeing.{stopped, told_so}
use Rattle.state_watch.specs.Looking.{LooksSo}
use Rattle.state_watch.proofs.watch.Watch.look.Goals as goal

pub returns-in-Err : goal.returns-in-Err
returns-in-Err g c =
    let same : c.self.inside.states.items ≡ c.args.self.now = search rules in
    subst (λ (ws : List Watched). LooksSo c.args.moment ws c.see_all.new.states.items (g.D.Desk.shown c.args.desk.now) (g.D.Desk.shown c.see_all.new.desk) (Err c.in-Err.error)) same
    (stopped c.in-Err.error c.in-Err.ensures)

pub returns : goal.returns
returns g c =
    let same : c.self.inside.states.items ≡ c.args.self.now = search rules in
    subst (λ (ws : List Watched). LooksSo c.args.moment ws c.see_all.new.states.items (g.D.Desk.shown c.args.desk.now) (g.D.Desk.shown c.see_all.new.desk) c.tell.result) same
    (told_so c.in-Ok.seen c.tell.result c.in-Ok.ensures c.tell.ensures)
