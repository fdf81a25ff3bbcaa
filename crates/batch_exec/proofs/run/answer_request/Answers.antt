use Rattle.std.proofs.Common.{[], inl, refl, subst}
use Rattle.batch_exec.specs.Answering.{HasStopped}
use Rattle.batch_exec.proofs.run.answer_request.Goals as goal

pub returns-in-Err-PassSpent : goal.returns-in-Err-PassSpent
returns-in-Err-PassSpent g c =
    subst (HasStopped c.args.user.now c.args.request c.args.moment c.args.fronts.now.items c.answer_all.new.fronts.items (g.D.Desk.shown c.args.desk.now) (g.D.Desk.shown c.answer_all.new.desk))
    c.in-Err-PassSpent.field-0-is c.in-Err-PassSpent.ensures

pub returns-in-Err-NoMemory : goal.returns-in-Err-NoMemory
returns-in-Err-NoMemory g c =
    subst (HasStopped c.args.user.now c.args.request c.args.moment c.args.fronts.now.items c.answer_all.new.fronts.items (g.D.Desk.shown c.args.desk.now) (g.D.Desk.shown c.answer_all.new.desk))
    c.in-Err-NoMemory.field-0-is c.in-Err-NoMemory.ensures

pub returns : goal.returns
returns g c = (c.in-Ok.ensures.0, [], g.D.Desk.shown c.answer_all.new.desk, c.in-Ok.ensures.1, inl (refl, refl))
