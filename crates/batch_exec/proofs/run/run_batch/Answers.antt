use Rattle.spec_json.specs.TreeData.{data_of}
use Rattle.batch_exec.proofs.Finishing.{batch_of_request}
use Rattle.batch_exec.proofs.run.run_batch.Goals as goal

pub returns : goal.returns
returns g c =
    let a = c.args in
    let s = g.D.Desk.shown a.desk.now in
    let t = g.D.Desk.shown c.answer_request.new.desk in
    batch_of_request a.user.now c.in-Ok.request a.moment a.fronts.now.items c.answer_request.new.fronts.items s t (data_of a.request) c.in-Ok.ensures.ok c.answer_request.result c.answer_request.ensures
