use Rattle.std.proofs.Common.{◌++◌, [], ◌∷◌, sym, subst, arith, rules}
use Rattle.std.proofs.lemmas.Iterator.Adapters.{YieldsList-from_vec}
use Rattle.std.proofs.lemmas.Iterator.Consumers.{YieldsList-turn, YieldsList-end}
use Rattle.std.specs.List.{AllZip}
use Rattle.std.proofs.lemmas.Slice.Zip.{AllZip-long, all_zipped_more}
use Rattle.listen_edge.specs.Ending.{faults_in}
use Rattle.listen_workers.proofs.CrewLemmas.{Counted, all_counted, counted_on}
use Rattle.listen_workers.proofs.crew.join_all.Goals as goal

pub push_reserved-requires : goal.push_reserved-requires
push_reserved-requires g c =
    let at = YieldsList-turn (YieldsList-from_vec {s = c.into_iter-job-iterator.result} c.args.started.items (search rules) (search rules)) c.loop-job.yielded c.loop-job.job-iterator c.loop-job.yielded_by c.next.result c.next.new.self c.in-Some.job c.in-Some.is c.next.ensures.steps in
    let few = at.0 in
    let count = AllZip-long g.J.Job.may_answer c.loop-job.yielded c.loop-job.backs.items c.loop-job.invariant.each in
    let room = c.loop-job.invariant.room in
    omega (arith, few, count, room)

pub loop-job-preserved : goal.loop-job-preserved
loop-job-preserved g c =
    let i = c.loop-job.invariant in
    let ended = g.J.Back.Finished.ended in
    let items = c.push_reserved.ensures.items in
    let room = i.room in
    record {
      each = subst (AllZip g.J.Job.may_answer (c.loop-job.yielded ++ c.in-Some.job ∷ [])) (sym items) (all_zipped_more g.J.Job.may_answer c.loop-job.yielded c.loop-job.backs.items c.in-Some.job c.join.result i.each c.join.ensures.back);
      faults = subst (Counted (λ back. faults_in (ended back).end) (g.S.Spawner.faults c.args.spawner.now) (g.S.Spawner.faults c.join.new.self)) (sym items)
          (counted_on (λ back. faults_in (ended back).end) _ _ _ c.loop-job.backs.items c.join.result i.faults c.join.ensures.faults);
      served = subst (Counted (λ back. (ended back).served) (g.S.Spawner.served c.args.spawner.now) (g.S.Spawner.served c.join.new.self)) (sym items)
          (counted_on (λ back. (ended back).served) _ _ _ c.loop-job.backs.items c.join.result i.served c.join.ensures.served);
      room = search rules;
    }

pub returns-clause-faults : goal.returns-clause-faults
returns-clause-faults g c =
    let all = YieldsList-end (YieldsList-from_vec {s = c.into_iter-job-iterator.result} c.args.started.items (search rules) (search rules)) c.loop-job.yielded c.loop-job.job-iterator c.loop-job.yielded_by c.next.result c.next.new.self c.in-None.is c.next.ensures.steps in
    let long = all.1 in
    let count = AllZip-long g.J.Job.may_answer c.loop-job.yielded c.loop-job.backs.items c.loop-job.invariant.each in
    let some = c.requires.some in
    all_counted (λ back. faults_in (g.J.Back.Finished.ended back).end) _ _ c.loop-job.backs.items (omega (arith, long, count, some)) c.loop-job.invariant.faults

pub returns-clause-served : goal.returns-clause-served
returns-clause-served g c =
    let all = YieldsList-end (YieldsList-from_vec {s = c.into_iter-job-iterator.result} c.args.started.items (search rules) (search rules)) c.loop-job.yielded c.loop-job.job-iterator c.loop-job.yielded_by c.next.result c.next.new.self c.in-None.is c.next.ensures.steps in
    let long = all.1 in
    let count = AllZip-long g.J.Job.may_answer c.loop-job.yielded c.loop-job.backs.items c.loop-job.invariant.each in
    let some = c.requires.some in
    all_counted (λ back. (g.J.Back.Finished.ended back).served) _ _ c.loop-job.backs.items (omega (arith, long, count, some)) c.loop-job.invariant.served
