use Rattle.std.proofs.Common.{◌<◌, arith, length, refl}
use Rattle.state_watch.proofs.Seeing.{as_many, few_calls, next_within, passed, saw_all, seen_more, stopped_at}
use Rattle.state_watch.proofs.watch.see_all.Goals as goal

pub loop-i-preserved-then-not-may_be_news : goal.loop-i-preserved-then-not-may_be_news
loop-i-preserved-then-not-may_be_news g c =
    passed c.loop-i.invariant (let same = as_many c.loop-i.invariant in omega (arith, c.loop-i-test.true, c.len-i-end.ensures, c.args.states.now.ok.0, same))

pub glance-requires : goal.glance-requires
glance-requires g c =
    let less : c.loop-i.i < length c.loop-i.states.items = (let same = as_many c.loop-i.invariant in omega (arith, c.loop-i-test.true, c.len-i-end.ensures, c.args.states.now.ok.0, same)) in
    next_within c.loop-i.invariant less c.index_mut.result.now c.index_mut.ensures.value c.requires

pub returns-in-Err : goal.returns-in-Err
returns-in-Err g c =
    let less : c.loop-i.i < length c.loop-i.states.items = (let same = as_many c.loop-i.invariant in omega (arith, c.loop-i-test.true, c.len-i-end.ensures, c.args.states.now.ok.0, same)) in
    stopped_at c.loop-i.invariant less c.index_mut.result.now c.glance.new.watched c.glance.new.changed c.index_mut.ensures.value c.in-Err.error c.in-Err.ensures

pub overflow_add-calls : goal.overflow_add-calls
overflow_add-calls g c = (let few = few_calls c.loop-i.invariant in let fits = c.loop-i.auto.i-end in omega (arith, few, fits, c.loop-i-test.true))

pub loop-i-preserved : goal.loop-i-preserved
loop-i-preserved g c =
    let less : c.loop-i.i < length c.loop-i.states.items = (let same = as_many c.loop-i.invariant in omega (arith, c.loop-i-test.true, c.len-i-end.ensures, c.args.states.now.ok.0, same)) in
    seen_more c.loop-i.invariant less c.index_mut.result.now c.glance.new.watched c.index_mut.ensures.value tt c.in-Ok.ensures refl refl

pub returns : goal.returns
returns g c = saw_all c.loop-i.invariant (let same = as_many c.loop-i.invariant in omega (arith, c.loop-i-test.false, c.len-i-end.ensures, c.args.states.now.ok.0, same)) _ refl refl
