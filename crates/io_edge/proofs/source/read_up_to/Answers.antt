use Rattle.std.proofs.Common.{◌+◌, ◌++◌, ◌≤◌, length, take, length-append, arith, rules}
use Rattle.std.proofs.lemmas.Grind.{common_steps}
use Rattle.io_edge.specs.Outside.{ConsumesAtMost}
use Rattle.io_edge.proofs.Pieces.{consumed_more}
use Rattle.io_edge.proofs.source.read_up_to.Goals as goal

pub returns-in_err-extend_from_slice-clause-err : goal.returns-in_err-extend_from_slice-clause-err
returns-in_err-extend_from_slice-clause-err g c =
    let piece = take c.in_ok-count.count c.take.new.buf in
    let within : length (c.loop-piece.bytes.items ++ piece) ≤ c.args.most + 1 = grind (arith, common_steps, c.in_ok-count.ensures.bound.0, c.in_ok-count.ensures.bound.1, length-append c.loop-piece.bytes.items piece) in
    let taken : ConsumesAtMost (g.S.Source.shown c.args.source.now).left (g.S.Source.shown c.take.new.self).left (c.args.most + 1) = consumed_more _ (g.S.Source.shown c.loop-piece.source).left _ _ _ _ c.loop-piece.invariant.consumed c.in_ok-count.ensures.bytes.0 within in
    search (rules, taken)
