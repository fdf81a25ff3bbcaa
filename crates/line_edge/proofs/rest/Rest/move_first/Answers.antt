use Rattle.std.proofs.Common.{◌+◌, ◌<◌, length, arith}
use Rattle.line_edge.proofs.LineLemmas.{too_long}
use Rattle.line_edge.proofs.rest.Rest.move_first.Goals as goal

pub returns-then-count-most : goal.returns-then-count-most
returns-then-count-most c =
    let long : c.args.most < length c.args.line.now.items + c.args.count = omega arith in
    too_long c.args.count c.args.most c.args.line.now.items c.args.self.now c.requires.short long c.requires.there c.requires.unbroken c.requires.free
