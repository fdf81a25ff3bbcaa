-- Why what is kept is of the rule.
use Rattle.std.proofs.Common.{length, refl, arith}
use Rattle.std.proofs.lemmas.Option.{slice_get_read}
use Rattle.residue_clash.proofs.kept_rule.kept_rule.Goals as goal

pub returns : goal.returns
returns c =
    let there = slice_get_read c.items-rules.result.now (length c.items-rules.result.now) c.args.k c.index-rules-k.result refl (omega (arith, c.if-k-rules.false)) c.index-rules-k.is in
    (c.index-rules-k.result, (rw c.items-rules.ensures at there, record { end = c.end_of.ensures; own = c.in_ok-own.ensures; pushed = c.in_ok-pushed.ensures }))
