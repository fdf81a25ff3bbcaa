use Rattle.std.proofs.Common.{◌∙◌, arith}
use Rattle.spec_series.specs.declared.exception.Exception.{Exception}
use Rattle.rule_rows.proofs.OneException.{one_in_years, one_short, one_distinct}
use Rattle.rule_rows.proofs.windows.events.one_exception.Goals as goal

pub invariant_of-result : goal.invariant_of-result
invariant_of-result c =
    let x : Exception = record { rid = c.args.rid; replaced = c.args.replaced } in
    let one = c.in_ok-exceptions.ensures ∙ rw c.new-items.ensures.items at c.in_ok-push.ensures.items in
    record {
      few = rw one (omega arith);
      in_years = rw one (one_in_years x c.requires.rid c.requires.start);
      short = rw one (one_short x c.requires.length);
      distinct = rw one (one_distinct x);
    }
