-- Why the rules so far, with one more, stand in the new list.
use Rattle.std.proofs.Common.{◌∙◌, ap, arith, length, length-append, option_map, sym}
use Rattle.spec_series.specs.declared.rule.Rule.{Rule}
use Rattle.spec_series.specs.RuleObjects.{parts_of}
use Rattle.rule_read.proofs.RuleLemmas.{next_rule}
use Rattle.rule_read.proofs.read.each_rule.Goals as goal

pub loop-item-preserved : goal.loop-item-preserved
loop-item-preserved c =
    let pushed = c.in_ok-push-in-Some.ensures.items in
    record {
      value =
          next_rule _ c.args.items.now c.loop-item.item-index c.item-item.result c.loop-item.rules.items c.push.new.self.items c.in-Some.rule c.loop-item-test.true c.item-item.is
          (sym c.in_ok-rule.ensures ∙ ap (option_map parts_of) c.in-Some.is) pushed c.loop-item.invariant.value;
      count = omega (arith, simp length-append at (ap length pushed));
    }
