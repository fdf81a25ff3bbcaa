-- One day is looked at behind the other, up to the last.
use Rattle.std.proofs.Common.{None, Option, arith, subst, sym, ◌∙◌, ◌≡◌, ℤ}
use Rattle.std.proofs.lemmas.Int.{ints}
use Rattle.rule_read.specs.declared.error.RulesError.TheVariants.{BadRules}
use Rattle.slot_find.proofs.Looks.{answer_free, answer_least, answer_none, days_begin, days_on, never_read, passed_on}
use Rattle.slot_find.proofs.QuarterLemmas.{behind_is}
use Rattle.slot_find.specs.Steps.{AreTried, LooksAt}
use Rattle.spec_json.specs.TreeData.{data_of}
use Rattle.spec_series.specs.RuleObjects.{rules_in}
use Rattle.spec_slots.proofs.Wishes.{rules_alike}
use Rattle.spec_slots.specs.Quarters.{quarters}
use Rattle.spec_slots.specs.Wishes.{wish_clash}
use Rattle.slot_find.proofs.look.find.Goals as goal

pub days-init : goal.days-init
days-init c = record {
  low = omega (arith, ints);
  high = c.requires.order;
  tried =
      subst (AreTried (wish_clash c.args.room.now.bookings c.args.wish.now.length (data_of c.args.wish.now.rules)) (quarters c.args.from c.args.from)) (sym c.new-tried.ensures.items)
      (days_begin (wish_clash c.args.room.now.bookings c.args.wish.now.length (data_of c.args.wish.now.rules)) c.args.from);
}

pub returns-in_err-start-clause-bad : goal.returns-in_err-start-clause-bad
returns-in_err-start-clause-bad c =
    passed_on c.from_residual.result c.in_err-start.field-0.0 (λ error. error ≡ BadRules → (x : ℤ) → rules_in x (data_of c.args.wish.now.rules) ≡ None) c.from_residual.ensures.1
    (λ bad x. never_read c.days.at x (data_of c.args.wish.now.rules) (c.in_err-start.ensures.bad bad))

pub returns-in-Some-clause-found : goal.returns-in-Some-clause-found
returns-in-Some-clause-found c =
    let clash = wish_clash c.args.room.now.bookings c.args.wish.now.length (data_of c.args.wish.now.rules) in
    answer_free clash c.args.from c.days.at c.end_of_day-end.result c.args.to c.in-Some.start c.days.tried.items c.try_day.new.tried.items c.new.result c.days.invariant.low c.end_of_day-end.ensures.low c.end_of_day-end.ensures.high
    c.days.invariant.tried (subst (λ (o : Option ℤ). LooksAt clash (quarters c.days.at c.end_of_day-end.result) c.days.tried.items o c.try_day.new.tried.items) c.in-Some.is c.in_ok-start.ensures.looks) c.new.ensures

pub returns-in-Some-clause-least : goal.returns-in-Some-clause-least
returns-in-Some-clause-least c =
    let clash = wish_clash c.args.room.now.bookings c.args.wish.now.length (data_of c.args.wish.now.rules) in
    answer_least clash c.args.from c.args.to _ c.requires.order
    (answer_free clash c.args.from c.days.at c.end_of_day-end.result c.args.to c.in-Some.start c.days.tried.items c.try_day.new.tried.items c.new.result c.days.invariant.low c.end_of_day-end.ensures.low c.end_of_day-end.ensures.high
    c.days.invariant.tried (subst (λ (o : Option ℤ). LooksAt clash (quarters c.days.at c.end_of_day-end.result) c.days.tried.items o c.try_day.new.tried.items) c.in-Some.is c.in_ok-start.ensures.looks) c.new.ensures)

pub returns-in-Some-clause-read : goal.returns-in-Some-clause-read
returns-in-Some-clause-read c = λ x. rules_alike x c.days.at (data_of c.args.wish.now.rules) ∙ c.in_ok-start.ensures.read

pub returns-else-is_before-clause-found : goal.returns-else-is_before-clause-found
returns-else-is_before-clause-found c =
    let clash = wish_clash c.args.room.now.bookings c.args.wish.now.length (data_of c.args.wish.now.rules) in
    answer_none clash c.args.from c.days.at c.end_of_day-end.result c.args.to c.days.tried.items c.try_day.new.tried.items c.new-else-is_before.result c.days.invariant.low c.end_of_day-end.ensures.low c.end_of_day-end.ensures.high
    (behind_is c.end_of_day-end.result c.args.to (sym c.is_before.ensures ∙ c.if-is_before.false))
    c.days.invariant.tried (subst (λ (o : Option ℤ). LooksAt clash (quarters c.days.at c.end_of_day-end.result) c.days.tried.items o c.try_day.new.tried.items) c.in-None.is c.in_ok-start.ensures.looks) c.new-else-is_before.ensures

pub returns-else-is_before-clause-least : goal.returns-else-is_before-clause-least
returns-else-is_before-clause-least c =
    let clash = wish_clash c.args.room.now.bookings c.args.wish.now.length (data_of c.args.wish.now.rules) in
    answer_least clash c.args.from c.args.to _ c.requires.order
    (answer_none clash c.args.from c.days.at c.end_of_day-end.result c.args.to c.days.tried.items c.try_day.new.tried.items c.new-else-is_before.result c.days.invariant.low c.end_of_day-end.ensures.low c.end_of_day-end.ensures.high
    (behind_is c.end_of_day-end.result c.args.to (sym c.is_before.ensures ∙ c.if-is_before.false))
    c.days.invariant.tried (subst (λ (o : Option ℤ). LooksAt clash (quarters c.days.at c.end_of_day-end.result) c.days.tried.items o c.try_day.new.tried.items) c.in-None.is c.in_ok-start.ensures.looks) c.new-else-is_before.ensures)

pub returns-else-is_before-clause-read : goal.returns-else-is_before-clause-read
returns-else-is_before-clause-read c = λ x. rules_alike x c.days.at (data_of c.args.wish.now.rules) ∙ c.in_ok-start.ensures.read

pub days-preserved : goal.days-preserved
days-preserved c =
    let clash = wish_clash c.args.room.now.bookings c.args.wish.now.length (data_of c.args.wish.now.rules) in
    record {
      low = omega (arith, ints, c.days.invariant.low, c.end_of_day-end.ensures.low);
      high = c.end_of_day-end.ensures.high;
      tried =
          days_on clash c.args.from c.days.at c.end_of_day-end.result c.days.tried.items c.try_day.new.tried.items c.days.invariant.low c.end_of_day-end.ensures.low c.days.invariant.tried
          (subst (λ (o : Option ℤ). LooksAt clash (quarters c.days.at c.end_of_day-end.result) c.days.tried.items o c.try_day.new.tried.items) c.in-None.is c.in_ok-start.ensures.looks);
    }
