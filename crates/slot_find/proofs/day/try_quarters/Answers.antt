-- Each quarter is tried with the series at its start, which is the wished one there.
use Rattle.std.proofs.Common.{arith, ap, subst, sym, ◌++◌, ◌∙◌, ℤ, true, ◌≡◌}
use Rattle.std.specs.Int.{int_min}
use Rattle.std.proofs.lemmas.Int.{ints}
use Rattle.slot_find.proofs.Looks.{looks_begin, looks_free, looks_on, moved_again, not_moved}
use Rattle.slot_find.proofs.QuarterLemmas.{before_is, next_quarter_is, years_between}
use Rattle.slot_find.specs.Steps.{AreTried}
use Rattle.spec_json.specs.TreeData.{data_of}
use Rattle.spec_slots.specs.Quarters.{is_quarter, quarters}
use Rattle.spec_slots.specs.Wishes.{wish_clash}
use Rattle.slot_find.proofs.day.try_quarters.Goals as goal

pub quarters-init : goal.quarters-init
quarters-init c = record {
  quarter = c.first_quarter-at.ensures.is;
  low = c.first_quarter-at.ensures.low;
  moved = not_moved c.args.series;
  looked = looks_begin (wish_clash c.args.room.now.bookings c.args.wish.now.length (data_of c.args.wish.now.rules)) c.args.series.start c.args.end c.first_quarter-at.result c.args.tried.now.items c.requires.order c.first_quarter-at.ensures;
}

pub moved_to-proposed-requires : goal.moved_to-proposed-requires
moved_to-proposed-requires c =
    let high = before_is c.quarters.at c.args.end (sym c.is_before.ensures ∙ c.quarters-test.true) in
    years_between c.args.series.start c.args.end c.quarters.at c.args.series.start_in c.requires.end c.quarters.invariant.low (omega (arith, ints, high))

pub returns-in-None : goal.returns-in-None
returns-in-None c =
    let clash = wish_clash c.args.room.now.bookings c.args.wish.now.length (data_of c.args.wish.now.rules) in
    looks_free clash c.args.series.start c.args.end c.quarters.at c.args.tried.now.items c.quarters.tried.items c.quarters.invariant.low
    (before_is c.quarters.at c.args.end (sym c.is_before.ensures ∙ c.quarters-test.true)) c.quarters.invariant.quarter
    (ap clash (sym c.moved_to-proposed.ensures.start) ∙ (c.clash_of.ensures ∙ c.in-None.is)) c.quarters.invariant.looked

pub quarters-preserved : goal.quarters-preserved
quarters-preserved c =
    let clash = wish_clash c.args.room.now.bookings c.args.wish.now.length (data_of c.args.wish.now.rules) in
    let low = c.quarters.invariant.low in
    record {
      quarter = subst (λ z. is_quarter z ≡ true) (sym c.next_quarter-at.ensures) (next_quarter_is c.quarters.at c.quarters.invariant.quarter);
      low = omega (arith, ints, low, c.next_quarter-at.ensures);
      moved = moved_again c.args.series c.quarters.proposed c.moved_to-proposed.result c.quarters.invariant.moved c.moved_to-proposed.ensures.same;
      looked = λ xs tried.
          subst (λ (z : ℤ). AreTried clash (xs ++ quarters c.args.series.start (int_min z c.args.end)) c.push.new.self.items) (sym c.next_quarter-at.ensures)
          (looks_on clash c.args.series.start c.args.end c.quarters.at c.args.tried.now.items c.quarters.tried.items c.push.new.self.items c.in-Some.clash low
          (before_is c.quarters.at c.args.end (sym c.is_before.ensures ∙ c.quarters-test.true)) c.quarters.invariant.quarter
          (ap clash (sym c.moved_to-proposed.ensures.start) ∙ (c.clash_of.ensures ∙ c.in-Some.is)) c.in_ok-push-in-Some.ensures.items c.quarters.invariant.looked xs tried);
    }
