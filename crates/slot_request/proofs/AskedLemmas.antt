-- What may be asked, and what is told of it.
use Rattle.std.proofs.Common.{◌≡◌, ◌≤ℤ◌, ℤ, None, Option, ap, arith, false, is_some, true}
use Rattle.std.proofs.lemmas.Bool.{and_parts}
use Rattle.std.proofs.lemmas.Int.{ints}
use Rattle.std.proofs.lemmas.List.Elements.{All-weaker}
use Rattle.std.proofs.lemmas.Option.{IfSome_then}
use Rattle.slot_find.proofs.QuarterLemmas.{years_between}
use Rattle.slot_request.specs.Told.{AreTold}
use Rattle.spec_bookings.specs.declared.clash.Clash.{Clash}
use Rattle.spec_json.specs.Data.{Data}
use Rattle.spec_series.specs.RuleObjects.{rules_in}
use Rattle.spec_slots.specs.Quarters.{IsQuarterOf}
use Rattle.spec_slots.specs.Requests.{SlotRequest, is_in_order, may_be_asked}
use Rattle.spec_slots.specs.Slots.{IsSlot, IsTriedOf}
use Rattle.spec_slots.specs.declared.slot.FoundSlot.{FoundSlot}
use Rattle.spec_slots.specs.declared.slot.Tried.{Tried}
use Rattle.spec_time.specs.Walls.{is_in_years}

-- Starts between two wall seconds that can be told can be told.

quarter_told : (from to x : ℤ) → is_in_years from ≡ true → is_in_years to ≡ true → IsQuarterOf from to x → is_in_years x ≡ true
quarter_told from to x h k q = let high = q.high in years_between from to x h k q.low (omega (arith, ints, high))

pub are_told : (clash : ℤ → Option Clash) (from to : ℤ) (found : FoundSlot) → is_in_years from ≡ true → is_in_years to ≡ true → IsSlot clash from to found → AreTold found
are_told clash from to found h k slot = record {
  start = IfSome_then found.start slot.quarter (λ x q. quarter_told from to x h k q);
  earlier = All-weaker (IsTriedOf clash from to found.start) (λ (t : Tried). is_in_years t.start ≡ true) (λ t q. quarter_told from to t.start h k q.quarter) found.tried slot.tried;
}

-- rules that can be read aren't bad
pub not_bad : (rules : Data) (x : ℤ) → is_some (rules_in x rules) ≡ true → ((y : ℤ) → rules_in y rules ≡ None) → ⊥
not_bad rules x read bad = let none : is_some (rules_in x rules) ≡ false = ap is_some (bad x) in cc

-- what may be asked is in order, and its rules can be read
pub asked_order : (a : SlotRequest) → may_be_asked a ≡ true → a.frame.from ≤ℤ a.frame.to
asked_order a h = let parts = and_parts (is_in_order a.frame.from a.frame.to) (is_some (rules_in a.frame.from a.rules)) h in grind (arith, ints, parts.0)

pub asked_read : (a : SlotRequest) → may_be_asked a ≡ true → is_some (rules_in a.frame.from a.rules) ≡ true
asked_read a h = (and_parts (is_in_order a.frame.from a.frame.to) (is_some (rules_in a.frame.from a.rules)) h).1
