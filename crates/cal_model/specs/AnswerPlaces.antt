-- A reply says how many entries went before it.
use Rattle.std.proofs.Common.{◌≡◌, ℕ, ℤ, List, Option, Some, None, Result, Ok, Err, length, refl}
use Rattle.cal_model.specs.Answer.{answer, answer_to, slot_reply, unkept_answer, unless_error}
use Rattle.spec_history.specs.Base.{Base}
use Rattle.spec_calls.specs.declared.call.Asks.{Asks}
use Rattle.spec_calls.specs.declared.call.Asks.TheVariants.{Availability, Changes, Get, Query, QueryChanges, Set, Slot}
use Rattle.spec_calls.specs.declared.call.Call.{Call}
use Rattle.spec_calls.specs.declared.call.MethodError.{MethodError}
use Rattle.spec_calls.specs.declared.call.Reply.{Reply}
use Rattle.spec_history.specs.declared.entry.Entry.{Entry}
use Rattle.spec_slots.specs.declared.slot.FoundSlot.{FoundSlot}

placed_unless : (h : List Entry) (e : Option MethodError) (r : Reply) → r.place ≡ length h → (unless_error h e r).place ≡ length h
placed_unless h None r is = is
placed_unless h (Some e) r is = refl

placed_slot : (b : Base) (h : List Entry) (r : Result FoundSlot MethodError) → (slot_reply b h r).place ≡ length h
placed_slot b h (Ok found) = refl
placed_slot b h (Err e) = refl

placed : (b : Base) (h : List Entry) (m : ℤ) (created : List (List ℕ × List ℕ)) (a : Asks) → (answer_to b h m created a).place ≡ length h
placed b h m created (Get q) = placed_unless h _ _ refl
placed b h m created (Changes q) = placed_unless h _ _ refl
placed b h m created (Set q) = placed_unless h _ _ refl
placed b h m created (Query q) = placed_unless h _ _ refl
placed b h m created (QueryChanges q) = placed_unless h _ _ refl
placed b h m created (Availability q) = placed_unless h _ _ refl
placed b h m created (Slot q) = placed_slot b h _

-- a reply says how many entries went before
pub answer_place : (b : Base) (h : List Entry) (c : Call) (moment : ℤ) → (answer b h c moment).place ≡ length h
answer_place b h c moment = placed b h moment c.created c.asks

-- so does one that tells of entries which could not be kept
pub unkept_place : (h : List Entry) → (unkept_answer h).place ≡ length h
unkept_place h = refl
