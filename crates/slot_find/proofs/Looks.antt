-- What comes of looks at starts, one behind the other.
use Rattle.std.proofs.Common.{◌≡◌, ◌≤◌, ℕ, Bor, slice_get, ◌≤ℤ◌, ◌<ℤ◌, ◌+ℤ◌, ℤ, pos, true, List, [], ◌∷◌, ◌++◌, Option, Some, None, ap, arith, append-nil, append_assoc, map, option_and_then, refl, is_some, false, Result, Ok, Err, IfErr, subst, sym, ◌∙◌}
use Rattle.std.specs.Int.{int_min}
use Rattle.std.proofs.lemmas.Int.{ints}
use Rattle.slot_find.proofs.QuarterLemmas.{among, min_before, min_behind, none_before, one_more}
use Rattle.slot_find.proofs.Tries.{slot_with, more_tried, none_tried, slot_found, slot_missed}
use Rattle.slot_find.specs.Steps.{AreTried, IsFirstQuarter, IsMoved, IsWished, LooksAt}
use Rattle.spec_bookings.specs.Clashes.{first_clash}
use Rattle.spec_bookings.specs.declared.booking.Booking.{Booking}
use Rattle.spec_bookings.specs.declared.clash.Clash.{Clash}
use Rattle.spec_json.specs.Data.{Data}
use Rattle.spec_json.specs.Parts.{as_list}
use Rattle.spec_series.specs.RuleObjects.{parts_of, rules_in, rules_of}
use Rattle.spec_series.specs.Lengths.{IsWeekLong, are_week_long, most_booked_seconds}
use Rattle.spec_series.specs.SeriesLimits.{are_distinct, wall_seconds}
use Rattle.residue_clash.specs.RuleMaps.{IsMapGiven}
use Rattle.spec_series.specs.declared.series.Series.{Series}
use Rattle.std.specs.Prelude.{IsErrAnd}
use Rattle.spec_series.specs.declared.exception.Exception.{Exception}
use Rattle.spec_slots.proofs.Least.{least}
use Rattle.spec_slots.proofs.Quarters.{quarters_join, quarters_nothing}
use Rattle.spec_slots.proofs.Wishes.{rules_alike, series_wished}
use Rattle.spec_slots.specs.Quarters.{is_quarter, quarters}
use Rattle.spec_slots.specs.Slots.{IsSlot, slot_among}
use Rattle.spec_slots.specs.declared.slot.FoundSlot.{FoundSlot}
use Rattle.spec_slots.specs.Wishes.{wish_clash, wished_series}
use Rattle.spec_slots.specs.declared.slot.Tried.{Tried}
use Rattle.spec_time.specs.Walls.{day_of_wall}
use Rattle.spec_time.specs.declared.length.Length.{Length}

-- The wished series at another start of the day.

moved_rules : (rules : Data) (x y : ℤ) → day_of_wall x ≡ day_of_wall y → rules_in x rules ≡ rules_in y rules
moved_rules rules x y e = ap (λ n. option_and_then (rules_of n) (as_list rules)) e

pub wished_at : (length : Length) (rules : Data) (s t : Series) → IsWished length rules s → day_of_wall t.start ≡ day_of_wall s.start → IsMoved s t → IsWished length rules t
wished_at length rules s t w day moved = record {
  lasts = moved.lasts ∙ w.lasts;
  occupying = moved.occupying ∙ w.occupying;
  read = moved_rules rules t.start s.start day ∙ (w.read ∙ ap (λ rs. Some (map parts_of rs)) (sym moved.rules));
  exceptions = moved.exceptions ∙ w.exceptions;
}

-- which lasts as long as a booking may
pub week_long : (length : Length) (rules : Data) (s : Series) → wall_seconds length ≤ most_booked_seconds → IsWished length rules s → IsWeekLong s
week_long length rules s short w = record {
  own = subst (λ (l : Length). wall_seconds l ≤ most_booked_seconds) (sym w.lasts) short;
  replaced = ap are_week_long w.exceptions;
}

-- maps of its rules serve each start
pub map_moved : (s t : Series) (k : ℕ) (m : Option (Bor (List ℕ))) → IsMoved s t → IsMapGiven s k m → IsMapGiven t k m
map_moved s t k m moved given = λ b is r rule weekdays. given b is r (ap (λ rs. slice_get rs k) (sym moved.rules) ∙ rule) weekdays

pub not_moved : (s : Series) → IsMoved s s
not_moved s = record { lasts = refl; occupying = refl; rules = refl; exceptions = refl }

pub moved_again : (s t u : Series) → IsMoved s t → IsMoved t u → IsMoved s u
moved_again s t u a b = record { lasts = b.lasts ∙ a.lasts; occupying = b.occupying ∙ a.occupying; rules = b.rules ∙ a.rules; exceptions = b.exceptions ∙ a.exceptions }

-- what is found of it is what stands against the wish
pub clash_is : (bs : List Booking) (length : Length) (rules : Data) (t : Series) (o : Option Clash) → IsWished length rules t → o ≡ first_clash bs t → wish_clash bs length rules t.start ≡ o
clash_is bs length rules t o w e =
    ap (option_and_then (first_clash bs)) (ap (λ l. wished_series l rules t.start) (sym w.lasts) ∙ series_wished rules t w.read w.occupying w.exceptions) ∙ sym e

-- A look at the quarters of a day.

pub looks_begin : (clash : ℤ → Option Clash) (from end q : ℤ) (ts : List Tried) → from ≤ℤ end → IsFirstQuarter from q
    → (xs : List ℤ) → AreTried clash xs ts → AreTried clash (xs ++ quarters from (int_min q end)) ts
looks_begin clash from end q ts h first = λ xs tried. subst (λ ys. AreTried clash ys ts) (sym (ap (λ ys. xs ++ ys) (none_before from end q h first) ∙ append-nil xs)) tried

pub looks_on : (clash : ℤ → Option Clash) (from end at : ℤ) (before ts us : List Tried) (c : Clash) → from ≤ℤ at → at <ℤ end → is_quarter at ≡ true → clash at ≡ Some c → us ≡ ts ++ record { start = at; clash = c } ∷ []
    → ((xs : List ℤ) → AreTried clash xs before → AreTried clash (xs ++ quarters from (int_min at end)) ts)
    → (xs : List ℤ) → AreTried clash xs before → AreTried clash (xs ++ quarters from (int_min (at +ℤ pos 900) end)) us
looks_on clash from end at before ts us c low high is e more looked = λ xs tried.
    let now = subst (λ z. AreTried clash (xs ++ quarters from z) ts) (min_before at end high) (looked xs tried) in
    let next = more_tried clash (xs ++ quarters from at) ts at c now e in
    let same : (xs ++ quarters from at) ++ at ∷ [] ≡ xs ++ quarters from (int_min (at +ℤ pos 900) end) =
    append_assoc xs (quarters from at) (at ∷ []) ∙ ap (λ ys. xs ++ ys) (sym (one_more from at end low high is)) in
    subst (λ vs. AreTried clash (xs ++ quarters from (int_min (at +ℤ pos 900) end)) vs) (sym more) (subst (λ ys. AreTried clash ys (ts ++ record { start = at; clash = c } ∷ [])) same next)

pub looks_end : (clash : ℤ → Option Clash) (from end at : ℤ) (before ts : List Tried) → end ≤ℤ at
    → ((xs : List ℤ) → AreTried clash xs before → AreTried clash (xs ++ quarters from (int_min at end)) ts) → LooksAt clash (quarters from end) before None ts
looks_end clash from end at before ts past looked = λ xs tried. subst (λ z. AreTried clash (xs ++ quarters from z) ts) (min_behind at end past) (looked xs tried)

pub looks_free : (clash : ℤ → Option Clash) (from end at : ℤ) (before ts : List Tried) → from ≤ℤ at → at <ℤ end → is_quarter at ≡ true → clash at ≡ None
    → ((xs : List ℤ) → AreTried clash xs before → AreTried clash (xs ++ quarters from (int_min at end)) ts) → LooksAt clash (quarters from end) before (Some at) ts
looks_free clash from end at before ts low high is free looked = λ xs tried.
    let a = among from end at low high is in
    record {
      before = quarters from at;
      behind = a.behind;
      among = a.is;
      earlier = subst (λ z. AreTried clash (xs ++ quarters from z) ts) (min_before at end high) (looked xs tried);
      free = free;
    }

-- A look at one day behind the other.

pub days_begin : (clash : ℤ → Option Clash) (from : ℤ) → AreTried clash (quarters from from) []
days_begin clash from = subst (λ ys. AreTried clash ys []) (sym (quarters_nothing from)) (none_tried clash)

pub days_on : (clash : ℤ → Option Clash) (from at end : ℤ) (ts us : List Tried) → from ≤ℤ at → at ≤ℤ end → AreTried clash (quarters from at) ts → LooksAt clash (quarters at end) ts None us → AreTried clash (quarters from end) us
days_on clash from at end ts us low high tried looks = subst (λ ys. AreTried clash ys us) (sym (quarters_join from at end low high)) (looks (quarters from at) tried)

pub days_end : (clash : ℤ → Option Clash) (from to end : ℤ) (ts : List Tried) → end ≡ to → AreTried clash (quarters from end) ts → slot_among clash (quarters from to) ≡ record { start = None; tried = ts }
days_end clash from to end ts e tried = slot_missed clash (quarters from to) ts (subst (λ z. AreTried clash (quarters from z) ts) e tried)

pub days_free : (clash : ℤ → Option Clash) (from at end to start : ℤ) (ts us : List Tried) → from ≤ℤ at → at ≤ℤ end → end ≤ℤ to → AreTried clash (quarters from at) ts → LooksAt clash (quarters at end) ts (Some start) us
    → slot_among clash (quarters from to) ≡ record { start = Some start; tried = us }
days_free clash from at end to start ts us low high last tried looks =
    let f = looks (quarters from at) tried in
    let all : quarters from to ≡ (quarters from at ++ f.before) ++ start ∷ (f.behind ++ quarters end to) =
    quarters_join from at to low (omega (arith, ints))
    ∙ (ap (λ ys. quarters from at ++ ys) (quarters_join at end to high last ∙ (ap (λ ys. ys ++ quarters end to) f.among ∙ append_assoc f.before (start ∷ f.behind) (quarters end to)))
    ∙ sym (append_assoc (quarters from at) f.before (start ∷ (f.behind ++ quarters end to)))) in
    ap (slot_among clash) all ∙ slot_found clash (quarters from at ++ f.before) us start (f.behind ++ quarters end to) f.earlier f.free

-- What is answered.

pub answer_free : (clash : ℤ → Option Clash) (from at end to start : ℤ) (ts us tried : List Tried) → from ≤ℤ at → at ≤ℤ end → end ≤ℤ to → AreTried clash (quarters from at) ts → LooksAt clash (quarters at end) ts (Some start) us
    → tried ≡ us → slot_with (Some start) tried ≡ slot_among clash (quarters from to)
answer_free clash from at end to start ts us tried low high last before looks e = ap (λ vs. slot_with (Some start) vs) e ∙ sym (days_free clash from at end to start ts us low high last before looks)

pub answer_none : (clash : ℤ → Option Clash) (from at end to : ℤ) (ts us tried : List Tried) → from ≤ℤ at → at ≤ℤ end → end ≤ℤ to → to ≤ℤ end → AreTried clash (quarters from at) ts → LooksAt clash (quarters at end) ts None us
    → tried ≡ us → slot_with None tried ≡ slot_among clash (quarters from to)
answer_none clash from at end to ts us tried low high last past before looks e =
    ap (λ vs. slot_with None vs) e ∙ sym (days_end clash from to end us (omega (arith, ints, last, past)) (days_on clash from at end ts us low high before looks))

pub answer_least : (clash : ℤ → Option Clash) (from to : ℤ) (found : FoundSlot) → from ≤ℤ to → found ≡ slot_among clash (quarters from to) → IsSlot clash from to found
answer_least clash from to found order e = subst (IsSlot clash from to) (sym e) (least clash from to order)

none_by : {X : Type 0} (o : Option X) → is_some o ≡ false → o ≡ None
none_by None h = refl
none_by (Some x) h = absurd (cc h)

-- rules that can't be read for one start can be for none
pub never_read : (x y : ℤ) (rules : Data) → rules_in x rules ≡ None → rules_in y rules ≡ None
never_read x y rules h = none_by (rules_in y rules) (rules_alike y x rules ∙ ap is_some h)

-- what is true of an error is true of one that is passed on
pub passed_on : {X E : Type 0} (r : Result X E) (e : E) (P : E → Type 0) → IsErrAnd r (λ (x : E). x ≡ e) → P e → IfErr r P
passed_on (Ok x) e P h p = tt
passed_on (Err x) e P h p = subst P (sym h) p

-- no exception is named twice where there is none
pub none_distinct : (xs : List Exception) → xs ≡ [] → are_distinct xs ≡ true
unfolding are_distinct
none_distinct xs e = ap are_distinct e
