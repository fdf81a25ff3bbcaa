-- The steps of a look for a slot.
use Rattle.std.specs.Prelude.{◌≡◌, ◌<ℤ◌, ◌≤ℤ◌, ◌+ℤ◌, ℤ, pos, List, [], ◌∷◌, ◌++◌, Option, Some, None, map, true}
use Rattle.spec_bookings.specs.declared.clash.Clash.{Clash}
use Rattle.spec_json.specs.Data.{Data}
use Rattle.spec_series.specs.RuleObjects.{parts_of, rules_in}
use Rattle.spec_series.specs.declared.series.Series.{Series}
use Rattle.spec_slots.specs.Quarters.{is_quarter}
use Rattle.spec_slots.specs.Slots.{first_free, tried_of}
use Rattle.spec_slots.specs.declared.slot.Tried.{Tried}
use Rattle.spec_time.specs.Walls.{day_of_wall}
use Rattle.spec_time.specs.declared.length.Length.{Length}

-- the first quarter of an hour from a wall second on
pub record IsFirstQuarter (from quarter : ℤ) : Type 0 where
  pub is : is_quarter quarter ≡ true
  pub low : from ≤ℤ quarter
  pub near : quarter <ℤ (from +ℤ pos 900)

-- the wall seconds between lie in one day
abbrev pub AreOfOneDay : ℤ → ℤ → Type 0
AreOfOneDay at end = (x : ℤ) → at ≤ℤ x → x <ℤ end → day_of_wall x ≡ day_of_wall at

-- where a look that goes to another wall second ends in the day of this one
pub record IsDayEnd (at to end : ℤ) : Type 0 where
  pub low : at ≤ℤ end
  pub high : end ≤ℤ to
  pub later : at <ℤ to → at <ℤ end
  pub day : AreOfOneDay at end

-- the series is what is wished where it begins
pub record IsWished (length : Length) (rules : Data) (s : Series) : Type 0 where
  pub lasts : s.length ≡ length
  pub occupying : s.occupying ≡ true
  pub read : rules_in s.start rules ≡ Some (map parts_of s.rules)
  pub exceptions : s.exceptions ≡ []

-- the series is the other but for its start
pub record IsMoved (s t : Series) : Type 0 where
  pub lasts : t.length ≡ s.length
  pub occupying : t.occupying ≡ s.occupying
  pub rules : t.rules ≡ s.rules
  pub exceptions : t.exceptions ≡ s.exceptions

-- against each of these starts something stands, and that is told
pub record AreTried (clash : ℤ → Option Clash) (xs : List ℤ) (tried : List Tried) : Type 0 where
  pub none : first_free clash xs ≡ None
  pub told : tried ≡ tried_of clash xs

-- nothing stands against this start, which is told of none, and those before it were tried
pub record IsFreeStart (clash : ℤ → Option Clash) (xs ys : List ℤ) (start : ℤ) (tried : List Tried) : Type 0 where
  pub before : List ℤ
  pub behind : List ℤ
  pub among : ys ≡ before ++ start ∷ behind
  pub earlier : AreTried clash (xs ++ before) tried
  pub free : clash start ≡ None

-- what comes of a look at some starts behind others that were tried
abbrev pub ComesOf : (ℤ → Option Clash) → List ℤ → List ℤ → Option ℤ → List Tried → Type 0
ComesOf clash xs ys None tried = AreTried clash (xs ++ ys) tried
ComesOf clash xs ys (Some start) tried = IsFreeStart clash xs ys start tried

-- the same behind whatever was tried before
abbrev pub LooksAt : (ℤ → Option Clash) → List ℤ → List Tried → Option ℤ → List Tried → Type 0
LooksAt clash ys before found tried = (xs : List ℤ) → AreTried clash xs before → ComesOf clash xs ys found tried
