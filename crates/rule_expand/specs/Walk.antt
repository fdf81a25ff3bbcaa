-- The walk over the periods of a rule that are in phase.
use Rattle.std.specs.Prelude.{◌≡◌, ◌⊎◌, ◌<◌, ℕ, ◌+◌, ◌*◌, ◌==◌, ◌&&◌, Bool, true, ℤ, pos, ◌+ℤ◌, ◌-ℤ◌, ◌*ℤ◌, ◌<ℤ◌, ◌≤ℤ◌, Option, Some, None}
use Rattle.spec_time.specs.Floor.{floor_div, modulo}
use Rattle.spec_time.specs.CivilDay.{day_number}
use Rattle.spec_series.specs.declared.by_part.Freq.{Freq}
use Rattle.spec_series.specs.declared.by_part.Freq.TheVariants.{Daily, Weekly, Monthly, Yearly}
use Rattle.spec_series.specs.declared.by_part.NDay.{NDay}
use Rattle.spec_series.specs.declared.rule.Rule.{Rule}
use Rattle.rule_expand.specs.declared.bound.Bound.{Bound}
use Rattle.rule_expand.specs.declared.bound.Bound.TheVariants.{Endless, Last}
use Rattle.spec_series.specs.Places.{is_place}
use Rattle.spec_series.specs.Periods.{period_first, period_last, period_number}
use Rattle.spec_series.specs.RuleSets.{is_kept, is_moved, moved_from}

-- the place, if one is named, from the front or from the end
abbrev pub nth_at : ℕ → ℕ → Option ℤ → Bool
nth_at front back None = true
nth_at front back (Some k) = is_place front back k

-- an item of `byDay` that names this day of the week, at its place
abbrev pub nday_at : ℕ → ℕ → ℕ → NDay → Bool
nday_at w front back d = (w == d.day) && nth_at front back d.nth

-- none of these days in a row lies after `after` and is kept
abbrev pub NoneKept : Rule → ℤ → ℤ → ℕ → Type 0
NoneKept r after first count = (k : ℕ) → k < count → after <ℤ (first +ℤ pos k) → is_kept r (first +ℤ pos k) ≡ true → ⊥

-- the first such day is the one k days after the first
pub record IsFirstKept (r : Rule) (after first : ℤ) (count k : ℕ) : Type 0 where
  pub within : k < count
  pub past : after <ℤ (first +ℤ pos k)
  pub kept : is_kept r (first +ℤ pos k) ≡ true
  pub before : NoneKept r after first k

-- the first day of the period with a number
unfoldable pub first_of : Freq → ℕ → ℤ → ℤ
first_of Daily w p = p
first_of Weekly w p = pos 7 *ℤ p -ℤ pos 3 +ℤ pos w
first_of Monthly w p = day_number (floor_div p 12) (modulo p 12 + 1) 1
first_of Yearly w p = day_number p 1 1

-- how many periods a cycle of 146097 days has
abbrev pub periods : Freq → ℕ
periods Daily = 146097
periods Weekly = 20871
periods Monthly = 4800
periods Yearly = 400

-- the day is one that the period with a number gives: one of its own that is kept, or one to which it moves
abbrev pub GivenBy : Rule → ℤ → ℤ → Type 0
GivenBy r p n =
    ((period_number r n ≡ p) × (is_kept r n ≡ true))
    ⊎ ((period_number r (moved_from r.skip n) ≡ p) × (is_moved r n ≡ true))

-- a day after `after` that a period in phase gives
pub record IsPhaseDay (r : Rule) (start_day after n : ℤ) : Type 0 where
  pub past : after <ℤ n
  pub number : ℤ
  pub given : GivenBy r number n
  pub phase : modulo number r.interval ≡ modulo (period_number r start_day) r.interval

-- the first such day
pub record IsNextDay (r : Rule) (start_day after n : ℤ) : Type 0 where
  pub here : IsPhaseDay r start_day after n
  pub least : (m : ℤ) → IsPhaseDay r start_day after m → n ≤ℤ m

-- a period in phase at or after that of a day, with none in phase between
pub record IsFirstPeriod (r : Rule) (start_day after p : ℤ) : Type 0 where
  pub same : modulo p r.interval ≡ modulo (period_number r start_day) r.interval
  pub from : period_number r after ≤ℤ p
  pub near : p <ℤ (period_number r after +ℤ pos r.interval)

-- the number of the last period that begins on a day up to the bound, or the greatest that there is
abbrev pub period_to : Rule → Bound → ℤ
period_to r Endless = pos 9223372036854775807
period_to r (Last last) = period_number r last

-- none of the first j periods p, p + i, .. gives a day after `after`
abbrev pub NoneThrough : Rule → ℤ → ℤ → ℕ → Type 0
NoneThrough r after p j = (t : ℕ) (m : ℤ) → t < j → GivenBy r (p +ℤ pos (t * r.interval)) m → after <ℤ m → ⊥

-- the first day after `after` to which the period moves
pub record IsFirstMoved (r : Rule) (after p n : ℤ) : Type 0 where
  pub own : period_number r (moved_from r.skip n) ≡ p
  pub past : after <ℤ n
  pub moved : is_moved r n ≡ true
  pub least : (m : ℤ) → period_number r (moved_from r.skip m) ≡ p → after <ℤ m → is_moved r m ≡ true → n ≤ℤ m

-- the period gives no day after `after`
abbrev pub NoneGiven : Rule → ℤ → ℤ → Type 0
NoneGiven r after p = (m : ℤ) → GivenBy r p m → after <ℤ m → ⊥

-- the first such day
pub record IsFirstGiven (r : Rule) (after p n : ℤ) : Type 0 where
  pub given : GivenBy r p n
  pub past : after <ℤ n
  pub least : (m : ℤ) → GivenBy r p m → after <ℤ m → n ≤ℤ m

-- no day of the period lies after `after` and passes the test
abbrev pub NoneIn : Rule → (ℤ → Bool) → ℤ → ℤ → Type 0
NoneIn r test after p = (m : ℤ) → period_number r m ≡ p → after <ℤ m → test m ≡ true → ⊥

-- the first such day of the period
pub record IsFirstIn (r : Rule) (test : ℤ → Bool) (after p n : ℤ) : Type 0 where
  pub own : period_number r n ≡ p
  pub past : after <ℤ n
  pub passes : test n ≡ true
  pub least : (m : ℤ) → period_number r m ≡ p → after <ℤ m → test m ≡ true → n ≤ℤ m

-- the days in a row from `first` are one whole period
abbrev pub IsWholePeriod : Rule → ℤ → ℕ → Type 0
IsWholePeriod r first count = (k : ℕ) → k < count
    → (period_first r.frequency r.week_start (first +ℤ pos k) ≡ first)
    × (period_last r.frequency r.week_start (first +ℤ pos k) +ℤ pos 1 ≡ first +ℤ pos count)

-- the first day from one to another that passes the test
pub record IsFirstMatch (test : ℤ → Bool) (from last n : ℤ) : Type 0 where
  pub low : from ≤ℤ n
  pub high : n ≤ℤ last
  pub matches : test n ≡ true
  pub before : (m : ℤ) → from ≤ℤ m → m <ℤ n → test m ≡ true → ⊥

-- of a period that begins with `first` and has so many days more, no day after `after` passes
abbrev pub NonePlain : (ℤ → Bool) → ℤ → ℤ → ℕ → Type 0
NonePlain test after first more = (n : ℤ) → first ≤ℤ n → n ≤ℤ (first +ℤ pos more) → after <ℤ n → test n ≡ true → ⊥

-- the first such day
pub record IsFirstPlain (test : ℤ → Bool) (after first : ℤ) (more : ℕ) (n : ℤ) : Type 0 where
  pub low : first ≤ℤ n
  pub high : n ≤ℤ (first +ℤ pos more)
  pub past : after <ℤ n
  pub matches : test n ≡ true
  pub before : (m : ℤ) → first ≤ℤ m → m <ℤ n → after <ℤ m → test m ≡ true → ⊥
