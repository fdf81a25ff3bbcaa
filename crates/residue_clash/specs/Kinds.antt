-- The two kinds of days that a rule gives: those that are to be in phase themselves, and those whose day before is.
use Rattle.std.specs.Prelude.{ℤ, pos, ◌-ℤ◌, Bool, true, false, ◌&&◌, ◌||◌}
use Rattle.spec_series.specs.declared.by_part.Skip.{Skip}
use Rattle.spec_series.specs.declared.by_part.Skip.TheVariants.{Omit, Backward, Forward}
use Rattle.spec_series.specs.declared.rule.Rule.{Rule}
use Rattle.spec_series.specs.Periods.{is_in_phase}
use Rattle.spec_series.specs.RuleSets.{is_kept, is_moved}

abbrev pub is_backward : Skip → Bool
is_backward Omit = false
is_backward Backward = true
is_backward Forward = false

abbrev pub is_forward : Skip → Bool
is_forward Omit = false
is_forward Backward = false
is_forward Forward = true

-- whatever its phase, the day is one that the rule keeps or moves backward to; or one that it moves forward to
unfoldable pub days_of : Bool → Rule → ℤ → Bool
days_of false r n = is_kept r n || (is_backward r.skip && is_moved r n)
days_of true r n = is_forward r.skip && is_moved r n

-- the day that is to be in phase: the day itself, or the one before
abbrev pub phase_day : Bool → ℤ → ℤ
phase_day false n = n
phase_day true n = n -ℤ pos 1

abbrev pub phase_by : Bool → Rule → ℤ → ℤ → Bool
phase_by pushed r first n = is_in_phase r first (phase_day pushed n)

-- a rule has days of the kind
abbrev pub has_kind : Bool → Rule → Bool
has_kind false r = true
has_kind true r = is_forward r.skip
