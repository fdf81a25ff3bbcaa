-- What a timetable and a prepared series hold.
use Rattle.std.specs.Prelude.{List, Option}
use Rattle.spec_series.specs.declared.series.Series.{Series}
use Rattle.spec_series.specs.Lengths.{IsWeekLong}
use Rattle.residue_clash.specs.RuleTracks.{AreTracks, AreKept, IsOutlineOf}
use Rattle.residue_clash.specs.declared.kept_rule.KeptRule.{KeptRule}
use Rattle.residue_clash.specs.declared.outline.Outline.{Outline}
use Rattle.residue_clash.specs.declared.rule_track.RuleTrack.{RuleTrack}

-- the series apart from its rules, and the tracks of these
pub record IsTimetable (s : Series) (o : Outline) (ts : List (Option RuleTrack)) : Type 0 where
  pub outline : IsOutlineOf s o
  pub tracks : AreTracks s ts

-- no occurrence lasts longer than 7 days, and what is kept of the rules is of them
pub record IsPrepared (s : Series) (ks : List (Option KeptRule)) : Type 0 where
  pub week : IsWeekLong s
  pub kept : AreKept s ks
