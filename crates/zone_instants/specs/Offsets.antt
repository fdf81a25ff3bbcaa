-- What `jiff` answers of a wall time.
use Rattle.jiff_tz.specs.declared.ambiguous.AmbiguousOffset.{AmbiguousOffset}
use Rattle.jiff_tz.specs.declared.ambiguous.AmbiguousOffset.TheVariants.{Unambiguous, Gap, Fold}
use Rattle.spec_windows.specs.Clocks.{ClockReading, Once, Twice, Never}

-- its offsets as seconds
abbrev pub reading_of : AmbiguousOffset → ClockReading
reading_of (Unambiguous o) = Once o.seconds
reading_of (Gap a b) = Never a.seconds b.seconds
reading_of (Fold a b) = Twice a.seconds b.seconds
