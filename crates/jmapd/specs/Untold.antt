-- What contracts see of an office that tells nothing of what the files have.
use Rattle.std.specs.Prelude.{ℕ, None}
use Rattle.jmapd_listen.specs.Offices.{OfficeShown}

-- by its counts of faults and of damages
abbrev pub untold : ℕ → ℕ → OfficeShown
untold faults damages = record { told = λ id. None; faults = faults; damages = damages }
