-- What a failure says of participants.
use Rattle.std.specs.Prelude.{◌≡◌, Bool, false}
use Rattle.participants.specs.declared.read.ParticipantsError.{ParticipantsError}
use Rattle.participants.specs.declared.read.ParticipantsError.TheVariants.{BadParticipants, NoMemory}

-- the value isn't one of participants; out of memory says nothing
abbrev pub Reports : ParticipantsError → Bool → Type 0
Reports BadParticipants passes = passes ≡ false
Reports NoMemory passes = Unit {0}
