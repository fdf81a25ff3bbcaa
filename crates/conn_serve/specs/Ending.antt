-- How a connection ends that wasn't served to the end of its bytes.
use Rattle.std.specs.Prelude.{◌≡◌, ◌≤◌, ℕ}
use Rattle.spec_connection.specs.Serving.{refusal_text}
use Rattle.io_edge.specs.Outside.{Grows, GrowsByPrefix, Rose, SinkShown}
use Rattle.spec_connection.specs.declared.served.ConnEnd.{ConnEnd}
use Rattle.spec_connection.specs.declared.served.ConnEnd.TheVariants.{BadHead, NoMemory, WriteFault}

-- the response to a head that is refused with this status was given, or a prefix of it, or none of it
abbrev pub RefusalHow : SinkShown → SinkShown → ℕ → ConnEnd → Type 0
RefusalHow k k' status (BadHead s) = (s ≡ status) × Grows k.holds k'.holds (refusal_text status)
RefusalHow k k' status WriteFault = GrowsByPrefix k.holds k'.holds (refusal_text status) × Rose k.faults k'.faults
RefusalHow k k' status NoMemory = k'.holds ≡ k.holds
RefusalHow k k' status _ = ⊥

pub record IsRefusalEnd (k k' : SinkShown) (status : ℕ) (end : ConnEnd) : Type 0 where
  pub later : k.faults ≤ k'.faults
  pub how : RefusalHow k k' status end
