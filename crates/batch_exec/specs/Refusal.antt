-- Why a JSON value is answered no request.
use Rattle.std.specs.Prelude.{◌≡◌}
use Rattle.spec_batch.specs.Asked.{Asked, refused}
use Rattle.spec_batch.specs.declared.request.BatchError.{BatchError}
use Rattle.spec_batch.specs.declared.request.BatchError.TheVariants.{Refused, PassSpent, NoMemory}

-- a value that asks for this is refused so; out of memory says nothing of it
abbrev pub Refuses : BatchError → Asked → Type 0
Refuses (Refused e) a = a ≡ refused e
Refuses PassSpent a = ⊥
Refuses NoMemory a = Unit {0}
