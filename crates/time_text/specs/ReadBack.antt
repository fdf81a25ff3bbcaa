-- What was written is read back.
use Rattle.std.specs.Prelude.{◌≡◌, ℤ, Some}
use Rattle.spec_time.specs.LocalTimes.{local_in, local_text, utc_in, utc_text}

pub record IsReadBack (w : ℤ) : Type 0 where
  pub local : local_in (local_text w) ≡ Some w
  pub utc : utc_in (utc_text w) ≡ Some w
