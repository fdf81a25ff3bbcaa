-- What every tree of a program is, at every depth.
use Rattle.std.specs.Prelude.{◌≡◌, true}
use Rattle.spec_json.specs.Data as own
use Rattle.spec_json.specs.Data.{Data, Items, Members, pairs_of}
use Rattle.spec_json.specs.ObjectKeys.{keys_rise}
use Rattle.spec_json.specs.WholeNumber.{IsWhole}

-- keys are distinct and in byte order, and numbers are in range
abbrev mutual
  pub IsFit : Data → Type 0
  IsFit own.null = Unit {0}
  IsFit (own.truth b) = Unit {0}
  IsFit (own.whole z) = IsWhole z
  IsFit (own.text s) = Unit {0}
  IsFit (own.list ds) = AreFit ds
  IsFit (own.object ms) = (keys_rise (pairs_of ms) ≡ true) × MembersAreFit ms

  pub AreFit : Items → Type 0
  AreFit own.no_items = Unit {0}
  AreFit (own.item d ds) = IsFit d × AreFit ds

  pub MembersAreFit : Members → Type 0
  MembersAreFit own.no_members = Unit {0}
  MembersAreFit (own.member k d ms) = IsFit d × MembersAreFit ms
