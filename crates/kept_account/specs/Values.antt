-- What the types of a program say of the changes and entries that it has, whoever made them.
use Rattle.std.specs.Prelude.{◌<◌, ◌^◌, IfSome}
use Rattle.spec_history.specs.declared.entry.Change.{Change}
use Rattle.spec_history.specs.declared.entry.Entry.{Entry}
use Rattle.spec_json.specs.Fit.{IsFit}
use Rattle.spec_json.specs.TreeData.{data_of}
use Rattle.spec_time.specs.Moments.{IsMoment}

-- at every depth of its object keys are distinct and in byte order
abbrev pub IsChangeValue : Change → Type 0
IsChangeValue c = IfSome c.object (λ t. IsFit (data_of t))

-- the numbers are in range, too
pub record IsEntryValue (e : Entry) : Type 0 where
  pub author : e.author < 2 ^ 32
  pub part : e.part < 2 ^ 32
  pub moment : IsMoment e.moment
  pub fit : IsChangeValue e.change
