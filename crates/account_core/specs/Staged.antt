-- Changes of a call that may become entries.
use Rattle.std.specs.Prelude.{◌≡◌, List, None, ◌++◌}
use Rattle.cal_model.specs.GoesOn.{GoesOn}
use Rattle.cal_model.specs.Sound.{first_unsound}
use Rattle.spec_history.specs.History.{changes_of}
use Rattle.spec_history.specs.declared.entry.Change.{Change}
use Rattle.spec_history.specs.declared.entry.Entry.{Entry}
use Rattle.spec_site.specs.TimeZones.{ZoneText}

-- Each of the changes is sound behind these entries and those before it, and an account goes on from all of them.
pub record MayBeKept (zones : List ZoneText) (h : List Entry) (cs : List Change) : Type 0 where
  pub sound : first_unsound zones (changes_of h) cs ≡ None
  pub goes_on : GoesOn zones (changes_of h ++ cs)
