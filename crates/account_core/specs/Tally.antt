-- What is counted of the changes of an account.
use Rattle.std.specs.Prelude.{◌≡◌, ℕ, List, length}
use Rattle.std.specs.List.{range_with_len}
use Rattle.cal_model.specs.Quota.{live_objects, live_size}
use Rattle.spec_history.specs.History.{ids_at}
use Rattle.spec_history.specs.declared.entry.Change.{Change}
use Rattle.spec_history.specs.declared.entry.Kind.{Kind}
use Rattle.spec_history.specs.declared.entry.Kind.TheVariants.{Calendar, Event}
use Rattle.account_core.specs.declared.tally.Tally.{Tally}

-- how many objects of a kind were created
abbrev pub count_created : Tally → Kind → ℕ
count_created t Calendar = t.calendars
count_created t Event = t.events

-- the tally is that of these changes, whose objects got the numbers from 1 on, in order
pub record Tallies (t : Tally) (cs : List Change) : Type 0 where
  pub entries : t.entries ≡ length cs
  pub objects : t.objects ≡ length (live_objects cs)
  pub size : t.size ≡ live_size cs
  pub numbers : (kind : Kind) → ids_at cs kind ≡ range_with_len 1 (count_created t kind)
