-- The exit status of a kept run.
use Rattle.std.specs.Prelude.{ℕ}
use Rattle.jmapd_run.specs.Statuses.{exit_status}
use Rattle.jmapd_run.specs.declared.kept_status.KeptStatus.{KeptStatus}
use Rattle.jmapd_run.specs.declared.kept_status.KeptStatus.TheVariants.{Plain, KeepFault, Damaged, ForeignJournal, BadJournal}

abbrev pub kept_exit_status : KeptStatus → ℕ
kept_exit_status (Plain status) = exit_status status
kept_exit_status KeepFault = 9
kept_exit_status (Damaged account place text) = 10
kept_exit_status (ForeignJournal account place) = 11
kept_exit_status (BadJournal account kind id) = 11
