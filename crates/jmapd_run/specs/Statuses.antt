-- The exit status of the program, by how its command ended.
use Rattle.std.specs.Prelude.{ℕ}
use Rattle.jmapd_run.specs.declared.status.Status.{Status}
use Rattle.jmapd_run.specs.declared.status.Status.TheVariants.{Done, Refused, Usage, Config, ReadFault, WriteFault, OpenFault, NoMemory, Cut}

abbrev pub exit_status : Status → ℕ
exit_status Done = 0
exit_status Refused = 1
exit_status Usage = 2
exit_status (Config field index) = 3
exit_status ReadFault = 4
exit_status WriteFault = 5
exit_status OpenFault = 6
exit_status NoMemory = 7
exit_status Cut = 8
