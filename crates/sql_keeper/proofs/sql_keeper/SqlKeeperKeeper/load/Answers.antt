use Rattle.std.proofs.Common.{refl}
use Rattle.sql_keeper.proofs.sql_keeper.SqlKeeperKeeper.load.Goals as goal

pub returns-in-Err-Text-Damaged-clause-undamaged : goal.returns-in-Err-Text-Damaged-clause-undamaged
returns-in-Err-Text-Damaged-clause-undamaged g c = λ h. absurd (h c.in-Err-Text-Damaged.place c.in-Err-Text-Damaged.text refl)
