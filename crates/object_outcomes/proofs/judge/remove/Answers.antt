use Rattle.std.proofs.Common.{sym, ◌∙◌}
use Rattle.object_outcomes.proofs.SoundLemmas.{removal_sound}
use Rattle.object_outcomes.proofs.judge.remove.Goals as goal

pub within_quota-requires-clause-sound : goal.within_quota-requires-clause-sound
within_quota-requires-clause-sound g c fits =
    removal_sound (g.V.CalendarsView.base c.args.view.now).zones (g.V.CalendarsView.changes c.args.view.now) c.args.kind c.args.number c.args.object.now c.requires (sym c.is_in_use.ensures ∙ c.if-is_in_use.false) fits
