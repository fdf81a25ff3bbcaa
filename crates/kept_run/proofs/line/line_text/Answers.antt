use Rattle.kept_run.proofs.LineLemmas.{spent_never}
use Rattle.kept_run.proofs.line.line_text.Goals as goal

pub unreachable-requires : goal.unreachable-requires
unreachable-requires c = spent_never c.args.site.now c.args.user c.args.line.now c.args.desk.now c.reply_to.new.desk c.in-Err-PassSpent.field-0-is c.requires.may_call c.in-Err-PassSpent.ensures
