use Rattle.std.proofs.Common.{inl, inr, refl, rules}
use Rattle.state_watch.proofs.Seeing.{glanced, sight_of}
use Rattle.state_watch.proofs.glance.glance.Goals as goal

pub returns-in-Ok-note : goal.returns-in-Ok-note
returns-in-Ok-note g c = (
  sight_of c.args.watched.now c.args.moment (g.D.Desk.shown c.ask.new.desk) c.in-Ok.reply,
  glanced c.in-Ok.reply c.in-Ok.ensures,
  c.in-Ok-note.ensures.watched,
  c.in-Ok-note.ensures.changed,
)

pub returns-in-Err-note : goal.returns-in-Err-note
returns-in-Err-note g c = inr (refl, sight_of c.args.watched.now c.args.moment (g.D.Desk.shown c.ask.new.desk) c.in-Ok.reply, glanced c.in-Ok.reply c.in-Ok.ensures)
