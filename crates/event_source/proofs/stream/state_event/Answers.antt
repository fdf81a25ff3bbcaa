use Rattle.std.proofs.Common.{append_assoc}
use Rattle.event_source.proofs.stream.state_event.Goals as goal

pub returns : goal.returns
returns c = rw (c.in_ok-event.ensures.ok, c.as_str-id.ensures) (simp append_assoc)
