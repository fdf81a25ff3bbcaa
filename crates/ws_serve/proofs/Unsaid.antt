-- A turn that was had, and of which nothing could be sent.
use Rattle.std.proofs.Common.{◌≡◌, List, [], inl, refl}
use Rattle.spec_batch.specs.Chain.{Shown}
use Rattle.spec_batch.specs.declared.desk.DeskError.TheVariants.{NoMemory}
use Rattle.spec_core.specs.declared.user.User.{User}
use Rattle.spec_push.specs.declared.watched.Watched.{Watched}
use Rattle.spec_sockets.specs.Texts.{asked_in_text, id_in_text}
use Rattle.spec_sockets.specs.Turns.{Turn, TurnBegun, TurnFits, looked, replied, sent_by, switched}
use Rattle.spec_time.specs.Moments.{clamped}
use Rattle.ws_serve.proofs.Replying.{unsaid}

-- it ends for want of memory, where it has something to send
pub unsaid_turn : (user : User) (watch : List Watched) (u v : Shown) (t : Turn) → TurnFits user watch t → v ≡ u → (sent_by t ≡ [] → ⊥) → TurnBegun user watch NoMemory u v t
unsaid_turn user watch u v (replied t) fit same speaks = unsaid user (clamped t.moment) (asked_in_text t.asking) (id_in_text t.asking) t.made u v t.reply fit.1 same
unsaid_turn user watch u v (switched asking moment) fit same speaks = absurd (speaks refl)
unsaid_turn user watch u v (looked l moment) fit same speaks = (fit.0, inl (refl, same))
