-- What a call adds carries its author and its turn.
use Rattle.std.specs.Prelude.{ℕ, suc, List, [], ◌∷◌}
use Rattle.std.proofs.Common.{refl}
use Rattle.cal_model.specs.Answer.{added, entries_from}
use Rattle.spec_history.specs.Base.{Base}
use Rattle.spec_history.specs.Signed.{AreSigned}
use Rattle.spec_calls.specs.declared.call.Call.{Call}
use Rattle.spec_history.specs.declared.entry.Change.{Change}
use Rattle.spec_history.specs.declared.entry.Entry.{Entry}
use Rattle.spec_history.specs.declared.stamp.Stamp.{Stamp}

signed_from : (s : Stamp) (cs : List Change) (n : ℕ) → AreSigned s.author s.turn (entries_from s n cs)
signed_from s [] n = tt
signed_from s (c ∷ cs) n = (refl, refl, signed_from s cs (suc n))

pub added_signed : (b : Base) (h : List Entry) (c : Call) (s : Stamp) → AreSigned s.author s.turn (added b h c s)
added_signed b h c s = signed_from s _ 0
