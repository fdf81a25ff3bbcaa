-- One piece after another in a sink.
use Rattle.std.proofs.Common.{ℕ, List, [], ◌++◌, Option, Some, None, sym, ap, ◌∙◌, append_assoc, append-nil}
use Rattle.io_edge.specs.Outside.{Grows}

-- nothing was given
pub Grows-nil : (a : Option (List ℕ)) → Grows a a []
Grows-nil None = tt
Grows-nil (Some x) = sym (append-nil x)

-- one piece, and then the next
pub Grows-trans : (a b c : Option (List ℕ)) (piece next : List ℕ) → Grows a b piece → Grows b c next → Grows a c (piece ++ next)
Grows-trans a b None piece next h k = tt
Grows-trans (Some x) (Some y) (Some z) piece next h k = k ∙ ap (λ l. l ++ next) h ∙ append_assoc x piece next
Grows-trans None (Some y) (Some z) piece next h k = absurd h
Grows-trans a None (Some z) piece next h k = absurd k
