use Rattle.std.proofs.Common.{◌≡◌, ◌∷◌, length, map}
use Rattle.std.specs.Char.{to_ascii_lowercase}
use Rattle.folded_text.specs.Contains.{stands_in}
use Rattle.query_filter.proofs.ascii.has_both.Given as goal

abbrev pub invariant-loop-byte : goal.invariant-loop-byte
invariant-loop-byte l = stands_in (l.first ∷ map to_ascii_lowercase l.others) (map to_ascii_lowercase l.rest) ≡ stands_in (l.first ∷ map to_ascii_lowercase l.others) (map to_ascii_lowercase l.text)

abbrev pub decreases-loop-byte : goal.decreases-loop-byte
decreases-loop-byte l = length l.rest
