use Rattle.std.proofs.Common.{◌≡◌, length, map}
use Rattle.std.specs.Char.{to_ascii_lowercase}
use Rattle.folded_text.specs.Contains.{begins}
use Rattle.query_filter.proofs.ascii.begins.Given as goal

abbrev pub invariant-loop-letter : goal.invariant-loop-letter
invariant-loop-letter l = begins (map to_ascii_lowercase l.wanted) (map to_ascii_lowercase l.rest) ≡ begins (map to_ascii_lowercase l.needle) (map to_ascii_lowercase l.text)

abbrev pub decreases-loop-letter : goal.decreases-loop-letter
decreases-loop-letter l = length l.wanted
