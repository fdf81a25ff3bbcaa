-- What a chain comes to in the histories of a desk's accounts, whatever others add to these.
use Rattle.std.specs.Prelude.{◌≡◌, ◌+◌, List, length}
use Rattle.spec_batch.specs.Chain.{Made, Chain, Shown, Summary}

-- the histories grew, and the calls stand in them; each call is one of those that the desk has made
abbrev pub ChainsStandInHistories : Type 0
ChainsStandInHistories = (s t : Shown) (ms : List Made) → Chain s t ms → Summary s t ms × (t.turns ≡ s.turns + length ms)
