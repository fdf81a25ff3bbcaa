-- What the calls of a request come to in the histories of a desk's accounts, whatever others add to these.
use Rattle.std.specs.Prelude.{◌≡◌, ℤ, ◌+◌, ◌≤◌, List, ◌++◌, map, Result}
use Rattle.spec_batch.specs.Batch.{IsBatch}
use Rattle.spec_batch.specs.Chain.{Made, Shown, Summary, front_of}
use Rattle.spec_batch.specs.declared.desk.Front.{Front}
use Rattle.spec_batch.specs.declared.request.BatchError.{BatchError}
use Rattle.spec_core.specs.declared.limits.TheConstants.{MAX_CALLS_IN_REQUEST}
use Rattle.spec_core.specs.declared.user.User.{User}
use Rattle.spec_json.specs.Data.{Data}
use Rattle.spec_json.specs.declared.tree.Tree.{Tree}

-- However answering it ended, the calls that were answered stand in the histories, each with its front, and no other entry there is the desk's; and the desk made
-- no more calls than a request may have (RFC 8620 section 2).
abbrev pub RequestsStandInHistories : Type 0
RequestsStandInHistories = (user : User) (moment : ℤ) (d : Data) (fronts fronts' : List Front) (s t : Shown) (r : Result Tree BatchError) → IsBatch user moment d fronts fronts' s t r
    → (made : List Made) × Summary s t made × (fronts' ≡ fronts ++ map front_of made) × (t.turns ≤ s.turns + MAX_CALLS_IN_REQUEST)
