-- What the calls of a connection come to in the histories of a desk's accounts, whatever others add to these.
use Rattle.std.specs.Prelude.{◌≡◌, ℕ, ◌+◌, ◌*◌, ◌≤◌, List, map}
use Rattle.spec_batch.specs.Chain.{Made, Summary, front_of}
use Rattle.spec_connection.specs.Serving.{Serves, Setting}
use Rattle.spec_connection.specs.declared.served.Served.{Served}
use Rattle.spec_core.specs.declared.limits.TheConstants.{MAX_CALLS_IN_REQUEST}
use Rattle.spec_site.specs.Configuration.{Site}

-- However the connection ended, the calls that were answered stand in the histories, each with its front, and no other entry there is the desk's; and the desk made
-- no more calls than so many requests may have (RFC 8620 section 2).
abbrev pub ConnectionsStandInHistories : Type 0
ConnectionsStandInHistories = (site : Site) (most : ℕ) (x x' : Setting) (served : Served) → Serves site most x x' served
    → (made : List Made) × Summary x.desk x'.desk made × (map front_of made ≡ served.fronts.items) × (x'.desk.turns ≤ x.desk.turns + MAX_CALLS_IN_REQUEST * most)
