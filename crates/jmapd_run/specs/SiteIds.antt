-- The ids of the accounts of a site.
use Rattle.std.specs.Prelude.{◌≡◌, ◌<◌, ℕ, List, length, slice_index_or}
use Rattle.spec_site.specs.Configuration.{Site, SiteAccount}

-- an account of this id is one of the site
abbrev pub HasId : Site → List ℕ → Type 0
HasId site id = (n : ℕ) × (n < length site.accounts) × ((d : SiteAccount) → id ≡ (slice_index_or site.accounts n d).id)
