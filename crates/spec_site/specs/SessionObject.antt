-- The session object of a user (RFC 8620 section 2, RFC 8887 section 3, draft JMAP for Calendars), with an extension of this server's own (RFC 8620 section 1.8).
use Rattle.std.specs.Prelude.{ℕ, pos, List, [], ◌∷◌, ◌++◌, Bool, true, false, Option, Some, None, codes, map, slice_index_or}
use Rattle.spec_core.specs.declared.limits.TheConstants.{MAX_CALLS_IN_REQUEST, MAX_OBJECTS_IN_GET, MAX_OBJECTS_IN_SET, MAX_SIZE_REQUEST}
use Rattle.spec_core.specs.Capabilities.{core, calendars, availability, slots, websocket}
use Rattle.spec_json.specs.Data.{Data, Pair, truth, whole, text, list, object, items_of, members_of}
use Rattle.spec_json.specs.Edit.{put_all}
use Rattle.spec_site.specs.Configuration.{Site, SiteAccount}
use Rattle.spec_core.specs.declared.user.Grant.{Grant}
use Rattle.spec_core.specs.declared.user.User.{User}

abbrev empty : Data
empty = object (members_of [])

abbrev number : ℕ → Data
number n = whole (pos n)

-- what the core capability says: the limits of this server
abbrev pub core_capability : Data
core_capability = object (members_of (
    (codes "collationAlgorithms", list (items_of (text (codes "i;octet") ∷ [])))
    ∷ (codes "maxCallsInRequest", number MAX_CALLS_IN_REQUEST)
    ∷ (codes "maxConcurrentRequests", number 16)
    ∷ (codes "maxConcurrentUpload", number 0)
    ∷ (codes "maxObjectsInGet", number MAX_OBJECTS_IN_GET)
    ∷ (codes "maxObjectsInSet", number MAX_OBJECTS_IN_SET)
    ∷ (codes "maxSizeRequest", number MAX_SIZE_REQUEST)
    ∷ (codes "maxSizeUpload", number 0) ∷ []))

-- what the capability of WebSockets says: where they are, and that changes are told on them
abbrev pub web_socket_capability : List ℕ → Data
web_socket_capability url = object (members_of ((codes "supportsPush", truth true) ∷ (codes "url", text url) ∷ []))

-- the capabilities of each site
abbrev pub own_capabilities : List Pair
own_capabilities = (slots, empty) ∷ (calendars, empty) ∷ (core, core_capability) ∷ (availability, empty) ∷ []

-- that of WebSockets is among them where these have an address
abbrev pub capabilities : Option (List ℕ) → Data
capabilities None = object (members_of own_capabilities)
capabilities (Some url) = object (members_of (own_capabilities ++ (websocket, web_socket_capability url) ∷ []))

abbrev pub account_capabilities : Data
account_capabilities = object (members_of ((slots, empty) ∷ (calendars, empty) ∷ (availability, empty) ∷ []))

module _ (site : Site) where
  abbrev unnamed : SiteAccount
  unnamed = record { id = []; name = [] }

  abbrev pub account_object : Bool → Grant → Data
  account_object is_first g = object (members_of (
      (codes "accountCapabilities", account_capabilities)
      ∷ (codes "isPersonal", truth is_first)
      ∷ (codes "isReadOnly", truth g.read_only)
      ∷ (codes "name", text (slice_index_or site.accounts g.account unnamed).name) ∷ []))

  abbrev pub account_member : Bool → Grant → Pair
  account_member is_first g = (g.id, account_object is_first g)

  -- the granted accounts, of which the first is the user's own
  abbrev pub account_members : List Grant → List Pair
  account_members [] = []
  account_members (g ∷ gs) = account_member true g ∷ map (account_member false) gs

  -- each capability with the account that it is first used for
  abbrev pub primary_accounts : List Grant → Data
  primary_accounts [] = empty
  primary_accounts (g ∷ gs) = object (members_of ((slots, text g.id) ∷ (calendars, text g.id) ∷ (availability, text g.id) ∷ []))

  abbrev address : List ℕ → Data
  address path = text (site.base_url ++ path)

  abbrev pub session_object : User → Data
  session_object user = object (members_of (
      (codes "accounts", object (members_of (put_all (account_members user.grants) [])))
      ∷ (codes "apiUrl", address (codes "/jmap"))
      ∷ (codes "capabilities", capabilities site.web_socket_url)
      ∷ (codes "downloadUrl", address (codes "/download/{accountId}/{blobId}/{name}?accept={type}"))
      ∷ (codes "eventSourceUrl", address (codes "/events?types={types}&closeafter={closeafter}&ping={ping}"))
      ∷ (codes "primaryAccounts", primary_accounts user.grants)
      ∷ (codes "state", text (codes "1"))
      ∷ (codes "uploadUrl", address (codes "/upload/{accountId}"))
      ∷ (codes "username", text user.name) ∷ []))
