-- What the bytes of a configuration come to: a site, or its first bad field with the place of the first bad item.
use Rattle.std.specs.Prelude.{ℕ, ℤ, ◌<◌, ◌==◌, ◌&&◌, ◌||◌, All, slice_index_or, List, [], ◌∷◌, ◌++◌, Bool, true, false, not, Option, Some, None, option_and_then, option_map, Result, Ok, Err, codes, int_le, length, nat_le, nat_lt, pos, position, unsigned_abs, if◌then◌else◌}
use Rattle.std.specs.List.{list_any, starts_with}
use Rattle.std.specs.Result.{result_ok}
use Rattle.std.specs.Str.{bytes_eq}
use Rattle.spec_json.specs.Data.{Data, null, object, field}
use Rattle.spec_core.specs.Names.{is_token}
use Rattle.spec_core.specs.Id.{is_id}
use Rattle.spec_core.specs.declared.numbers.TheConstants.{MAX_UNSIGNED_INT}
use Rattle.spec_json.specs.Json.{Reading, value, reading}
use Rattle.spec_json.specs.Parts.{as_list, as_text, as_whole, list_at, text_at}
use Rattle.spec_core.specs.Names.{is_name}
use Rattle.spec_site.specs.TimeZones.{ZoneText, is_good_zone}
use Rattle.spec_site.specs.declared.limits.TheConstants.{MAX_ACCOUNTS, MAX_BASE_URL_BYTES, MAX_CONFIGURATION_BYTES, MAX_USERS, MAX_ZONES}
use Rattle.spec_site.specs.declared.field.Field.{Field}
use Rattle.spec_site.specs.declared.field.Field.TheVariants.{Json, BaseUrl, Accounts, Users, Zones, Generation, WebSocketUrl}
use Rattle.spec_core.specs.declared.user.Grant.{Grant}
use Rattle.spec_core.specs.declared.user.User.{User}

pub record SiteAccount : Type 0 where
  -- an Id (RFC 8620 section 1.2)
  pub id : List ℕ
  pub name : List ℕ

-- a user, with the bearer token that shows a request to be of theirs
pub record SiteUser : Type 0 where
  pub token : List ℕ
  pub user : User

pub record Site : Type 0 where
  -- what every address of the session object begins with
  pub base_url : List ℕ
  pub accounts : List SiteAccount
  pub users : List SiteUser
  pub zones : List ZoneText
  -- which copy of the data the accounts go on from
  pub generation : ℕ
  -- where clients find WebSockets (RFC 8887 section 3), if they are to find them
  pub web_socket_url : Option (List ℕ)

-- the first bad field, and the place of its first bad item, 0 where no item is bad alone
pub record Fault : Type 0 where
  pub field : Field
  pub index : ℕ

-- the member that a field is, and `json` for the whole
abbrev pub field_name : Field → List ℕ
field_name Json = codes "json"
field_name BaseUrl = codes "baseUrl"
field_name Accounts = codes "accounts"
field_name Users = codes "users"
field_name Zones = codes "zones"
field_name Generation = codes "generation"
field_name WebSocketUrl = codes "webSocketUrl"

-- ---- lists

abbrev on_read : {X Y : Type 0} → ℕ → (X → Result Y ℕ) → Option X → Result Y ℕ
on_read index next None = Err index
on_read index next (Some x) = next x

-- each item, read in the light of those before it, or the place of the first that can't be
abbrev pub read_behind : {X : Type 0} → (List X → Data → Option X) → List X → List Data → Result (List X) ℕ
read_behind read earlier [] = Ok earlier
read_behind read earlier (d ∷ ds) = on_read (length earlier) (λ x. read_behind read (earlier ++ x ∷ []) ds) (read earlier d)

-- the items of a list of at least and at most so many
abbrev pub read_list : {X : Type 0} → ℕ → ℕ → (List X → Data → Option X) → Option (List Data) → Result (List X) ℕ
read_list least most read None = Err 0
read_list least most read (Some ds) = if nat_le least (length ds) && nat_le (length ds) most then read_behind read [] ds else Err 0

-- the value, where it passes
abbrev pub passing : {X : Type 0} → (X → Bool) → Option X → Option X
passing passes found = option_and_then (λ x. if passes x then Some x else None) found

-- ---- baseUrl and accounts

-- a text of 1 to 1000 bytes
abbrev pub is_base_url : List ℕ → Bool
is_base_url text = nat_lt 0 (length text) && nat_le (length text) MAX_BASE_URL_BYTES

abbrev pub base_url_in : Data → Result (List ℕ) ℕ
base_url_in d = on_read 0 Ok (passing is_base_url (text_at (field_name BaseUrl) d))

abbrev pub has_account : List SiteAccount → List ℕ → Bool
has_account accounts id = list_any (λ a. bytes_eq a.id id) accounts

-- an account may stand behind these: its id is an Id, and new
abbrev pub is_good_account : List SiteAccount → SiteAccount → Bool
is_good_account earlier a = is_id a.id && not (has_account earlier a.id)

abbrev pub account_text : Data → Option SiteAccount
account_text d = option_and_then (λ id. option_map (λ name. record { id = id; name = name }) (text_at (codes "name") d)) (text_at (codes "id") d)

abbrev pub account_in : List SiteAccount → Data → Option SiteAccount
account_in earlier d = passing (is_good_account earlier) (account_text d)

-- 1 to 16 accounts
abbrev pub accounts_in : Data → Result (List SiteAccount) ℕ
accounts_in d = read_list 1 MAX_ACCOUNTS account_in (list_at (field_name Accounts) d)

-- ---- users

abbrev pub has_grant : List Grant → List ℕ → Bool
has_grant grants id = list_any (λ g. bytes_eq g.id id) grants

-- the grant of the account of an id, where there is one that isn't granted yet
abbrev pub grant_to : List SiteAccount → List Grant → List ℕ → Option Grant
grant_to accounts earlier id =
    if has_grant earlier id then None
    else option_map (λ n. record { account = n; id = id; read_only = false }) (position (λ a. bytes_eq a.id id) accounts)

abbrev pub grant_in : List SiteAccount → List Grant → Data → Option Grant
grant_in accounts earlier d = option_and_then (grant_to accounts earlier) (as_text d)

abbrev pub grants_in : List SiteAccount → List Data → Option (List Grant)
grants_in accounts ds = result_ok (read_behind (grant_in accounts) [] ds)

-- the grants with that of an id for reading alone, where there is one that isn't so yet
abbrev pub restrict : List ℕ → List Grant → Option (List Grant)
restrict id [] = None
restrict id (g ∷ gs) =
    if bytes_eq g.id id then (if g.read_only then None else Some (record { account = g.account; id = g.id; read_only = true } ∷ gs))
    else option_map (λ hs. g ∷ hs) (restrict id gs)

-- the grants with those of all these ids for reading alone
abbrev pub restrict_all : List Data → List Grant → Option (List Grant)
restrict_all [] gs = Some gs
restrict_all (d ∷ ds) gs = option_and_then (restrict_all ds) (option_and_then (λ id. restrict id gs) (as_text d))

-- the items of a list that may be absent, as null is
abbrev pub optional_list : Option Data → Option (List Data)
optional_list None = Some []
optional_list (Some null) = Some []
optional_list (Some d) = as_list d

-- the accounts that a user may use, and which of them for reading alone
abbrev pub user_grants : List SiteAccount → Data → Option (List Grant)
user_grants accounts d = option_and_then (λ ds. option_and_then (restrict_all ds)
    (option_and_then (grants_in accounts) (list_at (codes "accounts") d))) (optional_list (field (codes "readOnly") d))

abbrev pub is_good_user_name : List SiteUser → List ℕ → Bool
is_good_user_name earlier name = is_name name && not (list_any (λ u. bytes_eq u.user.name name) earlier)

abbrev pub is_good_token : List SiteUser → List ℕ → Bool
is_good_token earlier token = is_token token && not (list_any (λ u. bytes_eq u.token token) earlier)

-- a user who may stand behind these: the name and the token are new
abbrev pub user_in : List SiteAccount → List SiteUser → Data → Option SiteUser
user_in accounts earlier d = option_and_then (λ name. option_and_then (λ token. option_map
    (λ grants. record { token = token; user = record { name = name; grants = grants } })
    (user_grants accounts d)) (passing (is_good_token earlier) (text_at (codes "token") d))) (passing (is_good_user_name earlier) (text_at (codes "name") d))

-- 1 to 64 users
abbrev pub users_in : List SiteAccount → Data → Result (List SiteUser) ℕ
users_in accounts d = read_list 1 MAX_USERS (user_in accounts) (list_at (field_name Users) d)

-- ---- zones

abbrev pub zone_text : Data → Option ZoneText
zone_text d = option_and_then (λ name. option_map (λ rule. (name, rule)) (text_at (codes "rule") d)) (text_at (codes "name") d)

abbrev pub zone_in : List ZoneText → Data → Option ZoneText
zone_in earlier d = passing (is_good_zone earlier) (zone_text d)

-- at most 64 zones; the field may be absent
abbrev pub zones_in : Data → Result (List ZoneText) ℕ
zones_in d = read_list 0 MAX_ZONES zone_in (optional_list (field (field_name Zones) d))

-- ---- generation

-- the number of an UnsignedInt (RFC 8620 section 1.3)
abbrev pub unsigned_number : ℤ → Option ℕ
unsigned_number n = if int_le (pos 0) n && int_le n (pos MAX_UNSIGNED_INT) then Some (unsigned_abs n) else None

abbrev pub unsigned_of : Data → Option ℕ
unsigned_of d = option_and_then unsigned_number (as_whole d)

abbrev pub generation_of : Option Data → Result ℕ ℕ
generation_of None = Ok 0
generation_of (Some d) = on_read 0 Ok (unsigned_of d)

-- 0 where the field is absent
abbrev pub generation_in : Data → Result ℕ ℕ
generation_in d = generation_of (field (field_name Generation) d)

-- ---- webSocketUrl

-- at most 1000 bytes, which begin as the address of a WebSocket does (RFC 6455 section 3)
abbrev pub is_web_socket_url : List ℕ → Bool
is_web_socket_url text =
    nat_le (length text) MAX_BASE_URL_BYTES && (starts_with (λ x y. x == y) text (codes "ws://") || starts_with (λ x y. x == y) text (codes "wss://"))

abbrev pub web_socket_url_of : Option Data → Result (Option (List ℕ)) ℕ
web_socket_url_of None = Ok None
web_socket_url_of (Some d) = on_read 0 (λ url. Ok (Some url)) (passing is_web_socket_url (as_text d))

-- none where the field is absent
abbrev pub web_socket_url_in : Data → Result (Option (List ℕ)) ℕ
web_socket_url_in d = web_socket_url_of (field (field_name WebSocketUrl) d)

-- ---- the whole

-- goes on with what a field is read as
abbrev pub and_then : {X Y : Type 0} → Field → Result X ℕ → (X → Result Y Fault) → Result Y Fault
and_then name (Err index) next = Err (record { field = name; index = index })
and_then name (Ok x) next = next x

-- the fields in order; unknown members are ignored
abbrev pub site_in : Data → Result Site Fault
site_in d =
    and_then BaseUrl (base_url_in d) (λ base_url. and_then Accounts (accounts_in d) (λ accounts. and_then Users (users_in accounts d) (λ users.
    and_then Zones (zones_in d) (λ zones. and_then Generation (generation_in d) (λ generation. and_then WebSocketUrl (web_socket_url_in d) (λ web_socket_url.
    Ok (record { base_url = base_url; accounts = accounts; users = users; zones = zones; generation = generation; web_socket_url = web_socket_url })))))))

abbrev pub site_read : Reading → Result Site Fault
site_read (value (object members)) = site_in (object members)
site_read _ = Err (record { field = Json; index = 0 })

-- a configuration has at most 1,000,000 bytes, which are a JSON object whose numbers are whole
abbrev pub configured : List ℕ → Result Site Fault
configured bytes = if nat_le (length bytes) MAX_CONFIGURATION_BYTES then site_read (reading bytes) else Err (record { field = Json; index = 0 })

-- the site without a configuration: one user with one account
abbrev pub built_in : Site
built_in = record {
  base_url = codes "http://localhost";
  accounts = record { id = codes "A1"; name = codes "local" } ∷ [];
  users = record {
    token = codes "local";
    user = record { name = codes "local"; grants = record { account = 0; id = codes "A1"; read_only = false } ∷ [] };
  } ∷ [];
  zones = [];
  generation = 0;
  web_socket_url = None;
}

-- ---- users by what they are known by

-- the number of the user of a token
abbrev pub user_of_token : Site → List ℕ → Option ℕ
user_of_token site token = position (λ u. bytes_eq u.token token) site.users

-- the number of the user of a name
abbrev pub user_named : Site → List ℕ → Option ℕ
user_named site name = position (λ u. bytes_eq u.user.name name) site.users

abbrev nobody : SiteUser
nobody = record { token = []; user = record { name = []; grants = [] } }

-- the user of a number
abbrev pub user_at : Site → ℕ → User
user_at site n = (slice_index_or site.users n nobody).user

-- every grant is of an account that is there
abbrev pub HasItsAccounts : Site → Type 0
HasItsAccounts site = All (λ u. All (λ g. g.account < length site.accounts) u.user.grants) site.users
