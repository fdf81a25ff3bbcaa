-- Which states a client is told: those of types of objects in accounts (RFC 8620 section 7.1).
use Rattle.std.specs.Prelude.{ℕ, List, [], ◌∷◌, ◌++◌, Bool, None, codes, flat_map, if◌then◌else◌}
use Rattle.spec_core.specs.declared.user.Grant.{Grant}
use Rattle.spec_core.specs.declared.user.User.{User}
use Rattle.spec_history.specs.declared.entry.Kind.{Kind}
use Rattle.spec_history.specs.declared.entry.Kind.TheVariants.{Calendar, Event}
use Rattle.spec_push.specs.declared.data_types.DataTypes.{DataTypes}
use Rattle.spec_push.specs.declared.watched.Watched.{Watched}

-- the name of a type
abbrev pub data_type_name : Kind → List ℕ
data_type_name Calendar = codes "Calendar"
data_type_name Event = codes "CalendarEvent"

-- a type in the account of a grant, of which nothing was told
abbrev pub watched_anew : Grant → Kind → Watched
watched_anew g kind = record { account = g.account; id = g.id; kind = kind; told = None; place = None }

abbrev pub watched_anew_if : Bool → Grant → Kind → List Watched
watched_anew_if wanted g kind = if wanted then watched_anew g kind ∷ [] else []

abbrev pub watched_in : DataTypes → Grant → List Watched
watched_in types g = watched_anew_if types.calendars g Calendar ++ watched_anew_if types.events g Event

-- all of these types in the accounts that a user may use
abbrev pub watched_for : User → DataTypes → List Watched
watched_for user types = flat_map (watched_in types) user.grants
