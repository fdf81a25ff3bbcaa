-- What the address of a request for a stream of events asks for (RFC 8620 section 7.3).
use Rattle.std.specs.Prelude.{◌≡◌, ℕ, ◌==◌, ⊤, List, [], ◌∷◌, Option, Some, None, Result, Ok, Err, codes, flat_map, map, max, min, option_map, if◌then◌else◌}
use Rattle.std.specs.List.{slice_split}
use Rattle.std.specs.Str.{bytes_eq}
use Rattle.std.specs.Str.Lossy.{utf8_lossy}
use Rattle.form_urlencoded.specs.Form.{decode, raw_pairs}
use Rattle.event_source.specs.declared.query.CloseAfter.{CloseAfter}
use Rattle.event_source.specs.declared.query.CloseAfter.TheVariants as close_after
use Rattle.event_source.specs.declared.query.StreamQuery.{StreamQuery}
use Rattle.event_source.specs.declared.query.Flaw.{Flaw}
use Rattle.event_source.specs.declared.query.Flaw.TheVariants.{Missing, Repeated, Unknown}
use Rattle.event_source.specs.declared.query.StreamQueryError.{StreamQueryError}
use Rattle.event_source.specs.declared.query.StreamQueryError.TheVariants.{NoMemory, Refused}
use Rattle.event_source.specs.declared.query.QueryParameter.{QueryParameter}
use Rattle.event_source.specs.declared.query.QueryParameter.TheVariants as parameter
use Rattle.event_source.specs.declared.query.QueryRefusal.{QueryRefusal}
use Rattle.event_source.specs.declared.query.TheConstants.{MAX_PING, MIN_PING}
use Rattle.spec_json.specs.Number.{number_in}
use Rattle.spec_push.specs.declared.data_types.DataTypes.{DataTypes}
use Rattle.spec_sockets.specs.Switches.{all_types, types_named}

-- ---- parameters

-- what stands behind the first `?` of a target (RFC 9112 section 3.2)
abbrev pub query_of : List ℕ → List ℕ
query_of [] = []
query_of (b ∷ target) = if b == 63 then target else query_of target

-- a name and its value, decoded; what isn't UTF-8 then becomes U+FFFD (URL Standard section 5.1)
abbrev pub decoded_pair : List ℕ × List ℕ → List ℕ × List ℕ
decoded_pair p = (utf8_lossy (decode p.0), utf8_lossy (decode p.1))

abbrev pub parameters_of : List ℕ → List (List ℕ × List ℕ)
parameters_of query = map decoded_pair (raw_pairs query)

abbrev pub value_if_called : List ℕ → List ℕ × List ℕ → List (List ℕ)
value_if_called name p = if bytes_eq p.0 name then p.1 ∷ [] else []

-- the values of the parameters of this name
abbrev pub values_called : List ℕ → List (List ℕ × List ℕ) → List (List ℕ)
values_called name parameters = flat_map (value_if_called name) parameters

-- the one value that there has to be
abbrev pub only_value : List (List ℕ) → Result (List ℕ) Flaw
only_value [] = Err Missing
only_value (v ∷ []) = Ok v
only_value (v ∷ (w ∷ vs)) = Err Repeated

-- ---- values

-- `*`, or names between commas; a name that is none of this server's is passed over
abbrev pub types_asked : List ℕ → DataTypes
types_asked value = if bytes_eq value (codes "*") then all_types else types_named (slice_split (λ b. b == 44) value)

abbrev pub close_asked : List ℕ → Option CloseAfter
close_asked value = if bytes_eq value (codes "state") then Some close_after.State else if bytes_eq value (codes "no") then Some close_after.Never else None

-- the interval of pings for so many seconds, which the server may bring into a range; 0 is for none
abbrev pub interval_for : ℕ → Option ℕ
interval_for n = if n == 0 then None else Some (max MIN_PING (min MAX_PING n))

abbrev pub ping_asked : List ℕ → Option (Option ℕ)
ping_asked value = option_map interval_for (number_in value)

-- ---- queries

abbrev pub refused_for : {X : Type 0} → QueryParameter → Flaw → Result X QueryRefusal
refused_for parameter flaw = Err (record { parameter = parameter; flaw = flaw })

abbrev pub known_or_refused : {X : Type 0} → QueryParameter → Option X → Result X QueryRefusal
known_or_refused parameter None = refused_for parameter Unknown
known_or_refused parameter (Some x) = Ok x

-- what f makes of the value of a parameter
abbrev pub asked_by_value : {X : Type 0} → QueryParameter → (List ℕ → Option X) → Result (List ℕ) Flaw → Result X QueryRefusal
asked_by_value parameter f (Err flaw) = refused_for parameter flaw
asked_by_value parameter f (Ok value) = known_or_refused parameter (f value)

module _ (parameters : List (List ℕ × List ℕ)) where
  abbrev pub types_parameter : Result DataTypes QueryRefusal
  types_parameter = asked_by_value parameter.Types (λ value. Some (types_asked value)) (only_value (values_called (codes "types") parameters))

  abbrev pub close_parameter : Result CloseAfter QueryRefusal
  close_parameter = asked_by_value parameter.CloseAfter close_asked (only_value (values_called (codes "closeafter") parameters))

  abbrev pub ping_parameter : Result (Option ℕ) QueryRefusal
  ping_parameter = asked_by_value parameter.Ping ping_asked (only_value (values_called (codes "ping") parameters))

-- the next parameter is looked at only where this one is good
abbrev pub where_good : {X Y : Type 0} → Result X QueryRefusal → (X → Result Y QueryRefusal) → Result Y QueryRefusal
where_good (Ok x) f = f x
where_good (Err refusal) f = Err refusal

abbrev pub asked_by_parameters : List (List ℕ × List ℕ) → Result StreamQuery QueryRefusal
asked_by_parameters ps = where_good (types_parameter ps) (λ types. where_good (close_parameter ps) (λ close. where_good (ping_parameter ps) (λ ping. Ok (record { types = types; close_after = close; ping = ping }))))

-- what a query asks for, or the first parameter that is refused
abbrev pub stream_asked : List ℕ → Result StreamQuery QueryRefusal
stream_asked query = asked_by_parameters (parameters_of query)

-- the query is refused so, unless memory ran out
abbrev pub RefusesQuery : StreamQueryError → Result StreamQuery QueryRefusal → Type 0
RefusesQuery (Refused refusal) asked = asked ≡ Err refusal
RefusesQuery NoMemory asked = ⊤
