-- What a message asks for, by its token, its path and its method (RFC 8620 sections 1.7, 2, 2.2 and 3.1, RFC 9110 section 15.5).
use Rattle.std.specs.Prelude.{ℕ, List, Bool, true, false, Option, Some, None, [], option_and_then, codes, if◌then◌else◌}
use Rattle.std.specs.Str.{bytes_eq}
use Rattle.spec_http.specs.Messages.{Message}
use Rattle.spec_http.specs.Responses.{Response}
use Rattle.spec_json.specs.Json.{text_of}
use Rattle.spec_site.specs.Configuration.{Site, user_at, user_of_token}
use Rattle.spec_site.specs.SessionObject.{session_object}

-- a response without a body
abbrev pub bare : ℕ → Option (List ℕ) → Bool → Response
bare status allow close = record { status = status; problem = false; allow = allow; close = close; body = [] }

abbrev pub success : Bool → List ℕ → Response
success close body = record { status = 200; problem = false; allow = None; close = close; body = body }

-- a problem object (RFC 7807, RFC 8620 section 3.6.1)
abbrev pub with_problem : Bool → List ℕ → Response
with_problem close body = record { status = 400; problem = true; allow = None; close = close; body = body }

pub data Route : Type 0 where
  -- to a response that no call has a part in
  direct : Response → Route
  -- to a JMAP request of the user of a number
  api : ℕ → Route

abbrev pub only : List ℕ → List ℕ → Bool → Route → Route
only method given close route = if bytes_eq given method then route else direct (bare 405 (Some method) close)

module _ (site : Site) (close : Bool) where
  abbrev pub session_response : ℕ → Response
  session_response user = success close (text_of (session_object site (user_at site user)))

  abbrev pub route_of_user : Message → Option ℕ → Route
  route_of_user m None = direct (bare 401 None close)
  route_of_user m (Some user) =
      if bytes_eq m.path (codes "/.well-known/jmap") then only (codes "GET") m.method close (direct (session_response user))
      else if bytes_eq m.path (codes "/jmap") then only (codes "POST") m.method close (api user)
      else direct (bare 404 None close)

  -- the route of a message, where the connection ends behind its response or doesn't
  abbrev pub route : Message → Route
  route m = route_of_user m (option_and_then (user_of_token site) m.token)
