-- How one message is answered.
use Rattle.std.specs.Prelude.{◌≡◌, ℕ, ◌<◌, length, if◌then◌else◌, ℤ, List, [], ◌∷◌, Bool, Option, Result, Ok, Err, Vec}
use Rattle.std.specs.declared.alloc.Global.{Global}
use Rattle.spec_batch.specs.Chain.{Shown}
use Rattle.spec_http.specs.Messages.{Message}
use Rattle.spec_http.specs.Responses.{IsStatus, Response}
use Rattle.spec_connection.specs.Routes as http
use Rattle.spec_connection.specs.Exchanges.{Begun, Fits, Told, Exchange}
use Rattle.spec_json.specs.Json.{text_of}
use Rattle.spec_site.specs.Configuration.{Site}
use Rattle.spec_json.specs.TreeData.{data_of}
use Rattle.spec_batch.specs.declared.desk.DeskError.{DeskError}
use Rattle.spec_batch.specs.declared.desk.Front.{Front}
use Rattle.request_reply.specs.declared.reply.RequestOutcome.{RequestOutcome}
use Rattle.conn_serve.specs.declared.route.Route.{Route}
use Rattle.conn_serve.specs.declared.route.Route.TheVariants.{Direct, Api}
use Rattle.http_edge.specs.Reading.{response_shown}

abbrev pub route_shown : Route → http.Route
route_shown (Direct response) = http.direct (response_shown response)
route_shown (Api user) = http.api user

-- the response that shows a reply
abbrev pub outcome_response : Bool → RequestOutcome → Response
outcome_response close reply = if reply.is_refusal then http.with_problem close (text_of (data_of reply.tree)) else http.success close (text_of (data_of reply.tree))

-- its user is one of the site, and its status is one that a response may have
abbrev pub IsRouteIn : Site → Route → Type 0
IsRouteIn site (Direct response) = IsStatus response.status
IsRouteIn site (Api user) = user < length site.users

-- ---- a message

-- the connection ends behind the response or doesn't
module _ (site : Site) (close : Bool) where
  abbrev pub AnswerHow : Shown → Shown → Exchange → Result (Vec ℕ Global) DeskError → Type 0
  AnswerHow u v exchange (Ok bytes) = Fits site close exchange × (bytes.items ≡ exchange.bytes) × (v ≡ u)
  AnswerHow u v exchange (Err e) = Begun site close exchange e u v

  -- what was made of a message, with what clock, fronts and desk were before and after
  pub record AnswersMessage (message : Message) (clock clock' : Option (ℕ → ℤ)) (fronts fronts' : List Front) (d d' : Shown) (r : Result (Vec ℕ Global) DeskError) : Type 0 where
    pub exchange : Exchange
    pub is : exchange.message ≡ message
    -- the desk behind the calls that it answered
    pub desk : Shown
    pub told : Told clock clock' fronts fronts' d desk (exchange ∷ [])
    pub how : AnswerHow desk d' exchange r
