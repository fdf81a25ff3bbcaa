-- A message of a connection and what came of it.
use Rattle.std.specs.Prelude.{◌≡◌, ℕ, ℤ, suc, ◌+◌, ◌≤◌, ◌==◌, ◌||◌, List, [], ◌∷◌, Bool, Option, flat_map, length, map, ⊤}
use Rattle.spec_batch.specs.Asked.{Asked, asked, refused}
use Rattle.spec_batch.specs.Chain.{Made, Shown}
use Rattle.spec_json.specs.Data.{Data}
use Rattle.spec_time.specs.Moments.{clamped}
use Rattle.spec_batch.specs.Reply.{BeginsReply, Replies, asked_in}
use Rattle.spec_http.specs.Messages.{Message}
use Rattle.spec_http.specs.Responses.{Response, response_text}
use Rattle.spec_connection.specs.Answered.{AnsweredInOrder}
use Rattle.spec_connection.specs.Routes.{Route, api, direct, route, success, with_problem}
use Rattle.spec_json.specs.Json.{text_of}
use Rattle.spec_site.specs.Configuration.{Site, user_at}
use Rattle.spec_batch.specs.declared.desk.DeskError.{DeskError}
use Rattle.spec_batch.specs.declared.desk.DeskError.TheVariants.{NoMemory}
use Rattle.spec_batch.specs.declared.desk.Front.{Front}

-- a message, the moments that the clock gave for it, the calls that the desk answered for it, and the bytes of its response
pub record Exchange : Type 0 where
  pub message : Message
  pub moments : List ℤ
  pub made : List Made
  pub bytes : List ℕ

abbrev pub messages_of : List Exchange → List Message
messages_of ts = map (λ t. t.message) ts

abbrev pub all_made : List Exchange → List Made
all_made ts = flat_map (λ t. t.made) ts

abbrev pub all_moments : List Exchange → List ℤ
all_moments ts = flat_map (λ t. t.moments) ts

abbrev pub all_bytes : List Exchange → List ℕ
all_bytes ts = flat_map (λ t. t.bytes) ts

-- the connection ends behind the response to a message that asks to close, or is the last of so many
abbrev pub closes : ℕ → ℕ → Message → Bool
closes most before m = m.close || (before + 1 == most)

abbrev pub api_response : Bool → Asked → Data → Response
api_response close (asked r) reply = success close (text_of reply)
api_response close (refused e) reply = with_problem close (text_of reply)

-- the most moments that a message of this route takes
abbrev pub moments_for : Route → ℕ
moments_for (direct response) = 0
moments_for (api user) = 1

module _ (site : Site) (close : Bool) (t : Exchange) where
  -- a response that no call has a part in; the clock wasn't read
  pub record FitsDirect : Type 0 where
    pub response : Response
    pub routed : route site close t.message ≡ direct response
    pub unread : t.moments ≡ []
    pub uncalled : t.made ≡ []
    pub shows : t.bytes ≡ response_text response

  -- the clock was read once, and the response shows the reply to the body, a JMAP request of this user, at that moment
  pub record FitsApi : Type 0 where
    pub user : ℕ
    pub routed : route site close t.message ≡ api user
    pub moment : ℤ
    pub read : t.moments ≡ moment ∷ []
    pub reply : Data
    pub replied : Replies (user_at site user) (clamped moment) (asked_in t.message.body) t.made reply
    pub shows : t.bytes ≡ response_text (api_response close (asked_in t.message.body) reply)

  -- the response is what the message asks for
  pub data Fits : Type 0 where
    at_once : FitsDirect → Fits
    by_calls : FitsApi → Fits

  -- No response was written, and the desk answered no more calls for this reason. In the state u it had answered the first of the message's calls,
  -- and it was left in the state v.
  module _ (e : DeskError) (u v : Shown) where
    -- the first calls of the message were answered, at the clock's moment; the desk wasn't asked for more, or for the call that the next invocation means
    pub record BegunApi : Type 0 where
      pub user : ℕ
      pub routed : route site close t.message ≡ api user
      pub moment : ℤ
      pub read : t.moments ≡ moment ∷ []
      pub begins : BeginsReply (user_at site user) (clamped moment) (asked_in t.message.body) t.made e u v

    -- For a message that needs no moment the clock wasn't read.
    pub data Begun : Type 0 where
      uncalled : e ≡ NoMemory → length t.moments ≤ moments_for (route site close t.message) → t.made ≡ [] → v ≡ u → Begun
      called : BegunApi → Begun

-- each response is what its message asks for, where so many messages went before
abbrev pub AllFit : Site → ℕ → ℕ → List Exchange → Type 0
AllFit site most before [] = ⊤
AllFit site most before (t ∷ ts) = Fits site (closes most before t.message) t × AllFit site most (suc before) ts

-- what clock, fronts and desk were before and after these exchanges
abbrev pub Told : Option (ℕ → ℤ) → Option (ℕ → ℤ) → List Front → List Front → Shown → Shown → List Exchange → Type 0
Told clock clock' fronts fronts' d d' ts = AnsweredInOrder clock clock' fronts fronts' d d' (all_moments ts) (all_made ts) (length ts)
