-- What serving a connection does, whatever bytes come and whatever others do meanwhile: the main theorem's statement.
use Rattle.std.specs.Prelude.{◌≡◌, ◌⊎◌, ℕ, ℤ, ◌+◌, ◌<◌, ◌≤◌, List, [], ◌∷◌, ◌++◌, true, None, Option, length, take, ⊤}
use Rattle.std.specs.Io.KnownBytes.{Consumes, IsAtEnd}
use Rattle.spec_batch.specs.Chain.{Shown}
use Rattle.spec_http.specs.Messages.{IsUndecided, Message}
use Rattle.spec_http.specs.declared.limits.TheConstants.{PIECE}
use Rattle.spec_http.specs.Pipeline.{AllOpen, Ending, EndsAs, Reads, undecided, bad_head, close_asked, quota_spent}
use Rattle.spec_http.specs.Responses.{response_text}
use Rattle.spec_connection.specs.Routes.{bare}
use Rattle.spec_connection.specs.Exchanges.{AllFit, Begun, Fits, Told, Exchange, all_bytes, closes, messages_of}
use Rattle.io_edge.specs.Outside.{Grows, Rose, SinkShown, SourceShown}
use Rattle.spec_site.specs.Configuration.{Site}
use Rattle.spec_batch.specs.declared.desk.DeskError.{DeskError}
use Rattle.spec_batch.specs.declared.desk.DeskError.TheVariants as reason
use Rattle.spec_connection.specs.declared.served.ConnEnd.{ConnEnd}
use Rattle.spec_connection.specs.declared.served.ConnEnd.TheVariants as end
use Rattle.spec_connection.specs.declared.served.Served.{Served}

-- what is shown of all that a connection touches
pub record Setting : Type 0 where
  pub source : SourceShown
  pub sink : SinkShown
  pub clock : Option (ℕ → ℤ)
  pub desk : Shown

-- the bytes of the response to a head that is refused
abbrev pub refusal_text : ℕ → List ℕ
refusal_text status = response_text (bare status None true)

-- why a connection ends where the desk didn't answer all calls of a message
abbrev pub end_for : DeskError → ConnEnd
end_for reason.PassSpent = end.PassSpent
end_for reason.NoMemory = end.NoMemory

abbrev pub IsPrefixOf : List ℕ → List ℕ → Type 0
IsPrefixOf part all = (n : ℕ) × (n < length all) × (part ≡ take n all)

-- The source was asked for the last piece, of so many bytes at most, while behind the messages that had come whole by then stood neither a whole message nor a head that is refused.
pub record AskedLast (taken : List ℕ) (ms : List Message) : Type 0 where
  pub earlier : List ℕ
  pub last : List ℕ
  pub parts : taken ≡ earlier ++ last
  pub few : length last ≤ PIECE
  pub came : List Message
  pub later : List Message
  pub messages : ms ≡ came ++ later
  pub rest : List ℕ
  pub reads : Reads earlier came rest
  pub waits : IsUndecided rest

-- `exchanges` are the messages whose responses were written whole. `unwritten` is empty, or the one message behind them whose calls were made, maybe not all, and whose response
-- wasn't written whole. `tail` is what was written behind the responses, and `behind` what was taken from the source behind all these messages.
module _ (site : Site) (most : ℕ) (exchanges unwritten : List Exchange) (tail behind : List ℕ) where
  -- all messages were answered, the bytes end so, and this was written behind the responses
  pub record Whole (ending : Ending) (text : List ℕ) : Type 0 where
    pub ends : EndsAs most (length exchanges) (messages_of exchanges) behind ending
    pub all_written : unwritten ≡ []
    pub closing : tail ≡ text

  -- only a prefix of the next response was written, be it that to a message or that to a head that is refused
  pub data CutShort : Type 0 where
    response_cut : (t : Exchange) → unwritten ≡ t ∷ [] → Fits site (closes most (length exchanges) t.message) t → IsPrefixOf tail t.bytes → CutShort
    refusal_cut : (status : ℕ) → (text : List ℕ) → Whole (bad_head status) text → IsPrefixOf text (refusal_text status) → CutShort

  -- The calls of a message were made, maybe not all, and nothing of its response was written. In the state u the desk had answered them, and it was left in the state v.
  pub record IsUnanswered (e : DeskError) (u v : Shown) : Type 0 where
    pub exchange : Exchange
    pub is_unwritten : unwritten ≡ exchange ∷ []
    pub begun : Begun site (closes most (length exchanges) exchange.message) exchange e u v
    pub silent : tail ≡ []

  module _ (x x' : Setting) (u : Shown) where
    -- when each end comes, where the desk was in the state u behind the calls that it answered
    abbrev pub EndHow : ConnEnd → Type 0
    EndHow end.Closed = Whole undecided [] × (behind ≡ []) × IsAtEnd x'.source.left
    EndHow end.Truncated = Whole undecided [] × (0 < length behind) × IsAtEnd x'.source.left
    EndHow end.CloseAsked = Whole close_asked []
    EndHow (end.BadHead status) = Whole (bad_head status) (refusal_text status)
    EndHow end.Quota = Whole quota_spent []
    EndHow end.ReadFault = Whole undecided [] × Rose x.source.faults x'.source.faults
    EndHow end.WriteFault = CutShort × AllOpen (messages_of exchanges) × Rose x.sink.faults x'.sink.faults
    EndHow end.PassSpent = IsUnanswered reason.PassSpent u x'.desk × AllOpen (messages_of exchanges)
    EndHow end.NoMemory = (IsUnanswered reason.NoMemory u x'.desk ⊎ ((unwritten ≡ []) × (tail ≡ []) × (x'.desk ≡ u))) × AllOpen (messages_of exchanges)

-- what the end leaves of the desk behind the calls that it answered: nothing else, but where the desk answered no more
abbrev pub Rests : ConnEnd → Shown → Shown → Type 0
Rests end.PassSpent u v = ⊤
Rests end.NoMemory u v = ⊤
Rests _ u v = v ≡ u

-- A connection of at most `most` messages was served so, from the one setting to the other.
pub record Serves (site : Site) (most : ℕ) (x x' : Setting) (served : Served) : Type 0 where
  pub taken : List ℕ
  pub exchanges : List Exchange
  pub unwritten : List Exchange
  pub tail : List ℕ
  pub behind : List ℕ
  pub consumed : Consumes x.source.left x'.source.left taken
  pub source_later : x.source.faults ≤ x'.source.faults
  pub sink_later : x.sink.faults ≤ x'.sink.faults
  pub count : length exchanges ≡ served.requests
  pub room : served.requests + length unwritten ≤ most
  pub in_order : Reads taken (messages_of (exchanges ++ unwritten)) behind
  -- more was asked of the source only while what stood behind the messages that had come was undecided
  pub asked : (taken ≡ []) ⊎ AskedLast taken (messages_of (exchanges ++ unwritten))
  pub fit : AllFit site most 0 exchanges
  -- the desk behind all calls that it answered
  pub desk : Shown
  pub told : Told x.clock x'.clock [] served.fronts.items x.desk desk (exchanges ++ unwritten)
  pub rests : Rests served.end desk x'.desk
  pub written : Grows x.sink.holds x'.sink.holds (all_bytes exchanges ++ tail)
  pub how : EndHow site most exchanges unwritten tail behind x x' desk served.end
